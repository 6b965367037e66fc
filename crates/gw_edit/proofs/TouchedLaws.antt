-- What an edit touches, the version before and the edited version answer in two ways, but for what is named.
use Rattle.std.proofs.Common.{◌≡◌, ℕ, ◌+◌, ◌≤◌, true, false, cond, Bool, List, ◌∷◌, [], ◌++◌, Option, Some, None, Ok, length, refl, sym, subst, ◌∙◌, arith}
use Rattle.gw_meaning.specs.declared.statement.Replication.{Replication}
use Rattle.gw_meaning.specs.Listing.{Listing}
use Rattle.gw_lines.specs.Edits.{edit_of}
use Rattle.gw_lines.specs.Printed.{storage_of}
use Rattle.gw_model.specs.declared.fault.ModelFault.{ModelFault}
use Rattle.gw_model.specs.declared.fault.ModelFault.TheVariants.{BadHorizon, BadSeed, TooMany}
use Rattle.gw_model.specs.Faults.{fault_of, has_bad_replication, is_bad_horizon, is_outside, is_too_long, label_fault_of}
use Rattle.gw_model.specs.Spliced.{with_splice}
use Rattle.gw_model.specs.Well.{Well}
use Rattle.gw_model.proofs.Wellness.{well_left}
use Rattle.gw_meaning.specs.declared.edit.Edit.{Edit}
use Rattle.gw_meaning.specs.declared.edit.Edit.TheVariants as edits
use Rattle.gw_touch.specs.TouchedAlike.{IsMade}
use Rattle.gw_touch.specs.Touching.{storage_place}
use Rattle.gw_touch.proofs.AlikeLaws.{touches_what_differs}
use Rattle.gw_touch.proofs.Splits.{place_in}
use Rattle.gw_touch.proofs.TouchesLaws.{place_found}
use Rattle.gw_edit.specs.Applied.{applied, capacity_at, checked, has_replication, reseeded, unless_faulty, without_number}
use Rattle.gw_edit.specs.Untouched.{TouchedDiffers}
use Rattle.gw_edit.proofs.Made.{checked_gives, of_read, one_side, other_side, storage_found}

-- ---- a version without a fault is well-formed

labels_left : (long bad limits : Bool) (o : Option ModelFault) → cond long (Some TooMany) (cond bad (Some BadSeed) (cond limits (Some BadHorizon) o)) ≡ None →
    cond long (Some TooMany) (cond bad (Some BadSeed) (cond limits (Some BadHorizon) o)) ≡ o
labels_left true bad limits o h = absurd cc
labels_left false true limits o h = absurd cc
labels_left false false true o h = absurd cc
labels_left false false false o h = refl

well : (t : Listing) → fault_of t ≡ None → Well t
well t sound =
    let left : fault_of t ≡ label_fault_of t.lines =
    labels_left (is_too_long t.lines t.replications) (has_bad_replication t.replications) (is_bad_horizon t.horizon t.limit) (label_fault_of t.lines) sound in
    well_left t left (sym left ∙ sound)

-- so is one that was made
no_fault : (o : Option ModelFault) (v u : Listing) → unless_faulty o v ≡ Ok u → (o ≡ None) × (v ≡ u)
no_fault None v u h = (refl, cc)
no_fault (Some fault) v u h = absurd cc

made_well : (v u : Listing) → checked v ≡ Ok u → Well u
unfolding checked
made_well v u h = let parts = no_fault (fault_of v) v u h in subst Well parts.1 (well v parts.0)

-- ---- what an accepted edit makes

-- the place of a storage, and the version with another capacity there
capacity_made : (t : Listing) (name : List ℕ) (amount : ℕ) (u : Listing) (o : Option ℕ) → storage_place name t ≡ o → capacity_at t name amount o ≡ Ok u →
    IsMade t (edits.Capacity name amount) u × Well u
capacity_made t name amount u None at made = absurd cc
capacity_made t name amount u (Some place) at made =
    let side = other_side (is_outside 1 1000000000 amount) _ _ u made in
    let within = storage_found name 1 t.lines place at in
    let low : 1 ≤ place = within.0 in
    let high = within.1 in
    let v = with_splice t place true (Some (storage_of name amount)) in (
      (place, storage_of name amount, low, omega (arith, high), sym (checked_gives v u side.1), place_found t name place at, refl, refl),
      made_well v u side.1,
    )

is_made : (t : Listing) (e : Edit) (u : Listing) → applied t e ≡ Ok u → IsMade t e u × Well u
is_made t (edits.Insert place text) u made =
    let side = other_side (is_outside 1 (length t.lines + 1) place) _ _ u made in
    let read = of_read (edit_of text) (λ s. checked (with_splice t place false (Some s))) u side.1 in
    let within = place_in (length t.lines + 1) place side.0 in
    let v = with_splice t place false (Some read.0) in
    ((read.0, within.0, within.1, sym (checked_gives v u read.2)), made_well v u read.2)
is_made t (edits.Delete place) u made =
    let side = other_side (is_outside 1 (length t.lines) place) _ _ u made in
    let within = place_in (length t.lines) place side.0 in
    let v = with_splice t place true None in
    ((within.0, within.1, sym (checked_gives v u side.1)), made_well v u side.1)
is_made t (edits.Change place text) u made =
    let side = other_side (is_outside 1 (length t.lines) place) _ _ u made in
    let read = of_read (edit_of text) (λ s. checked (with_splice t place true (Some s))) u side.1 in
    let within = place_in (length t.lines) place side.0 in
    let v = with_splice t place true (Some read.0) in
    ((read.0, within.0, within.1, sym (checked_gives v u read.2)), made_well v u read.2)
is_made t (edits.Capacity name amount) u made = capacity_made t name amount u (storage_place name t) refl made
is_made t (edits.Seed number seed) u made =
    let v : Listing = record t { replications = reseeded number seed t.replications } in
    (tt, made_well v u (one_side (has_replication t number) _ (checked v) u made))
is_made t (edits.Replicate number seed) u made =
    let more : List Replication = record { number = number; seed = seed } ∷ [] in
    let v : Listing = record t { replications = t.replications ++ more } in
    (tt, made_well v u ((other_side (has_replication t number) _ (checked v) u made).1))
is_made t (edits.Drop number) u made =
    let v : Listing = record t { replications = without_number number t.replications } in
    (tt, made_well v u (one_side (has_replication t number) _ (checked v) u made))
is_made t (edits.Horizon time) u made =
    let v : Listing = record t { horizon = time } in (tt, made_well v u made)

pub touched_differs : TouchedDiffers
touched_differs t e u r a b numbered sound made was is i touched alike =
    let facts = is_made t e u made in
    touches_what_differs t e u r a b numbered (well t sound) facts.1 facts.0 was is i touched alike
