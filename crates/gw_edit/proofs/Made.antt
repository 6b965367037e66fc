-- An edit is a splice of the version's statements, or leaves them.
use Rattle.std.proofs.Common.{◌≡◌, ◌⊎◌, ℕ, ◌+◌, ◌≤◌, ◌==◌, Bool, true, false, cond, List, [], ◌∷◌, ◌++◌, Option, Some, None, Result, Ok, Err, option_to_list, length, min, nat_lt, nat_le, inl, inr, refl, ap, sym, ◌∙◌, arith, suc, ◌<◌}
use Rattle.std.proofs.lemmas.Bool.{ltb-false, le-leb, eqb-true, or_parts}
use Rattle.gw_meaning.specs.declared.item.Item.TheVariants as items
use Rattle.gw_meaning.specs.declared.statement.Replication.{Replication}
use Rattle.gw_meaning.specs.declared.statement.Statement.{Statement}
use Rattle.gw_meaning.specs.declared.statement.Numbered.{Numbered}
use Rattle.gw_meaning.specs.Listing.{Listing, seed_at, seed_in, nth, defines}
use Rattle.gw_lines.specs.declared.fault.LineFault.{LineFault}
use Rattle.gw_lines.specs.Edits.{edit_of}
use Rattle.gw_lines.specs.Reading.{◌>>=◌}
use Rattle.gw_model.specs.declared.fault.ModelFault.{ModelFault}
use Rattle.gw_model.specs.Faults.{fault_of, is_outside}
use Rattle.gw_model.specs.Spliced.{with_splice}
use Rattle.gw_meaning.specs.declared.edit.Edit.{Edit}
use Rattle.gw_meaning.specs.declared.edit.Edit.TheVariants as edits
use Rattle.gw_touch.specs.Touching.{is_capacity, storage_in, storage_place, touch_of, touched_in, everywhere, seed_touching, is_touched, lines_before, splice_probes, same_seed, capacity_probes}
use Rattle.gw_edit.specs.declared.fault.EditFault.{EditFault}
use Rattle.gw_lines.specs.Printed.{storage_of}
use Rattle.gw_edit.specs.Applied.{applied, checked, unless_faulty, or_refusal, reseeded, without_number, has_replication, capacity_at}
use Rattle.gw_edit.specs.InPositions.{front_of, deleted_of, inserted_of, front_at, line_there}
use Rattle.gw_edit.proofs.Seeds.{seed_in_front, seed_reseeded, seed_without}
use Rattle.gw_touch.proofs.Splits.{place_in}

-- the parts of an edit that was made
unless_gives : (o : Option ModelFault) (v u : Listing) → unless_faulty o v ≡ Ok u → v ≡ u
unless_gives None v u h = cc
unless_gives (Some fault) v u h = absurd cc

pub checked_gives : (v u : Listing) → checked v ≡ Ok u → v ≡ u
unfolding checked
checked_gives v u h = unless_gives (fault_of v) v u h

-- what was made of a text is made of the statement that was read
pub of_read : (r : Result Statement LineFault) (f : Statement → Result Listing EditFault) (u : Listing) → (or_refusal r >>= f) ≡ Ok u
    → (s : Statement) × (r ≡ Ok s) × (f s ≡ Ok u)
of_read (Ok s) f u h = (s, refl, h)
of_read (Err fault) f u h = absurd cc

-- where a refusal stands for one side of a test, the other side was taken
pub other_side : {X : Type 0} (b : Bool) (fault : EditFault) (r : Result X EditFault) (u : X) → cond b (Err fault) r ≡ Ok u → (b ≡ false) × (r ≡ Ok u)
other_side true fault r u h = absurd cc
other_side false fault r u h = (refl, h)

pub one_side : {X : Type 0} (b : Bool) (fault : EditFault) (r : Result X EditFault) (u : X) → cond b r (Err fault) ≡ Ok u → r ≡ Ok u
one_side true fault r u h = h
one_side false fault r u h = absurd cc

-- the seeds of a replication that are the same are one
pub one_seed : (o : Option ℕ) (a b : ℕ) → o ≡ Some a → o ≡ Some b → b ≡ a
one_seed o a b was is = cc

-- where the seed is not touched, it is the same one
seed_same : (a b : ℕ) (o p : Option ℕ) → o ≡ Some a → p ≡ Some b → same_seed o p ≡ true → b ≡ a
seed_same a b None None was is h = absurd cc
seed_same a b None (Some y) was is h = absurd cc
seed_same a b (Some x) None was is h = absurd cc
seed_same a b (Some x) (Some y) was is h = let same : x ≡ y = eqb-true x y h in cc

seed_untouched : (same : Bool) (number r : ℕ) → (number == r) ≡ true →
    is_touched (touched_in (cond same (everywhere []) (record { probes = []; reseeded = Some number })) r) items.Seed ≡ false → same ≡ true
seed_untouched true number r here h = refl
seed_untouched false number r here h = absurd (let touched : true ≡ false = rw here at h in cc)

reseeded_alike : (t u : Listing) (number seed r a b : ℕ) → u.replications ≡ reseeded number seed t.replications → seed_at t r ≡ Some a → seed_at u r ≡ Some b →
    is_touched (touched_in (seed_touching number (seed_at t number) (seed_at u number)) r) items.Seed ≡ false → b ≡ a
reseeded_alike t u number seed r a b made was is h = go (number == r) refl where
  go : (here : Bool) → (number == r) ≡ here → b ≡ a
  go true here =
      let at : number ≡ r = eqb-true number r here in
      seed_same a b (seed_at t number) (seed_at u number) (ap (λ n. seed_at t n) at ∙ was) (ap (λ n. seed_at u n) at ∙ is)
      (seed_untouched (same_seed (seed_at t number) (seed_at u number)) number r here h)
  go false apart =
      let kept : seed_at u r ≡ seed_at t r = ap (λ rs. seed_in rs r) made ∙ seed_reseeded t.replications number seed r apart in
      one_seed (seed_at t r) a b was (sym kept ∙ is)

-- the horizon alone is another
within_both : (m n time : ℕ) → nat_lt (min m n) time ≡ false → nat_le time n ≡ nat_le time m
within_both m n time h =
    let least : time ≤ min m n = ltb-false (min m n) time h in
    le-leb time n (omega arith) ∙ sym (le-leb time m (omega arith))

-- what is deleted at a place, and what stands where a statement was inserted
abbrev pub deleted_at : List Numbered → ℕ → Bool → Option Numbered
deleted_at lines place deletes = cond deletes (nth lines place) None

abbrev pub inserted_at : List Numbered → ℕ → Option Statement → Option Numbered
inserted_at lines place None = None
inserted_at lines place (Some s) = nth lines place

-- an edit that is a splice
pub record IsSpliced (t : Listing) (e : Edit) (u : Listing) : Type 0 where
  pub place : ℕ
  pub deletes : Bool
  pub inserts : Option Statement
  pub least : 1 ≤ place
  pub last : place ≤ length t.lines + 1
  pub there : deletes ≡ true → place ≤ length t.lines
  pub made : with_splice t place deletes inserts ≡ u
  pub front : front_of t e ≡ lines_before t place
  pub deleted : deleted_of t e ≡ option_to_list (deleted_at t.lines place deletes)
  pub inserted : inserted_of t e u ≡ option_to_list (inserted_at u.lines place inserts)
  pub touch : (r : ℕ) → touch_of t e u r ≡ splice_probes t place (deleted_at t.lines place deletes) (inserted_at u.lines place inserts)

-- an edit that leaves the statements: where the seed is not touched it is the same one, and so are the clock steps
pub record IsLeft (t : Listing) (e : Edit) (u : Listing) : Type 0 where
  pub lines : u.lines ≡ t.lines
  pub limit : u.limit ≡ t.limit
  pub front : front_of t e ≡ t.lines
  pub deleted : deleted_of t e ≡ []
  pub inserted : inserted_of t e u ≡ []
  pub seeds : (r a b : ℕ) → seed_at t r ≡ Some a → seed_at u r ≡ Some b → is_touched (touch_of t e u r) items.Seed ≡ false → b ≡ a
  pub clock : (r time : ℕ) → is_touched (touch_of t e u r) (items.Within time) ≡ false → nat_le time u.horizon ≡ nat_le time t.horizon

-- other replications
others : (t : Listing) (e : Edit) (u v : Listing) → v ≡ u → v.lines ≡ t.lines → v.limit ≡ t.limit → v.horizon ≡ t.horizon → front_of t e ≡ t.lines →
    deleted_of t e ≡ [] → inserted_of t e u ≡ [] →
    ((r a b : ℕ) → seed_at t r ≡ Some a → seed_at u r ≡ Some b → is_touched (touch_of t e u r) items.Seed ≡ false → b ≡ a) → IsLeft t e u
others t e u v same lines limit horizon front deleted inserted seeds = record {
  lines = ap (λ (x : Listing). x.lines) (sym same) ∙ lines;
  limit = ap (λ (x : Listing). x.limit) (sym same) ∙ limit;
  front = front;
  deleted = deleted;
  inserted = inserted;
  seeds = seeds;
  clock = λ r time h. ap (λ n. nat_le time n) (ap (λ (x : Listing). x.horizon) (sym same) ∙ horizon);
}

-- the storage of a name stands among the statements
pub storage_found : (name : List ℕ) (n : ℕ) (lines : List Numbered) (place : ℕ) →
    storage_in name n lines ≡ Some place → (n ≤ place) × (place < n + length lines)
storage_found name n [] place h = absurd cc
storage_found name n (line ∷ lines) place h = go (is_capacity (defines name line)) h (storage_found name (n + 1) lines place) where
  go : (b : Bool) → cond b (Some n) (storage_in name (n + 1) lines) ≡ Some place →
      (storage_in name (n + 1) lines ≡ Some place → (n + 1 ≤ place) × (place < n + 1 + length lines)) → (n ≤ place) × (place < n + suc (length lines))
  go true k rest = let same : n ≡ place = cc in (omega (arith, same), omega (arith, same))
  go false k rest = let within = rest k in let low = within.0 in let high = within.1 in (omega (arith, low), omega (arith, high))

-- another capacity
capacity_by : (t : Listing) (name : List ℕ) (amount : ℕ) (u : Listing) (place : Option ℕ) → storage_place name t ≡ place →
    capacity_at t name amount place ≡ Ok u → IsSpliced t (edits.Capacity name amount) u
capacity_by t name amount u None is made = absurd cc
capacity_by t name amount u (Some place) is made =
    let side = other_side (is_outside 1 1000000000 amount) _ _ u made in
    let within = storage_found name 1 t.lines place is in
    let low = within.0 in
    let high = within.1 in
    record {
      place = place;
      deletes = true;
      inserts = Some (storage_of name amount);
      least = low;
      last = omega (arith, high);
      there = λ h. omega (arith, high);
      made = checked_gives (with_splice t place true (Some (storage_of name amount))) u side.1;
      front = ap (front_at t) is;
      deleted = ap (line_there t) is;
      inserted = ap (line_there u) is;
      touch = λ r. ap (λ o. capacity_probes t o u) is;
    }

pub made_by : (t : Listing) (e : Edit) (u : Listing) → applied t e ≡ Ok u → IsSpliced t e u ⊎ IsLeft t e u
made_by t (edits.Insert place text) u made =
    let side = other_side (is_outside 1 (length t.lines + 1) place) _ _ u made in
    let read = of_read (edit_of text) (λ s. checked (with_splice t place false (Some s))) u side.1 in
    let within = place_in (length t.lines + 1) place side.0 in
    inl (record {
      place = place;
      deletes = false;
      inserts = Some read.0;
      least = within.0;
      last = within.1;
      there = λ h. absurd cc;
      made = checked_gives (with_splice t place false (Some read.0)) u read.2;
      front = refl;
      deleted = refl;
      inserted = refl;
      touch = λ r. refl;
    })
made_by t (edits.Delete place) u made =
    let side = other_side (is_outside 1 (length t.lines) place) _ _ u made in
    let within = place_in (length t.lines) place side.0 in
    inl (record {
      place = place;
      deletes = true;
      inserts = None;
      least = within.0;
      last = (let w = within.1 in omega (arith, w));
      there = λ h. within.1;
      made = checked_gives (with_splice t place true None) u side.1;
      front = refl;
      deleted = refl;
      inserted = refl;
      touch = λ r. refl;
    })
made_by t (edits.Change place text) u made =
    let side = other_side (is_outside 1 (length t.lines) place) _ _ u made in
    let read = of_read (edit_of text) (λ s. checked (with_splice t place true (Some s))) u side.1 in
    let within = place_in (length t.lines) place side.0 in
    inl (record {
      place = place;
      deletes = true;
      inserts = Some read.0;
      least = within.0;
      last = (let w = within.1 in omega (arith, w));
      there = λ h. within.1;
      made = checked_gives (with_splice t place true (Some read.0)) u read.2;
      front = refl;
      deleted = refl;
      inserted = refl;
      touch = λ r. refl;
    })
made_by t (edits.Capacity name amount) u made = inl (capacity_by t name amount u (storage_place name t) refl made)
made_by t (edits.Seed number seed) u made =
    let v : Listing = record t { replications = reseeded number seed t.replications } in
    let same : v ≡ u = checked_gives v u (one_side (has_replication t number) _ (checked v) u made) in
    inr (others t (edits.Seed number seed) u v same refl refl refl refl refl refl
    (λ r a b was is h. reseeded_alike t u number seed r a b (ap (λ (x : Listing). x.replications) (sym same)) was is h))
made_by t (edits.Replicate number seed) u made =
    let more : List Replication = record { number = number; seed = seed } ∷ [] in
    let v : Listing = record t { replications = t.replications ++ more } in
    let same : v ≡ u = checked_gives v u ((other_side (has_replication t number) _ (checked v) u made).1) in
    inr (others t (edits.Replicate number seed) u v same refl refl refl refl refl refl
    (λ r a b was is h. one_seed (seed_at v r) a b (seed_in_front t.replications more r a was) (ap (λ (x : Listing). seed_at x r) same ∙ is)))
made_by t (edits.Drop number) u made =
    let v : Listing = record t { replications = without_number number t.replications } in
    let same : v ≡ u = checked_gives v u (one_side (has_replication t number) _ (checked v) u made) in
    inr (others t (edits.Drop number) u v same refl refl refl refl refl refl
    (λ r a b was is h. seed_without t.replications number r a b was (ap (λ (x : Listing). seed_at x r) same ∙ is)))
made_by t (edits.Horizon time) u made =
    let v : Listing = record t { horizon = time } in
    let same : v ≡ u = checked_gives v u made in
    inr (record {
      lines = ap (λ (x : Listing). x.lines) (sym same);
      limit = ap (λ (x : Listing). x.limit) (sym same);
      front = refl;
      deleted = refl;
      inserted = refl;
      seeds = λ r a b was is h. one_seed (seed_at t r) a b was (ap (λ (x : Listing). seed_at x r) same ∙ is);
      clock = λ r moment h. within_both t.horizon u.horizon moment ((or_parts _ _ h).0);
    })
