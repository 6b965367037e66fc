-- What is kept of a recorded run after an edit is the run of the edited version.
use Rattle.std.proofs.Common.{◌≡◌, ℕ, ◌<◌, ◌≤◌, Bool, true, false, List, [], ◌∷◌, ◌||◌, Option, Some, None, Ok, refl, sym, ap, ⊎_elim, arith}
use mathlib.Core.Bool.{true≢false}
use Rattle.std.specs.List.{list_any, AllByRecursion}
use Rattle.std.proofs.lemmas.List.Elements.{All-from_recursion}
use Rattle.gw_meaning.specs.declared.item.Item.{Item}
use Rattle.gw_meaning.specs.Listing.{Listing, seed_at}
use Rattle.gw_meaning.specs.Numbers.{AreNumbered}
use Rattle.gw_meaning.specs.Reads.{first_reading, reads}
use Rattle.gw_frame.specs.Alike.{SameAnswer}
use Rattle.gw_record.specs.Tape.{Tape, Records}
use Rattle.gw_record.specs.Carrying.{Carries}
use Rattle.gw_uses.proofs.FirstLaws.{IsFirstReading, first_is}
use Rattle.gw_meaning.specs.declared.edit.Edit.{Edit}
use Rattle.gw_touch.specs.declared.touch.Probe.{Probe}
use Rattle.gw_touch.specs.Touching.{touch_of, is_touched}
use Rattle.gw_touch.specs.Touched.{touched_step, IsKeptOf}
use Rattle.gw_edit.specs.Applied.{applied}
use Rattle.gw_edit.specs.Rebasing.{IsRebased}
use Rattle.gw_edit.proofs.Made.{IsSpliced, IsLeft, made_by}
use Rattle.gw_edit.proofs.Untouching.{untouched_alike}

-- no edit changes the step limit
limit_stays : (t : Listing) (e : Edit) (u : Listing) → applied t e ≡ Ok u → u.limit ≡ t.limit
limit_stays t e u made = ⊎_elim (λ (s : IsSpliced t e u). ap (λ (x : Listing). x.limit) (sym s.made)) (λ (l : IsLeft t e u). l.limit) (made_by t e u made)

pub none_touched : (p : Item → Bool) (P : Item → Type 0) → ((i : Item) → p i ≡ false → P i) → (is : List Item) → list_any p is ≡ false → AllByRecursion P is
none_touched p P f [] h = tt
none_touched p P f (i ∷ is) h = go (p i) refl h (none_touched p P f is) where
  go : (b : Bool) → p i ≡ b → (b || list_any p is) ≡ false → (list_any p is ≡ false → AllByRecursion P is) → P i × AllByRecursion P is
  go true e h rest = absurd (true≢false h)
  go false e h rest = (f i e, rest h)

-- the steps that are kept of a run read nothing touched
unread : (touch : List Probe) (t : Listing) (seed : ℕ) (r : Tape) (n : ℕ) → n ≤ r.moment → IsKeptOf t seed r (touched_step touch t seed r) n → (j : ℕ) → j < n →
    list_any (is_touched touch) (reads t seed j) ≡ false
unread touch t seed r n low kept j less = go (first_reading (is_touched touch) t seed r.moment) (first_is (is_touched touch) t seed r.moment) kept where
  go : (o : Option ℕ) → IsFirstReading (is_touched touch) t seed r.moment o → IsKeptOf t seed r o n → list_any (is_touched touch) (reads t seed j) ≡ false
  go None h k = h j (omega (arith, less, low))
  go (Some m) h k = let b = k.below in h.2 j (omega (arith, less, b))

-- no run grows by going back
shorter : (touch : List Probe) (t : Listing) (seed : ℕ) (r : Tape) (n : ℕ) → IsKeptOf t seed r (touched_step touch t seed r) n → n ≤ r.moment
shorter touch t seed r n kept = go (touched_step touch t seed r) kept where
  go : (o : Option ℕ) → IsKeptOf t seed r o n → n ≤ r.moment
  go None k = omega (arith, k)
  go (Some m) k = k.kept.below

-- a run of the version before that went back to what is kept of it, and is still of that version
pub record WentBack (t : Listing) (e : Edit) (u : Listing) (n : ℕ) (r s : Tape) : Type 0 where
  pub records : (a : ℕ) → Records t a r → Records t a s
  pub kept : (a : ℕ) → Records t a r → IsKeptOf t a r (touched_step (touch_of t e u n) t a r) s.moment
  pub every : s.every ≡ r.every
  pub start : s.start ≡ r.start

module _ (t : Listing) (e : Edit) (u : Listing) (n : ℕ) (r s : Tape) (numbered : AreNumbered t.lines) (carries : Carries s) (back : WentBack t e u n r s) where
  carried_over : (a b : ℕ) → applied t e ≡ Ok u → seed_at t n ≡ Some a → seed_at u n ≡ Some b → Records t a r → Records u b s
  carried_over a b made was is h =
      let low = shorter (touch_of t e u n) t a r s.moment (back.kept a h) in
      let unread_at = unread (touch_of t e u n) t a r s.moment low (back.kept a h) in
      let alike = none_touched (is_touched (touch_of t e u n)) (SameAnswer t a u b) (untouched_alike t e u n a b numbered made was is) in
      carries t a u b (back.records a h) (limit_stays t e u made)
      (λ j less. All-from_recursion (SameAnswer t a u b) (reads t a j) (alike (reads t a j) (unread_at j less)))

  pub is_rebased : IsRebased t e u n r s
  is_rebased = record { records = carried_over; kept = back.kept; every = back.every; start = back.start }
