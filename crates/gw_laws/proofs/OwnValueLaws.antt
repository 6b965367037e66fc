-- In a step no priority and no mark time change but those of the active transaction.
use Rattle.std.proofs.Common.{◌≡◌, ◌≢◌, ◌+◌, ◌<◌, nat_eq, Bool, true, false, not, ◌&&◌, List, [], ◌∷◌, ◌⊎◌, Option, Some, None, refl, ap, sym, ◌∙◌, inl, inr, arith}
use Rattle.std.specs.Prelude.{Contains}
use Rattle.std.specs.Ordering.{int_eq}
use Rattle.std.proofs.lemmas.Bool.{cases_Bool, cases_eq, cases_lt, eq-eqb, ne_eqb, eqb-true, and_parts, and_from, and_left}
use Rattle.std.proofs.lemmas.Bool.Decides.{Decides-int_eq}
use Rattle.gw_meaning.specs.declared.transaction.Transaction.{Transaction}
use Rattle.gw_meaning.specs.Machine.{Machine}
use Rattle.gw_meaning.specs.Changes.{placed, marked, moved, written}
use Rattle.gw_meaning.proofs.Programs.{run_on}
use Rattle.gw_laws.specs.Living.{living, IsActive}
use Rattle.gw_laws.specs.Priorities.{PrioritiesAreOnesOwn}
use Rattle.gw_frame.proofs.Decided.{step_decides}
use Rattle.gw_frame.proofs.Moves.{marked_same}
use Rattle.gw_laws.proofs.Crowd.{one, many, many_has, crowd, many_living, woken_crowd}
use Rattle.gw_laws.proofs.NumberLaws.{has_number, IsNumbered, IsOf, StaysSo, moved_gone, all_numbered}
use Rattle.gw_laws.proofs.Room.{all_within}
use Rattle.gw_laws.proofs.Anew.{clears_or, nobody_lives, nobody_in}

-- of those who pass a test some pass another one, and some do not
both_parts : (a b : Bool) → one (a && b) + one (a && not b) ≡ one a
both_parts true true = refl
both_parts true false = refl
both_parts false b = refl

pub many_parts : (f g : Transaction → Bool) (xs : List Transaction) →
    many (λ (x : Transaction). f x && g x) xs + many (λ (x : Transaction). f x && not (g x)) xs ≡ many f xs
many_parts f g [] = refl
many_parts f g (x ∷ xs) =
    let first = both_parts (f x) (g x) in
    let rest = many_parts f g xs in
    omega arith

-- one with a number, with the priority and the mark time of this one, and one with others
module _ (x : Transaction) where
  abbrev alike : Transaction → Bool
  alike y = int_eq y.priority x.priority && nat_eq y.mark x.mark

  abbrev same_one : Transaction → Bool
  same_one y = has_number x.number y && alike y

  abbrev other_one : Transaction → Bool
  other_one y = has_number x.number y && not (alike y)

  of_other : IsOf x.number other_one
  of_other = record {
    no_other = λ y other. and_left (has_number x.number y) (not (alike y)) other;
    stands = λ y id. refl;
    waits = λ y id units. refl;
    goes = λ y to. refl;
  }

  -- it is itself
  is_same : same_one x ≡ true
  is_same =
      let number = eq-eqb x.number x.number refl in
      let priority = (Decides-int_eq x.priority x.priority).1 refl in
      let mark = eq-eqb x.mark x.mark refl in
      and_from (has_number x.number x) (alike x) number (and_from (int_eq x.priority x.priority) (nat_eq x.mark x.mark) priority mark)

  none_other : (s : Machine) → IsNumbered s → Contains (living s) x → crowd other_one s ≡ 0
  none_other s h there =
      let own = many_has same_one (living s) x there is_same in
      let parts = many_parts (has_number x.number) alike (living s) in
      let all = many_living (has_number x.number) s in
      let others = many_living other_one s in
      let once = h.apart x.number in
      omega arith

  is_given : (s : Machine) → IsNumbered s → Contains (living s) x → x.number < s.next
  is_given s h there =
      elim (cases_lt x.number s.next) [
        | inl below ↦ below
        | inr above ↦ absurd (
            let some = many_has (has_number x.number) (living s) x there (eq-eqb x.number x.number refl) in
            let all = many_living (has_number x.number) s in
            let none = h.given x.number above in
            omega arith)
      ]

  -- another one is active, if any
  abbrev IsBeside : Machine → Type 0
  IsBeside s = (y : Transaction) → s.active ≡ Some y → y.number ≢ x.number

  beside_or_active : (s : Machine) → IsBeside s ⊎ IsActive s x.number
  beside_or_active s = go s.active refl where
    go : (o : Option Transaction) → s.active ≡ o → IsBeside s ⊎ IsActive s x.number
    go None none = inl (λ y is same. let no : None ≡ Some y = sym none ∙ is in cc)
    go (Some y) is =
        elim (cases_eq y.number x.number) [
          | inl same ↦ inr (y, is, same)
          | inr other ↦ inl (λ z there same.
              let one' : Some y ≡ Some z = sym is ∙ there in
              let his : y ≡ z = cc in
              other (ap (λ (w : Transaction). w.number) his ∙ same))
        ]

  -- the block that another one enters gives it no number of this one
  stays_other : (s : Machine) → IsBeside s → StaysSo x.number other_one of_other s
  stays_other s beside y change id is =
      let before = ne_eqb y.number x.number (beside y is) in
      let same = ap (λ n. nat_eq n x.number) (marked_same change s.clock (placed y id)).0 in
      of_other.no_other (marked change s.clock (placed y id)) (same ∙ before) ∙ sym (of_other.no_other y before)

  -- where nobody lives with this number and another priority or mark time, whoever lives with it has both
  has_both : (v : Machine) (y : Transaction) → crowd other_one v ≡ 0 → Contains (living v) y → y.number ≡ x.number →
      (y.priority ≡ x.priority) × (y.mark ≡ x.mark)
  has_both v y none there same =
      let number = eq-eqb y.number x.number same in
      elim (cases_Bool (alike y)) [
        | inl is ↦
            let both = and_parts (int_eq y.priority x.priority) (nat_eq y.mark x.mark) is in
            ((Decides-int_eq y.priority x.priority).0 both.0, eqb-true y.mark x.mark both.1)
        | inr differs ↦ absurd (
            let passes : other_one y ≡ true = and_from (has_number x.number y) (not (alike y)) number (ap not differs) in
            let some = many_has other_one (living v) y there passes in
            let all = many_living other_one v in
            omega arith)
      ]

pub priorities_are_ones_own : PrioritiesAreOnesOwn
priorities_are_ones_own t seed n s v well within there is x y lived lives' same =
    let after = (step_decides t seed s v (sym (run_on t seed n s there) ∙ is)).0 in
    let h = all_numbered t seed well n s there within in
    let room = all_within t seed n s well within there in
    elim (clears_or after.move) [
      | inl clears ↦ absurd (nobody_in y (living v) (nobody_lives s v after.move after.streams after.is clears) lives')
      | inr apart ↦ elim (beside_or_active x s) [
        | inl beside ↦
            let gone =
            moved_gone x.number (other_one x) (of_other x) t s after.move
            (omega (arith, room.next, within, well.greatest_limit, well.statements)) after.is_decided apart
            (stays_other x s beside) (is_given x s h lived, none_other x s h lived) in
            let none : crowd (other_one x) v ≡ 0 = ap (crowd (other_one x)) after.is
            ∙ (woken_crowd (other_one x) (written s after.move) (moved s after.move) ∙ gone.1) in
            inl (has_both x v y none lives' same)
        | inr was ↦ inr was
      ]
    ]
