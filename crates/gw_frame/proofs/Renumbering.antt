-- Two versions with the same statements are one with its ids renamed: an id of the first goes to that of the second, and
-- what is no id goes beyond all of them.
use Rattle.std.proofs.Common.{◌≡◌, ℕ, zero, suc, ◌+◌, ◌≤◌, max, nat_eq, Bool, true, false, cond, List, [], ◌∷◌, Option, Some, None, ◌⊎◌, inl, inr, refl, sym, subst, ◌∙◌, arith}
use Rattle.std.proofs.lemmas.Bool.{eq-eqb, eqb-true, ne_eqb}
use Rattle.gw_meaning.specs.declared.statement.Numbered.{Numbered}
use Rattle.gw_meaning.specs.Listing.{line_in}
use Rattle.gw_meaning.specs.Numbers.{AreNumbered}
use Rattle.gw_frame.specs.Renamed.{statements_of, AreRenamed, HasRenaming}

-- the number that stands in the second list where the first has this one
abbrev number_for : List Numbered → List Numbered → ℕ → Option ℕ
number_for [] ms p = None
number_for (l ∷ ls) [] p = None
number_for (l ∷ ls) (m ∷ ms) p = cond (nat_eq l.number p) (Some m.number) (number_for ls ms p)

abbrev greatest : List Numbered → ℕ
greatest [] = 0
greatest (m ∷ ms) = max m.number (greatest ms)

abbrev renamed_by : ℕ → ℕ → Option ℕ → ℕ
renamed_by bound p None = p + bound
renamed_by bound p (Some n) = n

abbrev renaming : List Numbered → List Numbered → ℕ → ℕ
renaming ls ms zero = zero
renaming ls ms (suc p) = renamed_by (greatest ms) (suc p) (number_for ls ms (suc p))

-- where a test fails, what stands after it decides
pub behind : {X : Type 0} (b : Bool) (x : X) (o : Option X) → cond b (Some x) o ≡ None → (b ≡ false) × (o ≡ None)
behind true x o none = absurd cc
behind false x o none = (refl, none)

ahead : {X : Type 0} (b : Bool) (x y : X) (o : Option X) → cond b (Some x) o ≡ Some y → ((b ≡ true) × (x ≡ y)) ⊎ ((b ≡ false) × (o ≡ Some y))
ahead true x y o some = inl (refl, cc)
ahead false x y o some = inr (refl, some)

-- a number that is found stands in both lists
in_second : (ls ms : List Numbered) (p n : ℕ) → number_for ls ms p ≡ Some n → line_in ms n ≡ None → ⊥
in_second [] ms p n some none = cc
in_second (l ∷ ls) [] p n some none = cc
in_second (l ∷ ls) (m ∷ ms) p n some none =
    let apart = behind (nat_eq m.number n) m (line_in ms n) none in
    elim (ahead (nat_eq l.number p) m.number n (number_for ls ms p) some)
    [ inl h ↦ (let e : nat_eq m.number n ≡ true = eq-eqb m.number n h.1 in cc) | inr h ↦ in_second ls ms p n h.1 apart.1 ]

in_first : (ls ms : List Numbered) (p n : ℕ) → number_for ls ms p ≡ Some n → line_in ls p ≡ None → ⊥
in_first [] ms p n some none = cc
in_first (l ∷ ls) [] p n some none = cc
in_first (l ∷ ls) (m ∷ ms) p n some none =
    let apart = behind (nat_eq l.number p) l (line_in ls p) none in
    elim (ahead (nat_eq l.number p) m.number n (number_for ls ms p) some) [ inl h ↦ cc | inr h ↦ in_first ls ms p n h.1 apart.1 ]

-- it is one of the second list's, and leads back to one id only
within : (ls ms : List Numbered) (p n : ℕ) → AreNumbered ms → number_for ls ms p ≡ Some n → (1 ≤ n) × (n ≤ greatest ms)
within [] ms p n numbered some = absurd cc
within (l ∷ ls) [] p n numbered some = absurd cc
within (l ∷ ls) (m ∷ ms) p n numbered some =
    elim (ahead (nat_eq l.number p) m.number n (number_for ls ms p) some) [
      | inl h ↦ (let least : 1 ≤ m.number = numbered.0 in let e : m.number ≡ n = h.1 in (omega arith, omega arith))
      | inr h ↦ (let rest = within ls ms p n numbered.2 h.1 in (rest.0, omega (arith, rest.1)))
    ]

leads_back : (ls ms : List Numbered) (p q n : ℕ) → AreNumbered ms → number_for ls ms p ≡ Some n → number_for ls ms q ≡ Some n → p ≡ q
leads_back [] ms p q n numbered some other = absurd cc
leads_back (l ∷ ls) [] p q n numbered some other = absurd cc
leads_back (l ∷ ls) (m ∷ ms) p q n numbered some other =
    elim (ahead (nat_eq l.number p) m.number n (number_for ls ms p) some) [
      | inl h ↦ elim (ahead (nat_eq l.number q) m.number n (number_for ls ms q) other) [
        | inl k ↦ sym (eqb-true l.number p h.0) ∙ eqb-true l.number q k.0
        | inr k ↦ absurd (in_second ls ms q n k.1 (subst (λ x. line_in ms x ≡ None) h.1 numbered.1))
      ]
      | inr h ↦ elim (ahead (nat_eq l.number q) m.number n (number_for ls ms q) other) [
        | inl k ↦ absurd (in_second ls ms p n h.1 (subst (λ x. line_in ms x ≡ None) k.1 numbered.1))
        | inr k ↦ leads_back ls ms p q n numbered.2 h.1 k.1
      ]
    ]

-- no id becomes 0, and no two become one
named_some : (bound p : ℕ) (o : Option ℕ) → 1 ≤ p → ((n : ℕ) → o ≡ Some n → (1 ≤ n) × (n ≤ bound)) → renamed_by bound p o ≡ 0 → ⊥
named_some bound p None some bounds none = omega arith
named_some bound p (Some n) some bounds none = let least = (bounds n refl).0 in omega arith

named_apart : (bound p q : ℕ) (o r : Option ℕ) → 1 ≤ p → 1 ≤ q → ((n : ℕ) → o ≡ Some n → (1 ≤ n) × (n ≤ bound)) →
    ((n : ℕ) → r ≡ Some n → (1 ≤ n) × (n ≤ bound)) →
    ((n : ℕ) → o ≡ Some n → r ≡ Some n → p ≡ q) → renamed_by bound p o ≡ renamed_by bound q r → p ≡ q
named_apart bound p q None None some other left right one same = omega arith
named_apart bound p q None (Some n) some other left right one same = let most = (right n refl).1 in absurd (omega arith)
named_apart bound p q (Some n) None some other left right one same = let most = (left n refl).1 in absurd (omega arith)
named_apart bound p q (Some n) (Some m) some other left right one same = one m (subst (λ x. Some x ≡ Some m) (sym same) refl) refl

renaming_apart : (ls ms : List Numbered) → AreNumbered ms → (p q : ℕ) → renaming ls ms p ≡ renaming ls ms q → p ≡ q
renaming_apart ls ms numbered zero zero same = refl
renaming_apart ls ms numbered zero (suc q) same =
    absurd (named_some (greatest ms) (suc q) (number_for ls ms (suc q)) (omega arith) (λ n. within ls ms (suc q) n numbered) (sym same))
renaming_apart ls ms numbered (suc p) zero same =
    absurd (named_some (greatest ms) (suc p) (number_for ls ms (suc p)) (omega arith) (λ n. within ls ms (suc p) n numbered) same)
renaming_apart ls ms numbered (suc p) (suc q) same =
    named_apart (greatest ms) (suc p) (suc q) (number_for ls ms (suc p)) (number_for ls ms (suc q)) (omega arith) (omega arith)
    (λ n. within ls ms (suc p) n numbered) (λ n. within ls ms (suc q) n numbered) (λ n. leads_back ls ms (suc p) (suc q) n numbered) same

-- a list with the same statements is the renamed one, where the renaming goes by the ids of both
renamed_by_ids : (move : ℕ → ℕ) (ls ms : List Numbered) → statements_of ms ≡ statements_of ls → AreNumbered ls →
    ((p n : ℕ) → number_for ls ms p ≡ Some n → move p ≡ n) → AreRenamed move ls ms
renamed_by_ids move [] [] same numbered leads = tt
renamed_by_ids move [] (m ∷ ms) same numbered leads = absurd cc
renamed_by_ids move (l ∷ ls) [] same numbered leads = absurd cc
renamed_by_ids move (l ∷ ls) (m ∷ ms) same numbered leads =
    let here : number_for (l ∷ ls) (m ∷ ms) l.number ≡ Some m.number =
    subst (λ b. cond b (Some m.number) (number_for ls ms l.number) ≡ Some m.number) (sym (eq-eqb l.number l.number refl)) refl in
    let first : m.statement ≡ l.statement = cc in
    let rest : statements_of ms ≡ statements_of ls = cc in
    (sym (leads l.number m.number here), first, renamed_by_ids move ls ms rest numbered.2 (λ p n some. leads p n (further p n some)))
  where
    further : (p n : ℕ) → number_for ls ms p ≡ Some n → number_for (l ∷ ls) (m ∷ ms) p ≡ Some n
    further p n some = other (nat_eq l.number p) refl where
      other : (b : Bool) → nat_eq l.number p ≡ b → cond (nat_eq l.number p) (Some m.number) (number_for ls ms p) ≡ Some n
      other true is = absurd (in_first ls ms p n some (subst (λ x. line_in ls x ≡ None) (eqb-true l.number p is) numbered.1))
      other false is = subst (λ c. cond c (Some m.number) (number_for ls ms p) ≡ Some n) (sym is) some

-- 0 is no id
pub no_id : (ls : List Numbered) → AreNumbered ls → line_in ls 0 ≡ None
no_id [] numbered = refl
no_id (l ∷ ls) numbered =
    let least : 1 ≤ l.number = numbered.0 in
    subst (λ b. cond b (Some l) (line_in ls 0) ≡ None) (sym (ne_eqb l.number 0 (λ e. absurd (omega arith)))) (no_id ls numbered.2)

leads_there : (ls ms : List Numbered) → AreNumbered ls → (p n : ℕ) → number_for ls ms p ≡ Some n → renaming ls ms p ≡ n
leads_there ls ms numbered zero n some = absurd (in_first ls ms zero n some (no_id ls numbered))
leads_there ls ms numbered (suc p) n some = subst (λ o. renamed_by (greatest ms) (suc p) o ≡ n) (sym some) refl

pub has_renaming : HasRenaming
has_renaming t u same first second =
    let move = renaming t.lines u.lines in (
      move,
      record {
        is_move = record { none = refl; apart = renaming_apart t.lines u.lines second };
        lines = renamed_by_ids move t.lines u.lines same.statements first (leads_there t.lines u.lines first);
        horizon = same.horizon;
        replications = same.replications;
        limit = same.limit;
      },
    )
