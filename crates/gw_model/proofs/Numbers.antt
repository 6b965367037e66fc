-- Statements have numbers of their own, and a splice keeps it so.
use Rattle.std.proofs.Common.{◌≡◌, ℕ, zero, suc, ◌+◌, ◌-◌, ◌<◌, ◌≤◌, Bool, true, false, cond, List, [], ◌∷◌, ◌++◌, Option, Some, None, ◌==◌, length, take, drop, refl, sym, subst, ap, arith, append_assoc}
use Rattle.std.specs.List.{slice_get}
use Rattle.std.proofs.lemmas.Bool.{eq-eqb, ne_eqb, both_ways}
use Rattle.std.proofs.lemmas.List.{take-append-drop, append-nil}
use Rattle.gw_meaning.specs.declared.statement.Statement.{Statement}
use Rattle.gw_meaning.specs.declared.statement.Numbered.{Numbered}
use Rattle.gw_meaning.specs.Listing.{line_in, nth}
use Rattle.gw_meaning.specs.Numbers.{AreNumbered}
use Rattle.gw_model.specs.Listed.{numbered}
use Rattle.gw_model.specs.Spliced.{greatest_number, number_in, inserted, spliced}

-- a number that no line has: not the first one, and not those after it
pub absent_first : (line : Numbered) (lines : List Numbered) (k : ℕ) → line_in (line ∷ lines) k ≡ None → ((line.number == k) ≡ false) × (line_in lines k ≡ None)
absent_first line lines k h =
    (elim (line.number == k) as (λ b. cond b (Some line) (line_in lines k) ≡ None → (b ≡ false) × (line_in lines k ≡ None))
    [ true ↦ λ none. absurd cc | false ↦ λ none. (refl, none) ]) h

pub absent_from : (line : Numbered) (lines : List Numbered) (k : ℕ) → (line.number == k) ≡ false → line_in lines k ≡ None → line_in (line ∷ lines) k ≡ None
absent_from line lines k other none = subst (λ (b : Bool). cond b (Some line) (line_in lines k) ≡ None) (sym other) none

pub other_way : (m n : ℕ) → (m == n) ≡ false → (n == m) ≡ false
other_way m n h = ne_eqb n m (λ e. both_ways (m == n) h (eq-eqb m n (sym e)))

-- a line that is inserted, and one that is deleted
absent_with : (front back : List Numbered) (line : Numbered) (k : ℕ) → (line.number == k) ≡ false → line_in (front ++ back) k ≡ None →
    line_in (front ++ line ∷ back) k ≡ None
absent_with [] back line k other none = absent_from line back k other none
absent_with (x ∷ front) back line k other none =
    let parts = absent_first x (front ++ back) k none in
    absent_from x (front ++ line ∷ back) k parts.0 (absent_with front back line k other parts.1)

absent_without : (front back : List Numbered) (line : Numbered) (k : ℕ) → line_in (front ++ line ∷ back) k ≡ None → line_in (front ++ back) k ≡ None
absent_without [] back line k none = (absent_first line back k none).1
absent_without (x ∷ front) back line k none =
    let parts = absent_first x (front ++ line ∷ back) k none in
    absent_from x (front ++ back) k parts.0 (absent_without front back line k parts.1)

pub numbered_with : (front back : List Numbered) (line : Numbered) → 1 ≤ line.number → AreNumbered (front ++ back) →
    line_in (front ++ back) line.number ≡ None → AreNumbered (front ++ line ∷ back)
numbered_with [] back line least apart none = (least, none, apart)
numbered_with (x ∷ front) back line least apart none =
    let parts = absent_first x (front ++ back) line.number none in
    (apart.0, absent_with front back line x.number (other_way x.number line.number parts.0) apart.1, numbered_with front back line least apart.2 parts.1)

pub numbered_without : (front back : List Numbered) (line : Numbered) → AreNumbered (front ++ line ∷ back) → AreNumbered (front ++ back)
numbered_without [] back line apart = apart.2
numbered_without (x ∷ front) back line apart = (apart.0, absent_without front back line x.number apart.1, numbered_without front back line apart.2)

-- a line in front of another one has another number
apart_front : (x : Numbered) (front back : List Numbered) (line : Numbered) → line_in (front ++ line ∷ back) x.number ≡ None → (x.number == line.number) ≡ false
apart_front x [] back line none = other_way line.number x.number ((absent_first line back x.number none).0)
apart_front x (y ∷ front) back line none = apart_front x front back line ((absent_first y (front ++ line ∷ back) x.number none).1)

-- the number of the deleted line is gone, and is at least 1
pub absent_gone : (front back : List Numbered) (line : Numbered) → AreNumbered (front ++ line ∷ back) → line_in (front ++ back) line.number ≡ None
absent_gone [] back line apart = apart.1
absent_gone (x ∷ front) back line apart =
    absent_from x (front ++ back) line.number (apart_front x front back line apart.1) (absent_gone front back line apart.2)

least_in : (front back : List Numbered) (line : Numbered) → AreNumbered (front ++ line ∷ back) → 1 ≤ line.number
least_in [] back line apart = apart.0
least_in (x ∷ front) back line apart = least_in front back line apart.2

-- the number above all is new
above : (lines : List Numbered) (k : ℕ) → greatest_number lines < k → line_in lines k ≡ None
above [] k more = refl
above (line ∷ lines) k more = absent_from line lines k (ne_eqb line.number k (λ e. absurd (omega arith))) (above lines k (omega arith))

pub new_absent : (lines : List Numbered) → line_in lines (greatest_number lines + 1) ≡ None
new_absent lines = above lines (greatest_number lines + 1) (omega arith)

-- a list round an index
pub record IsCut {X : Type 0} (xs : List X) (i : ℕ) (x : X) : Type 0 where
  pub found : slice_get xs i ≡ Some x
  pub parts : xs ≡ take i xs ++ x ∷ drop (suc i) xs

pub cut_at : {X : Type 0} (xs : List X) (i : ℕ) → i < length xs → (x : X) × IsCut xs i x
cut_at [] i less = absurd (omega arith)
cut_at (y ∷ ys) zero less = (y, record { found = refl; parts = refl })
cut_at (y ∷ ys) (suc i) less = let rest = cut_at ys i (omega arith) in (rest.0, record { found = rest.1.found; parts = ap (λ zs. y ∷ zs) rest.1.parts })

-- what is inserted between lines that have not its number
inserted_between : (front back : List Numbered) (number : ℕ) (inserts : Option Statement) → 1 ≤ number → AreNumbered (front ++ back) →
    line_in (front ++ back) number ≡ None → AreNumbered (front ++ inserted number inserts ++ back)
inserted_between front back number None least apart none = rw append-nil apart
inserted_between front back number (Some s) least apart none =
    rw append_assoc (numbered_with front back (record { number = number; statement = s }) least apart none)

-- the item at a position is the one at the index before
pub nth_get : {X : Type 0} (xs : List X) (position : ℕ) (x : X) → 1 ≤ position → slice_get xs (position - 1) ≡ Some x → nth xs position ≡ Some x
nth_get xs position x least h =
    let e : suc (position - 1) ≡ position = omega arith in
    subst (λ (p : ℕ). nth xs p ≡ Some x) e h

pub numbered_spliced : (lines : List Numbered) (position : ℕ) (deletes : Bool) (inserts : Option Statement) → 1 ≤ position →
    (deletes ≡ true → position ≤ length lines) → AreNumbered lines → AreNumbered (spliced lines position deletes inserts)
numbered_spliced lines position false inserts least there apart =
    let i = position - 1 in
    let whole : lines ≡ take i lines ++ drop i lines = sym (take-append-drop i lines) in
    inserted_between (take i lines) (drop i lines) (greatest_number lines + 1) inserts (omega arith)
    (subst (λ (ls : List Numbered). AreNumbered ls) whole apart)
    (subst (λ (ls : List Numbered). line_in ls (greatest_number lines + 1) ≡ None) whole (new_absent lines))
numbered_spliced lines position true inserts least there apart =
    let i = position - 1 in
    let within : position ≤ length lines = there refl in
    let cut = cut_at lines i (omega arith) in
    let line = cut.0 in
    let front = take i lines in
    let back = drop position lines in
    let next : suc i ≡ position = omega arith in
    let parts : lines ≡ front ++ line ∷ back = subst (λ (p : ℕ). lines ≡ front ++ line ∷ drop p lines) next cut.1.parts in
    let parted : AreNumbered (front ++ line ∷ back) = subst (λ (ls : List Numbered). AreNumbered ls) parts apart in
    subst (λ (o : Option Numbered). AreNumbered (front ++ inserted (number_in lines o) inserts ++ back)) (sym (nth_get lines position line least cut.1.found))
    (inserted_between front back line.number inserts (least_in front back line parted) (numbered_without front back line parted)
    (absent_gone front back line parted))

-- numbers one after another
absent_numbered : (first : ℕ) (statements : List Statement) (k : ℕ) → k < first → line_in (numbered first statements) k ≡ None
absent_numbered first [] k less = refl
absent_numbered first (s ∷ ss) k less =
    absent_from (record { number = first; statement = s }) (numbered (first + 1) ss) k (ne_eqb first k (λ e. absurd (omega arith)))
    (absent_numbered (first + 1) ss k (omega arith))

pub numbered_listed : (first : ℕ) (statements : List Statement) → 1 ≤ first → AreNumbered (numbered first statements)
numbered_listed first [] least = tt
numbered_listed first (s ∷ ss) least = (least, absent_numbered (first + 1) ss first (omega arith), numbered_listed (first + 1) ss (omega arith))
