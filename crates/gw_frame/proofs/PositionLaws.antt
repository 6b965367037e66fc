-- Where an id is a block of both versions, its position moves as the splice says.
use Rattle.std.proofs.Common.{◌≡◌, ℕ, suc, ◌+◌, ◌-◌, ◌≤◌, nat_eq, nat_le, Bool, true, false, cond, List, [], ◌∷◌, ◌++◌, length, filter, Option, Some, None, is_some, option_and_then, unwrap_or, ◌⊎◌, inl, inr, refl, ap, sym, subst, ◌∙◌, arith}
use Rattle.std.proofs.lemmas.Bool.{eqb-true}
use Rattle.std.proofs.lemmas.Bool.Decides.{nat_tests}
use Rattle.gw_meaning.specs.declared.statement.Block.{Block}
use Rattle.gw_meaning.specs.declared.statement.Numbered.{Numbered}
use Rattle.gw_meaning.specs.Listing.{Listing, is_block, block_of, line_in, position_in}
use Rattle.gw_meaning.specs.Numbers.{AreNumbered}
use Rattle.gw_frame.specs.Positions.{position_of, IsSplice, count_blocks, shifted}
use Rattle.gw_frame.proofs.Renumbering.{behind, no_id}
use Rattle.gw_frame.specs.BlockIds.{IsBlockId}

-- the block that lines have under a number
abbrev block_in : List Numbered → ℕ → Option Block
block_in lines p = option_and_then block_of (line_in lines p)

-- a line in front of others: it is the one that is looked for, or it is not
here : (line : Numbered) (lines : List Numbered) (p : ℕ) (x : Block) → nat_eq line.number p ≡ true → block_in (line ∷ lines) p ≡ Some x → block_of line ≡ Some x
here line lines p x is there = subst (λ b. option_and_then block_of (cond b (Some line) (line_in lines p)) ≡ Some x) is there

further : (line : Numbered) (lines : List Numbered) (p : ℕ) (x : Block) → nat_eq line.number p ≡ false → block_in (line ∷ lines) p ≡ Some x →
    block_in lines p ≡ Some x
further line lines p x is there = subst (λ b. option_and_then block_of (cond b (Some line) (line_in lines p)) ≡ Some x) is there

position_here : (b : ℕ) (line : Numbered) (lines : List Numbered) (p : ℕ) (x : Block) → nat_eq line.number p ≡ true → block_of line ≡ Some x →
    position_in b (line ∷ lines) p ≡ Some (b + 1)
position_here b line lines p x is block = rw (is, ap is_some block) refl

position_further : (b : ℕ) (line : Numbered) (lines : List Numbered) (p : ℕ) → nat_eq line.number p ≡ false →
    position_in b (line ∷ lines) p ≡ position_in (cond (is_block line) (b + 1) b) lines p
position_further b line lines p is = rw is refl

-- the blocks in front of the next line
counted : (b : ℕ) (line : Numbered) (lines : List Numbered) → cond (is_block line) (b + 1) b + count_blocks lines ≡ b + count_blocks (line ∷ lines)
counted b line lines = elim (is_block line) as (λ k. cond k (b + 1) b + count_blocks lines ≡
    b + length (cond k (line ∷ filter is_block lines) (filter is_block lines))) [ true ↦ omega arith | false ↦ refl ]

-- a block of these lines stands so many blocks after what is in front of them
abbrev Stands : List Numbered → ℕ → ℕ → Type 0
Stands lines p k = (b : ℕ) → position_in b lines p ≡ Some (b + suc k)

stands_behind : (line : Numbered) (lines : List Numbered) (p : ℕ) → nat_eq line.number p ≡ false → (k : ℕ) × Stands lines p k → (k : ℕ) ×
    Stands (line ∷ lines) p k
stands_behind line lines p is (k, rest) = go (is_block line) refl where
  go : (kind : Bool) → is_block line ≡ kind → (n : ℕ) × Stands (line ∷ lines) p n
  go true kind = (
    suc k,
    λ b. position_further b line lines p is ∙
        (ap (λ c. position_in (cond c (b + 1) b) lines p) kind ∙
        (rest (b + 1) ∙ (let e : (b + 1) + suc k ≡ b + suc (suc k) = omega arith in ap (λ n. Some n) e))),
  )
  go false kind = (k, λ b. position_further b line lines p is ∙ (ap (λ c. position_in (cond c (b + 1) b) lines p) kind ∙ rest b))

stands_by : (line : Numbered) (lines : List Numbered) (p : ℕ) (x : Block) → block_in (line ∷ lines) p ≡ Some x →
    (block_in lines p ≡ Some x → (k : ℕ) × Stands lines p k) → (b : Bool) → nat_eq line.number p ≡ b → (k : ℕ) × Stands (line ∷ lines) p k
stands_by line lines p x there rest true is = (0, λ b. position_here b line lines p x is (here line lines p x is there))
stands_by line lines p x there rest false is = stands_behind line lines p is (rest (further line lines p x is there))

stands : (lines : List Numbered) (p : ℕ) (x : Block) → block_in lines p ≡ Some x → (k : ℕ) × Stands lines p k
stands [] p x there = absurd cc
stands (line ∷ lines) p x there = stands_by line lines p x there (λ behind. stands lines p x behind) (nat_eq line.number p) refl

-- an id in at most one line and a back: the line's, or the back's
pub record IsLine (lines : List Numbered) (p : ℕ) (x : Block) : Type 0 where
  pub line : Numbered
  pub alone : lines ≡ line ∷ []
  pub number : nat_eq line.number p ≡ true
  pub block : block_of line ≡ Some x

pub record IsBehind (lines back : List Numbered) (p : ℕ) (x : Block) : Type 0 where
  pub there : block_in back p ≡ Some x
  pub stands : (b k : ℕ) → Stands back p k → position_in b (lines ++ back) p ≡ Some ((b + count_blocks lines) + suc k)

line_or_back : (lines back : List Numbered) (p : ℕ) (x : Block) → length lines ≤ 1 → block_in (lines ++ back) p ≡ Some x → IsLine lines p x ⊎
    IsBehind lines back p x
line_or_back [] back p x one there = inr (record {
  there = there;
  stands =
      λ b k back_stands. back_stands b ∙ (let e : b + suc k ≡ (b + 0) + suc k = omega arith in ap (λ n. Some n) e);
})
line_or_back (line ∷ []) back p x one there = go (nat_eq line.number p) refl where
  go : (b : Bool) → nat_eq line.number p ≡ b → IsLine (line ∷ []) p x ⊎ IsBehind (line ∷ []) back p x
  go true is = inl (record { line = line; alone = refl; number = is; block = here line back p x is there })
  go false is = inr (record {
    there = further line back p x is there;
    stands = λ b k back_stands. position_further b line back p is ∙
        (back_stands (cond (is_block line) (b + 1) b) ∙ (let e : cond (is_block line) (b + 1) b + suc k ≡ (b + count_blocks (line ∷ [])) + suc k =
        omega (arith, counted b line []) in ap (λ n. Some n) e));
  })
line_or_back (line ∷ other ∷ lines) back p x one there = absurd (omega arith)

-- where the line is the one that is looked for, the back has none
not_behind : (line : Numbered) (lines back : List Numbered) (p : ℕ) (x : Block) → lines ≡ line ∷ [] → AreNumbered (lines ++ back) →
    nat_eq line.number p ≡ true → block_in back p ≡ Some x → ⊥
not_behind line lines back p x alone numbered is there =
    let apart : AreNumbered (line ∷ back) = subst (λ ls. AreNumbered (ls ++ back)) alone numbered in
    let none : line_in back p ≡ None = subst (λ n. line_in back n ≡ None) (eqb-true line.number p is) apart.1 in
    let gone : block_in back p ≡ None = ap (option_and_then block_of) none in
    cc

-- how a position moves
pub record Shifts (b front deleted inserted : ℕ) (o n : Option ℕ) : Type 0 where
  pub from : ℕ
  pub to : ℕ
  pub old : o ≡ Some from
  pub new : n ≡ Some to
  pub move : to ≡ cond (nat_le from (b + front)) from ((from - deleted) + inserted)

one_block : (line : Numbered) (x : Block) → block_of line ≡ Some x → count_blocks (line ∷ []) ≡ 1
one_block line x block = rw (ap is_some block) refl

at_splice : (deleted inserted back : List Numbered) (b p : ℕ) (x y : Block) → AreNumbered (deleted ++ back) → AreNumbered (inserted ++ back) →
    IsLine deleted p x ⊎ IsBehind deleted back p x → IsLine inserted p y ⊎ IsBehind inserted back p y →
    Shifts b 0 (count_blocks deleted) (count_blocks inserted) (position_in b (deleted ++ back) p) (position_in b (inserted ++ back) p)
at_splice deleted inserted back b p x y first second (inl l) (inl m) =
    let one : count_blocks deleted ≡ 1 = ap count_blocks l.alone ∙ one_block l.line x l.block in
    let other : count_blocks inserted ≡ 1 = ap count_blocks m.alone ∙ one_block m.line y m.block in
    record {
      from = b + 1;
      to = b + 1;
      old = ap (λ ls. position_in b (ls ++ back) p) l.alone ∙ position_here b l.line back p x l.number l.block;
      new = ap (λ ls. position_in b (ls ++ back) p) m.alone ∙ position_here b m.line back p y m.number m.block;
      move = rw (one, other) (kept b);
    } where
      kept : (b : ℕ) → b + 1 ≡ cond (nat_le (b + 1) (b + 0)) (b + 1) (((b + 1) - 1) + 1)
      kept b = grind (arith, nat_tests)
at_splice deleted inserted back b p x y first second (inl l) (inr m) = absurd (not_behind l.line deleted back p y l.alone first l.number m.there)
at_splice deleted inserted back b p x y first second (inr l) (inl m) = absurd (not_behind m.line inserted back p x m.alone second m.number l.there)
at_splice deleted inserted back b p x y first second (inr l) (inr m) =
    let found = stands back p x l.there in
    record {
      from = (b + count_blocks deleted) + suc found.0;
      to = (b + count_blocks inserted) + suc found.0;
      old = l.stands b found.0 found.1;
      new = m.stands b found.0 found.1;
      move = goes_on b (count_blocks deleted) (count_blocks inserted) found.0;
    } where
      goes_on : (b g c k : ℕ) → (b + c) + suc k ≡ cond (nat_le ((b + g) + suc k) (b + 0)) ((b + g) + suc k) ((((b + g) + suc k) - g) + c)
      goes_on b g c k = grind (arith, nat_tests)

numbered_behind : (line : Numbered) (lines : List Numbered) → AreNumbered (line ∷ lines) → AreNumbered lines
numbered_behind line lines numbered = numbered.2

module _ (deleted inserted back : List Numbered) (one : length deleted ≤ 1) (other : length inserted ≤ 1) (p : ℕ) (x y : Block) where
  shifts_by : (line : Numbered) (front : List Numbered) (b : ℕ) → block_in (line ∷ front ++ (deleted ++ back)) p ≡ Some x →
      block_in (line ∷ front ++ (inserted ++ back)) p ≡ Some y →
      ((c : ℕ) → block_in (front ++ (deleted ++ back)) p ≡ Some x → block_in (front ++ (inserted ++ back)) p ≡ Some y →
      Shifts c (count_blocks front) (count_blocks deleted) (count_blocks inserted) (position_in c (front ++ (deleted ++ back)) p)
      (position_in c (front ++ (inserted ++ back)) p)) →
      (test : Bool) → nat_eq line.number p ≡ test →
      Shifts b (count_blocks (line ∷ front)) (count_blocks deleted) (count_blocks inserted) (position_in b (line ∷ front ++ (deleted ++ back)) p)
      (position_in b (line ∷ front ++ (inserted ++ back)) p)
  shifts_by line front b old new rest true is =
      let block = here line (front ++ (deleted ++ back)) p x is old in
      record {
        from = b + 1;
        to = b + 1;
        old = position_here b line (front ++ (deleted ++ back)) p x is block;
        new = position_here b line (front ++ (inserted ++ back)) p x is block;
        move = stays (count_blocks (line ∷ front)) (count_blocks deleted) (count_blocks inserted)
            (let e : count_blocks (line ∷ front) ≡ suc (count_blocks front) = rw (ap is_some block) refl in omega arith);
      } where
        stays : (n g c : ℕ) → 1 ≤ n → b + 1 ≡ cond (nat_le (b + 1) (b + n)) (b + 1) (((b + 1) - g) + c)
        stays n g c some = grind (arith, nat_tests)
  shifts_by line front b old new rest false is =
      let before = cond (is_block line) (b + 1) b in
      let h = rest before (further line (front ++ (deleted ++ back)) p x is old) (further line (front ++ (inserted ++ back)) p y is new) in
      record {
        from = h.from;
        to = h.to;
        old = position_further b line (front ++ (deleted ++ back)) p is ∙ h.old;
        new = position_further b line (front ++ (inserted ++ back)) p is ∙ h.new;
        move = h.move ∙ ap (λ n. cond (nat_le h.from n) h.from ((h.from - count_blocks deleted) + count_blocks inserted)) (counted b line front);
      }

  shifts : (front : List Numbered) (b : ℕ) → AreNumbered (front ++ (deleted ++ back)) → AreNumbered (front ++ (inserted ++ back)) →
      block_in (front ++ (deleted ++ back)) p ≡ Some x → block_in (front ++ (inserted ++ back)) p ≡ Some y →
      Shifts b (count_blocks front) (count_blocks deleted) (count_blocks inserted) (position_in b (front ++ (deleted ++ back)) p)
      (position_in b (front ++ (inserted ++ back)) p)
  shifts [] b first second old new =
      at_splice deleted inserted back b p x y first second (line_or_back deleted back p x one old) (line_or_back inserted back p y other new)
  shifts (line ∷ front) b first second old new =
      shifts_by line front b old new (λ c o n. shifts front c (numbered_behind line (front ++ (deleted ++ back)) first)
      (numbered_behind line (front ++ (inserted ++ back)) second) o n) (nat_eq line.number p) refl

-- what is no block has no position
no_position : (b : ℕ) (lines : List Numbered) (p : ℕ) → line_in lines p ≡ None → position_in b lines p ≡ None
no_position b [] p none = refl
no_position b (line ∷ lines) p none =
    let parts = behind (nat_eq line.number p) line (line_in lines p) none in
    position_further b line lines p parts.0 ∙ no_position (cond (is_block line) (b + 1) b) lines p parts.1

none_shifts : (front deleted inserted : List Numbered) → 0 ≡ shifted front deleted inserted 0
none_shifts front deleted inserted = by_number (count_blocks front) (count_blocks deleted) (count_blocks inserted) where
  by_number : (n g c : ℕ) → 0 ≡ cond (nat_le 0 n) 0 ((0 - g) + c)
  by_number n g c = grind (arith, nat_tests)

position_none : (t : Listing) (p : ℕ) → AreNumbered t.lines → p ≡ 0 → position_of t p ≡ 0
position_none t p numbered is = ap (position_of t) is ∙ ap (λ o. unwrap_or o 0) (no_position 0 t.lines 0 (no_id t.lines numbered))

pub position_shifts : (t u : Listing) (front deleted inserted back : List Numbered) → IsSplice t u front deleted inserted back →
    AreNumbered t.lines → AreNumbered u.lines →
    (p : ℕ) → IsBlockId t p → IsBlockId u p → position_of u p ≡ shifted front deleted inserted (position_of t p)
position_shifts t u front deleted inserted back splice first second p (inl is) there =
    position_none u p second is ∙ (none_shifts front deleted inserted ∙ ap (shifted front deleted inserted) (sym (position_none t p first is)))
position_shifts t u front deleted inserted back splice first second p (inr found) (inl is) =
    position_none u p second is ∙ (none_shifts front deleted inserted ∙ ap (shifted front deleted inserted) (sym (position_none t p first is)))
position_shifts t u front deleted inserted back splice first second p (inr found) (inr there) =
    let old : block_in (front ++ (deleted ++ back)) p ≡ Some found.0 = subst (λ ls. block_in ls p ≡ Some found.0) splice.old found.1 in
    let new : block_in (front ++ (inserted ++ back)) p ≡ Some there.0 = subst (λ ls. block_in ls p ≡ Some there.0) splice.new there.1 in
    let h = shifts deleted inserted back splice.one_deleted splice.one_inserted p found.0 there.0 front 0 (subst (λ ls. AreNumbered ls) splice.old first)
    (subst (λ ls. AreNumbered ls) splice.new second) old new in
    let from : position_of t p ≡ h.from = ap (λ ls. unwrap_or (position_in 0 ls p) 0) splice.old ∙ ap (λ o. unwrap_or o 0) h.old in
    let to : position_of u p ≡ h.to = ap (λ ls. unwrap_or (position_in 0 ls p) 0) splice.new ∙ ap (λ o. unwrap_or o 0) h.new in
    let same : 0 + count_blocks front ≡ count_blocks front = omega arith in
    let moves : h.to ≡ shifted front deleted inserted h.from =
    h.move ∙ ap (λ n. cond (nat_le h.from n) h.from ((h.from - count_blocks deleted) + count_blocks inserted)) same in
    to ∙ (moves ∙ ap (shifted front deleted inserted) (sym from))
