-- what the place of a statement answers
use Rattle.std.proofs.Common.{◌≡◌, ℕ, zero, suc, List, [], ◌∷◌, refl, Bool, true, false, cond, arith, ◌≤◌, ◌<◌, ◌+◌, ap, ◌∙◌, IsSome, is_some, Option, Some, None, option_and_then, ◌==◌, append_assoc, ⊎_elim, sym, subst, IfSome, ◌++◌, length, filter}
use Rattle.std.specs.List.{slice_get}
use Rattle.std.proofs.lemmas.Bool.{cases_Bool, ne_eqb}
use Rattle.std.proofs.lemmas.List.{length_push}
use Rattle.std.proofs.lemmas.Grind.{common_steps}
use Rattle.gw_meaning.specs.Listing.{line_in, block_of, after_in, position_in, is_block, first_block, seed_in}
use Rattle.gw_meaning.specs.declared.statement.Block.{Block}
use Rattle.gw_meaning.specs.declared.statement.Numbered.{Numbered}
use Rattle.gw_meaning.specs.declared.statement.Replication.{Replication}
use Rattle.gw_model.specs.Tables.{nowhere, place_in, block_found, position_if}
use Rattle.gw_model.specs.Well.{IsSeeded}
use Rattle.gw_model.specs.declared.places.Place.{Place}

pub after_place : (index before : ℕ) (lines : List Numbered) (number : ℕ) → after_in lines number ≡ (place_in index before lines number).after
after_place index before [] number = refl
after_place index before (line ∷ lines) number =
    grind (arith, common_steps, after_place (index + 1) (cond (is_block line) (before + 1) before) lines number)

position_here : (b : Bool) (index before : ℕ) (after : Option ℕ) →
    cond b (Some (before + 1)) None ≡ position_if (cond b (record { after = after; index = index; position = before + 1 }) nowhere).position
position_here true index before after =
    sym (ap (λ (t : Bool). cond t None (Some (before + 1))) (ne_eqb (before + 1) 0 (λ same. absurd (omega arith))))
position_here false index before after = refl

position_either : (b : Bool) (o rest : Option ℕ) (p q : Place) → o ≡ position_if p.position → rest ≡ position_if q.position →
    cond b o rest ≡ position_if (cond b p q).position
position_either true o rest p q e h = e
position_either false o rest p q e h = h

pub position_place : (index before : ℕ) (lines : List Numbered) (number : ℕ) →
    position_in before lines number ≡ position_if (place_in index before lines number).position
position_place index before [] number = refl
position_place index before (line ∷ lines) number =
    let next = cond (is_block line) (before + 1) before in
    let here : Place = cond (is_block line) (record { after = first_block lines; index = index; position = before + 1 }) nowhere in
    position_either (line.number == number) (cond (is_block line) (Some (before + 1)) None) (position_in next lines number) here
    (place_in (index + 1) next lines number) (position_here (is_block line) index before (first_block lines))
    (position_place (index + 1) next lines number)

-- the item after the first ones
item_behind : (front lines : List Numbered) (line : Numbered) → slice_get (front ++ line ∷ lines) (length front) ≡ Some line
item_behind [] lines line = refl
item_behind (x ∷ front) lines line = item_behind front lines line

-- a place at which the block stands that there is, if there is one
abbrev IsPlaced : List Numbered → Place → Option Block → Type 0
IsPlaced lines place None = place.position ≡ 0
IsPlaced lines place (Some block) = (0 < place.position) × (option_and_then block_of (slice_get lines place.index) ≡ Some block)

placed_here : (lines : List Numbered) (line : Numbered) (o : Option Block) → block_of line ≡ o → (index before : ℕ) (after : Option ℕ) →
    slice_get lines index ≡ Some line → IsPlaced lines (cond (is_some o) (record { after = after; index = index; position = before + 1 }) nowhere) o
placed_here lines line None is index before after there = refl
placed_here lines line (Some block) is index before after there = (omega arith, ap (option_and_then block_of) there ∙ is)

placed_either : (lines : List Numbered) (b : Bool) (line : Numbered) (rest : Option Numbered) (p q : Place) → IsPlaced lines p (block_of line) →
    IsPlaced lines q (option_and_then block_of rest) → IsPlaced lines (cond b p q) (option_and_then block_of (cond b (Some line) rest))
placed_either lines true line rest p q e h = e
placed_either lines false line rest p q e h = h

-- the place of an id, where the lines follow those in front
placed_behind : (front lines : List Numbered) (before number : ℕ) →
    IsPlaced (front ++ lines) (place_in (length front) before lines number) (option_and_then block_of (line_in lines number))
placed_behind front [] before number = refl
placed_behind front (line ∷ lines) before number =
    let next = cond (is_block line) (before + 1) before in
    let all = front ++ line ∷ lines in
    let behind : IsPlaced all (place_in (length front + 1) next lines number) (option_and_then block_of (line_in lines number)) =
    rw (append_assoc front (line ∷ []) lines, length_push front line) at (placed_behind (front ++ line ∷ []) lines next number) in
    let here : Place = cond (is_block line) (record { after = first_block lines; index = length front; position = before + 1 }) nowhere in
    placed_either all (line.number == number) line (line_in lines number) here (place_in (length front + 1) next lines number)
    (placed_here all line (block_of line) refl (length front) before (first_block lines) (item_behind front lines line)) behind

found_if : (lines : List Numbered) (place : Place) (o : Option Block) → IsPlaced lines place o → o ≡ block_found lines place
found_if lines place None is = sym (ap (λ (n : ℕ). cond (n == 0) None (option_and_then block_of (slice_get lines place.index))) is)
found_if lines place (Some block) is =
    sym (ap (λ (t : Bool). cond t None (option_and_then block_of (slice_get lines place.index)))
    (ne_eqb place.position 0 (λ same. absurd (let above = is.0 in omega arith))) ∙ is.1)

there_if : (lines : List Numbered) (place : Place) (o : Option Block) → IsPlaced lines place o → 0 < place.position →
    IsSome (option_and_then block_of (slice_get lines place.index))
there_if lines place None is above = absurd (omega arith)
there_if lines place (Some block) is above = subst (λ (o : Option Block). IsSome o) (sym is.1) refl

-- the block at the place of an id is the one with this id, and where the place has a position it is there
pub block_place : (lines : List Numbered) (number : ℕ) → option_and_then block_of (line_in lines number) ≡ block_found lines (place_in 0 0 lines number)
block_place lines number = found_if lines (place_in 0 0 lines number) (option_and_then block_of (line_in lines number)) (placed_behind [] lines 0 number)

pub block_there : (lines : List Numbered) (number : ℕ) → 0 < (place_in 0 0 lines number).position →
    IsSome (option_and_then block_of (slice_get lines (place_in 0 0 lines number).index))
block_there lines number = there_if lines (place_in 0 0 lines number) (option_and_then block_of (line_in lines number)) (placed_behind [] lines 0 number)

more_with : (b : Bool) (line : Numbered) (blocks lines : List Numbered) → length blocks ≤ length lines →
    length (cond b (line ∷ blocks) blocks) ≤ length lines + 1
more_with true line blocks lines h = omega arith
more_with false line blocks lines h = omega arith

pub no_more_blocks : (lines : List Numbered) → length (filter is_block lines) ≤ length lines
no_more_blocks [] = omega arith
no_more_blocks (line ∷ lines) =
    let more : length (filter is_block (line ∷ lines)) ≤ length lines + 1 =
    more_with (is_block line) line (filter is_block lines) lines (no_more_blocks lines) in
    omega arith

-- a seed that is found is the seed of a replication
pub seed_of_one : (rs : List Replication) (number seed : ℕ) → seed_in rs number ≡ Some seed →
    ((i : ℕ) (r : Replication) → slice_get rs i ≡ Some r → IsSeeded r) → (1 ≤ seed) × (seed ≤ 2147483646)
seed_of_one [] number seed e f = cc
seed_of_one (r ∷ rs) number seed e f =
    ⊎_elim (λ (t : (r.number == number) ≡ true).
    let found : Some r.seed ≡ Some seed = subst (λ (b : Bool). cond b (Some r.seed) (seed_in rs number) ≡ Some seed) t e in
    let same : r.seed ≡ seed = cc in
    let s = f zero r refl in
    subst (λ (n : ℕ). (1 ≤ n) × (n ≤ 2147483646)) same (s.least_seed, s.greatest_seed))
    (λ (t : (r.number == number) ≡ false).
    let found : seed_in rs number ≡ Some seed = subst (λ (b : Bool). cond b (Some r.seed) (seed_in rs number) ≡ Some seed) t e in
    seed_of_one rs number seed found (λ i. f (suc i)))
    (cases_Bool (r.number == number))

pub least_seed : (rs : List Replication) (number : ℕ) (o : Option ℕ) → o ≡ seed_in rs number →
    ((i : ℕ) (r : Replication) → slice_get rs i ≡ Some r → IsSeeded r) → IfSome o (λ s. 1 ≤ s)
least_seed rs number None e f = tt
least_seed rs number (Some s) e f = (seed_of_one rs number s (sym e) f).0

pub greatest_seed : (rs : List Replication) (number : ℕ) (o : Option ℕ) → o ≡ seed_in rs number →
    ((i : ℕ) (r : Replication) → slice_get rs i ≡ Some r → IsSeeded r) → IfSome o (λ s. s ≤ 2147483646)
greatest_seed rs number None e f = tt
greatest_seed rs number (Some s) e f = (seed_of_one rs number s (sym e) f).1
