-- A row, column by column; a number in a cell.
use Rattle.std.proofs.Common.{◌≡◌, ℕ, ℤ, pos, negsuc, ap, ◌∙◌, ◌+◌, ◌<◌, List, [], ◌∷◌, ◌++◌}
use Rattle.std.proofs.Common.{append_assoc, ◌⊎◌, Some, None, slice_get, length, drop, refl, inl, inr, add-one, arith}
use Rattle.std.proofs.lemmas.List.{drop_more}
use Rattle.std.proofs.lemmas.Option.{slice_get_within, slice_get-get_or, get_or_from_slice_get}
use Rattle.std.specs.Fmt.{decimal, signed_decimal}
use Rattle.gw_report.specs.Layout.{Column, row_behind}
use Rattle.gw_report.specs.Cells.{signed}

-- a row ends where there is no column left, or no text
ended_texts : (before : List ℕ) (columns : List Column) → row_behind before columns [] ≡ 10 ∷ []
ended_texts before [] = refl
ended_texts before (column ∷ columns) = refl

pub row_ended : (before : List ℕ) (columns : List Column) (texts : List (List ℕ)) → (columns ≡ []) ⊎ (texts ≡ []) → row_behind before columns texts ≡ 10 ∷ []
row_ended before columns texts h = elim h [
  | inl none ↦ rw none refl
  | inr none ↦ rw none (ended_texts before columns)
]

-- a number with its sign is std's
pub signed_is : (z : ℤ) → signed z ≡ signed_decimal z
signed_is (pos n) = refl
signed_is (negsuc n) = ap (λ m. 45 ∷ decimal m) (add-one n)

-- an element that is read, in front of those after it
pub got_drop : {X : Type 0} (xs : List X) (i : ℕ) (x : X) → slice_get xs i ≡ Some x → drop i xs ≡ x ∷ drop (i + 1) xs
got_drop xs i x h =
    let within = slice_get_within xs i x h in
    drop_more xs i x within ∙ ap (λ y. y ∷ drop (i + 1) xs) (get_or_from_slice_get xs i x x h)

-- within a list there is an element
pub none_left : {X : Type 0} (xs : List X) (i : ℕ) → i < length xs → slice_get xs i ≡ None → ⊥
none_left [] i h none = omega arith
none_left (x ∷ xs) i h none = let some = slice_get-get_or (x ∷ xs) i x h in cc

-- a cell more, in front of what is left of the row
pub cell_then : (before gap cell rest after : List ℕ) → after ≡ before ++ (gap ++ cell) → after ++ rest ≡ before ++ (gap ++ (cell ++ rest))
cell_then before gap cell rest after put =
    ap (λ l. l ++ rest) put ∙ append_assoc before (gap ++ cell) rest ∙ ap (λ l. before ++ l) (append_assoc gap cell rest)
