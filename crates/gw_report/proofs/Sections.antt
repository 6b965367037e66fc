-- A section by the bytes of its lines.
use Rattle.std.proofs.Common.{◌≡◌, ℕ, ◌+◌, List, [], ◌∷◌, ◌++◌, Some, slice_get, map, drop, refl, ap, sym, ◌∙◌, append-nil, append_assoc}
use Rattle.std.specs.List.{flat_map}
use Rattle.std.proofs.lemmas.List.Concat.{flat_map-append}
use Rattle.gw_meaning.specs.Listing.{Listing}
use Rattle.gw_meaning.specs.declared.watched.Watched.TheVariants as watched
use Rattle.gw_meaning.specs.Changes.{retries}
use Rattle.gw_meaning.specs.Machine.{Machine, count_at}
use Rattle.gw_meaning.specs.declared.statement.Block.{Block}
use Rattle.gw_meaning.specs.declared.statement.Body.TheVariants as bodies
use Rattle.gw_meaning.specs.declared.statement.Numbered.{Numbered}
use Rattle.gw_report.specs.Blocks.{block_columns, block_line, block_lines}
use Rattle.gw_report.specs.Layout.{Column, heading_of, row_of, row_behind, rows_of, section_of, cell_of}
use Rattle.gw_report.specs.Cells.{if_any, under_heading}
use Rattle.gw_report.proofs.Rows.{got_drop}

-- a line has a byte
record HasByte (text : List ℕ) : Type 0 where
  first : ℕ
  rest : List ℕ
  is : text ≡ first ∷ rest

behind : (front text : List ℕ) → HasByte text → HasByte (front ++ text)
behind [] text h = h
behind (b ∷ bs) text h = record { first = b; rest = bs ++ text; is = refl }

row_behind_has : (before : List ℕ) (columns : List Column) (texts : List (List ℕ)) → HasByte (row_behind before columns texts)
row_behind_has before [] texts = record { first = 10; rest = []; is = refl }
row_behind_has before (column ∷ columns) [] = record { first = 10; rest = []; is = refl }
row_behind_has before (column ∷ columns) (text ∷ texts) = behind (before ++ cell_of column text) _ (row_behind_has (32 ∷ []) columns texts)

row_has : (columns : List Column) (row : List (List ℕ)) → HasByte (row_of columns row)
unfolding row_of
row_has columns row = row_behind_has [] columns row

any_shown : (heading text more : List ℕ) → HasByte text → if_any heading (text ++ more) ≡ under_heading heading (text ++ more)
any_shown heading text more h = rw h.is refl

pub section_shown : (columns : List Column) (rows : List (List (List ℕ))) → if_any (heading_of columns) (rows_of columns rows) ≡ section_of columns rows
section_shown columns [] = refl
section_shown columns (row ∷ rows) = any_shown (heading_of columns) (row_of columns row) (rows_of columns rows) (row_has columns row)

-- lines that lists of rows make, one list after another
pub rows_joined : {X : Type 0} (columns : List Column) (f : X → List (List (List ℕ))) (xs : List X) →
    flat_map (λ x. rows_of columns (f x)) xs ≡ rows_of columns (flat_map f xs)
rows_joined columns f [] = refl
rows_joined columns f (x ∷ xs) = rw (flat_map-append (row_of columns) (f x) (flat_map f xs), rows_joined columns f xs) refl

pub block_shown : (t : Listing) (s : Machine) (line : Numbered) (block : Block) → line.statement.body ≡ bodies.Block block
    → rows_of block_columns (block_lines t s line) ≡ row_of block_columns (block_line t line block (count_at s.counts line.number) (retries s (watched.Counts line.number)))
block_shown t s line block h = rw (h, append-nil) refl

-- lines of one row each, over what is read from each element
pub rows_mapped : {X Y : Type 0} (columns : List Column) (f : Y → List (List ℕ)) (g : X → Y) (xs : List X) →
    flat_map (λ x. row_of columns (f (g x))) xs ≡ rows_of columns (map f (map g xs))
rows_mapped columns f g [] = refl
rows_mapped columns f g (x ∷ xs) = ap (λ l. row_of columns (f (g x)) ++ l) (rows_mapped columns f g xs)

-- a row more: in front of what is left stands the element that was read
pub row_more : {X : Type 0} (columns : List Column) (f : X → List (List ℕ)) (xs : List X) (i : ℕ) (x : X) (before after whole : List ℕ) →
    slice_get xs i ≡ Some x → after ≡ before ++ row_of columns (f x) →
    before ++ rows_of columns (map f (drop i xs)) ≡ whole → after ++ rows_of columns (map f (drop (i + 1) xs)) ≡ whole
row_more columns f xs i x before after whole here put left =
    ap (λ l. l ++ rows_of columns (map f (drop (i + 1) xs))) put
    ∙ append_assoc before (row_of columns (f x)) (rows_of columns (map f (drop (i + 1) xs)))
    ∙ sym (ap (λ ys. before ++ rows_of columns (map f ys)) (got_drop xs i x here))
    ∙ left

-- several rows more
pub rows_more : {X : Type 0} (columns : List Column) (f : X → List (List (List ℕ))) (xs : List X) (i : ℕ) (x : X) (before after whole : List ℕ) →
    slice_get xs i ≡ Some x → after ≡ before ++ rows_of columns (f x) →
    before ++ rows_of columns (flat_map f (drop i xs)) ≡ whole → after ++ rows_of columns (flat_map f (drop (i + 1) xs)) ≡ whole
rows_more columns f xs i x before after whole here put left =
    ap (λ l. l ++ rows_of columns (flat_map f (drop (i + 1) xs))) put
    ∙ append_assoc before (rows_of columns (f x)) (rows_of columns (flat_map f (drop (i + 1) xs)))
    ∙ sym (ap (λ l. before ++ l) (flat_map-append (row_of columns) (f x) (flat_map f (drop (i + 1) xs))))
    ∙ sym (ap (λ ys. before ++ rows_of columns (flat_map f ys)) (got_drop xs i x here))
    ∙ left
