-- Texts that are written into a line of blanks.
use Rattle.std.proofs.Common.{◌≡◌, ℕ, ◌+◌, ◌-◌, ◌≤◌, List, ◌++◌, length, take, drop, refl, ap, sym, ◌∙◌, arith}
use Rattle.std.proofs.Common.{append_assoc, length-take-le, length-drop, take-add, take_at, drop_at, drop-drop}
use Rattle.std.proofs.lemmas.List.{drop-replicate, take-replicate}
use Rattle.std.proofs.lemmas.Slice.{take-put_mid, drop-put_mid}
use borrow.Rule.Slice.PartMut.{put_mid, same_len_mid}
use Rattle.gw_report.specs.declared.column.Side.{Side}
use Rattle.gw_report.specs.declared.column.Side.TheVariants.{Left, Right}
use Rattle.gw_report.specs.Layout.{blanks, fitted}
use Rattle.gw_report.specs.Laid.{Laid, IsBlankFrom}

pub blank_from : (line : List ℕ) (from to : ℕ) → from ≤ to → IsBlankFrom from line → IsBlankFrom to line
blank_from line from to order blank =
    let place : to ≡ from + (to - from) = omega arith in
    let left : length line - from - (to - from) ≡ length line - to = omega arith in
    ap (λ n. drop n line) place ∙ sym (drop-drop (to - from) from line) ∙ ap (drop (to - from)) blank ∙
    drop-replicate (to - from) (length line - from) 32 ∙ ap blanks left

-- after a gap
pub gap_blank : {items line : List ℕ} (end gap : ℕ) → line ≡ items → IsBlankFrom end items → IsBlankFrom (end + gap) line
gap_blank {items} end gap is blank = rw is (blank_from items end (end + gap) (omega arith) blank)

pub blank_to : (line : List ℕ) (from to : ℕ) → from ≤ to → to ≤ length line → IsBlankFrom from line → take to line ≡ take from line ++ blanks (to - from)
blank_to line from to order within blank =
    let place : to ≡ from + (to - from) = omega arith in
    ap (λ n. take n line) place ∙ take-add from (to - from) line ∙ ap (λ l. take from line ++ take (to - from) l) blank ∙
    ap (λ l. take from line ++ l) (take-replicate (to - from) (length line - from) 32 (omega arith))

-- a text on the left of a cell
left_laid : (line text new : List ℕ) (from end k : ℕ) → from ≤ end → end ≤ length line → length text ≤ end - from → IsBlankFrom from line →
    k ≡ length text → new ≡ text → Laid line (put_mid from k line new) from (text ++ blanks (end - from - length text)) end
left_laid line text new from end k order within fits blank size is =
    let long : length new ≡ length text = ap length is in
    let whole = put_mid from k line new in
    let same : length whole ≡ length line =
    same_len_mid from k line new (omega (arith, length-take-le k (drop from line) (omega (arith, length-drop from line)))) in
    let front : take (from + k) whole ≡ take from line ++ new = take-put_mid from k line new (from + k) (omega arith) (omega arith) in
    let back : drop (from + k) whole ≡ drop (from + k) line = drop-put_mid from k line new (from + k) (omega arith) (omega arith) (omega arith) in
    let blank' : IsBlankFrom (from + k) whole = back ∙ blank_from line from (from + k) (omega arith) blank ∙ ap (λ n. blanks (n - (from + k))) (sym same) in
    let spare : end - (from + k) ≡ end - from - length text = omega arith in
    record {
      bytes = blank_to whole (from + k) end (omega arith) (omega arith) blank' ∙
          ap (λ l. l ++ blanks (end - (from + k))) (front ∙ ap (λ l. take from line ++ l) is)
          ∙ append_assoc (take from line) text (blanks (end - (from + k))) ∙ ap (λ n. take from line ++ (text ++ blanks n)) spare;
      behind = drop-put_mid from k line new end (omega arith) (omega arith) (omega arith);
      len = same;
    }

-- a text on the right of a cell
right_laid : (line text new : List ℕ) (from start end k : ℕ) → start ≡ end - length text → from ≤ end → end ≤ length line → length text ≤ end - from →
    IsBlankFrom from line → k ≡ length text → new ≡ text → Laid line (put_mid start k line new) from (blanks (end - from - length text) ++ text) end
right_laid line text new from start end k begins order within fits blank size is =
    let long : length new ≡ length text = ap length is in
    let spare : start - from ≡ end - from - length text = omega arith in
    record {
      bytes = take-put_mid start k line new end (omega arith) (omega arith) ∙ ap (λ l. take start line ++ l) is ∙
          ap (λ l. l ++ text) (blank_to line from start (omega arith) (omega arith) blank) ∙ append_assoc (take from line) (blanks (start - from)) text ∙
          ap (λ n. take from line ++ (blanks n ++ text)) spare;
      behind = drop-put_mid start k line new end (omega arith) (omega arith) (omega arith);
      len = same_len_mid start k line new (omega (arith, length-take-le k (drop start line) (omega (arith, length-drop start line))));
    }

pub text_on_left : (line text new : List ℕ) (from start end k : ℕ) (side : Side) → side ≡ Left → start ≡ from → from ≤ end → end ≤ length line →
    length text ≤ end - from → IsBlankFrom from line → k ≡ length text → new ≡ text →
    Laid line (put_mid start k line new) from (fitted side (end - from) text) end
text_on_left line text new from start end k side left begins order within fits blank size is =
    rw (left, begins) (left_laid line text new from end k order within fits blank size is)

pub text_on_right : (line text new : List ℕ) (from start end k : ℕ) (side : Side) → side ≡ Right → start ≡ end - length text → from ≤ end → end ≤ length line →
    length text ≤ end - from → IsBlankFrom from line → k ≡ length text → new ≡ text →
    Laid line (put_mid start k line new) from (fitted side (end - from) text) end
text_on_right line text new from start end k side right begins order within fits blank size is =
    rw right (right_laid line text new from start end k begins order within fits blank size is)

-- digits that are written from the end of a cell
pub digits_laid : (old new digits : List ℕ) (from start end : ℕ) → from ≤ start → start + length digits ≡ end → end ≤ length old → IsBlankFrom from old →
    drop start new ≡ digits ++ drop end old → take start new ≡ take start old → length new ≡ length old →
    Laid old new from (blanks (end - from - length digits) ++ digits) end
digits_laid old new digits from start end order long within blank written before same =
    let spare : start - from ≡ end - from - length digits = omega arith in
    record {
      bytes = ap (λ n. take n new) (sym long) ∙ take-add start (length digits) new ∙ ap (λ l. take start new ++ take (length digits) l) written ∙
          ap (λ l. take start new ++ l) (take_at digits (drop end old) (length digits) refl) ∙
          ap (λ l. l ++ digits) (before ∙ blank_to old from start order (omega arith) blank) ∙ append_assoc (take from old) (blanks (start - from)) digits ∙
          ap (λ n. take from old ++ (blanks n ++ digits)) spare;
      behind = ap (λ n. drop n new) (sym long) ∙ sym (drop-drop (length digits) start new) ∙ ap (drop (length digits)) written ∙
          drop_at digits (drop end old) (length digits) refl;
      len = same;
    }

-- after what is laid out there are blanks
pub laid_blank : (old new text : List ℕ) (from to : ℕ) → from ≤ to → IsBlankFrom from old → Laid old new from text to → IsBlankFrom to new
laid_blank old new text from to order blank laid = laid.behind ∙ blank_from old from to order blank ∙ ap (λ n. blanks (n - to)) (sym laid.len)

-- a cell after a gap
pub laid_more : (line new cell : List ℕ) (end gap to : ℕ) → end + gap ≤ length line → IsBlankFrom end line → Laid line new (end + gap) cell to →
    take to new ≡ take end line ++ (blanks gap ++ cell)
laid_more line new cell end gap to within blank laid =
    let wide : end + gap - end ≡ gap = omega arith in
    laid.bytes ∙ ap (λ l. l ++ cell) (blank_to line end (end + gap) (omega arith) within blank ∙ ap (λ n. take end line ++ blanks n) wide) ∙
    append_assoc (take end line) (blanks gap) cell

-- a cell of a sheet, after a gap: the line is the sheet's list whole, and stands there then
pub cell_laid : {items line new : List ℕ} {len : ℕ} (side : Side) (text : List ℕ) (end gap width : ℕ) → line ≡ items → len ≡ length items →
    end + gap + width ≤ length items → IsBlankFrom end items →
    Laid line new (end + gap) (fitted side (end + gap + width - (end + gap)) text) (end + gap + width) →
    let stands = take len (new ++ drop (length new) items) in
    ((end + gap + width ≤ length stands) × IsBlankFrom (end + gap + width) stands) ×
    (take (end + gap + width) stands ≡ take end items ++ (blanks gap ++ fitted side width text))
cell_laid {items} {new = new} {len = len} side text end gap width is size within blank laid =
    let long : length new ≡ len = laid.len ∙ ap length is ∙ sym size in
    let wide : end + gap + width - (end + gap) ≡ width = omega arith in
    let laid' : Laid items new (end + gap) (fitted side width text) (end + gap + width) = rw (is, wide) at laid in
    let behind = laid_blank items new (fitted side width text) (end + gap) (end + gap + width) (omega arith)
    (blank_from items end (end + gap) (omega arith) blank) laid' in
    rw (take_at new (drop (length new) items) len long)
    ((omega (arith, long, size), behind), laid_more items new (fitted side width text) end gap (end + gap + width) (omega arith) blank laid')
