-- The lines of a model, one after the other.
use Rattle.std.proofs.Common.{◌≡◌, ◌≢◌, ℕ, suc, ◌-◌, true, false, cond, ◌==◌, not, ◌&&◌, List, [], ◌∷◌, ◌++◌, length, take, drop, Result, Ok, refl, sym, ap, ◌∙◌, arith}
use Rattle.std.specs.Prelude.{nat_eq}
use Rattle.std.specs.List.{list_all}
use Rattle.std.specs.Cmp.Lexicographic.{pointwise}
use Rattle.std.proofs.lemmas.Bool.{and_parts, eqb-true, not-true, not-false, and_right}
use Rattle.std.proofs.lemmas.List.{append-nil, nil_from_length}
use Rattle.std.proofs.Math.Bool.{and-true}
use Rattle.gw_meaning.specs.declared.statement.Statement.{Statement}
use Rattle.gw_lines.specs.declared.class.Class.TheVariants as class
use Rattle.gw_lines.specs.declared.fault.FaultyLine.{FaultyLine}
use Rattle.gw_lines.specs.Classes.{is_in, front_of, rest_of, tail_of, with_byte}
use Rattle.gw_lines.specs.Spelling.{AreIn, Stops}
use Rattle.gw_lines.proofs.Fronts.{parts, front_all, rest_stops}
use Rattle.gw_lines.specs.Reading.{◌>>=◌}
use Rattle.gw_lines.specs.Models.{lines_of, chomped, begins_line_feed}

-- statements before those that reading gives
abbrev pub with_front : List Statement → Result (List Statement) FaultyLine → Result (List Statement) FaultyLine
with_front front read = read >>= λ statements. Ok (front ++ statements)

-- ---- one line

one_more : (b : ℕ) (bs : List ℕ) → (b == 10) ≡ false → (b == 13 && begins_line_feed bs) ≡ false → lines_of (b ∷ bs) ≡ with_byte b (lines_of bs)
one_more b bs e f = rw (e, f) refl

-- the first byte is no line feed, and neither are the others
none_first : (b : ℕ) (bs : List ℕ) → AreIn class.Line (b ∷ bs) → ((b == 10) ≡ false) × AreIn class.Line bs
none_first b bs h =
    let a = and_parts (not (b == 10)) (list_all (is_in class.Line) bs) h in
    (not-true (b == 10) a.0, a.1)

lines_front : (front rest : List ℕ) → AreIn class.Line front → lines_of (front ++ 10 ∷ rest) ≡ chomped front ∷ lines_of rest
lines_front [] rest h = refl
lines_front (b ∷ []) rest h =
    let e = (none_first b [] h).0 in
    rw e (elim (b == 13) as (λ p. cond (p && true) ([] ∷ lines_of rest) ((b ∷ []) ∷ lines_of rest) ≡ cond p [] (b ∷ []) ∷ lines_of rest) [
      | true ↦
          refl
      | false ↦ refl
    ])
lines_front (b ∷ c ∷ bs) rest h =
    let e = none_first b (c ∷ bs) h in
    let f = none_first c bs e.1 in
    let g : (b == 13 && (c == 10)) ≡ false = rw f.0 (and_right (b == 13) false refl) in
    one_more b (c ∷ bs ++ 10 ∷ rest) e.0 g ∙ ap (with_byte b) (lines_front (c ∷ bs) rest e.1)

lines_last : (b : ℕ) (bs : List ℕ) → AreIn class.Line (b ∷ bs) → lines_of (b ∷ bs) ≡ (b ∷ bs) ∷ []
lines_last b [] h = one_more b [] (none_first b [] h).0 (and_right (b == 13) false refl)
lines_last b (c ∷ bs) h =
    let e = none_first b (c ∷ bs) h in
    let f = none_first c bs e.1 in
    let g : (b == 13 && (c == 10)) ≡ false = rw f.0 (and_right (b == 13) false refl) in
    one_more b (c ∷ bs) e.0 g ∙ ap (with_byte b) (lines_last c bs e.1)

last_of : (bytes front : List ℕ) → bytes ≡ front → AreIn class.Line front → bytes ≢ [] → lines_of bytes ≡ front ∷ []
last_of bytes [] e h some = absurd (some e)
last_of bytes (b ∷ bs) e h some = ap lines_of e ∙ lines_last b bs h

first_of : (bytes front rest : List ℕ) → bytes ≡ front ++ rest → AreIn class.Line front → Stops class.Line rest → (length rest == 0) ≡ false
    → lines_of bytes ≡ chomped front ∷ lines_of (tail_of rest)
first_of bytes front [] e h s some = absurd cc
first_of bytes front (b ∷ bs) e h s some =
    let ten : b ≡ 10 = eqb-true b 10 (not-false (b == 10) s) in
    ap lines_of (e ∙ ap (λ (x : ℕ). front ++ x ∷ bs) ten) ∙ lines_front front bs h

-- a last line that has no end
pub last_line : (bytes : List ℕ) → (length (rest_of class.Line bytes) == 0) ≡ true → bytes ≢ []
    → lines_of bytes ≡ front_of class.Line bytes ∷ lines_of (tail_of (rest_of class.Line bytes))
last_line bytes none some =
    let nothing : rest_of class.Line bytes ≡ [] = nil_from_length (rest_of class.Line bytes) (eqb-true _ _ none) in
    let whole : bytes ≡ front_of class.Line bytes = parts class.Line bytes ∙ ap (λ (x : List ℕ). front_of class.Line bytes ++ x) nothing
    ∙ append-nil (front_of class.Line bytes) in
    last_of bytes (front_of class.Line bytes) whole (front_all class.Line bytes) some
    ∙ ap (λ (x : List ℕ). front_of class.Line bytes ∷ lines_of (tail_of x)) (sym nothing)

-- a line that has an end
pub ended_line : (bytes : List ℕ) → (length (rest_of class.Line bytes) == 0) ≡ false
    → lines_of bytes ≡ chomped (front_of class.Line bytes) ∷ lines_of (tail_of (rest_of class.Line bytes))
ended_line bytes some = first_of bytes (front_of class.Line bytes) (rest_of class.Line bytes) (parts class.Line bytes) (front_all class.Line bytes)
    (rest_stops class.Line bytes) some

-- ---- the carriage return

pub chomped_end : (line : List ℕ) → pointwise nat_eq (drop (length line - 1) line) (13 ∷ []) ≡ true → take (length line - 1) line ≡ chomped line
chomped_end [] h = refl
chomped_end (b ∷ []) h = rw (and_parts (b == 13) true h).0 refl
chomped_end (b ∷ c ∷ bs) h =
    let k : length (b ∷ c ∷ bs) - 1 ≡ suc (length (c ∷ bs) - 1) = omega arith in
    rw k (ap (λ (x : List ℕ). b ∷ x) (chomped_end (c ∷ bs) (rw k at h)))

pub whole_end : (line : List ℕ) → pointwise nat_eq (drop (length line - 1) line) (13 ∷ []) ≡ false → line ≡ chomped line
whole_end [] h = refl
whole_end (b ∷ []) h = rw (sym (and-true (b == 13)) ∙ h) refl
whole_end (b ∷ c ∷ bs) h =
    let k : length (b ∷ c ∷ bs) - 1 ≡ suc (length (c ∷ bs) - 1) = omega arith in
    ap (λ (x : List ℕ). b ∷ x) (whole_end (c ∷ bs) (rw k at h))
