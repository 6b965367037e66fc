-- A line: what is read is spelled so, and what is spelled so is read.
use Rattle.std.proofs.Common.{◌≡◌, ℕ, ◌≤◌, false, List, [], ◌∷◌, ◌++◌, length, Some, Result, Ok, Err, refl, ap, subst, ◌∙◌, inl, inr, arith, ◌<◌, true, None}
use Rattle.std.specs.Prelude.{nat_lt}
use Rattle.std.proofs.lemmas.Bool.Decides.{nat_tests}
use Rattle.std.proofs.lemmas.Bool.{cases_Bool}
use Rattle.gw_meaning.specs.declared.statement.Statement.{Statement}
use Rattle.gw_lines.specs.declared.class.Class.TheVariants as class
use Rattle.gw_lines.specs.declared.fault.LineFault.{LineFault}
use Rattle.gw_lines.specs.declared.fault.LineFault.TheVariants as faults
use Rattle.gw_lines.specs.Reading.{◌>>=◌}
use Rattle.gw_lines.specs.Classes.{front_of, rest_of}
use Rattle.gw_lines.specs.Lines.{coded_of, behind_number, code_of, is_remark, line_in, line_of, wanted, statement_of}
use Rattle.gw_lines.specs.Spelling.{Stops, Cut, HasWords, Spells}
use Rattle.gw_lines.proofs.Fronts.{front_again, rest_again, parts, front_all, rest_stops}
use Rattle.gw_lines.proofs.Results.{done}
use Rattle.gw_lines.proofs.Heads.{numbering_of, numbering_is, coded_found, coded_again}

pub short_is : (n : ℕ) → nat_lt 250 n ≡ false → n ≤ 250
short_is n h = grind (arith, nat_tests)

pub long_is : (n : ℕ) → nat_lt 250 n ≡ true → 250 < n
long_is n h = grind (arith, nat_tests)

pub short_again : (n : ℕ) → n ≤ 250 → nat_lt 250 n ≡ false
short_again n h = grind (arith, nat_tests)

pub cut_of : (text : List ℕ) → length text ≤ 250 → Cut text (code_of text)
unfolding code_of
cut_of text h =
    let rest = rest_of class.Blank text in
    record {
      blanks = front_of class.Blank text;
      comment = rest_of class.Code rest;
      parts = parts class.Blank text ∙ ap (λ (t : List ℕ). front_of class.Blank text ++ t) (parts class.Code rest);
      are_blanks = front_all class.Blank text;
      is_code = front_all class.Code rest;
      is_comment = rest_stops class.Code rest;
      begins = subst (λ (t : List ℕ). Stops class.Blank t) (parts class.Code rest) (rest_stops class.Blank text);
      short = h;
    }

pub cut_is : (text code : List ℕ) → Cut text code → code_of text ≡ code
unfolding code_of
cut_is text code c =
    ap (λ (t : List ℕ). front_of class.Code (rest_of class.Blank t)) c.parts
    ∙ ap (front_of class.Code) (rest_again class.Blank c.blanks (code ++ c.comment) c.are_blanks c.begins)
    ∙ front_again class.Code code c.comment c.is_code c.is_comment

pub front_stops : (a b : List ℕ) → Stops class.Blank (a ++ b) → Stops class.Blank a
front_stops [] b h = tt
front_stops (x ∷ xs) b h = h

pub words_of : (text : List ℕ) → length text ≤ 250 → is_remark (code_of text) ≡ false → HasWords text (behind_number (code_of text))
words_of text h r =
    let c = cut_of text h in
    record { code = code_of text; cut = c; is_statement = r; numbering = numbering_of (code_of text) (front_stops (code_of text) c.comment c.begins) }

-- what a line is, and what it gives
pub data LineIs (text : List ℕ) : Type 0 where
  is_long : 250 < length text → line_of text ≡ Err faults.TooLong → LineIs text
  no_words : Cut text (code_of text) → is_remark (code_of text) ≡ true → line_of text ≡ Ok None → LineIs text
  has_words : (words : List ℕ) → HasWords text words → line_of text ≡ (coded_of words >>= λ s. done (Some s)) → LineIs text

pub line_is : (text : List ℕ) → LineIs text
unfolding line_of line_in
line_is text =
    elim (cases_Bool (nat_lt 250 (length text))) [
      | inl long ↦ is_long (long_is (length text) long) (rw long refl)
      | inr short ↦ let fits = short_is (length text) short in
          elim (cases_Bool (is_remark (code_of text))) [
            | inl remark ↦ no_words (cut_of text fits) remark (rw (short, remark) refl)
            | inr code ↦ has_words (behind_number (code_of text)) (words_of text fits code) (rw (short, code) refl)
          ]
    ]

one_given : (r : Result Statement LineFault) (s : Statement) → (r >>= λ x. done (Some x)) >>= wanted ≡ Ok s → r ≡ Ok s
one_given (Ok x) s e = e
one_given (Err f) s e = absurd cc

pub spells_found : (text : List ℕ) (s : Statement) → statement_of text ≡ Ok s → Spells text s
unfolding statement_of
spells_found text s e =
    elim (line_is text) [
      | is_long long given ↦ absurd (let f = rw given at e in cc)
      | no_words cut remark given ↦ absurd (let f = rw given at e in cc)
      | has_words words has given ↦ record { words = words; has_words = has; coded = coded_found words s (one_given (coded_of words) s (rw given at e)) }
    ]

given_again : (r : Result Statement LineFault) → (r >>= λ x. done (Some x)) >>= wanted ≡ r
given_again (Ok x) = refl
given_again (Err f) = refl

-- a line that has words gives what they give
pub words_are : (text words : List ℕ) → HasWords text words → statement_of text ≡ coded_of words
unfolding statement_of line_of line_in
words_are text words h =
    let code = cut_is text h.code h.cut in
    rw (short_again (length text) h.cut.short, code, h.is_statement, numbering_is h.numbering) (given_again (coded_of words))

pub spells_again : (text : List ℕ) (s : Statement) → Spells text s → statement_of text ≡ Ok s
spells_again text s h = words_are text h.words h.has_words ∙ coded_again h.words s h.coded
