-- A storage whose capacity is written in decimal digits is spelled so.
use Rattle.std.proofs.Common.{◌≡◌, ℕ, ◌≤◌, ◌<◌, ◌==◌, true, false, List, [], ◌∷◌, ◌++◌, length, Some, refl, sym, ap, subst, ◌∙◌, arith}
use Rattle.std.specs.Prelude.{decimal, codes}
use Rattle.std.specs.List.{list_all}
use Rattle.std.specs.Char.{is_ascii_digit, to_ascii_uppercase}
use Rattle.std.proofs.lemmas.Bool.{and_parts}
use Rattle.std.proofs.lemmas.Bool.Decides.{nat_tests}
use Rattle.std.proofs.lemmas.List.{length-append}
use Rattle.std.proofs.lemmas.Fmt.{decimal_nonempty, length-decimal-le}
use Rattle.gw_names.specs.declared.verb.DefinitionVerb.TheVariants as definitions
use Rattle.gw_names.specs.declared.verb.Verb.TheVariants as verbs
use Rattle.gw_names.specs.Words.{upper_of}
use Rattle.gw_meaning.specs.declared.statement.Body.TheVariants as bodies
use Rattle.gw_meaning.specs.declared.statement.Definition.TheVariants as defined
use Rattle.gw_meaning.proofs.Texts.{name_is_short}
use Rattle.gw_lines.specs.declared.operand.Operand.TheVariants as operands
use Rattle.gw_lines.specs.Classes.{with_byte}
use Rattle.gw_meaning.specs.declared.auxiliary.Auxiliary.TheVariants as auxiliaries
use Rattle.gw_lines.specs.Parts.{split, parts_of, is_missing}
use Rattle.gw_lines.specs.Forms.{a_count}
use Rattle.gw_lines.specs.Listed.{behind_text}
use Rattle.gw_lines.specs.Spelling.{Digits, first_digit, next_digit, a_whole, SpellsAll, no_form, stands, is_part, Part, nothing, mark, without_operator, named, Says}
use Rattle.gw_lines.specs.Printed.{storage_of, StoragesSpell}
use Rattle.gw_lines.proofs.Bytes.{Pass, both_pass, one_passes, digits_pass}
use Rattle.gw_lines.proofs.Decimals.{decimal_digits}
use Rattle.gw_lines.proofs.Fronts.{nonzero}
use Rattle.gw_lines.proofs.KeptAgain.{last_again, spaced, spaced_length}
use Rattle.gw_lines.proofs.PrintedWords.{plains}
use Rattle.gw_lines.proofs.Printed.{is_printed}
use Rattle.gw_lines.proofs.Parts.{split_on}

-- ---- a storage whose capacity is written in decimal digits

pub digit_bytes : {text : List ℕ} {n : ℕ} → Digits text n → Pass is_ascii_digit text
digit_bytes (first_digit b h) = one_passes is_ascii_digit b h
digit_bytes (next_digit text n b d h) = both_pass is_ascii_digit text (b ∷ []) (digit_bytes d) (one_passes is_ascii_digit b h)

pub digits_part : (text : List ℕ) → Pass is_ascii_digit text → Part 0 text text 0
digits_part [] h = nothing 0
digits_part (b ∷ bs) h =
    let a = and_parts (is_ascii_digit b) (list_all is_ascii_digit bs) h in mark 0 b bs bs 0 (digit_part b a.0) (digits_part bs a.1)
  where
    digit_part : (b : ℕ) → is_ascii_digit b ≡ true → is_part b ≡ true
    digit_part b h = grind (arith, nat_tests)

pub digits_upper : (text : List ℕ) → Pass is_ascii_digit text → upper_of text ≡ text
digits_upper [] h = refl
digits_upper (b ∷ bs) h =
    let a = and_parts (is_ascii_digit b) (list_all is_ascii_digit bs) h in rw (digit_upper b a.0, digits_upper bs a.1) refl
  where
    digit_upper : (b : ℕ) → is_ascii_digit b ≡ true → to_ascii_uppercase b ≡ b
    digit_upper b h = grind (arith, nat_tests)

no_comma : (b : ℕ) → is_ascii_digit b ≡ true → (b == 44) ≡ false
no_comma b h = grind (arith, nat_tests)

pub digits_alone : (b : ℕ) (bs : List ℕ) → Pass is_ascii_digit (b ∷ bs) → split (b ∷ bs) ≡ (b ∷ bs) ∷ []
digits_alone b [] h = let a = and_parts (is_ascii_digit b) true h in rw (no_comma b a.0) refl
digits_alone b (c ∷ cs) h =
    let a = and_parts (is_ascii_digit b) (list_all is_ascii_digit (c ∷ cs)) h in
    split_on b (c ∷ cs) (no_comma b a.0) ∙ ap (with_byte b) (digits_alone c cs a.1)

pub digits_given : (text : List ℕ) → 0 < length text → Pass is_ascii_digit text
    → (parts_of text ≡ text ∷ []) × (is_missing a_count text ≡ false)
digits_given [] some h = absurd (let f = some in omega arith)
digits_given (b ∷ bs) some h = (digits_alone b bs h, nonzero (length bs))

pub storage_says : (amount : ℕ) → 1 ≤ amount → amount ≤ 1000000000
    → Says (verbs.Definition definitions.Storage) auxiliaries.Absent (parts_of (decimal amount)) (bodies.Definition (defined.Storage amount))
storage_says amount from to =
    let d = decimal_digits amount (omega arith) in
    let g = digits_given (decimal amount) (decimal_nonempty amount (omega arith)) (digit_bytes d) in
    record {
      forms = a_count ∷ [];
      are_forms = refl;
      of_verb = refl;
      has_auxiliary = tt;
      operands = subst (λ (ps : List (List ℕ)). SpellsAll (a_count ∷ []) ps (Some (operands.Whole amount) ∷ [])) (sym g.0)
          (stands a_count [] (decimal amount ∷ []) (Some (operands.Whole amount)) [] refl g.1
          (a_whole 1000000000 (decimal amount) amount (record { digits = d; small = to }) from) no_form);
      fit = refl;
      enough = refl;
      pointless = refl;
    }

pub storages_spell : StoragesSpell
storages_spell name amount e from to =
    let d = decimal_digits amount (omega arith) in
    let b = digit_bytes d in
    let l = name_is_short name name e in
    let k = length-decimal-le 10 amount (omega arith) (omega arith) (omega arith) in
    let m = spaced_length (decimal amount) in
    let f1 = length-append name ((32 ∷ []) ++ (codes "STORAGE" ++ behind_text (decimal amount))) in
    let f2 = length-append (codes "STORAGE") (behind_text (decimal amount)) in
    let p = is_printed (storage_of name amount) (verbs.Definition definitions.Storage) (record {
      word = Some name;
      label = named name (verbs.Definition definitions.Storage) name refl e;
      follows = without_operator (verbs.Definition definitions.Storage) (behind_text (decimal amount)) (decimal amount) refl
          (spaced (decimal amount) (last_again (decimal amount) (digits_part (decimal amount) b)));
      upper = digits_upper (decimal amount) b;
      plain = digits_pass plains d;
      auxiliary = auxiliaries.Absent;
      is_auxiliary = refl;
      body = storage_says amount from to;
      short = omega arith;
    }) in p.spells
