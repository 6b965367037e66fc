-- The bytes of an operand list that is spelled: none of them begins a comment or ends a line.
use Rattle.std.proofs.Common.{◌≡◌, ℕ, zero, suc, ◌-◌, ◌==◌, ◌&&◌, Bool, true, not, List, [], ◌∷◌, ◌++◌, length, take, Option, Some, None, refl, sym, ap, subst, ◌∙◌, inl, inr, arith}
use Rattle.std.specs.Prelude.{slice_get, nat_lt}
use Rattle.std.specs.List.{list_all}
use Rattle.std.specs.Str.{bytes_eq}
use Rattle.std.proofs.lemmas.Bool.{and_parts, cases_Bool}
use Rattle.std.proofs.lemmas.Bool.Decides.{nat_tests}
use Rattle.std.proofs.lemmas.List.Folds.{list_all-append}
use Rattle.std.proofs.lemmas.Slice.Eq.{bytes_eq-Decides}
use Rattle.gw_names.specs.declared.verb.Verb.{Verb}
use Rattle.gw_names.specs.Names.{is_name_byte}
use Rattle.gw_expr.specs.Expressions.{Expression}
use Rattle.gw_expr.specs.declared.token.Operator.{Operator}
use Rattle.gw_meaning.specs.declared.auxiliary.Auxiliary.{Auxiliary}
use Rattle.gw_meaning.specs.declared.auxiliary.Auxiliary.TheVariants as auxiliaries
use Rattle.gw_meaning.specs.declared.auxiliary.Condition.{Condition}
use Rattle.gw_meaning.specs.declared.auxiliary.Condition.TheVariants as conditions
use Rattle.gw_meaning.specs.declared.auxiliary.Switching.{Switching}
use Rattle.gw_meaning.specs.declared.auxiliary.Switching.TheVariants as switchings
use Rattle.gw_lines.specs.declared.form.Form.{Form}
use Rattle.gw_lines.specs.declared.form.Kind.{Kind}
use Rattle.gw_lines.specs.declared.operand.Operand.{Operand}
use Rattle.gw_lines.specs.declared.class.Class.TheVariants as class
use Rattle.gw_lines.specs.Classes.{is_in, is_blank, with_byte, front_of, rest_of, word_of, behind_word}
use Rattle.gw_lines.specs.Parts.{split, parts_of, part_of, others_of}
use Rattle.gw_lines.specs.Auxiliaries as signs
use Rattle.gw_lines.specs.Auxiliaries.{operators, operator_word, takes_operator, operator_of, takes_sign, last_byte, sign_in, cut_off, auxiliary_of, bare_parts}
use Rattle.gw_lines.specs.Spelling as spelling
use Rattle.gw_lines.specs.Spelling.{AreIn, Stops, Digits, first_digit, next_digit, Value, without_sign, with_sign, Rank, Multiplies, times, quotient, remainder, Adds, plus, minus, SpellsExpression, a_single, with_minus, in_parentheses, a_factor, multiplied, a_product, summed, SpellsOperand, absent, a_value, a_constant, named_value, attribute_value, computed_value, a_whole, a_key, named_entity, numbered_entity, attribute_entity, computed_entity, a_fraction, a_label, a_definition, a_table, an_expression, continuous, discrete, first_in_first_out, last_in_first_out, unbounded, a_bound, SpellsAll, no_form, stands, unwritten, is_part, Part, nothing, mark, opening, closing, stray, inner_comma, inner_blank, Written, none_written, last_written, never_closed, more_written, Head, first_word, second_word, Label, no_label, named, ArePlain, Numbering, unnumbered, Says, Cut, HasWords, Coded, Spells}
use Rattle.gw_lines.proofs.Fronts.{front_all, parts}
use Rattle.gw_lines.proofs.Results.{found_so, some_is}
use Rattle.gw_lines.proofs.Bytes.{Pass, Takes, both_pass, one_passes, next_passes, digits_pass, named_passes, attribute_passes, atom_passes}

-- ---- the bytes of an operand list

-- a byte that no operand has: `;` and what ends a line, of an edit or of a model
abbrev pub is_own : ℕ → Bool
is_own b = not (b == 59) && (not (b == 124) && (not (b == 10) && not (b == 13)))

pub own_name : (b : ℕ) → is_name_byte b ≡ true → is_own b ≡ true
own_name b h = grind (arith, nat_tests)

pub own : Takes is_own
own = record { name = own_name; dollar = refl }

pub multiplies_own : {b : ℕ} {o : Operator} → Multiplies b o → is_own b ≡ true
multiplies_own times = refl
multiplies_own quotient = refl
multiplies_own remainder = refl

pub adds_own : {b : ℕ} {o : Operator} → Adds b o → is_own b ≡ true
adds_own plus = refl
adds_own minus = refl

pub closed_own : (text : List ℕ) → Pass is_own text → Pass is_own (40 ∷ (text ++ 41 ∷ []))
closed_own text h = next_passes is_own 40 (text ++ 41 ∷ []) refl (both_pass is_own text (41 ∷ []) h refl)

pub expression_own : {rank : Rank} {room : ℕ} {text : List ℕ} {e : Expression} → SpellsExpression rank room text e → Pass is_own text
expression_own (a_single room text a s) = atom_passes own s
expression_own (with_minus room text e s) = next_passes is_own 45 text refl (expression_own s)
expression_own (in_parentheses room text e s) = closed_own text (expression_own s)
expression_own (a_factor room text e s) = expression_own s
expression_own (multiplied room left e b o right f l m r) =
    both_pass is_own left (b ∷ right) (expression_own l) (next_passes is_own b right (multiplies_own m) (expression_own r))
expression_own (a_product room text e s) = expression_own s
expression_own (summed room left e b o right f l m r) =
    both_pass is_own left (b ∷ right) (expression_own l) (next_passes is_own b right (adds_own m) (expression_own r))

pub value_own : {text : List ℕ} {z : _} → Value text z → Pass is_own text
value_own (without_sign text n h) = digits_pass own h.digits
value_own (with_sign text n h) = next_passes is_own 45 text refl (digits_pass own h.digits)

pub pointed_own : (whole decimals : List ℕ) → Pass is_own (whole ++ decimals) → Pass is_own (whole ++ 46 ∷ decimals)
pointed_own [] decimals h = next_passes is_own 46 decimals refl h
pointed_own (b ∷ bs) decimals h =
    let a = and_parts (is_own b) (list_all is_own (bs ++ decimals)) h in
    next_passes is_own b (bs ++ 46 ∷ decimals) a.0 (pointed_own bs decimals a.1)

pub fraction_own : {most : ℕ} {text : List ℕ} {n : ℕ} → spelling.Fraction most text n → Pass is_own text
fraction_own f = subst (Pass is_own) (sym f.point) (pointed_own f.whole f.decimals (digits_pass own f.digits))

pub operand_own : {kind : Kind} {text : List ℕ} {o : Option Operand} → SpellsOperand kind text o → Pass is_own text
operand_own (absent kind) = refl
operand_own (a_value text z v) = value_own v
operand_own (a_constant text z v) = value_own v
operand_own (named_value text name e) = named_passes own text name e
operand_own (attribute_value text class of s) = attribute_passes own s
operand_own (a_whole most text n h from) = digits_pass own h.digits
operand_own a_key = refl
operand_own (named_entity text name e) = named_passes own text name e
operand_own (numbered_entity text n h from) = digits_pass own h.digits
operand_own (attribute_entity text class of s) = attribute_passes own s
operand_own (computed_value text e s) = closed_own text (expression_own s)
operand_own (computed_entity text e s) = closed_own text (expression_own s)
operand_own (a_fraction text n f) = fraction_own f
operand_own (a_label text name e) = named_passes own text name e
operand_own (a_definition text name e) = named_passes own text name e
operand_own (a_table text name e) = named_passes own text name e
operand_own (an_expression text e s) = expression_own s
operand_own (continuous digits n h from) = next_passes is_own 67 digits refl (digits_pass own h.digits)
operand_own (discrete digits n h from) = next_passes is_own 68 digits refl (digits_pass own h.digits)
operand_own first_in_first_out = refl
operand_own last_in_first_out = refl
operand_own unbounded = refl
operand_own (a_bound text o other s) = operand_own s

abbrev pub AllOwn : List (List ℕ) → Type 0
AllOwn [] = Unit {0}
AllOwn (part ∷ parts) = Pass is_own part × AllOwn parts

pub part_own : (parts : List (List ℕ)) → Pass is_own (part_of parts) → AllOwn (others_of parts) → AllOwn parts
part_own [] h k = tt
part_own (part ∷ parts) h k = (h, k)

pub spelled_own : {forms : List Form} {parts : List (List ℕ)} {os : List (Option Operand)} → SpellsAll forms parts os → AllOwn parts
spelled_own no_form = tt
spelled_own (stands form forms parts o os l m s all) = part_own parts (operand_own s) (spelled_own all)
spelled_own (unwritten form forms os w all) = tt

pub with_own : (b : ℕ) (parts : List (List ℕ)) → AllOwn (with_byte b parts) → (is_own b ≡ true) × AllOwn parts
with_own b [] h = let a = and_parts (is_own b) true h.0 in (a.0, tt)
with_own b (part ∷ parts) h = let a = and_parts (is_own b) (list_all is_own part) h.0 in (a.0, (a.1, h.1))

pub split_own : (text : List ℕ) → AllOwn (split text) → Pass is_own text
split_own [] h = refl
split_own (b ∷ bs) h =
    elim (cases_Bool (b == 44)) [
      | inl comma ↦ (let k = rw comma at h in next_passes is_own b bs (own_comma b comma) (split_own bs k.1))
      | inr other ↦ (let k = with_own b (split bs) (rw other at h) in next_passes is_own b bs k.0 (split_own bs k.1))
    ]
  where
    own_comma : (b : ℕ) → (b == 44) ≡ true → is_own b ≡ true
    own_comma b e = grind (arith, nat_tests)

pub list_own : (text : List ℕ) → AllOwn (parts_of text) → Pass is_own text
list_own [] h = refl
list_own (b ∷ bs) h = split_own (b ∷ bs) h

-- ---- with a sign after the first operand

last_own : (xs : List ℕ) (k b : ℕ) → length xs ≡ suc k → slice_get xs k ≡ Some b → is_own b ≡ true → Pass is_own (take k xs) → Pass is_own xs
last_own [] k b len get o h = absurd cc
last_own (x ∷ []) zero b len get o h = one_passes is_own x (subst (λ (y : ℕ). is_own y ≡ true) (sym (some_is x b get)) o)
last_own (x ∷ []) (suc k) b len get o h = absurd cc
last_own (x ∷ y ∷ ys) zero b len get o h = absurd cc
last_own (x ∷ y ∷ ys) (suc k) b len get o h =
    let a = and_parts (is_own x) (list_all is_own (take k (y ∷ ys))) h in
    let shorter : length (y ∷ ys) ≡ suc k = cc in next_passes is_own x (y ∷ ys) a.0 (last_own (y ∷ ys) k b shorter get o a.1)

-- the bytes of a list, where those without the sign at the end of its front are own ones
cut_own : (front rest : List ℕ) (b : ℕ) → last_byte front ≡ Some b → is_own b ≡ true → Pass is_own (cut_off front rest)
    → Pass is_own (front ++ rest)
cut_own front rest b e o h =
    elim (cases_Bool (nat_lt 1 (length front))) [
      | inl long ↦ (let a = parted (take (length front - 1) front) h in
          both_pass is_own front rest (last_own front (length front - 1) b (longer (length front) long) (rw long at e) o a.0) a.1)
      | inr short ↦ absurd (let f = rw short at e in cc)
    ]
  where
    parted : (a : List ℕ) → Pass is_own (a ++ rest) → Pass is_own a × Pass is_own rest
    parted a h = and_parts (list_all is_own a) (list_all is_own rest) (sym (list_all-append is_own a rest) ∙ h)

    longer : (n : ℕ) → nat_lt 1 n ≡ true → n ≡ suc (n - 1)
    longer n h = grind (arith, nat_tests)

record IsSign (o : Option ℕ) : Type 0 where
  byte : ℕ
  is_byte : o ≡ Some byte
  is_own_byte : is_own byte ≡ true

-- a sign that is there is a byte that is there
sign_byte : (o : Option ℕ) → (sign_in o ≡ auxiliaries.Absent → ⊥) → IsSign o
sign_byte None some = absurd (some refl)
sign_byte (Some b) some =
    elim (cases_Bool (b == 43)) [
      | inl h ↦ record { byte = b; is_byte = refl; is_own_byte = plus_own b h }
      | inr h ↦ elim (cases_Bool (b == 45)) [
        | inl k ↦ record { byte = b; is_byte = refl; is_own_byte = minus_own b k }
        | inr k ↦ absurd (some (rw (h, k) refl))
      ]
    ]
  where
    plus_own : (b : ℕ) → (b == 43) ≡ true → is_own b ≡ true
    plus_own b h = grind (arith, nat_tests)

    minus_own : (b : ℕ) → (b == 45) ≡ true → is_own b ≡ true
    minus_own b h = grind (arith, nat_tests)

behind : (text : List ℕ) → IsSign (last_byte (front_of class.Operand text))
    → AllOwn (parts_of (cut_off (front_of class.Operand text) (rest_of class.Operand text))) → Pass is_own text
behind text s h =
    let front = front_of class.Operand text in
    let rest = rest_of class.Operand text in
    subst (Pass is_own) (sym (parts class.Operand text)) (cut_own front rest s.byte s.is_byte s.is_own_byte (list_own (cut_off front rest) h))

signed_own : (text : List ℕ) (sign : Auxiliary) → sign_in (last_byte (front_of class.Operand text)) ≡ sign
    → AllOwn (parts_of (signs.without_sign sign text)) → Pass is_own text
signed_own text auxiliaries.Plus e h = behind text (sign_byte _ (λ k. (let f : auxiliaries.Absent ≡ auxiliaries.Plus = sym k ∙ e in cc))) h
signed_own text auxiliaries.Minus e h = behind text (sign_byte _ (λ k. (let f : auxiliaries.Absent ≡ auxiliaries.Minus = sym k ∙ e in cc))) h
signed_own text sign e h = list_own text h

-- ---- with an operator before the operands

condition_own : (condition : Condition) → Pass is_own (operator_word (auxiliaries.Gate condition))
condition_own conditions.InUse = refl
condition_own conditions.NotInUse = refl
condition_own conditions.IsSet = refl
condition_own conditions.IsReset = refl
condition_own conditions.Empty = refl
condition_own conditions.NotEmpty = refl
condition_own conditions.Full = refl
condition_own conditions.NotFull = refl

switching_own : (switching : Switching) → Pass is_own (operator_word (auxiliaries.Logic switching))
switching_own switchings.Set = refl
switching_own switchings.Reset = refl
switching_own switchings.Invert = refl

operator_own : (operator : Auxiliary) → Pass is_own (operator_word operator)
operator_own auxiliaries.Equal = refl
operator_own (auxiliaries.Gate condition) = condition_own condition
operator_own (auxiliaries.Logic switching) = switching_own switching
operator_own operator = refl

-- a word that is an operator has the operator's letters
word_own : (verb : Verb) (word : List ℕ) (operator : Auxiliary) → operator_of verb word ≡ Some operator → Pass is_own word
unfolding operator_of
word_own verb word operator e =
    let same : operator_word operator ≡ word = (bytes_eq-Decides (operator_word operator) word).0
    (found_so (λ o. bytes_eq (operator_word o) word) (operators verb) operator e) in
    subst (Pass is_own) same (operator_own operator)

blanks_own : (blanks : List ℕ) → AreIn class.Blank blanks → Pass is_own blanks
blanks_own [] h = refl
blanks_own (b ∷ bs) h =
    let a = and_parts (is_blank b) (list_all (is_in class.Blank) bs) h in next_passes is_own b bs (blank_own b a.0) (blanks_own bs a.1)
  where
    blank_own : (b : ℕ) → is_blank b ≡ true → is_own b ≡ true
    blank_own b h = grind (arith, nat_tests)

behind_operator : (verb : Verb) (text : List ℕ) (operator : Auxiliary) → operator_of verb (word_of text) ≡ Some operator
    → AllOwn (parts_of (behind_word text)) → Pass is_own text
behind_operator verb text operator e h =
    let rest = rest_of class.Mark text in
    let blanks = front_of class.Blank rest in
    let list = behind_word text in
    let whole : text ≡ word_of text ++ (blanks ++ list) = parts class.Mark text ∙ ap (λ (t : List ℕ). word_of text ++ t) (parts class.Blank rest) in
    subst (Pass is_own) (sym whole) (both_pass is_own (word_of text) (blanks ++ list) (word_own verb (word_of text) operator e)
    (both_pass is_own blanks list (blanks_own blanks (front_all class.Blank rest)) (list_own list h)))

-- ---- the bytes of what is kept after a verb

sign_own : (verb : Verb) (text : List ℕ) → AllOwn (parts_of (signs.without_sign (signs.sign_of verb text) text)) → Pass is_own text
sign_own verb text h =
    elim (cases_Bool (takes_sign verb)) [
      | inl takes ↦ signed_own text (sign_in (last_byte (front_of class.Operand text))) refl (rw takes at h)
      | inr none ↦ list_own text (rw none at h)
    ]

pub operands_own : (verb : Verb) (text : List ℕ) {beside : Auxiliary} → auxiliary_of verb text ≡ Some beside → AllOwn (bare_parts verb text) → Pass is_own text
operands_own verb text {beside} e h =
    elim (cases_Bool (takes_operator verb)) [
      | inl takes ↦ behind_operator verb text beside (rw takes at e) (rw takes at h)
      | inr free ↦ sign_own verb text (rw free at h)
    ]
