-- The bytes that a text is made of: a test that passes name bytes and `$` passes names, digits, attributes and values.
use Rattle.std.proofs.Common.{◌≡◌, ℕ, ◌&&◌, Bool, true, List, [], ◌∷◌, ◌++◌, length, Some, refl, ◌∙◌, arith}
use Rattle.std.specs.Prelude.{nat_le}
use Rattle.std.specs.List.{list_all}
use Rattle.std.specs.Char.{is_ascii_alphabetic, is_ascii_digit}
use Rattle.std.proofs.lemmas.Bool.{and_from, and_parts}
use Rattle.std.proofs.lemmas.Bool.Decides.{nat_tests}
use Rattle.std.proofs.lemmas.List.Folds.{list_all-append}
use Rattle.gw_names.specs.declared.class.Class.{Class}
use Rattle.gw_names.specs.declared.class.Class.TheVariants as class
use Rattle.gw_names.specs.Words.{class_word}
use Rattle.gw_names.specs.Names.{name_of, is_name_byte, is_name_text}
use Rattle.gw_names.proofs.SameHeads.{letter_is_name_byte}
use Rattle.gw_names.proofs.InUpperCase.{is_text}
use Rattle.gw_expr.specs.declared.atom.Atom.{Atom}
use Rattle.gw_expr.specs.declared.attribute.Subject.{Subject}
use Rattle.gw_lines.specs.Spelling.{Digits, first_digit, next_digit, SpellsAttribute, alone, numbered_one, named_one, of_block, of_stream, SpellsAtom, plain_number, plain_name, plain_attribute}

-- the test passes each byte of a text
abbrev pub Pass : (ℕ → Bool) → List ℕ → Type 0
Pass p text = list_all p text ≡ true

-- the test passes name bytes and `$`
pub record Takes (p : ℕ → Bool) : Type 0 where
  pub name : (b : ℕ) → is_name_byte b ≡ true → p b ≡ true
  pub dollar : p 36 ≡ true

pub both_pass : (p : ℕ → Bool) (a b : List ℕ) → Pass p a → Pass p b → Pass p (a ++ b)
both_pass p a b h k = list_all-append p a b ∙ and_from (list_all p a) (list_all p b) h k

pub one_passes : (p : ℕ → Bool) (b : ℕ) → p b ≡ true → Pass p (b ∷ [])
one_passes p b h = and_from (p b) true h refl

pub next_passes : (p : ℕ → Bool) (b : ℕ) (bs : List ℕ) → p b ≡ true → Pass p bs → Pass p (b ∷ bs)
next_passes p b bs h k = and_from (p b) (list_all p bs) h k

digit_is_named : (b : ℕ) → is_ascii_digit b ≡ true → is_name_byte b ≡ true
digit_is_named b h = grind (arith, nat_tests)

pub digits_pass : {p : ℕ → Bool} → Takes p → {text : List ℕ} {n : ℕ} → Digits text n → Pass p text
digits_pass {p} t (first_digit b h) = one_passes p b (t.name b (digit_is_named b h))
digits_pass {p} t (next_digit text n b d h) =
    both_pass p text (b ∷ []) (digits_pass t d) (one_passes p b (t.name b (digit_is_named b h)))

pub bytes_pass : {p : ℕ → Bool} → Takes p → (text : List ℕ) → list_all is_name_byte text ≡ true → Pass p text
bytes_pass t [] h = refl
bytes_pass {p} t (b ∷ bs) h =
    let a = and_parts (is_name_byte b) (list_all is_name_byte bs) h in
    next_passes p b bs (t.name b a.0) (bytes_pass t bs a.1)

text_passes : {p : ℕ → Bool} → Takes p → (text : List ℕ) → is_name_text text ≡ true → Pass p text
text_passes t [] h = refl
text_passes {p} t (b ∷ bs) h =
    let a = and_parts (is_ascii_alphabetic b) (nat_le (length bs) 199 && list_all is_name_byte bs) h in
    let c = and_parts (nat_le (length bs) 199) (list_all is_name_byte bs) a.1 in
    next_passes p b bs (t.name b (letter_is_name_byte b a.0)) (bytes_pass t bs c.1)

pub named_passes : {p : ℕ → Bool} → Takes p → (text name : List ℕ) → name_of text ≡ Some name → Pass p text
named_passes t text name e = text_passes t text (is_text text name e)

class_is_named : (class : Class) → list_all is_name_byte (class_word class) ≡ true
class_is_named class.C1 = refl
class_is_named class.Ac1 = refl
class_is_named class.Tg1 = refl
class_is_named class.M1 = refl
class_is_named class.Xn1 = refl
class_is_named class.Pr = refl
class_is_named class.P = refl
class_is_named class.F = refl
class_is_named class.Fc = refl
class_is_named class.S = refl
class_is_named class.R = refl
class_is_named class.Sc = refl
class_is_named class.Sm = refl
class_is_named class.Q = refl
class_is_named class.Qc = refl
class_is_named class.Qm = refl
class_is_named class.Qz = refl
class_is_named class.N = refl
class_is_named class.W = refl
class_is_named class.X = refl
class_is_named class.Ls = refl
class_is_named class.Ch = refl
class_is_named class.Cc = refl
class_is_named class.Tc = refl
class_is_named class.Rn = refl
class_is_named class.V = refl
class_is_named class.Fn = refl

class_passes : {p : ℕ → Bool} → Takes p → (class : Class) → Pass p (class_word class)
class_passes t class = bytes_pass t (class_word class) (class_is_named class)

numbered_passes : {p : ℕ → Bool} → Takes p → (class : Class) {digits : List ℕ} {n : ℕ} → Digits digits n
    → Pass p (class_word class ++ digits)
numbered_passes {p} t class {digits} d = both_pass p (class_word class) digits (class_passes t class) (digits_pass t d)

dollar_passes : {p : ℕ → Bool} → Takes p → (class : Class) (word name : List ℕ) → name_of word ≡ Some name
    → Pass p (class_word class ++ 36 ∷ word)
dollar_passes {p} t class word name e =
    both_pass p (class_word class) (36 ∷ word) (class_passes t class)
    (next_passes p 36 word t.dollar (named_passes t word name e))

pub attribute_passes : {p : ℕ → Bool} → Takes p → {text : List ℕ} {class : Class} {of : Subject} → SpellsAttribute text class of → Pass p text
attribute_passes t (alone class s) = class_passes t class
attribute_passes t (numbered_one class digits n s h from) = numbered_passes t class h.digits
attribute_passes t (named_one class word name s e) = dollar_passes t class word name e
attribute_passes t (of_block class word name s e) = dollar_passes t class word name e
attribute_passes t (of_stream class digits n s h from) = numbered_passes t class h.digits

-- a value without parentheses
pub atom_passes : {p : ℕ → Bool} → Takes p → {text : List ℕ} {a : Atom} → SpellsAtom text a → Pass p text
atom_passes t (plain_number text n h) = digits_pass t h.digits
atom_passes t (plain_name text name e) = named_passes t text name e
atom_passes t (plain_attribute text class of s) = attribute_passes t s
