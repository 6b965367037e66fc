-- Values without parentheses: what is read is spelled so, and what is spelled so is read.
use Rattle.std.proofs.Common.{◌≡◌, ℕ, true, false, List, [], ◌∷◌, Option, Some, None, refl, ap, subst, ◌∙◌, arith}
use Rattle.std.specs.Prelude.{ℤ}
use Rattle.std.specs.Char.{is_ascii_alphabetic, is_ascii_digit}
use Rattle.std.proofs.lemmas.Bool.Decides.{nat_tests}
use Rattle.gw_names.specs.Names.{name_of}
use Rattle.gw_names.specs.declared.class.Class.{Class}
use Rattle.gw_expr.specs.declared.atom.Atom.{Atom}
use Rattle.gw_expr.specs.declared.atom.Atom.TheVariants as atoms
use Rattle.gw_expr.specs.declared.attribute.Subject.{Subject}
use Rattle.gw_lines.specs.Numbers.{value_of}
use Rattle.gw_lines.specs.Attributes.{or_atom, attribute_of}
use Rattle.gw_lines.specs.Atoms.{constant_of, or_constant, atom_of}
use Rattle.gw_lines.specs.Spelling.{Value, without_sign, with_sign, SpellsAttribute}
use Rattle.gw_lines.proofs.Results.{some_is}
use Rattle.gw_lines.proofs.Digits.{Begins, begins, number_found, number_again, value_found, mapped, from_one_found, from_one_again}
use Rattle.gw_lines.proofs.Digits as digits
use Rattle.gw_lines.proofs.Attributes.{attribute_found, attribute_again}

-- ---- a value without parentheses

-- how a text spells one: a number with a sign or none, a name or an attribute
pub data Valued : List ℕ → Atom → Type 0 where
  signed : (text : List ℕ) (z : ℤ) → Value text z → Valued text (atoms.Constant z)
  called : (text name : List ℕ) → name_of text ≡ Some name → Valued text (atoms.Number name)
  of_attribute : (text : List ℕ) (class : Class) (of : Subject) → SpellsAttribute text class of
      → Valued text (atoms.Attribute class of)

-- what is read of a text is one
attributed : (text : List ℕ) (a : Atom) → attribute_of text ≡ Some a → Valued text a
attributed text a e =
    let f = attribute_found text a e in subst (λ (x : Atom). Valued text x) f.3 (of_attribute text f.0 f.1 f.2)

unnamed : (text : List ℕ) (read : Option Atom) (a : Atom) → constant_of text ≡ read → or_atom read (attribute_of text) ≡ Some a
    → Valued text a
unnamed text None a is e = attributed text a e
unnamed text (Some c) a is e =
    let m = mapped (λ (z : ℤ). atoms.Constant z) (value_of text) c is in
    subst (λ (x : Atom). Valued text x) (m.2 ∙ some_is c a e) (signed text m.0 (value_found text m.0 m.1))

valued_by : (text : List ℕ) (name : Option (List ℕ)) (a : Atom) → name_of text ≡ name
    → or_atom (or_constant name text) (attribute_of text) ≡ Some a → Valued text a
valued_by text (Some name) a is e =
    subst (λ (x : Atom). Valued text x) (some_is (atoms.Number name) a e) (called text name is)
valued_by text None a is e = unnamed text (constant_of text) a refl e

pub valued_found : (text : List ℕ) (a : Atom) → atom_of text ≡ Some a → Valued text a
valued_found text a e = valued_by text (name_of text) a refl e

pub no_name : (name : List ℕ) → name_of [] ≡ Some name → ⊥
unfolding name_of
no_name name e = cc

no_letter : (b : ℕ) → is_ascii_digit b ≡ true → is_ascii_alphabetic b ≡ false
no_letter b h = grind (arith, nat_tests)

-- a name does not begin with a digit
digit_first : (b : ℕ) (bs : List ℕ) → is_ascii_digit b ≡ true → name_of (b ∷ bs) ≡ None
unfolding name_of
digit_first b bs h = rw (no_letter b h) refl

-- nor with a sign
sign_first : (bs : List ℕ) → name_of (45 ∷ bs) ≡ None
unfolding name_of
sign_first bs = refl

pub digits_first : {text : List ℕ} → Begins text → name_of text ≡ None
digits_first {text} d = ap name_of d.is ∙ digit_first d.first d.others d.digit

value_unnamed : {text : List ℕ} {z : ℤ} → Value text z → name_of text ≡ None
value_unnamed (with_sign text n h) = sign_first text
value_unnamed (without_sign text n h) = digits_first (begins h.digits)

-- and what is one is read
pub valued_again : {text : List ℕ} {a : Atom} → Valued text a → atom_of text ≡ Some a
valued_again (signed text z v) = rw (value_unnamed v, digits.value_again v) refl
valued_again (called text name e) = rw e refl
valued_again (of_attribute text class of s) = let a = attribute_again s in rw (a.name, a.value, a.attribute) refl

-- nothing is none
pub no_atom : (a : Atom) → atom_of [] ≡ Some a → ⊥
unfolding name_of attribute_of
no_atom a e = cc

-- what begins with a parenthesis is none
pub parenthesis_first : (bs : List ℕ) → atom_of (40 ∷ bs) ≡ None
unfolding name_of attribute_of
parenthesis_first bs = refl

pub no_entity : (bs : List ℕ) → (name_of (40 ∷ bs) ≡ None) × (attribute_of (40 ∷ bs) ≡ None)
unfolding name_of attribute_of
no_entity bs = (refl, refl)
