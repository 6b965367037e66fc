-- Bytes of expressions: the symbols, and the words between them, which are values.
use Rattle.std.proofs.Common.{◌≡◌, ℕ, ◌==◌, ◌&&◌, Bool, true, false, not, List, [], ◌∷◌, ◌++◌, Option, Some, None, refl, ◌∙◌, inl, inr, arith}
use Rattle.std.specs.Prelude.{ℤ}
use Rattle.std.specs.List.{list_all}
use Rattle.std.proofs.lemmas.Bool.{and_from, and_parts, cases_Bool, eqb-true, not-true}
use Rattle.std.proofs.lemmas.Bool.Decides.{nat_tests}
use Rattle.std.proofs.lemmas.List.Folds.{list_all-append}
use Rattle.gw_names.specs.Names.{is_name_byte}
use Rattle.gw_expr.specs.declared.atom.Atom.{Atom}
use Rattle.gw_expr.specs.declared.atom.Atom.TheVariants as atoms
use Rattle.gw_expr.specs.declared.token.Operator.{Operator}
use Rattle.gw_expr.specs.declared.token.Operator.TheVariants as operators
use Rattle.gw_expr.specs.declared.symbol.Symbol.{Symbol}
use Rattle.gw_expr.specs.declared.symbol.Symbol.TheVariants as symbols
use Rattle.gw_lines.specs.Atoms.{atom_of}
use Rattle.gw_expr.specs.Symbols.{symbol_of}
use Rattle.gw_lines.specs.Spelling.{Value, with_sign, without_sign, SpellsAtom, plain_number, plain_name, plain_attribute, Multiplies, times, quotient, remainder}
use Rattle.gw_lines.proofs.Bytes.{Takes, atom_passes}
use Rattle.gw_lines.proofs.Values.{Valued, signed, called, of_attribute, valued_found, valued_again}

-- ---- symbols

-- the bytes that are symbols
pub data IsSymbol : ℕ → Symbol → Type 0 where
  opening : IsSymbol 40 symbols.Opening
  closing : IsSymbol 41 symbols.Closing
  adding : IsSymbol 43 (symbols.Sum operators.Plus)
  taking : IsSymbol 45 (symbols.Sum operators.Minus)
  multiplying : (b : ℕ) (o : Operator) → Multiplies b o → IsSymbol b (symbols.Product o)

abbrev pub is_word : ℕ → Bool
is_word b =
    not (b == 40) && (not (b == 41) && (not (b == 43) && (not (b == 45) && (not (b == 35) && (not (b == 92) && not (b == 64))))))

-- a byte is one of them, or none and a byte of a word
pub data Kinds : ℕ → Option Symbol → Type 0 where
  a_symbol : (b : ℕ) (k : Symbol) → IsSymbol b k → Kinds b (Some k)
  a_byte : (b : ℕ) → is_word b ≡ true → Kinds b None

none_of : (b : ℕ) → (b == 40) ≡ false → (b == 41) ≡ false → (b == 43) ≡ false → (b == 45) ≡ false → (b == 35) ≡ false
    → (b == 92) ≡ false → (b == 64) ≡ false → Kinds b (symbol_of b)
none_of b h0 h1 h2 h3 h4 h5 h6 = rw (h0, h1, h2, h3, h4, h5, h6) (a_byte b (rw (h0, h1, h2, h3, h4, h5, h6) refl))

pub kind_of : (b : ℕ) → Kinds b (symbol_of b)
kind_of b =
    elim (cases_Bool (b == 40)) [
      | inl h ↦ rw (eqb-true b 40 h) (a_symbol 40 symbols.Opening opening)
      | inr h0 ↦ elim (cases_Bool (b == 41)) [
        | inl h ↦ rw (eqb-true b 41 h) (a_symbol 41 symbols.Closing closing)
        | inr h1 ↦ elim (cases_Bool (b == 43)) [
          | inl h ↦ rw (eqb-true b 43 h) (a_symbol 43 (symbols.Sum operators.Plus) adding)
          | inr h2 ↦ elim (cases_Bool (b == 45)) [
            | inl h ↦ rw (eqb-true b 45 h) (a_symbol 45 (symbols.Sum operators.Minus) taking)
            | inr h3 ↦ elim (cases_Bool (b == 35)) [
              | inl h ↦ rw (eqb-true b 35 h) (a_symbol 35 (symbols.Product _) (multiplying 35 _ times))
              | inr h4 ↦ elim (cases_Bool (b == 92)) [
                | inl h ↦ rw (eqb-true b 92 h) (a_symbol 92 (symbols.Product _) (multiplying 92 _ quotient))
                | inr h5 ↦ elim (cases_Bool (b == 64)) [
                  | inl h ↦ rw (eqb-true b 64 h) (a_symbol 64 (symbols.Product _) (multiplying 64 _ remainder))
                  | inr h6 ↦ none_of b h0 h1 h2 h3 h4 h5 h6
                ]
              ]
            ]
          ]
        ]
      ]
    ]

record NoSymbol (b : ℕ) : Type 0 where
  h0 : (b == 40) ≡ false
  h1 : (b == 41) ≡ false
  h2 : (b == 43) ≡ false
  h3 : (b == 45) ≡ false
  h4 : (b == 35) ≡ false
  h5 : (b == 92) ≡ false
  h6 : (b == 64) ≡ false

no_symbol : (b : ℕ) → is_word b ≡ true → NoSymbol b
no_symbol b h =
    let p0 = and_parts (not (b == 40)) _ h in
    let p1 = and_parts (not (b == 41)) _ p0.1 in
    let p2 = and_parts (not (b == 43)) _ p1.1 in
    let p3 = and_parts (not (b == 45)) _ p2.1 in
    let p4 = and_parts (not (b == 35)) _ p3.1 in
    let p5 = and_parts (not (b == 92)) _ p4.1 in
    record {
      h0 = not-true (b == 40) p0.0;
      h1 = not-true (b == 41) p1.0;
      h2 = not-true (b == 43) p2.0;
      h3 = not-true (b == 45) p3.0;
      h4 = not-true (b == 35) p4.0;
      h5 = not-true (b == 92) p5.0;
      h6 = not-true (b == 64) p5.1;
    }

pub word_byte : (b : ℕ) → is_word b ≡ true → symbol_of b ≡ None
word_byte b h = let n = no_symbol b h in rw (n.h0, n.h1, n.h2, n.h3, n.h4, n.h5, n.h6) refl

-- ---- words

abbrev pub AreWords : List ℕ → Type 0
AreWords text = list_all is_word text ≡ true

pub both_words : (a b : List ℕ) → AreWords a → AreWords b → AreWords (a ++ b)
both_words a b h k = list_all-append is_word a b ∙ and_from (list_all is_word a) (list_all is_word b) h k

pub one_word : (b : ℕ) → is_word b ≡ true → AreWords (b ∷ [])
one_word b h = and_from (is_word b) true h refl

name_word : (b : ℕ) → is_name_byte b ≡ true → is_word b ≡ true
name_word b h = grind (arith, nat_tests)

words : Takes is_word
words = record { name = name_word; dollar = refl }

-- a value is a word
pub atom_words : {text : List ℕ} {a : Atom} → SpellsAtom text a → AreWords text
atom_words s = atom_passes words s

-- ---- values

valued : {text : List ℕ} {a : Atom} → SpellsAtom text a → Valued text a
valued (plain_number text n h) = signed text _ (without_sign text n h)
valued (plain_name text name e) = called text name e
valued (plain_attribute text class of s) = of_attribute text class of s

pub atom_again : {text : List ℕ} {a : Atom} → SpellsAtom text a → atom_of text ≡ Some a
atom_again s = valued_again (valued s)

sign_is_none : (text : List ℕ) → AreWords (45 ∷ text) → ⊥
sign_is_none text h = cc

number_word : {text : List ℕ} {z : ℤ} → Value text z → AreWords text → SpellsAtom text (atoms.Constant z)
number_word (with_sign text n h) w = absurd (sign_is_none text w)
number_word (without_sign text n h) w = plain_number text n h

in_word : {text : List ℕ} {a : Atom} → Valued text a → AreWords text → SpellsAtom text a
in_word (signed text z v) w = number_word v w
in_word (called text name e) w = plain_name text name e
in_word (of_attribute text class of s) w = plain_attribute text class of s

pub atom_found : (text : List ℕ) (a : Atom) → AreWords text → atom_of text ≡ Some a → SpellsAtom text a
atom_found text a w e = in_word (valued_found text a e) w
