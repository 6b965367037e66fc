-- Numerical attributes: what is read is spelled so, and what is spelled so is read, and is neither a name nor a number.
use Rattle.std.proofs.Common.{◌≡◌, ℕ, ◌==◌, ◌≤◌, Bool, true, false, ◌&&◌, List, [], ◌∷◌, ◌++◌, length, drop, Option, Some, None, refl, sym, ap, subst, ◌∙◌, inl, inr, arith}
use Rattle.std.specs.Prelude.{nat_eq, nat_le, is_some}
use Rattle.std.specs.List.{list_all, starts_with}
use Rattle.std.specs.Char.{is_ascii_alphabetic, is_ascii_digit, to_ascii_uppercase}
use Rattle.std.proofs.lemmas.Bool.{and_from, cases_Bool, eqb-true, or_right, and_right}
use Rattle.std.proofs.lemmas.Bool.Decides.{nat_tests, Decides-eqb}
use Rattle.std.proofs.lemmas.Slice.Eq.{starts_is}
use Rattle.std.proofs.lemmas.List.{append-nil, map-append}
use Rattle.std.proofs.lemmas.List.Folds.{list_all-append}
use Rattle.gw_names.specs.declared.class.Class.{Class}
use Rattle.gw_names.specs.declared.class.Class.TheVariants as class
use Rattle.gw_names.specs.Words.{class_word, classes, is_class, upper_of, verb_of}
use Rattle.gw_names.specs.Names.{name_of, is_name_byte, is_name_text}
use Rattle.gw_expr.specs.declared.attribute.Subject.{Subject}
use Rattle.gw_expr.specs.declared.attribute.Subject.TheVariants as subjects
use Rattle.gw_expr.specs.declared.atom.Atom.{Atom}
use Rattle.gw_expr.specs.declared.atom.Atom.TheVariants as atoms
use Rattle.gw_lines.specs.declared.attribute.Scope.{Scope}
use Rattle.gw_lines.specs.declared.attribute.Scope.TheVariants as scopes
use Rattle.gw_lines.specs.Numbers.{number_of, value_of, from_one}
use Rattle.gw_lines.specs.Attributes.{scope_of, own_in, number_in, name_in, or_name, subject_of, of_class, or_atom, attribute_in, attribute_of}
use Rattle.gw_lines.specs.Spelling.{Digits, Number, first_digit, next_digit, SpellsAttribute, alone, numbered_one, named_one, of_block, of_stream}
use Rattle.gw_lines.proofs.Results.{some_is}
use Rattle.gw_lines.proofs.Digits.{mapped, number_found, number_again, from_one_found, from_one_again}

-- ---- the word of a class

-- what stands after the word of a class: the class alone decides how it is read, and digits make it no name
record Behind (class : Class) (rest : List ℕ) : Type 0 where
  read : (of : Subject) → subject_of (scope_of class) rest ≡ Some of
      → attribute_in classes (class_word class ++ rest) ≡ Some (atoms.Attribute class of)
  barred : list_all is_ascii_digit (upper_of rest) ≡ true → is_class (upper_of (class_word class ++ rest)) ≡ true
  value : value_of (class_word class ++ rest) ≡ None
  number : number_of 1000000000 (class_word class ++ rest) ≡ None

-- `P` stands in front of `PR`, which no number and no `$` begins
parameter_read : (rest : List ℕ) (of : Subject) → subject_of scopes.Entity rest ≡ Some of
    → attribute_in classes (class_word class.P ++ rest) ≡ Some (atoms.Attribute class.P of)
parameter_read [] of e = absurd cc
parameter_read (b ∷ bs) of e =
    elim (cases_Bool (nat_eq 82 b)) [
      | inl same ↦ absurd (let f = rw (← eqb-true 82 b same) at e in cc)
      | inr other ↦ rw (other, e) refl
    ]

-- `X` stands in front of `XN1`, likewise
savevalue_read : (rest : List ℕ) (of : Subject) → subject_of scopes.Entity rest ≡ Some of
    → attribute_in classes (class_word class.X ++ rest) ≡ Some (atoms.Attribute class.X of)
savevalue_read [] of e = absurd cc
savevalue_read (b ∷ bs) of e =
    elim (cases_Bool (nat_eq 78 b)) [
      | inl same ↦ absurd (let f = rw (← eqb-true 78 b same) at e in cc)
      | inr other ↦ rw (other, e) refl
    ]

behind : (class : Class) (rest : List ℕ) → Behind class rest
unfolding is_class
behind class.C1 rest = record { read = λ of e. rw e refl; barred = λ h. rw h refl; value = refl; number = refl }
behind class.Ac1 rest = record { read = λ of e. rw e refl; barred = λ h. rw h refl; value = refl; number = refl }
behind class.Tg1 rest = record { read = λ of e. rw e refl; barred = λ h. rw h refl; value = refl; number = refl }
behind class.M1 rest = record { read = λ of e. rw e refl; barred = λ h. rw h refl; value = refl; number = refl }
behind class.Xn1 rest = record { read = λ of e. rw e refl; barred = λ h. rw h refl; value = refl; number = refl }
behind class.Pr rest = record { read = λ of e. rw e refl; barred = λ h. rw h refl; value = refl; number = refl }
behind class.P rest = record { read = λ of e. parameter_read rest of e; barred = λ h. rw h (or_right _ true refl); value = refl; number = refl }
behind class.F rest = record { read = λ of e. rw e refl; barred = λ h. rw h refl; value = refl; number = refl }
behind class.Fc rest = record { read = λ of e. rw e refl; barred = λ h. rw h refl; value = refl; number = refl }
behind class.S rest = record { read = λ of e. rw e refl; barred = λ h. rw h refl; value = refl; number = refl }
behind class.R rest = record { read = λ of e. rw e refl; barred = λ h. rw h refl; value = refl; number = refl }
behind class.Sc rest = record { read = λ of e. rw e refl; barred = λ h. rw h refl; value = refl; number = refl }
behind class.Sm rest = record { read = λ of e. rw e refl; barred = λ h. rw h refl; value = refl; number = refl }
behind class.Q rest = record { read = λ of e. rw e refl; barred = λ h. rw h refl; value = refl; number = refl }
behind class.Qc rest = record { read = λ of e. rw e refl; barred = λ h. rw h refl; value = refl; number = refl }
behind class.Qm rest = record { read = λ of e. rw e refl; barred = λ h. rw h refl; value = refl; number = refl }
behind class.Qz rest = record { read = λ of e. rw e refl; barred = λ h. rw h refl; value = refl; number = refl }
behind class.N rest = record { read = λ of e. rw e refl; barred = λ h. rw h refl; value = refl; number = refl }
behind class.W rest = record { read = λ of e. rw e refl; barred = λ h. rw h refl; value = refl; number = refl }
behind class.X rest = record { read = λ of e. savevalue_read rest of e; barred = λ h. rw h (or_right _ true refl); value = refl; number = refl }
behind class.Ls rest = record { read = λ of e. rw e refl; barred = λ h. rw h refl; value = refl; number = refl }
behind class.Ch rest = record { read = λ of e. rw e refl; barred = λ h. rw h refl; value = refl; number = refl }
behind class.Cc rest = record { read = λ of e. rw e refl; barred = λ h. rw h refl; value = refl; number = refl }
behind class.Tc rest = record { read = λ of e. rw e refl; barred = λ h. rw h refl; value = refl; number = refl }
behind class.Rn rest = record { read = λ of e. rw e refl; barred = λ h. rw h refl; value = refl; number = refl }
behind class.V rest = record { read = λ of e. rw e refl; barred = λ h. rw h refl; value = refl; number = refl }
behind class.Fn rest = record { read = λ of e. rw e refl; barred = λ h. rw h refl; value = refl; number = refl }

-- ---- what is read is spelled so

own_found : (class : Class) (rest : List ℕ) (of : Subject) → scope_of class ≡ scopes.Alone → own_in rest ≡ Some of
    → SpellsAttribute (class_word class ++ rest) class of
own_found class [] of s e =
    subst (λ (x : Subject). SpellsAttribute (class_word class ++ []) class x) (some_is subjects.Own of e)
    (subst (λ (t : List ℕ). SpellsAttribute t class subjects.Own) (sym (append-nil (class_word class))) (alone class s))
own_found class (b ∷ bs) of s e = absurd cc

-- the number that a subject is
number_in_found : (most : ℕ) (rest : List ℕ) (of : Subject) → number_in most rest ≡ Some of
    → (n : ℕ) × (Number most rest n) × (1 ≤ n) × (subjects.Number n ≡ of)
number_in_found most rest of e =
    let m = mapped (λ n. subjects.Number n) (from_one (number_of most rest)) of e in
    let f = from_one_found (number_of most rest) m.0 m.1 in
    (m.0, number_found most rest m.0 f.0, f.1, m.2)

-- the name that a subject is, after `$`
name_in_found : (rest : List ℕ) (of : Subject) → name_in rest ≡ Some of
    → (word : List ℕ) × (name : List ℕ) × (rest ≡ 36 ∷ word) × (name_of word ≡ Some name) × (subjects.Name name ≡ of)
name_in_found [] of e = absurd cc
name_in_found (b ∷ bs) of e =
    elim (cases_Bool (b == 36)) [
      | inr other ↦ absurd (let f = rw other at e in cc)
      | inl holds ↦
          let m = mapped (λ (name : List ℕ). subjects.Name name) (name_of bs) of (rw holds at e) in
          (bs, m.0, ap (λ (x : ℕ). x ∷ bs) (eqb-true b 36 holds), m.1, m.2)
    ]

-- an attribute whose subject is a name, from the way its class spells one
named_so : (class : Class) (rest : List ℕ) (of : Subject)
    → ((word name : List ℕ) → name_of word ≡ Some name → SpellsAttribute (class_word class ++ 36 ∷ word) class (subjects.Name name))
    → name_in rest ≡ Some of → SpellsAttribute (class_word class ++ rest) class of
named_so class rest of spells e =
    let f = name_in_found rest of e in
    subst (λ (x : Subject). SpellsAttribute (class_word class ++ rest) class x) f.4
    (subst (λ (t : List ℕ). SpellsAttribute (class_word class ++ t) class (subjects.Name f.1)) (sym f.2) (spells f.0 f.1 f.3))

entity_found : (class : Class) (rest : List ℕ) (of : Subject) (read : Option Subject) → scope_of class ≡ scopes.Entity
    → number_in 1000000000 rest ≡ read → or_name read rest ≡ Some of → SpellsAttribute (class_word class ++ rest) class of
entity_found class rest of (Some other) s is e =
    let f = number_in_found 1000000000 rest other is in
    subst (λ (x : Subject). SpellsAttribute (class_word class ++ rest) class x) (f.3 ∙ some_is other of e)
    (numbered_one class rest f.0 s f.1 f.2)
entity_found class rest of None s is e = named_so class rest of (λ word name h. named_one class word name s h) e

stream_found : (class : Class) (rest : List ℕ) (of : Subject) → scope_of class ≡ scopes.Stream → number_in 7 rest ≡ Some of
    → SpellsAttribute (class_word class ++ rest) class of
stream_found class rest of s e =
    let f = number_in_found 7 rest of e in
    subst (λ (x : Subject). SpellsAttribute (class_word class ++ rest) class x) f.3 (of_stream class rest f.0 s f.1 f.2)

subject_found : (class : Class) (scope : Scope) (rest : List ℕ) (of : Subject) → scope_of class ≡ scope
    → subject_of scope rest ≡ Some of → SpellsAttribute (class_word class ++ rest) class of
subject_found class scopes.Alone rest of s e = own_found class rest of s e
subject_found class scopes.Entity rest of s e = entity_found class rest of (number_in 1000000000 rest) s refl e
subject_found class scopes.Block rest of s e = named_so class rest of (λ word name h. of_block class word name s h) e
subject_found class scopes.Stream rest of s e = stream_found class rest of s e

-- an attribute that a text spells
abbrev pub Spelled : List ℕ → Atom → Type 0
Spelled text t = (class : Class) × (of : Subject) × SpellsAttribute text class of × (atoms.Attribute class of ≡ t)

class_found : (class : Class) (text : List ℕ) (t : Atom) → of_class class text ≡ Some t → Spelled text t
class_found class text t e =
    elim (cases_Bool (starts_with nat_eq text (class_word class))) [
      | inr other ↦ absurd (let f = rw other at e in cc)
      | inl holds ↦
          let rest = drop (length (class_word class)) text in
          let m = mapped (λ of. atoms.Attribute class of) (subject_of (scope_of class) rest) t (rw holds at e) in
          let is : text ≡ class_word class ++ rest = (starts_is Decides-eqb text (class_word class) _ refl).0 holds in
          let s = subject_found class (scope_of class) rest m.0 refl m.1 in
          (class, m.0, subst (λ (x : List ℕ). SpellsAttribute x class m.0) (sym is) s, m.2)
    ]

found_by : (class : Class) (others : List Class) (text : List ℕ) (t : Atom) (read : Option Atom)
    → of_class class text ≡ read → or_atom read (attribute_in others text) ≡ Some t
    → (attribute_in others text ≡ Some t → Spelled text t) → Spelled text t
found_by class others text t (Some other) is e later = class_found class text t (is ∙ e)
found_by class others text t None is e later = later e

found_in : (cs : List Class) (text : List ℕ) (t : Atom) → attribute_in cs text ≡ Some t → Spelled text t
found_in [] text t e = absurd cc
found_in (class ∷ others) text t e =
    found_by class others text t (of_class class text) refl e (λ later. found_in others text t later)

pub attribute_found : (text : List ℕ) (t : Atom) → attribute_of text ≡ Some t → Spelled text t
unfolding attribute_of
attribute_found text t e = found_in classes text t e

-- ---- what is spelled so is read, and is nothing else

-- a text that is an attribute, and neither a name nor a number
pub record Alone (text : List ℕ) (t : Atom) : Type 0 where
  pub attribute : attribute_of text ≡ Some t
  pub name : name_of text ≡ None
  pub value : value_of text ≡ None
  pub number : number_of 1000000000 text ≡ None

-- nothing is no attribute
pub nothing_read : (t : Atom) → attribute_of [] ≡ Some t → ⊥
unfolding attribute_of
nothing_read t e = cc

-- a word that is barred is no name
barred_first : (text : List ℕ) → is_class (upper_of text) ≡ true → name_of text ≡ None
unfolding name_of
barred_first text h =
    let b = or_right (is_some (verb_of (upper_of text))) (is_class (upper_of text)) h in
    elim (cases_Bool (is_name_text text)) [
      | inl holds ↦ rw (holds, b) refl
      | inr other ↦ rw other refl
    ]

no_dollar : (bs word : List ℕ) → list_all is_name_byte (bs ++ 36 ∷ word) ≡ false
no_dollar [] word = refl
no_dollar (b ∷ bs) word = ap (λ (x : Bool). is_name_byte b && x) (no_dollar bs word) ∙ and_right (is_name_byte b) false refl

dollar_text : (bs word : List ℕ) → is_name_text (bs ++ 36 ∷ word) ≡ false
dollar_text [] word = refl
dollar_text (b ∷ bs) word =
    ap (λ (x : Bool). is_ascii_alphabetic b && (nat_le (length (bs ++ 36 ∷ word)) 199 && x)) (no_dollar bs word)
    ∙ ap (λ (x : Bool). is_ascii_alphabetic b && x) (and_right (nat_le (length (bs ++ 36 ∷ word)) 199) false refl)
    ∙ and_right (is_ascii_alphabetic b) false refl

-- `$` stands in no name
dollar_first : (bs word : List ℕ) → name_of (bs ++ 36 ∷ word) ≡ None
unfolding name_of
dollar_first bs word = rw (dollar_text bs word) refl

upper_digit : (b : ℕ) → is_ascii_digit b ≡ true → is_ascii_digit (to_ascii_uppercase b) ≡ true
upper_digit b h = grind (arith, nat_tests)

upper_digits : {text : List ℕ} {n : ℕ} → Digits text n → list_all is_ascii_digit (upper_of text) ≡ true
upper_digits (first_digit b h) = and_from (is_ascii_digit (to_ascii_uppercase b)) true (upper_digit b h) refl
upper_digits (next_digit text n b d h) =
    ap (list_all is_ascii_digit) (map-append to_ascii_uppercase text (b ∷ []))
    ∙ list_all-append is_ascii_digit (upper_of text) (upper_of (b ∷ []))
    ∙ and_from (list_all is_ascii_digit (upper_of text)) (list_all is_ascii_digit (upper_of (b ∷ []))) (upper_digits d)
    (and_from (is_ascii_digit (to_ascii_uppercase b)) true (upper_digit b h) refl)

so_read : (class : Class) (rest : List ℕ) (of : Subject) → subject_of (scope_of class) rest ≡ Some of
    → name_of (class_word class ++ rest) ≡ None → Alone (class_word class ++ rest) (atoms.Attribute class of)
unfolding attribute_of
so_read class rest of e name =
    let b = behind class rest in
    record { attribute = b.read of e; name = name; value = b.value; number = b.number }

number_in_again : (most : ℕ) (digits : List ℕ) (n : ℕ) → Number most digits n → 1 ≤ n
    → number_in most digits ≡ Some (subjects.Number n)
number_in_again most digits n h from = rw (number_again most digits n h, from_one_again n from) refl

name_in_again : (word name : List ℕ) → name_of word ≡ Some name → name_in (36 ∷ word) ≡ Some (subjects.Name name)
name_in_again word name e = rw e refl

digits_barred : (class : Class) {digits : List ℕ} {n : ℕ} → Digits digits n → name_of (class_word class ++ digits) ≡ None
digits_barred class {digits} d =
    let b = behind class digits in barred_first (class_word class ++ digits) (b.barred (upper_digits d))

pub attribute_again : {text : List ℕ} {class : Class} {of : Subject} → SpellsAttribute text class of
    → Alone text (atoms.Attribute class of)
attribute_again (alone class s) =
    let b = behind class [] in
    subst (λ (t : List ℕ). Alone t (atoms.Attribute class subjects.Own)) (append-nil (class_word class))
    (so_read class [] subjects.Own (rw s refl) (barred_first (class_word class ++ []) (b.barred refl)))
attribute_again (numbered_one class digits n s h from) =
    so_read class digits (subjects.Number n) (rw (s, number_in_again 1000000000 digits n h from) refl)
    (digits_barred class h.digits)
attribute_again (named_one class word name s e) =
    so_read class (36 ∷ word) (subjects.Name name) (rw (s, name_in_again word name e) refl)
    (dollar_first (class_word class) word)
attribute_again (of_block class word name s e) =
    so_read class (36 ∷ word) (subjects.Name name) (rw (s, name_in_again word name e) refl)
    (dollar_first (class_word class) word)
attribute_again (of_stream class digits n s h from) =
    so_read class digits (subjects.Number n) (rw (s, number_in_again 7 digits n h from) refl)
    (digits_barred class h.digits)
