-- Operands that are values or entities: what is read is spelled so, and what is spelled so is read.
use Rattle.std.proofs.Common.{◌≡◌, ℕ, ◌≤◌, List, [], ◌∷◌, ◌++◌, Option, Some, None, refl, sym, ap, subst, ◌∙◌}
use Rattle.std.specs.Prelude.{ℤ, pos, option_and_then}
use Rattle.gw_names.specs.Names.{name_of}
use Rattle.gw_names.specs.declared.class.Class.{Class}
use Rattle.gw_expr.specs.declared.atom.Atom.{Atom}
use Rattle.gw_expr.specs.declared.atom.Atom.TheVariants as atoms
use Rattle.gw_expr.specs.declared.token.Token.{Token}
use Rattle.gw_expr.specs.declared.attribute.Subject.{Subject}
use Rattle.gw_expr.specs.Expressions.{Expression, postfix}
use Rattle.gw_expr.specs.Term.{Term}
use Rattle.gw_expr.specs.declared.expr.Expr.TheVariants.{Computed, Named}
use Rattle.gw_expr.specs.declared.expr.Expr.TheVariants as terms
use Rattle.gw_lines.specs.declared.form.Kind.{Kind}
use Rattle.gw_lines.specs.declared.form.Kind.TheVariants as kinds
use Rattle.gw_lines.specs.declared.operand.Operand.{Operand}
use Rattle.gw_lines.specs.declared.operand.Operand.TheVariants as operands
use Rattle.gw_lines.specs.Numbers.{number_of, value_of, from_one}
use Rattle.gw_lines.specs.Attributes.{or_atom, attribute_of}
use Rattle.gw_lines.specs.Atoms.{constant_of, atom_of}
use Rattle.gw_lines.specs.Expressions.{tokens_of, inside_of, computed_of, bare_of}
use Rattle.gw_lines.specs.Operands.{atomic, numbered, or_term, or_number, as_value, operand_in}
use Rattle.gw_lines.specs.Spelling.{Sum, SpellsExpression, SpellsOperand, a_value, a_constant, named_value, attribute_value, computed_value, Value, Number, named_entity, numbered_entity, attribute_entity, computed_entity, an_expression, SpellsAttribute}
use Rattle.gw_lines.proofs.Results.{some_is}
use Rattle.gw_lines.proofs.Digits.{Begins, begins, number_found, number_again, value_found, mapped, from_one_found, from_one_again}
use Rattle.gw_lines.proofs.Digits as digits
use Rattle.gw_lines.proofs.Attributes.{Alone, nothing_read, attribute_found, attribute_again}
use Rattle.gw_lines.proofs.Values.{Valued, signed, called, of_attribute, valued_found, valued_again, no_name, no_atom, digits_first, parenthesis_first, no_entity}
use Rattle.gw_lines.proofs.Closing.{inside_again, inside_found}
use Rattle.gw_lines.proofs.Computed.{tokens_again}
use Rattle.gw_lines.proofs.Waiting.{then_some, tokens_found}

-- ---- an operand that is a value

valued_operand : {text : List ℕ} {a : Atom} → Valued text a
    → SpellsOperand kinds.Value text (Some (operands.Value (terms.Value a)))
valued_operand (signed text z v) = a_value text z v
valued_operand (called text name e) = named_value text name e
valued_operand (of_attribute text class of s) = attribute_value text class of s

abbrev atomic_ : Atom → Term
atomic_ a = terms.Value a

abbrev as_operand : Term → Option Operand
as_operand t = Some (operands.Value t)

-- what an atom that is read says, for each kind that lets one stand
atom_is : (kind : Kind) (text : List ℕ) (read : Option Atom) (o : Option Operand)
    → ((a : Atom) → read ≡ Some a → SpellsOperand kind text (as_operand (terms.Value a)))
    → as_value (atomic read) ≡ Some o → SpellsOperand kind text o
atom_is kind text read o spells e =
    let m = mapped (λ (t : Term). as_operand t) (atomic read) o e in
    let k = mapped (λ (a : Atom). atomic_ a) read m.0 m.1 in
    subst (λ (x : Option Operand). SpellsOperand kind text x) (ap as_operand k.2 ∙ m.2) (spells k.0 k.1)

-- an expression that is read, for each kind that lets one stand
abbrev SpellsComputed : Kind → Type 0
SpellsComputed kind =
    (text : List ℕ) (e : Expression) → SpellsExpression Sum 31 text e
    → SpellsOperand kind (40 ∷ (text ++ 41 ∷ [])) (as_operand (Computed (postfix e)))

computed_is : (kind : Kind) (text : List ℕ) (o : Option Operand) → SpellsComputed kind → as_value (computed_of text) ≡ Some o
    → SpellsOperand kind text o
computed_is kind text o spells h =
    let m = mapped (λ (t : Term). as_operand t) (computed_of text) o h in
    let k = mapped (λ (ts : List Token). Computed ts) (option_and_then (tokens_of 1) (inside_of text)) m.0 m.1 in
    let u = then_some (tokens_of 1) (inside_of text) k.0 k.1 in
    let f = tokens_found 31 1 refl u.0 k.0 u.2 in
    let is : as_operand (Computed (postfix f.0)) ≡ o = ap (λ (ts : List Token). as_operand (Computed ts)) f.2 ∙ ap as_operand k.2 ∙ m.2 in
    subst (λ (x : Option Operand). SpellsOperand kind text x) is
    (subst (λ (t : List ℕ). SpellsOperand kind t (as_operand (Computed (postfix f.0)))) (sym (inside_found text u.0 u.1))
    (spells u.0 f.0 f.1))

-- the one or the other
either_is : (kind : Kind) (text : List ℕ) (read : Option Atom) (o : Option Operand)
    → ((a : Atom) → read ≡ Some a → SpellsOperand kind text (as_operand (terms.Value a))) → SpellsComputed kind
    → as_value (or_term (atomic read) (computed_of text)) ≡ Some o → SpellsOperand kind text o
either_is kind text None o spells other h = computed_is kind text o other h
either_is kind text (Some a) o spells other h = atom_is kind text (Some a) o spells h

-- what spells an expression in parentheses is read as one
computed_read : (text : List ℕ) (e : Expression) → SpellsExpression Sum 31 text e
    → computed_of (40 ∷ (text ++ 41 ∷ [])) ≡ Some (Computed (postfix e))
computed_read text e s = rw (inside_again text, tokens_again 31 1 refl text e s) refl

pub value_is : (text : List ℕ) (o : Option Operand) → as_value (or_term (atomic (atom_of text)) (computed_of text)) ≡ Some o
    → SpellsOperand kinds.Value text o
value_is text o e =
    either_is kinds.Value text (atom_of text) o (λ a h. valued_operand (valued_found text a h))
    (λ inner x s. computed_value inner x s) e

constant_found : (text : List ℕ) (a : Atom) → constant_of text ≡ Some a
    → SpellsOperand kinds.Constant text (as_operand (terms.Value a))
constant_found text a e =
    let m = mapped (λ (z : ℤ). atoms.Constant z) (value_of text) a e in
    subst (λ (x : Atom). SpellsOperand kinds.Constant text (as_operand (terms.Value x))) m.2
    (a_constant text m.0 (value_found text m.0 m.1))

pub constant_is : (text : List ℕ) (o : Option Operand) → as_value (atomic (constant_of text)) ≡ Some o
    → SpellsOperand kinds.Constant text o
constant_is text o e = atom_is kinds.Constant text (constant_of text) o (λ a h. constant_found text a h) e

pub value_again : (text : List ℕ) (a : Atom) → Valued text a
    → operand_in kinds.Value text ≡ Some (Some (operands.Value (terms.Value a)))
value_again [] a v = absurd (no_atom a (valued_again v))
value_again (b ∷ bs) a v =
    ap (λ (x : Option Atom). as_value (or_term (atomic x) (computed_of (b ∷ bs)))) (valued_again v)

pub computed_value_again : (text : List ℕ) (e : Expression) → SpellsExpression Sum 31 text e
    → operand_in kinds.Value (40 ∷ (text ++ 41 ∷ [])) ≡ Some (Some (operands.Value (Computed (postfix e))))
computed_value_again text e s = rw (parenthesis_first (text ++ 41 ∷ []), computed_read text e s) refl

constant_read : (text : List ℕ) (z : ℤ) → value_of text ≡ Some z
    → operand_in kinds.Constant text ≡ Some (Some (operands.Value (terms.Value (atoms.Constant z))))
constant_read [] z e = absurd cc
constant_read (b ∷ bs) z e = rw e refl

pub constant_again : (text : List ℕ) (z : ℤ) → Value text z
    → operand_in kinds.Constant text ≡ Some (Some (operands.Value (terms.Value (atoms.Constant z))))
constant_again text z v = constant_read text z (digits.value_again v)

-- ---- an operand that is an entity

unnamed_entity : (text : List ℕ) (read : Option Atom) (a : Atom) → numbered text ≡ read → or_atom read (attribute_of text) ≡ Some a
    → SpellsOperand kinds.Entity text (as_operand (terms.Value a))
unnamed_entity text None a is e =
    let f = attribute_found text a e in
    subst (λ (x : Atom). SpellsOperand kinds.Entity text (as_operand (terms.Value x))) f.3
    (attribute_entity text f.0 f.1 f.2)
unnamed_entity text (Some c) a is e =
    let k = mapped (λ (n : ℕ). atoms.Constant (pos n)) (from_one (number_of 1000000000 text)) c is in
    let f = from_one_found (number_of 1000000000 text) k.0 k.1 in
    subst (λ (x : Atom). SpellsOperand kinds.Entity text (as_operand (terms.Value x))) (k.2 ∙ some_is c a e)
    (numbered_entity text k.0 (number_found 1000000000 text k.0 f.0) f.1)

entity_by : (text : List ℕ) (name : Option (List ℕ)) (o : Option Operand) → name_of text ≡ name
    → as_value (or_number name text) ≡ Some o → SpellsOperand kinds.Entity text o
entity_by text (Some name) o is e =
    subst (λ (x : Option Operand). SpellsOperand kinds.Entity text x) (some_is (as_operand (Named name)) o e)
    (named_entity text name is)
entity_by text None o is e =
    either_is kinds.Entity text (or_atom (numbered text) (attribute_of text)) o
    (λ a h. unnamed_entity text (numbered text) a refl h) (λ inner x s. computed_entity inner x s) e

pub entity_is : (text : List ℕ) (o : Option Operand) → as_value (or_number (name_of text) text) ≡ Some o
    → SpellsOperand kinds.Entity text o
entity_is text o e = entity_by text (name_of text) o refl e

pub name_again : (text name : List ℕ) → name_of text ≡ Some name
    → operand_in kinds.Entity text ≡ Some (Some (operands.Value (Named name)))
name_again [] name e = absurd (no_name name e)
name_again (b ∷ bs) name e = rw e refl

number_read : (text : List ℕ) (n : ℕ) → Begins text → number_of 1000000000 text ≡ Some n → 1 ≤ n
    → operand_in kinds.Entity text ≡ Some (Some (operands.Value (terms.Value (atoms.Constant (pos n)))))
number_read [] n d e h = absurd (let i = d.is in cc)
number_read (b ∷ bs) n d e h = rw (digits_first d, e, from_one_again n h) refl

pub numbered_again : (text : List ℕ) (n : ℕ) → Number 1000000000 text n → 1 ≤ n
    → operand_in kinds.Entity text ≡ Some (Some (operands.Value (terms.Value (atoms.Constant (pos n)))))
numbered_again text n h from = number_read text n (begins h.digits) (number_again 1000000000 text n h) from

-- an attribute is read where neither a name nor a number is
entity_alone : (text : List ℕ) (a : Atom) → Alone text a
    → operand_in kinds.Entity text ≡ Some (Some (operands.Value (terms.Value a)))
entity_alone [] a h = absurd (nothing_read a h.attribute)
entity_alone (b ∷ bs) a h = rw (h.name, h.number, h.attribute) refl

pub attribute_in_again : (text : List ℕ) (class : Class) (of : Subject) → SpellsAttribute text class of
    → operand_in kinds.Entity text ≡ Some (Some (operands.Value (terms.Value (atoms.Attribute class of))))
attribute_in_again text class of s = entity_alone text (atoms.Attribute class of) (attribute_again s)

pub computed_entity_again : (text : List ℕ) (e : Expression) → SpellsExpression Sum 31 text e
    → operand_in kinds.Entity (40 ∷ (text ++ 41 ∷ [])) ≡ Some (Some (operands.Value (Computed (postfix e))))
computed_entity_again text e s =
    let n = no_entity (text ++ 41 ∷ []) in rw (n.0, n.1, computed_read text e s) refl

-- ---- an expression without parentheses around the whole

-- nothing is none
nothing_spelled : (ts : List Token) → tokens_of 0 [] ≡ Some ts → ⊥
unfolding tokens_of
nothing_spelled ts h = cc

pub expression_is : (text : List ℕ) (o : Option Operand) → as_value (bare_of text) ≡ Some o → SpellsOperand kinds.Expression text o
expression_is text o h =
    let m = mapped (λ (t : Term). as_operand t) (bare_of text) o h in
    let k = mapped (λ (ts : List Token). Computed ts) (tokens_of 0 text) m.0 m.1 in
    let f = tokens_found 32 0 refl text k.0 k.1 in
    let is : as_operand (Computed (postfix f.0)) ≡ o = ap (λ (ts : List Token). as_operand (Computed ts)) f.2 ∙ ap as_operand k.2 ∙ m.2 in
    subst (λ (x : Option Operand). SpellsOperand kinds.Expression text x) is (an_expression text f.0 f.1)

pub expression_again : (text : List ℕ) (e : Expression) → SpellsExpression Sum 32 text e
    → operand_in kinds.Expression text ≡ Some (Some (operands.Value (Computed (postfix e))))
expression_again [] e s = absurd (let read = tokens_again 32 0 refl [] e s in nothing_spelled (postfix e) read)
expression_again (b ∷ bs) e s = rw (tokens_again 32 0 refl (b ∷ bs) e s) refl
