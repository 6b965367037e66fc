-- Statements that are the same are the same block.
use Rattle.std.proofs.Common.{◌≡◌, ℕ, ℤ, zero, suc, ◌==◌, ◌&&◌, ◌≤◌, ◌<◌, true, false, length, arith, List, [], ◌∷◌, Option, Some, None, refl, sym, get_or, ap, ap₂, ◌∙◌, rules}
use denote.Enum.Bare.{same_true, sameb}
use Rattle.std.specs.Str.{bytes_eq}
use Rattle.std.proofs.lemmas.Bool.{and_parts, eqb-true}
use Rattle.std.proofs.lemmas.Bool.Decides.{Decides-int_eq}
use Rattle.std.proofs.lemmas.Slice.Eq.{bytes_eq-Decides}
use Rattle.gw_names.specs.contracts.verb.BlockVerb.{the_type}
use Rattle.gw_expr.specs.contracts.function.FunctionType.{the_type as function_type}
use Rattle.gw_expr.specs.declared.function.FunctionType.{FunctionType}
use Rattle.gw_expr.specs.declared.function.Point.{Point}
use Rattle.gw_expr.specs.declared.function.Function.{Function}
use Rattle.gw_meaning.specs.declared.auxiliary.Auxiliary.{Auxiliary}
use Rattle.gw_names.specs.contracts.class.Class as classes
use Rattle.gw_names.specs.declared.class.Class.{Class}
use Rattle.gw_expr.specs.contracts.attribute.SubjectPartialEq.TheImpl as subject_comparison
use Rattle.gw_expr.specs.contracts.token.Operator as operators
use Rattle.gw_expr.specs.declared.token.Operator.{Operator}
use Rattle.gw_expr.specs.declared.attribute.Subject.{Subject}
use Rattle.gw_expr.specs.declared.atom.Atom.TheVariants as atoms
use Rattle.gw_expr.specs.declared.token.Token.TheVariants as tokens
use Rattle.gw_expr.specs.declared.attribute.Subject.TheVariants as subjects
use Rattle.gw_names.specs.declared.verb.BlockVerb.{BlockVerb}
use Rattle.gw_expr.specs.declared.expr.Discipline.{Discipline}
use Rattle.gw_expr.specs.declared.expr.Discipline.TheVariants as disciplines
use Rattle.gw_expr.specs.Term.{Term}
use Rattle.gw_expr.specs.declared.expr.Expr.TheVariants.{Value, Computed, Named, Label, Fraction, Defined, Table, Order}
use Rattle.gw_expr.specs.declared.atom.Atom.{Atom}
use Rattle.gw_expr.specs.declared.token.Token.{Token}
use Rattle.gw_meaning.specs.declared.statement.Statement.{Statement}
use Rattle.gw_meaning.specs.declared.statement.Block.{Block}
use Rattle.gw_meaning.specs.declared.statement.Body.{Body}
use Rattle.gw_meaning.specs.declared.statement.Body.TheVariants as bodies
use Rattle.gw_touch.specs.Same.{same_atom, same_value, same_part, same_parts, same_type, same_point, same_points, same_function, same_first, kind_of, atom_of, parts_of, number_of, bytes_of, same_term, same_operand, same_operands, same_verb, same_auxiliary, same_block, same_body, same_statement, same_label}

-- the queue discipline with a number
abbrev discipline_with : ℕ → Discipline
discipline_with zero = disciplines.Fifo
discipline_with (suc n) = disciplines.Lifo

-- the operand that is told so
abbrev told : ℕ → Option Atom → List Token → ℕ → List ℕ → Term
told zero (Some atom) parts n bytes = Value atom
told zero None parts n bytes = Computed parts
told (suc zero) atom parts n bytes = Computed parts
told (suc (suc zero)) atom parts n bytes = Named bytes
told (suc (suc (suc zero))) atom parts n bytes = Label bytes
told (suc (suc (suc (suc zero)))) atom parts n bytes = Fraction n
told (suc (suc (suc (suc (suc zero))))) atom parts n bytes = Defined bytes
told (suc (suc (suc (suc (suc (suc zero)))))) atom parts n bytes = Table bytes
told (suc (suc (suc (suc (suc (suc (suc k))))))) atom parts n bytes = Order (discipline_with n)

told_back : (a : Term) → told (kind_of a) (atom_of a) (parts_of a) (number_of a) (bytes_of a) ≡ a
told_back (Value atom) = refl
told_back (Computed ts) = refl
told_back (Named name) = refl
told_back (Label name) = refl
told_back (Fraction part) = refl
told_back (Defined name) = refl
told_back (Table name) = refl
told_back (Order disciplines.Fifo) = refl
told_back (Order disciplines.Lifo) = refl

class_same : (c d : Class) → sameb classes.the_type c d ≡ true → c ≡ d
class_same c d h = same_true classes.the_type (search rules) c d h

subject_same : (a b : Subject) → subject_comparison.ghosts.eq a b ≡ true → a ≡ b
subject_same subjects.Own subjects.Own h = refl
subject_same subjects.Own (subjects.Number n) h = absurd cc
subject_same subjects.Own (subjects.Name n) h = absurd cc
subject_same (subjects.Number m) subjects.Own h = absurd cc
subject_same (subjects.Number m) (subjects.Number n) h = ap (λ k. subjects.Number k) (eqb-true m n h)
subject_same (subjects.Number m) (subjects.Name n) h = absurd cc
subject_same (subjects.Name m) subjects.Own h = absurd cc
subject_same (subjects.Name m) (subjects.Number n) h = absurd cc
subject_same (subjects.Name m) (subjects.Name n) h = ap (λ k. subjects.Name k) ((bytes_eq-Decides m n).0 h)

atom_same : (a b : Atom) → same_atom a b ≡ true → a ≡ b
unfolding same_atom
atom_same (atoms.Constant y) (atoms.Constant z) h = ap (λ k. atoms.Constant k) ((Decides-int_eq y z).0 h)
atom_same (atoms.Constant y) (atoms.Number n) h = absurd cc
atom_same (atoms.Constant y) (atoms.Attribute c of) h = absurd cc
atom_same (atoms.Number m) (atoms.Constant z) h = absurd cc
atom_same (atoms.Number m) (atoms.Number n) h = ap (λ k. atoms.Number k) ((bytes_eq-Decides m n).0 h)
atom_same (atoms.Number m) (atoms.Attribute c of) h = absurd cc
atom_same (atoms.Attribute b what) (atoms.Constant z) h = absurd cc
atom_same (atoms.Attribute b what) (atoms.Number n) h = absurd cc
atom_same (atoms.Attribute b what) (atoms.Attribute c of) h =
    let w = and_parts (sameb classes.the_type b c) (subject_comparison.ghosts.eq what of) h in
    ap₂ (λ c of. atoms.Attribute c of) (class_same b c w.0) (subject_same what of w.1)

operator_same : (o p : Operator) → sameb operators.the_type o p ≡ true → o ≡ p
operator_same o p h = same_true operators.the_type (search rules) o p h

part_same : (t u : Token) → same_part t u ≡ true → t ≡ u
unfolding same_part same_atom
part_same (tokens.Value a) (tokens.Value b) h = ap (λ x. tokens.Value x) (atom_same a b h)
part_same (tokens.Value a) tokens.Negated h = absurd cc
part_same (tokens.Value a) (tokens.Applied p) h = absurd cc
part_same tokens.Negated (tokens.Value b) h = absurd cc
part_same tokens.Negated tokens.Negated h = refl
part_same tokens.Negated (tokens.Applied p) h = absurd cc
part_same (tokens.Applied o) (tokens.Value b) h = absurd cc
part_same (tokens.Applied o) tokens.Negated h = absurd cc
part_same (tokens.Applied o) (tokens.Applied p) h = ap (λ x. tokens.Applied x) (operator_same o p h)

value_same : (a b : Option Atom) → same_value a b ≡ true → a ≡ b
value_same None None h = refl
value_same None (Some b) h = absurd cc
value_same (Some a) None h = absurd cc
value_same (Some a) (Some b) h = ap (λ x. Some x) (atom_same a b h)

parts_same : (ts us : List Token) → same_parts ts us ≡ true → ts ≡ us
parts_same [] [] h = refl
parts_same [] (u ∷ us) h = absurd cc
parts_same (t ∷ ts) [] h = absurd cc
parts_same (t ∷ ts) (u ∷ us) h =
    let w = and_parts (same_part t u) (same_parts ts us) h in
    ap₂ (λ z zs. z ∷ zs) (part_same t u w.0) (parts_same ts us w.1)

pub more_parts_than_none : (ts us : List Token) → 1 ≤ length ts → length us < 1 → same_parts ts us ≡ false
more_parts_than_none [] us some none = absurd (omega arith)
more_parts_than_none (t ∷ ts) [] some none = refl
more_parts_than_none (t ∷ ts) (u ∷ us) some none = absurd (omega arith)

pub more_bytes_than_none : (xs ys : List ℕ) → 1 ≤ length xs → length ys < 1 → same_first xs ys ≡ (get_or xs 0 0 == 44)
more_bytes_than_none [] bs some none = absurd (omega arith)
more_bytes_than_none (a ∷ rest) [] some none = refl
more_bytes_than_none (a ∷ rest) (b ∷ bs) some none = absurd (omega arith)

pub term_same : (a b : Term) → same_term a b ≡ true → a ≡ b
term_same a b h =
    let all = and_parts (kind_of a == kind_of b) _ h in
    let but_kind = and_parts (same_value (atom_of a) (atom_of b)) _ all.1 in
    let but_value = and_parts (same_parts (parts_of a) (parts_of b)) _ but_kind.1 in
    let last = and_parts (number_of a == number_of b) (bytes_eq (bytes_of a) (bytes_of b)) but_value.1 in
    let kinds = eqb-true (kind_of a) (kind_of b) all.0 in
    let values = value_same (atom_of a) (atom_of b) but_kind.0 in
    let parts = parts_same (parts_of a) (parts_of b) but_value.0 in
    let numbers = eqb-true (number_of a) (number_of b) last.0 in
    let bytes = (bytes_eq-Decides (bytes_of a) (bytes_of b)).0 last.1 in
    sym (told_back a) ∙ (ap (λ k. told k (atom_of a) (parts_of a) (number_of a) (bytes_of a)) kinds ∙
    (ap₂ (λ v ts. told (kind_of b) v ts (number_of a) (bytes_of a)) values parts ∙
    (ap₂ (told (kind_of b) (atom_of b) (parts_of b)) numbers bytes ∙ told_back b)))

operand_same : (a b : Option Term) → same_operand a b ≡ true → a ≡ b
operand_same None None h = refl
operand_same None (Some b) h = absurd cc
operand_same (Some a) None h = absurd cc
operand_same (Some a) (Some b) h = ap (λ t. Some t) (term_same a b h)

pub more_than_none : (xs ys : List (Option Term)) → 1 ≤ length xs → length ys < 1 → same_operands xs ys ≡ false
more_than_none [] ys some none = absurd (omega arith)
more_than_none (a ∷ xs) [] some none = refl
more_than_none (a ∷ xs) (b ∷ ys) some none = absurd (omega arith)

operands_same : (xs ys : List (Option Term)) → same_operands xs ys ≡ true → xs ≡ ys
operands_same [] [] h = refl
operands_same [] (b ∷ ys) h = absurd cc
operands_same (a ∷ xs) [] h = absurd cc
operands_same (a ∷ xs) (b ∷ ys) h =
    let w = and_parts (same_operand a b) (same_operands xs ys) h in
    ap₂ (λ z zs. z ∷ zs) (operand_same a b w.0) (operands_same xs ys w.1)

verb_same : (v w : BlockVerb) → same_verb v w ≡ true → v ≡ w
unfolding same_verb
verb_same v w h = same_true the_type (search rules) v w h

auxiliary_same : (a b : Auxiliary) → same_auxiliary a b ≡ true → a ≡ b
unfolding same_auxiliary
auxiliary_same a b h = search rules

pub block_same : (a b : Block) → same_block a b ≡ true → a ≡ b
block_same a b h =
    let w = and_parts (same_verb a.verb b.verb) (same_auxiliary a.auxiliary b.auxiliary && same_operands a.operands b.operands) h in
    let u = and_parts (same_auxiliary a.auxiliary b.auxiliary) (same_operands a.operands b.operands) w.1 in
    ap₂ (λ (v : BlockVerb) (os : List (Option Term)). record { verb = v; auxiliary = a.auxiliary; operands = os }) (verb_same a.verb b.verb w.0)
    (operands_same a.operands b.operands u.1)
    ∙ ap (λ (x : Auxiliary). record { verb = b.verb; auxiliary = x; operands = b.operands }) (auxiliary_same a.auxiliary b.auxiliary u.0)

body_same : (a b : Body) → same_body a b ≡ true → a ≡ b
body_same (bodies.Block a) (bodies.Block b) h = ap (λ x. bodies.Block x) (block_same a b h)
body_same (bodies.Block a) (bodies.Definition d) h = absurd cc
body_same (bodies.Block a) (bodies.Command d) h = absurd cc
body_same (bodies.Definition c) b h = absurd cc
body_same (bodies.Command c) b h = absurd cc

pub statement_same : (s s' : Statement) → same_statement s s' ≡ true → s.body ≡ s'.body
statement_same s s' h = body_same s.body s'.body ((and_parts (bytes_eq s.operands s'.operands) (same_body s.body s'.body) h).1)

-- so are labels
pub label_same : (a b : Option (List ℕ)) → same_label a b ≡ true → a ≡ b
label_same None None h = refl
label_same None (Some b) h = absurd cc
label_same (Some a) None h = absurd cc
label_same (Some a) (Some b) h = ap (λ name. Some name) ((bytes_eq-Decides a b).0 h)

-- so are FUNCTIONs
type_same : (a b : FunctionType) → same_type a b ≡ true → a ≡ b
unfolding same_type
type_same a b h = same_true function_type (search rules) a b h

point_same : (p q : Point) → same_point p q ≡ true → p ≡ q
unfolding same_point
point_same p q h =
    let w = and_parts _ _ h in
    ap₂ (λ (x y : ℤ). record { x = x; y = y }) ((Decides-int_eq p.x q.x).0 w.0) ((Decides-int_eq p.y q.y).0 w.1)

points_same : (ps qs : List Point) → same_points ps qs ≡ true → ps ≡ qs
points_same [] [] h = refl
points_same [] (q ∷ qs) h = absurd cc
points_same (p ∷ ps) [] h = absurd cc
points_same (p ∷ ps) (q ∷ qs) h =
    let w = and_parts (same_point p q) (same_points ps qs) h in
    ap₂ (λ z zs. z ∷ zs) (point_same p q w.0) (points_same ps qs w.1)

pub function_same : (f g : Function) → same_function f g ≡ true → f ≡ g
function_same f g h =
    let but_argument = and_parts (same_term f.argument g.argument) _ h in
    let but_type = and_parts (same_type f.kind g.kind) _ but_argument.1 in
    let last = and_parts (f.count == g.count) (same_points f.points g.points) but_type.1 in
    ap₂ (λ (t : Term) (k : FunctionType). record { argument = t; kind = k; count = f.count; points = f.points })
    (term_same f.argument g.argument but_argument.0) (type_same f.kind g.kind but_type.0) ∙
    ap₂ (λ (n : ℕ) (ps : List Point). record { argument = g.argument; kind = g.kind; count = n; points = ps })
    (eqb-true f.count g.count last.0) (points_same f.points g.points last.1)
