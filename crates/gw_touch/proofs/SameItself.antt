-- Statements that are one are the same: so are their operands, labels and FUNCTIONs. And two first operands are the same
-- exactly where they are one up to their commas.
use Rattle.std.proofs.Common.{◌≡◌, ℕ, ◌==◌, ◌&&◌, ◌||◌, Bool, true, false, cond, List, [], ◌∷◌, Option, Some, None, is_some, refl, sym, ap, ap₂, subst, ◌∙◌, inl, inr}
use denote.Enum.Bare.{true_same}
use Rattle.std.specs.Str.{bytes_eq}
use Rattle.std.proofs.lemmas.Bool.{and_from, and_parts, eq-eqb, eqb-true, or_cases, or_left, or_right}
use Rattle.std.proofs.lemmas.Slice.Eq.{bytes_eq-Decides}
use Rattle.gw_names.specs.contracts.verb.BlockVerb.{the_type}
use Rattle.gw_expr.specs.contracts.atom.AtomEq.TheImpl.Laws as atom_laws
use Rattle.gw_expr.specs.contracts.token.TokenEq.TheImpl.Laws as token_laws
use Rattle.gw_expr.specs.contracts.function.PointEq.TheImpl.Laws as point_laws
use Rattle.gw_expr.specs.contracts.function.FunctionType.{the_type as function_type}
use Rattle.gw_expr.specs.declared.function.Function.{Function}
use Rattle.gw_expr.specs.declared.function.Point.{Point}
use Rattle.gw_expr.specs.declared.atom.Atom.{Atom}
use Rattle.gw_expr.specs.declared.token.Token.{Token}
use Rattle.gw_expr.specs.Term.{Term}
use Rattle.gw_meaning.specs.contracts.auxiliary.AuxiliaryEq.TheImpl.Laws as auxiliary_laws
use Rattle.gw_meaning.specs.declared.auxiliary.Auxiliary.{Auxiliary}
use Rattle.gw_meaning.specs.declared.statement.Statement.{Statement}
use Rattle.gw_meaning.specs.declared.statement.Block.{Block}
use Rattle.gw_meaning.specs.declared.statement.Body.{Body}
use Rattle.gw_meaning.specs.declared.statement.Body.TheVariants as bodies
use Rattle.gw_meaning.specs.Listing.{block_of_body}
use Rattle.gw_touch.specs.Same.{same_atom, same_value, same_part, same_parts, same_type, same_point, same_points, same_function, same_first, kind_of, atom_of, parts_of, number_of, bytes_of, same_term, same_operand, same_operands, same_verb, same_auxiliary, same_block, same_body, same_statement, same_label}
use Rattle.gw_touch.specs.Touches.{first_operand}

pub bytes_itself : (bs : List ℕ) → bytes_eq bs bs ≡ true
bytes_itself bs = (bytes_eq-Decides bs bs).1 refl

-- ---- operands

atom_itself : (a : Atom) → same_atom a a ≡ true
unfolding same_atom
atom_itself a = atom_laws.laws-law.refl a

value_itself : (a : Option Atom) → same_value a a ≡ true
value_itself None = refl
value_itself (Some a) = atom_itself a

part_itself : (t : Token) → same_part t t ≡ true
unfolding same_part
part_itself t = token_laws.laws-law.refl t

parts_itself : (ts : List Token) → same_parts ts ts ≡ true
parts_itself [] = refl
parts_itself (t ∷ ts) = and_from (same_part t t) (same_parts ts ts) (part_itself t) (parts_itself ts)

pub term_itself : (a : Term) → same_term a a ≡ true
term_itself a =
    and_from (kind_of a == kind_of a) _ (eq-eqb (kind_of a) (kind_of a) refl)
    (and_from (same_value (atom_of a) (atom_of a)) _ (value_itself (atom_of a))
    (and_from (same_parts (parts_of a) (parts_of a)) _ (parts_itself (parts_of a))
    (and_from (number_of a == number_of a) (bytes_eq (bytes_of a) (bytes_of a)) (eq-eqb (number_of a) (number_of a) refl) (bytes_itself (bytes_of a)))))

operand_itself : (a : Option Term) → same_operand a a ≡ true
operand_itself None = refl
operand_itself (Some a) = term_itself a

operands_itself : (xs : List (Option Term)) → same_operands xs xs ≡ true
operands_itself [] = refl
operands_itself (x ∷ xs) = and_from (same_operand x x) (same_operands xs xs) (operand_itself x) (operands_itself xs)

-- ---- statements

auxiliary_itself : (a : Auxiliary) → same_auxiliary a a ≡ true
unfolding same_auxiliary
auxiliary_itself a = auxiliary_laws.laws-law.refl a

pub block_itself : (b : Block) → same_block b b ≡ true
unfolding same_verb
block_itself b =
    and_from (same_verb b.verb b.verb) _ (true_same the_type b.verb b.verb refl)
    (and_from (same_auxiliary b.auxiliary b.auxiliary) (same_operands b.operands b.operands)
    (auxiliary_itself b.auxiliary) (operands_itself b.operands))

body_itself : (b : Body) → is_some (block_of_body b) ≡ true → same_body b b ≡ true
body_itself (bodies.Block b) h = block_itself b
body_itself (bodies.Definition d) h = absurd cc
body_itself (bodies.Command c) h = absurd cc

pub one_statement : (s s' : Statement) → is_some (block_of_body s.body) ≡ true → s.operands ≡ s'.operands → s.body ≡ s'.body → same_statement s s' ≡ true
one_statement s s' is operands body =
    and_from (bytes_eq s.operands s'.operands) (same_body s.body s'.body)
    ((bytes_eq-Decides s.operands s'.operands).1 operands)
    (subst (λ (b : Body). same_body s.body b ≡ true) body (body_itself s.body is))

pub one_label : (a b : Option (List ℕ)) → a ≡ b → same_label a b ≡ true
one_label None None h = refl
one_label None (Some b) h = absurd cc
one_label (Some a) None h = absurd cc
one_label (Some a) (Some b) h = let same : a ≡ b = cc in (bytes_eq-Decides a b).1 same

-- ---- FUNCTIONs

point_itself : (p : Point) → same_point p p ≡ true
unfolding same_point
point_itself p = point_laws.laws-law.refl p

points_itself : (ps : List Point) → same_points ps ps ≡ true
points_itself [] = refl
points_itself (p ∷ ps) = and_from (same_point p p) (same_points ps ps) (point_itself p) (points_itself ps)

pub function_itself : (f : Function) → same_function f f ≡ true
unfolding same_type
function_itself f =
    and_from (same_term f.argument f.argument) _ (term_itself f.argument)
    (and_from (same_type f.kind f.kind) _ (true_same function_type f.kind f.kind refl)
    (and_from (f.count == f.count) (same_points f.points f.points) (eq-eqb f.count f.count refl) (points_itself f.points)))

-- ---- first operands

pub first_same : (xs ys : List ℕ) → same_first xs ys ≡ true → first_operand xs ≡ first_operand ys
first_same [] [] h = refl
first_same [] (b ∷ bs) h = ap (λ c. cond c [] (b ∷ first_operand bs)) (sym h)
first_same (a ∷ rest) [] h = ap (λ c. cond c [] (a ∷ first_operand rest)) h
first_same (a ∷ rest) (b ∷ bs) h = go (first_same rest bs) where
  both : ((a == b) ≡ true) × (((a == 44) || same_first rest bs) ≡ true)
  both = and_parts (a == b) ((a == 44) || same_first rest bs) h

  one : a ≡ b
  one = eqb-true a b both.0

  go : (same_first rest bs ≡ true → first_operand rest ≡ first_operand bs) → first_operand (a ∷ rest) ≡ first_operand (b ∷ bs)
  go behind =
      elim (or_cases (a == 44) (same_first rest bs) both.1) [
        | inl ends ↦
            ap (λ c. cond c [] (a ∷ first_operand rest)) ends
            ∙ sym (ap (λ c. cond c [] (b ∷ first_operand bs)) (ap (λ x. x == 44) (sym one) ∙ ends))
        | inr goes ↦ ap₂ (λ x (xs : List ℕ). cond (x == 44) [] (x ∷ xs)) one (behind goes)
      ]

pub one_first : (xs ys : List ℕ) → first_operand xs ≡ first_operand ys → same_first xs ys ≡ true
one_first [] [] h = refl
one_first [] (b ∷ bs) h = go (b == 44) refl h where
  go : (c : Bool) → (b == 44) ≡ c → [] ≡ cond c [] (b ∷ first_operand bs) → (b == 44) ≡ true
  go true is k = is
  go false is k = absurd cc
one_first (a ∷ rest) [] h = go (a == 44) refl h where
  go : (c : Bool) → (a == 44) ≡ c → cond c [] (a ∷ first_operand rest) ≡ [] → (a == 44) ≡ true
  go true is k = is
  go false is k = absurd cc
one_first (a ∷ rest) (b ∷ bs) h = go (a == 44) refl (b == 44) refl h (one_first rest bs) where
  go : (c : Bool) → (a == 44) ≡ c → (d : Bool) → (b == 44) ≡ d → cond c [] (a ∷ first_operand rest) ≡ cond d [] (b ∷ first_operand bs) →
      (first_operand rest ≡ first_operand bs → same_first rest bs ≡ true) → ((a == b) && ((a == 44) || same_first rest bs)) ≡ true
  go true p true q k behind =
      and_from (a == b) _ (eq-eqb a b (eqb-true a 44 p ∙ sym (eqb-true b 44 q))) (or_left (a == 44) (same_first rest bs) p)
  go true p false q k behind = absurd cc
  go false p true q k behind = absurd cc
  go false p false q k behind =
      let one : a ≡ b = cc in
      let more : first_operand rest ≡ first_operand bs = cc in
      and_from (a == b) _ (eq-eqb a b one) (or_right (a == 44) (same_first rest bs) (behind more))
