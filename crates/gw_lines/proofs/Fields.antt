-- The operands of forms, as data: what lists of parts that spell them come down to.
use Rattle.std.proofs.Common.{◌≡◌, ℕ, ◌&&◌, Bool, true, false, List, [], ◌∷◌, Option, Some, None, refl, ◌∙◌, ◌⊎◌, inl, inr}
use Rattle.std.specs.Prelude.{ℤ, map, option_map, pos, unwrap_or}
use Rattle.std.proofs.lemmas.Bool.{and_parts}
use Rattle.gw_expr.specs.declared.atom.Atom.TheVariants as atoms
use Rattle.gw_expr.specs.Expressions.{postfix}
use Rattle.gw_expr.specs.declared.expr.Discipline.TheVariants as disciplines
use Rattle.gw_expr.specs.Term.{Term}
use Rattle.gw_expr.specs.declared.expr.Expr.TheVariants.{Value, Computed, Defined, Fraction, Label, Named, Order, Table}
use Rattle.gw_expr.specs.declared.function.FunctionType.{FunctionType}
use Rattle.gw_expr.specs.declared.function.FunctionType.TheVariants as types
use Rattle.gw_lines.specs.declared.form.Kind.{Kind}
use Rattle.gw_lines.specs.declared.form.Kind.TheVariants as kinds
use Rattle.gw_lines.specs.declared.form.Presence.{Presence}
use Rattle.gw_lines.specs.declared.form.Presence.TheVariants as presences
use Rattle.gw_lines.specs.declared.form.Form.{Form}
use Rattle.gw_lines.specs.declared.operand.Operand.{Operand}
use Rattle.gw_lines.specs.declared.operand.Operand.TheVariants as operands
use Rattle.gw_lines.specs.Forms.{value, whole}
use Rattle.gw_lines.specs.Parts.{part_of, is_missing}
use Rattle.gw_lines.specs.Spelling.{SpellsOperand, absent, a_value, a_constant, named_value, attribute_value, computed_value, a_whole, a_key, named_entity, numbered_entity, attribute_entity, computed_entity, a_fraction, a_label, a_definition, a_table, an_expression, continuous, discrete, first_in_first_out, last_in_first_out, unbounded, a_bound, SpellsAll, no_form, stands, unwritten}

abbrev pub Data : Kind → Type 0
Data kinds.Value = Term
Data kinds.Constant = ℤ
Data (kinds.Whole most) = ℕ
Data kinds.Quiet = Unit {0}
Data kinds.Entity = Term
Data kinds.Fraction = Term
Data kinds.Label = Term
Data kinds.Defined = Term
Data kinds.Table = Term
Data kinds.Expression = Term
Data kinds.Points = FunctionType × ℕ
Data kinds.Order = Term
Data kinds.Bound = Option Term

abbrev pub data_operand : (kind : Kind) → Data kind → Option Operand
data_operand kinds.Value t = Some (operands.Value t)
data_operand kinds.Constant z = Some (operands.Value (Value (atoms.Constant z)))
data_operand (kinds.Whole most) n = Some (operands.Whole n)
data_operand kinds.Quiet u = None
data_operand kinds.Entity t = Some (operands.Value t)
data_operand kinds.Fraction t = Some (operands.Value t)
data_operand kinds.Label t = Some (operands.Value t)
data_operand kinds.Defined t = Some (operands.Value t)
data_operand kinds.Table t = Some (operands.Value t)
data_operand kinds.Expression t = Some (operands.Value t)
data_operand kinds.Points (type, n) = Some (operands.Points type n)
data_operand kinds.Order t = Some (operands.Value t)
data_operand kinds.Bound d = value d

abbrev pub Field : Presence → Kind → Type 0
Field presences.Required kind = Data kind
Field presence kind = Option (Data kind)

-- an operand that may be absent; a key word leaves no trace
abbrev pub maybe : (kind : Kind) → Option (Data kind) → Option Operand
maybe kinds.Value d = value d
maybe kinds.Constant d = value (option_map (λ z. Value (atoms.Constant z)) d)
maybe (kinds.Whole most) d = whole d
maybe kinds.Quiet d = None
maybe kinds.Entity d = value d
maybe kinds.Fraction d = value d
maybe kinds.Label d = value d
maybe kinds.Defined d = value d
maybe kinds.Table d = value d
maybe kinds.Expression d = value d
maybe kinds.Points d = option_map (λ (p : FunctionType × ℕ). operands.Points p.0 p.1) d
maybe kinds.Order d = value d
maybe kinds.Bound d = value (unwrap_or d None)

maybe_some : (kind : Kind) (d : Data kind) → maybe kind (Some d) ≡ data_operand kind d
maybe_some kinds.Value d = refl
maybe_some kinds.Constant d = refl
maybe_some (kinds.Whole most) d = refl
maybe_some kinds.Quiet d = refl
maybe_some kinds.Entity d = refl
maybe_some kinds.Fraction d = refl
maybe_some kinds.Label d = refl
maybe_some kinds.Defined d = refl
maybe_some kinds.Table d = refl
maybe_some kinds.Expression d = refl
maybe_some kinds.Points (type, n) = refl
maybe_some kinds.Order d = refl
maybe_some kinds.Bound d = refl

maybe_none : (kind : Kind) → maybe kind None ≡ None
maybe_none kinds.Value = refl
maybe_none kinds.Constant = refl
maybe_none (kinds.Whole most) = refl
maybe_none kinds.Quiet = refl
maybe_none kinds.Entity = refl
maybe_none kinds.Fraction = refl
maybe_none kinds.Label = refl
maybe_none kinds.Defined = refl
maybe_none kinds.Table = refl
maybe_none kinds.Expression = refl
maybe_none kinds.Points = refl
maybe_none kinds.Order = refl
maybe_none kinds.Bound = refl

abbrev pub field_operand : (presence : Presence) (kind : Kind) → Field presence kind → Option Operand
field_operand presences.Required kind d = data_operand kind d
field_operand presences.Optional kind d = maybe kind d
field_operand presences.Written kind d = maybe kind d

data_of : {kind : Kind} {text : List ℕ} {o : Option Operand} → SpellsOperand kind text o
    → ((d : Data kind) × (data_operand kind d ≡ o)) ⊎ ((text ≡ []) × (None ≡ o))
data_of (absent kind) = inr (refl, refl)
data_of (a_value text z v) = inl (Value (atoms.Constant z), refl)
data_of (a_constant text z v) = inl (z, refl)
data_of (named_value text name e) = inl (Value (atoms.Number name), refl)
data_of (attribute_value text class of s) = inl (Value (atoms.Attribute class of), refl)
data_of (computed_value text e s) = inl (Computed (postfix e), refl)
data_of (a_whole most text n h from) = inl (n, refl)
data_of a_key = inl (tt, refl)
data_of (named_entity text name e) = inl (Named name, refl)
data_of (numbered_entity text n h from) = inl (Value (atoms.Constant (pos n)), refl)
data_of (attribute_entity text class of s) = inl (Value (atoms.Attribute class of), refl)
data_of (computed_entity text e s) = inl (Computed (postfix e), refl)
data_of (a_fraction text n f) = inl (Fraction n, refl)
data_of (a_label text name e) = inl (Label name, refl)
data_of (a_definition text name e) = inl (Defined name, refl)
data_of (a_table text name e) = inl (Table name, refl)
data_of (an_expression text e s) = inl (Computed (postfix e), refl)
data_of (continuous digits n h from) = inl ((types.Continuous, n), refl)
data_of (discrete digits n h from) = inl ((types.Discrete, n), refl)
data_of first_in_first_out = inl (Order disciplines.Fifo, refl)
data_of last_in_first_out = inl (Order disciplines.Lifo, refl)
data_of unbounded = inl (None, refl)
data_of (a_bound text o other s) = elim (data_of s) [
  | inl d ↦ inl (Some d.0, d.1)
  | inr none ↦ inr none
]

maybe_field : (kind : Kind) {P : Type 0} {o : Option Operand}
    → ((d : Data kind) × (data_operand kind d ≡ o)) ⊎ (P × (None ≡ o))
    → (d : Option (Data kind)) × (maybe kind d ≡ o)
maybe_field kind (inl d) = (Some d.0, maybe_some kind d.0 ∙ d.1)
maybe_field kind (inr none) = (None, maybe_none kind ∙ none.1)

-- the operand of a form is one of its fields
field : (presence : Presence) {kind : Kind} {text : List ℕ} {o : Option Operand}
    → is_missing (record { kind = kind; presence = presence }) text ≡ false → SpellsOperand kind text o
    → (d : Field presence kind) × (field_operand presence kind d ≡ o)
field presences.Required {kind} {text} {o} given s =
    elim (data_of s) [
      | inl d ↦ d
      | inr none ↦ absurd (let f = rw none.0 at given in cc)
    ]
field presences.Optional {kind} given s = maybe_field kind (data_of s)
field presences.Written {kind} given s = maybe_field kind (data_of s)

-- the operands of forms that all have a place
abbrev pub Row : List Form → Type 0
Row [] = Unit {0}
Row (form ∷ forms) = Field form.presence form.kind × Row forms

abbrev pub row_operands : (forms : List Form) → Row forms → List (Option Operand)
row_operands [] r = []
row_operands (form ∷ forms) r = field_operand form.presence form.kind r.0 ∷ row_operands forms r.1

abbrev pub has_place : Presence → Bool
has_place presences.Written = false
has_place presence = true

abbrev pub have_places : List Form → Bool
have_places [] = true
have_places (form ∷ forms) = has_place form.presence && have_places forms

pub row : {forms : List Form} {parts : List (List ℕ)} {os : List (Option Operand)} → have_places forms ≡ true
    → SpellsAll forms parts os → (r : Row forms) × (row_operands forms r ≡ os)
row p no_form = (tt, refl)
row p (stands form forms parts o os listed given here others) =
    let a = and_parts (has_place form.presence) (have_places forms) p in
    let f = field form.presence given here in
    let r = row a.1 others in
    ((f.0, r.0), rw (f.1, r.1) refl)
row p (unwritten form forms os w others) =
    let a = and_parts (has_place form.presence) (have_places forms) p in
    absurd (let f = rw w at a.0 in cc)

-- ---- operands of one kind, as many as are written

abbrev pub are_all : (Kind → Bool) → List Form → Bool
are_all is [] = true
are_all is (form ∷ forms) = is form.kind && are_all is forms

-- an operand of a kind is one of some data, or absent
abbrev OneIs : {X : Type 0} → (Kind → Bool) → (Option X → Option Operand) → Type 0
OneIs {X} is put = (kind : Kind) (text : List ℕ) (o : Option Operand) → is kind ≡ true → SpellsOperand kind text o
    → (v : Option X) × (put v ≡ o)

all_put : {X : Type 0} (is : Kind → Bool) (put : Option X → Option Operand) → OneIs is put
    → {forms : List Form} {parts : List (List ℕ)} {os : List (Option Operand)} → are_all is forms ≡ true
    → SpellsAll forms parts os → (values : List (Option X)) × (map put values ≡ os)
all_put is put one w no_form = ([], refl)
all_put is put one w (stands form forms parts o os listed given here others) =
    let a = and_parts (is form.kind) (are_all is forms) w in
    let v = one form.kind (part_of parts) o a.0 here in
    let vs = all_put is put one a.1 others in
    (v.0 ∷ vs.0, rw (v.1, vs.1) refl)
all_put is put one w (unwritten form forms os p others) =
    all_put is put one (and_parts (is form.kind) (are_all is forms) w).1 others

abbrev pub is_value : Kind → Bool
is_value kinds.Value = true
is_value kinds.Constant = true
is_value kinds.Entity = true
is_value kinds.Fraction = true
is_value kinds.Label = true
is_value kinds.Defined = true
is_value kinds.Table = true
is_value kinds.Expression = true
is_value kinds.Order = true
is_value kinds.Bound = true
is_value kind = false

one_value : {kind : Kind} {text : List ℕ} {o : Option Operand} → is_value kind ≡ true → SpellsOperand kind text o
    → (v : Option Term) × (value v ≡ o)
one_value w (absent kind) = (None, refl)
one_value w (a_value text z v) = (Some (Value (atoms.Constant z)), refl)
one_value w (a_constant text z v) = (Some (Value (atoms.Constant z)), refl)
one_value w (named_value text name e) = (Some (Value (atoms.Number name)), refl)
one_value w (attribute_value text class of s) = (Some (Value (atoms.Attribute class of)), refl)
one_value w (computed_value text e s) = (Some (Computed (postfix e)), refl)
one_value w (a_whole most text n h from) = absurd cc
one_value w a_key = absurd cc
one_value w (named_entity text name e) = (Some (Named name), refl)
one_value w (numbered_entity text n h from) = (Some (Value (atoms.Constant (pos n))), refl)
one_value w (attribute_entity text class of s) = (Some (Value (atoms.Attribute class of)), refl)
one_value w (computed_entity text e s) = (Some (Computed (postfix e)), refl)
one_value w (a_fraction text n f) = (Some (Fraction n), refl)
one_value w (a_label text name e) = (Some (Label name), refl)
one_value w (a_definition text name e) = (Some (Defined name), refl)
one_value w (a_table text name e) = (Some (Table name), refl)
one_value w (an_expression text e s) = (Some (Computed (postfix e)), refl)
one_value w (continuous digits n h from) = absurd cc
one_value w (discrete digits n h from) = absurd cc
one_value w first_in_first_out = (Some (Order disciplines.Fifo), refl)
one_value w last_in_first_out = (Some (Order disciplines.Lifo), refl)
one_value w unbounded = (None, refl)
one_value w (a_bound text o other s) = one_value refl s

pub values : {forms : List Form} {parts : List (List ℕ)} {os : List (Option Operand)} → are_all is_value forms ≡ true
    → SpellsAll forms parts os → (values : List (Option Term)) × (map value values ≡ os)
values w s = all_put is_value value (λ kind text o. one_value) w s

abbrev is_whole : Kind → Bool
is_whole (kinds.Whole most) = true
is_whole kind = false

one_whole : {kind : Kind} {text : List ℕ} {o : Option Operand} → is_whole kind ≡ true → SpellsOperand kind text o
    → (v : Option ℕ) × (whole v ≡ o)
one_whole w (absent kind) = (None, refl)
one_whole w (a_value text z v) = absurd cc
one_whole w (a_constant text z v) = absurd cc
one_whole w (named_value text name e) = absurd cc
one_whole w (attribute_value text class of s) = absurd cc
one_whole w (computed_value text e s) = absurd cc
one_whole w (a_whole most text n h from) = (Some n, refl)
one_whole w a_key = absurd cc
one_whole w (named_entity text name e) = absurd cc
one_whole w (numbered_entity text n h from) = absurd cc
one_whole w (attribute_entity text class of s) = absurd cc
one_whole w (computed_entity text e s) = absurd cc
one_whole w (a_fraction text n f) = absurd cc
one_whole w (a_label text name e) = absurd cc
one_whole w (a_definition text name e) = absurd cc
one_whole w (a_table text name e) = absurd cc
one_whole w (an_expression text e s) = absurd cc
one_whole w (continuous digits n h from) = absurd cc
one_whole w (discrete digits n h from) = absurd cc
one_whole w first_in_first_out = absurd cc
one_whole w last_in_first_out = absurd cc
one_whole w unbounded = absurd cc
one_whole w (a_bound text o other s) = absurd cc

pub wholes : {forms : List Form} {parts : List (List ℕ)} {os : List (Option Operand)} → are_all is_whole forms ≡ true
    → SpellsAll forms parts os → (values : List (Option ℕ)) × (map whole values ≡ os)
wholes w s = all_put is_whole whole (λ kind text o. one_whole) w s
