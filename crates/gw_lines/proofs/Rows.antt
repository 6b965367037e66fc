-- A statement is made of its operands, and operands of a verb's forms make a statement. All blocks are one case; a command
-- has a row in `built` and a row in `command_made`, and a definition one in `built` and one in `definition_made`.
use Rattle.std.proofs.Common.{◌≡◌, ℕ, Bool, true, false, List, [], ◌∷◌, Option, Some, None, refl, ap, subst}
use Rattle.std.specs.Prelude.{ℤ, map, is_none, if◌then◌else◌}
use Rattle.gw_names.specs.declared.verb.BlockVerb.{BlockVerb}
use Rattle.gw_names.specs.declared.verb.BlockVerb.TheVariants as blocks
use Rattle.gw_names.specs.declared.verb.DefinitionVerb.{DefinitionVerb}
use Rattle.gw_names.specs.declared.verb.DefinitionVerb.TheVariants as definition_verbs
use Rattle.gw_names.specs.declared.verb.CommandVerb.{CommandVerb}
use Rattle.gw_names.specs.declared.verb.CommandVerb.TheVariants as command_verbs
use Rattle.gw_names.specs.declared.verb.Verb.{Verb}
use Rattle.gw_names.specs.declared.verb.Verb.TheVariants as verbs
use Rattle.gw_expr.specs.Term.{Term}
use Rattle.gw_meaning.specs.Classes.{is_scale, scale_of}
use Rattle.gw_meaning.specs.declared.statement.Definition.TheVariants as definitions
use Rattle.gw_meaning.specs.declared.statement.Command.TheVariants as commands
use Rattle.gw_meaning.specs.declared.auxiliary.Auxiliary.{Auxiliary}
use Rattle.gw_meaning.specs.declared.statement.Body.{Body}
use Rattle.gw_meaning.specs.declared.statement.Body.TheVariants as bodies
use Rattle.gw_meaning.specs.Statements.{verb_of_body}
use Rattle.gw_lines.specs.declared.form.Form.{Form}
use Rattle.gw_lines.specs.declared.operand.Operand.{Operand}
use Rattle.gw_lines.specs.Forms.{a_definition, an_entity, another_label, asks_storage, forms_of_block, forms_of_definition, forms_of_command, forms_of, value, whole, fields_of, points_of}
use Rattle.gw_lines.specs.Fields.{value_in, whole_in, misfits}
use Rattle.gw_lines.specs.Bodies.{table_with, body_with}
use Rattle.gw_lines.specs.Auxiliaries.{HasAuxiliary}
use Rattle.gw_lines.specs.Spelling.{SpellsAll}
use Rattle.gw_lines.proofs.Fields.{Row, row_operands, have_places, row, is_value, are_all, values, wholes}

value_back : (v : Option Term) → value_in (value v) ≡ v
value_back (Some t) = refl
value_back None = refl

wholes_back : (values : List (Option ℕ)) → map whole_in (map whole values) ≡ values
wholes_back [] = refl
wholes_back (Some n ∷ values) = ap (λ (x : List (Option ℕ)). Some n ∷ x) (wholes_back values)
wholes_back (None ∷ values) = ap (λ (x : List (Option ℕ)). None ∷ x) (wholes_back values)

values_back : (values : List (Option Term)) → map value_in (map value values) ≡ values
values_back [] = refl
values_back (v ∷ values) = rw (value_back v, values_back values) refl

-- a statement is made of its operands and what stands beside them
table_built : (argument : Term) (first : ℤ) (width count : ℕ) (lawful : Bool) → is_scale (record { first = first; width = width; count = count }) ≡ lawful
    → is_none (scale_of first width count) ≡ false
    → table_with (Some argument) (scale_of first width count)
    ≡ Some (bodies.Definition (definitions.Table (record { argument = argument; classes = record { first = first; width = width; count = count } })))
table_built argument first width count true is fit = rw is refl
table_built argument first width count false is fit = absurd (let f = rw is at fit in cc)

pub built : (body : Body) (beside : Auxiliary) → HasAuxiliary body beside → points_of body ≡ []
    → misfits (verb_of_body body) (fields_of body) ≡ false → body_with (verb_of_body body) beside (fields_of body) ≡ Some body
unfolding body_with
built (bodies.Block block) beside has none fit = rw (values_back block.operands, ← has) refl
built (bodies.Definition (definitions.Storage capacity)) beside has none fit = refl
built (bodies.Definition (definitions.Equ z)) beside has none fit = refl
built (bodies.Definition (definitions.Variable expression)) beside has none fit = refl
built (bodies.Definition (definitions.Function function)) beside has none fit = rw none refl
built (bodies.Definition (definitions.Table table)) beside has none fit =
    let c = table.classes in table_built table.argument c.first c.width c.count (is_scale c) refl fit
built (bodies.Command (commands.Start count)) beside has none fit = refl
built (bodies.Command (commands.Rmult values)) beside has none fit = rw (wholes_back values) refl
built (bodies.Command commands.Reset) beside has none fit = refl
built (bodies.Command commands.Clear) beside has none fit = refl

-- ---- each verb's forms make a statement

-- the operands of a block are values
abbrev forms_are_values : Option (List Form) → Bool
forms_are_values None = true
forms_are_values (Some forms) = are_all is_value forms

gate_values : (storage : Bool) → are_all is_value ((if storage then a_definition else an_entity) ∷ another_label ∷ []) ≡ true
gate_values true = refl
gate_values false = refl

block_values : (verb : BlockVerb) (beside : Auxiliary) (given : Bool) → forms_are_values (forms_of_block verb beside given) ≡ true
block_values blocks.Generate beside given = refl
block_values blocks.Transfer beside true = refl
block_values blocks.Transfer beside false = refl
block_values blocks.Gate beside given = gate_values (asks_storage beside)
block_values verb beside given = refl

pub record Made (verb : Verb) (beside : Auxiliary) (os : List (Option Operand)) : Type 0 where
  pub body : Body
  pub verb_is : verb_of_body body ≡ verb
  pub has_auxiliary : HasAuxiliary body beside
  pub pointless : points_of body ≡ []
  pub fields : fields_of body ≡ os

abbrev MadeOf : Verb → Auxiliary → Option (List Form) → Type 0
MadeOf verb beside None = Unit {0}
MadeOf verb beside (Some forms) =
    (parts : List (List ℕ)) (os : List (Option Operand)) → SpellsAll forms parts os → Made verb beside os

of_row : (verb : Verb) (beside : Auxiliary) (forms : List Form) → have_places forms ≡ true
    → ((r : Row forms) → Made verb beside (row_operands forms r))
    → (parts : List (List ℕ)) (os : List (Option Operand)) → SpellsAll forms parts os → Made verb beside os
of_row verb beside forms p make parts os s =
    let r = row p s in subst (λ (x : List (Option Operand)). Made verb beside x) r.1 (make r.0)

makes : (body : Body) (beside : Auxiliary) {os : List (Option Operand)} → HasAuxiliary body beside → points_of body ≡ []
    → fields_of body ≡ os → Made (verb_of_body body) beside os
makes body beside has none e = record { body = body; verb_is = refl; has_auxiliary = has; pointless = none; fields = e }

block_made : (verb : BlockVerb) (beside : Auxiliary) (o : Option (List Form)) → forms_are_values o ≡ true → MadeOf (verbs.Block verb) beside o
block_made verb beside None are = tt
block_made verb beside (Some forms) are =
    λ parts os s.
    (let vs = values are s in makes (bodies.Block (record { verb = verb; auxiliary = beside; operands = vs.0 })) beside refl refl vs.1)

definition_made : (verb : DefinitionVerb) (beside : Auxiliary) → MadeOf (verbs.Definition verb) beside (forms_of_definition verb)
definition_made definition_verbs.Storage beside =
    of_row (verbs.Definition definition_verbs.Storage) beside _ refl
    (λ (c, u). makes (bodies.Definition (definitions.Storage c)) beside tt refl refl)
definition_made definition_verbs.Equ beside =
    of_row (verbs.Definition definition_verbs.Equ) beside _ refl (λ (z, u). makes (bodies.Definition (definitions.Equ z)) beside tt refl refl)
definition_made definition_verbs.Variable beside =
    of_row (verbs.Definition definition_verbs.Variable) beside _ refl (λ (e, u). makes (bodies.Definition (definitions.Variable e)) beside tt refl refl)
definition_made definition_verbs.Function beside =
    of_row (verbs.Definition definition_verbs.Function) beside _ refl
    (λ (a, ((t, n), u)). makes (bodies.Definition (definitions.Function (record { argument = a; kind = t; count = n; points = [] }))) beside tt refl refl)
definition_made definition_verbs.Table beside =
    of_row (verbs.Definition definition_verbs.Table) beside _ refl
    (λ (a, (z, (w, (n, u)))). makes (bodies.Definition (definitions.Table (record {
      argument = a;
      classes = record { first = z; width = w; count = n };
    }))) beside tt refl refl)

command_made : (verb : CommandVerb) (beside : Auxiliary) → MadeOf (verbs.Command verb) beside (forms_of_command verb)
command_made command_verbs.Start beside =
    of_row (verbs.Command command_verbs.Start) beside _ refl (λ (c, (q, u)). makes (bodies.Command (commands.Start c)) beside tt refl refl)
command_made command_verbs.Rmult beside =
    λ parts os s. (let vs = wholes refl s in makes (bodies.Command (commands.Rmult vs.0)) beside tt refl vs.1)
command_made command_verbs.Reset beside =
    of_row (verbs.Command command_verbs.Reset) beside _ refl (λ u. makes (bodies.Command commands.Reset) beside tt refl refl)
command_made command_verbs.Clear beside =
    of_row (verbs.Command command_verbs.Clear) beside _ refl (λ u. makes (bodies.Command commands.Clear) beside tt refl refl)

made : (verb : Verb) (beside : Auxiliary) (given : Bool) → MadeOf verb beside (forms_of verb beside given)
made (verbs.Block verb) beside given = block_made verb beside (forms_of_block verb beside given) (block_values verb beside given)
made (verbs.Definition verb) beside given = definition_made verb beside
made (verbs.Command verb) beside given = command_made verb beside

-- operands of a verb's forms make a statement
pub made_with : (verb : Verb) (beside : Auxiliary) (given : Bool) (forms : List Form) {parts : List (List ℕ)} {os : List (Option Operand)}
    → forms_of verb beside given ≡ Some forms → SpellsAll forms parts os → Made verb beside os
made_with verb beside given forms {parts} {os} e s =
    let m : MadeOf verb beside (Some forms) = subst (λ (x : Option (List Form)). MadeOf verb beside x) e (made verb beside given) in
    m parts os s
