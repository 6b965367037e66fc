-- What a statement touches that stands in one version and not in another, the two answer in two ways, but for a command,
-- for what comes after the last block, and for what is asked of a storage.
use Rattle.std.proofs.Common.{◌≡◌, ℕ, ℤ, true, false, cond, List, ◌∷◌, ◌++◌, Option, Some, None, is_some, option_and_then, refl, sym, ap, subst, ◌∙◌}
use Rattle.std.proofs.lemmas.Bool.{and_left, both_ways, false_from_ne_true}
use Rattle.gw_expr.specs.Term.{Term}
use Rattle.gw_expr.specs.declared.function.Function.{Function}
use Rattle.gw_meaning.specs.declared.item.Asked.{Asked}
use Rattle.gw_meaning.specs.declared.item.Asked.TheVariants as asking
use Rattle.gw_meaning.specs.declared.item.Item.{Item}
use Rattle.gw_meaning.specs.declared.item.Item.TheVariants as items
use Rattle.gw_meaning.specs.declared.statement.Body.{Body}
use Rattle.gw_meaning.specs.declared.statement.Body.TheVariants as bodies
use Rattle.gw_meaning.specs.declared.statement.Definition.{Definition}
use Rattle.gw_meaning.specs.declared.statement.Definition.TheVariants as definitions
use Rattle.gw_meaning.specs.declared.statement.Numbered.{Numbered}
use Rattle.gw_meaning.specs.declared.table.Table.{Table}
use Rattle.gw_meaning.specs.Listing.{Listing, after_at, after_in, argument_of, block_at, block_of, block_of_body, defined_in, defines, definition_at, expression_of, first_block, function_of, generates_in, has_label, is_block, is_generate, is_generate_body, label_at, labelled_in, line_in, number_of, or_next}
use Rattle.gw_meaning.specs.Numbers.{AreNumbered}
use Rattle.gw_meaning.specs.Questions.{ask}
use Rattle.gw_meaning.specs.Statements.{verb_of_definition}
use Rattle.gw_model.specs.Faults.{has_label_twice, is_labelled}
use Rattle.gw_model.specs.Well.{Well}
use Rattle.gw_model.proofs.Apart.{labels_once}
use Rattle.gw_model.proofs.Numbers.{absent_gone}
use Rattle.gw_model.proofs.Once.{argument_once, function_once, number_once, variable_once}
use Rattle.gw_touch.specs.Touches.{Answers, answers_amount, answers_argument, answers_curve, answers_expression, answers_units, answers_value, Defines, LastBlock, OfOne, after_front, after_itself, among_generates, commands_from, in_front, itself, own_label, what_is_defined}
use Rattle.gw_touch.proofs.OwnLines.{absent_back, absent_front, after_last, block_label, defined_by, defined_nowhere, defined_past, definition_label, first_there, generates_past, label_here, label_past, label_there, label_without, no_after, once, one_more, own_after, own_definition, own_line}

-- the lines after, with the statement that stands there in its place, if any
abbrev pub with_other : Option Numbered → List Numbered → List Numbered
with_other None back = back
with_other (Some y) back = y ∷ back

-- what that one defines of a name
abbrev pub defined_there : List ℕ → Option Numbered → Option Definition
defined_there name None = None
defined_there name (Some y) = defines name y

-- a version with the statement, and one with the other in its place, which is no other block and no other definition of
-- its name and verb
pub record Beside (with without : Listing) (x : Numbered) (o : Option Numbered) (front back : List Numbered) : Type 0 where
  pub has : with.lines ≡ front ++ x ∷ back
  pub lacks : without.lines ≡ front ++ with_other o back
  pub has_numbered : AreNumbered with.lines
  pub lacks_numbered : AreNumbered without.lines
  pub has_well : Well with
  pub lacks_well : Well without
  pub number : (y : Numbered) → o ≡ Some y → y.number ≡ x.number
  pub blocks : (y : Numbered) → o ≡ Some y → is_block x ≡ true → is_block y ≡ true → ⊥
  pub definitions_apart : (y : Numbered) → o ≡ Some y → (name : List ℕ) (d e : Definition) → Defines x name d → Defines y name e →
      verb_of_definition d ≡ verb_of_definition e → ⊥

-- what both answer alike all the same
pub data IsSpared (x : Numbered) (o : Option Numbered) (back : List Numbered) : Item → Type 0 where
  spared_command : (i : ℕ) → IsSpared x o back (items.Cmd i)
  spared_last : first_block back ≡ None → IsSpared x o back (items.After x.number)
  spared_storage : (name : List ℕ) (units : ℕ) (asked : Asked) → Defines x name (definitions.Storage units) →
      Answers (definitions.Storage units) asked →
      ((y : Numbered) (n : ℕ) → o ≡ Some y → Defines y name (definitions.Storage n) → ⊥) → IsSpared x o back (items.Named asked name)

-- ---- the other statement

generate_none : (body : Body) → is_some (block_of_body body) ≡ false → is_generate_body body ≡ false
generate_none (bodies.Block block) h = absurd cc
generate_none (bodies.Definition d) h = refl
generate_none (bodies.Command c) h = refl

block_none : (body : Body) → is_some (block_of_body body) ≡ false → block_of_body body ≡ None
block_none (bodies.Block block) h = absurd cc
block_none (bodies.Definition d) h = refl
block_none (bodies.Command c) h = refl

pub generate_is_block : (body : Body) → is_generate_body body ≡ true → is_some (block_of_body body) ≡ true
generate_is_block (bodies.Block block) h = refl
generate_is_block (bodies.Definition d) h = absurd cc
generate_is_block (bodies.Command c) h = absurd cc

module _ (front back : List Numbered) (k : ℕ) (absent : line_in (front ++ back) k ≡ None) where
  abbrev NoBlock : Option Numbered → Type 0
  NoBlock o = (y : Numbered) → o ≡ Some y → is_block y ≡ false

  abbrev HasNumber : Option Numbered → Type 0
  HasNumber o = (y : Numbered) → o ≡ Some y → y.number ≡ k

  first_other : (o : Option Numbered) → NoBlock o → first_block (with_other o back) ≡ first_block back
  first_other None none = refl
  first_other (Some y) none = ap (λ b. cond b (Some y.number) (first_block back)) (none y refl)

  generates_other : (o : Option Numbered) → NoBlock o → generates_in (with_other o back) ≡ generates_in back
  generates_other None none = refl
  generates_other (Some y) none =
      ap (λ b. cond b (y.number ∷ generates_in back) (generates_in back)) (generate_none y.statement.body (none y refl))

  block_other : (o : Option Numbered) → HasNumber o → NoBlock o → option_and_then block_of (line_in (front ++ with_other o back) k) ≡ None
  block_other None number none = ap (λ l. option_and_then block_of l) absent
  block_other (Some y) number none =
      ap (λ l. option_and_then block_of l) (own_line front back y k (number y refl) (absent_front front back k absent))
      ∙ block_none y.statement.body (none y refl)

  after_other : (o : Option Numbered) → HasNumber o → NoBlock o → after_in (front ++ with_other o back) k ≡ None
  after_other None number none = no_after (front ++ back) k absent
  after_other (Some y) number none =
      own_after front back y k (number y refl) (absent_front front back k absent) ∙ ap (λ b. cond b (first_block back) None) (none y refl)

  label_other : (name : List ℕ) (o : Option Numbered) → NoBlock o → labelled_in name (front ++ with_other o back) ≡ labelled_in name (front ++ back)
  label_other name None none = refl
  label_other name (Some y) none =
      label_without name front back y (and_left (is_block y) (has_label name y.statement.label) (none y refl))

or_none : {X : Type 0} (o : Option X) → or_next o None ≡ o
or_none None = refl
or_none (Some x) = refl

defined_other : (name : List ℕ) (front back : List Numbered) (o : Option Numbered) → is_labelled (Some name) front ≡ false →
    is_labelled (Some name) back ≡ false → defined_in name (front ++ with_other o back) ≡ defined_there name o
defined_other name front back None f b = defined_past name front back f ∙ defined_nowhere name back b
defined_other name front back (Some y) f b =
    defined_past name front (y ∷ back) f ∙ (ap (or_next (defines name y)) (defined_nowhere name back b) ∙ or_none (defines name y))

-- ---- which definition says it

is_equ : (o : Option Definition) (n : ℤ) → number_of o ≡ Some n → o ≡ Some (definitions.Equ n)
is_equ None n h = absurd cc
is_equ (Some (definitions.Storage c)) n h = absurd cc
is_equ (Some (definitions.Equ m)) n h = let same : m ≡ n = cc in ap (λ k. Some (definitions.Equ k)) same
is_equ (Some (definitions.Variable e)) n h = absurd cc
is_equ (Some (definitions.Function f)) n h = absurd cc
is_equ (Some (definitions.Table f)) n h = absurd cc

is_variable : (o : Option Definition) (e : Term) → expression_of o ≡ Some e → o ≡ Some (definitions.Variable e)
is_variable None e h = absurd cc
is_variable (Some (definitions.Storage c)) e h = absurd cc
is_variable (Some (definitions.Equ m)) e h = absurd cc
is_variable (Some (definitions.Variable d)) e h = let same : d ≡ e = cc in ap (λ k. Some (definitions.Variable k)) same
is_variable (Some (definitions.Function f)) e h = absurd cc
is_variable (Some (definitions.Table f)) e h = absurd cc

is_function : (o : Option Definition) (f : Function) → function_of o ≡ Some f → o ≡ Some (definitions.Function f)
is_function None f h = absurd cc
is_function (Some (definitions.Storage c)) f h = absurd cc
is_function (Some (definitions.Equ m)) f h = absurd cc
is_function (Some (definitions.Variable d)) f h = absurd cc
is_function (Some (definitions.Function g)) f h = let same : g ≡ f = cc in ap (λ k. Some (definitions.Function k)) same
is_function (Some (definitions.Table g)) f h = absurd cc

is_table : (o : Option Definition) (e : Term) → argument_of o ≡ Some e → (table : Table) × (o ≡ Some (definitions.Table table))
is_table None e h = absurd cc
is_table (Some (definitions.Storage c)) e h = absurd cc
is_table (Some (definitions.Equ m)) e h = absurd cc
is_table (Some (definitions.Variable d)) e h = absurd cc
is_table (Some (definitions.Function f)) e h = absurd cc
is_table (Some (definitions.Table table)) e h = (table, refl)

-- ---- what is touched

module _ (with without : Listing) (x : Numbered) (o : Option Numbered) (front back : List Numbered) (e : Beside with without x o front back) (a b : ℕ) where
  numbered : AreNumbered (front ++ x ∷ back)
  numbered = subst (λ (ls : List Numbered). AreNumbered ls) e.has e.has_numbered

  absent : line_in (front ++ back) x.number ≡ None
  absent = absent_gone front back x numbered

  none_front : line_in front x.number ≡ None
  none_front = absent_front front back x.number absent

  none_back : line_in back x.number ≡ None
  none_back = absent_back front back x.number absent

  no_block : is_block x ≡ true → (y : Numbered) → o ≡ Some y → is_block y ≡ false
  no_block is y at = false_from_ne_true (is_block y) (e.blocks y at is)

  in_front_differs : (number : ℕ) → is_block x ≡ true → LastBlock front number → ask with a (items.After number) ≡ ask without b (items.After number) → ⊥
  in_front_differs number is last alike =
      let there : after_at with number ≡ Some x.number =
      ap (λ ls. after_in ls number) e.has
      ∙ (after_last front (x ∷ back) number numbered last ∙ ap (λ c. cond c (Some x.number) (first_block back)) is) in
      let apart : AreNumbered (front ++ with_other o back) = subst (λ (ls : List Numbered). AreNumbered ls) e.lacks e.lacks_numbered in
      let other : after_at without number ≡ first_block back =
      ap (λ ls. after_in ls number) e.lacks
      ∙ (after_last front (with_other o back) number apart last ∙ first_other front back x.number absent o (no_block is)) in
      first_there back x.number none_back (sym other ∙ (sym alike ∙ there))

  itself_differs : is_block x ≡ true → ask with a (items.Block x.number) ≡ ask without b (items.Block x.number) → ⊥
  itself_differs is alike =
      let there : block_at with x.number ≡ block_of x =
      ap (λ ls. option_and_then block_of (line_in ls x.number)) e.has
      ∙ ap (λ l. option_and_then block_of l) (own_line front back x x.number refl none_front) in
      let other : block_at without x.number ≡ None =
      ap (λ ls. option_and_then block_of (line_in ls x.number)) e.lacks ∙ block_other front back x.number absent o e.number (no_block is) in
      let none : block_of x ≡ None = sym there ∙ (alike ∙ other) in
      both_ways (is_block x) (ap is_some none) is

  behind_it : is_block x ≡ true → ask with a (items.After x.number) ≡ ask without b (items.After x.number) → first_block back ≡ None
  behind_it is alike =
      let there : after_at with x.number ≡ first_block back =
      ap (λ ls. after_in ls x.number) e.has
      ∙ (own_after front back x x.number refl none_front ∙ ap (λ c. cond c (first_block back) None) is) in
      let other : after_at without x.number ≡ None =
      ap (λ ls. after_in ls x.number) e.lacks ∙ after_other front back x.number absent o e.number (no_block is) in
      sym there ∙ (alike ∙ other)

  generates_differ : is_generate x ≡ true → ask with a items.Generates ≡ ask without b items.Generates → ⊥
  generates_differ is alike =
      let whole : generates_in (front ++ x ∷ back) ≡ generates_in (front ++ with_other o back) =
      sym (ap generates_in e.has) ∙ (alike ∙ ap generates_in e.lacks) in
      let other : generates_in (with_other o back) ≡ generates_in back =
      generates_other front back x.number absent o (no_block (generate_is_block x.statement.body is)) in
      let here : generates_in (x ∷ back) ≡ x.number ∷ generates_in back =
      ap (λ c. cond c (x.number ∷ generates_in back) (generates_in back)) is in
      one_more x.number (generates_in back) (sym here ∙ (generates_past front (x ∷ back) (with_other o back) whole ∙ other))

  -- the name of the statement stands once
  twice : has_label_twice (front ++ x ∷ back) ≡ false
  twice = subst (λ (ls : List Numbered). has_label_twice ls ≡ false) e.has (labels_once with.lines e.has_well.labels_apart)

  label_differs : (name : List ℕ) → is_block x ≡ true → x.statement.label ≡ Some name →
      ask with a (items.Named asking.Label name) ≡ ask without b (items.Named asking.Label name) → ⊥
  label_differs name is label alike =
      let names = once front back x name twice (block_label x name is label) in
      let there : label_at with name ≡ Some x.number =
      ap (λ ls. labelled_in name ls) e.has ∙ (label_past name front (x ∷ back) names.0 ∙ label_here name back x is label) in
      let other : label_at without name ≡ labelled_in name (front ++ back) =
      ap (λ ls. labelled_in name ls) e.lacks ∙ label_other front back x.number absent name o (no_block is) in
      label_there name (front ++ back) x.number absent (sym other ∙ (sym alike ∙ there))

  -- its definition
  module _ (name : List ℕ) (d : Definition) (is : Defines x name d) where
    names : (is_labelled (Some name) front ≡ false) × (is_labelled (Some name) back ≡ false)
    names = once front back x name twice (definition_label x name d is)

    here : definition_at with name ≡ Some d
    here =
        ap (λ ls. defined_in name ls) e.has
        ∙ (defined_past name front (x ∷ back) names.0 ∙ ap (λ q. or_next q (defined_in name back)) (own_definition name x d is))

    there : definition_at without name ≡ defined_there name o
    there = ap (λ ls. defined_in name ls) e.lacks ∙ defined_other name front back o names.0 names.1

    -- it is no other one of its verb
    no_other : (f : Definition) → verb_of_definition d ≡ verb_of_definition f → defined_there name o ≡ Some f → ⊥
    no_other f verbs same = go o refl same where
      go : (p : Option Numbered) → o ≡ p → defined_there name p ≡ Some f → ⊥
      go None at k = cc
      go (Some y) at k = e.definitions_apart y at name d f is (defined_by name y f k) verbs

  definition_spared : (name : List ℕ) (d : Definition) (asked : Asked) → Defines x name d → Answers d asked →
      ask with a (items.Named asked name) ≡ ask without b (items.Named asked name) → IsSpared x o back (items.Named asked name)
  definition_spared name _ _ is (answers_amount capacity units) alike =
      spared_storage name capacity (asking.Fits units) is (answers_amount capacity units)
      (λ y n at other. e.definitions_apart y at name (definitions.Storage capacity) (definitions.Storage n) is other refl)
  definition_spared name _ _ is (answers_units capacity) alike =
      spared_storage name capacity asking.Storage is (answers_units capacity)
      (λ y n at other. e.definitions_apart y at name (definitions.Storage capacity) (definitions.Storage n) is other refl)
  definition_spared name _ _ is (answers_value n) alike =
      let d = definitions.Equ n in
      let said : number_of (defined_there name o) ≡ Some n =
      sym (number_once without name e.lacks_well ∙ ap number_of (there name d is))
      ∙ (sym alike ∙ (number_once with name e.has_well ∙ ap number_of (here name d is))) in
      absurd (no_other name d is (definitions.Equ n) refl (is_equ (defined_there name o) n said))
  definition_spared name _ _ is (answers_expression x') alike =
      let d = definitions.Variable x' in
      let said : expression_of (defined_there name o) ≡ Some x' =
      sym (variable_once without name e.lacks_well ∙ ap expression_of (there name d is))
      ∙ (sym alike ∙ (variable_once with name e.has_well ∙ ap expression_of (here name d is))) in
      absurd (no_other name d is (definitions.Variable x') refl (is_variable (defined_there name o) x' said))
  definition_spared name _ _ is (answers_curve f) alike =
      let d = definitions.Function f in
      let said : function_of (defined_there name o) ≡ Some f =
      sym (function_once without name e.lacks_well ∙ ap function_of (there name d is))
      ∙ (sym alike ∙ (function_once with name e.has_well ∙ ap function_of (here name d is))) in
      absurd (no_other name d is (definitions.Function f) refl (is_function (defined_there name o) f said))
  definition_spared name _ _ is (answers_argument table) alike =
      let d = definitions.Table table in
      let said : argument_of (defined_there name o) ≡ Some table.argument =
      sym (argument_once without name e.lacks_well ∙ ap argument_of (there name d is))
      ∙ (sym alike ∙ (argument_once with name e.has_well ∙ ap argument_of (here name d is))) in
      let found = is_table (defined_there name o) table.argument said in
      absurd (no_other name d is (definitions.Table found.0) refl found.1)

  pub one_spared : (t : Listing) (place : ℕ) {i : Item} → in_front t place ≡ front → OfOne t place x i → ask with a i ≡ ask without b i → IsSpared x o back i
  one_spared t place at (after_front number is last) alike =
      absurd (in_front_differs number is (subst (λ (ls : List Numbered). LastBlock ls number) at last) alike)
  one_spared t place at (itself is) alike = absurd (itself_differs is alike)
  one_spared t place at (after_itself is) alike = spared_last (behind_it is alike)
  one_spared t place at (among_generates is) alike = absurd (generates_differ is alike)
  one_spared t place at (own_label name is label) alike = absurd (label_differs name is label alike)
  one_spared t place at (commands_from i is behind) alike = spared_command i
  one_spared t place at (what_is_defined name d asked is answers) alike = definition_spared name d asked is answers alike
