-- What a statement touches that takes the place of another, the version before and the edited version answer in two ways,
-- but for what is named.
use Rattle.std.proofs.Common.{◌≡◌, ◌≢◌, ◌⊎◌, ℕ, ℤ, Bool, true, false, cond, List, ◌∷◌, ◌++◌, Option, Some, None, is_some, option_and_then, unwrap_or, nat_le, drop, inl, inr, refl, sym, ap, subst, ◌∙◌}
use Rattle.std.proofs.lemmas.Bool.{and_right, both_ways, false_from_ne_true, le-leb, lt-leb}
use Rattle.gw_expr.specs.Term.{Term}
use Rattle.gw_expr.specs.declared.function.Function.{Function}
use Rattle.gw_meaning.specs.declared.item.Asked.{Asked}
use Rattle.gw_meaning.specs.declared.item.Asked.TheVariants as asking
use Rattle.gw_meaning.specs.declared.item.Item.{Item}
use Rattle.gw_meaning.specs.declared.item.Item.TheVariants as items
use Rattle.gw_meaning.specs.declared.statement.Body.{Body}
use Rattle.gw_meaning.specs.declared.statement.Body.TheVariants as bodies
use Rattle.gw_meaning.specs.declared.statement.Definition.{Definition}
use Rattle.gw_meaning.specs.declared.statement.Definition.TheVariants as definitions
use Rattle.gw_meaning.specs.declared.statement.Numbered.{Numbered}
use Rattle.gw_meaning.specs.Listing.{Listing, argument_at, argument_of, block_at, block_of, block_of_body, capacity_at, defined_in, definition_at, expression_of, first_block, function_at, function_of, generates_in, has_label, is_block, is_generate, label_at, labelled_in, line_in, number_at, number_of, units_of, variable_at}
use Rattle.gw_meaning.specs.Numbers.{AreNumbered}
use Rattle.gw_meaning.specs.Questions.{ask}
use Rattle.gw_model.specs.Faults.{has_label_twice}
use Rattle.gw_model.specs.Well.{Well}
use Rattle.gw_model.proofs.Apart.{labels_once}
use Rattle.gw_model.proofs.Numbers.{absent_gone}
use Rattle.gw_model.proofs.Once.{argument_once, capacity_once, function_once, number_once, variable_once}
use Rattle.gw_touch.specs.Touches.{Defines, Differ, first_operand, HoldsInOne, in_front, in_the_first, in_the_second, OfChange, as_deleted, as_inserted, changed_block, changed_definition, changed_generates, new_label, old_label, OfTwo, other_amount, other_argument, other_curve, other_expression, other_units, other_value, OneKind, two_blocks, two_definitions}
use Rattle.gw_touch.specs.TouchedAlike.{AlikeAt, any_command, last_deleted, last_inserted, rewritten_block, rewritten_definition, still_generates, storage_deleted, storage_inserted, ReadAlike, one_argument, one_curve, one_expression, one_value}
use Rattle.gw_touch.proofs.BesideLaws.{Beside, IsSpared, one_spared, spared_command, spared_last, spared_storage}
use Rattle.gw_touch.proofs.OwnLines.{absent_front, block_label, defined_at, generates_past, label_here, label_past, label_there, label_without, of_label, once, one_more, own_line}

-- ---- what is spared of a statement that is deleted, and of one that is inserted

pub of_deleted : (t u : Listing) (place : ℕ) (old : Numbered) (new : Option Numbered) (back : List Numbered) {i : Item} → drop place t.lines ≡ back →
    IsSpared old new back i → AlikeAt t u place (Some old) new i
of_deleted t u place old new back is (spared_command i) = any_command (Some old) new i
of_deleted t u place old new back is (spared_last none) = last_deleted old new (ap first_block is ∙ none)
of_deleted t u place old new back is (spared_storage name units asked defines answers other) =
    storage_deleted old new name units asked defines answers (λ line n at d. other line n at d)

pub of_inserted : (t u : Listing) (place : ℕ) (old : Option Numbered) (new : Numbered) (back : List Numbered) {i : Item} → drop place u.lines ≡ back →
    IsSpared new old back i → AlikeAt t u place old (Some new) i
of_inserted t u place old new back is (spared_command i) = any_command old (Some new) i
of_inserted t u place old new back is (spared_last none) = last_inserted old new (ap first_block is ∙ none)
of_inserted t u place old new back is (spared_storage name units asked defines answers other) =
    storage_inserted old new name units asked defines answers (λ line n at d. other line n at d)

-- ---- two statements at one place

pub record IsReplaced (t u : Listing) (place : ℕ) (old new : Numbered) (front back : List Numbered) : Type 0 where
  pub old_lines : t.lines ≡ front ++ old ∷ back
  pub new_lines : u.lines ≡ front ++ new ∷ back
  pub number : new.number ≡ old.number
  pub old_numbered : AreNumbered t.lines
  pub new_numbered : AreNumbered u.lines
  pub old_well : Well t
  pub new_well : Well u
  pub front_is : in_front t place ≡ front
  pub old_behind : drop place t.lines ≡ back
  pub new_behind : drop place u.lines ≡ back

same_line : (x y : Numbered) → Some x ≡ Some y → x ≡ y
same_line x y h = cc

-- two blocks that are one
same_body : (a b : Body) → is_some (block_of_body a) ≡ true → block_of_body a ≡ block_of_body b → a ≡ b
same_body (bodies.Block x) (bodies.Block y) is h = let same : x ≡ y = cc in ap (λ z. bodies.Block z) same
same_body (bodies.Block x) (bodies.Definition d) is h = absurd cc
same_body (bodies.Block x) (bodies.Command c) is h = absurd cc
same_body (bodies.Definition d) b is h = absurd cc
same_body (bodies.Command c) b is h = absurd cc

-- an amount that one capacity holds and the other does not
told_apart : {from to units : ℕ} → HoldsInOne from to units → nat_le units from ≡ nat_le units to → ⊥
told_apart {from} {to} {units} (in_the_first within less) same =
    both_ways (nat_le units to) (lt-leb units to less) (sym same ∙ le-leb units from within)
told_apart {from} {to} {units} (in_the_second less within) same =
    both_ways (nat_le units from) (lt-leb units from less) (same ∙ le-leb units to within)

storage_one : (x y : ℕ) → definitions.Storage x ≡ definitions.Storage y → x ≡ y
storage_one x y h = cc

some_one : {X : Type 0} (x y : X) → Some x ≡ Some y → x ≡ y
some_one x y h = cc

module _ (t u : Listing) (place : ℕ) (old new : Numbered) (front back : List Numbered) (e : IsReplaced t u place old new front back) (a b : ℕ) where
  abbrev Spared : Item → Type 0
  Spared i = AlikeAt t u place (Some old) (Some new) i

  absent : line_in (front ++ back) old.number ≡ None
  absent = absent_gone front back old (subst (λ (ls : List Numbered). AreNumbered ls) e.old_lines e.old_numbered)

  none_front : line_in front old.number ≡ None
  none_front = absent_front front back old.number absent

  old_twice : has_label_twice (front ++ old ∷ back) ≡ false
  old_twice = subst (λ (ls : List Numbered). has_label_twice ls ≡ false) e.old_lines (labels_once t.lines e.old_well.labels_apart)

  new_twice : has_label_twice (front ++ new ∷ back) ≡ false
  new_twice = subst (λ (ls : List Numbered). has_label_twice ls ≡ false) e.new_lines (labels_once u.lines e.new_well.labels_apart)

  -- a block for a block
  block_spared : is_block old ≡ true → Differ old.statement new.statement → ask t a (items.Block old.number) ≡ ask u b (items.Block old.number) → Spared (items.Block old.number)
  block_spared was differ alike =
      let there : block_at t old.number ≡ block_of old =
      ap (λ ls. option_and_then block_of (line_in ls old.number)) e.old_lines
      ∙ ap (λ l. option_and_then block_of l) (own_line front back old old.number refl none_front) in
      let here : block_at u old.number ≡ block_of new =
      ap (λ ls. option_and_then block_of (line_in ls old.number)) e.new_lines
      ∙ ap (λ l. option_and_then block_of l) (own_line front back new old.number e.number none_front) in
      let same = same_body old.statement.body new.statement.body was (sym there ∙ (alike ∙ here)) in
      rewritten_block old new (λ operands. differ (operands, same)) same

  generates_spared : (is_generate old ≡ true) ⊎ (is_generate new ≡ true) → ask t a items.Generates ≡ ask u b items.Generates → Spared items.Generates
  generates_spared one alike = go (is_generate old) refl (is_generate new) refl where
    alike_here : generates_in (old ∷ back) ≡ generates_in (new ∷ back)
    alike_here = generates_past front (old ∷ back) (new ∷ back) (sym (ap generates_in e.old_lines) ∙ (alike ∙ ap generates_in e.new_lines))

    among : (x : Numbered) (c : Bool) → is_generate x ≡ c → generates_in (x ∷ back) ≡ cond c (x.number ∷ generates_in back) (generates_in back)
    among x c is = ap (λ d. cond d (x.number ∷ generates_in back) (generates_in back)) is

    neither : is_generate old ≡ false → is_generate new ≡ false → (is_generate old ≡ true) ⊎ (is_generate new ≡ true) → ⊥
    neither was is (inl h) = both_ways (is_generate old) was h
    neither was is (inr h) = both_ways (is_generate new) is h

    go : (c : Bool) → is_generate old ≡ c → (d : Bool) → is_generate new ≡ d → Spared items.Generates
    go true was true is = still_generates old new was is
    go true was false is = absurd (one_more old.number (generates_in back) (sym (among old true was) ∙ (alike_here ∙ among new false is)))
    go false was true is = absurd (one_more new.number (generates_in back) (sym (among new true is) ∙ (sym alike_here ∙ among old false was)))
    go false was false is = absurd (neither was is one)

  old_label_differs : (name : List ℕ) → is_block old ≡ true → old.statement.label ≢ new.statement.label → old.statement.label ≡ Some name →
      ask t a (items.Named asking.Label name) ≡ ask u b (items.Named asking.Label name) → ⊥
  old_label_differs name was differ named alike =
      let names = once front back old name old_twice (block_label old name was named) in
      let there : label_at t name ≡ Some old.number =
      ap (λ ls. labelled_in name ls) e.old_lines ∙ (label_past name front (old ∷ back) names.0 ∙ label_here name back old was named) in
      let unlike : has_label name new.statement.label ≡ false =
      false_from_ne_true (has_label name new.statement.label) (λ h. differ (named ∙ sym (of_label name new.statement.label h))) in
      let here : label_at u name ≡ labelled_in name (front ++ back) =
      ap (λ ls. labelled_in name ls) e.new_lines
      ∙ label_without name front back new (and_right (is_block new) (has_label name new.statement.label) unlike) in
      label_there name (front ++ back) old.number absent (sym here ∙ (sym alike ∙ there))

  new_label_differs : (name : List ℕ) → is_block new ≡ true → old.statement.label ≢ new.statement.label → new.statement.label ≡ Some name →
      ask t a (items.Named asking.Label name) ≡ ask u b (items.Named asking.Label name) → ⊥
  new_label_differs name is differ named alike =
      let names = once front back new name new_twice (block_label new name is named) in
      let here : label_at u name ≡ Some new.number =
      ap (λ ls. labelled_in name ls) e.new_lines ∙ (label_past name front (new ∷ back) names.0 ∙ label_here name back new is named) in
      let unlike : has_label name old.statement.label ≡ false =
      false_from_ne_true (has_label name old.statement.label) (λ h. differ (of_label name old.statement.label h ∙ sym named)) in
      let there : label_at t name ≡ labelled_in name (front ++ back) =
      ap (λ ls. labelled_in name ls) e.old_lines
      ∙ label_without name front back old (and_right (is_block old) (has_label name old.statement.label) unlike) in
      let gone : line_in (front ++ back) new.number ≡ None = subst (λ (k : ℕ). line_in (front ++ back) k ≡ None) (sym e.number) absent in
      label_there name (front ++ back) new.number gone (sym there ∙ (alike ∙ here))

  -- a definition for a definition
  module _ (name : List ℕ) (d f : Definition) (was : Defines old name d) (is : Defines new name f) where
    old_defined : definition_at t name ≡ Some d
    old_defined = ap (λ ls. defined_in name ls) e.old_lines ∙ defined_at front back old name d old_twice was

    new_defined : definition_at u name ≡ Some f
    new_defined = ap (λ ls. defined_in name ls) e.new_lines ∙ defined_at front back new name f new_twice is

    -- what both say, told by their definitions
    said : {X : Type 0} (g : Option Definition → X) (p q : X) → p ≡ g (definition_at t name) → q ≡ g (definition_at u name) → p ≡ q →
        g (Some d) ≡ g (Some f)
    said g p q there here same = sym (there ∙ ap g old_defined) ∙ (same ∙ (here ∙ ap g new_defined))

  units_said : (name : List ℕ) (from to : ℕ) → Defines old name (definitions.Storage from) → Defines new name (definitions.Storage to) →
      (capacity_at t name ≡ from) × (capacity_at u name ≡ to)
  units_said name from to was is = (
    capacity_once t name e.old_well ∙ ap (λ o. unwrap_or (units_of o) 0) (old_defined name (definitions.Storage from) (definitions.Storage to) was is),
    capacity_once u name e.new_well ∙ ap (λ o. unwrap_or (units_of o) 0) (new_defined name (definitions.Storage from) (definitions.Storage to) was is),
  )

  pub units_differ : (name : List ℕ) (from to : ℕ) (d f : Definition) (asked : Asked) → Defines old name (definitions.Storage from) →
      Defines new name (definitions.Storage to) → d ≡ definitions.Storage from → f ≡ definitions.Storage to → OfTwo old.statement new.statement d f asked →
      ask t a (items.Named asked name) ≡ ask u b (items.Named asked name) → ⊥
  units_differ name from to _ _ _ was is p q (other_amount x y units holds) alike =
      let both = units_said name from to was is in
      told_apart holds
      (ap (λ n. nat_le units n) (storage_one x from p ∙ sym both.0) ∙ (alike ∙ ap (λ n. nat_le units n) (both.1 ∙ sym (storage_one y to q))))
  units_differ name from to _ _ _ was is p q (other_units x y differ) alike =
      let both = units_said name from to was is in differ (storage_one x from p ∙ (sym both.0 ∙ (alike ∙ (both.1 ∙ sym (storage_one y to q)))))
  units_differ name from to _ _ _ was is p q (other_value m n differ) alike = absurd cc
  units_differ name from to _ _ _ was is p q (other_expression x y differ) alike = absurd cc
  units_differ name from to _ _ _ was is p q (other_curve x y differ) alike = absurd cc
  units_differ name from to _ _ _ was is p q (other_argument x y differ) alike = absurd cc

  definitions_spared : (name : List ℕ) (d f : Definition) (asked : Asked) → Defines old name d → Defines new name f →
      OfTwo old.statement new.statement d f asked → ask t a (items.Named asked name) ≡ ask u b (items.Named asked name) → Spared (items.Named asked name)
  definitions_spared name _ _ _ was is (other_amount from to units holds) alike =
      absurd (units_differ name from to (definitions.Storage from) (definitions.Storage to) (asking.Fits units) was is refl refl
      (other_amount from to units holds) alike)
  definitions_spared name _ _ _ was is (other_units from to differ) alike =
      absurd (units_differ name from to (definitions.Storage from) (definitions.Storage to) asking.Storage was is refl refl (other_units from to differ) alike)
  definitions_spared name _ _ _ was is (other_value m n differ) alike =
      let d = definitions.Equ m in
      let f = definitions.Equ n in
      let same : m ≡ n =
      some_one m n
      (said name d f was is number_of (number_at t name) (number_at u name) (number_once t name e.old_well) (number_once u name e.new_well) alike) in
      rewritten_definition old new name d f asking.Number was is
      (λ operands. differ (operands, was.body ∙ (ap (λ k. bodies.Definition (definitions.Equ k)) same ∙ sym is.body)))
      (subst (λ (k : ℤ). ReadAlike (definitions.Equ m) (definitions.Equ k) asking.Number) same (one_value m))
  definitions_spared name _ _ _ was is (other_expression x y differ) alike =
      let d = definitions.Variable x in
      let f = definitions.Variable y in
      let same : x ≡ y =
      some_one x y
      (said name d f was is expression_of (variable_at t name) (variable_at u name) (variable_once t name e.old_well) (variable_once u name e.new_well) alike)
      in
      rewritten_definition old new name d f asking.Variable was is
      (λ operands. differ (operands, was.body ∙ (ap (λ k. bodies.Definition (definitions.Variable k)) same ∙ sym is.body)))
      (subst (λ (k : Term). ReadAlike (definitions.Variable x) (definitions.Variable k) asking.Variable) same (one_expression x))
  definitions_spared name _ _ _ was is (other_curve x y differ) alike =
      let d = definitions.Function x in
      let f = definitions.Function y in
      let same : x ≡ y =
      some_one x y
      (said name d f was is function_of (function_at t name) (function_at u name) (function_once t name e.old_well) (function_once u name e.new_well) alike) in
      rewritten_definition old new name d f asking.Function was is
      (λ operands. differ (operands, was.body ∙ (ap (λ k. bodies.Definition (definitions.Function k)) same ∙ sym is.body)))
      (subst (λ (k : Function). ReadAlike (definitions.Function x) (definitions.Function k) asking.Function) same (one_curve x))
  definitions_spared name _ _ _ was is (other_argument x y differ) alike =
      let d = definitions.Table x in
      let f = definitions.Table y in
      let same : x.argument ≡ y.argument =
      some_one x.argument y.argument
      (said name d f was is argument_of (argument_at t name) (argument_at u name) (argument_once t name e.old_well) (argument_once u name e.new_well) alike) in
      rewritten_definition old new name d f asking.Table was is (λ operands. differ (ap first_operand operands, same)) (one_argument x y same)

  -- any two others stand beside one another
  old_beside : (OneKind old new → ⊥) → Beside t u old (Some new) front back
  old_beside none = record {
    has = e.old_lines;
    lacks = e.new_lines;
    has_numbered = e.old_numbered;
    lacks_numbered = e.new_numbered;
    has_well = e.old_well;
    lacks_well = e.new_well;
    number = λ y at. subst (λ (z : Numbered). z.number ≡ old.number) (same_line new y at) e.number;
    blocks = λ y at was is. none (two_blocks was (subst (λ (z : Numbered). is_block z ≡ true) (sym (same_line new y at)) is));
    definitions_apart = λ y at name d f was is verbs.
        none (two_definitions name d f was (subst (λ (z : Numbered). Defines z name f) (sym (same_line new y at)) is) verbs);
  }

  new_beside : (OneKind old new → ⊥) → Beside u t new (Some old) front back
  new_beside none = record {
    has = e.new_lines;
    lacks = e.old_lines;
    has_numbered = e.new_numbered;
    lacks_numbered = e.old_numbered;
    has_well = e.new_well;
    lacks_well = e.old_well;
    number = λ y at. subst (λ (z : Numbered). z.number ≡ new.number) (same_line old y at) (sym e.number);
    blocks = λ y at is was. none (two_blocks (subst (λ (z : Numbered). is_block z ≡ true) (sym (same_line old y at)) was) is);
    definitions_apart = λ y at name d f is was verbs.
        none (two_definitions name f d (subst (λ (z : Numbered). Defines z name f) (sym (same_line old y at)) was) is (sym verbs));
  }

  pub change_spared : {i : Item} → OfChange t place old new i → ask t a i ≡ ask u b i → AlikeAt t u place (Some old) (Some new) i
  change_spared (changed_block was is differ) alike = block_spared was differ alike
  change_spared (changed_generates was is differ one) alike = generates_spared one alike
  change_spared (old_label name was is differ named) alike = absurd (old_label_differs name was differ named alike)
  change_spared (new_label name was is differ named) alike = absurd (new_label_differs name is differ named alike)
  change_spared (changed_definition name d f asked was is two) alike = definitions_spared name d f asked was is two alike
  change_spared (as_deleted i none one) alike =
      of_deleted t u place old (Some new) back e.old_behind
      (one_spared t u old (Some new) front back (old_beside none) a b t place e.front_is one alike)
  change_spared (as_inserted i none one) alike =
      of_inserted t u place (Some old) new back e.new_behind
      (one_spared u t new (Some old) front back (new_beside none) b a t place e.front_is one (sym alike))
