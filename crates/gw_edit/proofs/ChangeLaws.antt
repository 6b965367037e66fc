-- Two versions of which one has another statement for a statement: what is not touched, they answer alike.
use Rattle.std.proofs.Common.{◌≡◌, ℕ, Bool, true, false, cond, not, List, ◌∷◌, ◌++◌, Some, None, option_and_then, ◌==◌, ◌&&◌, refl, ap, sym, subst, ◌∙◌, ◌⊎◌, ⊎_elim, inl, inr, Option, [], is_some, nat_le, ℤ}
use Rattle.std.specs.List.{filter_map, cons_option}
use Rattle.std.proofs.lemmas.Bool.{cases_Bool, or_parts, eqb-true, not-false}
use Rattle.gw_expr.specs.Term.{Term}
use Rattle.gw_meaning.specs.declared.item.Item.{Item}
use Rattle.gw_meaning.specs.declared.item.Asked.TheVariants as asking
use Rattle.gw_meaning.specs.declared.item.Item.TheVariants as items
use Rattle.gw_meaning.specs.declared.statement.Statement.{Statement}
use Rattle.gw_meaning.specs.declared.statement.Numbered.{Numbered}
use Rattle.gw_meaning.specs.Listing.{Listing, line_in, block_of, block_of_body, is_block, command_of, first_block, after_in, nth, command_of_body, defines, definition_if, definition_of, definition_of_body, has_label}
use Rattle.gw_meaning.specs.Questions.{ask}
use Rattle.gw_meaning.specs.Reads.{is_use}
use Rattle.gw_model.proofs.Numbers.{other_way}
use Rattle.gw_touch.specs.Same.{same_statement, same_first}
use Rattle.gw_touch.specs.Touching.{lines_before, one_if, line_probes, change_slots, block_change, splice_probes, is_touched, one_name, other_change, same_number, same_expression, same_curve, same_argument}
use Rattle.gw_touch.proofs.SameBlocks.{statement_same, term_same, function_same}
use Rattle.gw_edit.proofs.Fronts.{block_in, block_behind, after_behind, commands_behind}
use Rattle.gw_edit.proofs.ByLines.{untouched_both, probed_at, untouched_at, changed_line, change_parts, by_lines, changed_alike, IsListed, IsSameOf, IsSameTo, saying, said_same, bytes_other, generate_none, generate_of, no_generate_of, label_of}
use Rattle.std.proofs.lemmas.Bool.Decides.{Decides-int_eq}
use Rattle.gw_edit.proofs.LineLaws.{command_none, line_alike}
use Rattle.std.specs.Str.{bytes_eq}
use Rattle.std.proofs.lemmas.Slice.Eq.{bytes_eq-Decides}
use Rattle.gw_uses.specs.Asks.{is_ask}
use Rattle.gw_meaning.specs.declared.statement.Body.{Body}
use Rattle.gw_expr.specs.declared.function.Function.{Function}
use Rattle.gw_meaning.specs.declared.table.Table.{Table}
use Rattle.gw_meaning.specs.declared.statement.Definition.{Definition}
use Rattle.gw_meaning.specs.declared.statement.Definition.TheVariants as definitions
use Rattle.gw_meaning.specs.declared.statement.Body.TheVariants as bodies

module _ (back : List Numbered) (line : Numbered) (s : Statement) where
  block_other : (k : ℕ) → (line.number == k) ≡ false → block_in (changed_line line s ∷ back) k ≡ block_in (line ∷ back) k
  block_other k other =
      subst (λ (b : Bool). option_and_then block_of (cond b (Some (changed_line line s)) (line_in back k)) ≡
      option_and_then block_of (cond b (Some line) (line_in back k))) (sym other) refl

  block_here : (k : ℕ) → block_of (changed_line line s) ≡ block_of line → block_in (changed_line line s ∷ back) k ≡ block_in (line ∷ back) k
  block_here k same =
      elim (line.number == k) as (λ b. option_and_then block_of (cond b (Some (changed_line line s)) (line_in back k)) ≡
      option_and_then block_of (cond b (Some line) (line_in back k)))
      [ true ↦ same | false ↦ refl ]

  after_here : (k : ℕ) → is_block (changed_line line s) ≡ is_block line → after_in (changed_line line s ∷ back) k ≡ after_in (line ∷ back) k
  after_here k same = ap (λ b. cond (line.number == k) (cond b (first_block back) None) (after_in back k)) same

  first_here : is_block (changed_line line s) ≡ is_block line → first_block (changed_line line s ∷ back) ≡ first_block (line ∷ back)
  first_here same = ap (λ b. cond b (Some line.number) (first_block back)) same

  commands_here : command_of (changed_line line s) ≡ command_of line → filter_map command_of (changed_line line s ∷ back) ≡ filter_map command_of (line ∷ back)
  commands_here same = ap (λ o. cons_option o (filter_map command_of back)) same

-- ---- definitions

-- what is a definition is neither a block nor a command
defined_body : (body : Body) (d : Definition) → definition_of_body body ≡ Some d → (block_of_body body ≡ None) × (command_of_body body ≡ None)
defined_body (bodies.Block block) d h = absurd cc
defined_body (bodies.Definition definition) d h = (refl, refl)
defined_body (bodies.Command command) d h = absurd cc

defined_parts : (line : Numbered) (d : Definition) → definition_of line ≡ Some d → (block_of line ≡ None) × (command_of line ≡ None)
defined_parts line d h = defined_body line.statement.body d h

-- two labels that are one
labels_are : (a b : Option (List ℕ)) (name : List ℕ) → one_name a b ≡ Some name → (a ≡ Some name) × (b ≡ Some name)
labels_are None b name h = absurd cc
labels_are (Some x) None name h = absurd cc
labels_are (Some x) (Some y) name h = go (bytes_eq x y) refl h where
  go : (same : Bool) → bytes_eq x y ≡ same → cond same (Some x) None ≡ Some name → (Some x ≡ Some name) × (Some y ≡ Some name)
  go true is k = (k, ap (λ z. Some z) (sym ((bytes_eq-Decides x y).0 is)) ∙ k)
  go false is k = absurd cc

-- what one of a name defines of a name
defines_it : (line : Numbered) (label : List ℕ) (d : Definition) (name : List ℕ) → line.statement.label ≡ Some label → definition_of line ≡ Some d →
    defines name line ≡ definition_if (bytes_eq label name) (Some d)
defines_it line label d name labelled is =
    ap (λ l. definition_if (has_label name l) (definition_of line)) labelled ∙ ap (definition_if (bytes_eq label name)) is

-- two that are no blocks say the same to what only blocks say something to
generates_said : (line other : Numbered) → block_of line ≡ None → block_of other ≡ None → generate_of other ≡ generate_of line
generates_said line other was is =
    generate_none other (no_generate_of other.statement.body (ap is_some is)) ∙
    sym (generate_none line (no_generate_of line.statement.body (ap is_some was)))

label_said : (name : List ℕ) (line other : Numbered) → block_of line ≡ None → block_of other ≡ None → label_of name other ≡ label_of name line
label_said name line other was is =
    ap (λ o. cond (is_some o && has_label name other.statement.label) (Some other.number) None) is ∙
    sym (ap (λ o. cond (is_some o && has_label name line.statement.label) (Some line.number) None) was)

-- two definitions of one name that say the same to an item
module _ (label : List ℕ) (d e : Definition) (line other : Numbered) (l : line.statement.label ≡ Some label) (m : other.statement.label ≡ Some label)
    (was : definition_of line ≡ Some d) (is : definition_of other ≡ Some e) where
  of_name_said : {X : Type 0} (f : Option Definition → Option X) (name : List ℕ) → IsSameOf f name label (Some e) (Some d) →
      f (defines name other) ≡ f (defines name line)
  of_name_said f name same = ap f (defines_it other label e name m is) ∙ (said_same f name label _ _ same ∙ sym (ap f (defines_it line label d name l was)))

  definition_said : (i : Item) (listed : IsListed i) → IsSameTo i label (Some e) (Some d) → (by_lines i listed).says other ≡ (by_lines i listed).says line
  unfolding by_lines
  definition_said (items.Block k) listed same = absurd listed
  definition_said (items.After k) listed same = absurd listed
  definition_said (items.Cmd j) listed same = absurd listed
  definition_said items.Generates listed same = generates_said line other (defined_parts line d was).0 (defined_parts other e is).0
  definition_said (items.Named asking.Label name) listed same = label_said name line other (defined_parts line d was).0 (defined_parts other e is).0
  definition_said (items.Named asked name) listed same = of_name_said (saying asked).says name same
  definition_said item listed same = refl

-- two capacities that answer an amount alike
answered_alike : (x y : Bool) → cond x (not y) y ≡ false → Some y ≡ Some x
answered_alike true true h = refl
answered_alike true false h = absurd cc
answered_alike false true h = absurd cc
answered_alike false false h = refl

-- what is not touched is answered alike, or is of another name
alike_amount : {P : Type 0} (named other : Bool) → (named && other) ≡ false → (other ≡ false → P) → P ⊎ (named ≡ false)
alike_amount true other h alike = inl (alike h)
alike_amount false other h alike = inr refl

alike_one : {A Q : Type 0} {x y : A} (written read : Bool) (item i : Item) → probed_at (one_if (not (written && read)) item) i ≡ false →
    (read ≡ true → x ≡ y) → (is_use item i ≡ false → Q) → (Some y ≡ Some x) ⊎ Q
alike_one true true item i h alike other = inl (ap (λ z. Some z) (sym (alike refl)))
alike_one true false item i h alike other = inr (other h)
alike_one false read item i h alike other = inr (other h)

-- two definitions of one kind and name
units_same : (i : Item) (label : List ℕ) (x y : ℕ) → is_ask label (Some x) (Some y) i ≡ false →
    IsSameTo i label (Some (definitions.Storage y)) (Some (definitions.Storage x))
units_same (items.Named (asking.Fits amount) name) label x y h = alike_amount _ _ h (answered_alike (nat_le amount x) (nat_le amount y))
units_same (items.Named asking.Storage name) label x y h = alike_amount _ _ h (λ none. ap (λ n. Some n) (sym (eqb-true x y (not-false (x == y) none))))
units_same item label x y h = inl refl

module _ (label : List ℕ) (old new : Statement) where
  number_same : (i : Item) (x y : ℤ) → probed_at (one_if (not (same_number old new x y)) (items.Named asking.Number label)) i ≡ false →
      IsSameTo i label (Some (definitions.Equ y)) (Some (definitions.Equ x))
  number_same (items.Named asking.Number name) x y h =
      alike_one (bytes_eq old.operands new.operands) _ (items.Named asking.Number label) (items.Named asking.Number name) h
      (Decides-int_eq x y).0 (bytes_other name label)
  number_same item x y h = inl refl

  expression_same : (i : Item) (x y : Term) → probed_at (one_if (not (same_expression old new x y)) (items.Named asking.Variable label)) i ≡ false →
      IsSameTo i label (Some (definitions.Variable y)) (Some (definitions.Variable x))
  expression_same (items.Named asking.Variable name) x y h =
      alike_one (bytes_eq old.operands new.operands) _ (items.Named asking.Variable label) (items.Named asking.Variable name) h
      (term_same x y) (bytes_other name label)
  expression_same item x y h = inl refl

  curve_same : (i : Item) (x y : Function) → probed_at (one_if (not (same_curve old new x y)) (items.Named asking.Function label)) i ≡ false →
      IsSameTo i label (Some (definitions.Function y)) (Some (definitions.Function x))
  curve_same (items.Named asking.Function name) x y h =
      alike_one (bytes_eq old.operands new.operands) _ (items.Named asking.Function label) (items.Named asking.Function name) h
      (function_same x y) (bytes_other name label)
  curve_same item x y h = inl refl

  argument_same : (i : Item) (x y : Table) → probed_at (one_if (not (same_argument old new x.argument y.argument)) (items.Named asking.Table label)) i ≡ false →
      IsSameTo i label (Some (definitions.Table y)) (Some (definitions.Table x))
  argument_same (items.Named asking.Table name) x y h =
      alike_one (same_first old.operands new.operands) _ (items.Named asking.Table label) (items.Named asking.Table name) h
      (term_same x.argument y.argument) (bytes_other name label)
  argument_same item x y h = inl refl

-- a version and the version with the other statement
pub record IsChanged (t u : Listing) (place : ℕ) (line : Numbered) (s : Statement) (back : List Numbered) : Type 0 where
  pub old : t.lines ≡ lines_before t place ++ line ∷ back
  pub new : u.lines ≡ lines_before t place ++ changed_line line s ∷ back
  pub horizon : u.horizon ≡ t.horizon

module _ (t u : Listing) (place : ℕ) (line : Numbered) (s : Statement) (back : List Numbered) (e : IsChanged t u place line s back) (a b : ℕ) (seeds : b ≡ a)
  where
    -- what the lines answer alike, the versions do
    between : {X : Type 0} (f : List Numbered → X) → f (lines_before t place ++ changed_line line s ∷ back) ≡ f (lines_before t place ++ line ∷ back) →
        f u.lines ≡ f t.lines
    between f h = ap f e.new ∙ h ∙ sym (ap f e.old)

    block_alike : (k : ℕ) → block_in (changed_line line s ∷ back) k ≡ block_in (line ∷ back) k → block_in u.lines k ≡ block_in t.lines k
    block_alike k h = between (λ ls. block_in ls k) (block_behind (lines_before t place) (changed_line line s ∷ back) (line ∷ back) k h)

    after_alike : (k : ℕ) → is_block (changed_line line s) ≡ is_block line → after_in u.lines k ≡ after_in t.lines k
    after_alike k same =
        between (λ ls. after_in ls k) (after_behind (lines_before t place) (changed_line line s ∷ back) (line ∷ back) k (first_here back line s same)
        (after_here back line s k same))

    commands_alike : (j : ℕ) → command_of (changed_line line s) ≡ command_of line →
        nth (filter_map command_of u.lines) j ≡ nth (filter_map command_of t.lines) j
    commands_alike j same =
        between (λ ls. nth (filter_map command_of ls) j) (ap (λ cs. nth cs j)
        (commands_behind (lines_before t place) (changed_line line s ∷ back) (line ∷ back) (commands_here back line s same)))

    -- a block for a block
    block_by_block : is_block line ≡ true → is_block (changed_line line s) ≡ true → (i : Item) →
        is_touched (block_change line (changed_line line s)) i ≡ false → ask u b i ≡ ask t a i
    block_by_block was is (items.Block k) h =
        ⊎_elim
        (λ (same : same_statement line.statement s ≡ true).
        block_alike k (block_here back line s k (ap block_of_body (sym (statement_same line.statement s same)))))
        (λ (other : same_statement line.statement s ≡ false).
        let untouched = untouched_at (change_slots (not (same_statement line.statement s)) line (changed_line line s)) 0 _ (items.Block k) refl
        (change_parts line s (items.Block k) h).0 in
        let wanted = subst (λ (b : Bool). probed_at (one_if (not b) (items.Block line.number)) (items.Block k) ≡ false) other untouched in
        block_alike k (block_other back line s k (other_way k line.number wanted)))
        (cases_Bool (same_statement line.statement s))
    block_by_block was is (items.After k) h = after_alike k (is ∙ sym was)
    block_by_block was is (items.Cmd j) h = commands_alike j (command_none (changed_line line s) is ∙ sym (command_none line was))
    block_by_block was is i h =
        changed_alike i tt (lines_before t place) back t u a b e.horizon seeds line (changed_line line s) e.new e.old ((by_lines i tt).change line s was is h)

    -- a block for a command, or a command: as if the one were deleted and the other inserted
    kind_alike : line_in (lines_before t place ++ back) line.number ≡ None → (i : Item) →
        is_touched (line_probes t place line ++ line_probes t place (changed_line line s)) i ≡ false → ask u b i ≡ ask t a i
    kind_alike absent i h =
        let parts = untouched_both (line_probes t place line) (line_probes t place (changed_line line s)) i h in
        let w : Listing = record t { lines = lines_before t place ++ back } in
        let goes : ask t a i ≡ ask w a i =
        line_alike t place line back t w (record { has = e.old; lacks = refl; horizon = refl; absent = absent }) a a refl i parts.0 in
        let comes : ask u b i ≡ ask w a i =
        line_alike t place (changed_line line s) back u w (record { has = e.new; lacks = refl; horizon = e.horizon; absent = absent }) a b seeds i parts.1 in
        comes ∙ sym goes

    -- a definition for one of the same name: neither is a block, nor a command
    module _ (name : List ℕ) (named : one_name line.statement.label s.label ≡ Some name) (d d' : Definition) (was : definition_of line ≡ Some d)
        (is : definition_of (changed_line line s) ≡ Some d') where
      no_blocks : block_of (changed_line line s) ≡ block_of line
      no_blocks = (defined_parts (changed_line line s) d' is).0 ∙ sym (defined_parts line d was).0

      no_commands : command_of (changed_line line s) ≡ command_of line
      no_commands = (defined_parts (changed_line line s) d' is).1 ∙ sym (defined_parts line d was).1

      defined_alike : (i : Item) → IsSameTo i name (Some d') (Some d) → ask u b i ≡ ask t a i
      defined_alike (items.Block k) same = block_alike k (block_here back line s k no_blocks)
      defined_alike (items.After k) same = after_alike k (ap is_some no_blocks)
      defined_alike (items.Cmd j) same = commands_alike j no_commands
      defined_alike i same =
          let labels = labels_are line.statement.label s.label name named in
          changed_alike i tt (lines_before t place) back t u a b e.horizon seeds line (changed_line line s) e.new e.old
          (definition_said name d d' line (changed_line line s) labels.0 labels.1 was is i tt same)

    other_alike : line_in (lines_before t place ++ back) line.number ≡ None → (name : Option (List ℕ)) → one_name line.statement.label s.label ≡ name →
        (before behind : Option Definition) → definition_of line ≡ before → definition_of (changed_line line s) ≡ behind → (i : Item) →
        is_touched (other_change name before behind t place line (changed_line line s)) i ≡ false → ask u b i ≡ ask t a i
    other_alike absent (Some name) named (Some (definitions.Storage x)) (Some (definitions.Storage y)) was is i h =
        defined_alike name named _ _ was is i (units_same i name x y ((or_parts (is_ask name (Some x) (Some y) i) false h).0))
    other_alike absent (Some name) named (Some (definitions.Equ x)) (Some (definitions.Equ y)) was is i h =
        defined_alike name named _ _ was is i (number_same name line.statement s i x y (untouched_at (_ ∷ []) 0 _ i refl h))
    other_alike absent (Some name) named (Some (definitions.Variable x)) (Some (definitions.Variable y)) was is i h =
        defined_alike name named _ _ was is i (expression_same name line.statement s i x y (untouched_at (_ ∷ []) 0 _ i refl h))
    other_alike absent (Some name) named (Some (definitions.Function x)) (Some (definitions.Function y)) was is i h =
        defined_alike name named _ _ was is i (curve_same name line.statement s i x y (untouched_at (_ ∷ []) 0 _ i refl h))
    other_alike absent (Some name) named (Some (definitions.Table x)) (Some (definitions.Table y)) was is i h =
        defined_alike name named _ _ was is i (argument_same name line.statement s i x y (untouched_at (_ ∷ []) 0 _ i refl h))
    other_alike absent name named before behind was is i h = kind_alike absent i h

    by_kinds : line_in (lines_before t place ++ back) line.number ≡ None → (was is : Bool) → is_block line ≡ was → is_block (changed_line line s) ≡ is →
        (i : Item) →
        is_touched (cond (was && is) (block_change line (changed_line line s))
        (other_change (one_name line.statement.label s.label) (definition_of line) (definition_of (changed_line line s)) t place line (changed_line line s))) i
        ≡ false → ask u b i ≡ ask t a i
    by_kinds absent true true was is i h = block_by_block was is i h
    by_kinds absent true false was is i h =
        other_alike absent (one_name line.statement.label s.label) refl (definition_of line) (definition_of (changed_line line s)) refl refl i h
    by_kinds absent false is' was is i h =
        other_alike absent (one_name line.statement.label s.label) refl (definition_of line) (definition_of (changed_line line s)) refl refl i h

    -- another statement
    pub change_alike : line_in (lines_before t place ++ back) line.number ≡ None → (i : Item) →
        is_touched (splice_probes t place (Some line) (Some (changed_line line s))) i ≡ false → ask u b i ≡ ask t a i
    change_alike absent i h = by_kinds absent (is_block line) (is_block (changed_line line s)) refl refl i h
