-- Items that are answered by lists: the statements say something to the item, each by itself, and its answer is made of what
-- they say, in order. One that says nothing to it may be inserted or deleted, and one may come for another that says the same.
-- These are all items but those of a block, which go by its number, and those of a command, which go by how many are in front.
use Rattle.std.proofs.Common.{◌≡◌, ℕ, zero, suc, Bool, true, false, cond, not, ◌&&◌, slice_get, List, [], ◌∷◌, ◌++◌, Option, Some, None, is_some, ◌||◌, ◌⊎◌, inl, inr, refl, ap, ap₂, sym, subst, ◌∙◌, ⊎_elim, nat_le, option_map, unwrap_or}
use mathlib.Core.Bool.{true≢false}
use Rattle.std.specs.List.{filter_map, cons_option}
use Rattle.std.specs.Str.{bytes_eq}
use Rattle.std.proofs.lemmas.Slice.Eq.{bytes_eq-Decides}
use Rattle.std.proofs.lemmas.Bool.{cases_Bool, or_parts}
use Rattle.std.proofs.lemmas.List.Elements.{filter_map-append}
use Rattle.std.proofs.lemmas.List.Folds.{list_any-append}
use Rattle.std.specs.Prelude.{ℤ}
use Rattle.std.proofs.Math.Bool.{and-true}
use Rattle.gw_expr.specs.Term.{Term}
use Rattle.gw_expr.specs.declared.function.Function.{Function}
use Rattle.gw_meaning.specs.declared.item.Item.{Item}
use Rattle.gw_meaning.specs.declared.item.Asked.{Asked}
use Rattle.gw_meaning.specs.declared.item.Asked.TheVariants as asking
use Rattle.gw_meaning.specs.declared.item.Item.TheVariants as items
use Rattle.gw_meaning.specs.declared.statement.Body.{Body}
use Rattle.gw_meaning.specs.declared.statement.Body.TheVariants as bodies
use Rattle.gw_meaning.specs.declared.statement.Statement.{Statement}
use Rattle.gw_meaning.specs.declared.statement.Numbered.{Numbered}
use Rattle.gw_meaning.specs.Listing.{Listing, block_of_body, is_block, is_generate, is_generate_body, has_label, labelled_in, generates_in, capacity_in, command_of_body, defines, definition_if, definition_of, definition_of_body, first_said, is_command, number_of, expression_of, function_of, argument_of, or_next, units_of}
use Rattle.gw_meaning.specs.Questions.{Answer, ask}
use Rattle.gw_meaning.specs.Reads.{is_use}
use Rattle.gw_touch.specs.Same.{same_statement, same_label}
use Rattle.gw_touch.specs.declared.touch.Probe.{Probe}
use Rattle.gw_touch.specs.declared.touch.Probe.TheVariants.{CommandsFrom}
use Rattle.gw_touch.specs.Touching.{block_before, command_from, given, one_if, label_if, block_slots, block_probes, line_probes, change_slots, label_slots, block_change, is_probed, is_touched, definition_slot, definition_probes, rest_probes}
use Rattle.gw_touch.proofs.SameBlocks.{statement_same, label_same}
use Rattle.gw_meaning.specs.declared.statement.Definition.{Definition}
use Rattle.gw_meaning.specs.declared.statement.Definition.TheVariants as definitions

-- what is not touched by probes is not touched by any part of them
pub untouched_both : (ps qs : List Probe) (i : Item) → is_touched (ps ++ qs) i ≡ false → (is_touched ps i ≡ false) × (is_touched qs i ≡ false)
untouched_both ps qs i h = or_parts (is_touched ps i) (is_touched qs i) (sym (list_any-append (λ p. is_probed p i) ps qs) ∙ h)

-- what a list of slots leaves untouched, the probe in each slot does; an empty slot is of no item
abbrev pub probed_at : Option Probe → Item → Bool
probed_at None i = false
probed_at (Some probe) i = is_probed probe i

first_slot : (o : Option Probe) (os : List (Option Probe)) (i : Item) → is_touched (given (o ∷ os)) i ≡ false →
    (probed_at o i ≡ false) × (is_touched (given os) i ≡ false)
first_slot None os i h = (refl, h)
first_slot (Some probe) os i h = or_parts (is_probed probe i) (is_touched (given os) i) h

pub untouched_at : (os : List (Option Probe)) (k : ℕ) (o : Option Probe) (i : Item) → slice_get os k ≡ Some o → is_touched (given os) i ≡ false →
    probed_at o i ≡ false
untouched_at [] k o i at h = absurd cc
untouched_at (p ∷ os) zero o i at h = let same : p ≡ o = cc in ap (λ q. probed_at q i) (sym same) ∙ (first_slot p os i h).0
untouched_at (p ∷ os) (suc k) o i at h = untouched_at os k o i at (first_slot p os i h).1

-- an item that is left untouched was not wanted
pub not_wanted : (wanted : Bool) (i : Item) → is_use i i ≡ true → probed_at (one_if wanted i) i ≡ false → wanted ≡ false
not_wanted false i itself h = refl
not_wanted true i itself h = absurd (true≢false (sym itself ∙ h))

-- the statement that takes the place of another
abbrev pub changed_line : Numbered → Statement → Numbered
changed_line line s = record line { statement = s }

-- an item that is answered by a list
pub record IsByLines (i : Item) : Type 1 where
  -- what a statement says to it, and what is made of that with the horizon and the seed
  pub X : Type 0
  pub says : Numbered → Option X
  pub made : ℕ → ℕ → List X → Answer i
  pub is : (t : Listing) (seed : ℕ) → ask t seed i ≡ made t.horizon seed (filter_map says t.lines)
  -- a statement whose probes leave it untouched says nothing to it; a block that comes for a block says what that one did
  pub line : (t : Listing) (place : ℕ) (line : Numbered) → is_touched (line_probes t place line) i ≡ false → says line ≡ None
  pub change : (line : Numbered) (s : Statement) → is_block line ≡ true → is_block (changed_line line s) ≡ true →
      is_touched (block_change line (changed_line line s)) i ≡ false → says (changed_line line s) ≡ says line

-- the list of GENERATEs
abbrev pub generate_of : Numbered → Option ℕ
generate_of line = cond (is_generate line) (Some line.number) None

pub generates_listed : (lines : List Numbered) → generates_in lines ≡ filter_map generate_of lines
generates_listed [] = refl
generates_listed (line ∷ lines) =
    elim (is_generate line) as (λ b. cond b (line.number ∷ generates_in lines) (generates_in lines) ≡
    cons_option (cond b (Some line.number) None) (filter_map generate_of lines))
    [ true ↦ ap (λ ns. line.number ∷ ns) (generates_listed lines) | false ↦ generates_listed lines ]

pub no_generate_of : (body : Body) → is_some (block_of_body body) ≡ false → is_generate_body body ≡ false
no_generate_of (bodies.Block block) h = absurd cc
no_generate_of (bodies.Definition definition) h = refl
no_generate_of (bodies.Command command) h = refl

pub no_generate : (t : Listing) (place : ℕ) (line : Numbered) (block : Bool) → is_block line ≡ block →
    is_touched (cond block (block_probes t place line) (rest_probes t place line)) items.Generates ≡ false → is_generate line ≡ false
no_generate t place line true is h =
    not_wanted (is_generate line) items.Generates refl (untouched_at (block_slots (block_before t place) line) 3 _ items.Generates refl h)
no_generate t place line false is h = no_generate_of line.statement.body is

pub generate_none : (line : Numbered) → is_generate line ≡ false → generate_of line ≡ None
generate_none line none = ap (λ b. cond b (Some line.number) None) none

-- a block that comes for a block touches what its change touches, and labels
pub change_parts : (line : Numbered) (s : Statement) (i : Item) → is_touched (block_change line (changed_line line s)) i ≡ false →
    (is_touched (given (change_slots (not (same_statement line.statement s)) line (changed_line line s))) i ≡ false) ×
    (is_touched (given (label_slots (not (same_label line.statement.label s.label)) line (changed_line line s))) i ≡ false)
change_parts line s i h = untouched_both _ _ i h

pub same_generate : (line : Numbered) (s : Statement) → is_touched (block_change line (changed_line line s)) items.Generates ≡ false →
    is_generate (changed_line line s) ≡ is_generate line
same_generate line s h =
    ⊎_elim
    (λ (same : same_statement line.statement s ≡ true). ap is_generate_body (sym (statement_same line.statement s same)))
    (λ (other : same_statement line.statement s ≡ false).
    let either = is_generate line || is_generate (changed_line line s) in
    let untouched = untouched_at (change_slots (not (same_statement line.statement s)) line (changed_line line s)) 1 _ items.Generates refl
    (change_parts line s items.Generates h).0 in
    let none = not_wanted (not (same_statement line.statement s) && either) items.Generates refl untouched in
    let parts = or_parts (is_generate line) (is_generate (changed_line line s)) (subst (λ (b : Bool). (not b && either) ≡ false) other none) in
    parts.1 ∙ sym parts.0)
    (cases_Bool (same_statement line.statement s))

-- two names are other ones in either order
pub bytes_other : (a b : List ℕ) → bytes_eq a b ≡ false → bytes_eq b a ≡ false
bytes_other a b h = ⊎_elim
    (λ (same : bytes_eq b a ≡ true). absurd (let is : b ≡ a = (bytes_eq-Decides b a).0 same in
    let itself : bytes_eq a a ≡ false = subst (λ x. bytes_eq a x ≡ false) is h in true≢false (sym ((bytes_eq-Decides a a).1 refl) ∙ itself)))
    (λ (other : bytes_eq b a ≡ false). other) (cases_Bool (bytes_eq b a))

-- the first of what was said
abbrev leading : {X : Type 0} → List X → Option X
leading [] = None
leading (x ∷ xs) = Some x

-- the block with a label
module _ (name : List ℕ) where
  abbrev pub label_of : Numbered → Option ℕ
  label_of line = cond (is_block line && has_label name line.statement.label) (Some line.number) None

  pub label_listed : (lines : List Numbered) → labelled_in name lines ≡ leading (filter_map label_of lines)
  label_listed [] = refl
  label_listed (line ∷ lines) =
      elim (is_block line && has_label name line.statement.label) as (λ b. cond b (Some line.number) (labelled_in name lines) ≡
      leading (cons_option (cond b (Some line.number) None) (filter_map label_of lines)))
      [ true ↦ refl | false ↦ label_listed lines ]

  -- a label that was wanted and is left untouched is another one
  other_label : (label : Option (List ℕ)) → probed_at (label_if true label) (items.Named asking.Label name) ≡ false → has_label name label ≡ false
  other_label None h = refl
  other_label (Some label) h = bytes_other name label h

  pub no_label : (t : Listing) (place : ℕ) (line : Numbered) (block : Bool) → is_block line ≡ block →
      is_touched (cond block (block_probes t place line) (rest_probes t place line)) (items.Named asking.Label name) ≡ false → label_of line ≡ None
  no_label t place line true is h =
      let other = other_label line.statement.label (untouched_at (block_slots (block_before t place) line) 4 _ (items.Named asking.Label name) refl h) in
      ap (λ c. cond c (Some line.number) None) (ap₂ (λ a b. a && b) is other)
  no_label t place line false is h = ap (λ c. cond (c && has_label name line.statement.label) (Some line.number) None) is

  label_there : (line : Numbered) (s : Statement) (same : Bool) → same_label line.statement.label s.label ≡ same →
      is_touched (given (label_slots (not same) line (changed_line line s))) (items.Named asking.Label name) ≡ false →
      has_label name s.label ≡ has_label name line.statement.label
  label_there line s true is h = ap (has_label name) (sym (label_same line.statement.label s.label is))
  label_there line s false is h =
      let slots = label_slots true line (changed_line line s) in
      other_label s.label (untouched_at slots 1 _ (items.Named asking.Label name) refl h) ∙
      sym (other_label line.statement.label (untouched_at slots 0 _ (items.Named asking.Label name) refl h))

  pub label_changed : (line : Numbered) (s : Statement) → is_block line ≡ true → is_block (changed_line line s) ≡ true →
      is_touched (block_change line (changed_line line s)) (items.Named asking.Label name) ≡ false → label_of (changed_line line s) ≡ label_of line
  label_changed line s was is h =
      let labels = label_there line s (same_label line.statement.label s.label) refl (change_parts line s (items.Named asking.Label name) h).1 in
      ap (λ c. cond c (Some line.number) None) (ap₂ (λ a b. a && b) (is ∙ sym was) labels)

-- what definitions say of a name
or_none : {X Y : Type 0} (f : X → Y) (a b : Option X) → option_map f (or_next a b) ≡ or_next (option_map f a) (option_map f b)
or_none f None b = refl
or_none f (Some x) b = refl

leading_of : {X : Type 0} (o : Option X) (xs : List X) → leading (cons_option o xs) ≡ or_next o (leading xs)
leading_of None xs = refl
leading_of (Some x) xs = refl

pub said_listed : {X : Type 0} (says : Numbered → Option X) (lines : List Numbered) → first_said says lines ≡ leading (filter_map says lines)
said_listed says [] = refl
said_listed says (line ∷ lines) = ap (or_next (says line)) (said_listed says lines) ∙ sym (leading_of (says line) (filter_map says lines))

no_definition_of : (body : Body) → is_some (block_of_body body) ≡ true → definition_of_body body ≡ None
no_definition_of (bodies.Block block) h = refl
no_definition_of (bodies.Definition definition) h = absurd cc
no_definition_of (bodies.Command command) h = absurd cc

no_command_definition : (body : Body) → is_some (command_of_body body) ≡ true → definition_of_body body ≡ None
no_command_definition (bodies.Block block) h = absurd cc
no_command_definition (bodies.Definition definition) h = absurd cc
no_command_definition (bodies.Command command) h = refl

-- whether so many units fit
abbrev pub fitting : ℕ → Option Definition → Option Bool
fitting units definition = option_map (λ c. nat_le units c) (units_of definition)

-- two definitions under a label say the same of a name by f, or the label is another one
abbrev pub IsSameOf : {X : Type 0} → (Option Definition → Option X) → List ℕ → List ℕ → Option Definition → Option Definition → Type 0
IsSameOf f name label d e = (f d ≡ f e) ⊎ (bytes_eq label name ≡ false)

pub said_same : {X : Type 0} (f : Option Definition → Option X) (name label : List ℕ) (d e : Option Definition) → IsSameOf f name label d e →
    f (definition_if (bytes_eq label name) d) ≡ f (definition_if (bytes_eq label name) e)
said_same f name label d e (inl same) = elim (bytes_eq label name) as (λ b. f (definition_if b d) ≡ f (definition_if b e)) [ true ↦ same | false ↦ refl ]
said_same f name label d e (inr other) = rw other refl

-- what a definition says to what is asked of its name
pub record Saying : Type 1 where
  pub X : Type 0
  pub says : Option Definition → Option X

abbrev pub saying : Asked → Saying
saying asking.Number = record { X = ℤ; says = number_of }
saying (asking.Fits units) = record { X = Bool; says = fitting units }
saying asking.Storage = record { X = ℕ; says = units_of }
saying asking.Variable = record { X = Term; says = expression_of }
saying asking.Function = record { X = Function; says = function_of }
saying asking.Table = record { X = Term; says = argument_of }
saying asked = record { X = ℕ; says = λ d. None }

-- two definitions say the same to an item
abbrev pub IsSameTo : Item → List ℕ → Option Definition → Option Definition → Type 0
IsSameTo (items.Named asked name) = IsSameOf (saying asked).says name
IsSameTo item = IsSameOf {X = ℕ} (λ d. None) []

-- a definition that is not touched says as much as none
pub untouched_same : (i : Item) (label : List ℕ) (d : Definition) → probed_at (definition_slot (Some label) (Some d)) i ≡ false →
    IsSameTo i label (Some d) None
untouched_same (items.Named asking.Number name) label (definitions.Equ value) h = inr (bytes_other name label h)
untouched_same (items.Named (asking.Fits units) name) label (definitions.Storage capacity) h = inr (sym (and-true (bytes_eq label name)) ∙ h)
untouched_same (items.Named asking.Storage name) label (definitions.Storage capacity) h = inr (sym (and-true (bytes_eq label name)) ∙ h)
untouched_same (items.Named asking.Variable name) label (definitions.Variable expression) h = inr (bytes_other name label h)
untouched_same (items.Named asking.Function name) label (definitions.Function function) h = inr (bytes_other name label h)
untouched_same (items.Named asking.Table name) label (definitions.Table table) h = inr (bytes_other name label h)
untouched_same item label d h = inl refl

module _ (name : List ℕ) where
  -- the definition that a label with a definition gives the name
  abbrev said_by : Option (List ℕ) → Option Definition → Option Definition
  said_by label definition = definition_if (has_label name label) definition

  nothing_defined : (label : Option (List ℕ)) → said_by label None ≡ None
  nothing_defined label = elim (has_label name label) as (λ b. definition_if b None ≡ None) [ true ↦ refl | false ↦ refl ]

  block_defines : (line : Numbered) → is_block line ≡ true → defines name line ≡ None
  block_defines line is =
      ap (said_by line.statement.label) (no_definition_of line.statement.body is) ∙ nothing_defined line.statement.label

  command_defines : (line : Numbered) → is_command line ≡ true → defines name line ≡ None
  command_defines line is =
      ap (said_by line.statement.label) (no_command_definition line.statement.body is) ∙ nothing_defined line.statement.label

  -- what a definition says of a name, f of what it is
  module _ {X : Type 0} (f : Option Definition → Option X) (none : f None ≡ None) where
    -- a definition that is left untouched says nothing
    abbrev IsSilent : Item → Type 0
    IsSilent i = (label : Option (List ℕ)) (definition : Option Definition) → probed_at (definition_slot label definition) i ≡ false →
        f (said_by label definition) ≡ None

    pub silent_where : (i : Item) →
        ((label : List ℕ) (d : Definition) → probed_at (definition_slot (Some label) (Some d)) i ≡ false → IsSameOf f name label (Some d) None) → IsSilent i
    silent_where i same None definition h = none
    silent_where i same (Some label) None h = ap f (nothing_defined (Some label)) ∙ none
    silent_where i same (Some label) (Some d) h = said_same f name label (Some d) None (same label d h) ∙ (ap f (nothing_defined (Some label)) ∙ none)

    pub silent_line : (i : Item) → IsSilent i → (t : Listing) (place : ℕ) (line : Numbered) → is_touched (line_probes t place line) i ≡ false →
        f (defines name line) ≡ None
    silent_line i silent t place line h = by_block (is_block line) refl h where
      by_command : (command : Bool) → is_command line ≡ command →
          is_touched (cond command (CommandsFrom (command_from t place) ∷ []) (definition_probes line)) i ≡ false → f (defines name line) ≡ None
      by_command true is k = ap f (command_defines line is) ∙ none
      by_command false is k = silent line.statement.label (definition_of line)
          (untouched_at (definition_slot line.statement.label (definition_of line) ∷ []) 0 _ i refl k)

      by_block : (block : Bool) → is_block line ≡ block → is_touched (cond block (block_probes t place line) (rest_probes t place line)) i ≡ false →
          f (defines name line) ≡ None
      by_block true is k = ap f (block_defines line is) ∙ none
      by_block false is k = by_command (is_command line) refl k

    pub silent_blocks : (line other : Numbered) → is_block line ≡ true → is_block other ≡ true → f (defines name other) ≡ f (defines name line)
    silent_blocks line other was is = ap f (block_defines other is ∙ sym (block_defines line was))

  -- an item that is answered by the first that a definition says of a name, by f
  abbrev pub by_name : {X : Type 0} (f : Option Definition → Option X) → f None ≡ None → {i : Item} (made : Option X → Answer i) →
      ((t : Listing) (seed : ℕ) → ask t seed i ≡ made (first_said (λ line. f (defines name line)) t.lines)) →
      ((label : List ℕ) (d : Definition) → probed_at (definition_slot (Some label) (Some d)) i ≡ false → IsSameOf f name label (Some d) None) → IsByLines i
  by_name {X} f none {i} made is same = record {
    X = X;
    says = λ line. f (defines name line);
    made = λ horizon seed xs. made (leading xs);
    is = λ t seed. is t seed ∙ ap made (said_listed (λ line. f (defines name line)) t.lines);
    line = silent_line f none i (silent_where f none i same);
    change = λ line s was is h. silent_blocks f none line (changed_line line s) was is;
  }

-- of the storage of a name the first that is defined tells whether so many units fit
fits_said : (units : ℕ) (o : Option ℕ) → nat_le units (unwrap_or o 0) ≡ unwrap_or (option_map (λ c. nat_le units c) o) (nat_le units 0)
fits_said units None = refl
fits_said units (Some c) = refl

fits_first : (name : List ℕ) (units : ℕ) (lines : List Numbered) →
    option_map (λ c. nat_le units c) (first_said (λ line. units_of (defines name line)) lines) ≡
    first_said (λ line. fitting units (defines name line)) lines
fits_first name units [] = refl
fits_first name units (line ∷ lines) =
    or_none (λ c. nat_le units c) (units_of (defines name line)) (first_said (λ line. units_of (defines name line)) lines) ∙
    ap (or_next (fitting units (defines name line))) (fits_first name units lines)

pub fits_listed : (name : List ℕ) (units : ℕ) (lines : List Numbered) →
    nat_le units (unwrap_or (capacity_in name lines) 0) ≡
    unwrap_or (first_said (λ line. fitting units (defines name line)) lines) (nat_le units 0)
fits_listed name units lines = fits_said units (capacity_in name lines) ∙ ap (λ o. unwrap_or o (nat_le units 0)) (fits_first name units lines)

-- the items of a block and those of a command are the others
abbrev pub IsListed : Item → Type 0
IsListed (items.Block k) = ⊥
IsListed (items.After k) = ⊥
IsListed (items.Cmd j) = ⊥
IsListed item = Unit {0}

-- each listed item: what says something to it, and how the probes tell. One without a line here is answered without any
-- statement.
unfoldable pub by_lines : (i : Item) → IsListed i → IsByLines i
by_lines (items.Block k) listed = absurd listed
by_lines (items.After k) listed = absurd listed
by_lines (items.Cmd j) listed = absurd listed
by_lines items.Generates listed = record {
  X = ℕ;
  says = generate_of;
  made = λ horizon seed ns. ns;
  is = λ t seed. generates_listed t.lines;
  line = λ t place line h. generate_none line (no_generate t place line (is_block line) refl h);
  change = λ line s was is h. ap (λ b. cond b (Some line.number) None) (same_generate line s h);
}
by_lines (items.Named asking.Label name) listed = record {
  X = ℕ;
  says = label_of name;
  made = λ horizon seed ns. leading ns;
  is = λ t seed. label_listed name t.lines;
  line = λ t place line h. no_label name t place line (is_block line) refl h;
  change = λ line s was is h. label_changed name line s was is h;
}
by_lines (items.Named asking.Number name) listed =
    by_name name number_of refl (λ z. z) (λ t seed. refl) (untouched_same (items.Named asking.Number name))
by_lines (items.Named (asking.Fits units) name) listed =
    by_name name (fitting units) refl (λ b. unwrap_or b (nat_le units 0)) (λ t seed. fits_listed name units t.lines)
    (untouched_same (items.Named (asking.Fits units) name))
by_lines (items.Named asking.Storage name) listed =
    by_name name units_of refl (λ n. unwrap_or n 0) (λ t seed. refl) (untouched_same (items.Named asking.Storage name))
by_lines (items.Named asking.Variable name) listed =
    by_name name expression_of refl (λ e. e) (λ t seed. refl) (untouched_same (items.Named asking.Variable name))
by_lines (items.Named asking.Function name) listed =
    by_name name function_of refl (λ f. f) (λ t seed. refl) (untouched_same (items.Named asking.Function name))
by_lines (items.Named asking.Table name) listed =
    by_name name argument_of refl (λ a. a) (λ t seed. refl) (untouched_same (items.Named asking.Table name))
by_lines item listed = record {
  X = Unit {0};
  says = λ line. None;
  made = λ horizon seed xs. ask (record { lines = []; horizon = horizon; replications = []; limit = 0 }) seed item;
  is = λ t seed. refl;
  line = λ t place line h. refl;
  change = λ line s was is h. refl;
}

-- two versions with one horizon, of which the statements say the same to an item in order
said_alike : (i : Item) (by : IsByLines i) (t u : Listing) (a b : ℕ) → u.horizon ≡ t.horizon → b ≡ a →
    filter_map by.says u.lines ≡ filter_map by.says t.lines → ask u b i ≡ ask t a i
said_alike i by t u a b horizon seeds said =
    by.is u b ∙ (ap (λ n. by.made n b (filter_map by.says u.lines)) horizon ∙
    (ap (λ n. by.made t.horizon n (filter_map by.says u.lines)) seeds ∙ (ap (by.made t.horizon a) said ∙ sym (by.is t a))))

-- after the same statements, where what comes first says the same
said_behind : {X : Type 0} (says : Numbered → Option X) (front xs ys : List Numbered) → filter_map says xs ≡ filter_map says ys →
    filter_map says (front ++ xs) ≡ filter_map says (front ++ ys)
said_behind says front xs ys h =
    filter_map-append says front xs ∙ (ap (λ zs. filter_map says front ++ zs) h ∙ sym (filter_map-append says front ys))

module _ (i : Item) (listed : IsListed i) (front back : List Numbered) (t u : Listing) (a b : ℕ) (horizon : u.horizon ≡ t.horizon) (seeds : b ≡ a) where
  -- a statement that says nothing is inserted
  pub silent_alike : (line : Numbered) → u.lines ≡ front ++ line ∷ back → t.lines ≡ front ++ back → (by_lines i listed).says line ≡ None → ask u b i ≡ ask t a i
  silent_alike line new old silent =
      let by = by_lines i listed in
      said_alike i by t u a b horizon seeds
      (ap (filter_map by.says) new ∙ (said_behind by.says front (line ∷ back) back (ap (λ o. cons_option o (filter_map by.says back)) silent) ∙
      sym (ap (filter_map by.says) old)))

  -- one comes for another that says the same
  pub changed_alike : (line other : Numbered) → u.lines ≡ front ++ other ∷ back → t.lines ≡ front ++ line ∷ back →
      (by_lines i listed).says other ≡ (by_lines i listed).says line → ask u b i ≡ ask t a i
  changed_alike line other new old same =
      let by = by_lines i listed in
      said_alike i by t u a b horizon seeds
      (ap (filter_map by.says) new ∙ (said_behind by.says front (other ∷ back) (line ∷ back) (ap (λ o. cons_option o (filter_map by.says back)) same) ∙
      sym (ap (filter_map by.says) old)))
