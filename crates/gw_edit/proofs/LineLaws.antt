-- Lines of which one is deleted or inserted: what it does not touch, those with it and those without it answer alike.
use Rattle.std.proofs.Common.{◌≡◌, ℕ, Bool, true, false, cond, List, [], ◌∷◌, ◌++◌, Option, Some, None, is_some, option_and_then, ◌==◌, refl, ap, sym, subst, ◌∙◌, ⊎_elim}
use Rattle.std.specs.List.{filter_map, cons_option}
use Rattle.std.proofs.lemmas.Bool.{cases_Bool, eqb-true, or_parts}
use Rattle.gw_meaning.specs.declared.item.Item.{Item}
use Rattle.gw_meaning.specs.declared.item.Item.TheVariants as items
use Rattle.gw_meaning.specs.declared.statement.Body.{Body}
use Rattle.gw_meaning.specs.declared.statement.Body.TheVariants as bodies
use Rattle.gw_meaning.specs.declared.statement.Numbered.{Numbered}
use Rattle.gw_meaning.specs.Listing.{Listing, line_in, block_of, block_of_body, is_block, command_of, command_of_body, first_block, after_in, nth, is_command}
use Rattle.gw_meaning.specs.Questions.{ask}
use Rattle.gw_model.proofs.Numbers.{absent_first, other_way}
use Rattle.gw_model.proofs.Once.{is_none}
use Rattle.gw_touch.specs.declared.touch.Probe.TheVariants.{CommandsFrom}
use Rattle.gw_touch.specs.Touching.{last_block, lines_before, block_before, command_from, behind, block_slots, block_probes, line_probes, is_touched, definition_probes, rest_probes}
use Rattle.gw_edit.proofs.Fronts.{is_at, block_in, block_behind, after_behind, after_in_front, commands_behind, commands_front, after_none}
use Rattle.gw_edit.proofs.ByLines.{probed_at, untouched_at, by_lines, silent_alike}

-- a block is no command, and a command is no block
no_command : (body : Body) → is_some (block_of_body body) ≡ true → command_of_body body ≡ None
no_command (bodies.Block block) h = refl
no_command (bodies.Definition definition) h = absurd cc
no_command (bodies.Command command) h = absurd cc

pub command_none : (line : Numbered) → is_block line ≡ true → command_of line ≡ None
command_none line h = no_command line.statement.body h

no_block_of : (body : Body) → is_some (block_of_body body) ≡ false → block_of_body body ≡ None
no_block_of (bodies.Block block) h = absurd cc
no_block_of (bodies.Definition definition) h = refl
no_block_of (bodies.Command command) h = refl

no_block : (line : Numbered) → is_block line ≡ false → block_of line ≡ None
no_block line h = no_block_of line.statement.body h

not_behind : (o : Option ℕ) (k : ℕ) → probed_at (behind o) (items.After k) ≡ false → is_at o k ≡ false
not_behind None k h = refl
not_behind (Some n) k h = other_way k n h

-- after lines without a number it is not there either
absent_behind : (front back : List Numbered) (k : ℕ) → line_in (front ++ back) k ≡ None → line_in back k ≡ None
absent_behind [] back k none = none
absent_behind (x ∷ front) back k none = absent_behind front back k ((absent_first x (front ++ back) k none).1)

module _ (front back : List Numbered) (line : Numbered) where
  -- a block
  block_other : (k : ℕ) → (line.number == k) ≡ false → block_in (front ++ line ∷ back) k ≡ block_in (front ++ back) k
  block_other k other =
      block_behind front (line ∷ back) back k
      (subst (λ (b : Bool). option_and_then block_of (cond b (Some line) (line_in back k)) ≡ block_in back k) (sym other) refl)

  after_other : (k : ℕ) → (line.number == k) ≡ false → is_at (last_block None front) k ≡ false → after_in (front ++ line ∷ back) k ≡ after_in (front ++ back) k
  after_other k other last =
      after_in_front front (line ∷ back) back k last
      (subst (λ (b : Bool). cond b (cond (is_block line) (first_block back) None) (after_in back k) ≡ after_in back k) (sym other) refl)

  commands_same : (j : ℕ) → command_of line ≡ None → nth (filter_map command_of (front ++ line ∷ back)) j ≡ nth (filter_map command_of (front ++ back)) j
  commands_same j none =
      ap (λ cs. nth cs j) (commands_behind front (line ∷ back) back (ap (λ o. cons_option o (filter_map command_of back)) none))

  -- what is no block, whose number no block has
  module _ (command : is_block line ≡ false) (absent : line_in (front ++ back) line.number ≡ None) where
    block_hidden : (k : ℕ) → block_in (line ∷ back) k ≡ block_in back k
    block_hidden k =
        ⊎_elim
        (λ (same : (line.number == k) ≡ true).
        let none : line_in back k ≡ None =
        subst (λ (n : ℕ). line_in back n ≡ None) (eqb-true line.number k same) (absent_behind front back line.number absent) in
        subst (λ (b : Bool). option_and_then block_of (cond b (Some line) (line_in back k)) ≡ block_in back k) (sym same)
        (no_block line command ∙ sym (ap (λ o. option_and_then block_of o) none)))
        (λ (other : (line.number == k) ≡ false).
        subst (λ (b : Bool). option_and_then block_of (cond b (Some line) (line_in back k)) ≡ block_in back k) (sym other) refl)
        (cases_Bool (line.number == k))

    after_hidden : (k : ℕ) → after_in (line ∷ back) k ≡ after_in back k
    after_hidden k =
        ⊎_elim
        (λ (same : (line.number == k) ≡ true).
        let none : line_in back k ≡ None =
        subst (λ (n : ℕ). line_in back n ≡ None) (eqb-true line.number k same) (absent_behind front back line.number absent) in
        subst (λ (b : Bool). cond b (cond (is_block line) (first_block back) None) (after_in back k) ≡ after_in back k) (sym same)
        (ap (λ b. cond b (first_block back) None) command ∙ sym (after_none back k (ap (λ o. option_and_then block_of o) none))))
        (λ (other : (line.number == k) ≡ false).
        subst (λ (b : Bool). cond b (cond (is_block line) (first_block back) None) (after_in back k) ≡ after_in back k) (sym other) refl)
        (cases_Bool (line.number == k))

    block_same : (k : ℕ) → block_in (front ++ line ∷ back) k ≡ block_in (front ++ back) k
    block_same k = block_behind front (line ∷ back) back k (block_hidden k)

    after_same : (k : ℕ) → after_in (front ++ line ∷ back) k ≡ after_in (front ++ back) k
    after_same k = after_behind front (line ∷ back) back k (ap (λ b. cond b (Some line.number) (first_block back)) command) (after_hidden k)

-- a version whose lines are those with the line, and one whose lines are those without it
pub record IsWith (t : Listing) (place : ℕ) (line : Numbered) (back : List Numbered) (with without : Listing) : Type 0 where
  pub has : with.lines ≡ lines_before t place ++ line ∷ back
  pub lacks : without.lines ≡ lines_before t place ++ back
  pub horizon : with.horizon ≡ without.horizon
  pub absent : line_in (lines_before t place ++ back) line.number ≡ None

module _ (t : Listing) (place : ℕ) (line : Numbered) (back : List Numbered) (with without : Listing) (e : IsWith t place line back with without) (a b : ℕ)
    (seeds : b ≡ a) where
  -- what the lines answer alike, the versions do
  between : {X : Type 0} (f : List Numbered → X) → f (lines_before t place ++ line ∷ back) ≡ f (lines_before t place ++ back) → f with.lines ≡ f without.lines
  between f h = ap f e.has ∙ h ∙ sym (ap f e.lacks)

  -- the items of a block, by whether the line is one
  block_alike : (block : Bool) → is_block line ≡ block → (k : ℕ) →
      is_touched (cond block (block_probes t place line) (rest_probes t place line)) (items.Block k) ≡ false →
      block_in with.lines k ≡ block_in without.lines k
  block_alike true is k h =
      let other = untouched_at (block_slots (block_before t place) line) 1 _ (items.Block k) refl h in
      between (λ ls. block_in ls k) (block_other (lines_before t place) back line k (other_way k line.number other))
  block_alike false is k h = between (λ ls. block_in ls k) (block_same (lines_before t place) back line is e.absent k)

  after_alike : (block : Bool) → is_block line ≡ block → (k : ℕ) →
      is_touched (cond block (block_probes t place line) (rest_probes t place line)) (items.After k) ≡ false →
      after_in with.lines k ≡ after_in without.lines k
  after_alike true is k h =
      let slots = block_slots (block_before t place) line in
      let front = untouched_at slots 0 _ (items.After k) refl h in
      let other = untouched_at slots 2 _ (items.After k) refl h in
      between (λ ls. after_in ls k)
      (after_other (lines_before t place) back line k (other_way k line.number other) (not_behind (block_before t place) k front))
  after_alike false is k h = between (λ ls. after_in ls k) (after_same (lines_before t place) back line is e.absent k)

  -- those of a command
  command_alike : (block : Bool) → is_block line ≡ block → (j : ℕ) →
      is_touched (cond block (block_probes t place line) (rest_probes t place line)) (items.Cmd j) ≡ false →
      nth (filter_map command_of with.lines) j ≡ nth (filter_map command_of without.lines) j
  command_alike true is j h = between (λ ls. nth (filter_map command_of ls) j) (commands_same (lines_before t place) back line j (command_none line is))
  command_alike false is j h = by_command (is_command line) refl h where
    by_command : (command : Bool) → is_command line ≡ command →
        is_touched (cond command (CommandsFrom (command_from t place) ∷ []) (definition_probes line)) (items.Cmd j) ≡ false →
        nth (filter_map command_of with.lines) j ≡ nth (filter_map command_of without.lines) j
    by_command true there k =
        between (λ ls. nth (filter_map command_of ls) j) (commands_front (lines_before t place) (line ∷ back) back j ((or_parts _ _ k).0))
    by_command false there k =
        between (λ ls. nth (filter_map command_of ls) j) (commands_same (lines_before t place) back line j (is_none (command_of line) there))

  -- and all others, to which the line says nothing
  pub line_alike : (i : Item) → is_touched (line_probes t place line) i ≡ false → ask with b i ≡ ask without a i
  line_alike (items.Block k) h = block_alike (is_block line) refl k h
  line_alike (items.After k) h = after_alike (is_block line) refl k h
  line_alike (items.Cmd j) h = command_alike (is_block line) refl j h
  line_alike i h = silent_alike i tt (lines_before t place) back without with a b e.horizon seeds line e.has e.lacks ((by_lines i tt).line t place line h)
