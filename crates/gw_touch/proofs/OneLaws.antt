-- What a statement touches that is inserted or deleted: its probes are of exactly what the cases say.
use Rattle.std.proofs.Common.{◌≡◌, ◌⊎◌, ℕ, Bool, true, false, cond, List, [], ◌∷◌, ◌++◌, All, Option, Some, None, is_some, inl, inr, refl, sym, ap, subst, ◌∙◌, arith}
use Rattle.std.specs.Str.{bytes_eq}
use Rattle.std.proofs.lemmas.Bool.{and_from, and_parts, le-leb}
use Rattle.std.proofs.lemmas.List.Elements.{All-cons, All-head, All-nil, All-tail}
use Rattle.std.proofs.lemmas.Slice.Eq.{bytes_eq-Decides}
use Rattle.gw_meaning.specs.declared.item.Asked.{Asked}
use Rattle.gw_meaning.specs.declared.item.Asked.TheVariants as asking
use Rattle.gw_meaning.specs.declared.item.Item.{Item}
use Rattle.gw_meaning.specs.declared.item.Item.TheVariants as items
use Rattle.gw_meaning.specs.declared.statement.Body.{Body}
use Rattle.gw_meaning.specs.declared.statement.Body.TheVariants as bodies
use Rattle.gw_meaning.specs.declared.statement.Definition.{Definition}
use Rattle.gw_meaning.specs.declared.statement.Definition.TheVariants as definitions
use Rattle.gw_meaning.specs.declared.statement.Numbered.{Numbered}
use Rattle.gw_meaning.specs.Listing.{Listing, block_of_body, command_of_body, definition_of, definition_of_body, is_block, is_command, is_generate, is_generate_body}
use Rattle.gw_touch.specs.declared.touch.Probe.{Probe}
use Rattle.gw_touch.specs.declared.touch.Probe.TheVariants.{One, CommandsFrom}
use Rattle.gw_touch.specs.Touching.{behind, block_before, block_probes, command_from, definition_probes, definition_slot, given, is_touched, label_if, last_block, line_probes, one_if, rest_probes}
use Rattle.gw_touch.specs.Touches.{Answers, answers_amount, answers_argument, answers_curve, answers_expression, answers_units, answers_value, Defines, LastBlock, OfOne, after_front, after_itself, among_generates, commands_from, in_front, itself, own_label, what_is_defined}
use Rattle.gw_touch.proofs.SameItself.{bytes_itself}
use Rattle.gw_touch.proofs.SlotLaws.{behind_in, behind_is, commands_in, first_or_rest, in_first, in_rest, item_itself, item_same, label_in, label_is, only_first, probed_at, wanted_in, wanted_is}

-- ---- the last block in front

abbrev NoBlock : Numbered → Type 0
NoBlock line = is_block line ≡ false

-- after another statement it is the same one
with_first : (line : Numbered) (lines : List Numbered) (number : ℕ) → LastBlock lines number → LastBlock (line ∷ lines) number
with_first line lines number last = record {
  front = line ∷ last.front;
  block = last.block;
  behind = last.behind;
  parts = ap (λ xs. line ∷ xs) last.parts;
  is_one = last.is_one;
  is_last = last.is_last;
  number_is = last.number_is;
}

-- there is one, or none and the search ends as it began
last_or_none : (o : Option ℕ) (lines : List Numbered) (number : ℕ) → last_block o lines ≡ Some number →
    LastBlock lines number ⊎ ((o ≡ Some number) × All NoBlock lines)
last_or_none o [] number h = inr (h, All-nil NoBlock)
last_or_none o (line ∷ lines) number h =
    go (is_block line) refl h (last_or_none (Some line.number) lines number) (last_or_none o lines number)
  where
    go : (b : Bool) → is_block line ≡ b → last_block (cond b (Some line.number) o) lines ≡ Some number →
        (last_block (Some line.number) lines ≡ Some number → LastBlock lines number ⊎ ((Some line.number ≡ Some number) × All NoBlock lines)) →
        (last_block o lines ≡ Some number → LastBlock lines number ⊎ ((o ≡ Some number) × All NoBlock lines)) →
        LastBlock (line ∷ lines) number ⊎ ((o ≡ Some number) × All NoBlock (line ∷ lines))
    go true is k block rest =
        elim (block k) [
          | inl later ↦ inl (with_first line lines number later)
          | inr here ↦
              inl (record {
                front = [];
                block = line;
                behind = lines;
                parts = refl;
                is_one = is;
                is_last = here.1;
                number_is = (let same = here.0 in cc);
              })
        ]
    go false is k block rest =
        elim (rest k) [
          | inl later ↦ inl (with_first line lines number later)
          | inr none ↦ inr (none.0, All-cons NoBlock line lines is none.1)
        ]

pub last_there : (lines : List Numbered) (number : ℕ) → last_block None lines ≡ Some number → LastBlock lines number
last_there lines number h = elim (last_or_none None lines number h) [ inl last ↦ last | inr none ↦ absurd (let k = none.0 in cc) ]

-- the search finds it
none_last : (o : Option ℕ) (lines : List Numbered) → All NoBlock lines → last_block o lines ≡ o
none_last o [] none = refl
none_last o (line ∷ lines) none =
    ap (λ b. last_block (cond b (Some line.number) o) lines) (All-head NoBlock line lines none)
    ∙ none_last o lines (All-tail NoBlock line lines none)

last_found : (o : Option ℕ) (front : List Numbered) (block : Numbered) (back : List Numbered) → is_block block ≡ true → All NoBlock back →
    last_block o (front ++ block ∷ back) ≡ Some block.number
last_found o [] block back is none = ap (λ b. last_block (cond b (Some block.number) o) back) is ∙ none_last (Some block.number) back none
last_found o (line ∷ front) block back is none = last_found (cond (is_block line) (Some line.number) o) front block back is none

pub last_is : (lines : List Numbered) (number : ℕ) → LastBlock lines number → last_block None lines ≡ Some number
last_is lines number last =
    ap (last_block None) last.parts
    ∙ (last_found None last.front last.block last.behind last.is_one last.is_last ∙ ap (λ n. Some n) last.number_is)

-- ---- definitions

-- what is asked of a name is answered by the definition with this label
pub record IsAnswered (label : Option (List ℕ)) (d : Option Definition) (i : Item) : Type 0 where
  pub name : List ℕ
  pub definition : Definition
  pub asked : Asked
  pub label_is : label ≡ Some name
  pub definition_is : d ≡ Some definition
  pub answers : Answers definition asked
  pub item_is : i ≡ items.Named asked name

units_in : (name : List ℕ) (capacity : ℕ) (i : Item) → probed_at (definition_slot (Some name) (Some (definitions.Storage capacity))) i ≡ true →
    IsAnswered (Some name) (Some (definitions.Storage capacity)) i
units_in name capacity (items.Named (asking.Fits units) other) h = record {
  name = name;
  definition = definitions.Storage capacity;
  asked = asking.Fits units;
  label_is = refl;
  definition_is = refl;
  answers = answers_amount capacity units;
  item_is = ap (λ n. items.Named (asking.Fits units) n) (sym ((bytes_eq-Decides name other).0 (and_parts (bytes_eq name other) true h).0));
}
units_in name capacity (items.Named asking.Storage other) h = record {
  name = name;
  definition = definitions.Storage capacity;
  asked = asking.Storage;
  label_is = refl;
  definition_is = refl;
  answers = answers_units capacity;
  item_is = ap (λ n. items.Named asking.Storage n) (sym ((bytes_eq-Decides name other).0 (and_parts (bytes_eq name other) true h).0));
}
units_in name capacity (items.Named asked other) h = absurd (let f = (and_parts (bytes_eq name other) false h).1 in cc)
units_in name capacity i h = absurd cc

of_asked : (name : List ℕ) (d : Definition) (asked : Asked) (i : Item) → Answers d asked → i ≡ items.Named asked name → IsAnswered (Some name) (Some d) i
of_asked name d asked i answers same = record {
  name = name;
  definition = d;
  asked = asked;
  label_is = refl;
  definition_is = refl;
  answers = answers;
  item_is = same;
}

answered_in : (label : Option (List ℕ)) (d : Option Definition) (i : Item) → probed_at (definition_slot label d) i ≡ true → IsAnswered label d i
answered_in None d i h = absurd cc
answered_in (Some name) None i h = absurd cc
answered_in (Some name) (Some (definitions.Storage capacity)) i h = units_in name capacity i h
answered_in (Some name) (Some (definitions.Equ n)) i h =
    of_asked name (definitions.Equ n) asking.Number i (answers_value n) (item_same i (items.Named asking.Number name) h)
answered_in (Some name) (Some (definitions.Variable e)) i h =
    of_asked name (definitions.Variable e) asking.Variable i (answers_expression e) (item_same i (items.Named asking.Variable name) h)
answered_in (Some name) (Some (definitions.Function f)) i h =
    of_asked name (definitions.Function f) asking.Function i (answers_curve f) (item_same i (items.Named asking.Function name) h)
answered_in (Some name) (Some (definitions.Table table)) i h =
    of_asked name (definitions.Table table) asking.Table i (answers_argument table) (item_same i (items.Named asking.Table name) h)

pub answered_is : (name : List ℕ) {d : Definition} {asked : Asked} → Answers d asked →
    probed_at (definition_slot (Some name) (Some d)) (items.Named asked name) ≡ true
answered_is name (answers_amount capacity units) = and_from (bytes_eq name name) true (bytes_itself name) refl
answered_is name (answers_units capacity) = and_from (bytes_eq name name) true (bytes_itself name) refl
answered_is name (answers_value n) = item_itself (items.Named asking.Number name)
answered_is name (answers_expression e) = item_itself (items.Named asking.Variable name)
answered_is name (answers_curve f) = item_itself (items.Named asking.Function name)
answered_is name (answers_argument table) = item_itself (items.Named asking.Table name)

-- ---- what a statement is

defined_body : (body : Body) (d : Definition) → definition_of_body body ≡ Some d → body ≡ bodies.Definition d
defined_body (bodies.Block block) d h = absurd cc
defined_body (bodies.Definition definition) d h = let same : definition ≡ d = cc in ap (λ x. bodies.Definition x) same
defined_body (bodies.Command command) d h = absurd cc

generate_block : (body : Body) → is_generate_body body ≡ true → is_some (block_of_body body) ≡ true
generate_block (bodies.Block block) h = refl
generate_block (bodies.Definition definition) h = absurd cc
generate_block (bodies.Command command) h = absurd cc

command_block : (body : Body) → is_some (command_of_body body) ≡ true → is_some (block_of_body body) ≡ false
command_block (bodies.Block block) h = absurd cc
command_block (bodies.Definition definition) h = absurd cc
command_block (bodies.Command command) h = refl

pub defines_of : (line : Numbered) (name : List ℕ) (d : Definition) → line.statement.label ≡ Some name → definition_of line ≡ Some d → Defines line name d
defines_of line name d label is = record { label = label; body = defined_body line.statement.body d is }

pub no_block_defines : (line : Numbered) (name : List ℕ) (d : Definition) → Defines line name d → is_block line ≡ false
no_block_defines line name d is = ap (λ b. is_some (block_of_body b)) is.body

pub no_command_defines : (line : Numbered) (name : List ℕ) (d : Definition) → Defines line name d → is_command line ≡ false
no_command_defines line name d is = ap (λ b. is_some (command_of_body b)) is.body

pub definition_is : (line : Numbered) (name : List ℕ) (d : Definition) → Defines line name d → definition_of line ≡ Some d
definition_is line name d is = ap definition_of_body is.body

-- ---- a statement that is inserted or deleted

module _ (t : Listing) (place : ℕ) (line : Numbered) where
  -- the slots of a block from the second, third, fourth and fifth on
  abbrev last_slots : List (Option Probe)
  last_slots = label_if true line.statement.label ∷ []

  abbrev fourth_slots : List (Option Probe)
  fourth_slots = one_if (is_generate line) items.Generates ∷ last_slots

  abbrev third_slots : List (Option Probe)
  third_slots = Some (One (items.After line.number)) ∷ fourth_slots

  abbrev second_slots : List (Option Probe)
  second_slots = Some (One (items.Block line.number)) ∷ third_slots

  block_in : is_block line ≡ true → (i : Item) → is_touched (block_probes t place line) i ≡ true → OfOne t place line i
  block_in is i h = front (first_or_rest (behind (block_before t place)) second_slots i h) where
    last : is_touched (given last_slots) i ≡ true → OfOne t place line i
    last k =
        let own = label_in true line.statement.label i (only_first (label_if true line.statement.label) i k) in
        subst (OfOne t place line) (sym own.3) (own_label own.0 is own.2)

    fourth : (probed_at (one_if (is_generate line) items.Generates) i ≡ true) ⊎ (is_touched (given last_slots) i ≡ true) → OfOne t place line i
    fourth (inl k) =
        let parts = wanted_in (is_generate line) items.Generates i k in
        subst (OfOne t place line) (sym (item_same i items.Generates parts.1)) (among_generates parts.0)
    fourth (inr k) = last k

    third : (probed_at (Some (One (items.After line.number))) i ≡ true) ⊎ (is_touched (given fourth_slots) i ≡ true) → OfOne t place line i
    third (inl k) = subst (OfOne t place line) (sym (item_same i (items.After line.number) k)) (after_itself is)
    third (inr k) = fourth (first_or_rest (one_if (is_generate line) items.Generates) last_slots i k)

    second : (probed_at (Some (One (items.Block line.number))) i ≡ true) ⊎ (is_touched (given third_slots) i ≡ true) → OfOne t place line i
    second (inl k) = subst (OfOne t place line) (sym (item_same i (items.Block line.number) k)) (itself is)
    second (inr k) = third (first_or_rest (Some (One (items.After line.number))) fourth_slots i k)

    front : (probed_at (behind (block_before t place)) i ≡ true) ⊎ (is_touched (given second_slots) i ≡ true) → OfOne t place line i
    front (inl k) =
        let before = behind_in (block_before t place) i k in
        subst (OfOne t place line) (sym before.2) (after_front before.0 is (last_there (in_front t place) before.0 before.1))
    front (inr k) = second (first_or_rest (Some (One (items.Block line.number))) third_slots i k)

  rest_in : (i : Item) → is_touched (rest_probes t place line) i ≡ true → OfOne t place line i
  rest_in i h = go (is_command line) refl h where
    go : (b : Bool) → is_command line ≡ b → is_touched (cond b (CommandsFrom (command_from t place) ∷ []) (definition_probes line)) i ≡ true →
        OfOne t place line i
    go true is k =
        let from = commands_in (command_from t place) i k in
        let least = from.1 in
        subst (OfOne t place line) (sym from.2) (commands_from from.0 is (omega (arith, least)))
    go false is k =
        let slot = definition_slot line.statement.label (definition_of line) in
        let a = answered_in line.statement.label (definition_of line) i (only_first slot i k) in
        subst (OfOne t place line) (sym a.item_is)
        (what_is_defined a.name a.definition a.asked (defines_of line a.name a.definition a.label_is a.definition_is) a.answers)

  pub one_in : (i : Item) → is_touched (line_probes t place line) i ≡ true → OfOne t place line i
  one_in i h = go (is_block line) refl h where
    go : (b : Bool) → is_block line ≡ b → is_touched (cond b (block_probes t place line) (rest_probes t place line)) i ≡ true → OfOne t place line i
    go true is k = block_in is i k
    go false is k = rest_in i k

  -- and of each of these
  of_block : (i : Item) → is_block line ≡ true → is_touched (block_probes t place line) i ≡ true → is_touched (line_probes t place line) i ≡ true
  of_block i is h = ap (λ b. is_touched (cond b (block_probes t place line) (rest_probes t place line)) i) is ∙ h

  of_rest : (i : Item) → is_block line ≡ false → is_touched (rest_probes t place line) i ≡ true → is_touched (line_probes t place line) i ≡ true
  of_rest i is h = ap (λ b. is_touched (cond b (block_probes t place line) (rest_probes t place line)) i) is ∙ h

  pub one_is : {i : Item} → OfOne t place line i → is_touched (line_probes t place line) i ≡ true
  one_is (after_front number is last) =
      of_block (items.After number) is
      (in_first (behind (block_before t place)) second_slots (items.After number)
      (behind_is (block_before t place) number (last_is (in_front t place) number last)))
  one_is (itself is) =
      let item = items.Block line.number in
      of_block item is
      (in_rest (behind (block_before t place)) second_slots item (in_first (Some (One item)) third_slots item (item_itself item)))
  one_is (after_itself is) =
      let item = items.After line.number in
      of_block item is
      (in_rest (behind (block_before t place)) second_slots item
      (in_rest (Some (One (items.Block line.number))) third_slots item (in_first (Some (One item)) fourth_slots item (item_itself item))))
  one_is (among_generates is) =
      let item = items.Generates in
      of_block item (generate_block line.statement.body is)
      (in_rest (behind (block_before t place)) second_slots item
      (in_rest (Some (One (items.Block line.number))) third_slots item
      (in_rest (Some (One (items.After line.number))) fourth_slots item
      (in_first (one_if (is_generate line) item) last_slots item (wanted_is (is_generate line) item item is refl)))))
  one_is (own_label name is named) =
      let item = items.Named asking.Label name in
      of_block item is
      (in_rest (behind (block_before t place)) second_slots item
      (in_rest (Some (One (items.Block line.number))) third_slots item
      (in_rest (Some (One (items.After line.number))) fourth_slots item
      (in_rest (one_if (is_generate line) items.Generates) last_slots item
      (in_first (label_if true line.statement.label) [] item (label_is true line.statement.label name refl named))))))
  one_is (commands_from i is behind_front) =
      of_rest (items.Cmd i) (command_block line.statement.body is)
      (ap (λ b. is_touched (cond b (CommandsFrom (command_from t place) ∷ []) (definition_probes line)) (items.Cmd i)) is
      ∙ in_first (Some (CommandsFrom (command_from t place))) [] (items.Cmd i) (le-leb (command_from t place) i (omega (arith, behind_front))))
  one_is (what_is_defined name d asked defines answers) =
      let item = items.Named asked name in
      of_rest item (no_block_defines line name d defines)
      (ap (λ b. is_touched (cond b (CommandsFrom (command_from t place) ∷ []) (definition_probes line)) item) (no_command_defines line name d defines)
      ∙ in_first (definition_slot line.statement.label (definition_of line)) [] item
      (rw (defines.label, definition_is line name d defines) (answered_is name answers)))
