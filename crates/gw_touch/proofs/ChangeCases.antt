-- What a statement touches that takes the place of another: its probes are of exactly what the cases say.
use Rattle.std.proofs.Common.{◌≡◌, ◌≢◌, ◌⊎◌, ℕ, ℤ, ◌==◌, ◌&&◌, ◌||◌, Bool, true, false, cond, not, List, [], ◌∷◌, ◌++◌, Option, Some, None, nat_le, is_some, inl, inr, refl, sym, ap, ap₂, subst, ◌∙◌}
use Rattle.std.specs.Ordering.{int_eq}
use Rattle.std.specs.Str.{bytes_eq}
use Rattle.std.proofs.lemmas.Bool.{and_from, and_left, and_parts, both_ways, eqb-false, le-leb, leb-false, leb-true, lt-leb, ne_eqb, not-true, not_from_false, or_cases, or_left, or_right, false_from_ne_true}
use Rattle.std.proofs.lemmas.Bool.Decides.{Decides-int_eq}
use Rattle.std.proofs.lemmas.Slice.Eq.{bytes_eq-Decides}
use Rattle.gw_expr.specs.Term.{Term}
use Rattle.gw_expr.specs.declared.function.Function.{Function}
use Rattle.gw_meaning.specs.declared.item.Asked.{Asked}
use Rattle.gw_meaning.specs.declared.item.Asked.TheVariants as asking
use Rattle.gw_meaning.specs.declared.item.Item.{Item}
use Rattle.gw_meaning.specs.declared.item.Item.TheVariants as items
use Rattle.gw_meaning.specs.declared.statement.Body.TheVariants as bodies
use Rattle.gw_meaning.specs.declared.statement.Definition.{Definition}
use Rattle.gw_meaning.specs.declared.statement.Definition.TheVariants as definitions
use Rattle.gw_meaning.specs.declared.statement.Numbered.{Numbered}
use Rattle.gw_meaning.specs.declared.statement.Statement.{Statement}
use Rattle.gw_meaning.specs.Listing.{Listing, block_of_body, definition_of, is_block, is_generate}
use Rattle.gw_meaning.specs.Statements.{verb_of_definition}
use Rattle.gw_uses.specs.Asks.{differs, is_other}
use Rattle.gw_touch.specs.declared.touch.Probe.{Probe}
use Rattle.gw_touch.specs.declared.touch.Probe.TheVariants.{Amounts}
use Rattle.gw_touch.specs.Same.{same_first, same_function, same_label, same_statement, same_term}
use Rattle.gw_touch.specs.Touching.{block_change, change_slots, given, is_touched, label_if, label_slots, line_probes, one_if, one_name, other_change, same_argument, same_curve, same_expression, same_number, splice_probes}
use Rattle.gw_touch.specs.Touches.{Defines, Differ, HoldsInOne, in_the_first, in_the_second, OfChange, as_deleted, as_inserted, changed_block, changed_definition, changed_generates, new_label, old_label, OfTwo, other_amount, other_argument, other_curve, other_expression, other_units, other_value, OneKind, two_blocks, two_definitions}
use Rattle.gw_touch.proofs.OneLaws.{defines_of, definition_is, no_block_defines, one_in, one_is}
use Rattle.gw_touch.proofs.SameBlocks.{function_same, label_same, statement_same, term_same}
use Rattle.gw_touch.proofs.SameItself.{bytes_itself, first_same, function_itself, one_first, one_label, one_statement, term_itself}
use Rattle.gw_touch.proofs.SlotLaws.{first_or_rest, in_first, in_rest, item_itself, item_same, label_in, label_is, only_first, probed_at, touched_both, touched_left, touched_right, wanted_in, wanted_is}

-- ---- two blocks

-- two statements are not the same exactly where they differ, and so are two labels
other_in : (s s' : Statement) → is_some (block_of_body s.body) ≡ true → not (same_statement s s') ≡ true → Differ s s'
other_in s s' is h e = both_ways (same_statement s s') (not-true (same_statement s s') h) (one_statement s s' is e.0 e.1)

operands_same : (s s' : Statement) → same_statement s s' ≡ true → s.operands ≡ s'.operands
operands_same s s' h = (bytes_eq-Decides s.operands s'.operands).0 (and_parts (bytes_eq s.operands s'.operands) _ h).0

other_is : (s s' : Statement) → Differ s s' → not (same_statement s s') ≡ true
other_is s s' differ =
    not_from_false (same_statement s s')
    (false_from_ne_true (same_statement s s') (λ h. differ (operands_same s s' h, statement_same s s' h)))

label_other : (a b : Option (List ℕ)) → not (same_label a b) ≡ true → a ≢ b
label_other a b h e = both_ways (same_label a b) (not-true (same_label a b) h) (one_label a b e)

other_label : (a b : Option (List ℕ)) → a ≢ b → not (same_label a b) ≡ true
other_label a b h = not_from_false (same_label a b) (false_from_ne_true (same_label a b) (λ e. h (label_same a b e)))

module _ (t : Listing) (place : ℕ) (old new : Numbered) where
  -- whether the two differ, and whether their labels do
  abbrev other : Bool
  other = not (same_statement old.statement new.statement)

  abbrev renamed : Bool
  renamed = not (same_label old.statement.label new.statement.label)

  -- the slots after the first
  abbrev block_rest : List (Option Probe)
  block_rest = one_if (other && (is_generate old || is_generate new)) items.Generates ∷ []

  abbrev label_rest : List (Option Probe)
  label_rest = label_if renamed new.statement.label ∷ []

  blocks_in : is_block old ≡ true → is_block new ≡ true → (i : Item) → is_touched (block_change old new) i ≡ true → OfChange t place old new i
  blocks_in was is i h =
      elim (touched_both (given (change_slots other old new)) (given (label_slots renamed old new)) i h) [ inl k ↦ themselves k | inr k ↦ labels k ]
    where
      themselves : is_touched (given (change_slots other old new)) i ≡ true → OfChange t place old new i
      themselves k =
          elim (first_or_rest (one_if other (items.Block old.number)) block_rest i k) [
            | inl k ↦
                let parts = wanted_in other (items.Block old.number) i k in
                subst (OfChange t place old new) (sym (item_same i (items.Block old.number) parts.1))
                (changed_block was is (other_in old.statement new.statement was parts.0))
            | inr k ↦
                let slot = one_if (other && (is_generate old || is_generate new)) items.Generates in
                let parts = wanted_in (other && (is_generate old || is_generate new)) items.Generates i (only_first slot i k) in
                let both = and_parts other (is_generate old || is_generate new) parts.0 in
                subst (OfChange t place old new) (sym (item_same i items.Generates parts.1))
                (changed_generates was is (other_in old.statement new.statement was both.0) (or_cases (is_generate old) (is_generate new) both.1))
          ]

      labels : is_touched (given (label_slots renamed old new)) i ≡ true → OfChange t place old new i
      labels k =
          elim (first_or_rest (label_if renamed old.statement.label) label_rest i k) [
            | inl k ↦
                let one = label_in renamed old.statement.label i k in
                subst (OfChange t place old new) (sym one.3)
                (old_label one.0 was is (label_other old.statement.label new.statement.label one.1) one.2)
            | inr k ↦
                let slot = label_if renamed new.statement.label in
                let one = label_in renamed new.statement.label i (only_first slot i k) in
                subst (OfChange t place old new) (sym one.3)
                (new_label one.0 was is (label_other old.statement.label new.statement.label one.1) one.2)
          ]

  -- each of these cases
  blocks_change : (i : Item) → is_block old ≡ true → is_block new ≡ true → is_touched (block_change old new) i ≡ true →
      is_touched (splice_probes t place (Some old) (Some new)) i ≡ true
  blocks_change i was is h =
      ap (λ b. is_touched (cond b (block_change old new)
      (other_change (one_name old.statement.label new.statement.label) (definition_of old) (definition_of new) t place old new)) i)
      (and_from (is_block old) (is_block new) was is)
      ∙ h

  in_themselves : (i : Item) → is_touched (given (change_slots other old new)) i ≡ true → is_touched (block_change old new) i ≡ true
  in_themselves i h = touched_left (given (change_slots other old new)) (given (label_slots renamed old new)) i h

  in_labels : (i : Item) → is_touched (given (label_slots renamed old new)) i ≡ true → is_touched (block_change old new) i ≡ true
  in_labels i h = touched_right (given (change_slots other old new)) (given (label_slots renamed old new)) i h

  block_is : is_block old ≡ true → is_block new ≡ true → Differ old.statement new.statement →
      is_touched (splice_probes t place (Some old) (Some new)) (items.Block old.number) ≡ true
  block_is was is differ =
      let item = items.Block old.number in
      blocks_change item was is
      (in_themselves item
      (in_first (one_if other item) block_rest item (wanted_is other item item (other_is old.statement new.statement differ) (item_itself item))))

  generates_is : is_block old ≡ true → is_block new ≡ true → Differ old.statement new.statement → (is_generate old ≡ true) ⊎ (is_generate new ≡ true) →
      is_touched (splice_probes t place (Some old) (Some new)) items.Generates ≡ true
  generates_is was is differ one =
      let either : (is_generate old || is_generate new) ≡ true =
      elim one [ inl h ↦ or_left (is_generate old) (is_generate new) h | inr h ↦ or_right (is_generate old) (is_generate new) h ] in
      let wanted = and_from other (is_generate old || is_generate new) (other_is old.statement new.statement differ) either in
      blocks_change items.Generates was is
      (in_themselves items.Generates
      (in_rest (one_if other (items.Block old.number)) block_rest items.Generates
      (in_first (one_if (other && (is_generate old || is_generate new)) items.Generates) [] items.Generates
      (wanted_is (other && (is_generate old || is_generate new)) items.Generates items.Generates wanted refl))))

  old_label_is : (name : List ℕ) → is_block old ≡ true → is_block new ≡ true → old.statement.label ≢ new.statement.label →
      old.statement.label ≡ Some name → is_touched (splice_probes t place (Some old) (Some new)) (items.Named asking.Label name) ≡ true
  old_label_is name was is differ named =
      let item = items.Named asking.Label name in
      blocks_change item was is
      (in_labels item
      (in_first (label_if renamed old.statement.label) label_rest item
      (label_is renamed old.statement.label name (other_label old.statement.label new.statement.label differ) named)))

  new_label_is : (name : List ℕ) → is_block old ≡ true → is_block new ≡ true → old.statement.label ≢ new.statement.label →
      new.statement.label ≡ Some name → is_touched (splice_probes t place (Some old) (Some new)) (items.Named asking.Label name) ≡ true
  new_label_is name was is differ named =
      let item = items.Named asking.Label name in
      blocks_change item was is
      (in_labels item
      (in_rest (label_if renamed old.statement.label) label_rest item
      (in_first (label_if renamed new.statement.label) [] item
      (label_is renamed new.statement.label name (other_label old.statement.label new.statement.label differ) named))))

-- ---- two definitions of one name and verb

-- just one of two capacities holds an amount exactly where they answer it in two ways
one_holds : (from to units : ℕ) → differs (Some from) (Some to) units ≡ true → HoldsInOne from to units
one_holds from to units h = go (nat_le units from) refl (nat_le units to) refl h where
  go : (p : Bool) → nat_le units from ≡ p → (q : Bool) → nat_le units to ≡ q → cond p (not q) q ≡ true → HoldsInOne from to units
  go true is true are k = absurd cc
  go true is false are k = in_the_first (leb-true units from is) (leb-false units to are)
  go false is true are k = in_the_second (leb-false units from is) (leb-true units to are)
  go false is false are k = absurd cc

differ_there : {from to units : ℕ} → HoldsInOne from to units → differs (Some from) (Some to) units ≡ true
differ_there {from} {to} {units} (in_the_first within less) =
    ap₂ (λ p q. cond p (not q) q) (le-leb units from within) (lt-leb units to less)
differ_there {from} {to} {units} (in_the_second less within) =
    ap₂ (λ p q. cond p (not q) q) (lt-leb units from less) (le-leb units to within)

-- what is asked of a name is told apart by two definitions
pub record IsOfTwo (old new : Statement) (name : List ℕ) (d e : Definition) (i : Item) : Type 0 where
  pub asked : Asked
  pub two : OfTwo old new d e asked
  pub item_is : i ≡ items.Named asked name

units_in : (old new : Statement) (name : List ℕ) (from to : ℕ) (i : Item) → probed_at (Some (Amounts name (Some from) (Some to))) i ≡ true →
    IsOfTwo old new name (definitions.Storage from) (definitions.Storage to) i
units_in old new name from to (items.Named (asking.Fits units) other) h =
    let parts = and_parts (bytes_eq name other) (differs (Some from) (Some to) units) h in
    record {
      asked = asking.Fits units;
      two = other_amount from to units (one_holds from to units parts.1);
      item_is = ap (λ n. items.Named (asking.Fits units) n) (sym ((bytes_eq-Decides name other).0 parts.0));
    }
units_in old new name from to (items.Named asking.Storage other) h =
    let parts = and_parts (bytes_eq name other) (is_other (Some from) (Some to)) h in
    record {
      asked = asking.Storage;
      two = other_units from to (eqb-false from to (not-true (from == to) parts.1));
      item_is = ap (λ n. items.Named asking.Storage n) (sym ((bytes_eq-Decides name other).0 parts.0));
    }
units_in old new name from to (items.Named asked other) h = absurd (let f = (and_parts (bytes_eq name other) false h).1 in cc)
units_in old new name from to i h = absurd cc

-- where the two are written and read alike, they do not differ
abbrev IsNot : Bool → Bool → Type 0
IsNot written read = not (written && read) ≡ true

apart : (written read : Bool) → IsNot written read → written ≡ true → read ≡ true → ⊥
apart written read h w r = both_ways (written && read) (not-true (written && read) h) (and_from written read w r)

is_apart : (written read : Bool) → (written ≡ true → read ≡ true → ⊥) → IsNot written read
is_apart written read h =
    not_from_false (written && read) (false_from_ne_true (written && read) (λ k. let parts = and_parts written read k in h parts.0 parts.1))

module _ (old new : Statement) (d e : Definition) (was : old.body ≡ bodies.Definition d) (is : new.body ≡ bodies.Definition e) where
  -- two bodies that are one are one definition
  one_body : old.body ≡ new.body → d ≡ e
  one_body same = let bodies_one : bodies.Definition d ≡ bodies.Definition e = sym was ∙ (same ∙ is) in cc

  differ_in : (read : Bool) → IsNot (bytes_eq old.operands new.operands) read → (d ≡ e → read ≡ true) → Differ old new
  differ_in read h one both =
      apart (bytes_eq old.operands new.operands) read h ((bytes_eq-Decides old.operands new.operands).1 both.0) (one (one_body both.1))

  differ_is : (read : Bool) → Differ old new → (read ≡ true → d ≡ e) → IsNot (bytes_eq old.operands new.operands) read
  differ_is read differ one =
      is_apart (bytes_eq old.operands new.operands) read
      (λ w r. differ ((bytes_eq-Decides old.operands new.operands).0 w, was ∙ (ap (λ x. bodies.Definition x) (one r) ∙ sym is)))

-- two that are of one verb, told by what they are
abbrev pub AreOne : Option (List ℕ) → Option Definition → Option Definition → Type 0
AreOne (Some name) (Some (definitions.Storage from)) (Some (definitions.Storage to)) = Unit {0}
AreOne (Some name) (Some (definitions.Equ m)) (Some (definitions.Equ n)) = Unit {0}
AreOne (Some name) (Some (definitions.Variable d)) (Some (definitions.Variable e)) = Unit {0}
AreOne (Some name) (Some (definitions.Function f)) (Some (definitions.Function g)) = Unit {0}
AreOne (Some name) (Some (definitions.Table f)) (Some (definitions.Table g)) = Unit {0}
AreOne name d e = ⊥

one_or_not : (o : Option (List ℕ)) (d e : Option Definition) → AreOne o d e ⊎ (AreOne o d e → ⊥)
one_or_not (Some name) (Some (definitions.Storage from)) (Some (definitions.Storage to)) = inl tt
one_or_not (Some name) (Some (definitions.Equ m)) (Some (definitions.Equ n)) = inl tt
one_or_not (Some name) (Some (definitions.Variable d)) (Some (definitions.Variable e)) = inl tt
one_or_not (Some name) (Some (definitions.Function f)) (Some (definitions.Function g)) = inl tt
one_or_not (Some name) (Some (definitions.Table f)) (Some (definitions.Table g)) = inl tt
one_or_not name d e = inr (λ h. h)

one_verb : (name : List ℕ) (d e : Definition) → verb_of_definition d ≡ verb_of_definition e → AreOne (Some name) (Some d) (Some e)
one_verb name (definitions.Storage from) (definitions.Storage to) h = tt
one_verb name (definitions.Equ m) (definitions.Equ n) h = tt
one_verb name (definitions.Variable d) (definitions.Variable e) h = tt
one_verb name (definitions.Function f) (definitions.Function g) h = tt
one_verb name (definitions.Table f) (definitions.Table g) h = tt
one_verb name d e h = absurd cc

-- what two of one verb say is of one verb
verbs_one : (name : List ℕ) (d e : Definition) → AreOne (Some name) (Some d) (Some e) → verb_of_definition d ≡ verb_of_definition e
verbs_one name (definitions.Storage from) (definitions.Storage to) h = refl
verbs_one name (definitions.Equ m) (definitions.Equ n) h = refl
verbs_one name (definitions.Variable d) (definitions.Variable e) h = refl
verbs_one name (definitions.Function f) (definitions.Function g) h = refl
verbs_one name (definitions.Table f) (definitions.Table g) h = refl
verbs_one name d e h = absurd h

equ_one : (m n : ℤ) → definitions.Equ m ≡ definitions.Equ n → m ≡ n
equ_one m n h = cc

variable_one : (x y : Term) → definitions.Variable x ≡ definitions.Variable y → x ≡ y
variable_one x y h = cc

function_one : (f g : Function) → definitions.Function f ≡ definitions.Function g → f ≡ g
function_one f g h = cc

-- two of one verb have a name, and both are there
record IsPair (o : Option (List ℕ)) (d e : Option Definition) : Type 0 where
  name : List ℕ
  first : Definition
  second : Definition
  name_is : o ≡ Some name
  first_is : d ≡ Some first
  second_is : e ≡ Some second
  one : AreOne (Some name) (Some first) (Some second)

no_second : (name : List ℕ) (d : Definition) → AreOne (Some name) (Some d) None → ⊥
no_second name (definitions.Storage from) h = h
no_second name (definitions.Equ m) h = h
no_second name (definitions.Variable d) h = h
no_second name (definitions.Function f) h = h
no_second name (definitions.Table f) h = h

pair_of : (o : Option (List ℕ)) (d e : Option Definition) → AreOne o d e → IsPair o d e
pair_of None d e one = absurd one
pair_of (Some name) None e one = absurd one
pair_of (Some name) (Some d) None one = absurd (no_second name d one)
pair_of (Some name) (Some d) (Some e) one =
    record { name = name; first = d; second = e; name_is = refl; first_is = refl; second_is = refl; one = one }

-- two names that are one
names_are : (a b : Option (List ℕ)) (name : List ℕ) → one_name a b ≡ Some name → (a ≡ Some name) × (b ≡ Some name)
names_are None b name h = absurd cc
names_are (Some x) None name h = absurd cc
names_are (Some x) (Some y) name h = go (bytes_eq x y) refl h where
  go : (same : Bool) → bytes_eq x y ≡ same → cond same (Some x) None ≡ Some name → (Some x ≡ Some name) × (Some y ≡ Some name)
  go true is k = (k, ap (λ z. Some z) (sym ((bytes_eq-Decides x y).0 is)) ∙ k)
  go false is k = absurd cc

one_name_is : (a b : Option (List ℕ)) (name : List ℕ) → a ≡ Some name → b ≡ Some name → one_name a b ≡ Some name
one_name_is a b name p q = rw (p, q, bytes_itself name) refl

module _ (t : Listing) (place : ℕ) (old new : Numbered) where
  abbrev changes : Option (List ℕ) → Option Definition → Option Definition → List Probe
  changes o d e = other_change o d e t place old new

  -- what is not of one verb touches what the deleted one does, and the inserted one
  apart_change : (o : Option (List ℕ)) (d e : Option Definition) → (AreOne o d e → ⊥) → changes o d e ≡ line_probes t place old ++ line_probes t place new
  apart_change (Some name) (Some (definitions.Storage from)) (Some (definitions.Storage to)) h = absurd (h tt)
  apart_change (Some name) (Some (definitions.Equ m)) (Some (definitions.Equ n)) h = absurd (h tt)
  apart_change (Some name) (Some (definitions.Variable d)) (Some (definitions.Variable e)) h = absurd (h tt)
  apart_change (Some name) (Some (definitions.Function f)) (Some (definitions.Function g)) h = absurd (h tt)
  apart_change (Some name) (Some (definitions.Table f)) (Some (definitions.Table g)) h = absurd (h tt)
  apart_change o d e h = refl

  -- two of one verb touch what is asked of their name
  two_in : (name : List ℕ) (d e : Definition) → AreOne (Some name) (Some d) (Some e) → Defines old name d → Defines new name e → (i : Item) →
      is_touched (changes (Some name) (Some d) (Some e)) i ≡ true → IsOfTwo old.statement new.statement name d e i
  two_in name (definitions.Storage from) (definitions.Storage to) one was is i h =
      units_in old.statement new.statement name from to i (only_first (Some (Amounts name (Some from) (Some to))) i h)
  two_in name (definitions.Equ m) (definitions.Equ n) one was is i h =
      let item = items.Named asking.Number name in
      let wanted = not (same_number old.statement new.statement m n) in
      let parts = wanted_in wanted item i (only_first (one_if wanted item) i h) in
      record {
        asked = asking.Number;
        two = other_value m n
            (differ_in old.statement new.statement (definitions.Equ m) (definitions.Equ n) was.body is.body (int_eq m n) parts.0
            (λ same. (Decides-int_eq m n).1 (equ_one m n same)));
        item_is = item_same i item parts.1;
      }
  two_in name (definitions.Variable x) (definitions.Variable y) one was is i h =
      let item = items.Named asking.Variable name in
      let wanted = not (same_expression old.statement new.statement x y) in
      let parts = wanted_in wanted item i (only_first (one_if wanted item) i h) in
      record {
        asked = asking.Variable;
        two = other_expression x y
            (differ_in old.statement new.statement (definitions.Variable x) (definitions.Variable y) was.body is.body (same_term x y) parts.0
            (λ same. subst (λ (z : Term). same_term x z ≡ true) (variable_one x y same) (term_itself x)));
        item_is = item_same i item parts.1;
      }
  two_in name (definitions.Function f) (definitions.Function g) one was is i h =
      let item = items.Named asking.Function name in
      let wanted = not (same_curve old.statement new.statement f g) in
      let parts = wanted_in wanted item i (only_first (one_if wanted item) i h) in
      record {
        asked = asking.Function;
        two = other_curve f g
            (differ_in old.statement new.statement (definitions.Function f) (definitions.Function g) was.body is.body (same_function f g) parts.0
            (λ same. subst (λ (z : Function). same_function f z ≡ true) (function_one f g same) (function_itself f)));
        item_is = item_same i item parts.1;
      }
  two_in name (definitions.Table f) (definitions.Table g) one was is i h =
      let item = items.Named asking.Table name in
      let wanted = not (same_argument old.statement new.statement f.argument g.argument) in
      let parts = wanted_in wanted item i (only_first (one_if wanted item) i h) in
      record {
        asked = asking.Table;
        two = other_argument f g
            (λ both. apart (same_first old.statement.operands new.statement.operands) (same_term f.argument g.argument) parts.0
            (one_first old.statement.operands new.statement.operands both.0)
            (subst (λ (z : Term). same_term f.argument z ≡ true) both.1 (term_itself f.argument)));
        item_is = item_same i item parts.1;
      }
  two_in name d e one was is i h = absurd one

  two_is : (name : List ℕ) (d e : Definition) (asked : Asked) → Defines old name d → Defines new name e → OfTwo old.statement new.statement d e asked →
      is_touched (changes (Some name) (Some d) (Some e)) (items.Named asked name) ≡ true
  two_is name _ _ _ was is (other_amount from to units holds) =
      in_first (Some (Amounts name (Some from) (Some to))) [] (items.Named (asking.Fits units) name)
      (and_from (bytes_eq name name) (differs (Some from) (Some to) units) (bytes_itself name) (differ_there holds))
  two_is name _ _ _ was is (other_units from to differ) =
      in_first (Some (Amounts name (Some from) (Some to))) [] (items.Named asking.Storage name)
      (and_from (bytes_eq name name) (is_other (Some from) (Some to)) (bytes_itself name) (not_from_false (from == to) (ne_eqb from to differ)))
  two_is name _ _ _ was is (other_value m n differ) =
      let item = items.Named asking.Number name in
      let wanted = not (same_number old.statement new.statement m n) in
      in_first (one_if wanted item) [] item
      (wanted_is wanted item item
      (differ_is old.statement new.statement (definitions.Equ m) (definitions.Equ n) was.body is.body (int_eq m n) differ
      (λ r. ap (λ k. definitions.Equ k) ((Decides-int_eq m n).0 r)))
      (item_itself item))
  two_is name _ _ _ was is (other_expression x y differ) =
      let item = items.Named asking.Variable name in
      let wanted = not (same_expression old.statement new.statement x y) in
      in_first (one_if wanted item) [] item
      (wanted_is wanted item item
      (differ_is old.statement new.statement (definitions.Variable x) (definitions.Variable y) was.body is.body (same_term x y) differ
      (λ r. ap (λ k. definitions.Variable k) (term_same x y r)))
      (item_itself item))
  two_is name _ _ _ was is (other_curve f g differ) =
      let item = items.Named asking.Function name in
      let wanted = not (same_curve old.statement new.statement f g) in
      in_first (one_if wanted item) [] item
      (wanted_is wanted item item
      (differ_is old.statement new.statement (definitions.Function f) (definitions.Function g) was.body is.body (same_function f g) differ
      (λ r. ap (λ k. definitions.Function k) (function_same f g r)))
      (item_itself item))
  two_is name _ _ _ was is (other_argument f g differ) =
      let item = items.Named asking.Table name in
      let written = same_first old.statement.operands new.statement.operands in
      let wanted = not (same_argument old.statement new.statement f.argument g.argument) in
      in_first (one_if wanted item) [] item
      (wanted_is wanted item item
      (is_apart written (same_term f.argument g.argument)
      (λ w r. differ (first_same old.statement.operands new.statement.operands w, term_same f.argument g.argument r)))
      (item_itself item))

  -- ---- any two

  -- two of one verb by what they are told to be
  of_one_verb : AreOne (one_name old.statement.label new.statement.label) (definition_of old) (definition_of new) → OneKind old new
  of_one_verb one =
      let p = pair_of (one_name old.statement.label new.statement.label) (definition_of old) (definition_of new) one in
      let names = names_are old.statement.label new.statement.label p.name p.name_is in
      two_definitions p.name p.first p.second (defines_of old p.name p.first names.0 p.first_is) (defines_of new p.name p.second names.1 p.second_is)
      (verbs_one p.name p.first p.second p.one)

  not_one_verb : (OneKind old new → ⊥) → AreOne (one_name old.statement.label new.statement.label) (definition_of old) (definition_of new) → ⊥
  not_one_verb none one = none (of_one_verb one)

  -- what is of one kind is two blocks, or of one verb
  one_kind : (is_block old && is_block new) ≡ false →
      (AreOne (one_name old.statement.label new.statement.label) (definition_of old) (definition_of new) → ⊥) → OneKind old new → ⊥
  one_kind none unlike (two_blocks was is) = both_ways (is_block old && is_block new) none (and_from (is_block old) (is_block new) was is)
  one_kind none unlike (two_definitions name d e was is verbs) =
      unlike (rw (one_name_is old.statement.label new.statement.label name was.label is.label, definition_is old name d was, definition_is new name e is)
      (one_verb name d e verbs))

  others_in : (is_block old && is_block new) ≡ false → (i : Item) →
      is_touched (changes (one_name old.statement.label new.statement.label) (definition_of old) (definition_of new)) i ≡ true → OfChange t place old new i
  others_in none i h =
      elim (one_or_not (one_name old.statement.label new.statement.label) (definition_of old) (definition_of new)) [
        | inl one ↦
            let p = pair_of (one_name old.statement.label new.statement.label) (definition_of old) (definition_of new) one in
            let names = names_are old.statement.label new.statement.label p.name p.name_is in
            let was = defines_of old p.name p.first names.0 p.first_is in
            let is = defines_of new p.name p.second names.1 p.second_is in
            let k = subst (λ (o : Option (List ℕ)). is_touched (changes o (definition_of old) (definition_of new)) i ≡ true) p.name_is h in
            let l = subst (λ (d : Option Definition). is_touched (changes (Some p.name) d (definition_of new)) i ≡ true) p.first_is k in
            let m = subst (λ (e : Option Definition). is_touched (changes (Some p.name) (Some p.first) e) i ≡ true) p.second_is l in
            let two = two_in p.name p.first p.second p.one was is i m in
            subst (OfChange t place old new) (sym two.item_is) (changed_definition p.name p.first p.second two.asked was is two.two)
        | inr unlike ↦
            let k : is_touched (line_probes t place old ++ line_probes t place new) i ≡ true =
            ap (λ ps. is_touched ps i)
            (sym (apart_change (one_name old.statement.label new.statement.label) (definition_of old) (definition_of new) unlike)) ∙ h in
            elim (touched_both (line_probes t place old) (line_probes t place new) i k) [
              | inl gone ↦ as_deleted i (one_kind none unlike) (one_in t place old i gone)
              | inr come ↦ as_inserted i (one_kind none unlike) (one_in t place new i come)
            ]
      ]

  pub change_in : (i : Item) → is_touched (splice_probes t place (Some old) (Some new)) i ≡ true → OfChange t place old new i
  change_in i h = go (is_block old && is_block new) refl h where
    go : (b : Bool) → (is_block old && is_block new) ≡ b →
        is_touched (cond b (block_change old new)
        (changes (one_name old.statement.label new.statement.label) (definition_of old) (definition_of new))) i ≡ true → OfChange t place old new i
    go true are k = let both = and_parts (is_block old) (is_block new) are in blocks_in t place old new both.0 both.1 i k
    go false none k = others_in none i k

  -- what is no two blocks
  others_is : (i : Item) → (is_block old && is_block new) ≡ false →
      is_touched (changes (one_name old.statement.label new.statement.label) (definition_of old) (definition_of new)) i ≡ true →
      is_touched (splice_probes t place (Some old) (Some new)) i ≡ true
  others_is i none h =
      ap (λ b. is_touched (cond b (block_change old new)
      (changes (one_name old.statement.label new.statement.label) (definition_of old) (definition_of new))) i) none
      ∙ h

  no_blocks : (OneKind old new → ⊥) → (is_block old && is_block new) ≡ false
  no_blocks none =
      false_from_ne_true (is_block old && is_block new) (λ h. let both = and_parts (is_block old) (is_block new) h in none (two_blocks both.0 both.1))

  kinds_is : (i : Item) → (OneKind old new → ⊥) → is_touched (line_probes t place old ++ line_probes t place new) i ≡ true →
      is_touched (splice_probes t place (Some old) (Some new)) i ≡ true
  kinds_is i none h =
      others_is i (no_blocks none)
      (ap (λ ps. is_touched ps i)
      (apart_change (one_name old.statement.label new.statement.label) (definition_of old) (definition_of new) (not_one_verb none))
      ∙ h)

  pub change_is : {i : Item} → OfChange t place old new i → is_touched (splice_probes t place (Some old) (Some new)) i ≡ true
  change_is (changed_block was is differ) = block_is t place old new was is differ
  change_is (changed_generates was is differ one) = generates_is t place old new was is differ one
  change_is (old_label name was is differ named) = old_label_is t place old new name was is differ named
  change_is (new_label name was is differ named) = new_label_is t place old new name was is differ named
  change_is (changed_definition name d e asked was is two) =
      others_is (items.Named asked name) (and_left (is_block old) (is_block new) (no_block_defines old name d was))
      (rw (one_name_is old.statement.label new.statement.label name was.label is.label, definition_is old name d was, definition_is new name e is)
      (two_is name d e asked was is two))
  change_is (as_deleted i none one) =
      kinds_is i none (touched_left (line_probes t place old) (line_probes t place new) i (one_is t place old one))
  change_is (as_inserted i none one) =
      kinds_is i none (touched_right (line_probes t place old) (line_probes t place new) i (one_is t place new one))
