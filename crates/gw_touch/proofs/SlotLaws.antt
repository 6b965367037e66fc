-- Which items probes are of, slot by slot.
use Rattle.std.proofs.Common.{◌≡◌, ◌⊎◌, ℕ, ◌≤◌, Bool, true, false, List, [], ◌∷◌, ◌++◌, Option, Some, None, inr, refl, sym, ap, ap₂, ◌∙◌}
use Rattle.std.specs.Str.{bytes_eq}
use Rattle.std.proofs.Math.Bool.{or-false}
use Rattle.std.proofs.lemmas.Bool.{and_parts, eqb-true, leb-true, or_cases, or_left, or_right}
use Rattle.std.proofs.lemmas.List.Folds.{list_any-append}
use Rattle.std.proofs.lemmas.Slice.Eq.{bytes_eq-Decides}
use Rattle.gw_meaning.specs.declared.item.Asked.{Asked}
use Rattle.gw_meaning.specs.declared.item.Asked.TheVariants as asking
use Rattle.gw_meaning.specs.declared.item.Item.{Item}
use Rattle.gw_meaning.specs.declared.item.Item.TheVariants as items
use Rattle.gw_meaning.specs.contracts.item.ItemEq.TheImpl.Laws as laws
use Rattle.gw_meaning.specs.Reads.{is_use, same_asked, same_item}
use Rattle.gw_touch.specs.declared.touch.Probe.{Probe}
use Rattle.gw_touch.specs.declared.touch.Probe.TheVariants.{CommandsFrom}
use Rattle.gw_touch.specs.Touching.{behind, given, is_probed, is_touched, label_if, one_if}

-- ---- an item is told from all others

asked_same : (a b : Asked) → same_asked a b ≡ true → a ≡ b
asked_same asking.Label asking.Label h = refl
asked_same asking.Number asking.Number h = refl
asked_same (asking.Fits m) (asking.Fits n) h = ap (λ k. asking.Fits k) (eqb-true m n h)
asked_same asking.Storage asking.Storage h = refl
asked_same asking.Variable asking.Variable h = refl
asked_same asking.Function asking.Function h = refl
asked_same asking.Table asking.Table h = refl
asked_same a b h = absurd cc

pub item_same : (a b : Item) → same_item a b ≡ true → a ≡ b
item_same (items.Block p) (items.Block q) h = ap (λ k. items.Block k) (eqb-true p q h)
item_same (items.After p) (items.After q) h = ap (λ k. items.After k) (eqb-true p q h)
item_same (items.Named a m) (items.Named b n) h =
    let both = and_parts (same_asked a b) (bytes_eq m n) h in
    ap₂ (λ x (y : List ℕ). items.Named x y) (asked_same a b both.0) ((bytes_eq-Decides m n).0 both.1)
item_same items.Generates items.Generates h = refl
item_same (items.Cmd i) (items.Cmd j) h = ap (λ k. items.Cmd k) (eqb-true i j h)
item_same items.Seed items.Seed h = refl
item_same (items.Within s) (items.Within t) h = ap (λ k. items.Within k) (eqb-true s t h)
item_same a b h = absurd cc

pub item_itself : (a : Item) → same_item a a ≡ true
item_itself a = laws.laws-law.refl a

-- ---- the probe in a slot; an empty slot is of no item

abbrev pub probed_at : Option Probe → Item → Bool
probed_at None i = false
probed_at (Some probe) i = is_probed probe i

pub first_or_rest : (o : Option Probe) (os : List (Option Probe)) (i : Item) → is_touched (given (o ∷ os)) i ≡ true →
    (probed_at o i ≡ true) ⊎ (is_touched (given os) i ≡ true)
first_or_rest None os i h = inr h
first_or_rest (Some probe) os i h = or_cases (is_probed probe i) (is_touched (given os) i) h

pub only_first : (o : Option Probe) (i : Item) → is_touched (given (o ∷ [])) i ≡ true → probed_at o i ≡ true
only_first None i h = absurd cc
only_first (Some probe) i h = sym (or-false (is_probed probe i)) ∙ h

pub in_first : (o : Option Probe) (os : List (Option Probe)) (i : Item) → probed_at o i ≡ true → is_touched (given (o ∷ os)) i ≡ true
in_first None os i h = absurd cc
in_first (Some probe) os i h = or_left (is_probed probe i) (is_touched (given os) i) h

pub in_rest : (o : Option Probe) (os : List (Option Probe)) (i : Item) → is_touched (given os) i ≡ true → is_touched (given (o ∷ os)) i ≡ true
in_rest None os i h = h
in_rest (Some probe) os i h = or_right (is_probed probe i) (is_touched (given os) i) h

pub touched_both : (ps qs : List Probe) (i : Item) → is_touched (ps ++ qs) i ≡ true → (is_touched ps i ≡ true) ⊎ (is_touched qs i ≡ true)
touched_both ps qs i h = or_cases (is_touched ps i) (is_touched qs i) (sym (list_any-append (λ p. is_probed p i) ps qs) ∙ h)

pub touched_left : (ps qs : List Probe) (i : Item) → is_touched ps i ≡ true → is_touched (ps ++ qs) i ≡ true
touched_left ps qs i h = list_any-append (λ p. is_probed p i) ps qs ∙ or_left (is_touched ps i) (is_touched qs i) h

pub touched_right : (ps qs : List Probe) (i : Item) → is_touched qs i ≡ true → is_touched (ps ++ qs) i ≡ true
touched_right ps qs i h = list_any-append (λ p. is_probed p i) ps qs ∙ or_right (is_touched ps i) (is_touched qs i) h

-- ---- an item that is wanted, what comes after a block, and a label

pub wanted_in : (wanted : Bool) (item i : Item) → probed_at (one_if wanted item) i ≡ true → (wanted ≡ true) × (is_use item i ≡ true)
wanted_in true item i h = (refl, h)
wanted_in false item i h = absurd cc

pub wanted_is : (wanted : Bool) (item i : Item) → wanted ≡ true → is_use item i ≡ true → probed_at (one_if wanted item) i ≡ true
wanted_is true item i h is = is
wanted_is false item i h is = absurd cc

pub behind_in : (o : Option ℕ) (i : Item) → probed_at (behind o) i ≡ true → (number : ℕ) × (o ≡ Some number) × (i ≡ items.After number)
behind_in None i h = absurd cc
behind_in (Some number) i h = (number, refl, item_same i (items.After number) h)

pub behind_is : (o : Option ℕ) (number : ℕ) → o ≡ Some number → probed_at (behind o) (items.After number) ≡ true
behind_is None number h = absurd cc
behind_is (Some other) number h = let same : number ≡ other = cc in rw same (item_itself (items.After other))

pub label_in : (wanted : Bool) (label : Option (List ℕ)) (i : Item) → probed_at (label_if wanted label) i ≡ true →
    (name : List ℕ) × (wanted ≡ true) × (label ≡ Some name) × (i ≡ items.Named asking.Label name)
label_in wanted None i h = absurd cc
label_in wanted (Some name) i h =
    let parts = wanted_in wanted (items.Named asking.Label name) i h in
    (name, parts.0, refl, item_same i (items.Named asking.Label name) parts.1)

pub label_is : (wanted : Bool) (label : Option (List ℕ)) (name : List ℕ) → wanted ≡ true → label ≡ Some name →
    probed_at (label_if wanted label) (items.Named asking.Label name) ≡ true
label_is wanted None name h is = absurd cc
label_is wanted (Some other) name h is =
    let same : other ≡ name = cc in
    wanted_is wanted (items.Named asking.Label other) (items.Named asking.Label name) h
    (rw same (item_itself (items.Named asking.Label name)))

-- ---- all commands from one on

pub commands_in : (first : ℕ) (i : Item) → is_touched (CommandsFrom first ∷ []) i ≡ true → (j : ℕ) × (first ≤ j) × (i ≡ items.Cmd j)
commands_in first (items.Cmd j) h = (j, leb-true first j (only_first (Some (CommandsFrom first)) (items.Cmd j) h), refl)
commands_in first i h = absurd cc
