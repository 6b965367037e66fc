-- An item is told from all others by the code's equality.
use Rattle.std.proofs.Common.{◌≡◌, ℕ, true, List, refl, ap, ap₂, subst}
use Rattle.std.specs.Str.{bytes_eq}
use Rattle.std.proofs.lemmas.Bool.{and_parts, eqb-true}
use Rattle.std.proofs.lemmas.Slice.Eq.{bytes_eq-Decides}
use Rattle.gw_meaning.specs.declared.item.Asked.{Asked}
use Rattle.gw_meaning.specs.declared.item.Asked.TheVariants as asking
use Rattle.gw_meaning.specs.declared.item.Item.{Item}
use Rattle.gw_meaning.specs.declared.item.Item.TheVariants as items
use Rattle.gw_meaning.specs.contracts.item.ItemEq.TheImpl.Laws as laws
use Rattle.gw_meaning.specs.Reads.{same_asked, same_item}
use Rattle.gw_laws.specs.Items.{AnItemIsItself}

asked_same : (a b : Asked) → same_asked a b ≡ true → a ≡ b
asked_same asking.Label asking.Label h = refl
asked_same asking.Number asking.Number h = refl
asked_same (asking.Fits m) (asking.Fits n) h = ap (λ k. asking.Fits k) (eqb-true m n h)
asked_same asking.Storage asking.Storage h = refl
asked_same asking.Variable asking.Variable h = refl
asked_same asking.Function asking.Function h = refl
asked_same asking.Table asking.Table h = refl
asked_same a b h = absurd cc

item_same : (a b : Item) → same_item a b ≡ true → a ≡ b
item_same (items.Block p) (items.Block q) h = ap (λ k. items.Block k) (eqb-true p q h)
item_same (items.After p) (items.After q) h = ap (λ k. items.After k) (eqb-true p q h)
item_same (items.Named a m) (items.Named b n) h =
    let both = and_parts (same_asked a b) (bytes_eq m n) h in
    ap₂ (λ x (y : List ℕ). items.Named x y) (asked_same a b both.0) ((bytes_eq-Decides m n).0 both.1)
item_same items.Generates items.Generates h = refl
item_same (items.Cmd i) (items.Cmd j) h = ap (λ k. items.Cmd k) (eqb-true i j h)
item_same items.Seed items.Seed h = refl
item_same (items.Within s) (items.Within t) h = ap (λ k. items.Within k) (eqb-true s t h)
item_same a b h = absurd cc

pub an_item_is_itself : AnItemIsItself
an_item_is_itself a b = (
  λ h. item_same a b h,
  λ e. subst (λ (x : Item). same_item a x ≡ true) e (laws.laws-law.refl a),
)
