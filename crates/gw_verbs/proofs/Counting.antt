-- SPLIT and UNLINK by how many come of them.
use Rattle.std.proofs.Common.{◌≡◌, ℕ, zero, suc, List, Option, Some, None, refl}
use Rattle.gw_names.specs.declared.key.Key.{Key}
use Rattle.gw_expr.specs.Term.{Term}
use Rattle.gw_expr.specs.declared.expr.Expr.TheVariants.{Value, Computed, Named, Label, Fraction, Defined, Table, Order}
use Rattle.gw_meaning.specs.declared.item.Asked.TheVariants as asking
use Rattle.gw_meaning.specs.declared.item.Item.TheVariants as items
use Rattle.gw_meaning.specs.Evaluation.{asks}
use Rattle.gw_meaning.specs.Step.{split_count, split_into, split_to, unlink_count, unlink_some, unlink_to}

pub split_none : (id : ℕ) (label : Option Term) (count : ℕ) → count ≡ 0 → split_count id label count ≡ split_into id 0 None
split_none id label count none = rw none refl

pub split_on : (id count : ℕ) → (count ≡ 0 → ⊥) → split_count id None count ≡ split_into id count None
split_on id zero some = absurd (some refl)
split_on id (suc n) some = refl

pub split_away : (id : ℕ) (name : List ℕ) (count : ℕ) → (count ≡ 0 → ⊥) →
    split_count id (Some (Label name)) count ≡ asks (items.Named asking.Label name) (split_to id count)
split_away id name zero some = absurd (some refl)
split_away id name (suc n) some = refl

pub unlink_none : (id : ℕ) (key : Key) (label : Option Term) (count : ℕ) → count ≡ 0 → unlink_count id key label count ≡ unlink_some id key 0 None
unlink_none id key label count none = rw none refl

pub unlink_away : (id : ℕ) (key : Key) (name : List ℕ) (count : ℕ) → (count ≡ 0 → ⊥) →
    unlink_count id key (Some (Label name)) count ≡ asks (items.Named asking.Label name) (unlink_to id key count)
unlink_away id key name zero some = absurd (some refl)
unlink_away id key name (suc n) some = refl

pub split_else : (id : ℕ) (term : Term) (count : ℕ) → (count ≡ 0 → ⊥) → ((name : List ℕ) → term ≡ Label name → ⊥) →
    split_count id (Some term) count ≡ split_into id count None
split_else id term zero some other = absurd (some refl)
split_else id (Value atom) (suc k) some other = refl
split_else id (Computed tokens) (suc k) some other = refl
split_else id (Named name) (suc k) some other = refl
split_else id (Label name) (suc k) some other = absurd (other name refl)
split_else id (Fraction millionths) (suc k) some other = refl
split_else id (Defined name) (suc k) some other = refl
split_else id (Table name) (suc k) some other = refl
split_else id (Order discipline) (suc k) some other = refl
