-- What becomes of a transaction that waited for a facility or a storage and is let in.
use Rattle.std.proofs.Common.{◌≡◌, ℕ, zero, suc, List, [], ◌∷◌, ◌++◌, Option, Some, None, refl, arith}
use Rattle.std.specs.Prelude.{Contains}
use Rattle.std.specs.List.{AllByRecursion}
use Rattle.std.proofs.lemmas.Bool.{cond_both}
use Rattle.gw_nums.specs.Range.{is_below}
use Rattle.gw_names.specs.declared.key.Key.{Key}
use Rattle.gw_meaning.specs.Tables.{with_value}
use Rattle.gw_meaning.specs.declared.transaction.Transaction.{Transaction}
use Rattle.gw_meaning.specs.Machine.{Machine}
use Rattle.gw_meaning.specs.Changes.{lined_up, placed, let_in, one_let_in}

-- it leaves its delay chain, of which these go on waiting
abbrev pub leaving : Machine → Key → List Transaction → Machine
leaving s key others = record s { delays = with_value s.delays key others }

-- it stands in the block that it waited for
abbrev pub let_in_as : Transaction → Option ℕ → Transaction
let_in_as x None = x
let_in_as x (Some id) = placed x id

pub let_in_number : (x : Transaction) (to : Option ℕ) → (let_in_as x to).number ≡ x.number
let_in_number x None = refl
let_in_number x (Some id) = refl

-- it comes onto the current chain, its delay chain is another one, and the counts of blocks may change: all else stays
pub record AfterLettingIn (y : Transaction) (key : Key) (others : List Transaction) (s v : Machine) : Type 0 where
  pub clock : v.clock ≡ s.clock
  pub next : v.next ≡ s.next
  pub active : v.active ≡ s.active
  pub current : v.current ≡ lined_up y s.current
  pub future : v.future ≡ s.future
  pub delays : v.delays ≡ with_value s.delays key others
  pub retry : v.retry ≡ s.retry
  pub linked : v.linked ≡ s.linked
  pub entities : v.entities ≡ s.entities

pub let_in_is : (key : Key) (x : Transaction) (others : List Transaction) (s : Machine) →
    AfterLettingIn (let_in_as x x.destination) key others s (one_let_in key x others s)
let_in_is key x others s = go x.destination where
  go : (to : Option ℕ) → AfterLettingIn (let_in_as x to) key others s (let_in x to (leaving s key others))
  go None = record {
    clock = refl;
    next = refl;
    active = refl;
    current = refl;
    future = refl;
    delays = refl;
    retry = refl;
    linked = refl;
    entities = refl;
  }
  go (Some id) = record {
    clock = refl;
    next = refl;
    active = refl;
    current = refl;
    future = refl;
    delays = refl;
    retry = refl;
    linked = refl;
    entities = refl;
  }

-- what holds of each of a chain, holds of each of those who go on waiting
pub all_without : (P : Transaction → Type 0) (passed : List Transaction) (x : Transaction) (xs : List Transaction) →
    AllByRecursion P (passed ++ x ∷ xs) → AllByRecursion P (passed ++ xs)
all_without P [] x xs all = all.1
all_without P (y ∷ ys) x xs all = (all.0, all_without P ys x xs all.1)

-- what holds of each of a chain, and of one more, holds of each where that one lines up
pub lined_all : (P : Transaction → Type 0) (x : Transaction) (ys : List Transaction) → P x → AllByRecursion P ys → AllByRecursion P (lined_up x ys)
lined_all P x [] here all = (here, tt)
lined_all P x (y ∷ ys) here all =
    cond_both (is_below y.priority x.priority) (x ∷ y ∷ ys) (y ∷ lined_up x ys) (AllByRecursion P) (λ _. (here, all))
    (λ _. (all.0, lined_all P x ys here all.1))

-- whoever stood on a chain stands there still where one more lines up, and so does that one
pub lined_keeps : (y : Transaction) (ys : List Transaction) (z : Transaction) → Contains ys z → Contains (lined_up y ys) z
lined_keeps y [] z there = absurd (omega (arith, there.1))
lined_keeps y (x ∷ xs) z (zero, within, same) =
    cond_both (is_below x.priority y.priority) (y ∷ x ∷ xs) (x ∷ lined_up y xs) (λ ws. Contains ws z) (λ _. (1, omega arith, same))
    (λ _. (0, omega arith, same))
lined_keeps y (x ∷ xs) z (suc i, within, same) =
    let rest = lined_keeps y xs z (i, omega (arith, within), same) in
    cond_both (is_below x.priority y.priority) (y ∷ x ∷ xs) (x ∷ lined_up y xs) (λ ws. Contains ws z) (λ _. (suc (suc i), omega (arith, within), same))
    (λ _. (suc rest.0, omega (arith, rest.1), rest.2))

pub lined_has : (y : Transaction) (ys : List Transaction) → Contains (lined_up y ys) y
lined_has y [] = (0, omega arith, refl)
lined_has y (z ∷ zs) =
    let rest = lined_has y zs in
    cond_both (is_below z.priority y.priority) (y ∷ z ∷ zs) (z ∷ lined_up y zs) (λ xs. Contains xs y) (λ _. (0, omega arith, refl))
    (λ _. (suc rest.0, omega (arith, rest.1), rest.2))
