-- Where the transactions of a state stand, over every run from zero. (Manual: the chains. Within the step limit, since
-- numbers tell transactions apart there.)
use Rattle.std.specs.Prelude.{◌≡◌, ℕ, ◌≤◌, List, map, option_to_list, Ok, Contains}
use Rattle.gw_names.specs.declared.key.Key.{Key}
use Rattle.gw_meaning.specs.declared.transaction.Transaction.{Transaction}
use Rattle.gw_meaning.specs.declared.transaction.Event.{Event}
use Rattle.gw_meaning.specs.Listing.{Listing}
use Rattle.gw_meaning.specs.Machine.{Machine, delay_at, user_chain_at}
use Rattle.gw_meaning.specs.Step.{run}
use Rattle.gw_meaning.specs.Watching.{transactions_of}
use Rattle.gw_model.specs.Well.{Well}
use Rattle.gw_laws.specs.Living.{living}

-- active, on the current chain, on the future chain, on the delay chain of a facility or a storage, on the retry chain,
-- where transactions wait for a change of something that they read, or on a user chain
pub data Place : Type 0 where
  Active : Place
  OnCurrent : Place
  OnFuture : Place
  OnDelay : Key → Place
  OnRetry : Place
  OnUserChain : Key → Place

-- who stands in a place
abbrev pub who_stands : Machine → Place → List Transaction
who_stands s Active = option_to_list s.active
who_stands s OnCurrent = s.current
who_stands s OnFuture = map (λ (e : Event). e.transaction) s.future
who_stands s (OnDelay key) = delay_at s.delays key
who_stands s OnRetry = transactions_of s.retry
who_stands s (OnUserChain key) = (user_chain_at s.linked key).members

-- whoever lives stands in some place
abbrev pub EachHasAPlace : Type 0
EachHasAPlace =
    (t : Listing) (seed n : ℕ) (s : Machine) → run t seed n ≡ Ok s →
    (x : Transaction) → Contains (living s) x → (p : Place) × Contains (who_stands s p) x

-- and in no other one: where two places have a transaction of one number, they are one place
abbrev pub EachHasOnePlace : Type 0
EachHasOnePlace =
    (t : Listing) (seed n : ℕ) (s : Machine) → Well t → n ≤ t.limit → run t seed n ≡ Ok s →
    (p q : Place) (x y : Transaction) → Contains (who_stands s p) x → Contains (who_stands s q) y →
    x.number ≡ y.number → p ≡ q
