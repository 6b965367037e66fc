-- The transactions of a state, wherever they are. (Manual.)
use Rattle.std.specs.Prelude.{◌≡◌, ℕ, List, ◌++◌, Some, map, option_to_list}
use Rattle.gw_meaning.specs.declared.transaction.Transaction.{Transaction}
use Rattle.gw_meaning.specs.declared.transaction.Event.{Event}
use Rattle.gw_meaning.specs.Watching.{transactions_of}
use Rattle.gw_meaning.specs.Machine.{Machine, waiting, members_of}

-- the active one, those on the current chain, those on the future chain, those who wait on a delay chain, those who wait
-- for a change of something that they read, and those on the user chains
abbrev pub living : Machine → List Transaction
living s =
    option_to_list s.active
    ++ (s.current
    ++ (map (λ (e : Event). e.transaction) s.future
    ++ (waiting s.delays ++ (transactions_of s.retry ++ waiting (members_of s.linked)))))

-- the active transaction is the one with this number
abbrev pub IsActive : Machine → ℕ → Type 0
IsActive s number = (x : Transaction) × (s.active ≡ Some x) × (x.number ≡ number)
