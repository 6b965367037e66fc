-- Where transactions go, over every run from zero. (Manual. Within the step limit, since numbers tell transactions
-- apart there.)
use Rattle.std.specs.Prelude.{◌≡◌, ℕ, suc, ◌≤◌, ◌⊎◌, List, ◌++◌, map, Option, Some, None, Ok, Contains}
use Rattle.gw_names.specs.declared.verb.BlockVerb.TheVariants as blocks
use Rattle.gw_meaning.specs.declared.statement.Block.{Block}
use Rattle.gw_meaning.specs.declared.transaction.Transaction.{Transaction}
use Rattle.gw_meaning.specs.declared.transaction.Event.{Event}
use Rattle.gw_meaning.specs.Statements.{B, C, operand}
use Rattle.gw_meaning.specs.Listing.{Listing, after_at, block_at, or_next}
use Rattle.gw_meaning.specs.Machine.{Machine}
use Rattle.gw_meaning.specs.Step.{run}
use Rattle.gw_meaning.specs.Watching.{transactions_of}
use Rattle.gw_model.specs.Well.{Well}
use Rattle.gw_laws.specs.Living.{living}

-- the block to which a transaction goes: its destination where it has one, and else the block after its own
abbrev pub goes_to : Listing → Transaction → Option ℕ
goes_to t x = or_next x.destination (after_at t x.current)

-- the transaction x, now y, stands in the block to which it went, or waits in its own block to enter that one
abbrev pub WentWhereItGoes : Listing → Transaction → Transaction → Type 0
WentWhereItGoes t x y = (goes_to t x ≡ Some y.current) ⊎ ((y.current ≡ x.current) × (goes_to t x ≡ y.destination))

-- the block to which it goes is a TEST or a GATE without a label
abbrev pub IsTestOrGate : Block → Type 0
IsTestOrGate b =
    ((b.verb ≡ blocks.Test) × (operand b C ≡ None)) ⊎ ((b.verb ≡ blocks.Gate) × (operand b B ≡ None))

abbrev pub IsAtATestOrAGate : Listing → Transaction → Type 0
IsAtATestOrAGate t x =
    (id : ℕ) × (b : Block) × (goes_to t x ≡ Some id) × (block_at t id ≡ Some b) × IsTestOrGate b

-- or it waits as it came, at a TEST or a GATE without a label, for a change of something that it read
abbrev pub WaitsAsItCame : Listing → Machine → Transaction → Transaction → Type 0
WaitsAsItCame t v x y =
    Contains (transactions_of v.retry) x × (y.current ≡ x.current) × (y.destination ≡ x.destination)
    × IsAtATestOrAGate t x

-- so it is, where it lives on, of the one that was active before a step
abbrev pub GoesToItsDestination : Type 0
GoesToItsDestination =
    (t : Listing) (seed n : ℕ) (s v : Machine) → Well t → n ≤ t.limit →
    run t seed n ≡ Ok s → run t seed (suc n) ≡ Ok v →
    (x y : Transaction) → s.active ≡ Some x → Contains (living v) y → y.number ≡ x.number →
    WentWhereItGoes t x y ⊎ WaitsAsItCame t v x y

-- those on the current chain, on the future chain and on the retry chain
abbrev pub on_chains : Machine → List Transaction
on_chains s = s.current ++ (map (λ (e : Event). e.transaction) s.future ++ transactions_of s.retry)

-- in a step each of these stays in its block, with its destination (whoever waits on a delay chain goes on waiting, or
-- is let in where he was to go: Delays; whoever is on a user chain stays on it, or is sent to a block: UserChains)
abbrev pub OthersStayInTheirBlocks : Type 0
OthersStayInTheirBlocks =
    (t : Listing) (seed n : ℕ) (s v : Machine) → Well t → n ≤ t.limit →
    run t seed n ≡ Ok s → run t seed (suc n) ≡ Ok v →
    (x y : Transaction) → Contains (on_chains s) x → Contains (living v) y → y.number ≡ x.number →
    (y.current ≡ x.current) × (y.destination ≡ x.destination)
