-- What is noted of the first uses of items. (Our own.)
use Rattle.std.specs.Prelude.{◌≡◌, ℕ, [], Option}
use Rattle.gw_meaning.specs.declared.item.Item.{Item}
use Rattle.gw_meaning.specs.declared.item.Item.TheVariants as items
use Rattle.gw_meaning.specs.Listing.{Listing}
use Rattle.gw_meaning.specs.Reads.{first_use}
use Rattle.gw_uses.specs.declared.first_uses.FirstUses.{FirstUses}
use Rattle.gw_uses.specs.Steps.{step_at, step_of, first_beyond, AreBelow}

-- nothing is noted
abbrev pub nothing_used : FirstUses
nothing_used = record { blocks = []; afters = []; commands = []; clock_steps = []; others = [] }

-- the step that is noted for an item: there is a table by statement id, one by command, the clock steps, and a map for
-- all other items
abbrev pub first_in : FirstUses → Item → Option ℕ
first_in f (items.Block id) = step_at f.blocks id
first_in f (items.After id) = step_at f.afters id
first_in f (items.Cmd i) = step_at f.commands i
first_in f (items.Within time) = first_beyond time f.clock_steps
first_in f item = step_of f.others item

-- what is noted are the first uses of the first n steps
pub record AreFirstUses (t : Listing) (seed n : ℕ) (f : FirstUses) : Type 0 where
  pub each : (item : Item) → first_in f item ≡ first_use item t seed n
  pub clock : AreBelow n f.clock_steps
