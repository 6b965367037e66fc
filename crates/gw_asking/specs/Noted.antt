-- What a step has noted so far. (Our own.)
use Rattle.std.specs.Prelude.{◌≡◌, ℕ, List, Option, Some, None, if◌then◌else◌}
use Rattle.std.specs.List.{list_any}
use Rattle.gw_streams.specs.declared.stream.Stream.{Stream}
use Rattle.gw_meaning.specs.declared.item.Item.{Item}
use Rattle.gw_meaning.specs.declared.item.Item.TheVariants as items
use Rattle.gw_meaning.specs.declared.transaction.Transaction.{Transaction}
use Rattle.gw_meaning.specs.Listing.{Listing, after_at}
use Rattle.gw_meaning.specs.Reads.{or_later, is_use}
use Rattle.gw_uses.specs.declared.first_uses.FirstUses.{FirstUses}
use Rattle.gw_uses.specs.Steps.{below, AreBelow}
use Rattle.gw_uses.specs.Uses.{first_in}

pub record Noted : Type 0 where
  -- for each item the first step that read it
  pub firsts : FirstUses
  -- the step that reads
  pub step : ℕ
  -- the streams after the draws
  pub streams : List Stream

-- the step read these items, too; it may have drawn
pub record Reads (old : Noted) (items : List Item) (new : Noted) : Type 0 where
  pub now : new.step ≡ old.step
  pub each : (q : Item) →
      first_in new.firsts q ≡
      or_later (first_in old.firsts q) (if list_any (is_use q) items then Some old.step else None)

-- the step read this item, too, and drew nothing
pub record Asks (old : Noted) (item : Item) (new : Noted) : Type 0 where
  pub drawn : new.streams ≡ old.streams
  pub now : new.step ≡ old.step
  pub each : (q : Item) →
      first_in new.firsts q ≡ or_later (first_in old.firsts q) (if is_use q item then Some old.step else None)

-- what is noted of earlier steps stays
pub record Keeps (old new : Noted) : Type 0 where
  pub now : new.step ≡ old.step
  pub each : (q : Item) → below old.step (first_in new.firsts q) ≡ below old.step (first_in old.firsts q)

-- what is noted of earlier steps than this one stays, and no more, in front of these streams
pub record Forgets (step : ℕ) (streams : List Stream) (old new : Noted) : Type 0 where
  pub drawn : new.streams ≡ streams
  pub each : (q : Item) → first_in new.firsts q ≡ below step (first_in old.firsts q)
  pub clock : AreBelow step new.firsts.clock_steps

-- the block that a transaction tries: the one that it goes to, or else the one after its own, for which it asks
abbrev pub Tries : Listing → Transaction → Option ℕ → Option ℕ → Noted → Noted → Type 0
Tries t x (Some to) id old new = (id ≡ Some to) × (new ≡ old)
Tries t x None id old new = (id ≡ after_at t x.current) × Asks old (items.After x.current) new
