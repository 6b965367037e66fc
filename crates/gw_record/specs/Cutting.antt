-- What a recorded run that went back to one of its states has in common with what it was. (Our own.)
use Rattle.std.specs.Prelude.{◌≡◌, ℕ, ◌≤◌, length, take}
use Rattle.gw_meaning.specs.declared.item.Item.{Item}
use Rattle.gw_record.specs.declared.kept.Kept.{Kept}
use Rattle.gw_record.specs.Parting.{AreMoments, AreBefore}
use Rattle.gw_uses.specs.Steps.{below, AreBelow}
use Rattle.gw_uses.specs.Uses.{first_in}
use Rattle.gw_record.specs.Tape.{Tape}

-- the START ends before the moment gone back to stay, and of the first uses those of the steps below it
pub record WentBack (old : Tape) (to : Kept) (new : Tape) : Type 0 where
  pub every : new.every ≡ old.every
  pub start : new.start ≡ old.start
  pub moment : new.moment ≡ to.moment
  pub tip : new.tip ≡ to.state
  pub kept : new.kept ≡ old.kept
  pub count : ℕ
  pub few : count ≤ length old.ends
  pub ends : new.ends ≡ take count old.ends
  pub before : AreMoments old.ends → AreBefore old.ends to.moment count
  pub firsts : (item : Item) → first_in new.firsts item ≡ below to.moment (first_in old.firsts item)
  pub clock : AreBelow to.moment new.firsts.clock_steps
