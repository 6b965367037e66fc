-- When the code takes two questions of steps for one: where they are one, and not otherwise. (Our own.)
use Rattle.std.specs.Prelude.{◌≡◌, ◌↔◌, true}
use Rattle.gw_meaning.specs.declared.item.Item.{Item}
use Rattle.gw_meaning.specs.Reads.{same_item}

abbrev pub AnItemIsItself : Type 0
AnItemIsItself = (a b : Item) → (same_item a b ≡ true) ↔ (a ≡ b)
