-- A destination is kept as one number.
use Rattle.std.proofs.Common.{ℕ, ◌≡◌, ◌<◌, ap, Some, None, if◌then◌else◌, arith}
use Rattle.std.proofs.lemmas.Bool.{ne_eqb}
use Rattle.gw_meaning.specs.Places.{no_block, block_of}

pub below_is_block : (id : ℕ) → id < no_block → block_of id ≡ Some id
below_is_block id below = ap (λ b. if b then None else Some id) (ne_eqb id no_block (λ same. absurd (omega arith)))
