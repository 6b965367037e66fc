-- Where a transaction goes next. (Our own.)
use Rattle.std.specs.Prelude.{ℕ, Bool, true, false, Option, Some, None, ◌≡◌, ◌==◌, if◌then◌else◌}
use Rattle.std.proofs.Common.{refl, sym}
use Rattle.std.proofs.lemmas.Bool.{eqb-true}

-- the number that stands for no block: a statement's id lies below it
abbrev pub no_block : ℕ
no_block = 4294967295

-- the id of a block that may be set, and the number of none where none is
abbrev pub id_or_none : Option ℕ → ℕ
id_or_none None = no_block
id_or_none (Some id) = id

-- the block that a number stands for, if it stands for one
abbrev pub block_of : ℕ → Option ℕ
block_of number = if number == no_block then None else Some number

kept_by : (number : ℕ) (b : Bool) → (number == no_block) ≡ b → id_or_none (if b then None else Some number) ≡ number
kept_by number true same = sym (eqb-true number no_block same)
kept_by number false differs = refl

-- a destination gives its number back
pub number_is_kept : (number : ℕ) → id_or_none (block_of number) ≡ number
number_is_kept number = kept_by number (number == no_block) refl
