-- The definitions' words on counts are those of the table that keeps them.
use Rattle.std.proofs.Common.{◌≡◌, ℕ, List, [], ◌∷◌, refl}
use Rattle.gw_table.specs.Pairs.{value_in, with_value}
use Rattle.gw_meaning.specs.declared.transaction.Count.{Count}
use Rattle.gw_meaning.specs.Machine.{count_in, with_count}

pub count_in_is : (counts : List (ℕ × Count)) (id : ℕ) → count_in counts id ≡ value_in counts id
count_in_is [] id = refl
count_in_is (c ∷ cs) id = rw (count_in_is cs id) refl

pub with_count_is : (counts : List (ℕ × Count)) (id : ℕ) (count : Count) → with_count counts id count ≡ with_value counts id count
with_count_is [] id count = refl
with_count_is (c ∷ cs) id count = rw (with_count_is cs id count) refl
