-- What a list of values ends as, where a `&mut` to one of them is returned. (Our own.)
use Rattle.std.specs.Prelude.{ℕ, List, Result, slice_set}
use Rattle.std.specs.Borrow.{LendsIfOk, Fml, RattleType, MutBor}
use Rattle.gw_shared.specs.contracts.values.SharedValues.{the_row}

-- the value at an index is what was last written through r; after an error the list is as it was
abbrev pub LendsValue : (V : RattleType) {E : Type 0} → MutBor (List V.Denot) → ℕ → Result (MutBor V.Denot) E → Fml
LendsValue V s index r = LendsIfOk (the_row V) V s r (slice_set s.now index) s.now
