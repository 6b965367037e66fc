use Rattle.std.proofs.Common.{◌≡◌, ℕ, List, None, length}
use Rattle.std.specs.Prelude.{IsSome}
use Rattle.std.specs.BTreeMap as tree
use Rattle.std.specs.Ordering.{nat_cmp}
use Rattle.std.specs.Cmp.Lexicographic.{slice_cmp}
use Rattle.gw_meaning.specs.Listing.{or_next}
use Rattle.gw_model.specs.ByName.{value_of}
use Rattle.gw_model.proofs.by_name.ByName.from_map.Given as goal

-- each name has its value either here or in the rest
abbrev pub invariant-loop-name : goal.invariant-loop-name
invariant-loop-name g l = (name : List ℕ) →
    (or_next (value_of l.values name) (tree.get (slice_cmp nat_cmp) l.rest name) ≡ tree.get (slice_cmp nat_cmp) l.fn.map name)
    × (IsSome (tree.get (slice_cmp nat_cmp) l.rest name) → value_of l.values name ≡ None)

abbrev pub decreases-loop-name : goal.decreases-loop-name
decreases-loop-name g l = length l.rest.entries
