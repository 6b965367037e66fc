use Rattle.std.proofs.Common.{◌≡◌, ℕ, List, false, drop, ◌≤◌, length}
use Rattle.std.specs.BTreeMap as tree
use Rattle.std.specs.Ordering.{nat_cmp}
use Rattle.std.specs.Cmp.Lexicographic.{slice_cmp}
use Rattle.gw_meaning.specs.Listing.{labelled_in, defined_in}
use Rattle.gw_model.specs.Faults.{has_label_twice}
use Rattle.gw_model.proofs.names.names_of.Given as goal

abbrev pub invariant-loop-index : goal.invariant-loop-index
invariant-loop-index l = record {
  within : l.index ≤ length l.lines;
  labels : (name : List ℕ) → tree.get (slice_cmp nat_cmp) l.names.labels name ≡ labelled_in name (drop l.index l.lines);
  definitions : (name : List ℕ) → tree.get (slice_cmp nat_cmp) l.names.definitions name ≡ defined_in name (drop l.index l.lines);
  once : has_label_twice (drop l.index l.lines) ≡ false;
}

abbrev pub decreases-loop-index : goal.decreases-loop-index
decreases-loop-index l = l.index
