use Rattle.std.proofs.Common.{◌≡◌, ℕ, List, ap, ◌∙◌, Bool, cond, Some, None, true, subst, get_or}
use Rattle.std.specs.BTreeMap as tree
use Rattle.std.specs.Ordering.{nat_cmp}
use Rattle.std.specs.Cmp.Lexicographic.{slice_cmp}
use Rattle.std.specs.Str.{bytes_eq}
use Rattle.std.proofs.lemmas.Map.Text.{is_eq-slice_cmp}
use Rattle.std.proofs.lemmas.Slice.Eq.{bytes_eq-Decides}
use Rattle.gw_model.specs.ByName.{value_in, value_of, slot_of}
use Rattle.gw_model.proofs.Slots.{in_map}
use Rattle.gw_model.proofs.by_name.ByName.add.Goals as goal

pub returns-in_ok-insert : goal.returns-in_ok-insert
returns-in_ok-insert g c other =
    let before = tree.get (slice_cmp nat_cmp) c.args.self.now.many other in
    let after = tree.get (slice_cmp nat_cmp) c.insert.new.self other in
    let came : after ≡ cond (bytes_eq c.args.name other) (Some c.args.value) before =
    c.in_ok-insert.ensures.updates.0 other ∙ ap (λ (b : Bool). cond b (Some c.args.value) before) (is_eq-slice_cmp c.args.name other) in
    let none : bytes_eq c.args.name other ≡ true → value_of c.args.self.now other ≡ None =
    λ same. subst (λ (k : List ℕ). value_of c.args.self.now k ≡ None) ((bytes_eq-Decides c.args.name other).0 same) c.requires in
    in_map (bytes_eq c.args.name other) c.args.value
    (value_in (get_or c.args.self.now.slots.items (slot_of other c.args.self.now.mask) None) other) before after came none
