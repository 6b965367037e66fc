use Rattle.std.proofs.Common.{rules, ◌≡◌, ap, ◌∙◌, Bool, cond, Some}
use Rattle.std.specs.BTreeMap as tree
use Rattle.std.specs.Ordering.{nat_cmp}
use Rattle.std.specs.Cmp.Lexicographic.{slice_cmp}
use Rattle.std.proofs.lemmas.Map.Text.{is_eq-slice_cmp}
use Rattle.gw_model.proofs.names.put.Goals as goal

pub returns-clause-table : goal.returns-clause-table
returns-clause-table g c k =
    let copied : c.in_ok-clone.field-0 ≡ c.args.name.now = search rules in
    let written : tree.get (slice_cmp nat_cmp) c.insert.new.self k ≡
    cond (tree.is_at (slice_cmp nat_cmp c.args.name.now) k) (Some c.args.value) (tree.get (slice_cmp nat_cmp) c.args.table.now k) =
    rw copied at (c.in_ok-old.ensures.updates.0 k) in
    written ∙ ap (λ (b : Bool). cond b (Some c.args.value) (tree.get (slice_cmp nat_cmp) c.args.table.now k)) (is_eq-slice_cmp c.args.name.now k)
