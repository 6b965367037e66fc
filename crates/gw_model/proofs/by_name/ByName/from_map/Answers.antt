use Rattle.std.proofs.Common.{rules, ◌≡◌, ℕ, List, ap, ◌∙◌, Bool, cond, Some, None, true, subst, length, arith, [], sym}
use Rattle.std.specs.BTreeMap as tree
use Rattle.std.specs.Ordering.{nat_cmp}
use Rattle.std.specs.Cmp.Lexicographic.{slice_cmp}
use Rattle.std.specs.Str.{bytes_eq}
use Rattle.std.proofs.lemmas.Map.Text.{is_eq-slice_cmp}
use Rattle.std.proofs.lemmas.Slice.Eq.{bytes_eq-Decides}
use Rattle.std.proofs.lemmas.List.{nil_from_length}
use Rattle.gw_model.specs.ByName.{value_of}
use Rattle.gw_model.proofs.Slots.{none_behind, one_more}
use Rattle.gw_model.proofs.by_name.ByName.from_map.Goals as goal

pub loop-name-preserved : goal.loop-name-preserved
loop-name-preserved g c name =
    let at = λ (k : List ℕ). tree.get (slice_cmp nat_cmp) c.loop-name.rest k in
    let same = bytes_eq c.in-Some.name name in
    let left : tree.get (slice_cmp nat_cmp) c.pop_first.new.self name ≡ cond same None (at name) =
    c.in-Some.ensures.updates.0 name ∙ ap (λ (b : Bool). cond b None (at name)) (is_eq-slice_cmp c.in-Some.name name) in
    let was : same ≡ true → at name ≡ Some c.in-Some.value =
    λ e. subst (λ (k : List ℕ). at k ≡ Some c.in-Some.value) ((bytes_eq-Decides c.in-Some.name name).0 e) c.in-Some.ensures.value in
    let came : value_of c.add.new.self name ≡ cond same (Some c.in-Some.value) (value_of c.loop-name.values name) = search rules in
    one_more same c.in-Some.value (value_of c.loop-name.values name) (at name) _ _ _ left came was (c.loop-name.invariant name)

pub returns : goal.returns
returns g c name =
    let empty : length c.loop-name.rest.entries ≡ 0 = grind (arith, c.in_default.ensures.variant.1) in
    let entries : c.loop-name.rest.entries ≡ [] = nil_from_length c.loop-name.rest.entries empty in
    let all = c.loop-name.invariant name in
    sym (none_behind (value_of c.loop-name.values name)) ∙ rw entries at all.0
