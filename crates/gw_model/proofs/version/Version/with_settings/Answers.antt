use Rattle.std.proofs.Common.{rules, ◌≡◌}
use Rattle.gw_model.specs.Faults.{fault_of, label_fault_of}
use Rattle.gw_model.specs.Listed.{listing_of}
use Rattle.gw_model.proofs.Making.{made, refused, kept_on}
use Rattle.gw_model.proofs.version.Version.with_settings.Goals as goal

pub invariant_of-result : goal.invariant_of-result
invariant_of-result c =
    let old = c.self.inside in
    let lines = old.tabled.value.lines.items in
    let t = listing_of lines old.horizon old.replications.items old.limit in
    let left : fault_of (listing_of lines c.in_ok-horizon.horizon c.args.replications.items c.args.limit) ≡ label_fault_of lines = search rules in
    let same : c.in_ok-try_clone.field-0.value ≡ old.tabled.value = search rules in
    rw same (kept_on t old.tabled.value.tables c.self.invariant c.in_ok-horizon.horizon c.args.replications.items c.args.limit left)

pub returns : goal.returns
returns c = made _ _ (search rules) (invariant_of-result c).well

pub returns-in_err-horizon : goal.returns-in_err-horizon
returns-in_err-horizon c = refused _ _ (search rules) (search rules)
