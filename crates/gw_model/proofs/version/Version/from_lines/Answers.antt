use Rattle.std.proofs.Common.{rules, ◌≡◌, None, IfErr}
use Rattle.gw_model.specs.Faults.{fault_of, label_fault_of, IsFault}
use Rattle.gw_model.specs.Listed.{listing_of}
use Rattle.gw_model.specs.Tables.{AreTablesOf}
use Rattle.gw_model.proofs.Making.{made, refused, kept}
use Rattle.gw_model.proofs.version.Version.from_lines.Goals as goal

pub invariant_of-result : goal.invariant_of-result
invariant_of-result c =
    let lines = c.args.lines.items in
    let t = listing_of lines c.in_ok-horizon.horizon c.args.replications.items c.args.limit in
    let left : fault_of t ≡ label_fault_of lines = search rules in
    let sound : label_fault_of lines ≡ None = search rules in
    let answers : AreTablesOf lines c.in_ok-new.field-0.tables = search rules in
    let built : c.in_ok-tabled.tabled.value ≡ c.in_ok-new.field-0 = search rules in
    let same : c.in_ok-new.field-0.lines ≡ c.args.lines = search rules in
    rw (built, same) (kept t c.in_ok-new.field-0.tables left sound c.requires answers)

pub returns : goal.returns
returns c = made _ _ (search rules) (invariant_of-result c).well

pub returns-in_err-horizon : goal.returns-in_err-horizon
returns-in_err-horizon c = refused _ _ (search rules) (search rules)

pub returns-in_err-new : goal.returns-in_err-new
returns-in_err-new c =
    let t = listing_of c.args.lines.items c.args.horizon c.args.replications.items c.args.limit in
    let same : c.in_ok-horizon.horizon ≡ c.args.horizon = search rules in
    let left : fault_of (record t { horizon = c.in_ok-horizon.horizon }) ≡ label_fault_of t.lines = search rules in
    let first : fault_of t ≡ label_fault_of t.lines = rw same at left in
    let fault : IfErr c.from_residual-in_err-new.result (IsFault (label_fault_of t.lines)) = search rules in
    refused t _ (search rules) (rw first fault)
