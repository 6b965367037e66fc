use Rattle.gw_expr.specs.declared.attribute.Subject.TheVariants as subjects
use Rattle.gw_meaning.specs.Evaluation.{subject_prog}
use Rattle.gw_asking.proofs.Binding.{decides_comes}
use Rattle.gw_values.proofs.attributes.subject.Goals as goal

pub returns-in-Number : goal.returns-in-Number
returns-in-Number c =
    rw c.in-Number.is (decides_comes c.args.run.version.now c.args.run.seed (subject_prog (subjects.Number c.in-Number.number)) c.key_of_number.result
    c.args.notes.now c.key_of_number.ensures)
