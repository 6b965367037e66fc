use Rattle.std.proofs.Common.{decimal, arith}
use Rattle.gw_report.specs.declared.column.Side.TheVariants.{Right}
use Rattle.gw_report.proofs.Laying.{gap_blank, cell_laid}
use Rattle.gw_report.proofs.sheet.Sheet.put_number.Goals as goal

pub lay_number-requires-clause-blank : goal.lay_number-requires-clause-blank
lay_number-requires-clause-blank c = gap_blank _ _ c.as_mut_slice.ensures.value c.self.invariant.1

pub invariant_of-self : goal.invariant_of-self
invariant_of-self c =
    (cell_laid Right (decimal c.args.number) _ _ _ c.as_mut_slice.ensures.value c.self.inside.bytes.ok.0 (omega (arith, c.self.inside.bytes.ok.0))
    c.self.invariant.1 c.lay_number.ensures).0

pub returns-then-width-len : goal.returns-then-width-len
returns-then-width-len c =
    rw (← c.self.view_is)
    (cell_laid Right (decimal c.args.number) _ _ _ c.as_mut_slice.ensures.value c.self.inside.bytes.ok.0 (omega (arith, c.self.inside.bytes.ok.0))
    c.self.invariant.1 c.lay_number.ensures).1
