use Rattle.std.proofs.Common.{arith}
use Rattle.gw_report.proofs.Laying.{gap_blank, cell_laid}
use Rattle.gw_report.proofs.sheet.Sheet.put_text.Goals as goal

pub lay_text-requires-clause-blank : goal.lay_text-requires-clause-blank
lay_text-requires-clause-blank c = gap_blank _ _ c.as_mut_slice.ensures.value c.self.invariant.1

pub invariant_of-self : goal.invariant_of-self
invariant_of-self c =
    (cell_laid c.args.side c.args.text.now _ _ _ c.as_mut_slice.ensures.value c.self.inside.bytes.ok.0 (omega (arith, c.self.inside.bytes.ok.0))
    c.self.invariant.1 c.lay_text.ensures).0

pub returns-then-width-len : goal.returns-then-width-len
returns-then-width-len c =
    rw (← c.self.view_is)
    (cell_laid c.args.side c.args.text.now _ _ _ c.as_mut_slice.ensures.value c.self.inside.bytes.ok.0 (omega (arith, c.self.inside.bytes.ok.0))
    c.self.invariant.1 c.lay_text.ensures).1
