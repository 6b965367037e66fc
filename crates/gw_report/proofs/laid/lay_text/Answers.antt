use Rattle.std.proofs.Common.{arith}
use Rattle.gw_report.proofs.Laying.{text_on_left, text_on_right}
use Rattle.gw_report.proofs.laid.lay_text.Goals as goal
use Rattle.gw_report.proofs.laid.lay_text.Goals.{in-Left, in-Right}

pub returns : goal.returns
returns c =
    elim c.match-side.branch [
      | in-Left w ↦
          text_on_left c.args.line.now c.args.text.now c.copy_from_slice.new.self c.args.from c.match-side.start c.args.end _ c.args.side
          w.in-Left.is w.start-is (omega arith) (omega arith) (omega arith) c.requires.blank (omega arith) c.copy_from_slice.ensures.after
      | in-Right w ↦
          text_on_right c.args.line.now c.args.text.now c.copy_from_slice.new.self c.args.from c.match-side.start c.args.end _ c.args.side
          w.in-Right.is w.start-is (omega arith) (omega arith) (omega arith) c.requires.blank (omega arith) c.copy_from_slice.ensures.after
    ]
