use Rattle.gw_lines.proofs.Cutting.{cuts_at_bars, cuts_at_commas, cuts_at_line_feeds}
use Rattle.gw_lines.proofs.laws.texts_are_cut.Goals as goal

pub returns-clause-commas : goal.returns-clause-commas
returns-clause-commas c = cuts_at_commas

pub returns-clause-line_feeds : goal.returns-clause-line_feeds
returns-clause-line_feeds c = cuts_at_line_feeds

pub returns-clause-bars : goal.returns-clause-bars
returns-clause-bars c = cuts_at_bars
