use Rattle.std.proofs.Common.{ap, ◌∙◌}
use Rattle.std.proofs.lemmas.List.Elements.{same_from_all_zip}
use Rattle.gw_meaning.specs.contracts.watched.WatchedClone.TheImpl as cloning
use Rattle.gw_retry.proofs.Kept.{lists_copied}
use Rattle.gw_retry.proofs.Things.{thing_copied}
use Rattle.gw_retry.proofs.lists.ReadLists.copy.Goals as goal

pub returns-clause-lists : goal.returns-clause-lists
returns-clause-lists c =
    lists_copied c.self.inside.lists.keys c.in_ok-lists.lists.keys c.in_ok-lists.ensures.cases ∙ ap (λ r. r.lists) c.self.view_is

pub returns-clause-marks : goal.returns-clause-marks
returns-clause-marks c =
    same_from_all_zip cloning.ghosts.is_clone c.self.inside.marks.keys c.in_ok-marks.marks.keys c.in_ok-marks.ensures.cases thing_copied ∙
    ap (λ r. r.marks) c.self.view_is
