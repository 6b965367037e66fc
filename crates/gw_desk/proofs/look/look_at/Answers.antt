use Rattle.gw_desk.proofs.Looks.{seen_complete}
use Rattle.gw_desk.proofs.look.look_at.Goals as goal

pub returns-in-Some : goal.returns-in-Some
returns-in-Some c =
    let end = (rw c.in-Some.is at c.start_end.ensures) c.args.version.now c.args.seed c.requires.records in
    seen_complete c.args.version.now c.args.seed c.args.k c.args.run.now c.requires.records c.requires.start c.in-Some.moment end.0 end.1
