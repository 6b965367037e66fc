use Rattle.gw_shared.proofs.Full as full
use Rattle.gw_shared.proofs.place.find.Goals as goal

pub returns-then-chunk-full : goal.returns-then-chunk-full
returns-then-chunk-full g c = full.place c.args.full c.args.index c.args.chunks.now.items c.requires.full c.if-chunk-full.true
