use Rattle.gw_record.proofs.CarryLaws.{carries}
use Rattle.gw_record.proofs.recorded.Recorded.lemma_carries.Goals as goal

pub returns : goal.returns
returns c = carries c.args.self.now
