use Rattle.gw_desk.proofs.AnewLaws.{same_answers, answered_anew, faulty_anew}
use Rattle.gw_desk.proofs.laws.numbers_do_not_matter.Goals as goal

pub returns : goal.returns
returns c = record { alike = same_answers; anew = answered_anew; faulty = faulty_anew }
