use Rattle.std.proofs.Common.{refl}
use Rattle.std.proofs.lemmas.Result.{on_ok_weaker}
use Rattle.gw_script.specs.Answers.{bytes_of}
use Rattle.gw_script.proofs.queries.put_one.Goals as goal

pub returns-clause-ok : goal.returns-clause-ok
returns-clause-ok g c =
    let answer = c.finish-answer in
    on_ok_weaker c.put_answer.result (λ put. record {
      front = bytes_of answer.result;
      reports =
          record { answer = answer.result; answers_so = answer.ensures; told = refl };
      put = put;
    }) c.put_answer.ensures
