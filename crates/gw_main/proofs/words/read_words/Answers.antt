use Rattle.std.proofs.Common.{◌≡◌, ◌∙◌, List, [], map, subst}
use Rattle.std.specs.Prelude.{Option, codes}
use Rattle.clap.specs.Words.{Text, app_of, fault_of, first_value, found_of}
use Rattle.clap.specs.Kinds.{HasKind}
use Rattle.gw_main.specs.Words.{IsModelAt, word_of}
use Rattle.gw_main.proofs.Reading.{at_gpssbench, bad_same, given_by_words, refused_by_clap, refused_by_number, says_same}
use Rattle.gw_main.proofs.words.read_words.Goals as goal

pub returns-in-Err : goal.returns-in-Err
returns-in-Err g c =
    let words : List Text = map g.W.AsStr.text c.args.words.now in
    let has = at_gpssbench (app_of c.in_ok-command.command) (λ a. HasKind (fault_of a words) c.in-Err.error) c.in_ok-command.ensures c.in-Err.ensures.kinds in
    refused_by_clap words c.in-Err.error.kind c.refusal_of.result c.refusal_of.ensures has

pub returns-in-Ok-options_of : goal.returns-in-Ok-options_of
returns-in-Ok-options_of g c =
    let words : List Text = map g.W.AsStr.text c.args.words.now in
    let same = given_by_words (app_of c.in_ok-command.command) words c.in-Ok.matches c.in_ok-command.ensures c.in-Ok.ensures.ok.2 in
    let At : Option Text → Type 0 = λ w. IsModelAt w c.model_at.result in
    record {
      taken = at_gpssbench (app_of c.in_ok-command.command) (λ a. fault_of a words ≡ []) c.in_ok-command.ensures c.in-Ok.ensures.kinds;
      model = subst At (c.get_str.ensures ∙ same (codes "model")) c.model_at.ensures;
      options = says_same (first_value (found_of c.in-Ok.matches)) (word_of words) c.in-Ok-options_of.said.options c.in-Ok-options_of.said.workers same
          c.in-Ok-options_of.ensures.ok;
    }

pub returns : goal.returns
returns g c =
    let words : List Text = map g.W.AsStr.text c.args.words.now in
    let same = given_by_words (app_of c.in_ok-command.command) words c.in-Ok.matches c.in_ok-command.ensures c.in-Ok.ensures.ok.2 in
    let taken = at_gpssbench (app_of c.in_ok-command.command) (λ a. fault_of a words ≡ []) c.in_ok-command.ensures c.in-Ok.ensures.kinds in
    refused_by_number words c.number_refusal.result c.number_refusal.ensures taken
    (bad_same (first_value (found_of c.in-Ok.matches)) (word_of words) same c.in-Err-options_of.ensures.err)
