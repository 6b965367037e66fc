use Rattle.std.proofs.Common.{◌∙◌, List, ℕ, ap, sym}
use Rattle.gw_desk.specs.Texts.{AreTexts, ready}
use Rattle.gw_desk.proofs.TextLaws.{texts_fewer, texts_more}
use Rattle.gw_desk.proofs.queries.text_at.Goals.{in-Ok, in_default-from_slice}
use Rattle.gw_desk.proofs.queries.text_at.Goals as goal

pub returns-in-Some-clause-texts : goal.returns-in-Some-clause-texts
returns-in-Some-clause-texts c =
    texts_fewer c.args.version.now c.args.place.edits c.args.texts.now c.use_again.new.self c.requires.texts c.use_again.ensures

pub returns-clause-texts : goal.returns-clause-texts
returns-clause-texts c =
    let t = c.args.version.now in
    let p = c.args.place in
    let has : AreTexts t p.edits c.match-from_slice.texts = elim c.match-from_slice.branch [
      | in-Ok w ↦
          let is = w.from_vec-in-Ok.ensures ∙ (w.in-Ok.ensures.items ∙ (c.as_slice-2.ensures.value ∙ c.in_ok-text-2.ensures)) in
          rw w.texts-is (texts_more t p w.from_vec-in-Ok.result c.args.texts.now w.put.new.self c.requires.texts
          (c.requires.answer ∙ ap (λ (x : List ℕ). ready p x) (sym is)) w.put.ensures)
      | in_default-from_slice w ↦ rw w.texts-is c.requires.texts
    ] in
    has
