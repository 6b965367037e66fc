use Rattle.std.proofs.Common.{◌≡◌, true, sym, ◌∙◌}
use Rattle.gw_meaning.specs.declared.item.Item.{Item}
use Rattle.gw_meaning.specs.Reads.{first_use}
use Rattle.gw_uses.specs.Steps.{step_of}
use Rattle.gw_uses.specs.Asks.{is_ask}
use Rattle.gw_uses.proofs.AskLaws.{asked_noted, first_asked}
use Rattle.gw_record.proofs.recorded.Recorded.first_ask.Goals as goal

pub returns : goal.returns
returns c = λ t seed h.
    let kept = rw (← c.self.view_is) at h in
    let name = c.args.name.now in
    let firsts = c.self.inside.notes.firsts in
    let asked = rw c.firsts.ensures at c.first_ask.ensures in
    let noted : (q : Item) → is_ask name c.args.from c.args.to q ≡ true → step_of firsts.others q ≡ first_use q t seed c.self.inside.moment =
    λ q asks. sym (asked_noted name c.args.from c.args.to firsts q asks) ∙ kept.firsts.each q in
    rw (← c.self.view_is)
    (asked.least ∙ first_asked name c.args.from c.args.to t seed c.self.inside.moment firsts.others asked.apart noted)
