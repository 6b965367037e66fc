use Rattle.std.proofs.Common.{◌≡◌, ℕ, length, subst, rules}
use Rattle.gw_desk.specs.Texts.{AreTexts}
use Rattle.gw_desk.proofs.desk.Desk.answer_look.Goals as goal

pub text_at-requires-clause-texts : goal.text_at-requires-clause-texts
text_at-requires-clause-texts c =
    let all : length c.self.inside.edits.items ≡ c.len.result = search rules in
    subst (λ (n : ℕ). AreTexts c.self.inside.version n c.self.inside.texts) all c.self.invariant.2

pub invariant_of-self : goal.invariant_of-self
invariant_of-self c =
    let all : c.len.result ≡ length c.self.inside.edits.items = search rules in
    let texts = subst (λ (n : ℕ). AreTexts c.self.inside.version n c.text_at.new.texts) all c.text_at.ensures.texts in
    (c.self.invariant.0, c.self.invariant.1, texts)
