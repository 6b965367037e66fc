use Rattle.std.proofs.Common.{◌≡◌, ◌++◌, ◌∷◌, List, ℕ, [], append_assoc}
use Rattle.gw_report.specs.Report.{title_text, field_text, outcome_text}
use Rattle.gw_report.proofs.title.put_title.Goals as goal

title_joined : (out a b c word p q r s t u : List ℕ) → p ≡ out ++ a → q ≡ p ++ b → r ≡ q ++ c → s ≡ r ++ 32 ∷ [] → t ≡ s ++ word → u ≡ t ++ 10 ∷ [] → u ≡ out ++
    (a ++ b ++ c ++ 32 ∷ word ++ 10 ∷ [])
title_joined out a b c word p q r s t u e f g h i j = rw (j, i, h, g, f, e) (simp append_assoc)

pub returns : goal.returns
unfolding title_text
returns c =
    title_joined c.args.out.now.items (field_text _ c.args.rep) (field_text _ c.args.seed) (field_text _ c.args.k) (outcome_text c.args.outcome)
    c.put_field.new.out.items c.put_field-2.new.out.items c.put_field-3.new.out.items c.push.new.self.items c.put_outcome.new.out.items c.push-2.new.self.items
    c.in_ok-put_field.ensures c.in_ok-put_field-2.ensures c.in_ok-put_field-3.ensures c.in_ok-push.ensures.items c.in_ok-put_outcome.ensures
    c.in_ok-push-2.ensures.items
