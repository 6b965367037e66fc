use Rattle.std.proofs.Common.{◌≡◌, None, cond, Some, rules}
use Rattle.gw_meaning.specs.Reads.{same_item}
use Rattle.gw_uses.specs.Steps.{step_of}
use Rattle.gw_uses.proofs.NoteLaws.{noted_new}
use Rattle.gw_uses.proofs.item_steps.ItemSteps.note_at.Goals.{then-len-lt-SLOTS+in_ok-resize, else-len-lt-SLOTS}
use Rattle.gw_uses.proofs.item_steps.ItemSteps.note_at.Goals as goal

pub returns-in_ok-insert-in-None-clause-ok : goal.returns-in_ok-insert-in-None-clause-ok
returns-in_ok-insert-in-None-clause-ok c = λ q.
    let old = c.if-len-lt-SLOTS.self-inside.steps.entries in
    let same : old ≡ c.self.inside.steps.entries =
    elim c.if-len-lt-SLOTS.branch [ then-len-lt-SLOTS+in_ok-resize w ↦ search rules | else-len-lt-SLOTS w ↦ search rules ] in
    let item = c.args.item.now in
    let copied : c.in_ok-clone-in-None.field-0 ≡ item = search rules in
    let none : step_of old item ≡ None = search rules in
    let is : step_of c.insert.new.self.entries q ≡ cond (same_item item q) (Some c.args.step) (step_of old q) =
    rw copied at (c.in_ok-insert-in-None.ensures.updates.0 q) in
    rw (← c.self.view_is, ← same) (noted_new old c.insert.new.self.entries item q c.args.step none is)
