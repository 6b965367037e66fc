use Rattle.std.proofs.Common.{◌<◌, length, subst, arith}
use Rattle.gw_meaning.specs.declared.edit.Edit.{Edit}
use Rattle.gw_desk.specs.Surviving.{Passes}
use Rattle.gw_desk.proofs.FateLaws.{lives_none, lives_at, dead_at}
use Rattle.gw_desk.proofs.survive.survives.Goals as goal

pub loop-edit-init : goal.loop-edit-init
loop-edit-init c = lives_none c.args.version.now c.args.rep c.args.run.now

pub loop-edit-preserved : goal.loop-edit-preserved
loop-edit-preserved c =
    let within : c.loop-edit.edit-index < length c.args.later.now = omega arith in
    lives_at c.args.version.now c.loop-edit.version c.pass.new.version c.args.later.now c.loop-edit.edit-index c.args.rep c.edit-item.result c.args.run.now c.loop-edit.run
    c.pass.new.run within c.loop-edit.invariant c.in_ok-pass.field-0
    (subst (λ (e : Edit). Passes c.loop-edit.version e c.args.rep c.loop-edit.run c.pass.new.version c.pass.new.run c.in_ok-pass.field-0) c.edit-item.is
    c.in_ok-pass.ensures) c.if-not-branch.false

pub returns-then-not-branch : goal.returns-then-not-branch
returns-then-not-branch c =
    let within : c.loop-edit.edit-index < length c.args.later.now = omega arith in
    dead_at c.args.version.now c.loop-edit.version c.pass.new.version c.args.later.now c.loop-edit.edit-index c.args.rep c.edit-item.result c.args.run.now c.loop-edit.run
    c.pass.new.run within c.loop-edit.invariant c.in_ok-pass.field-0
    (subst (λ (e : Edit). Passes c.loop-edit.version e c.args.rep c.loop-edit.run c.pass.new.version c.pass.new.run c.in_ok-pass.field-0) c.edit-item.is
    c.in_ok-pass.ensures) c.if-not-branch.true
