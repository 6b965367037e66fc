-- Every move but the entry of a block writes nothing, so that nobody wakes.
use Rattle.std.proofs.Common.{rules, ◌≡◌, OnOk, [], refl}
use Rattle.gw_meaning.specs.declared.moves.Move.{Move}
use Rattle.gw_meaning.specs.Machine.{Machine}
use Rattle.gw_meaning.specs.Changes.{moved, written, woken}
use Rattle.gw_state.specs.States.{machine_of}
use Rattle.gw_state.proofs.Quiet.{unwoken}
use Rattle.gw_state.proofs.parts.Parts.make.Goals as goal

quiet : (s : Machine) (to : Move) (P : Machine → Type 0) → written s to ≡ [] → P (moved s to) → P (woken (written s to) (moved s to))
quiet s to P none done = unwoken P (written s to) (moved s to) none done

pub returns-in-Start-clause-ok : goal.returns-in-Start-clause-ok
returns-in-Start-clause-ok c =
    quiet (machine_of c.args.self.now) c.args.to (λ v. OnOk c.begin.result (machine_of c.begin.new.self ≡ v))
    (rw c.in-Start.is refl) (search rules)

pub returns-in-Command-clause-ok : goal.returns-in-Command-clause-ok
returns-in-Command-clause-ok c =
    quiet (machine_of c.args.self.now) c.args.to (λ v. machine_of (record c.args.self.now { progress = c.count_command.new.self }) ≡ v)
    (rw c.in-Command.is refl) (search rules)

pub returns-in-Reset-clause-ok : goal.returns-in-Reset-clause-ok
returns-in-Reset-clause-ok c =
    quiet (machine_of c.args.self.now) c.args.to (λ v. OnOk c.reset.result (machine_of c.reset.new.self ≡ v))
    (rw c.in-Reset.is refl) (search rules)

pub returns-in-Clear-clause-ok : goal.returns-in-Clear-clause-ok
returns-in-Clear-clause-ok c =
    quiet (machine_of c.args.self.now) c.args.to (λ v. machine_of c.clear.new.self ≡ v)
    (rw c.in-Clear.is refl) (search rules)

pub returns-in-Refuse-clause-ok : goal.returns-in-Refuse-clause-ok
returns-in-Refuse-clause-ok c =
    quiet (machine_of c.args.self.now) c.args.to (λ v. OnOk c.refuse.result (machine_of c.refuse.new.self ≡ v))
    (rw c.in-Refuse.is refl) (search rules)

pub returns-in-Watch-clause-ok : goal.returns-in-Watch-clause-ok
returns-in-Watch-clause-ok c =
    quiet (machine_of c.args.self.now) c.args.to (λ v. OnOk c.watch.result (machine_of c.watch.new.self ≡ v))
    (rw c.in-Watch.is refl) (search rules)

pub returns-in-Pick-clause-ok : goal.returns-in-Pick-clause-ok
returns-in-Pick-clause-ok c =
    quiet (machine_of c.args.self.now) c.args.to (λ v. machine_of c.pick.new.self ≡ v)
    (rw c.in-Pick.is refl) (search rules)

pub returns-in-Clock-clause-ok : goal.returns-in-Clock-clause-ok
returns-in-Clock-clause-ok c =
    quiet (machine_of c.args.self.now) c.args.to (λ v. OnOk c.go_on.result (machine_of c.go_on.new.self ≡ v))
    (rw c.in-Clock.is refl) (search rules)
