use Rattle.std.proofs.Common.{◌≡◌, List, [], None, subst, rules}
use Rattle.gw_names.specs.declared.key.Key.{Key}
use Rattle.gw_meaning.specs.declared.watched.Watched.{Watched}
use Rattle.gw_asking.specs.Deciding.{Comes}
use Rattle.gw_meaning.specs.Step.{gate_at}
use Rattle.gw_asking.proofs.Binding.{decides_comes}
use Rattle.gw_verbs.proofs.gate.gate_at.Goals as goal

pub returns-in-Some : goal.returns-in-Some
returns-in-Some c = rw c.in-Some.is (c.gate_or_lead.ensures [])

pub returns-in_ok-clone-in-None : goal.returns-in_ok-clone-in-None
returns-in_ok-clone-in-None c =
    let t = c.args.context.run.version.now in
    let seed = c.args.context.run.seed in
    let s = c.args.context.state.now in
    let none : c.new-read.result.items ≡ [] = search rules in
    let own : c.in_ok-clone-in-None.field-0 ≡ c.args.key.now = search rules in
    let here = subst (λ (k : Key). Comes (gate_at s c.args.id c.args.condition None k c.new-read.result.items c.args.capacity) c.gate_or_wait.result) own
    c.gate_or_wait.ensures in
    let comes = subst (λ (list : List Watched). Comes (gate_at s c.args.id c.args.condition None c.args.key.now list c.args.capacity) c.gate_or_wait.result)
    none here in
    rw c.in-None.is (decides_comes t seed (gate_at s c.args.id c.args.condition None c.args.key.now [] c.args.capacity) c.gate_or_wait.result _ comes)
