use Rattle.std.proofs.Common.{rules, ◌≡◌, subst}
use Rattle.gw_retry.specs.Readings.{Keeps}
use Rattle.gw_retry.proofs.readings.SharedReadings.add.Goals as goal

pub returns-in_ok-place-in-Shared-clause-lists : goal.returns-in_ok-place-in-Shared-clause-lists
returns-in_ok-place-in-Shared-clause-lists c =
    let same : c.in_ok-own-in-Shared.own.lists ≡ c.args.self.now.lists = search rules in
    subst (λ ls. Keeps ls c.learn-in-Shared.new.self.lists) same c.learn-in-Shared.ensures.lists
