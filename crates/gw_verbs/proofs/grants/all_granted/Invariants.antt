use Rattle.std.proofs.Common.{◌≡◌, ◌+◌, ◌-◌, ◌≤◌, ◌^◌, drop}
use Rattle.gw_meaning.specs.Records.{capped}
use Rattle.gw_meaning.specs.Step.{all_granted}
use Rattle.gw_verbs.proofs.grants.all_granted.Given as goal

abbrev pub invariant-loop-grant : goal.invariant-loop-grant
invariant-loop-grant l = record {
  fits : l.sum ≤ 2 ^ 64 - 1;
  rest : capped (l.sum + all_granted (drop l.grant-index l.grants)) ≡ capped (all_granted l.grants);
}
