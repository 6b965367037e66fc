use Rattle.std.proofs.Common.{ltb, rules, ℕ}
use Rattle.std.proofs.lemmas.List.Sorted.{IsPartitionPoint-from_clause, IsPartitionedBy-ltb}
use Rattle.gw_record.proofs.kept.count_before.Goals as goal

pub returns-clause-parts : goal.returns-clause-parts
returns-clause-parts c = λ rising.
    let parted = IsPartitionedBy-ltb (λ (m : ℕ). m) _ c.args.moment rising in
    IsPartitionPoint-from_clause (λ (m : ℕ). ltb m c.args.moment) _ _ c.partition_point.ensures.partitioned parted (λ a r q k. search rules)
