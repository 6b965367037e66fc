use Rattle.std.proofs.Common.{leb, rules}
use Rattle.std.proofs.lemmas.List.Sorted.{IsPartitionPoint-from_clause, IsPartitionedBy-leb}
use Rattle.gw_record.specs.declared.kept.Kept.{Kept}
use Rattle.gw_record.proofs.kept.count_until.Goals as goal

pub returns-clause-parts : goal.returns-clause-parts
returns-clause-parts c = λ rising.
    let parted = IsPartitionedBy-leb (λ (s : Kept). s.moment) _ c.args.moment rising in
    IsPartitionPoint-from_clause (λ (s : Kept). leb s.moment c.args.moment) _ _ c.partition_point.ensures.partitioned parted (λ a r q k. search rules)
