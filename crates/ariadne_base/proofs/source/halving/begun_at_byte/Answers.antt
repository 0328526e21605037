use Rattle.std.proofs.Common.{leb, rules}
use Rattle.std.proofs.lemmas.List.Sorted.{IsPartitionPoint-from_clause, IsPartitionedBy-leb}
use Rattle.ariadne_base.specs.declared.source.start.Start.{Start}
use Rattle.ariadne_base.proofs.source.halving.begun_at_byte.Goals as goal

-- lines that rise are parted by the offset, and the closure tells the two parts
pub returns-clause-point : goal.returns-clause-point
returns-clause-point c =
    let parted = IsPartitionedBy-leb (λ (s : Start). s.bytes) _ c.args.offset c.requires in
    IsPartitionPoint-from_clause (λ (s : Start). leb s.bytes c.args.offset) _ _ c.partition_point.ensures.partitioned parted
    (λ a r q k. search rules)
