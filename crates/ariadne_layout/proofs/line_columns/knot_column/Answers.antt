use Rattle.std.proofs.Common.{arith, length, ltb, refl, rules, sym, tests}
use Rattle.std.proofs.lemmas.Bool.{ltb-false, ltb-true}
use Rattle.std.proofs.lemmas.List.Sorted.{IsPartitionPoint-from_clause, IsPartitionedBy-ltb}
use Rattle.std.proofs.lemmas.Option.{slice_get_read}
use Rattle.ariadne_layout.specs.declared.line_columns.Knot.{Knot}
use Rattle.ariadne_layout.proofs.Knots.{first-found, none-found, rising-order}
use Rattle.ariadne_layout.proofs.line_columns.knot_column.Goals as goal

-- those before the place come first
pub returns-in-Some : goal.returns-in-Some
returns-in-Some c =
    let k = c.args.place in
    let xs = c.args.knots.now in
    let point = IsPartitionPoint-from_clause (λ (q : Knot). ltb q.place k) xs c.partition_point-index.result c.partition_point-index.ensures.partitioned
    (IsPartitionedBy-ltb (λ (q : Knot). q.place) xs k (rising-order xs c.requires)) (λ a r f' k. search (rules, tests)) in
    let there = (c.in-Some.ensures {u = tt}).lookup in
    let found = slice_get_read xs (length xs) c.partition_point-index.result c.in-Some.knot.now refl
    (ltb-true c.partition_point-index.result (length xs) (sym there.0)) there.1 in
    first-found 0 xs c.partition_point-index.result k c.in-Some.knot.now (λ j d low within. ltb-true _ k (point.0 j d (omega arith) low))
    (λ j d low within. ltb-false _ k (point.1 j d low within)) found

-- there may be none behind
pub returns-in-None : goal.returns-in-None
returns-in-None c =
    let k = c.args.place in
    let xs = c.args.knots.now in
    let point = IsPartitionPoint-from_clause (λ (q : Knot). ltb q.place k) xs c.partition_point-index.result c.partition_point-index.ensures.partitioned
    (IsPartitionedBy-ltb (λ (q : Knot). q.place) xs k (rising-order xs c.requires)) (λ a r f' k. search (rules, tests)) in
    none-found 0 xs c.partition_point-index.result k (λ j d low within. ltb-true _ k (point.0 j d (omega arith) low)) (search rules)
