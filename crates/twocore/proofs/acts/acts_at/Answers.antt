use Rattle.std.proofs.Common.{◌≡◌, nat_lt, nat_le, drop, ◌∙◌, rules}
use Rattle.std.proofs.lemmas.List.Sorted.{IsPartitionPoint-from_clause, IsPartitionedBy-leb, IsPartitionedBy-ltb}
use Rattle.twocore.proofs.ActLemmas.{rest_rises, points}
use Rattle.twocore.proofs.acts.acts_at.Goals as goal

pub returns : goal.returns
returns c =
    let t = c.args.t in
    let acts = c.args.acts.now in
    let rest = c.split_at.result.1.now in
    let is : rest ≡ drop c.partition_point-from.result acts = c.split_at.ensures.back in
    let first = IsPartitionPoint-from_clause
    (λ a. nat_lt a.cycle t) acts c.partition_point-from.result c.partition_point-from.ensures.partitioned
    (IsPartitionedBy-ltb (λ a. a.cycle) acts t c.requires) (λ a r q k. search rules) in
    let last = IsPartitionPoint-from_clause
    (λ a. nat_le a.cycle t) rest c.partition_point-count.result c.partition_point-count.ensures.partitioned
    (IsPartitionedBy-leb (λ a. a.cycle) rest t (rest_rises acts rest c.partition_point-from.result c.requires is))
    (λ a r q k. search rules) in
    c.split_at-2.ensures.front
    ∙ points t acts rest c.partition_point-from.result c.partition_point-count.result is c.partition_point-from.ensures.bound
    c.partition_point-count.ensures.bound first last
