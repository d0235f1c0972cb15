use Rattle.std.proofs.Common.{◌≡◌, nat_lt, nat_le, drop, ◌∙◌, rules}
use Rattle.std.proofs.lemmas.List.Sorted.{IsPartitionPoint-from_clause, IsPartitionedBy-leb, IsPartitionedBy-ltb}
use Rattle.corestep.proofs.NoteLemmas.{words_rise, rest_rises, points}
use Rattle.corestep.proofs.marks.notes_of.Goals as goal

pub returns : goal.returns
returns c =
    let w = c.args.word in
    let notes = c.args.notes.now in
    let rest = c.split_at.result.1.now in
    let is : rest ≡ drop c.partition_point-from.result notes = c.split_at.ensures.back in
    let first = IsPartitionPoint-from_clause
    (λ n. nat_lt n.word w) notes c.partition_point-from.result c.partition_point-from.ensures.partitioned
    (IsPartitionedBy-ltb (λ n. n.word) notes w (words_rise notes c.requires)) (λ a r q k. search rules) in
    let last = IsPartitionPoint-from_clause
    (λ n. nat_le n.word w) rest c.partition_point-count.result c.partition_point-count.ensures.partitioned
    (IsPartitionedBy-leb (λ n. n.word) rest w (rest_rises notes rest c.partition_point-from.result c.requires is))
    (λ a r q k. search rules) in
    c.split_at-2.ensures.front
    ∙ points w notes rest c.partition_point-from.result c.partition_point-count.result is c.partition_point-from.ensures.bound
    c.partition_point-count.ensures.bound first last
