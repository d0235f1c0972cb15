use Rattle.std.proofs.Common.{rules}
use Rattle.std.proofs.lemmas.List.Sorted.{IsNonDecreasingBy-from_sort_by_key}
use Rattle.subreg.specs.declared.home.Interval.{Interval}
use Rattle.livespan.proofs.Listing.{sorted-spans}
use Rattle.livespan.proofs.spans.intervals.Goals as goal

pub returns : goal.returns
returns c =
    sorted-spans c.args.f.now c.in_ok-spans.spans.items c.sort_by_key.new.self.items c.operations.ensures.valid c.in_ok-spans.ensures
    c.in_ok-sort_by_key.ensures.permutation
    (IsNonDecreasingBy-from_sort_by_key (λ (s : Interval). s.from) _ c.in_ok-sort_by_key.ensures.sorted (λ a r q k. search rules))
