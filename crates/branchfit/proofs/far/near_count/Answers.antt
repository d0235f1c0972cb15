-- Each turn counts one place.
use Rattle.std.proofs.Common.{ap, arith, length}
use Rattle.std.proofs.lemmas.List.{nil_from_length}
use Rattle.branchfit.proofs.StepLemmas.{near_on, near_end}
use Rattle.branchfit.proofs.far.near_count.Goals as goal

pub loop-is_far-preserved : goal.loop-is_far-preserved
loop-is_far-preserved c = (
  near_on c.loop-is_far.count c.one_near-one.result c.loop-is_far.rest.now c.in-Some.is_far.now c.in-Some.behind.now _
      c.loop-is_far.invariant.0
      c.in-Some.ensures.cases.0 c.one_near-one.ensures.value,
  omega (arith, ap length c.in-Some.ensures.cases.0),
)

pub returns : goal.returns
returns c =
    near_end c.loop-is_far.count c.loop-is_far.rest.now _ c.loop-is_far.invariant.0
    (nil_from_length c.loop-is_far.rest.now c.in_default.ensures.cases)
