-- Each turn pushes the number of one place.
use Rattle.std.proofs.Common.{ap, ◌∙◌, arith, length}
use Rattle.std.proofs.lemmas.List.{nil_from_length}
use Rattle.branchfit.specs.Far.{width}
use Rattle.branchfit.proofs.StepLemmas.{numbers_on, numbers_end}
use Rattle.branchfit.proofs.far.numbers_of.Goals as goal

pub loop-spot-preserved : goal.loop-spot-preserved
loop-spot-preserved c = (
  numbers_on c.loop-spot.numbers.items c.push.new.self.items c.loop-spot.here c.width-wide.result c.loop-spot.rest.now c.loop-spot.tests.now
      c.take_first-is_far.result.1.now c.in-Some.spot.now c.in-Some.behind.now _ c.loop-spot.invariant.0 c.in-Some.ensures.cases.0
      c.in_ok-push.ensures.items
      (c.width-wide.ensures.value ∙ ap (width c.in-Some.spot.now.reach) c.take_first-is_far.ensures.first)
      c.take_first-is_far.ensures.others,
  omega (arith, ap length c.in-Some.ensures.cases.0),
)

pub returns : goal.returns
returns c =
    numbers_end c.loop-spot.numbers.items c.push-2.new.self.items c.loop-spot.here c.loop-spot.rest.now c.loop-spot.tests.now _
    c.loop-spot.invariant.0
    (nil_from_length c.loop-spot.rest.now c.in_default.ensures.cases) c.in_ok-push-2.ensures.items
