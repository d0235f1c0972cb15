-- Each turn pushes the test of one place.
use Rattle.std.proofs.Common.{ap, ◌∙◌, arith, length}
use Rattle.std.specs.Prelude.{◌||◌}
use Rattle.std.proofs.lemmas.List.{nil_from_length}
use Rattle.branchfit.specs.Far.{is_out}
use Rattle.branchfit.proofs.StepLemmas.{grown_on, grown_end}
use Rattle.branchfit.proofs.far.grown_by.Goals as goal

pub loop-spot-preserved : goal.loop-spot-preserved
loop-spot-preserved c = (
  grown_on c.args.numbers.now c.loop-spot.more.items c.push.new.self.items c.loop-spot.place c.loop-spot.rest.now c.loop-spot.tests.now
      c.take_first-is_far.result.1.now c.in-Some.spot.now c.is_in-comes_in.result c.in-Some.behind.now _ c.loop-spot.invariant.0
      c.in-Some.ensures.cases.0
      c.in_ok-push.ensures.items
      (c.is_in-comes_in.ensures ∙ ap (λ f. f || is_out c.args.numbers.now c.loop-spot.place c.in-Some.spot.now)
      c.take_first-is_far.ensures.first)
      c.take_first-is_far.ensures.others,
  omega (arith, ap length c.in-Some.ensures.cases.0),
)

pub returns : goal.returns
returns c =
    grown_end c.args.numbers.now c.loop-spot.more.items c.loop-spot.place c.loop-spot.rest.now c.loop-spot.tests.now _
    c.loop-spot.invariant.0
    (nil_from_length c.loop-spot.rest.now c.in_default.ensures.cases)
