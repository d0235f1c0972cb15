-- Each turn takes one item.
use Rattle.std.proofs.Common.{ap, arith, length}
use Rattle.std.proofs.lemmas.List.{nil_from_length}
use Rattle.branchfit.proofs.PlaceLemmas.{knows_next, knows_end}
use Rattle.branchfit.proofs.StepLemmas.{place_few}
use Rattle.branchfit.proofs.spot.places_of.Goals as goal

pub loop-item-preserved : goal.loop-item-preserved
loop-item-preserved c = (
  knows_next c.args.items.now c.loop-item.place c.place_behind-next.result c.loop-item.rest.now c.loop-item.places c.put_label.new.places
      c.in-Some.item.now c.in-Some.behind.now c.loop-item.invariant.0 c.in-Some.ensures.cases.0 c.in_ok-put_label.ensures
      c.place_behind-next.ensures,
  omega (arith, ap length c.in-Some.ensures.cases.0, c.place_behind-next.ensures, place_few c.loop-item.place c.in-Some.item.now),
)

pub returns : goal.returns
returns c =
    knows_end c.args.items.now c.loop-item.place c.loop-item.rest.now c.loop-item.places c.loop-item.invariant.0
    (nil_from_length c.loop-item.rest.now c.in_default.ensures.cases)
