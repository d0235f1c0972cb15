-- The places that are found are the labels' places.
use Rattle.branchfit.proofs.PlaceLemmas.{spots_are}
use Rattle.branchfit.proofs.spot.spots_of.Goals as goal

pub returns : goal.returns
returns c = spots_are c.args.items.now c.in_ok-places.places c.in_ok-spots.spots.items c.in_ok-places.ensures c.in_ok-spots.ensures
