-- The lines so far, and what is left.
use Rattle.std.proofs.Common.{◌≡◌, length}
use Rattle.certtext.specs.Order.{start, place_behind}
use Rattle.certtext.specs.Reading.{IsSoFar}
use Rattle.certtext.proofs.read.read_rest.Given as goal

abbrev pub invariant-said : goal.invariant-said
invariant-said l = record {
  so_far : IsSoFar l.fn.edition l.fn.lines.text l.fn.lines.number l.said.items l.lines.text l.lines.number;
  here : l.place ≡ place_behind start l.said.items;
}

abbrev pub decreases-said : goal.decreases-said
decreases-said l = length l.lines.text
