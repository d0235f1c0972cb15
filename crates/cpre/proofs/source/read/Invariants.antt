use Rattle.std.proofs.Common.{◌≡◌, false, length}
use Rattle.cpre.specs.Closing.{unclosed}
use Rattle.cpre.specs.Expansion.{after_all, start}
use Rattle.cpre.specs.Line.{items}
use Rattle.cpre.specs.Stated.{view, IsSettled}
use Rattle.cpre.proofs.source.read.Given as goal

abbrev pub invariant-loop-rest : goal.invariant-loop-rest
invariant-loop-rest l = record {
  same : after_all (view l.state) (items false l.rest) ≡ after_all start (items false l.tokens);
  settled : IsSettled l.state;
  first : l.unclosed ≡ unclosed l.rest;
}

abbrev pub decreases-loop-rest : goal.decreases-loop-rest
decreases-loop-rest l = length l.rest
