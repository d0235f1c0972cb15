use Rattle.std.proofs.Common.{◌≡◌, length, map}
use Rattle.clex.specs.Reading.{front_in}
use Rattle.clex.proofs.table.front.Given as goal

abbrev pub invariant-loop-rest : goal.invariant-loop-rest
invariant-loop-rest l = front_in (map (λ e. (e.0.now, e.1)) l.rest) l.text ≡ front_in (map (λ e. (e.0.now, e.1)) l.fn.table) l.text

abbrev pub decreases-loop-rest : goal.decreases-loop-rest
decreases-loop-rest l = length l.rest
