use Rattle.std.proofs.Common.{◌≡◌, length, map}
use Rattle.csyn.specs.Table.{spelled}
use Rattle.cpre.proofs.table.exact.Given as goal

abbrev pub invariant-loop-rest : goal.invariant-loop-rest
invariant-loop-rest g l = spelled (map (λ e. (e.0.now, e.1)) l.rest) l.word ≡ spelled (map (λ e. (e.0.now, e.1)) l.fn.table) l.word

abbrev pub decreases-loop-rest : goal.decreases-loop-rest
decreases-loop-rest g l = length l.rest
