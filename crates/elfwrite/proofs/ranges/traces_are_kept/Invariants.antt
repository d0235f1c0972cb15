use Rattle.std.proofs.Common.{take}
use Rattle.std.specs.List.{AllByRecursion}
use Rattle.restable.specs.Tables.{IsTrace}
use Rattle.elfwrite.proofs.ranges.traces_are_kept.Given as goal

abbrev pub invariant-loop-trace : goal.invariant-loop-trace
invariant-loop-trace l = AllByRecursion IsTrace (take l.trace-index l.traces)
