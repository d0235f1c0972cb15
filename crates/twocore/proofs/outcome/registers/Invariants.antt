use Rattle.std.proofs.Common.{◌≡◌, map}
use Rattle.std.specs.List.{range_with_len}
use Rattle.corestep.specs.Fields.{register}
use Rattle.twocore.specs.Word.{filled}
use Rattle.twocore.proofs.outcome.registers.Given as goal

-- so many registers are read
abbrev pub invariant-loop-r : goal.invariant-loop-r
invariant-loop-r l = l.regs ≡ filled 31 (map (register l.core.registers) (range_with_len 0 l.r))
