use Rattle.std.proofs.Common.{◌≤◌}
use Rattle.cprogram.specs.declared.value.Operands.{size-Operands}
use Rattle.cprogram.proofs.value.+value.Given as goal

-- what is left of the list is no deeper than the list
abbrev pub invariant-Operands::drop-loop-self : goal.invariant-Operands::drop-loop-self
invariant-Operands::drop-loop-self l = size-Operands l.self ≤ size-Operands l.initial.self
