use Rattle.std.proofs.Common.{◌≤◌}
use Rattle.cprogram.specs.declared.statement.Items.{size-Items}
use Rattle.cprogram.specs.declared.statement.SwitchItems.{size-SwitchItems}
use Rattle.cprogram.proofs.statement.+stmt.Given as goal

-- what is left of the list is no deeper than the list
abbrev pub invariant-Items::drop-loop-self : goal.invariant-Items::drop-loop-self
invariant-Items::drop-loop-self l = size-Items l.self ≤ size-Items l.initial.self

abbrev pub invariant-SwitchItems::drop-loop-self : goal.invariant-SwitchItems::drop-loop-self
invariant-SwitchItems::drop-loop-self l = size-SwitchItems l.self ≤ size-SwitchItems l.initial.self
