use Rattle.std.proofs.Common.{◌≤◌}
use Rattle.csyn.specs.declared.expression.Exprs.{size-Exprs}
use Rattle.csyn.proofs.+expr.Given as goal

-- what is left of the list is no deeper than the list
abbrev pub invariant-expression::Exprs::drop-loop-self : goal.invariant-expression::Exprs::drop-loop-self
invariant-expression::Exprs::drop-loop-self l = size-Exprs l.self ≤ size-Exprs l.initial.self
