use Rattle.std.proofs.Common.{◌≤◌}
use Rattle.csyn.specs.declared.declaration.Inits.{size-Inits}
use Rattle.csyn.proofs.+init.Given as goal

-- what is left of the list is no deeper than the list
abbrev pub invariant-declaration::Inits::drop-loop-self : goal.invariant-declaration::Inits::drop-loop-self
invariant-declaration::Inits::drop-loop-self l = size-Inits l.self ≤ size-Inits l.initial.self
