use Rattle.std.specs.Prelude.{IfSome}
use Rattle.midcode.specs.Function.{IsNode}
use Rattle.midfold.proofs.unread.find_values.Given as goal

abbrev pub invariant-loop : goal.invariant-loop
invariant-loop l = IfSome l.at (IsNode l.f.nodes)
