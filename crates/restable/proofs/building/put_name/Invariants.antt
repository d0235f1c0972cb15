use Rattle.std.proofs.Common.{◌≡◌, ◌-◌, ◌++◌, length, replicate}
use Rattle.restable.proofs.building.put_name.Given as goal

abbrev pub invariant-loop : goal.invariant-loop
invariant-loop l = l.out.items ≡ (l.fn.out.items ++ l.name) ++ replicate (l.counter - length l.name) 0
