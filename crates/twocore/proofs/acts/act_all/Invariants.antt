use Rattle.std.proofs.Common.{◌≡◌, length}
use Rattle.std.specs.List.{AllByRecursion}
use Rattle.hostscript.specs.Acts.{IsAct}
use Rattle.twocore.specs.Machine.{all_acted}
use Rattle.twocore.proofs.acts.act_all.Given as goal

-- what is left to do
abbrev pub invariant-loop-next : goal.invariant-loop-next
invariant-loop-next l =
    (all_acted (record { own = l.own; other = l.other; world = l.world }) l.rest
    ≡ all_acted (record { own = l.initial.own; other = l.initial.other; world = l.initial.world }) l.acts)
    × AllByRecursion IsAct l.rest

abbrev pub decreases-loop-next : goal.decreases-loop-next
decreases-loop-next l = length l.rest
