use Rattle.std.proofs.Common.{◌≡◌, length}
use Rattle.twocore.specs.World.{all_led_out}
use Rattle.twocore.proofs.store.lead_out.Given as goal

-- what is left to lead out
abbrev pub invariant-loop-event : goal.invariant-loop-event
invariant-loop-event l = all_led_out l.core l.world l.rest ≡ all_led_out l.core l.initial.world l.events

abbrev pub decreases-loop-event : goal.decreases-loop-event
decreases-loop-event l = length l.rest
