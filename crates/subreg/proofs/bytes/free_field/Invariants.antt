use Rattle.std.proofs.Common.{◌<◌}
use Rattle.isa.specs.declared.field.Field.{Field}
use Rattle.callconv.specs.Places.{first_byte, field_size}
use Rattle.subreg.specs.Allocation.{IsField}
use Rattle.subreg.specs.Bytes.{IsHeld}
use Rattle.subreg.proofs.bytes.free_field.Given as goal

abbrev pub invariant-loop-first : goal.invariant-loop-first
invariant-loop-first l =
    (g : Field) → IsField g l.fn.width → first_byte g < l.first → IsHeld l.free_from (first_byte g) (field_size g) l.place
