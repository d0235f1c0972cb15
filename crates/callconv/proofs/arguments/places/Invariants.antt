use Rattle.std.proofs.Common.{◌≡◌, ◌+◌, ◌*◌, ◌≤◌, ◌++◌, length, map, take, drop}
use Rattle.prunum.specs.Width.{byte_count}
use Rattle.midcode.specs.Operation.{parameters}
use Rattle.callconv.specs.Places.{first_byte, field_size, argument_bytes}
use Rattle.callconv.proofs.arguments.places.Given as goal

abbrev pub invariant-loop-i : goal.invariant-loop-i
invariant-loop-i l = record {
  bytes : map first_byte (take l.i l.fields) ++ argument_bytes l.at (drop l.i (parameters l.signature))
      ≡ argument_bytes 56 (parameters l.signature);
  sizes : map field_size (take l.i l.fields) ≡ map byte_count (take l.i (parameters l.signature));
  room : l.at ≤ 56 + 4 * l.i;
  eight : length l.fields ≡ 8;
}
