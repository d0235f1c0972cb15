use Rattle.std.proofs.Common.{◌≡◌, length}
use Rattle.subreg.proofs.Placed.{Placed}
use Rattle.subreg.proofs.scan.allocate_spans.Given as goal

abbrev pub invariant-loop-span : goal.invariant-loop-span
invariant-loop-span l = record {
  bytes : length l.free_from ≡ 104;
  placed : Placed l.registers l.spans l.span-index l.homes.items l.free_from l.slots;
}
