use Rattle.ctypes.specs.Room.{Room}
use Rattle.ctypes.proofs.Rooms.{closed_room}
use Rattle.ctypes.proofs.extent.Extent.closed.Goals as goal

pub invariant_of-result : goal.invariant_of-result
invariant_of-result c =
    let r : Room = record { leaves = c.self.inside.leaves.items; bytes = c.self.inside.bytes; widest = c.self.inside.widest } in
    rw (c.rounded.ensures, c.bytes.ensures) (closed_room r c.self.invariant)
