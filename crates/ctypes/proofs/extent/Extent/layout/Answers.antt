use Rattle.ctypes.specs.Room.{Room}
use Rattle.ctypes.proofs.Rooms.{layout_of}
use Rattle.ctypes.proofs.extent.Extent.layout.Goals as goal

pub new-requires-2 : goal.new-requires-2
new-requires-2 c =
    let r : Room = record { leaves = c.self.inside.leaves.items; bytes = c.self.inside.bytes; widest = c.self.inside.widest } in
    rw c.new.ensures (layout_of r c.args.self c.args.count c.self.view_is c.self.invariant c.requires.some_leaf c.requires.closed
    c.requires.some_element c.requires.small)
