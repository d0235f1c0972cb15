use Rattle.std.proofs.Common.{◌≡◌, ◌∙◌, ap, sym, arith}
use Rattle.ctypes.specs.Room.{Room, member_at}
use Rattle.ctypes.proofs.Rooms.{member_fits, joined_room}
use Rattle.ctypes.proofs.extent.Extent.joined.Goals as goal

pub push_moved-requires : goal.push_moved-requires
push_moved-requires c =
    let m : Room = record { leaves = c.member.inside.leaves.items; bytes = c.member.inside.bytes; widest = c.member.inside.widest } in
    let at = c.member_at-at.ensures ∙ ap (member_at c.args.self) (sym c.member.view_is) in
    rw c.deref.ensures.value (member_fits c.args.self m c.member_at-at.result at (omega (
      arith,
      c.requires,
      ap
          (λ r. r.bytes) c.member.view_is,
    )) c.member.invariant)

pub invariant_of-result : goal.invariant_of-result
invariant_of-result c =
    let s : Room = record { leaves = c.self.inside.leaves.items; bytes = c.self.inside.bytes; widest = c.self.inside.widest } in
    let m : Room = record { leaves = c.member.inside.leaves.items; bytes = c.member.inside.bytes; widest = c.member.inside.widest } in
    let at : c.member_at-at.result ≡ member_at s m =
    c.member_at-at.ensures ∙ (ap (member_at c.args.self) (sym c.member.view_is) ∙ ap (λ r. member_at r m) (sym c.self.view_is)) in
    rw (c.in_ok-push_moved.ensures, c.deref.ensures.value, c.wider.ensures, at) (joined_room s m c.self.invariant c.member.invariant)
