use Rattle.std.proofs.Common.{◌≡◌, ◌+◌, ◌≤◌, refl, ap, arith}
use Rattle.slab.specs.Slab.{Slab, slab_len}
use Rattle.linkarena.specs.Lists.{Lists}
use Rattle.linkarena.specs.Links.{Store, store_of, lists_of}
use Rattle.linkarena.specs.declared.links.Node.{Node}
use Rattle.linkarena.proofs.ViewLemmas.{lists_of-held}
use Rattle.linkarena.proofs.ArenaLemmas.{held_by, seen, holds_room, len_room, room_kept, same_view, on_err}
use Rattle.linkarena.proofs.arena.Arena.reserve.Goals as goal

pub invariant_of-self : goal.invariant_of-self
invariant_of-self g c =
    let T = g.row.T.Denot in
    let lists = c.args.self.now.lists in
    let s = store_of c.self.inside.links in
    let u : Store T = record { nodes = c.reserve.new.self; ends = s.ends } in
    let held = held_by s lists (ap (λ (m : Lists T). m.lists) c.self.view_is) c.self.invariant.0 in
    let slots : u.nodes.slots ≡ s.nodes.slots = ap (λ (n : Slab (Node T)). n.slots) c.reserve.ensures.rest_kept in
    let len = len_room s u slots in
    let old = c.self.invariant.1 in (
      seen u lists (holds_room s u lists refl slots held),
      room_kept s.nodes u.nodes c.self.inside.spare c.self.inside.spare old
          (omega (arith, len)) (omega (arith, len)) c.reserve.ensures.capacity,
    )

pub returns-in_err-reserve-clause-lists : goal.returns-in_err-reserve-clause-lists
returns-in_err-reserve-clause-lists g c =
    let T = g.row.T.Denot in
    let lists = c.args.self.now.lists in
    let s = store_of c.self.inside.links in
    let u : Store T = record { nodes = c.reserve.new.self; ends = s.ends } in
    let held = held_by s lists (ap (λ (m : Lists T). m.lists) c.self.view_is) c.self.invariant.0 in
    let slots : u.nodes.slots ≡ s.nodes.slots = ap (λ (n : Slab (Node T)). n.slots) c.reserve.ensures.rest_kept in
    lists_of-held u lists (holds_room s u lists refl slots held)

pub returns-in_err-reserve-clause-err : goal.returns-in_err-reserve-clause-err
returns-in_err-reserve-clause-err g c =
    let T = g.row.T.Denot in
    let lists = c.args.self.now.lists in
    let s = store_of c.self.inside.links in
    let u : Store T = record { nodes = c.reserve.new.self; ends = s.ends } in
    let held = held_by s lists (ap (λ (m : Lists T). m.lists) c.self.view_is) c.self.invariant.0 in
    let slots : u.nodes.slots ≡ s.nodes.slots = ap (λ (n : Slab (Node T)). n.slots) c.reserve.ensures.rest_kept in
    on_err _ c.from_residual.result (same_view c.args.self.now (lists_of u) c.self.inside.spare
    (lists_of-held u lists (holds_room s u lists refl slots held)) (ap (λ (m : Lists T). m.spare) c.self.view_is))

pub invariant_of-self-2 : goal.invariant_of-self-2
invariant_of-self-2 g c =
    let T = g.row.T.Denot in
    let lists = c.args.self.now.lists in
    let s = store_of c.self.inside.links in
    let u : Store T = record { nodes = c.reserve.new.self; ends = s.ends } in
    let held = held_by s lists (ap (λ (m : Lists T). m.lists) c.self.view_is) c.self.invariant.0 in
    let slots : u.nodes.slots ≡ s.nodes.slots = ap (λ (n : Slab (Node T)). n.slots) c.reserve.ensures.rest_kept in
    let len = len_room s u slots in
    let old = c.self.invariant.1 in
    let room : slab_len u.nodes + c.args.n ≤ u.nodes.capacity = c.in_ok-reserve.ensures.room in
    let max = c.max-self-inside.ensures in
    let there = old.there in
    let counted = old.counted in
    let few = old.few in (
      seen u lists (holds_room s u lists refl slots held),
      record {
        there = omega (arith, there, room, len, c.reserve.ensures.capacity, max);
        counted = omega (arith, counted, len);
        few = omega (arith, few, counted, len, c.requires, max);
      },
    )

pub returns-clause-lists : goal.returns-clause-lists
returns-clause-lists g c =
    let T = g.row.T.Denot in
    let lists = c.args.self.now.lists in
    let s = store_of c.self.inside.links in
    let u : Store T = record { nodes = c.reserve.new.self; ends = s.ends } in
    let held = held_by s lists (ap (λ (m : Lists T). m.lists) c.self.view_is) c.self.invariant.0 in
    let slots : u.nodes.slots ≡ s.nodes.slots = ap (λ (n : Slab (Node T)). n.slots) c.reserve.ensures.rest_kept in
    lists_of-held u lists (holds_room s u lists refl slots held)
