use Rattle.std.proofs.Common.{ℕ, ◌+◌, refl, subst, sym, ap, arith}
use Rattle.linkarena.specs.Lists.{Lists, IsLive, Stands}
use Rattle.linkarena.specs.Links.{Store, store_of}
use Rattle.linkarena.proofs.ViewLemmas.{lists_of-held}
use Rattle.linkarena.proofs.ArenaLemmas.{held_by, seen, live_take, same_taken, room_kept, taken_has, taken_value, unlinked}
use Rattle.linkarena.proofs.arena.Arena.unlink.Goals as goal

pub take_out-requires : goal.take_out-requires
take_out-requires g c =
    let T = g.row.T.Denot in
    let lists = c.args.self.now.lists in
    let s = store_of c.self.inside.links in
    let held = held_by s lists (ap (λ (m : Lists T). m.lists) c.self.view_is) c.self.invariant.0 in
    live_take s lists c.node.inside.key held (subst (IsLive lists) (sym c.node.view_is) c.requires)

pub remove-value-requires : goal.remove-value-requires
remove-value-requires g c =
    let T = g.row.T.Denot in
    let lists = c.args.self.now.lists in
    let s = store_of c.self.inside.links in
    let held = held_by s lists (ap (λ (m : Lists T). m.lists) c.self.view_is) c.self.invariant.0 in
    taken_has s (store_of c.take_out.new.self) lists c.node.inside.key held (subst (IsLive lists) (sym c.node.view_is) c.requires)
    c.take_out.ensures

pub overflow_add-self : goal.overflow_add-self
overflow_add-self g c =
    let T = g.row.T.Denot in
    let lists = c.args.self.now.lists in
    let s = store_of c.self.inside.links in
    let t = store_of c.take_out.new.self in
    let u : Store T = record { nodes = c.remove-value.new.self; ends = t.ends } in
    let held = held_by s lists (ap (λ (m : Lists T). m.lists) c.self.view_is) c.self.invariant.0 in
    let live = subst (IsLive lists) (sym c.node.view_is) c.requires in
    let same = same_taken s t lists c.node.inside.key held live c.take_out.ensures in
    let few = c.self.invariant.1.few in
    omega (arith, few)

pub invariant_of-self : goal.invariant_of-self
invariant_of-self g c =
    let T = g.row.T.Denot in
    let lists = c.args.self.now.lists in
    let s = store_of c.self.inside.links in
    let t = store_of c.take_out.new.self in
    let u : Store T = record { nodes = c.remove-value.new.self; ends = t.ends } in
    let held = held_by s lists (ap (λ (m : Lists T). m.lists) c.self.view_is) c.self.invariant.0 in
    let live = subst (IsLive lists) (sym c.node.view_is) c.requires in
    let same = same_taken s t lists c.node.inside.key held live c.take_out.ensures in (
      seen u _ (unlinked s t u lists c.node.inside.key held c.take_out.ensures refl c.remove-value.ensures.updates
          c.remove-value.ensures.len live.list live.front live.value live.back live.stands),
      room_kept s.nodes u.nodes c.self.inside.spare (c.self.inside.spare + 1) c.self.invariant.1
          (omega (arith, same.len, c.remove-value.ensures.len)) (omega (arith, same.len, c.remove-value.ensures.len))
          (omega (arith, same.capacity, c.remove-value.ensures.capacity)),
    )

pub returns-clause-value : goal.returns-clause-value
returns-clause-value g c = λ list front value back stands.
    let T = g.row.T.Denot in
    let lists = c.args.self.now.lists in
    let s = store_of c.self.inside.links in
    let held = held_by s lists (ap (λ (m : Lists T). m.lists) c.self.view_is) c.self.invariant.0 in
    let live = subst (IsLive lists) (sym c.node.view_is) c.requires in
    taken_value s (store_of c.take_out.new.self) lists c.node.inside.key c.remove-value.result held live c.take_out.ensures
    c.remove-value.ensures.value list front value back
    (subst (λ (k : ℕ). Stands lists list front k value back) (sym c.node.view_is) stands)

pub returns-clause-out : goal.returns-clause-out
returns-clause-out g c = λ list front value back stands.
    let T = g.row.T.Denot in
    let lists = c.args.self.now.lists in
    let s = store_of c.self.inside.links in
    let t = store_of c.take_out.new.self in
    let u : Store T = record { nodes = c.remove-value.new.self; ends = t.ends } in
    let held = held_by s lists (ap (λ (m : Lists T). m.lists) c.self.view_is) c.self.invariant.0 in
    lists_of-held u _ (unlinked s t u lists c.node.inside.key held c.take_out.ensures refl c.remove-value.ensures.updates
    c.remove-value.ensures.len list front value back (subst (λ (k : ℕ). Stands lists list front k value back)
    (sym c.node.view_is) stands))
