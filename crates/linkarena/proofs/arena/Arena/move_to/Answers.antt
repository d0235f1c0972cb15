use Rattle.std.proofs.Common.{◌≡◌, ℕ, ◌<◌, [], ◌∷◌, ◌++◌, None, length, set, subst, sym, ap, ◌∙◌, arith}
use Rattle.slab.specs.Slab.{slab_len}
use Rattle.linkarena.specs.Lists.{Lists, IsLive, Stands, list_at}
use Rattle.linkarena.specs.Links.{Store, store_of, Holds}
use Rattle.linkarena.proofs.ViewLemmas.{lists_of-held}
use Rattle.linkarena.proofs.ArenaLemmas.{held_by, seen, live_take, room_kept, taken_has, same_taken, moved, same_put, len_relisted}
use Rattle.linkarena.proofs.arena.Arena.move_to.Goals as goal

pub take_out-requires : goal.take_out-requires
take_out-requires g c =
    let T = g.row.T.Denot in
    let lists = c.args.self.now.lists in
    let s = store_of c.self.inside.links in
    let held = held_by s lists (ap (λ (m : Lists T). m.lists) c.self.view_is) c.self.invariant.0 in
    live_take s lists c.node.inside.key held (subst (IsLive lists) (sym c.node.view_is) c.requires.node)

pub set_list-requires : goal.set_list-requires
set_list-requires g c =
    let T = g.row.T.Denot in
    let lists = c.args.self.now.lists in
    let s = store_of c.self.inside.links in
    let held = held_by s lists (ap (λ (m : Lists T). m.lists) c.self.view_is) c.self.invariant.0 in
    taken_has s (store_of c.take_out.new.self) lists c.node.inside.key held
    (subst (IsLive lists) (sym c.node.view_is) c.requires.node) c.take_out.ensures

pub put_in-requires-clause-before : goal.put_in-requires-clause-before
put_in-requires-clause-before g c =
    let T = g.row.T.Denot in
    let lists = c.args.self.now.lists in
    let s = store_of c.self.inside.links in
    let held = held_by s lists (ap (λ (m : Lists T). m.lists) c.self.view_is) c.self.invariant.0 in
    let t = store_of c.take_out.new.self in
    let u = store_of c.set_list.new.self in
    let key = c.node.inside.key in
    let target = c.list.inside.index in
    let live = subst (IsLive lists) (sym c.node.view_is) c.requires.node in
    let within : target < length lists = subst (λ (k : ℕ). k < length lists) (sym c.list.view_is) c.requires.list in
    let last = c.last-last.result in
    let kept = same_taken s t lists key held live c.take_out.ensures in
    let ends : length u.ends ≡ length s.ends = ap (λ (r : Store T). length r.ends) c.set_list.ensures ∙ kept.ends in
    let inside : target < length u.ends = omega (arith, held.linked.count, ends, within) in
    let at = c.last-last.ensures in
    let m = moved s t u lists key target last held c.take_out.ensures c.set_list.ensures within at live.list live.front live.value
    live.back live.stands in
    m.before

pub put_in-requires-clause-behind : goal.put_in-requires-clause-behind
put_in-requires-clause-behind g c =
    let T = g.row.T.Denot in
    let lists = c.args.self.now.lists in
    let s = store_of c.self.inside.links in
    let held = held_by s lists (ap (λ (m : Lists T). m.lists) c.self.view_is) c.self.invariant.0 in
    let t = store_of c.take_out.new.self in
    let u = store_of c.set_list.new.self in
    let key = c.node.inside.key in
    let target = c.list.inside.index in
    let live = subst (IsLive lists) (sym c.node.view_is) c.requires.node in
    let within : target < length lists = subst (λ (k : ℕ). k < length lists) (sym c.list.view_is) c.requires.list in
    let last = c.last-last.result in
    let kept = same_taken s t lists key held live c.take_out.ensures in
    let ends : length u.ends ≡ length s.ends = ap (λ (r : Store T). length r.ends) c.set_list.ensures ∙ kept.ends in
    let inside : target < length u.ends = omega (arith, held.linked.count, ends, within) in
    let at = c.last-last.ensures in
    let m = moved s t u lists key target last held c.take_out.ensures c.set_list.ensures within at live.list live.front live.value
    live.back live.stands in
    m.behind

pub invariant_of-self : goal.invariant_of-self
invariant_of-self g c =
    let T = g.row.T.Denot in
    let lists = c.args.self.now.lists in
    let s = store_of c.self.inside.links in
    let held = held_by s lists (ap (λ (m : Lists T). m.lists) c.self.view_is) c.self.invariant.0 in
    let t = store_of c.take_out.new.self in
    let u = store_of c.set_list.new.self in
    let key = c.node.inside.key in
    let target = c.list.inside.index in
    let live = subst (IsLive lists) (sym c.node.view_is) c.requires.node in
    let within : target < length lists = subst (λ (k : ℕ). k < length lists) (sym c.list.view_is) c.requires.list in
    let last = c.last-last.result in
    let kept = same_taken s t lists key held live c.take_out.ensures in
    let ends : length u.ends ≡ length s.ends = ap (λ (r : Store T). length r.ends) c.set_list.ensures ∙ kept.ends in
    let inside : target < length u.ends = omega (arith, held.linked.count, ends, within) in
    let at = c.last-last.ensures in
    let m = moved s t u lists key target last held c.take_out.ensures c.set_list.ensures within at live.list live.front live.value
    live.back live.stands in
    let rest = set lists live.list (live.front ++ live.back) in
    let after = set rest target (list_at rest target ++ (key, live.value) ∷ []) in
    let same = same_put u key target last None m.before m.behind in
    let has = taken_has s t lists key held live c.take_out.ensures in
    let relisted = len_relisted t key target has in
    let set_len = ap (λ (r : Store T). slab_len r.nodes) c.set_list.ensures in
    let set_capacity = ap (λ (r : Store T). r.nodes.capacity) c.set_list.ensures in
    let put_len = ap (λ (r : Store T). slab_len r.nodes) c.put_in.ensures in
    let put_capacity = ap (λ (r : Store T). r.nodes.capacity) c.put_in.ensures in
    let len : slab_len c.put_in.new.self.nodes ≡ slab_len s.nodes = omega (arith, kept.len, relisted, set_len, same.len, put_len) in (
      seen (store_of c.put_in.new.self) after (subst (λ (x : Store T). Holds x after) (sym c.put_in.ensures) m.holds),
      room_kept s.nodes c.put_in.new.self.nodes c.self.inside.spare c.self.inside.spare c.self.invariant.1 (omega (arith, len))
          (omega (arith, len)) (omega (arith, kept.capacity, set_capacity, same.capacity, put_capacity)),
    )

pub returns-clause-moved : goal.returns-clause-moved
returns-clause-moved g c = λ list front value back stands.
    let T = g.row.T.Denot in
    let lists = c.args.self.now.lists in
    let s = store_of c.self.inside.links in
    let held = held_by s lists (ap (λ (m : Lists T). m.lists) c.self.view_is) c.self.invariant.0 in
    let t = store_of c.take_out.new.self in
    let u = store_of c.set_list.new.self in
    let key = c.node.inside.key in
    let target = c.list.inside.index in
    let live = subst (IsLive lists) (sym c.node.view_is) c.requires.node in
    let within : target < length lists = subst (λ (k : ℕ). k < length lists) (sym c.list.view_is) c.requires.list in
    let last = c.last-last.result in
    let kept = same_taken s t lists key held live c.take_out.ensures in
    let ends : length u.ends ≡ length s.ends = ap (λ (r : Store T). length r.ends) c.set_list.ensures ∙ kept.ends in
    let inside : target < length u.ends = omega (arith, held.linked.count, ends, within) in
    let at = c.last-last.ensures in
    let m = moved s t u lists key target last held c.take_out.ensures c.set_list.ensures within at list front value back
    (subst (λ (k : ℕ). Stands lists list front k value back) (sym c.node.view_is) stands) in
    let rest = set lists list (front ++ back) in
    let after = λ (k n : ℕ). set rest k (list_at rest k ++ (n, value) ∷ []) in
    lists_of-held (store_of c.put_in.new.self) (after target key)
    (subst (λ (x : Store T). Holds x (after target key)) (sym c.put_in.ensures) m.holds)
    ∙ ap (λ (k : ℕ). after k key) c.list.view_is ∙ ap (after c.args.list) c.node.view_is
