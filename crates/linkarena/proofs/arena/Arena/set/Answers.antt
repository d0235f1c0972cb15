use Rattle.std.proofs.Common.{◌≡◌, ℕ, ◌∷◌, ◌++◌, Option, IfSome, set, subst, sym, ap, ◌∙◌, arith}
use Rattle.slab.specs.Slab.{slab_len}
use Rattle.linkarena.specs.Lists.{Lists, IsLive, Stands}
use Rattle.linkarena.specs.Links.{Store, store_of, Holds}
use Rattle.linkarena.specs.declared.links.Node.{Node}
use Rattle.linkarena.proofs.ViewLemmas.{lists_of-held}
use Rattle.linkarena.proofs.StoreLemmas.{slab_len-changed}
use Rattle.linkarena.proofs.HoldLemmas.{holds_set, node_at}
use Rattle.linkarena.proofs.ArenaLemmas.{held_by, seen, room_kept, live_has}
use Rattle.linkarena.proofs.arena.Arena.set.Goals as goal

pub set_value-requires : goal.set_value-requires
set_value-requires g c =
    let T = g.row.T.Denot in
    let lists = c.args.self.now.lists in
    let s = store_of c.self.inside.links in
    let held = held_by s lists (ap (λ (m : Lists T). m.lists) c.self.view_is) c.self.invariant.0 in
    live_has s lists c.node.inside.key held (subst (IsLive lists) (sym c.node.view_is) c.requires)

pub invariant_of-self : goal.invariant_of-self
invariant_of-self g c =
    let T = g.row.T.Denot in
    let lists = c.args.self.now.lists in
    let s = store_of c.self.inside.links in
    let key = c.node.inside.key in
    let held = held_by s lists (ap (λ (m : Lists T). m.lists) c.self.view_is) c.self.invariant.0 in
    let live = subst (IsLive lists) (sym c.node.view_is) c.requires in
    let after = set lists live.list (live.front ++ (key, c.args.value) ∷ live.back) in
    let len = ap (λ (r : Store T). slab_len r.nodes) c.set_value.ensures.set
    ∙ slab_len-changed s.nodes key (λ (n : Node T). record n { value = c.args.value }) (live_has s lists key held live) in
    let capacity = ap (λ (r : Store T). r.nodes.capacity) c.set_value.ensures.set in (
      seen (store_of c.set_value.new.self) after (subst (λ (r : Store T). Holds r after) (sym c.set_value.ensures.set)
          (holds_set s lists live.list live.front key live.value c.args.value live.back held live.stands)),
      room_kept s.nodes c.set_value.new.self.nodes c.self.inside.spare c.self.inside.spare c.self.invariant.1 (omega (arith, len))
          (omega (arith, len)) (omega (arith, capacity)),
    )

pub returns-clause-old : goal.returns-clause-old
returns-clause-old g c = λ list front value back stands.
    let T = g.row.T.Denot in
    let lists = c.args.self.now.lists in
    let s = store_of c.self.inside.links in
    let held = held_by s lists (ap (λ (m : Lists T). m.lists) c.self.view_is) c.self.invariant.0 in
    let there = node_at s lists list front c.node.inside.key value back held.linked
    (subst (λ (k : ℕ). Stands lists list front k value back) (sym c.node.view_is) stands) in
    sym (subst (λ (o : Option (Node T)). IfSome o (λ (n : Node T). n.value ≡ c.set_value.result)) there c.set_value.ensures.old)

pub returns-clause-set : goal.returns-clause-set
returns-clause-set g c = λ list front value back stands.
    let T = g.row.T.Denot in
    let lists = c.args.self.now.lists in
    let s = store_of c.self.inside.links in
    let key = c.node.inside.key in
    let held = held_by s lists (ap (λ (m : Lists T). m.lists) c.self.view_is) c.self.invariant.0 in
    let after = λ (k : ℕ). set lists list (front ++ (k, c.args.value) ∷ back) in
    lists_of-held (store_of c.set_value.new.self) (after key)
    (subst (λ (r : Store T). Holds r (after key)) (sym c.set_value.ensures.set)
    (holds_set s lists list front key value c.args.value back held
    (subst (λ (k : ℕ). Stands lists list front k value back) (sym c.node.view_is) stands)))
    ∙ ap after c.node.view_is
