use Rattle.std.proofs.Common.{ℕ, subst, sym, ap}
use Rattle.linkarena.specs.Lists.{Lists, IsLive, Stands}
use Rattle.linkarena.specs.Links.{store_of}
use Rattle.linkarena.specs.declared.links.Node.{Node}
use Rattle.linkarena.proofs.ArenaLemmas.{held_by, live_has, node_read}
use Rattle.linkarena.proofs.arena.Arena.get.Goals as goal

pub index-requires : goal.index-requires
index-requires g c =
    let T = g.row.T.Denot in
    let lists = c.args.self.now.lists in
    let s = store_of c.self.inside.links in
    let held = held_by s lists (ap (λ (m : Lists T). m.lists) c.self.view_is) c.self.invariant.0 in
    live_has s lists c.node.inside.key held (subst (IsLive lists) (sym c.node.view_is) c.requires)

pub returns : goal.returns
returns g c = λ list front value back stands.
    let T = g.row.T.Denot in
    let lists = c.args.self.now.lists in
    let s = store_of c.self.inside.links in
    let held = held_by s lists (ap (λ (m : Lists T). m.lists) c.self.view_is) c.self.invariant.0 in
    ap (λ (n : Node T). n.value) (node_read s lists c.node.inside.key c.index.result.now held c.index.ensures list front value back
    (subst (λ (k : ℕ). Stands lists list front k value back) (sym c.node.view_is) stands))
