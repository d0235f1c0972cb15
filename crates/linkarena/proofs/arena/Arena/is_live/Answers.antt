use Rattle.std.proofs.Common.{subst, sym, ap}
use Rattle.linkarena.specs.Lists.{Lists, IsLive}
use Rattle.linkarena.specs.Links.{store_of}
use Rattle.linkarena.proofs.ArenaLemmas.{held_by, live_has, has_live, stands_once}
use Rattle.linkarena.proofs.arena.Arena.is_live.Goals as goal

pub returns-clause-live : goal.returns-clause-live
returns-clause-live g c =
    let T = g.row.T.Denot in
    let lists = c.args.self.now.lists in
    let s = store_of c.self.inside.links in
    let held = held_by s lists (ap (λ (m : Lists T). m.lists) c.self.view_is) c.self.invariant.0 in (
      λ yes. subst (IsLive lists) c.node.view_is (has_live s lists c.node.inside.key held (c.contains.ensures.0 yes)),
      λ live. c.contains.ensures.1 (live_has s lists c.node.inside.key held (subst (IsLive lists) (sym c.node.view_is) live)),
    )

pub returns-clause-once : goal.returns-clause-once
returns-clause-once g c =
    let T = g.row.T.Denot in
    let lists = c.args.self.now.lists in
    let s = store_of c.self.inside.links in
    stands_once s lists (held_by s lists (ap (λ (m : Lists T). m.lists) c.self.view_is) c.self.invariant.0)
