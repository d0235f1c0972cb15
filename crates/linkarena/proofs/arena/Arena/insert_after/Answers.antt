use Rattle.std.proofs.Common.{ℕ, ◌∷◌, ◌++◌, set, subst, sym, ap, ◌∙◌}
use Rattle.linkarena.specs.Lists.{Lists, IsLive, Stands}
use Rattle.linkarena.specs.Links.{store_of}
use Rattle.linkarena.proofs.ArenaLemmas.{held_by, live_has, gap_behind, put_behind, if_ok}
use Rattle.linkarena.proofs.arena.Arena.insert_after.Goals as goal

pub index-before-requires : goal.index-before-requires
index-before-requires g c =
    let T = g.row.T.Denot in
    let lists = c.args.self.now.lists in
    let s = store_of c.self.inside.links in
    let held = held_by s lists (ap (λ (m : Lists T). m.lists) c.self.view_is) c.self.invariant.0 in
    let live = subst (IsLive lists) (sym c.node.view_is) c.requires in
    let key = c.node.inside.key in
    live_has s lists key held live

pub insert-requires : goal.insert-requires
insert-requires g c =
    let T = g.row.T.Denot in
    let lists = c.args.self.now.lists in
    let s = store_of c.self.inside.links in
    let held = held_by s lists (ap (λ (m : Lists T). m.lists) c.self.view_is) c.self.invariant.0 in
    let live = subst (IsLive lists) (sym c.node.view_is) c.requires in
    let key = c.node.inside.key in
    gap_behind s lists key c.index-before.result.now held c.index-before.ensures live

pub returns-clause-added : goal.returns-clause-added
returns-clause-added g c =
    let T = g.row.T.Denot in
    let lists = c.args.self.now.lists in
    let s = store_of c.self.inside.links in
    let held = held_by s lists (ap (λ (m : Lists T). m.lists) c.self.view_is) c.self.invariant.0 in
    let key = c.node.inside.key in
    if_ok _ _ c.insert.result (λ new added list front here back stands.
    put_behind s lists c.insert.new.self.lists key new c.index-before.result.now c.args.value held c.index-before.ensures added list
    front here back (subst (λ (k : ℕ). Stands lists list front k here back) (sym c.node.view_is) stands)
    ∙ ap (λ (k : ℕ). set lists list (front ++ (k, here) ∷ (new, c.args.value) ∷ back)) c.node.view_is) c.insert.ensures.added
