use Rattle.std.proofs.Common.{[], ◌∷◌, ◌++◌, refl, ap}
use Rattle.linkarena.specs.Lists.{Lists}
use Rattle.linkarena.specs.Links.{Store, store_of}
use Rattle.linkarena.proofs.ArenaLemmas.{held_by, seen, holds_list}
use Rattle.linkarena.proofs.arena.Arena.add_list.Goals as goal

pub invariant_of-self-2 : goal.invariant_of-self-2
invariant_of-self-2 g c =
    let T = g.row.T.Denot in
    let lists = c.args.self.now.lists in
    let s = store_of c.self.inside.links in
    let u : Store T = record { nodes = s.nodes; ends = c.push.new.self.items } in
    let held = held_by s lists (ap (λ (m : Lists T). m.lists) c.self.view_is) c.self.invariant.0 in
    (seen u (lists ++ [] ∷ []) (holds_list s u lists c.in_ok-push.ensures.items refl held), c.self.invariant.1)
