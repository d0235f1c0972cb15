use Rattle.std.proofs.Common.{ℕ, ◌<◌, [], ◌∷◌, ◌++◌, length, set, refl, subst, sym, ap, ◌∙◌, arith}
use Rattle.std.proofs.lemmas.List.{append-nil}
use Rattle.linkarena.specs.Lists.{Lists, list_at}
use Rattle.linkarena.specs.Links.{store_of}
use Rattle.linkarena.proofs.ArenaLemmas.{held_by, gap_at_end, last_read, if_ok}
use Rattle.linkarena.proofs.arena.Arena.push_back.Goals as goal

pub insert-requires : goal.insert-requires
insert-requires g c =
    let T = g.row.T.Denot in
    let lists = c.args.self.now.lists in
    let s = store_of c.self.inside.links in
    let held = held_by s lists (ap (λ (m : Lists T). m.lists) c.self.view_is) c.self.invariant.0 in
    let index = c.list.inside.index in
    let within : index < length lists = subst (λ (k : ℕ). k < length lists) (sym c.list.view_is) c.requires in
    let inside : index < length s.ends = omega (arith, held.linked.count) in
    let at = c.last-last.ensures in
    gap_at_end s lists index c.last-last.result held within at

pub returns-clause-added : goal.returns-clause-added
returns-clause-added g c =
    let T = g.row.T.Denot in
    let lists = c.args.self.now.lists in
    let s = store_of c.self.inside.links in
    let held = held_by s lists (ap (λ (m : Lists T). m.lists) c.self.view_is) c.self.invariant.0 in
    let index = c.list.inside.index in
    let within : index < length lists = subst (λ (k : ℕ). k < length lists) (sym c.list.view_is) c.requires in
    let inside : index < length s.ends = omega (arith, held.linked.count) in
    let at = c.last-last.ensures in
    let es = list_at lists index in
    if_ok _ _ c.insert.result (λ node added.
    added es [] (sym (append-nil es)) (at ∙ last_read s lists index held within) refl
    ∙ ap (λ (k : ℕ). set lists k (list_at lists k ++ (node, c.args.value) ∷ [])) c.list.view_is) c.insert.ensures.added
