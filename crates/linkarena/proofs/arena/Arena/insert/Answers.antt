use Rattle.std.proofs.Common.{◌≡◌, ◌+◌, ◌<◌, ◌≤◌, ◌∷◌, ◌++◌, false, not, is_ok, set, refl, subst, sym, ap, ◌∙◌, inl, inr, arith}
use Rattle.std.proofs.lemmas.Bool.{cases_lt}
use Rattle.slab.specs.Slab.{Slab, slab_len}
use Rattle.linkarena.specs.Lists.{Lists}
use Rattle.linkarena.specs.Links.{Store, store_of, lists_of, Holds}
use Rattle.linkarena.specs.declared.links.Node.{Node}
use Rattle.linkarena.proofs.ViewLemmas.{lists_of-held}
use Rattle.linkarena.proofs.ArenaLemmas.{held_by, seen, holds_room, inserted, fresh_key, same_put, len_room, room_kept, same_view, of_ok}
use Rattle.linkarena.proofs.arena.Arena.insert.Goals as goal

pub invariant_of-self : goal.invariant_of-self
invariant_of-self g c =
    let T = g.row.T.Denot in
    let lists = c.args.self.now.lists in
    let s = store_of c.self.inside.links in
    let held = held_by s lists (ap (λ (m : Lists T). m.lists) c.self.view_is) c.self.invariant.0 in
    let r : Store T = record { nodes = c.reserve.new.self; ends = s.ends } in
    let slots : r.nodes.slots ≡ s.nodes.slots = ap (λ (n : Slab (Node T)). n.slots) c.reserve.ensures.rest_kept in
    let len = len_room s r slots in (
      seen r lists (holds_room s r lists refl slots held),
      room_kept s.nodes r.nodes c.self.inside.spare c.self.inside.spare
          c.self.invariant.1 (omega (arith, len)) (omega (arith, len)) c.reserve.ensures.capacity,
    )

pub returns-then-is_err-clause-refuses : goal.returns-then-is_err-clause-refuses
returns-then-is_err-clause-refuses g c =
    let T = g.row.T.Denot in
    let lists = c.args.self.now.lists in
    let s = store_of c.self.inside.links in
    let held = held_by s lists (ap (λ (m : Lists T). m.lists) c.self.view_is) c.self.invariant.0 in
    let r : Store T = record { nodes = c.reserve.new.self; ends = s.ends } in
    let slots : r.nodes.slots ≡ s.nodes.slots = ap (λ (n : Slab (Node T)). n.slots) c.reserve.ensures.rest_kept in
    let spare : c.self.inside.spare ≡ c.args.self.now.spare = ap (λ (m : Lists T). m.spare) c.self.view_is in
    let fits = c.self.invariant.1.there in
    let failed : is_ok c.reserve.result ≡ false = c.is_err.ensures.negation ∙ ap not c.if-is_err.true in
    record {
      full = (λ no. absurd no, λ many. c.if-len-eq-MOST_NODES.false (c.len.ensures ∙ sym held.counted ∙ many));
      memory = λ _. elim (cases_lt (slab_len s.nodes) s.nodes.capacity) [
        | inl below ↦ let room : slab_len s.nodes + 1 ≤ s.nodes.capacity = omega arith in
            let fine = c.reserve.ensures.succeeds room in let no = sym failed ∙ fine in absurd (cc)
        | inr past ↦ omega (arith, spare, fits)
      ];
      back = refl;
      unchanged = same_view c.args.self.now (lists_of r) c.self.inside.spare
          (lists_of-held r lists (holds_room s r lists refl slots held)) spare;
      spare = omega (arith, spare);
    }

pub put_in-requires-clause-before : goal.put_in-requires-clause-before
put_in-requires-clause-before g c =
    let T = g.row.T.Denot in
    let lists = c.args.self.now.lists in
    let s = store_of c.self.inside.links in
    let held = held_by s lists (ap (λ (m : Lists T). m.lists) c.self.view_is) c.self.invariant.0 in
    let r : Store T = record { nodes = c.reserve.new.self; ends = s.ends } in
    let slots : r.nodes.slots ≡ s.nodes.slots = ap (λ (n : Slab (Node T)). n.slots) c.reserve.ensures.rest_kept in
    let u : Store T = record { nodes = c.insert_reserved-key.new.self; ends = s.ends } in
    let key = c.insert_reserved-key.result in
    let e = c.insert_reserved-key.ensures in
    let into = inserted s r u lists c.args.list key c.args.value c.args.prev c.args.next held refl slots refl e.updates e.was_vacant
    e.len c.requires.within c.requires.front c.requires.back c.requires.parts c.requires.before c.requires.behind in
    into.before

pub put_in-requires-clause-behind : goal.put_in-requires-clause-behind
put_in-requires-clause-behind g c =
    let T = g.row.T.Denot in
    let lists = c.args.self.now.lists in
    let s = store_of c.self.inside.links in
    let held = held_by s lists (ap (λ (m : Lists T). m.lists) c.self.view_is) c.self.invariant.0 in
    let r : Store T = record { nodes = c.reserve.new.self; ends = s.ends } in
    let slots : r.nodes.slots ≡ s.nodes.slots = ap (λ (n : Slab (Node T)). n.slots) c.reserve.ensures.rest_kept in
    let u : Store T = record { nodes = c.insert_reserved-key.new.self; ends = s.ends } in
    let key = c.insert_reserved-key.result in
    let e = c.insert_reserved-key.ensures in
    let into = inserted s r u lists c.args.list key c.args.value c.args.prev c.args.next held refl slots refl e.updates e.was_vacant
    e.len c.requires.within c.requires.front c.requires.back c.requires.parts c.requires.before c.requires.behind in
    into.behind

pub invariant_of-self-2 : goal.invariant_of-self-2
invariant_of-self-2 g c =
    let T = g.row.T.Denot in
    let lists = c.args.self.now.lists in
    let s = store_of c.self.inside.links in
    let held = held_by s lists (ap (λ (m : Lists T). m.lists) c.self.view_is) c.self.invariant.0 in
    let r : Store T = record { nodes = c.reserve.new.self; ends = s.ends } in
    let slots : r.nodes.slots ≡ s.nodes.slots = ap (λ (n : Slab (Node T)). n.slots) c.reserve.ensures.rest_kept in
    let u : Store T = record { nodes = c.insert_reserved-key.new.self; ends = s.ends } in
    let key = c.insert_reserved-key.result in
    let e = c.insert_reserved-key.ensures in
    let into = inserted s r u lists c.args.list key c.args.value c.args.prev c.args.next held refl slots refl e.updates e.was_vacant
    e.len c.requires.within c.requires.front c.requires.back c.requires.parts c.requires.before c.requires.behind in
    let after = set lists c.args.list (c.requires.front ++ (key, c.args.value) ∷ c.requires.back) in
    let same = same_put u key c.args.list c.args.prev c.args.next into.before into.behind in
    let put_len = ap (λ (x : Store T). slab_len x.nodes) c.put_in.ensures in
    let put_capacity = ap (λ (x : Store T). x.nodes.capacity) c.put_in.ensures in
    let len : slab_len c.put_in.new.self.nodes ≡ slab_len s.nodes + 1 = omega (arith, len_room s r slots, e.len, same.len, put_len) in
    let less = c.saturating_sub-self-inside.ensures in
    let there = c.self.invariant.1.there in
    let counted = c.self.invariant.1.counted in
    let few = c.self.invariant.1.few in
    let room : slab_len r.nodes + 1 ≤ r.nodes.capacity = of_ok _ c.reserve.result
    (c.is_err.ensures.negation ∙ ap not c.if-is_err.false) c.reserve.ensures.room in
    let kept = len_room s r slots in
    let below : slab_len s.nodes < 1048576 = elim (cases_lt (slab_len s.nodes) 1048576) [
      | inl below ↦ below
      | inr past ↦ let many : slab_len s.nodes ≡ 1048576 = omega (arith, counted) in
          absurd (c.if-len-eq-MOST_NODES.false (c.len.ensures ∙ many))
    ] in (
      seen (store_of c.put_in.new.self) after (subst (λ (x : Store T). Holds x after) (sym c.put_in.ensures) into.holds),
      record {
        there = omega (arith, there, room, kept, len, less, c.reserve.ensures.capacity, e.capacity, same.capacity, put_capacity);
        counted = omega (arith, below, len);
        few = omega (arith, few, below, len, less);
      },
    )

pub returns-clause-added : goal.returns-clause-added
returns-clause-added g c = λ front back parts before behind.
    let T = g.row.T.Denot in
    let lists = c.args.self.now.lists in
    let s = store_of c.self.inside.links in
    let held = held_by s lists (ap (λ (m : Lists T). m.lists) c.self.view_is) c.self.invariant.0 in
    let r : Store T = record { nodes = c.reserve.new.self; ends = s.ends } in
    let slots : r.nodes.slots ≡ s.nodes.slots = ap (λ (n : Slab (Node T)). n.slots) c.reserve.ensures.rest_kept in
    let u : Store T = record { nodes = c.insert_reserved-key.new.self; ends = s.ends } in
    let key = c.insert_reserved-key.result in
    let e = c.insert_reserved-key.ensures in
    let into = inserted s r u lists c.args.list key c.args.value c.args.prev c.args.next held refl slots refl e.updates e.was_vacant
    e.len c.requires.within front back parts before behind in
    let after = set lists c.args.list (front ++ (key, c.args.value) ∷ back) in
    lists_of-held (store_of c.put_in.new.self) after (subst (λ (x : Store T). Holds x after) (sym c.put_in.ensures) into.holds)

pub returns-clause-fresh : goal.returns-clause-fresh
returns-clause-fresh g c = λ live.
    let T = g.row.T.Denot in
    let lists = c.args.self.now.lists in
    let s = store_of c.self.inside.links in
    let held = held_by s lists (ap (λ (m : Lists T). m.lists) c.self.view_is) c.self.invariant.0 in
    let r : Store T = record { nodes = c.reserve.new.self; ends = s.ends } in
    let slots : r.nodes.slots ≡ s.nodes.slots = ap (λ (n : Slab (Node T)). n.slots) c.reserve.ensures.rest_kept in
    let u : Store T = record { nodes = c.insert_reserved-key.new.self; ends = s.ends } in
    let key = c.insert_reserved-key.result in
    let e = c.insert_reserved-key.ensures in
    fresh_key s r lists key held slots e.was_vacant live

pub returns-clause-refuses : goal.returns-clause-refuses
returns-clause-refuses g c =
    let T = g.row.T.Denot in
    let lists = c.args.self.now.lists in
    let s = store_of c.self.inside.links in
    let held = held_by s lists (ap (λ (m : Lists T). m.lists) c.self.view_is) c.self.invariant.0 in
    let r : Store T = record { nodes = c.reserve.new.self; ends = s.ends } in
    let slots : r.nodes.slots ≡ s.nodes.slots = ap (λ (n : Slab (Node T)). n.slots) c.reserve.ensures.rest_kept in
    let u : Store T = record { nodes = c.insert_reserved-key.new.self; ends = s.ends } in
    let key = c.insert_reserved-key.result in
    let e = c.insert_reserved-key.ensures in
    let into = inserted s r u lists c.args.list key c.args.value c.args.prev c.args.next held refl slots refl e.updates e.was_vacant
    e.len c.requires.within c.requires.front c.requires.back c.requires.parts c.requires.before c.requires.behind in
    let spare : c.self.inside.spare ≡ c.args.self.now.spare = ap (λ (m : Lists T). m.spare) c.self.view_is in
    let fits = c.self.invariant.1.there in
    let same = same_put u key c.args.list c.args.prev c.args.next into.before into.behind in
    let len = ap (λ (x : Store T). slab_len x.nodes) c.put_in.ensures in
    let capacity = ap (λ (x : Store T). x.nodes.capacity) c.put_in.ensures in
    record {
      full = (λ no. absurd no, λ many. c.if-len-eq-MOST_NODES.false (c.len.ensures ∙ sym held.counted ∙ many));
      memory = λ no. absurd no;
      back = tt;
      unchanged = tt;
      spare = omega (arith, spare, c.saturating_sub-self-inside.ensures);
    }
