-- What the calls of an arena do, in the words of their contracts.
use Rattle.std.proofs.Common.{◌≡◌, ℕ, zero, suc, ◌+◌, ◌<◌, ◌≤◌, List, [], ◌∷◌, ◌++◌, length, get_or, set, Option, Some, None}
use Rattle.std.proofs.Common.{is_some, IsSome, Result, Ok, Err, IfOk, OnOk, OnErr, is_ok, true, count_by, refl, sym, ap, subst, ◌∙◌}
use Rattle.std.proofs.Common.{inl, inr, arith, length-append}
use Rattle.std.proofs.lemmas.Bool.{cases_lt}
use Rattle.std.proofs.lemmas.List.{get_or_past, append-nil, append_assoc}
use Rattle.std.proofs.lemmas.List.Sums.{sum_by-append}
use Rattle.slab.specs.Slab.{Slab, get, slab_len, ContainsKey, Updates}
use Rattle.linkarena.specs.declared.links.Node.{Node}
use Rattle.linkarena.specs.declared.links.Ends.{Ends}
use Rattle.linkarena.specs.Lists.{Lists, list_at, first_id, last_id, Stands, IsLive, StandsOnce}
use Rattle.linkarena.specs.Links.{Store, no_ends, next_of, prev_of, tag_of, next_at, prev_at, tag_at, joined, taken, put, HasId}
use Rattle.linkarena.specs.Links.{Chain, Holds, CanJoin, CanTake, SameNodes, IsGap, HasRoom, lists_of, Apart, Distinct}
use Rattle.linkarena.proofs.ChainLemmas.{last_or, first_or, last_id-last_or, first_id-first_or, frame_next, frame_prev, apart_here}
use Rattle.linkarena.proofs.StoreLemmas.{SameNodes-joined, slab_len-changed}
use Rattle.linkarena.proofs.LinkLemmas.{linked_out, linked_but, has_tag, stands_within, tagged_same}
use Rattle.linkarena.proofs.ViewLemmas.{lists_of-held, same_value}
use Rattle.linkarena.proofs.HoldLemmas.{node_at, node_or, first_at, last_at, can_take, taken_is, vacant_dead, holds_out}
use Rattle.linkarena.proofs.HoldLemmas.{holds_in, holds_move, relisted, same_all, vacant_loose}

-- within a list the default is not seen
pub same_default : {X : Type 0} (xs : List X) (i : ℕ) (d e : X) → i < length xs → get_or xs i d ≡ get_or xs i e
same_default [] i d e within = absurd (omega arith)
same_default (x ∷ xs) zero d e within = refl
same_default (x ∷ xs) (suc i) d e within = same_default xs i d e (omega arith)

-- ---- results
pub on_err : {A E : Type 0} (P : Type 0) (r : Result A E) → P → OnErr r P
on_err P (Ok x) p = tt
on_err P (Err e) p = p

pub of_ok : {A E : Type 0} (P : Type 0) (r : Result A E) → is_ok r ≡ true → OnOk r P → P
of_ok P (Ok x) ok p = p
of_ok P (Err e) ok p = absurd (cc)

-- a fact of an Ok follows from another
pub if_ok : {A E : Type 0} (P Q : A → Type 0) (r : Result A E) → ((x : A) → P x → Q x) → IfOk r P → IfOk r Q
if_ok P Q (Ok x) step h = step x h
if_ok P Q (Err e) step h = tt

same_pushed : {X : Type 0} (xs : List X) (d : X) (i : ℕ) → get_or (xs ++ d ∷ []) i d ≡ get_or xs i d
same_pushed [] d zero = refl
same_pushed [] d (suc i) = refl
same_pushed (x ∷ xs) d zero = refl
same_pushed (x ∷ xs) d (suc i) = same_pushed xs d i

module _ {T : Type 0} where
  -- what holds of the lists that a store is seen as
  pub held_by : (s : Store T) (lists : List (List (ℕ × T))) → lists_of s ≡ lists → Holds s (lists_of s) → Holds s lists
  held_by s lists e held = subst (Holds s) e held

  pub seen : (s : Store T) (lists : List (List (ℕ × T))) → Holds s lists → Holds s (lists_of s)
  seen s lists held = subst (Holds s) (sym (lists_of-held s lists held)) held

  pub same_view : (now : Lists T) (lists : List (List (ℕ × T))) (spare : ℕ) → lists ≡ now.lists → spare ≡ now.spare
      → ◌≡◌ {A = Lists T} (record { lists = lists; spare = spare }) now
  same_view now lists spare l p = ap (λ (x : List (List (ℕ × T))). record { lists = x; spare = spare }) l
      ∙ ap (λ (x : ℕ). record { lists = now.lists; spare = x }) p

  -- ---- room and new lists
  pub room_kept : (old new : Slab (Node T)) (spare spare' : ℕ) → HasRoom old spare → slab_len new ≤ slab_len old
      → slab_len new + spare' ≤ slab_len old + spare → old.capacity ≤ new.capacity → HasRoom new spare'
  room_kept old new spare spare' room len sum capacity =
      let there = room.there in
      let counted = room.counted in
      let few = room.few in
      record { there = omega (arith, there, sum, capacity); counted = omega (arith, counted, len); few = omega (arith, few, sum) }

  pub holds_room : (s u : Store T) (lists : List (List (ℕ × T))) → u.ends ≡ s.ends → u.nodes.slots ≡ s.nodes.slots → Holds s lists
      → Holds u lists
  holds_room s u lists ends slots held =
      let read : (key : ℕ) → get u.nodes key ≡ get s.nodes key = λ key. ap (λ (xs : List (Option (Node T))). get_or xs key None) slots in
      let past = length s.nodes.slots in
      record {
        linked = linked_but s u lists past (vacant_loose s lists past held.linked
            (get_or_past s.nodes.slots past None (omega arith))) ends (λ key _. read key) held.linked;
        counted = held.counted ∙ sym (ap (count_by is_some) slots);
        home = λ key tag e. held.home key tag (sym (ap tag_of (read key)) ∙ e);
      }

  pub holds_list : (s u : Store T) (lists : List (List (ℕ × T))) → u.ends ≡ s.ends ++ no_ends ∷ [] → u.nodes ≡ s.nodes
      → Holds s lists → Holds u (lists ++ [] ∷ [])
  holds_list s u lists ends nodes held =
      let ends_same : (j : ℕ) → get_or u.ends j no_ends ≡ get_or s.ends j no_ends =
      λ j. ap (λ (xs : List Ends). get_or xs j no_ends) ends ∙ same_pushed s.ends no_ends j in
      let read : (key : ℕ) → get u.nodes key ≡ get s.nodes key = λ key. ap (λ (n : Slab (Node T)). get n key) nodes in
      let lens = length-append lists ([] ∷ []) in
      record {
        linked = record {
          count = omega (arith, lens, held.linked.count, ap length ends, length-append s.ends (no_ends ∷ []));
          chains = λ j below. subst (Chain u j) (sym (same_pushed lists [] j)) (elim (cases_lt j (length lists)) [
            | inl within ↦ moved read ends_same j (list_at lists j) (held.linked.chains j within)
            | inr past ↦ subst (Chain u j) (sym (get_or_past lists j [] past))
                (let none : get_or u.ends j no_ends ≡ no_ends =
                ends_same j ∙ get_or_past s.ends j no_ends (omega (arith, held.linked.count)) in
                record { nexts = ap (λ (e : Ends). e.first) none; prevs = ap (λ (e : Ends). e.last) none; tags = tt; distinct = tt })
          ]);
        };
        counted = omega (arith, sum_by-append length lists ([] ∷ []), held.counted, ap slab_len nodes);
        home = λ key tag e.
            let h = held.home key tag (sym (ap tag_of (read key)) ∙ e) in
            (omega (arith, h.0, lens), subst (λ es. HasId es key) (sym (same_pushed lists [] tag.0)) h.1);
      }
    where
      next_same : ((key : ℕ) → get u.nodes key ≡ get s.nodes key) → ((j : ℕ) → get_or u.ends j no_ends ≡ get_or s.ends j no_ends)
          → (j : ℕ) (place : Option ℕ) → next_at u j place ≡ next_at s j place
      next_same read ends_same j None = ap (λ (e : Ends). e.first) (ends_same j)
      next_same read ends_same j (Some key) = ap next_of (read key)

      prev_same : ((key : ℕ) → get u.nodes key ≡ get s.nodes key) → ((j : ℕ) → get_or u.ends j no_ends ≡ get_or s.ends j no_ends)
          → (j : ℕ) (place : Option ℕ) → prev_at u j place ≡ prev_at s j place
      prev_same read ends_same j None = ap (λ (e : Ends). e.last) (ends_same j)
      prev_same read ends_same j (Some key) = ap prev_of (read key)

      moved : ((key : ℕ) → get u.nodes key ≡ get s.nodes key) → ((j : ℕ) → get_or u.ends j no_ends ≡ get_or s.ends j no_ends)
          → (j : ℕ) (es : List (ℕ × T)) → Chain s j es → Chain u j es
      moved read ends_same j es c =
          let nexts : (place : Option ℕ) → next_at u j place ≡ next_at s j place = next_same read ends_same j in
          let prevs : (place : Option ℕ) → prev_at u j place ≡ prev_at s j place = prev_same read ends_same j in
          record {
            nexts = frame_next (next_at s j) (next_at u j) None es None (same_all (next_at s j) (next_at u j) es nexts) (nexts None)
                c.nexts;
            prevs = frame_prev (prev_at s j) (prev_at u j) None es None (same_all (prev_at s j) (prev_at u j) es prevs) (prevs None)
                c.prevs;
            tags = tagged_same (tag_at s) (tag_at u) j es (λ key. ap tag_of (read key)) c.tags;
            distinct = c.distinct;
          }

  -- ---- reading
  pub node_read : (s : Store T) (lists : List (List (ℕ × T))) (key : ℕ) (node : Node T) → Holds s lists
      → get s.nodes key ≡ Some node → (list : ℕ) (front : List (ℕ × T)) (value : T) (back : List (ℕ × T))
      → Stands lists list front key value back
      → node ≡ record { list = list; prev = last_id front; next = first_id back; value = value }
  node_read s lists key node held there list front value back stands =
      ap (node_or node) (sym there ∙ node_at s lists list front key value back held.linked stands)
      ∙ ap (λ (p : Option ℕ). record { list = list; prev = p; next = first_or back None; value = value }) (sym (last_id-last_or front))
      ∙ ap (λ (q : Option ℕ). record { list = list; prev = last_id front; next = q; value = value }) (sym (first_id-first_or back))

  pub live_has : (s : Store T) (lists : List (List (ℕ × T))) (key : ℕ) → Holds s lists → IsLive lists key → ContainsKey s.nodes key
  live_has s lists key held live = ap is_some (node_at s lists live.list live.front key live.value live.back held.linked live.stands)

  record Split (es : List (ℕ × T)) (key : ℕ) : Type 0 where
    front : List (ℕ × T)
    value : T
    back : List (ℕ × T)
    parts : es ≡ front ++ (key, value) ∷ back

  split_at : (es : List (ℕ × T)) (key : ℕ) → HasId es key → Split es key
  split_at [] key h = absurd h
  split_at (e ∷ es) key h =
      elim h [
        | inl here ↦ record { front = []; value = e.1; back = es; parts = ap (λ (k : ℕ). (k, e.1) ∷ es) here }
        | inr there ↦ let rest = split_at es key there in record
            { front = e ∷ rest.front; value = rest.value; back = rest.back; parts = ap (λ (xs : List (ℕ × T)). e ∷ xs) rest.parts }
      ]

  some_node : (o : Option (Node T)) → IsSome o → (tag : ℕ × T) × (tag_of o ≡ Some tag)
  some_node None h = absurd (cc)
  some_node (Some node) h = ((node.list, node.value), refl)

  pub has_live : (s : Store T) (lists : List (List (ℕ × T))) (key : ℕ) → Holds s lists → ContainsKey s.nodes key → IsLive lists key
  has_live s lists key held has =
      let found = some_node (get s.nodes key) has in
      let home = held.home key found.0 found.1 in
      let parts = split_at (list_at lists found.0.0) key home.1 in
      record { list = found.0.0; front = parts.front; value = parts.value; back = parts.back; stands = record { at = parts.parts } }

  pub first_read : (s : Store T) (lists : List (List (ℕ × T))) (list : ℕ) → Holds s lists → list < length lists
      → (get_or s.ends list no_ends).first ≡ first_id (list_at lists list)
  first_read s lists list held within = first_at s lists list held.linked within ∙ sym (first_id-first_or (list_at lists list))

  pub last_read : (s : Store T) (lists : List (List (ℕ × T))) (list : ℕ) → Holds s lists → list < length lists
      → (get_or s.ends list no_ends).last ≡ last_id (list_at lists list)
  last_read s lists list held within = last_at s lists list held.linked within ∙ sym (last_id-last_or (list_at lists list))

  -- ---- taking out
  pub live_take : (s : Store T) (lists : List (List (ℕ × T))) (key : ℕ) → Holds s lists → IsLive lists key → CanTake s key
  live_take s lists key held live = can_take s lists live.list live.front key live.value live.back held.linked live.stands

  pub same_taken : (s t : Store T) (lists : List (List (ℕ × T))) (key : ℕ) → Holds s lists → IsLive lists key → t ≡ taken s key
      → SameNodes s t
  same_taken s t lists key held live is =
      let can = (linked_out s lists live.list live.front key live.value live.back held.linked live.stands).0 in
      subst (SameNodes s) (sym (is ∙ taken_is s lists live.list live.front key live.value live.back held.linked live.stands))
      (SameNodes-joined s live.list (last_or None live.front) (first_or live.back None) can)

  pub taken_has : (s t : Store T) (lists : List (List (ℕ × T))) (key : ℕ) → Holds s lists → IsLive lists key → t ≡ taken s key
      → ContainsKey t.nodes key
  taken_has s t lists key held live is =
      has_tag t key (live.list, live.value) ((same_taken s t lists key held live is).tags key
      ∙ ap tag_of (node_at s lists live.list live.front key live.value live.back held.linked live.stands))

  pub taken_value : (s t : Store T) (lists : List (List (ℕ × T))) (key : ℕ) (node : Node T) → Holds s lists → IsLive lists key
      → t ≡ taken s key → get t.nodes key ≡ Some node
      → (list : ℕ) (front : List (ℕ × T)) (value : T) (back : List (ℕ × T)) → Stands lists list front key value back → node.value ≡ value
  taken_value s t lists key node held live is there list front value back stands =
      same_value node.value value node.list list (sym (ap tag_of there) ∙ (same_taken s t lists key held live is).tags key
      ∙ ap tag_of (node_at s lists list front key value back held.linked stands))

  pub unlinked : (s t u : Store T) (lists : List (List (ℕ × T))) (key : ℕ) → Holds s lists → t ≡ taken s key → u.ends ≡ t.ends
      → Updates t.nodes u.nodes key None → slab_len u.nodes + 1 ≡ slab_len t.nodes
      → (list : ℕ) (front : List (ℕ × T)) (value : T) (back : List (ℕ × T)) → Stands lists list front key value back
      → Holds u (set lists list (front ++ back))
  unlinked s t u lists key held is ends updates len list front value back stands =
      holds_out s u lists list front key value back held stands (ends ∙ ap (λ (r : Store T). r.ends) is)
      (λ other differs. updates.others other differs ∙ ap (λ (r : Store T). get r.nodes other) is) updates.changed
      (len ∙ ap (λ (r : Store T). slab_len r.nodes) is)

  -- ---- putting in
  -- what a store with a new node can do with it, and what holds then
  pub record Into (u : Store T) (lists : List (List (ℕ × T))) (list : ℕ) (prev next : Option ℕ) (key : ℕ) (entries : List (ℕ × T)) :
      Type 0 where
    pub before : CanJoin u list prev (Some key)
    pub behind : CanJoin (joined u list prev (Some key)) list (Some key) next
    pub holds : Holds (put u key list prev next) (set lists list entries)

  pub inserted : (s r u : Store T) (lists : List (List (ℕ × T))) (list key : ℕ) (value : T) (prev next : Option ℕ) → Holds s lists
      → r.ends ≡ s.ends → r.nodes.slots ≡ s.nodes.slots → u.ends ≡ r.ends
      → Updates r.nodes u.nodes key (Some (record { list = list; prev = None; next = None; value = value }))
      → get r.nodes key ≡ None → slab_len u.nodes ≡ slab_len r.nodes + 1 → list < length lists
      → (front back : List (ℕ × T)) → list_at lists list ≡ front ++ back → prev ≡ last_id front → next ≡ first_id back
      → Into u lists list prev next key (front ++ (key, value) ∷ back)
  inserted s r u lists list key value prev next held ends slots ends' updates vacant len within front back parts before behind =
      let held' = holds_room s r lists ends slots held in
      let into = holds_in r u lists list front key value back held' within parts ends' updates.others vacant
      (ap tag_of updates.changed) len in
      subst (λ (p : Option ℕ). Into u lists list p next key (front ++ (key, value) ∷ back)) (sym (before ∙ last_id-last_or front))
      (subst (λ (q : Option ℕ). Into u lists list (last_or None front) q key (front ++ (key, value) ∷ back))
      (sym (behind ∙ first_id-first_or back))
      (record { before = into.0; behind = into.1; holds = into.2 }))

  pub fresh_key : (s r : Store T) (lists : List (List (ℕ × T))) (key : ℕ) → Holds s lists → r.nodes.slots ≡ s.nodes.slots
      → get r.nodes key ≡ None → IsLive lists key → ⊥
  fresh_key s r lists key held slots vacant live =
      vacant_dead s lists key held.linked (sym (ap (λ (xs : List (Option (Node T))). get_or xs key None) slots) ∙ vacant) live

  -- ---- moving
  pub moved : (s t u : Store T) (lists : List (List (ℕ × T))) (key target : ℕ) (last : Option ℕ) → Holds s lists → t ≡ taken s key
      → u ≡ relisted t key target → target < length lists → last ≡ prev_at u target None
      → (list : ℕ) (front : List (ℕ × T)) (value : T) (back : List (ℕ × T)) → Stands lists list front key value back
      → Into u (set lists list (front ++ back)) target last None key (list_at (set lists list (front ++ back)) target ++ (key, value) ∷ [])
  moved s t u lists key target last held is relists within at list front value back stands =
      let rest = set lists list (front ++ back) in
      let e : u ≡ relisted (taken s key) key target = relists ∙ ap (λ (r : Store T). relisted r key target) is in
      let m = holds_move s lists list front key value back target held stands within in
      subst (λ (r : Store T). Into r rest target last None key (list_at rest target ++ (key, value) ∷ [])) (sym e)
      (subst (λ (p : Option ℕ). Into (relisted (taken s key) key target) rest target p None key (list_at rest target ++ (key, value) ∷ []))
      (sym (at ∙ ap (λ (r : Store T). prev_at r target None) e ∙ m.last))
      (record { before = m.before; behind = m.behind; holds = m.holds }))

  -- ---- what stays
  pub same_put : (u : Store T) (key list : ℕ) (prev next : Option ℕ) → CanJoin u list prev (Some key)
      → CanJoin (joined u list prev (Some key)) list (Some key) next → SameNodes u (put u key list prev next)
  same_put u key list prev next before behind =
      let first = SameNodes-joined u list prev (Some key) before in
      let second = SameNodes-joined (joined u list prev (Some key)) list (Some key) next behind in
      record {
        tags = λ k. second.tags k ∙ first.tags k;
        len = second.len ∙ first.len;
        capacity = second.capacity ∙ first.capacity;
        ends = second.ends ∙ first.ends;
      }

  pub len_room : (s r : Store T) → r.nodes.slots ≡ s.nodes.slots → slab_len r.nodes ≡ slab_len s.nodes
  len_room s r slots = ap (count_by is_some) slots

  pub len_relisted : (t : Store T) (key target : ℕ) → ContainsKey t.nodes key → slab_len (relisted t key target).nodes ≡ slab_len t.nodes
  len_relisted t key target has = slab_len-changed t.nodes key (λ (node : Node T). record node { list = target }) has

  -- ---- gaps
  pub gap_at_end : (s : Store T) (lists : List (List (ℕ × T))) (list : ℕ) (last : Option ℕ) → Holds s lists → list < length lists
      → last ≡ (get_or s.ends list no_ends).last → IsGap lists list last None
  gap_at_end s lists list last held within at =
      record {
        within = within;
        front = list_at lists list;
        back = [];
        parts = sym (append-nil (list_at lists list));
        before = at ∙ last_read s lists list held within;
        behind = refl;
      }

  last_id-push : (xs : List (ℕ × T)) (e : ℕ × T) → last_id (xs ++ e ∷ []) ≡ Some e.0
  last_id-push [] e = refl
  last_id-push (x ∷ []) e = refl
  last_id-push (x ∷ y ∷ xs) e = last_id-push (y ∷ xs) e

  pub gap_behind : (s : Store T) (lists : List (List (ℕ × T))) (key : ℕ) (node : Node T) → Holds s lists
      → get s.nodes key ≡ Some node → IsLive lists key → IsGap lists node.list (Some key) node.next
  gap_behind s lists key node held there live =
      subst (λ (n : Node T). IsGap lists n.list (Some key) n.next)
      (sym (node_read s lists key node held there live.list live.front live.value live.back live.stands))
      (record {
        within = stands_within lists live.list live.front key live.value live.back live.stands;
        front = live.front ++ (key, live.value) ∷ [];
        back = live.back;
        parts = live.stands.at ∙ sym (append_assoc live.front ((key, live.value) ∷ []) live.back);
        before = sym (last_id-push live.front (key, live.value));
        behind = refl;
      })

  -- what was put into the gap behind a node stands behind it
  pub put_behind : (s : Store T) (lists now : List (List (ℕ × T))) (key new : ℕ) (node : Node T) (value : T) → Holds s lists
      → get s.nodes key ≡ Some node
      → ((front back : List (ℕ × T)) → list_at lists node.list ≡ front ++ back → Some key ≡ last_id front
      → node.next ≡ first_id back → now ≡ set lists node.list (front ++ (new, value) ∷ back))
      → (list : ℕ) (front : List (ℕ × T)) (here : T) (back : List (ℕ × T)) → Stands lists list front key here back
      → now ≡ set lists list (front ++ (key, here) ∷ (new, value) ∷ back)
  put_behind s lists now key new node value held there added list front here back stands =
      let is = node_read s lists key node held there list front here back stands in
      let at : node.list ≡ list = ap (λ (n : Node T). n.list) is in
      added (front ++ (key, here) ∷ []) back (ap (list_at lists) at ∙ stands.at ∙ sym (append_assoc front ((key, here) ∷ []) back))
      (sym (last_id-push front (key, here))) (ap (λ (n : Node T). n.next) is)
      ∙ ap (λ (k : ℕ). set lists k ((front ++ (key, here) ∷ []) ++ (new, value) ∷ back)) at
      ∙ ap (set lists list) (append_assoc front ((key, here) ∷ []) ((new, value) ∷ back))

  -- ---- one place
  abbrev head_or : ℕ × T → List (ℕ × T) → ℕ × T
  head_or d [] = d
  head_or d (e ∷ es) = e

  abbrev tail_of : List (ℕ × T) → List (ℕ × T)
  tail_of [] = []
  tail_of (e ∷ es) = es

  place_once : (key : ℕ) (value value' : T) (front back front' back' : List (ℕ × T))
      → front ++ (key, value) ∷ back ≡ front' ++ (key, value') ∷ back' → Distinct (front ++ (key, value) ∷ back)
      → (front ≡ front') × (◌≡◌ {A = ℕ × T} (key, value) (key, value')) × (back ≡ back')
  place_once key value value' [] back [] back' e d = (refl, ap (head_or (key, value)) e, ap tail_of e)
  place_once key value value' [] back (y ∷ front') back' e d =
      absurd (apart_here (Some key) front' (key, value') back' (subst (Apart (Some key)) (ap tail_of e) d.0) refl)
  place_once key value value' (x ∷ front) back [] back' e d =
      absurd (apart_here (Some x.0) front (key, value) back d.0 (ap (λ (es : List (ℕ × T)). Some (head_or x es).0) e))
  place_once key value value' (x ∷ front) back (y ∷ front') back' e d =
      let rest = place_once key value value' front back front' back' (ap tail_of e) d.1 in
      (ap (λ (z : ℕ × T). z ∷ front) (ap (head_or x) e) ∙ ap (λ (es : List (ℕ × T)). y ∷ es) rest.0, rest.1, rest.2)

  pub stands_once : (s : Store T) (lists : List (List (ℕ × T))) → Holds s lists → StandsOnce lists
  stands_once s lists held = record {
    same_list = λ node list other front front' value value' back back' here there.
        ap (λ (o : Option (Node T)). (node_or (record { list = list; prev = None; next = None; value = value }) o).list)
        (sym (node_at s lists list front node value back held.linked here)
        ∙ node_at s lists other front' node value' back' held.linked there);
    same_place = λ node list front front' value value' back back' here there.
        let c = held.linked.chains list (stands_within lists list front node value back here) in
        let once = place_once node value value' front back front' back' (sym here.at ∙ there.at) (subst Distinct here.at c.distinct) in
        (once.0, ap (λ (e : ℕ × T). e.1) once.1, once.2);
  }
