-- What holds of a store after each call of the arena.
use Rattle.std.proofs.Common.{◌≡◌, ◌≢◌, ℕ, ◌+◌, ◌<◌, List, [], ◌∷◌, ◌++◌, length, set, Option, Some, None}
use Rattle.std.proofs.Common.{is_some, refl, sym, ap, subst, ◌∙◌, inl, inr, arith, length-append}
use Rattle.std.specs.Option.{option_map}
use Rattle.std.proofs.lemmas.Bool.{cases_eq, cases_lt}
use Rattle.std.proofs.lemmas.List.{get_or-set_same, get_or_past, length-set, append-nil}
use Rattle.std.proofs.lemmas.List.Sums.{sum_by-set}
use Rattle.slab.specs.Slab.{get, slab_len, ContainsKey}
use Rattle.linkarena.specs.declared.links.Node.{Node}
use Rattle.linkarena.specs.Lists.{list_at, Stands, IsLive, node_count}
use Rattle.linkarena.specs.Links.{Store, next_of, prev_of, tag_of, next_at, prev_at, tag_at, joined, changed_at, taken, taken_by}
use Rattle.linkarena.specs.Links.{put, Nexts, Prevs, Apart, HasId, Chain, Linked, Holds, CanJoin, CanTake}
use Rattle.linkarena.proofs.ChainLemmas.{last_or, first_or, cut_next, cut_prev, frame_next, frame_prev, SameOn}
use Rattle.linkarena.proofs.ChainLemmas.{distinct_drop, distinct_put, distinct_back, apart_both, apart_before}
use Rattle.linkarena.proofs.StoreLemmas.{SameNodes-joined, read_kept, read_changed, read_elsewhere, slab_len-changed}
use Rattle.linkarena.proofs.LinkLemmas.{Loose, linked_out, linked_in, linked_but, each_after_set, each_set, has_tag, stands_within}
use Rattle.linkarena.proofs.LinkLemmas.{apart_foreign, foreign_tag, tagged_back, tagged_away, tagged_drop, tagged_put}

module _ {T : Type 0} where
  -- ---- ids of a list
  has_drop : (xs : List (ℕ × T)) (y : ℕ × T) (ys : List (ℕ × T)) (key : ℕ) → key ≢ y.0 → HasId (xs ++ y ∷ ys) key → HasId (xs ++ ys) key
  has_drop [] y ys key differs h = elim h [ inl e ↦ absurd (differs (sym e)) | inr there ↦ there ]
  has_drop (x ∷ xs) y ys key differs h = elim h [ inl e ↦ inl e | inr there ↦ inr (has_drop xs y ys key differs there) ]

  has_put : (xs : List (ℕ × T)) (y : ℕ × T) (ys : List (ℕ × T)) (key : ℕ) → HasId (xs ++ ys) key → HasId (xs ++ y ∷ ys) key
  has_put [] y ys key h = inr h
  has_put (x ∷ xs) y ys key h = elim h [ inl e ↦ inl e | inr there ↦ inr (has_put xs y ys key there) ]

  has_here : (xs : List (ℕ × T)) (y : ℕ × T) (ys : List (ℕ × T)) → HasId (xs ++ y ∷ ys) y.0
  has_here [] y ys = inl refl
  has_here (x ∷ xs) y ys = inr (has_here xs y ys)

  abbrev tag_or : ℕ × T → Option (ℕ × T) → ℕ × T
  tag_or d None = d
  tag_or d (Some tag) = tag

  some_tag : (a b : ℕ × T) → Some a ≡ Some b → a ≡ b
  some_tag a b e = ap (tag_or a) e

  abbrev list_or : Option (ℕ × T) → ℕ
  list_or None = 0
  list_or (Some tag) = tag.0

  -- ---- what the store has of a node that stands in a list
  node_from : (o : Option (Node T)) (list : ℕ) (value : T) (prev next : Option ℕ) → tag_of o ≡ Some (list, value) → prev_of o ≡ prev
      → next_of o ≡ next → o ≡ Some (record { list = list; prev = prev; next = next; value = value })
  node_from None list value prev next t p q = absurd (cc)
  node_from (Some node) list value prev next t p q = ap Some
      (same_node node list value t ∙ ap (λ (r : Option ℕ). record { list = list; prev = r; next = node.next; value = value }) p
      ∙ ap (λ (r : Option ℕ). record { list = list; prev = prev; next = r; value = value }) q)
    where
      same_node : (n : Node T) (l : ℕ) (v : T) → ◌≡◌ {A = Option (ℕ × T)} (Some (n.list, n.value)) (Some (l, v))
          → n ≡ record { list = l; prev = n.prev; next = n.next; value = v }
      same_node n l v e = ap (λ (tag : ℕ × T). record { list = tag.0; prev = n.prev; next = n.next; value = tag.1 })
          (some_tag (n.list, n.value) (l, v) e)

  pub node_at : (s : Store T) (lists : List (List (ℕ × T))) (list : ℕ) (xs : List (ℕ × T)) (key : ℕ) (value : T) (ys : List (ℕ × T))
      → Linked s lists → Stands lists list xs key value ys
      → get s.nodes key ≡ Some (record { list = list; prev = last_or None xs; next = first_or ys None; value = value })
  node_at s lists list xs key value ys linked stands =
      let c = subst (Chain s list) stands.at (linked.chains list (stands_within lists list xs key value ys stands)) in
      let tag : tag_at s key ≡ Some (list, value) = (tagged_back (tag_at s) list xs ((key, value) ∷ ys) c.tags).0 in
      let next : next_at s list (Some key) ≡ first_or ys None =
      (cut_next (next_at s list) (Some key) [] ys None (cut_next (next_at s list) None xs ((key, value) ∷ ys) None c.nexts).1).0 in
      let prev : prev_at s list (Some key) ≡ last_or None xs = (cut_prev (prev_at s list) None xs ((key, value) ∷ ys) None c.prevs).1.0 in
      node_from (get s.nodes key) list value (last_or None xs) (first_or ys None) tag prev next

  pub first_at : (s : Store T) (lists : List (List (ℕ × T))) (list : ℕ) → Linked s lists → list < length lists
      → next_at s list None ≡ first_or (list_at lists list) None
  first_at s lists list linked within = (cut_next (next_at s list) None [] (list_at lists list) None (linked.chains list within).nexts).0

  pub last_at : (s : Store T) (lists : List (List (ℕ × T))) (list : ℕ) → Linked s lists → list < length lists
      → prev_at s list None ≡ last_or None (list_at lists list)
  last_at s lists list linked within =
      let es = list_at lists list in
      (cut_prev (prev_at s list) None es [] None (subst (λ (xs : List (ℕ × T)). Prevs (prev_at s list) None xs None)
      (sym (append-nil es)) (linked.chains list within).prevs)).1

  abbrev pub node_or : Node T → Option (Node T) → Node T
  node_or d None = d
  node_or d (Some node) = node

  pub can_take : (s : Store T) (lists : List (List (ℕ × T))) (list : ℕ) (xs : List (ℕ × T)) (key : ℕ) (value : T)
      (ys : List (ℕ × T)) → Linked s lists → Stands lists list xs key value ys → CanTake s key
  can_take s lists list xs key value ys linked stands =
      let there = node_at s lists list xs key value ys linked stands in
      let can = (linked_out s lists list xs key value ys linked stands).0 in
      record {
        has = ap is_some there;
        can = λ node e. subst (λ (n : Node T). CanJoin s n.list n.prev n.next) (ap (node_or node) (sym there ∙ e)) can;
      }

  pub taken_is : (s : Store T) (lists : List (List (ℕ × T))) (list : ℕ) (xs : List (ℕ × T)) (key : ℕ) (value : T)
      (ys : List (ℕ × T)) → Linked s lists → Stands lists list xs key value ys
      → taken s key ≡ joined s list (last_or None xs) (first_or ys None)
  taken_is s lists list xs key value ys linked stands = ap (taken_by s) (node_at s lists list xs key value ys linked stands)

  untagged : (o : Option (Node T)) (tag : ℕ × T) → o ≡ None → tag_of o ≡ Some tag → ⊥
  untagged None tag n e = cc
  untagged (Some node) tag n e = cc

  pub vacant_loose : (s : Store T) (lists : List (List (ℕ × T))) (key : ℕ) → Linked s lists → get s.nodes key ≡ None → Loose lists key
  vacant_loose s lists key linked vacant list =
      elim (cases_lt list (length lists)) [
        | inl below ↦ apart_foreign (tag_at s) list (Some key) (list_at lists list) (λ k v e tag. cannot k v e tag)
            (linked.chains list below).tags
        | inr past ↦ subst (Apart (Some key)) (sym (get_or_past lists list [] past)) tt
      ]
    where
      cannot : (k : ℕ) (v : T) → Some key ≡ Some k → tag_at s k ≡ Some (list, v) → ⊥
      cannot k v e tag =
          let same : key ≡ k = cc in
          let none : get s.nodes k ≡ None = subst (λ (j : ℕ). get s.nodes j ≡ None) same vacant in
          untagged (get s.nodes k) (list, v) none tag

  -- a node that the store doesn't have is in no list
  pub vacant_dead : (s : Store T) (lists : List (List (ℕ × T))) (key : ℕ) → Linked s lists → get s.nodes key ≡ None → IsLive lists key → ⊥
  vacant_dead s lists key linked vacant live =
      let there = node_at s lists live.list live.front key live.value live.back linked live.stands in
      let no = sym vacant ∙ there in
      cc

  -- ---- a node is taken out
  home_out : (s : Store T) (lists : List (List (ℕ × T))) (list : ℕ) (xs : List (ℕ × T)) (key : ℕ) (value : T) (ys : List (ℕ × T))
      → Holds s lists → Stands lists list xs key value ys
      → (other : ℕ) (tag : ℕ × T) → other ≢ key → tag_at s other ≡ Some tag
      → (tag.0 < length (set lists list (xs ++ ys))) × HasId (list_at (set lists list (xs ++ ys)) tag.0) other
  home_out s lists list xs key value ys held stands other tag differs e =
      let h = held.home other tag e in (
        subst (λ n. tag.0 < n) (sym (length-set lists list (xs ++ ys))) h.0,
        each_after_set (λ _ es. HasId es other) lists list (xs ++ ys) (stands_within lists list xs key value ys stands) tag.0
            (λ same. has_drop xs (key, value) ys other differs
            (subst (λ (es : List (ℕ × T)). HasId es other) (ap (list_at lists) same ∙ stands.at) h.1))
            (λ _. h.1),
      )

  count_out : (lists : List (List (ℕ × T))) (list : ℕ) (xs : List (ℕ × T)) (key : ℕ) (value : T) (ys : List (ℕ × T))
      → Stands lists list xs key value ys → node_count (set lists list (xs ++ ys)) + 1 ≡ node_count lists
  count_out lists list xs key value ys stands =
      omega (
        arith,
        sum_by-set length lists list (xs ++ ys) [] (stands_within lists list xs key value ys stands),
        ap length
            stands.at,
        length-append xs ((key, value) ∷ ys),
        length-append xs ys,
      )

  pub holds_out : (s u : Store T) (lists : List (List (ℕ × T))) (list : ℕ) (xs : List (ℕ × T)) (key : ℕ) (value : T)
      (ys : List (ℕ × T)) → Holds s lists → Stands lists list xs key value ys
      → u.ends ≡ (taken s key).ends → ((other : ℕ) → other ≢ key → get u.nodes other ≡ get (taken s key).nodes other)
      → get u.nodes key ≡ None → slab_len u.nodes + 1 ≡ slab_len (taken s key).nodes
      → Holds u (set lists list (xs ++ ys))
  holds_out s u lists list xs key value ys held stands ends others vacant len =
      let is = taken_is s lists list xs key value ys held.linked stands in
      let out = linked_out s lists list xs key value ys held.linked stands in
      let s' = joined s list (last_or None xs) (first_or ys None) in
      let same = SameNodes-joined s list (last_or None xs) (first_or ys None) out.0 in
      let read : (other : ℕ) → other ≢ key → get u.nodes other ≡ get s'.nodes other =
      λ other differs. others other differs ∙ ap (λ (r : Store T). get r.nodes other) is in
      let counts : slab_len u.nodes + 1 ≡ slab_len s.nodes = len ∙ ap (λ (r : Store T). slab_len r.nodes) is ∙ same.len in
      record {
        linked = linked_but s' u (set lists list (xs ++ ys)) key out.2 (ends ∙ ap (λ (r : Store T). r.ends) is) read out.1;
        counted = omega (arith, count_out lists list xs key value ys stands, held.counted);
        home = λ other tag e. elim (cases_eq other key) [
          | inl here ↦ absurd (nothing other tag here e)
          | inr differs ↦ home_out s lists list xs key value ys held stands other tag differs
              (sym (same.tags other) ∙ sym (ap tag_of (read other differs)) ∙ e)
        ];
      }
    where
      nothing : (other : ℕ) (tag : ℕ × T) → other ≡ key → tag_at u other ≡ Some tag → ⊥
      nothing other tag here e =
          untagged (get u.nodes other) tag (ap (get u.nodes) here ∙ vacant) e

  -- ---- a node is put in
  put_home : (u : Store T) (lists : List (List (ℕ × T))) (list : ℕ) (xs : List (ℕ × T)) (key : ℕ) (value : T) (ys : List (ℕ × T))
      → list < length lists → list_at lists list ≡ xs ++ ys → tag_at u key ≡ Some (list, value)
      → ((other : ℕ) (tag : ℕ × T) → other ≢ key → tag_at u other ≡ Some tag → (tag.0 < length lists) × HasId (list_at lists tag.0) other)
      → (other : ℕ) (tag : ℕ × T) → tag_at u other ≡ Some tag
      → (tag.0 < length (set lists list (xs ++ (key, value) ∷ ys)))
      × HasId (list_at (set lists list (xs ++ (key, value) ∷ ys)) tag.0) other
  put_home u lists list xs key value ys within parts tag others other t e =
      let es = xs ++ (key, value) ∷ ys in
      elim (cases_eq other key) [
        | inl here ↦
            let same : t.0 ≡ list = ap list_or (sym e ∙ ap (tag_at u) here ∙ tag) in (
              subst (λ n. n < length (set lists list es)) (sym same) (subst (λ n. list < n) (sym (length-set lists list es)) within),
              subst (λ n. HasId (list_at (set lists list es) n) other) (sym same)
                  (subst (λ (zs : List (ℕ × T)). HasId zs other) (sym (get_or-set_same lists list es [] within))
                  (subst (HasId es) (sym here) (has_here xs (key, value) ys))),
            )
        | inr differs ↦
            let h = others other t differs e in (
              subst (λ n. t.0 < n) (sym (length-set lists list es)) h.0,
              each_after_set (λ _ zs. HasId zs other) lists list es within t.0
                  (λ same. has_put xs (key, value) ys other (subst (λ (zs : List (ℕ × T)). HasId zs other)
                  (ap (list_at lists) same ∙ parts) h.1))
                  (λ _. h.1),
            )
      ]

  -- a loose node comes into a list
  holds_put : (u : Store T) (lists : List (List (ℕ × T))) (list : ℕ) (xs : List (ℕ × T)) (key : ℕ) (value : T) (ys : List (ℕ × T))
      → Linked u lists → Loose lists key → tag_at u key ≡ Some (list, value) → list < length lists → list_at lists list ≡ xs ++ ys
      → node_count lists + 1 ≡ slab_len u.nodes → ((other : ℕ) (tag : ℕ × T) → other ≢ key → tag_at u other ≡ Some tag
      → (tag.0 < length lists) × HasId (list_at lists tag.0) other)
      → CanJoin u list (last_or None xs) (Some key) × CanJoin (joined u list (last_or None xs) (Some key)) list (Some key)
      (first_or ys None)
      × Holds (put u key list (last_or None xs) (first_or ys None)) (set lists list (xs ++ (key, value) ∷ ys))
  holds_put u lists list xs key value ys linked loose tag within parts counted others =
      let into = linked_in u lists list xs key value ys linked loose tag within parts in
      let p = last_or None xs in
      let q = first_or ys None in
      let first = SameNodes-joined u list p (Some key) into.0 in
      let second = SameNodes-joined (joined u list p (Some key)) list (Some key) q into.1 in (
        into.0,
        into.1,
        record {
          linked = into.2;
          counted = omega (
            arith,
            sum_by-set length lists list (xs ++ (key, value) ∷ ys) [] within,
            ap length parts,
            length-append
                xs ((key, value) ∷ ys),
            length-append xs ys,
            first.len,
            second.len,
          );
          home = λ other t e. put_home u lists list xs key value ys within parts tag others other t
              (sym (first.tags other) ∙ sym (second.tags other) ∙ e);
        },
      )

  -- a new node comes into a list
  pub holds_in : (s u : Store T) (lists : List (List (ℕ × T))) (list : ℕ) (xs : List (ℕ × T)) (key : ℕ) (value : T)
      (ys : List (ℕ × T)) → Holds s lists
      → list < length lists → list_at lists list ≡ xs ++ ys → u.ends ≡ s.ends
      → ((other : ℕ) → other ≢ key → get u.nodes other ≡ get s.nodes other) → get s.nodes key ≡ None
      → tag_at u key ≡ Some (list, value) → slab_len u.nodes ≡ slab_len s.nodes + 1
      → CanJoin u list (last_or None xs) (Some key) × CanJoin (joined u list (last_or None xs) (Some key)) list (Some key)
      (first_or ys None)
      × Holds (put u key list (last_or None xs) (first_or ys None)) (set lists list (xs ++ (key, value) ∷ ys))
  holds_in s u lists list xs key value ys held within parts ends others vacant tag len =
      let loose = vacant_loose s lists key held.linked vacant in
      holds_put u lists list xs key value ys (linked_but s u lists key loose ends others held.linked) loose tag within parts
      (omega (arith, held.counted))
      (λ other t differs e. held.home other t (sym (ap tag_of (others other differs)) ∙ e))

  -- ---- a node moves
  abbrev pub relisted : Store T → ℕ → ℕ → Store T
  relisted s key list = record s { nodes = changed_at s.nodes key (λ (node : Node T). record node { list = list }) }

  -- what a store with a loose node can do with it, and what holds then
  pub record Moved (u : Store T) (rest : List (List (ℕ × T))) (target key : ℕ) (value : T) : Type 0 where
    pub last : prev_at u target None ≡ last_or None (list_at rest target)
    pub before : CanJoin u target (last_or None (list_at rest target)) (Some key)
    pub behind : CanJoin (joined u target (last_or None (list_at rest target)) (Some key)) target (Some key) None
    pub holds : Holds (put u key target (last_or None (list_at rest target)) None)
        (set rest target (list_at rest target ++ (key, value) ∷ []))

  tag_relisted : (o : Option (Node T)) (list target : ℕ) (value : T) → tag_of o ≡ Some (list, value)
      → tag_of (option_map (λ (node : Node T). record node { list = target }) o) ≡ Some (target, value)
  tag_relisted None list target value e = absurd (cc)
  tag_relisted (Some node) list target value e = ap (λ (tag : ℕ × T). Some (target, tag.1))
      (some_tag (node.list, node.value) (list, value) e)

  pub holds_move : (s : Store T) (lists : List (List (ℕ × T))) (list : ℕ) (xs : List (ℕ × T)) (key : ℕ) (value : T)
      (ys : List (ℕ × T)) (target : ℕ) → Holds s lists → Stands lists list xs key value ys → target < length lists
      → Moved (relisted (taken s key) key target) (set lists list (xs ++ ys)) target key value
  holds_move s lists list xs key value ys target held stands within =
      let rest = set lists list (xs ++ ys) in
      let is = taken_is s lists list xs key value ys held.linked stands in
      let out = linked_out s lists list xs key value ys held.linked stands in
      let s' = joined s list (last_or None xs) (first_or ys None) in
      let same = SameNodes-joined s list (last_or None xs) (first_or ys None) out.0 in
      let u = relisted s' key target in
      let old : tag_at s' key ≡ Some (list, value) = same.tags key ∙ ap tag_of (node_at s lists list xs key value ys held.linked stands) in
      let has : ContainsKey s'.nodes key = has_tag s' key (list, value) old in
      let elsewhere : (other : ℕ) → other ≢ key → get u.nodes other ≡ get s'.nodes other =
      λ other differs. read_elsewhere (λ (o : Option (Node T)). o) (λ (node : Node T). record node { list = target }) s'.nodes
      key other differs in
      let linked = linked_but s' u rest key out.2 refl elsewhere out.1 in
      let inside : target < length rest = subst (λ n. target < n) (sym (length-set lists list (xs ++ ys))) within in
      let new : tag_at u key ≡ Some (target, value) = read_changed tag_of (λ (node : Node T). record node { list = target })
      s'.nodes key has ∙ tag_relisted (get s'.nodes key) list target value old in
      let len : slab_len u.nodes ≡ slab_len s.nodes = slab_len-changed s'.nodes key
      (λ (node : Node T). record node { list = target }) has ∙ same.len in
      let into = holds_put u rest target (list_at rest target) key value [] linked out.2 new inside (sym (append-nil (list_at rest target)))
      (omega (arith, count_out lists list xs key value ys stands, held.counted))
      (λ other t differs e. home_out s lists list xs key value ys held stands other t differs
      (sym (same.tags other) ∙ sym (ap tag_of (elsewhere other differs)) ∙ e)) in
      subst (λ (r : Store T). Moved (relisted r key target) rest target key value) (sym is) (record {
        last = last_at u rest target linked inside;
        before = into.0;
        behind = into.1;
        holds = into.2;
      })

  -- ---- a node gets another value
  abbrev pub revalued : Store T → ℕ → T → Store T
  revalued s key value = record s { nodes = changed_at s.nodes key (λ (node : Node T). record node { value = value }) }

  nexts_value : (f : Option ℕ → Option ℕ) (from : Option ℕ) (xs : List (ℕ × T)) (key : ℕ) (v w : T) (ys : List (ℕ × T))
      (to : Option ℕ) → Nexts f from (xs ++ (key, v) ∷ ys) to → Nexts f from (xs ++ (key, w) ∷ ys) to
  nexts_value f from [] key v w ys to h = (h.0, h.1)
  nexts_value f from (x ∷ xs) key v w ys to h = (h.0, nexts_value f (Some x.0) xs key v w ys to h.1)

  prevs_value : (f : Option ℕ → Option ℕ) (from : Option ℕ) (xs : List (ℕ × T)) (key : ℕ) (v w : T) (ys : List (ℕ × T))
      (to : Option ℕ) → Prevs f from (xs ++ (key, v) ∷ ys) to → Prevs f from (xs ++ (key, w) ∷ ys) to
  prevs_value f from [] key v w ys to h = (h.0, h.1)
  prevs_value f from (x ∷ xs) key v w ys to h = (h.0, prevs_value f (Some x.0) xs key v w ys to h.1)

  pub same_all : (old new : Option ℕ → Option ℕ) (es : List (ℕ × T)) → ((place : Option ℕ) → new place ≡ old place) → SameOn old new es
  same_all old new [] same = tt
  same_all old new (e ∷ es) same = (same (Some e.0), same_all old new es same)

  next_revalued : (value : T) (o : Option (Node T)) → next_of (option_map (λ (node : Node T). record node { value = value }) o) ≡ next_of o
  next_revalued value None = refl
  next_revalued value (Some node) = refl

  prev_revalued : (value : T) (o : Option (Node T)) → prev_of (option_map (λ (node : Node T). record node { value = value }) o) ≡ prev_of o
  prev_revalued value None = refl
  prev_revalued value (Some node) = refl

  tag_revalued : (o : Option (Node T)) (list : ℕ) (v w : T) → tag_of o ≡ Some (list, v)
      → tag_of (option_map (λ (node : Node T). record node { value = w }) o) ≡ Some (list, w)
  tag_revalued None list v w e = absurd (cc)
  tag_revalued (Some node) list v w e = ap (λ (tag : ℕ × T). Some (tag.0, w)) (some_tag (node.list, node.value) (list, v) e)

  pub holds_set : (s : Store T) (lists : List (List (ℕ × T))) (list : ℕ) (xs : List (ℕ × T)) (key : ℕ) (v w : T) (ys : List (ℕ × T))
      → Holds s lists → Stands lists list xs key v ys → Holds (revalued s key w) (set lists list (xs ++ (key, w) ∷ ys))
  holds_set s lists list xs key v w ys held stands =
      let within = stands_within lists list xs key v ys stands in
      let change = λ (node : Node T). record node { value = w } in
      let u = revalued s key w in
      let es = xs ++ (key, w) ∷ ys in
      let c = subst (Chain s list) stands.at (held.linked.chains list within) in
      let old : tag_at s key ≡ Some (list, v) = (tagged_back (tag_at s) list xs ((key, v) ∷ ys) c.tags).0 in
      let has : ContainsKey s.nodes key = has_tag s key (list, v) old in
      let elsewhere : (other : ℕ) → other ≢ key → tag_at u other ≡ tag_at s other =
      λ other differs. read_elsewhere tag_of change s.nodes key other differs in
      let nexts : (j : ℕ) (place : Option ℕ) → next_at u j place ≡ next_at s j place = next_same has in
      let prevs : (j : ℕ) (place : Option ℕ) → prev_at u j place ≡ prev_at s j place = prev_same has in
      let new : tag_at u key ≡ Some (list, w) = read_changed tag_of change s.nodes key has ∙ tag_revalued (get s.nodes key) list v w old in
      let rest = distinct_drop xs (key, v) ys c.distinct in
      let fresh : Apart (Some key) (xs ++ ys) = apart_both (Some key) xs ys (apart_before xs (key, v) ys c.distinct)
      (distinct_back xs ((key, v) ∷ ys) c.distinct).0 in
      let here : Chain u list es = record {
        nexts = frame_next (next_at s list) (next_at u list) None es None
            (same_all (next_at s list) (next_at u list) es (nexts list)) (nexts list None)
            (nexts_value (next_at s list) None xs key v w ys None c.nexts);
        prevs = frame_prev (prev_at s list) (prev_at u list) None es None
            (same_all (prev_at s list) (prev_at u list) es (prevs list)) (prevs list None)
            (prevs_value (prev_at s list) None xs key v w ys None c.prevs);
        tags = tagged_put (tag_at u) list xs (key, w) ys new
            (tagged_away (tag_at s) (tag_at u) list key (xs ++ ys) elsewhere fresh (tagged_drop (tag_at s) list xs (key, v) ys c.tags));
        distinct = distinct_put xs (key, w) ys fresh rest;
      } in
      let there : (other : ℕ) → other < length lists → other ≢ list → Chain u other (list_at lists other) = λ other below differs.
      let d = held.linked.chains other below in
      let zs = list_at lists other in
      record {
        nexts = frame_next (next_at s other) (next_at u other) None zs None
            (same_all (next_at s other) (next_at u other) zs (nexts other)) (nexts other None) d.nexts;
        prevs = frame_prev (prev_at s other) (prev_at u other) None zs None
            (same_all (prev_at s other) (prev_at u other) zs (prevs other)) (prevs other None) d.prevs;
        tags = tagged_away (tag_at s) (tag_at u) other key zs elsewhere
            (apart_foreign (tag_at s) other (Some key) zs (foreign_tag (tag_at s) list other key v differs old) d.tags) d.tags;
        distinct = d.distinct;
      } in
      let length' = length-set lists list es in
      record {
        linked = record {
          count = length' ∙ held.linked.count;
          chains = λ other below. each_set (Chain u) lists list es within here other (there other (subst (λ n. other < n) length' below));
        };
        counted = omega (
          arith,
          sum_by-set length lists list es [] within,
          ap length stands.at,
          length-append xs ((key, v) ∷ ys),
          length-append xs ((key, w) ∷ ys),
          held.counted,
          slab_len-changed s.nodes key change has,
        );
        home = λ other tag e. put_value has old new elsewhere within other tag e;
      }
    where
      next_same : ContainsKey s.nodes key → (j : ℕ) (place : Option ℕ) → next_at (revalued s key w) j place ≡ next_at s j place
      next_same has j None = refl
      next_same has j (Some other) = read_kept next_of (λ (node : Node T). record node { value = w }) (next_revalued w) s.nodes key
          other has

      prev_same : ContainsKey s.nodes key → (j : ℕ) (place : Option ℕ) → prev_at (revalued s key w) j place ≡ prev_at s j place
      prev_same has j None = refl
      prev_same has j (Some other) = read_kept prev_of (λ (node : Node T). record node { value = w }) (prev_revalued w) s.nodes key
          other has

      put_value : ContainsKey s.nodes key → tag_at s key ≡ Some (list, v) → tag_at (revalued s key w) key ≡ Some (list, w)
          → ((other : ℕ) → other ≢ key → tag_at (revalued s key w) other ≡ tag_at s other) → list < length lists
          → (other : ℕ) (tag : ℕ × T) → tag_at (revalued s key w) other ≡ Some tag
          → (tag.0 < length (set lists list (xs ++ (key, w) ∷ ys)))
          × HasId (list_at (set lists list (xs ++ (key, w) ∷ ys)) tag.0) other
      put_value has old new elsewhere within other tag e =
          let es = xs ++ (key, w) ∷ ys in
          elim (cases_eq other key) [
            | inl here ↦
                let same : tag.0 ≡ list = ap list_or (sym e ∙ ap (tag_at (revalued s key w)) here ∙ new) in (
                  subst (λ n. n < length (set lists list es)) (sym same) (subst (λ n. list < n) (sym (length-set lists list es)) within),
                  subst (λ n. HasId (list_at (set lists list es) n) other) (sym same)
                      (subst (λ (zs : List (ℕ × T)). HasId zs other) (sym (get_or-set_same lists list es [] within))
                      (subst (HasId es) (sym here) (has_here xs (key, w) ys))),
                )
            | inr differs ↦
                let h = held.home other tag (sym (elsewhere other differs) ∙ e) in (
                  subst (λ n. tag.0 < n) (sym (length-set lists list es)) h.0,
                  each_after_set (λ _ zs. HasId zs other) lists list es within tag.0
                      (λ same. has_put xs (key, w) ys other (has_drop xs (key, v) ys other differs
                      (subst (λ (zs : List (ℕ × T)). HasId zs other) (ap (list_at lists) same ∙ stands.at) h.1)))
                      (λ _. h.1),
                )
          ]
