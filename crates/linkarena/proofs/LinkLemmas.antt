-- The lists of a store, where a node leaves one or comes into one.
use Rattle.std.proofs.Common.{◌≡◌, ◌≢◌, ℕ, ◌<◌, List, [], ◌∷◌, ◌++◌, length, get_or, set, Option, Some, None}
use Rattle.std.proofs.Common.{IsSome, refl, sym, ap, subst, ◌∙◌, inl, inr, arith, length-append}
use Rattle.std.proofs.lemmas.Bool.{cases_eq, cases_lt}
use Rattle.std.proofs.lemmas.List.{get_or-set_same, get_or-set_other, get_or_past, length-set}
use Rattle.slab.specs.Slab.{get, ContainsKey}
use Rattle.linkarena.specs.declared.links.Node.{Node}
use Rattle.linkarena.specs.declared.links.Ends.{Ends}
use Rattle.linkarena.specs.Lists.{list_at, Stands}
use Rattle.linkarena.specs.Links.{Store, no_ends, next_of, prev_of, tag_of, next_at, prev_at, tag_at, joined}
use Rattle.linkarena.specs.Links.{Tagged, Apart, Distinct, Chain, Linked, Has, CanJoin}
use Rattle.linkarena.proofs.ChainLemmas.{last_or, first_or, SameOn, frame_next, frame_prev, distinct_drop, distinct_put}
use Rattle.linkarena.proofs.ChainLemmas.{apart_before, apart_both, distinct_back, nexts_out, prevs_out, nexts_in, prevs_in}
use Rattle.linkarena.proofs.StoreLemmas.{has_joined, len_joined, tag_joined, turned_next, turned_prev}
use Rattle.linkarena.proofs.StoreLemmas.{next_end_elsewhere, prev_end_elsewhere, next_elsewhere, prev_elsewhere}

some_inj : {A : Type 0} (a b : A) → Some a ≡ Some b → a ≡ b
some_inj a b h = cc

module _ {T : Type 0} where
  list_of : Option (ℕ × T) → ℕ
  list_of None = 0
  list_of (Some tag) = tag.0

  same_list : (o : Option (ℕ × T)) (a b : ℕ) (v w : T) → o ≡ Some (a, v) → o ≡ Some (b, w) → a ≡ b
  unfolding list_of
  same_list o a b v w p q = ap list_of (sym p ∙ q)

  -- ---- tags
  pub tagged_drop : (t : ℕ → Option (ℕ × T)) (list : ℕ) (xs : List (ℕ × T)) (y : ℕ × T) (ys : List (ℕ × T))
      → Tagged t list (xs ++ y ∷ ys) → Tagged t list (xs ++ ys)
  tagged_drop t list [] y ys h = h.1
  tagged_drop t list (x ∷ xs) y ys h = (h.0, tagged_drop t list xs y ys h.1)

  pub tagged_put : (t : ℕ → Option (ℕ × T)) (list : ℕ) (xs : List (ℕ × T)) (y : ℕ × T) (ys : List (ℕ × T))
      → t y.0 ≡ Some (list, y.1) → Tagged t list (xs ++ ys) → Tagged t list (xs ++ y ∷ ys)
  tagged_put t list [] y ys e h = (e, h)
  tagged_put t list (x ∷ xs) y ys e h = (h.0, tagged_put t list xs y ys e h.1)

  pub tagged_front : (t : ℕ → Option (ℕ × T)) (list : ℕ) (xs ys : List (ℕ × T)) → Tagged t list (xs ++ ys) → Tagged t list xs
  tagged_front t list [] ys h = tt
  tagged_front t list (x ∷ xs) ys h = (h.0, tagged_front t list xs ys h.1)

  pub tagged_back : (t : ℕ → Option (ℕ × T)) (list : ℕ) (xs ys : List (ℕ × T)) → Tagged t list (xs ++ ys) → Tagged t list ys
  tagged_back t list [] ys h = h
  tagged_back t list (x ∷ xs) ys h = tagged_back t list xs ys h.1

  pub tagged_same : (t u : ℕ → Option (ℕ × T)) (list : ℕ) (es : List (ℕ × T)) → ((key : ℕ) → u key ≡ t key) → Tagged t list es
      → Tagged u list es
  tagged_same t u list [] same h = tt
  tagged_same t u list (e ∷ es) same h = (same e.0 ∙ h.0, tagged_same t u list es same h.1)

  pub tagged_away : (t u : ℕ → Option (ℕ × T)) (list key : ℕ) (es : List (ℕ × T)) → ((other : ℕ) → other ≢ key → u other ≡ t other)
      → Apart (Some key) es → Tagged t list es → Tagged u list es
  tagged_away t u list key [] same a h = tt
  tagged_away t u list key (e ∷ es) same a h = (same e.0 (λ q. a.0 (ap Some (sym q))) ∙ h.0, tagged_away t u list key es same a.1 h.1)

  -- ---- what a tag tells
  is_some-tag : (o : Option (Node T)) (tag : ℕ × T) → tag_of o ≡ Some tag → IsSome o
  is_some-tag None tag h = absurd (cc)
  is_some-tag (Some node) tag h = refl

  pub has_none : (s : Store T) → Has s None
  has_none s key e = absurd (cc)

  pub has_some : (s : Store T) (key : ℕ) → ContainsKey s.nodes key → Has s (Some key)
  has_some s key has other e = subst (λ (k : ℕ). ContainsKey s.nodes k) (some_inj key other e) has

  pub has_tag : (s : Store T) (key : ℕ) (tag : ℕ × T) → tag_at s key ≡ Some tag → ContainsKey s.nodes key
  has_tag s key tag h = is_some-tag (get s.nodes key) tag h

  has_last : (s : Store T) (list : ℕ) (from : Option ℕ) (xs : List (ℕ × T)) → Has s from → Tagged (tag_at s) list xs
      → Has s (last_or from xs)
  has_last s list from [] f h = f
  has_last s list from (x ∷ xs) f h = has_last s list (Some x.0) xs (has_some s x.0 (has_tag s x.0 _ h.0)) h.1

  has_first : (s : Store T) (list : ℕ) (ys : List (ℕ × T)) → Tagged (tag_at s) list ys → Has s (first_or ys None)
  has_first s list [] h = has_none s
  has_first s list (y ∷ ys) h = has_some s y.0 (has_tag s y.0 _ h.0)

  -- the place is no node of this list
  abbrev pub Foreign : (ℕ → Option (ℕ × T)) → ℕ → Option ℕ → Type 0
  Foreign t list place = (key : ℕ) (value : T) → place ≡ Some key → t key ≢ Some (list, value)

  pub apart_foreign : (t : ℕ → Option (ℕ × T)) (list : ℕ) (place : Option ℕ) (es : List (ℕ × T)) → Foreign t list place
      → Tagged t list es → Apart place es
  apart_foreign t list place [] f h = tt
  apart_foreign t list place (e ∷ es) f h = ((λ q. f e.0 e.1 q h.0), apart_foreign t list place es f h.1)

  foreign_none : (t : ℕ → Option (ℕ × T)) (list : ℕ) → Foreign t list None
  foreign_none t list key value e = absurd (cc)

  pub foreign_tag : (t : ℕ → Option (ℕ × T)) (list other key : ℕ) (value : T) → other ≢ list → t key ≡ Some (list, value)
      → Foreign t other (Some key)
  foreign_tag t list other key value differs h k v e q =
      differs (same_list (t key) other list v value (subst (λ (j : ℕ). t j ≡ Some (other, v)) (sym (some_inj key k e)) q) h)

  foreign_last : (t : ℕ → Option (ℕ × T)) (list other : ℕ) (from : Option ℕ) (xs : List (ℕ × T)) → other ≢ list
      → Foreign t other from → Tagged t list xs → Foreign t other (last_or from xs)
  foreign_last t list other from [] differs f h = f
  foreign_last t list other from (x ∷ xs) differs f h = foreign_last t list other (Some x.0) xs differs
      (foreign_tag t list other x.0 x.1 differs h.0) h.1

  foreign_first : (t : ℕ → Option (ℕ × T)) (list other : ℕ) (ys : List (ℕ × T)) → other ≢ list → Tagged t list ys
      → Foreign t other (first_or ys None)
  foreign_first t list other [] differs h = foreign_none t other
  foreign_first t list other (y ∷ ys) differs h = foreign_tag t list other y.0 y.1 differs h.0

  -- ---- one list
  same_some : (old new : Option ℕ → Option ℕ) (at : Option ℕ) (es : List (ℕ × T)) → Apart at es
      → ((key : ℕ) → Some key ≢ at → new (Some key) ≡ old (Some key)) → SameOn old new es
  same_some old new at [] a same = tt
  same_some old new at (e ∷ es) a same = (same e.0 (λ h. a.0 (sym h)), same_some old new at es a.1 same)

  -- a list that has neither of the places that are joined
  pub chain_elsewhere : (s : Store T) (list other : ℕ) (prev next : Option ℕ) (es : List (ℕ × T)) → CanJoin s list prev next
      → other ≢ list → Apart prev es → Apart next es → Chain s other es → Chain (joined s list prev next) other es
  chain_elsewhere s list other prev next es can differs a b c =
      record {
        nexts = frame_next (next_at s other) (next_at (joined s list prev next) other) None es None
            (same_some (next_at s other) (next_at (joined s list prev next) other) prev es a
            (λ key n. next_elsewhere s list prev next can other key n)) (next_end_elsewhere s list prev next can other differs) c.nexts;
        prevs = frame_prev (prev_at s other) (prev_at (joined s list prev next) other) None es None
            (same_some (prev_at s other) (prev_at (joined s list prev next) other) next es b
            (λ key n. prev_elsewhere s list prev next can other key n)) (prev_end_elsewhere s list prev next can other differs) c.prevs;
        tags = tagged_same (tag_at s) (tag_at (joined s list prev next)) other es (tag_joined s list prev next can) c.tags;
        distinct = c.distinct;
      }

  can_join : (s : Store T) (list : ℕ) (xs ys : List (ℕ × T)) → list < length s.ends → Tagged (tag_at s) list xs
      → Tagged (tag_at s) list ys → CanJoin s list (last_or None xs) (first_or ys None)
  can_join s list xs ys within h k = record {
    within = within;
    has_prev = has_last s list None xs (has_none s) h;
    has_next =
        has_first s list ys k;
  }

  pub can_out : (s : Store T) (list : ℕ) (xs : List (ℕ × T)) (y : ℕ × T) (ys : List (ℕ × T)) → list < length s.ends
      → Chain s list (xs ++ y ∷ ys) → CanJoin s list (last_or None xs) (first_or ys None)
  can_out s list xs y ys within c =
      let rest = tagged_drop (tag_at s) list xs y ys c.tags in
      can_join s list xs ys within (tagged_front (tag_at s) list xs ys rest) (tagged_back (tag_at s) list xs ys rest)

  chain_out : (s : Store T) (list : ℕ) (xs : List (ℕ × T)) (y : ℕ × T) (ys : List (ℕ × T))
      → CanJoin s list (last_or None xs) (first_or ys None) → Chain s list (xs ++ y ∷ ys)
      → Chain (joined s list (last_or None xs) (first_or ys None)) list (xs ++ ys)
  chain_out s list xs y ys can c =
      let p = last_or None xs in
      let q = first_or ys None in
      record {
        nexts = nexts_out (next_at s list) _ xs y ys c.distinct (turned_next s list p q can) c.nexts;
        prevs = prevs_out (prev_at s list) _ xs y ys c.distinct (turned_prev s list p q can) c.prevs;
        tags = tagged_same (tag_at s) _ list (xs ++ ys) (tag_joined s list p q can) (tagged_drop (tag_at s) list xs y ys c.tags);
        distinct = distinct_drop xs y ys c.distinct;
      }

  -- ---- all lists
  pub stands_within : (lists : List (List (ℕ × T))) (list : ℕ) (front : List (ℕ × T)) (key : ℕ) (value : T) (back : List (ℕ × T))
      → Stands lists list front key value back → list < length lists
  stands_within lists list front key value back h =
      elim (cases_lt list (length lists)) [
        | inl below ↦ below
        | inr past ↦ absurd (omega (
          arith,
          ap length (sym (get_or_past lists list [] past) ∙ h.at),
          length-append front
              ((key, value) ∷ back),
        ))
      ]

  -- the node is in none of the lists
  abbrev pub Loose : List (List (ℕ × T)) → ℕ → Type 0
  Loose lists key = (list : ℕ) → Apart (Some key) (list_at lists list)

  -- a fact of each list holds of each list after one is set
  pub each_after_set : (P : ℕ → List (ℕ × T) → Type 0) (lists : List (List (ℕ × T))) (list : ℕ) (es : List (ℕ × T)) → list < length lists
      → (other : ℕ) → (other ≡ list → P list es) → (other ≢ list → P other (list_at lists other))
      → P other (list_at (set lists list es) other)
  each_after_set P lists list es within other here there =
      elim (cases_eq other list) [
        | inl same ↦ subst (λ (k : ℕ). P k (list_at (set lists list es) k)) (sym same)
            (subst (P list) (sym (get_or-set_same lists list es [] within)) (here same))
        | inr differs ↦ subst (P other) (sym (get_or-set_other lists list other es [] differs)) (there differs)
      ]

  pub each_set : (P : ℕ → List (ℕ × T) → Type 0) (lists : List (List (ℕ × T))) (list : ℕ) (es : List (ℕ × T)) → list < length lists
      → P list es
      → (other : ℕ) → (other ≢ list → P other (list_at lists other)) → P other (list_at (set lists list es) other)
  each_set P lists list es within here other there = each_after_set P lists list es within other (λ _. here) there

  chain_at : (s : Store T) (lists : List (List (ℕ × T))) (list : ℕ) (es : List (ℕ × T)) → Linked s lists → list < length lists
      → list_at lists list ≡ es → Chain s list es
  chain_at s lists list es linked within e = subst (Chain s list) e (linked.chains list within)

  pub linked_out : (s : Store T) (lists : List (List (ℕ × T))) (list : ℕ) (xs : List (ℕ × T)) (key : ℕ) (value : T)
      (ys : List (ℕ × T)) → Linked s lists → Stands lists list xs key value ys
      → CanJoin s list (last_or None xs) (first_or ys None) × Linked (joined s list (last_or None xs) (first_or ys None))
      (set lists list (xs ++ ys)) × Loose (set lists list (xs ++ ys)) key
  linked_out s lists list xs key value ys linked stands =
      let within = stands_within lists list xs key value ys stands in
      let c = chain_at s lists list (xs ++ (key, value) ∷ ys) linked within stands.at in
      let inside : list < length s.ends = omega (arith, linked.count) in
      let can = can_out s list xs (key, value) ys inside c in
      let p = last_or None xs in
      let q = first_or ys None in
      let s' = joined s list p q in
      let rest = tagged_drop (tag_at s) list xs (key, value) ys c.tags in
      let away : (other : ℕ) → other < length lists → other ≢ list → Chain s' other (list_at lists other) =
      λ other below differs.
      let t = (linked.chains other below).tags in
      chain_elsewhere s list other p q (list_at lists other) can differs
      (apart_foreign (tag_at s) other p (list_at lists other)
      (foreign_last (tag_at s) list other None xs differs (foreign_none (tag_at s) other)
      (tagged_front (tag_at s) list xs ys rest)) t)
      (apart_foreign (tag_at s) other q (list_at lists other)
      (foreign_first (tag_at s) list other ys differs (tagged_back (tag_at s) list xs ys rest)) t)
      (linked.chains other below) in
      let gone : Apart (Some key) (xs ++ ys) = apart_both (Some key) xs ys (apart_before xs (key, value) ys c.distinct)
      (distinct_back xs ((key, value) ∷ ys) c.distinct).0 in
      let tag : tag_at s key ≡ Some (list, value) = (tagged_back (tag_at s) list xs ((key, value) ∷ ys) c.tags).0 in (
        can,
        record {
          count = length-set lists list (xs ++ ys) ∙ linked.count ∙ sym (len_joined s list p q can);
          chains = λ other below. each_set (Chain s') lists list (xs ++ ys) within (chain_out s list xs (key, value) ys can c) other
              (away other (subst (λ n. other < n) (length-set lists list (xs ++ ys)) below));
        },
        λ other. each_set (λ _ es. Apart (Some key) es) lists list (xs ++ ys) within gone other
            (λ differs. loose_elsewhere other differs tag),
      )
    where
      loose_elsewhere : (other : ℕ) → other ≢ list → tag_at s key ≡ Some (list, value) → Apart (Some key) (list_at lists other)
      loose_elsewhere other differs tag =
          elim (cases_lt other (length lists)) [
            | inl below ↦ apart_foreign (tag_at s) other (Some key) (list_at lists other)
                (foreign_tag (tag_at s) list other key value differs tag) (linked.chains other below).tags
            | inr past ↦ subst (Apart (Some key)) (sym (get_or_past lists other [] past)) tt
          ]

  -- a store that differs in one loose node alone
  pub linked_but : (s u : Store T) (lists : List (List (ℕ × T))) (key : ℕ) → Loose lists key → u.ends ≡ s.ends
      → ((other : ℕ) → other ≢ key → get u.nodes other ≡ get s.nodes other) → Linked s lists → Linked u lists
  linked_but s u lists key loose ends same linked =
      record {
        count = linked.count ∙ ap length (sym ends);
        chains = λ list below.
            let c = linked.chains list below in
            let es = list_at lists list in
            record {
              nexts = frame_next (next_at s list) (next_at u list) None es None
                  (same_some (next_at s list) (next_at u list) (Some key) es (loose list)
                  (λ k n. ap next_of (same k (λ e. n (ap Some e)))))
                  (ap (λ (xs : List Ends). (get_or xs list no_ends).first) ends) c.nexts;
              prevs = frame_prev (prev_at s list) (prev_at u list) None es None
                  (same_some (prev_at s list) (prev_at u list) (Some key) es (loose list)
                  (λ k n. ap prev_of (same k (λ e. n (ap Some e))))) (ap (λ (xs : List Ends). (get_or xs list no_ends).last) ends)
                  c.prevs;
              tags = tagged_away (tag_at s) (tag_at u) list key es (λ other differs. ap tag_of (same other differs)) (loose list) c.tags;
              distinct = c.distinct;
            };
      }

  -- ---- a node comes into a list
  pub linked_in : (s : Store T) (lists : List (List (ℕ × T))) (list : ℕ) (xs : List (ℕ × T)) (key : ℕ) (value : T)
      (ys : List (ℕ × T)) → Linked s lists → Loose lists key → tag_at s key ≡ Some (list, value) → list < length lists
      → list_at lists list ≡ xs ++ ys
      → (CanJoin s list (last_or None xs) (Some key)) × (CanJoin (joined s list (last_or None xs) (Some key)) list (Some key)
      (first_or ys None))
      × Linked (joined (joined s list (last_or None xs) (Some key)) list (Some key) (first_or ys None))
      (set lists list (xs ++ (key, value) ∷ ys))
  linked_in s lists list xs key value ys linked loose tag within parts =
      let c = chain_at s lists list (xs ++ ys) linked within parts in
      let inside : list < length s.ends = omega (arith, linked.count) in
      let p = last_or None xs in
      let q = first_or ys None in
      let s' = joined s list p (Some key) in
      let u = joined s' list (Some key) q in
      let before = tagged_front (tag_at s) list xs ys c.tags in
      let behind = tagged_back (tag_at s) list xs ys c.tags in
      let here = has_some s key (has_tag s key (list, value) tag) in
      let can : CanJoin s list p (Some key) = record {
        within = inside;
        has_prev = has_last s list None xs (has_none s) before;
        has_next = here;
      } in
      let inside' : list < length s'.ends = subst (λ n. list < n) (sym (len_joined s list p (Some key) can)) inside in
      let can' : CanJoin s' list (Some key) q = record {
        within = inside';
        has_prev =
            has_joined s list p (Some key) can (Some key) here;
        has_next =
            has_joined s list p (Some key) can q (has_first s list ys behind);
      } in
      let fresh : Apart (Some key) (xs ++ ys) = subst (Apart (Some key)) parts (loose list) in
      let d : Distinct (xs ++ (key, value) ∷ ys) = distinct_put xs (key, value) ys fresh c.distinct in
      let whole : Chain u list (xs ++ (key, value) ∷ ys) = record {
        nexts = nexts_in (next_at s list) (next_at s' list) (next_at u list) xs (key, value) ys d
            (turned_next s list p (Some key) can) (turned_next s' list (Some key) q can') c.nexts;
        prevs = prevs_in (prev_at s list) (prev_at s' list) (prev_at u list) xs (key, value) ys d
            (turned_prev s list p (Some key) can) (turned_prev s' list (Some key) q can') c.prevs;
        tags = tagged_same (tag_at s) (tag_at u) list (xs ++ (key, value) ∷ ys)
            (λ k. tag_joined s' list (Some key) q can' k ∙ tag_joined s list p (Some key) can k)
            (tagged_put (tag_at s) list xs (key, value) ys tag c.tags);
        distinct = d;
      } in
      let away : (other : ℕ) → other < length lists → other ≢ list → Chain u other (list_at lists other) =
      λ other below differs.
      let t = (linked.chains other below).tags in
      let es = list_at lists other in
      chain_elsewhere s' list other (Some key) q es can' differs (loose other)
      (apart_foreign (tag_at s) other q es (foreign_first (tag_at s) list other ys differs behind) t)
      (chain_elsewhere s list other p (Some key) es can differs
      (apart_foreign (tag_at s) other p es (foreign_last (tag_at s) list other None xs differs (foreign_none (tag_at s) other)
      before) t) (loose other) (linked.chains other below)) in (
        can,
        can',
        record {
          count = length-set lists list (xs ++ (key, value) ∷ ys) ∙ linked.count
              ∙ sym (len_joined s' list (Some key) q can' ∙ len_joined s list p (Some key) can);
          chains = λ other below. each_set (Chain u) lists list (xs ++ (key, value) ∷ ys) within whole other
              (away other (subst (λ n. other < n) (length-set lists list (xs ++ (key, value) ∷ ys)) below));
        },
      )
