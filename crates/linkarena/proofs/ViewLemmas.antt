-- The lists that a store is seen as, and what holds of them after each call.
use Rattle.std.proofs.Common.{◌≡◌, ℕ, zero, suc, ◌<◌, ◌≤◌, List, [], ◌∷◌, length, get_or, Option, Some}
use Rattle.std.proofs.Common.{None, is_some, sum_by, refl, sym, ap, ◌∙◌, arith}
use Rattle.std.proofs.lemmas.List.{ext_get_or, get_or-map, length-map}
use Rattle.std.proofs.lemmas.List.Sums.{count_by-le-length, sum_by-cons}
use Rattle.slab.specs.Slab.{Slab, get}
use Rattle.linkarena.specs.declared.links.Node.{Node}
use Rattle.linkarena.specs.declared.links.Ends.{Ends}
use Rattle.linkarena.specs.Lists.{list_at}
use Rattle.linkarena.specs.Links.{Store, no_ends, next_of, tag_of, next_at, tag_at, Nexts, Tagged, Holds, follow, walk, lists_of}

module _ {T : Type 0} where
  abbrev value_or : T → Option (ℕ × T) → T
  value_or d None = d
  value_or d (Some tag) = tag.1

  pub same_value : (a b : T) (m n : ℕ) → ◌≡◌ {A = Option (ℕ × T)} (Some (m, a)) (Some (n, b)) → a ≡ b
  same_value a b m n e = ap (value_or a) e

  follow_tag : (key list : ℕ) (value : T) (o : Option (Node T)) (behind : Option ℕ → List (ℕ × T)) → tag_of o ≡ Some (list, value)
      → follow key o behind ≡ (key, value) ∷ behind (next_of o)
  follow_tag key list value None behind h = absurd (cc)
  follow_tag key list value (Some node) behind h = ap (λ (v : T). (key, v) ∷ behind node.next)
      (same_value node.value value node.list list h)

  walk_none : (nodes : Slab (Node T)) (most : ℕ) → walk nodes None most ≡ []
  walk_none nodes zero = refl
  walk_none nodes (suc most) = refl

  -- a walk gives a chain's nodes
  walk_chain : (s : Store T) (list : ℕ) (from : Option ℕ) (es : List (ℕ × T)) (most : ℕ) → Nexts (next_at s list) from es None
      → Tagged (tag_at s) list es → length es ≤ most → walk s.nodes (next_at s list from) most ≡ es
  walk_chain s list from [] most h t fits = ap (λ o. walk s.nodes o most) h ∙ walk_none s.nodes most
  walk_chain s list from (e ∷ es) zero h t fits = absurd (omega arith)
  walk_chain s list from (e ∷ es) (suc most) h t fits =
      ap (λ o. walk s.nodes o (suc most)) h.0
      ∙ follow_tag e.0 list e.1 (get s.nodes e.0) (λ next. walk s.nodes next most) t.0
      ∙ ap (λ rest. e ∷ rest) (walk_chain s list (Some e.0) es most h.1 t.1 (omega arith))

length_at : {X : Type 0} (lists : List (List X)) (i : ℕ) → length (get_or lists i []) ≤ sum_by length lists
length_at [] i = omega arith
length_at (xs ∷ lists) zero = omega (arith, sum_by-cons length xs lists)
length_at (xs ∷ lists) (suc i) = omega (arith, sum_by-cons length xs lists, length_at lists i)

module _ {T : Type 0} where
  -- what holds of a store is what it is seen as
  pub lists_of-held : (s : Store T) (lists : List (List (ℕ × T))) → Holds s lists → lists_of s ≡ lists
  lists_of-held s lists held =
      ext_get_or [] (lists_of s) lists (length-map s.ends (λ (ends : Ends). walk s.nodes ends.first (length s.nodes.slots))
      ∙ sym held.linked.count) (λ i below.
      let inside : i < length s.ends = omega (arith, length-map s.ends (λ (ends : Ends). walk s.nodes ends.first (length s.nodes.slots))) in
      let within : i < length lists = omega (arith, held.linked.count) in
      let c = held.linked.chains i within in
      let room : length (list_at lists i) ≤ length s.nodes.slots =
      omega (arith, length_at lists i, held.counted, count_by-le-length is_some s.nodes.slots) in
      get_or-map (λ (ends : Ends). walk s.nodes ends.first (length s.nodes.slots)) s.ends i no_ends [] inside
      ∙ walk_chain s i None (list_at lists i) (length s.nodes.slots) c.nexts c.tags room)
