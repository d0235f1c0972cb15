-- What a change of one link or node leaves of a store.
use Rattle.std.proofs.Common.{◌≡◌, ◌≢◌, ℕ, ◌<◌, List, length, get_or, set, Option, Some, None, is_some, IsSome}
use Rattle.std.proofs.Common.{Bool, cond, refl, sym, ap, subst, ◌∙◌, inl, inr, arith}
use Rattle.std.specs.Option.{option_map}
use Rattle.std.proofs.lemmas.Bool.{cases_eq}
use Rattle.std.proofs.lemmas.List.{get_or-set_same, get_or-set_other, length-set}
use Rattle.std.proofs.lemmas.List.Sums.{sum_by-set}
use Rattle.slab.specs.Slab.{Slab, get, slab_len, ContainsKey}
use Rattle.slab.proofs.SlabLemmas.{ContainsKey-within}
use Rattle.linkarena.specs.declared.links.Node.{Node}
use Rattle.linkarena.specs.declared.links.Ends.{Ends}
use Rattle.linkarena.specs.Links.{Store, no_ends, next_of, prev_of, tag_of, next_at, prev_at, tag_at}
use Rattle.linkarena.specs.Links.{changed_at, next_set, prev_set, Has, CanJoin, joined, SameNodes}
use Rattle.linkarena.proofs.ChainLemmas.{Turned}

is_some-map : {A B : Type 0} (f : A → B) (o : Option A) → is_some (option_map f o) ≡ is_some o
is_some-map f None = refl
is_some-map f (Some x) = refl

pub ends_kept : {B : Type 0} (read : Ends → B) (ends : List Ends) (list other : ℕ) (new : Ends) → list < length ends
    → read new ≡ read (get_or ends list no_ends)
    → read (get_or (set ends list new) other no_ends) ≡ read (get_or ends other no_ends)
ends_kept read ends list other new within keeps =
    elim (cases_eq other list) [
      | inl same ↦ subst (λ (k : ℕ). read (get_or (set ends list new) k no_ends) ≡ read (get_or ends k no_ends)) (sym same)
          (ap read (get_or-set_same ends list new no_ends within) ∙ keeps)
      | inr differs ↦ ap read (get_or-set_other ends list other new no_ends differs)
    ]

module _ {T : Type 0} where
  -- what a change of a node leaves of it, is read as before under every key
  pub read_kept : {B : Type 0} (read : Option (Node T) → B) (change : Node T → Node T)
      → ((o : Option (Node T)) → read (option_map change o) ≡ read o)
      → (nodes : Slab (Node T)) (key other : ℕ) → ContainsKey nodes key
      → read (get (changed_at nodes key change) other) ≡ read (get nodes other)
  read_kept read change keeps nodes key other has =
      elim (cases_eq other key) [
        | inl same ↦ subst (λ (k : ℕ). read (get (changed_at nodes key change) k) ≡ read (get nodes k)) (sym same)
            (ap read (get_or-set_same nodes.slots key (option_map change (get nodes key)) None (ContainsKey-within nodes key has))
            ∙ keeps (get nodes key))
        | inr differs ↦ ap read (get_or-set_other nodes.slots key other (option_map change (get nodes key)) None differs)
      ]

  pub read_changed : {B : Type 0} (read : Option (Node T) → B) (change : Node T → Node T) (nodes : Slab (Node T)) (key : ℕ)
      → ContainsKey nodes key
      → read (get (changed_at nodes key change) key) ≡ read (option_map change (get nodes key))
  read_changed read change nodes key has = ap read (get_or-set_same nodes.slots key (option_map change (get nodes key)) None
      (ContainsKey-within nodes key has))

  pub read_elsewhere : {B : Type 0} (read : Option (Node T) → B) (change : Node T → Node T) (nodes : Slab (Node T)) (key other : ℕ)
      → other ≢ key
      → read (get (changed_at nodes key change) other) ≡ read (get nodes other)
  read_elsewhere read change nodes key other differs = ap read
      (get_or-set_other nodes.slots key other (option_map change (get nodes key)) None differs)

  weight_kept : (f : Node T → Node T) (o : Option (Node T)) → cond {A = ℕ} (is_some (option_map f o)) 1 0 ≡ cond {A = ℕ} (is_some o) 1 0
  weight_kept f o = ap (λ (b : Bool). cond {A = ℕ} b 1 0) (is_some-map f o)

  pub slab_len-changed : (nodes : Slab (Node T)) (key : ℕ) (change : Node T → Node T) → ContainsKey nodes key
      → slab_len (changed_at nodes key change) ≡ slab_len nodes
  slab_len-changed nodes key change has =
      omega (
        arith,
        sum_by-set (λ (o : Option (Node T)). cond {A = ℕ} (is_some o) 1 0) nodes.slots key (option_map change (get nodes key)) None
            (ContainsKey-within nodes key has),
        weight_kept change (get nodes key),
      )

  -- ---- the places that a link is at
  pub len_next_set : (s : Store T) (list : ℕ) (prev next : Option ℕ) → length (next_set s list prev next).ends ≡ length s.ends
  len_next_set s list None next = length-set s.ends list _
  len_next_set s list (Some key) next = refl

  pub len_prev_set : (s : Store T) (list : ℕ) (next prev : Option ℕ) → length (prev_set s list next prev).ends ≡ length s.ends
  len_prev_set s list None prev = length-set s.ends list _
  len_prev_set s list (Some key) prev = refl

  -- whatever of a node is not its link to the next is kept
  next_set_read : {B : Type 0} (read : Option (Node T) → B) →
      ((next : Option ℕ) (o : Option (Node T)) → read (option_map (λ (node : Node T). record node { next = next }) o) ≡ read o)
      → (s : Store T) (list : ℕ) (prev next : Option ℕ) (key : ℕ) → Has s prev
      → read (get (next_set s list prev next).nodes key) ≡ read (get s.nodes key)
  next_set_read read keeps s list None next key has = refl
  next_set_read read keeps s list (Some at) next key has = read_kept read _ (keeps next) s.nodes at key (has at refl)

  prev_set_read : {B : Type 0} (read : Option (Node T) → B) →
      ((prev : Option ℕ) (o : Option (Node T)) → read (option_map (λ (node : Node T). record node { prev = prev }) o) ≡ read o)
      → (s : Store T) (list : ℕ) (next prev : Option ℕ) (key : ℕ) → Has s next
      → read (get (prev_set s list next prev).nodes key) ≡ read (get s.nodes key)
  prev_set_read read keeps s list None prev key has = refl
  prev_set_read read keeps s list (Some at) prev key has = read_kept read _ (keeps prev) s.nodes at key (has at refl)

  prev_of_next : (next : Option ℕ) (o : Option (Node T)) → prev_of (option_map (λ (node : Node T). record node { next = next }) o)
      ≡ prev_of o
  prev_of_next next None = refl
  prev_of_next next (Some node) = refl

  next_of_prev : (prev : Option ℕ) (o : Option (Node T)) → next_of (option_map (λ (node : Node T). record node { prev = prev }) o)
      ≡ next_of o
  next_of_prev prev None = refl
  next_of_prev prev (Some node) = refl

  tag_of_next : (next : Option ℕ) (o : Option (Node T)) → tag_of (option_map (λ (node : Node T). record node { next = next }) o) ≡ tag_of o
  tag_of_next next None = refl
  tag_of_next next (Some node) = refl

  tag_of_prev : (prev : Option ℕ) (o : Option (Node T)) → tag_of (option_map (λ (node : Node T). record node { prev = prev }) o) ≡ tag_of o
  tag_of_prev prev None = refl
  tag_of_prev prev (Some node) = refl

  pub tag_next_set : (s : Store T) (list : ℕ) (prev next : Option ℕ) → Has s prev → (key : ℕ)
      → tag_at (next_set s list prev next) key ≡ tag_at s key
  tag_next_set s list prev next has key = next_set_read tag_of tag_of_next s list prev next key has

  pub tag_prev_set : (s : Store T) (list : ℕ) (next prev : Option ℕ) → Has s next → (key : ℕ)
      → tag_at (prev_set s list next prev) key ≡ tag_at s key
  tag_prev_set s list next prev has key = prev_set_read tag_of tag_of_prev s list next prev key has

  pub has_next_set : (s : Store T) (list : ℕ) (prev next place : Option ℕ) → Has s prev → Has s place
      → Has (next_set s list prev next) place
  has_next_set s list prev next place has there key e =
      next_set_read is_some (λ n o. is_some-map (λ (node : Node T). record node { next = n }) o) s list prev next key has ∙ there key e

  pub has_prev_set : (s : Store T) (list : ℕ) (next prev place : Option ℕ) → Has s next → Has s place
      → Has (prev_set s list next prev) place
  has_prev_set s list next prev place has there key e =
      prev_set_read is_some (λ n o. is_some-map (λ (node : Node T). record node { prev = n }) o) s list next prev key has ∙ there key e

  -- the links to the previous don't turn with one to the next, in any list
  pub prev_next_set : (s : Store T) (list : ℕ) (prev next : Option ℕ) → list < length s.ends → Has s prev
      → (other : ℕ) (place : Option ℕ) → prev_at (next_set s list prev next) other place ≡ prev_at s other place
  prev_next_set s list None next within has other None = ends_kept (λ (e : Ends). e.last) s.ends list other _ within refl
  prev_next_set s list (Some key) next within has other None = refl
  prev_next_set s list prev next within has other (Some at) = next_set_read prev_of prev_of_next s list prev next at has

  pub next_prev_set : (s : Store T) (list : ℕ) (next prev : Option ℕ) → list < length s.ends → Has s next
      → (other : ℕ) (place : Option ℕ) → next_at (prev_set s list next prev) other place ≡ next_at s other place
  next_prev_set s list None prev within has other None = ends_kept (λ (e : Ends). e.first) s.ends list other _ within refl
  next_prev_set s list (Some key) prev within has other None = refl
  next_prev_set s list next prev within has other (Some at) = prev_set_read next_of next_of_prev s list next prev at has

  next_of_set : (next : Option ℕ) (o : Option (Node T)) → IsSome o
      → next_of (option_map (λ (node : Node T). record node { next = next }) o) ≡ next
  next_of_set next None has = absurd (cc)
  next_of_set next (Some node) has = refl

  prev_of_set : (prev : Option ℕ) (o : Option (Node T)) → IsSome o
      → prev_of (option_map (λ (node : Node T). record node { prev = prev }) o) ≡ prev
  prev_of_set prev None has = absurd (cc)
  prev_of_set prev (Some node) has = refl

  pub turned_next_set : (s : Store T) (list : ℕ) (prev next : Option ℕ) → list < length s.ends → Has s prev
      → Turned (next_at s list) (next_at (next_set s list prev next) list) prev next
  turned_next_set s list None next within has =
      record { here = ap (λ (e : Ends). e.first) (get_or-set_same s.ends list _ no_ends within); others = elsewhere }
    where
      elsewhere : (place : Option ℕ) → place ≢ None → next_at (next_set s list None next) list place ≡ next_at s list place
      elsewhere None differs = absurd (differs refl)
      elsewhere (Some key) differs = refl
  turned_next_set s list (Some at) next within has =
      record {
        here = read_changed next_of _ s.nodes at (has at refl) ∙ next_of_set next (get s.nodes at) (has at refl);
        others =
            elsewhere;
      }
    where
      elsewhere : (place : Option ℕ) → place ≢ Some at → next_at (next_set s list (Some at) next) list place ≡ next_at s list place
      elsewhere None differs = refl
      elsewhere (Some key) differs = read_elsewhere next_of _ s.nodes at key (λ h. differs (ap Some h))

  pub turned_prev_set : (s : Store T) (list : ℕ) (next prev : Option ℕ) → list < length s.ends → Has s next
      → Turned (prev_at s list) (prev_at (prev_set s list next prev) list) next prev
  turned_prev_set s list None prev within has =
      record { here = ap (λ (e : Ends). e.last) (get_or-set_same s.ends list _ no_ends within); others = elsewhere }
    where
      elsewhere : (place : Option ℕ) → place ≢ None → prev_at (prev_set s list None prev) list place ≡ prev_at s list place
      elsewhere None differs = absurd (differs refl)
      elsewhere (Some key) differs = refl
  turned_prev_set s list (Some at) prev within has =
      record {
        here = read_changed prev_of _ s.nodes at (has at refl) ∙ prev_of_set prev (get s.nodes at) (has at refl);
        others =
            elsewhere;
      }
    where
      elsewhere : (place : Option ℕ) → place ≢ Some at → prev_at (prev_set s list (Some at) prev) list place ≡ prev_at s list place
      elsewhere None differs = refl
      elsewhere (Some key) differs = read_elsewhere prev_of _ s.nodes at key (λ h. differs (ap Some h))

  -- in another list only a shared node could see the change
  other_next_set : (s : Store T) (list other : ℕ) (prev next : Option ℕ) → other ≢ list
      → next_at (next_set s list prev next) other None ≡ next_at s other None
  other_next_set s list other None next differs = ap (λ (e : Ends). e.first) (get_or-set_other s.ends list other _ no_ends differs)
  other_next_set s list other (Some key) next differs = refl

  other_prev_set : (s : Store T) (list other : ℕ) (next prev : Option ℕ) → other ≢ list
      → prev_at (prev_set s list next prev) other None ≡ prev_at s other None
  other_prev_set s list other None prev differs = ap (λ (e : Ends). e.last) (get_or-set_other s.ends list other _ no_ends differs)
  other_prev_set s list other (Some key) prev differs = refl

  away_next_set : (s : Store T) (list other : ℕ) (prev next : Option ℕ) (key : ℕ) → Some key ≢ prev
      → next_at (next_set s list prev next) other (Some key) ≡ next_at s other (Some key)
  away_next_set s list other None next key differs = refl
  away_next_set s list other (Some at) next key differs = read_elsewhere next_of _ s.nodes at key (λ h. differs (ap Some h))

  away_prev_set : (s : Store T) (list other : ℕ) (next prev : Option ℕ) (key : ℕ) → Some key ≢ next
      → prev_at (prev_set s list next prev) other (Some key) ≡ prev_at s other (Some key)
  away_prev_set s list other None prev key differs = refl
  away_prev_set s list other (Some at) prev key differs = read_elsewhere prev_of _ s.nodes at key (λ h. differs (ap Some h))

  -- ---- both links at once
  module _ (s : Store T) (list : ℕ) (prev next : Option ℕ) (can : CanJoin s list prev next) where
    within_mid : list < length (next_set s list prev next).ends
    within_mid = subst (λ n. list < n) (sym (len_next_set s list prev next)) can.within

    has_mid : (place : Option ℕ) → Has s place → Has (next_set s list prev next) place
    has_mid place there = has_next_set s list prev next place can.has_prev there

    pub has_joined : (place : Option ℕ) → Has s place → Has (joined s list prev next) place
    has_joined place there = has_prev_set _ list next prev place (has_mid next can.has_next) (has_mid place there)

    pub len_joined : length (joined s list prev next).ends ≡ length s.ends
    len_joined = len_prev_set _ list next prev ∙ len_next_set s list prev next

    pub tag_joined : (key : ℕ) → tag_at (joined s list prev next) key ≡ tag_at s key
    tag_joined key = tag_prev_set _ list next prev (has_mid next can.has_next) key ∙ tag_next_set s list prev next can.has_prev key

    pub turned_next : Turned (next_at s list) (next_at (joined s list prev next) list) prev next
    turned_next =
        let first = turned_next_set s list prev next can.within can.has_prev in
        let kept = next_prev_set (next_set s list prev next) list next prev within_mid (has_mid next can.has_next) list in
        record { here = kept prev ∙ first.here; others = λ place differs. kept place ∙ first.others place differs }

    pub turned_prev : Turned (prev_at s list) (prev_at (joined s list prev next) list) next prev
    turned_prev =
        let second = turned_prev_set (next_set s list prev next) list next prev within_mid (has_mid next can.has_next) in
        let kept = prev_next_set s list prev next can.within can.has_prev list in
        record { here = second.here; others = λ place differs. second.others place differs ∙ kept place }

    pub next_end_elsewhere : (other : ℕ) → other ≢ list → next_at (joined s list prev next) other None ≡ next_at s other None
    next_end_elsewhere other differs =
        next_prev_set (next_set s list prev next) list next prev within_mid (has_mid next can.has_next) other None
        ∙ other_next_set s list other prev next differs

    pub prev_end_elsewhere : (other : ℕ) → other ≢ list → prev_at (joined s list prev next) other None ≡ prev_at s other None
    prev_end_elsewhere other differs =
        other_prev_set (next_set s list prev next) list other next prev differs
        ∙ prev_next_set s list prev next can.within can.has_prev other None

    pub next_elsewhere : (other key : ℕ) → Some key ≢ prev → next_at (joined s list prev next) other (Some key) ≡ next_at s other (Some key)
    next_elsewhere other key differs =
        next_prev_set (next_set s list prev next) list next prev within_mid (has_mid next can.has_next) other (Some key)
        ∙ away_next_set s list other prev next key differs

    pub prev_elsewhere : (other key : ℕ) → Some key ≢ next → prev_at (joined s list prev next) other (Some key) ≡ prev_at s other (Some key)
    prev_elsewhere other key differs =
        away_prev_set (next_set s list prev next) list other next prev key differs
        ∙ prev_next_set s list prev next can.within can.has_prev other (Some key)

  slab_len_next_set : (s : Store T) (list : ℕ) (prev next : Option ℕ) → Has s prev
      → (slab_len (next_set s list prev next).nodes ≡ slab_len s.nodes) × ((next_set s list prev next).nodes.capacity ≡ s.nodes.capacity)
  slab_len_next_set s list None next has = (refl, refl)
  slab_len_next_set s list (Some key) next has = (slab_len-changed s.nodes key _ (has key refl), refl)

  slab_len_prev_set : (s : Store T) (list : ℕ) (next prev : Option ℕ) → Has s next
      → (slab_len (prev_set s list next prev).nodes ≡ slab_len s.nodes) × ((prev_set s list next prev).nodes.capacity ≡ s.nodes.capacity)
  slab_len_prev_set s list None prev has = (refl, refl)
  slab_len_prev_set s list (Some key) prev has = (slab_len-changed s.nodes key _ (has key refl), refl)

  pub SameNodes-joined : (s : Store T) (list : ℕ) (prev next : Option ℕ) → CanJoin s list prev next → SameNodes s (joined s list prev next)
  SameNodes-joined s list prev next can =
      let first = slab_len_next_set s list prev next can.has_prev in
      let second = slab_len_prev_set (next_set s list prev next) list next prev
      (has_next_set s list prev next next can.has_prev can.has_next) in
      record {
        tags = tag_joined s list prev next can;
        len = second.0 ∙ first.0;
        capacity = second.1 ∙ first.1;
        ends = len_joined s list prev next can;
      }
