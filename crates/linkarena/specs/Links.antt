-- How an arena keeps its lists. No public clause cites this module.
use Rattle.std.specs.Prelude.{◌≡◌, ◌≢◌, ℕ, zero, suc, ◌+◌, ◌<◌, ◌≤◌, ◌⊎◌, List, [], ◌∷◌, ◌++◌, length}
use Rattle.std.specs.Prelude.{map, Option, Some, None, slice_index_or, slice_set}
use Rattle.std.specs.Option.{option_map, ForSome}
use Rattle.slab.specs.Slab.{Slab, get, slab_len, ContainsKey}
use Rattle.linkarena.specs.Lists.{list_at, node_count, first_id, last_id}
use Rattle.linkarena.specs.declared.links.Node.{Node}
use Rattle.linkarena.specs.declared.links.Ends.{Ends}
use Rattle.linkarena.specs.declared.links.Links.{Links}

-- the nodes under their keys, and the ends of each list
pub record Store (T : Type 0) : Type 0 where
  pub nodes : Slab (Node T)
  pub ends : List Ends

abbrev pub no_ends : Ends
no_ends = record { first = None; last = None }

module _ {T : Type 0} where
  abbrev pub store_of : Links T → Store T
  store_of links = record { nodes = links.nodes; ends = links.ends.items }

  abbrev pub ends_at : Store T → ℕ → Ends
  ends_at s list = slice_index_or s.ends list no_ends

  -- a node under its key, and then what stands behind it
  abbrev pub follow : ℕ → Option (Node T) → (Option ℕ → List (ℕ × T)) → List (ℕ × T)
  follow key None behind = []
  follow key (Some node) behind = (key, node.value) ∷ behind node.next

  -- the nodes from a key on, at most so many
  abbrev pub walk : Slab (Node T) → Option ℕ → ℕ → List (ℕ × T)
  walk nodes None most = []
  walk nodes (Some key) zero = []
  walk nodes (Some key) (suc most) = follow key (get nodes key) (λ next. walk nodes next most)

  -- each list from its first node on
  abbrev pub lists_of : Store T → List (List (ℕ × T))
  lists_of s = map (λ ends. walk s.nodes ends.first (length s.nodes.slots)) s.ends

  abbrev pub next_of : Option (Node T) → Option ℕ
  next_of None = None
  next_of (Some node) = node.next

  abbrev pub prev_of : Option (Node T) → Option ℕ
  prev_of None = None
  prev_of (Some node) = node.prev

  -- what is behind a place of a list, where None is the place before all of it
  abbrev pub next_at : Store T → ℕ → Option ℕ → Option ℕ
  next_at s list None = (ends_at s list).first
  next_at s list (Some key) = next_of (get s.nodes key)

  -- what is before a place of a list, where None is the place behind all of it
  abbrev pub prev_at : Store T → ℕ → Option ℕ → Option ℕ
  prev_at s list None = (ends_at s list).last
  prev_at s list (Some key) = prev_of (get s.nodes key)

  abbrev pub tag_of : Option (Node T) → Option (ℕ × T)
  tag_of None = None
  tag_of (Some node) = Some (node.list, node.value)

  -- the list and the value of the node under a key
  abbrev pub tag_at : Store T → ℕ → Option (ℕ × T)
  tag_at s key = tag_of (get s.nodes key)

  abbrev pub changed_at : Slab (Node T) → ℕ → (Node T → Node T) → Slab (Node T)
  changed_at nodes key change = record nodes { slots = slice_set nodes.slots key (option_map change (get nodes key)) }

  abbrev pub next_set : Store T → ℕ → Option ℕ → Option ℕ → Store T
  next_set s list None next = record s { ends = slice_set s.ends list (record (ends_at s list) { first = next }) }
  next_set s list (Some key) next = record s { nodes = changed_at s.nodes key (λ node. record node { next = next }) }

  abbrev pub prev_set : Store T → ℕ → Option ℕ → Option ℕ → Store T
  prev_set s list None prev = record s { ends = slice_set s.ends list (record (ends_at s list) { last = prev }) }
  prev_set s list (Some key) prev = record s { nodes = changed_at s.nodes key (λ node. record node { prev = prev }) }

  -- the second place comes to stand behind the first
  abbrev pub joined : Store T → ℕ → Option ℕ → Option ℕ → Store T
  joined s list prev next = prev_set (next_set s list prev next) list next prev

  abbrev pub taken_by : Store T → Option (Node T) → Store T
  taken_by s None = s
  taken_by s (Some node) = joined s node.list node.prev node.next

  -- a node leaves its list
  abbrev pub taken : Store T → ℕ → Store T
  taken s key = taken_by s (get s.nodes key)

  -- a node comes to stand between two places of a list
  abbrev pub put : Store T → ℕ → ℕ → Option ℕ → Option ℕ → Store T
  put s key list prev next = joined (joined s list prev (Some key)) list (Some key) next

  -- the place is the end of a list, or a node of the store
  abbrev pub Has : Store T → Option ℕ → Type 0
  Has s place = ForSome place (ContainsKey s.nodes)

  -- two places of the store that can be joined
  pub record CanJoin (s : Store T) (list : ℕ) (prev next : Option ℕ) : Type 0 where
    pub within : list < length s.ends
    pub has_prev : Has s prev
    pub has_next : Has s next

  -- a node that can leave its list
  pub record CanTake (s : Store T) (key : ℕ) : Type 0 where
    pub has : ContainsKey s.nodes key
    pub can : (node : Node T) → get s.nodes key ≡ Some node → CanJoin s node.list node.prev node.next

  -- from one place on, these nodes follow each other up to another place
  abbrev pub Nexts : (Option ℕ → Option ℕ) → Option ℕ → List (ℕ × T) → Option ℕ → Type 0
  Nexts next from [] to = next from ≡ to
  Nexts next from (e ∷ es) to = (next from ≡ Some e.0) × Nexts next (Some e.0) es to

  abbrev pub Prevs : (Option ℕ → Option ℕ) → Option ℕ → List (ℕ × T) → Option ℕ → Type 0
  Prevs prev from [] to = prev to ≡ from
  Prevs prev from (e ∷ es) to = (prev (Some e.0) ≡ from) × Prevs prev (Some e.0) es to

  -- each node belongs to this list and has its value
  abbrev pub Tagged : (ℕ → Option (ℕ × T)) → ℕ → List (ℕ × T) → Type 0
  Tagged tag list [] = Unit {0}
  Tagged tag list (e ∷ es) = (tag e.0 ≡ Some (list, e.1)) × Tagged tag list es

  -- the place is none of these nodes
  abbrev pub Apart : Option ℕ → List (ℕ × T) → Type 0
  Apart place [] = Unit {0}
  Apart place (e ∷ es) = (place ≢ Some e.0) × Apart place es

  abbrev pub Distinct : List (ℕ × T) → Type 0
  Distinct [] = Unit {0}
  Distinct (e ∷ es) = Apart (Some e.0) es × Distinct es

  -- the node is among these
  abbrev pub HasId : List (ℕ × T) → ℕ → Type 0
  HasId [] key = ⊥
  HasId (e ∷ es) key = (e.0 ≡ key) ⊎ HasId es key

  -- a list of the store has these nodes
  pub record Chain (s : Store T) (list : ℕ) (entries : List (ℕ × T)) : Type 0 where
    pub nexts : Nexts (next_at s list) None entries None
    pub prevs : Prevs (prev_at s list) None entries None
    pub tags : Tagged (tag_at s) list entries
    pub distinct : Distinct entries

  -- the store has these lists, and maybe nodes that are in none
  pub record Linked (s : Store T) (lists : List (List (ℕ × T))) : Type 0 where
    pub count : length lists ≡ length s.ends
    pub chains : (list : ℕ) → list < length lists → Chain s list (list_at lists list)

  -- the store has these lists, and each of its nodes is in one of them
  pub record Holds (s : Store T) (lists : List (List (ℕ × T))) : Type 0 where
    pub linked : Linked s lists
    pub counted : node_count lists ≡ slab_len s.nodes
    pub home : (key : ℕ) (tag : ℕ × T) → tag_at s key ≡ Some tag → (tag.0 < length lists) × HasId (list_at lists tag.0) key

  -- two places of a list that follow each other
  pub record IsGap (lists : List (List (ℕ × T))) (list : ℕ) (prev next : Option ℕ) : Type 0 where
    pub within : list < length lists
    pub front : List (ℕ × T)
    pub back : List (ℕ × T)
    pub parts : list_at lists list ≡ front ++ back
    pub before : prev ≡ last_id front
    pub behind : next ≡ first_id back

  -- the same nodes with the same values under the same keys, and as much room
  pub record SameNodes (old new : Store T) : Type 0 where
    pub tags : (key : ℕ) → tag_at new key ≡ tag_at old key
    pub len : slab_len new.nodes ≡ slab_len old.nodes
    pub capacity : new.nodes.capacity ≡ old.nodes.capacity
    pub ends : length new.ends ≡ length old.ends

  -- The slab has the places that were promised to later pushes. Neither they nor the nodes are too many to be counted.
  pub record HasRoom (nodes : Slab (Node T)) (spare : ℕ) : Type 0 where
    pub there : slab_len nodes + spare ≤ nodes.capacity
    pub counted : slab_len nodes ≤ 1048576
    pub few : slab_len nodes + spare ≤ 2097152
