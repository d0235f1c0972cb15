-- The nodes of a source as it is written: how many there are, and where those begin that stand too deep.
use Rattle.std.specs.Prelude.{ℕ, ◌+◌, ◌≤◌, Bool, nat_eq, if◌then◌else◌, List, [], ◌∷◌, ◌++◌, length, All, Contains}
use Rattle.cgrammar.specs.Grammar.{is_node}
use Rattle.cgrammar.specs.Text.{Written, leaf, node, Forest, none, more, spell}

unfoldable mutual
  -- how many nodes it has
  pub nodes : Written → ℕ
  nodes (leaf _) = 0
  nodes (node production parts) = nodes_of parts + (if is_node production then 1 else 0)

  pub nodes_of : Forest → ℕ
  nodes_of none = 0
  nodes_of (more written parts) = nodes written + nodes_of parts

-- the level of the parts of a production that stands below this many nodes
abbrev pub below : Bool → ℕ → ℕ
below own level = if own then level + 1 else level

-- where a node at level 257 begins
abbrev pub deep_here : Bool → ℕ → ℕ → List ℕ
deep_here own level at = if own then (if nat_eq level 256 then at ∷ [] else []) else []

unfoldable mutual
  -- The places, in order, at which the nodes begin that stand at level 257, of what begins at this place below this many nodes. A
  -- node stands one level below the node that it is directly a part of.
  pub deep : ℕ → ℕ → Written → List ℕ
  deep level at (leaf _) = []
  deep level at (node production parts) = deep_here (is_node production) level at ++ deep_of (below (is_node production) level) at parts

  pub deep_of : ℕ → ℕ → Forest → List ℕ
  deep_of level at none = []
  deep_of level at (more written parts) = deep level at written ++ deep_of level (at + length (spell written)) parts

-- the least place at which a node begins that stands at level 257
pub record IsFirstDeep (written : Written) (place : ℕ) : Type 0 where
  pub begins : Contains (deep 0 0 written) place
  pub least : All (λ other. place ≤ other) (deep 0 0 written)
