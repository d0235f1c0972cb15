-- The tree of a source: what each production makes of its parts, from the leaves up.
use Rattle.std.specs.Prelude.{ℕ, ◌+◌, List, [], ◌∷◌, Option, Some, None}
use Rattle.csyn.specs.declared.token.Token.{Token}
use Rattle.cgrammar.specs.declared.production.Production.{Production}
use Rattle.cgrammar.specs.Text.{Written, leaf, node, Forest, none, more, spells}
use Rattle.cparts.specs.declared.value.Value.{Value}
use Rattle.cparse.specs.Nodes.{nodes, nodes_of}
use Rattle.caction.specs.Make.{Place, make}

-- a value in front of others, where all are there
abbrev pub in_front : Option Value → Option (List Value) → Option (List Value)
in_front (Some value) (Some values) = Some (value ∷ values)
in_front None _ = None
in_front (Some _) None = None

-- what a production makes of its parts' values, where all are there
abbrev pub made : Production → Place → Option (List Value) → Option Value
made production place None = None
made production place (Some values) = make production place values

-- where a production stands: the number of nodes that end before it does, and its tokens
abbrev pub place_of : ℕ → List Token → Place
place_of number tokens = record { number = number; tokens = tokens }

unfoldable mutual
  -- the value of what begins behind this many nodes
  pub value : ℕ → Written → Option Value
  value number (leaf _) = None
  value number (node production parts) = made production (place_of (number + nodes_of parts) (spells parts)) (values number parts)

  -- the values of the parts that are no tokens
  pub values : ℕ → Forest → Option (List Value)
  values number none = Some []
  values number (more (leaf _) parts) = values number parts
  values number (more (node production own) parts) =
      in_front (value number (node production own)) (values (number + nodes (node production own)) parts)
