-- The productions of a source in the order in which they end, each with its first token's place and the place behind its last.
use Rattle.std.specs.Prelude.{ℕ, ◌+◌, List, [], ◌∷◌, ◌++◌, length}
use Rattle.cgrammar.specs.Text.{Written, leaf, node, Forest, none, more, spell, spells}
use Rattle.creader.specs.declared.reader.Entry.{Entry}

unfoldable mutual
  -- of what begins at this place
  pub entries : ℕ → Written → List Entry
  entries at (leaf token) = []
  entries at (node production parts) =
      entries_of at parts ++ record { production = production; first = at; end = at + length (spells parts) } ∷ []

  pub entries_of : ℕ → Forest → List Entry
  entries_of at none = []
  entries_of at (more written parts) = entries at written ++ entries_of (at + length (spell written)) parts
