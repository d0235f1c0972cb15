-- Going over the productions of a source from the last that ends to the first, with the level above each part that is still to come.
use Rattle.std.specs.Prelude.{ℕ, Bool, nat_eq, if◌then◌else◌, List, [], ◌∷◌, ◌++◌, reverse, replicate, Option, Some, None}
use Rattle.cgrammar.specs.Grammar.{template, is_node, parts_among}
use Rattle.creader.specs.declared.reader.Entry.{Entry}
use Rattle.cparse.specs.Nodes.{below}

-- how far it has come
pub record Pass : Type 0 where
  -- the number of nodes above each part that is still to come, the next of them first
  pub levels : List ℕ
  -- where the leftmost node so far begins that stands at level 257
  pub found : Option ℕ

-- with the levels on a stack, whose top is its last
abbrev pub passed : List ℕ → Option ℕ → Pass
passed stack found = record { levels = reverse stack; found = found }

-- the next part's level, and those of the others
abbrev pub next_level : List ℕ → ℕ
next_level [] = 0
next_level (level ∷ levels) = level

abbrev pub other_levels : List ℕ → List ℕ
other_levels [] = []
other_levels (level ∷ levels) = levels

abbrev pub found_by : Bool → ℕ → ℕ → Option ℕ → Option ℕ
found_by own level first found = if own then (if nat_eq level 256 then Some first else found) else found

-- one production more, below this many nodes
abbrev pub turned_at : Entry → ℕ → List ℕ → Option ℕ → Pass
turned_at entry level levels found = record {
  levels = replicate (parts_among (template entry.production)) (below (is_node entry.production) level) ++ levels;
  found = found_by (is_node entry.production) level entry.first found;
}

abbrev pub turned : Entry → Pass → Pass
turned entry pass = turned_at entry (next_level pass.levels) (other_levels pass.levels) pass.found

-- all of them, the last first
unfoldable pub walked : List Entry → Pass → Pass
walked [] pass = pass
walked (entry ∷ entries) pass = turned entry (walked entries pass)

-- below no node
abbrev pub at_end : Pass
at_end = record { levels = 0 ∷ []; found = None }
