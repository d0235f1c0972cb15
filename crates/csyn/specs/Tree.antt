-- The tree of a source, within this project's own limits.
use Rattle.std.specs.Prelude.{ℕ, ◌≤◌}
use Rattle.csyn.specs.declared.span.Span.{Span}
use Rattle.csyn.specs.declared.unit.Units.{Units}
use Rattle.csyn.specs.declared.tree.TheConstants.{MAX_TOKENS, MAX_LEVELS}
use Rattle.csyn.specs.Levels.{units_levels}

-- the units, how many tokens they were made of, how many nodes they have, and where the source ends
pub record Contents : Type 0 where
  pub units : Units
  pub tokens : ℕ
  pub nodes : ℕ
  pub end : Span

pub record IsTree (units : Units) (tokens : ℕ) : Type 0 where
  pub few_tokens : tokens ≤ MAX_TOKENS
  pub few_levels : units_levels units ≤ MAX_LEVELS
