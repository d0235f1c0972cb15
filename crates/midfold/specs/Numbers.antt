-- Of the proof: a table of numbers that can be forgotten all at once.
use Rattle.std.specs.Prelude.{ℕ, ◌==◌, List, Option, None, if◌then◌else◌}
use Rattle.midfold.specs.declared.numbers.Noted.{Noted}

-- what is held for each register, and how often all was forgotten
pub record Table : Type 0 where
  pub held : List (Option ℕ)
  pub rounds : ℕ

-- A number counts in the round in which it was noted alone.
abbrev pub held_in : ℕ → Noted → Option ℕ
held_in round n = if n.round == round then n.number else None
