-- Loops that are run a given number of times: what a step is to each, and how often each has turned.
use Rattle.std.specs.Prelude.{◌≡◌, ℕ, ◌+◌, ◌<◌, ◌&&◌, ◌==◌, Bool, true, false, nat_le, List}
use Rattle.std.specs.List.{AllByRecursion}
use Rattle.loopbound.specs.declared.graph.Loop.{Loop}
use Rattle.loopbound.specs.declared.graph.Move.{Move}
use Rattle.loopbound.specs.declared.graph.Move.TheVariants.{Stay, Turn, Leave}

abbrev pub holds : Loop → ℕ → Bool
holds l w = nat_le l.first w && nat_le w l.last

-- what a step is to a loop, by whether the loop holds the word before and the word behind, and whether such a step turns it
abbrev pub move_by : Bool → Bool → Bool → Move
move_by false inside turns = Stay
move_by true false turns = Leave
move_by true true false = Stay
move_by true true true = Turn

abbrev pub turns_at : Loop → ℕ → ℕ → Bool
turns_at l w v = nat_le l.after w && (v == l.first)

-- a step from word w to word v
abbrev pub move : Loop → ℕ → ℕ → Move
move l w v = move_by (holds l w) (holds l v) (turns_at l w v)

-- Counts say how often each loop has turned since a path entered it, and 0 outside of it. A loop that is run n times turns at most n - 1
-- times, and has turned just so often where it is left.
abbrev pub Counted : Move → ℕ → ℕ → ℕ → Type 0
Counted Stay n k after = after ≡ k
Counted Turn n k after = (after ≡ k + 1) × (after < n)
Counted Leave n k after = (k + 1 ≡ n) × (after ≡ 0)

abbrev pub Counts : List Loop → ℕ → ℕ → (Loop → ℕ) → (Loop → ℕ) → Type 0
Counts loops w v k after = AllByRecursion (λ l. Counted (move l w v) l.turns (k l) (after l)) loops

abbrev pub NoneTurned : List Loop → (Loop → ℕ) → Type 0
NoneTurned loops k = AllByRecursion (λ l. k l ≡ 0) loops
