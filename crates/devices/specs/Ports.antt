-- What the pads and the pins hold.
use Rattle.std.specs.Prelude.{ℕ, List, [], slice_index, slice_index_or, slice_set}

-- a register of a bank of the pads
abbrev pub pad_at : List (List ℕ) → ℕ → ℕ → ℕ
pad_at banks bank reg = slice_index (slice_index_or banks bank []) reg

-- the banks with another value in one register
abbrev pub with_pad : List (List ℕ) → ℕ → ℕ → ℕ → List (List ℕ)
with_pad banks bank reg value = slice_set banks bank (slice_set (slice_index_or banks bank []) reg value)

-- What each core's input pins show, and its output register. Bits 0 to 15 of that are the output pins, and the upper 16
-- lead to no pin.
pub record Levels : Type 0 where
  pub inputs : List ℕ
  pub outputs : List ℕ
