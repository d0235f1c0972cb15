-- Where a volatile access may go, as a core sees its memory, its own data RAM at 0: the AM335x reference manual, chapter PRU-ICSS. How
-- great the windows in the data RAMs, of the configuration registers and of the memory outside are is this project's own.
use Rattle.std.specs.Prelude.{ℕ, ◌&&◌, nat_le, Bool, [], ◌∷◌}
use Rattle.std.specs.List.{list_any}

-- each window by its first and its last address
abbrev pub own_window : ℕ × ℕ
own_window = (0x1E00, 0x1FFF)

abbrev pub other_window : ℕ × ℕ
other_window = (0x3E00, 0x3FFF)

abbrev pub shared_window : ℕ × ℕ
shared_window = (0x10000, 0x12FFF)

abbrev pub interrupt_window : ℕ × ℕ
interrupt_window = (0x20000, 0x21FFF)

abbrev pub configuration_window : ℕ × ℕ
configuration_window = (0x26000, 0x27FFF)

abbrev pub outside_window : ℕ × ℕ
outside_window = (0x80000, 0x8FFFF)

abbrev pub is_within : ℕ → ℕ × ℕ → Bool
is_within at window = nat_le window.0 at && nat_le at window.1

abbrev pub in_own_window : ℕ → Bool
in_own_window at = is_within at own_window

abbrev pub in_window : ℕ → Bool
in_window at =
    list_any (is_within at)
    (own_window ∷ other_window ∷ shared_window ∷ interrupt_window ∷ configuration_window ∷ outside_window ∷ [])
