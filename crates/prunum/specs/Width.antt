-- The sizes of char, short and int in the PRU C compiler guide.
use Rattle.std.specs.Prelude.{ℕ}
use Rattle.prunum.specs.declared.width.Width.{Width}
use Rattle.prunum.specs.declared.width.Width.TheVariants.{B1, B2, B4}

-- how many bytes a width has
abbrev pub byte_count : Width → ℕ
byte_count B1 = 1
byte_count B2 = 2
byte_count B4 = 4
