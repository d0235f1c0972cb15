-- What a frame has room for.
use Rattle.std.specs.Prelude.{ℕ, ◌*◌}

-- R5 to R13
abbrev pub saved_bytes : ℕ
saved_bytes = 4 * 9

-- the return address of R3.w2, in a word of its own
abbrev pub return_bytes : ℕ
return_bytes = 4

-- R14 to R25
abbrev pub kept_bytes : ℕ
kept_bytes = 4 * 12
