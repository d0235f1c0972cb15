-- What each helper computes, and in how many cycles.
use Rattle.std.specs.Prelude.{ℕ, ◌*◌}
use Rattle.prunum.specs.Number.{wrap}
use Rattle.prunum.specs.declared.width.Width.TheVariants.{B4}
use Rattle.helpers.specs.declared.helper.Helper.{Helper}
use Rattle.helpers.specs.declared.helper.Helper.TheVariants.{Mul, DivU, RemU, DivS, RemS}

-- the low 32 bits of the product
abbrev pub product : ℕ → ℕ → ℕ
product a b = wrap B4 (a * b)

abbrev pub cycles_of : Helper → ℕ
cycles_of Mul = 133
cycles_of DivU = 197
cycles_of RemU = 196
cycles_of DivS = 206
cycles_of RemS = 203

-- how many words a body has
abbrev pub words_of : Helper → ℕ
words_of Mul = 10
words_of DivU = 14
words_of RemU = 13
words_of DivS = 27
words_of RemS = 23
