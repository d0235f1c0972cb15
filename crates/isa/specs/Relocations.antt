-- The numbers that relocations have in files, this project's own.
use Rattle.std.specs.Prelude.{ℕ}
use Rattle.isa.specs.declared.program.Relocation.{Relocation}
use Rattle.isa.specs.declared.program.Relocation.TheVariants.{Address, Low, High, Word}

abbrev pub relocation_number : Relocation → ℕ
relocation_number Address = 1
relocation_number Low = 2
relocation_number High = 3
relocation_number Word = 4
