-- The constants table, this project's own: the addresses that memory words may count from.
use Rattle.std.specs.Prelude.{ℕ}
use Rattle.isa.specs.declared.access.Constant.{Constant}
use Rattle.isa.specs.declared.access.Constant.TheVariants.{C0, C4, C24, C25, C28}

abbrev pub address_of : Constant → ℕ
address_of C0 = 0x20000
address_of C4 = 0x26000
address_of C24 = 0
address_of C25 = 0x2000
address_of C28 = 0x10000
