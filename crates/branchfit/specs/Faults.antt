-- Why a program is not fitted.
use Rattle.std.specs.Prelude.{List}
use Rattle.isa.specs.declared.program.Item.{Item}
use Rattle.branchfit.specs.declared.fitting.FitFault.{FitFault}
use Rattle.branchfit.specs.declared.fitting.FitFault.TheVariants.{TooManyWords, Memory}
use Rattle.branchfit.specs.Fits.{IsTooLong}

abbrev pub IsFaultOf : List Item → FitFault → Type 0
IsFaultOf items (TooManyWords n) = IsTooLong items n
IsFaultOf items Memory = Unit {0}
