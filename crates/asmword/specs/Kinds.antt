-- The table of operands: of which kinds those of a mnemonic are.
use Rattle.asmword.specs.declared.kinds.Kind.TheVariants.{Field, Value, Number, Register, First, Constant, Label, Jump}
use Rattle.asmword.specs.declared.kinds.Shape.{Shape}
use Rattle.asmword.specs.declared.kinds.Shape.TheVariants.{Nothing, One, Two, Three, Four}
use Rattle.asmword.specs.declared.mnemonic.Mnemonic.{Mnemonic}
use Rattle.asmword.specs.declared.mnemonic.Mnemonic.TheVariants.{Alu, Not, Jmp, Jal, Ldi, Lmbd, Halt, Xin, Xout, Loop, Branch}
use Rattle.asmword.specs.declared.mnemonic.Mnemonic.TheVariants.{Qba, Lbbo, Lbco, Sbbo, Sbco}

abbrev pub shape_of : Mnemonic → Shape
shape_of (Alu op) = Three Field Field Value
shape_of Not = Two Field Field
shape_of Jmp = One Jump
shape_of Jal = Two Field Jump
shape_of Ldi = Two Field Number
shape_of Lmbd = Three Field Field Value
shape_of Halt = Nothing
shape_of Xin = Three Number Register Number
shape_of Xout = Three Number Register Number
shape_of Loop = Two Label Number
shape_of (Branch condition) = Three Label Field Value
shape_of Qba = One Label
shape_of Lbbo = Four First Register Value Number
shape_of Lbco = Four First Constant Value Number
shape_of Sbbo = Four First Register Value Number
shape_of Sbco = Four First Constant Value Number
