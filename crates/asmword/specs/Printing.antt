-- The operands that are printed for each kind.
use Rattle.std.specs.Prelude.{◌^◌, ◌<◌}
use Rattle.isa.specs.declared.field.Part.TheVariants.{B1, B2, B3, All}
use Rattle.asmword.specs.declared.form.Operands.{Operands}
use Rattle.asmword.specs.declared.form.Operands.TheVariants as operands
use Rattle.asmword.specs.declared.form.Word.{Word}
use Rattle.asmword.specs.declared.form.Word.TheVariants as word
use Rattle.asmword.specs.declared.kinds.Kind.{Kind}
use Rattle.asmword.specs.declared.kinds.Kind.TheVariants.{Field, Value, Number, Register, First, Constant, Label, Jump}
use Rattle.asmword.specs.declared.kinds.Shape.{Shape}
use Rattle.asmword.specs.declared.kinds.Shape.TheVariants.{Nothing, One, Two, Three, Four}

-- a field where a label's name may stand is one of a register that there is, since R32 is a name
abbrev pub Printable : Kind → Word → Type 0
Printable Field (word.Field n part) = n < 2 ^ 32
Printable Value (word.Field n part) = n < 2 ^ 32
Printable Value (word.Number n) = n < 2 ^ 32
Printable Number (word.Number n) = n < 2 ^ 32
Printable Register (word.Field n All) = n < 2 ^ 32
Printable First (word.Field n All) = n < 2 ^ 32
Printable First (word.Field n B1) = n < 2 ^ 32
Printable First (word.Field n B2) = n < 2 ^ 32
Printable First (word.Field n B3) = n < 2 ^ 32
Printable Constant (word.Constant n) = n < 2 ^ 32
Printable Label word.Label = Unit {0}
Printable Jump word.Label = Unit {0}
Printable Jump (word.Field n part) = n < 32
Printable _ _ = ⊥

abbrev pub ArePrintable : Shape → Operands → Type 0
ArePrintable Nothing operands.Nothing = Unit {0}
ArePrintable (One k) (operands.One a) = Printable k a
ArePrintable (Two k l) (operands.Two a b) = Printable k a × Printable l b
ArePrintable (Three k l m) (operands.Three a b c) = Printable k a × Printable l b × Printable m c
ArePrintable (Four k l m n) (operands.Four a b c d) = Printable k a × Printable l b × Printable m c × Printable n d
ArePrintable _ _ = ⊥
