-- The code of each kind of expression, made of the codes of its parts.
use Rattle.std.specs.Prelude.{ℕ, if◌then◌else◌, [], ◌∷◌, ◌++◌}
use Rattle.prunum.specs.declared.width.Width.{Width}
use Rattle.prunum.specs.declared.width.Width.TheVariants.{B4}
use Rattle.csyn.specs.declared.specifiers.Sign.{Sign}
use Rattle.csyn.specs.declared.operator.ComparisonOperator.{ComparisonOperator}
use Rattle.midcode.specs.declared.op.UnaryOp.{UnaryOp}
use Rattle.midcode.specs.declared.op.BinaryOp.{BinaryOp}
use Rattle.midcode.specs.declared.op.OpKind.TheVariants as op
use Rattle.midcode.specs.declared.op.Operand.TheVariants as operand
use Rattle.lowerstate.specs.Operators.{comparing, is_swapped}
use Rattle.lowerstate.specs.Piece.{Code, Free, joined, next_register, followed, register}

abbrev pub constant_code : Free → ℕ → Code
constant_code f n = record { ops = op.Constant (register f.register) n ∷ []; widths = B4 ∷ []; labels = 0; result = f.register }

abbrev pub unary_code : UnaryOp → Free → Code → Code
unary_code o f a = followed f a (op.Unary o (register (next_register f a)) (register a.result)) B4

-- an operation on the values of two pieces, one behind the other
abbrev pub pair_code : BinaryOp → Free → Code → Code → Code
pair_code o f a b = followed f (joined a b)
    (op.Binary o (register (next_register f (joined a b))) (register a.result) (operand.Register (register b.result))) B4

-- the same with the sides changed
abbrev pub swapped_code : BinaryOp → Free → Code → Code → Code
swapped_code o f a b = followed f (joined a b)
    (op.Binary o (register (next_register f (joined a b))) (register b.result) (operand.Register (register a.result))) B4

abbrev pub comparison_code : ComparisonOperator → Sign → Free → Code → Code → Code
comparison_code o sign f a b = if is_swapped o then swapped_code (comparing o sign) f a b else pair_code (comparing o sign) f a b

-- the value of a register, in one of its own
abbrev pub copy_code : Width → ℕ → Free → Code
copy_code w q f = record { ops = op.Copy (register f.register) (register q) ∷ []; widths = w ∷ []; labels = 0; result = f.register }

-- the value goes to a register too
abbrev pub assign_code : ℕ → Code → Code
assign_code q a = record a { ops = a.ops ++ op.Copy (register q) (register a.result) ∷ [] }
