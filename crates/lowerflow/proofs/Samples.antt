-- Codes computed, and their words against the weights of their constructs.
use Rattle.std.proofs.Common.{◌≡◌, ℕ, true, false, nat_le, List, [], ◌∷◌, refl, Option, Some, None}
use Rattle.std.specs.Prelude.{sum_by}
use Rattle.prunum.specs.declared.width.Width.TheVariants.{B4}
use Rattle.csyn.specs.declared.operator.LogicalOperator.TheVariants.{And, Or}
use Rattle.csyn.specs.declared.specifiers.Sign.TheVariants.{Signed}
use Rattle.midcode.specs.Cost.{size}
use Rattle.midcode.specs.declared.op.OpKind.TheVariants as op
use Rattle.cprogram.specs.declared.value.ValueKind as value
use Rattle.cprogram.specs.declared.statement.StmtKind as stmt
use Rattle.cprogram.specs.declared.statement.Items as items
use Rattle.lowerstate.specs.Piece.{Code, Free, register}
use Rattle.lowerflow.specs.Goes.{no_exits}
use Rattle.lowerflow.specs.Codes.{label, no_code, test_code, logical_code, conditional_code, either_code, if_code, loop_code, do_code}
use Rattle.lowerflow.specs.Codes.{region_code}
use Rattle.lowerflow.specs.Code.{value_code, stmt_code}

abbrev free : Free
free = record { register = 1; label = 0 }

-- ---- words, beside those of the parts

abbrev words : Code → ℕ
words code = sum_by size code.ops

and-light : nat_le (words (logical_code And free no_code no_code)) 24 ≡ true
and-light = refl

or-light : nat_le (words (logical_code Or free no_code no_code)) 24 ≡ true
or-light = refl

conditional-light : nat_le (words (conditional_code B4 free (test_code false 0 no_code) no_code no_code)) 24 ≡ true
conditional-light = refl

either-light : nat_le (words (either_code free (test_code false 0 no_code) no_code no_code)) 16 ≡ true
either-light = refl

if-light : nat_le (words (if_code free (test_code false 0 no_code) no_code)) 16 ≡ true
if-light = refl

loop-light : nat_le (words (loop_code free (test_code false 2 no_code) no_code no_code)) 24 ≡ true
loop-light = refl

do-light : nat_le (words (do_code free no_code (test_code true 0 no_code))) 24 ≡ true
do-light = refl

region-light : nat_le (words (region_code 0 no_code)) 4 ≡ true
region-light = refl

-- ---- whole codes

-- a constant has a register of its own
number-code : value_code [] free (value.Number 7 Signed) ≡ Some (record {
  ops = op.Constant (register 1) 7 ∷ [];
  widths = B4 ∷ [];
  labels = 0;
  result = 1;
})
number-code = refl

-- a break without a loop has no code
no-break : stmt_code [] no_exits free stmt.Break ≡ None
no-break = refl

-- nothing is a block without items
no-items : stmt_code [] no_exits free (stmt.Block items.End) ≡ Some no_code
no-items = refl
