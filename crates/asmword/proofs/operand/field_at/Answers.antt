-- A field's numbers tell it.
use Rattle.std.proofs.Common.{refl, arith}
use Rattle.asmword.proofs.Found.{field_found}
use Rattle.asmword.proofs.operand.field_at.Goals as goal

pub returns-then-register-lt32-clause-value : goal.returns-then-register-lt32-clause-value
returns-then-register-lt32-clause-value c = field_found _ c.args.register c.args.part (omega arith) refl
