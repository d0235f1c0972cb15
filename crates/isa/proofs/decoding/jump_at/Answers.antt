-- The row of a jump is made of its target.
use Rattle.std.proofs.Common.{rules, arith}
use Rattle.isa.proofs.WholeWords.{target_row}
use Rattle.isa.proofs.decoding.jump_at.Goals as goal

pub returns-then-r-eq0-clause-row : goal.returns-then-r-eq0-clause-row
returns-then-r-eq0-clause-row c = target_row c.args.r _ 0x20 0 (search rules) (omega arith) (search rules)
