-- The body's numbers are those of the word.
use Rattle.std.proofs.Common.{refl, arith}
use Rattle.isa.proofs.Ranged.{body_found}
use Rattle.isa.proofs.decoding.body_at.Goals as goal

pub returns-then-length-gt0-clause-value : goal.returns-then-length-gt0-clause-value
returns-then-length-gt0-clause-value c = body_found _ c.args.count c.args.length (omega arith) refl
