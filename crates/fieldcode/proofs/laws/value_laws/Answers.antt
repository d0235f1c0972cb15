use Rattle.fieldcode.proofs.Kept.{homes_law}
use Rattle.fieldcode.proofs.Public.{unary_law, copy_law, widen_law, constant_law, two_law}
use Rattle.fieldcode.proofs.laws.value_laws.Goals as goal

pub returns-clause-constant : goal.returns-clause-constant
returns-clause-constant c = constant_law

pub returns-clause-copy : goal.returns-clause-copy
returns-clause-copy c = copy_law

pub returns-clause-widen : goal.returns-clause-widen
returns-clause-widen c = widen_law

pub returns-clause-unary : goal.returns-clause-unary
returns-clause-unary c = unary_law

pub returns-clause-binary : goal.returns-clause-binary
returns-clause-binary c = two_law

pub returns-clause-homes : goal.returns-clause-homes
returns-clause-homes c = homes_law
