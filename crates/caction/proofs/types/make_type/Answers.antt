use Rattle.caction.specs.Make.{table}
use Rattle.caction.proofs.types.make_type.Goals as goal

pub returns-in_ok-base-in-Based : goal.returns-in_ok-base-in-Based
unfolding table
returns-in_ok-base-in-Based c = λ mark tokens. rw c.in-Based.is (c.in_ok-base-in-Based.ensures _)

pub returns-in_ok-words-in-IntegerBase : goal.returns-in_ok-words-in-IntegerBase
unfolding table
returns-in_ok-words-in-IntegerBase c = λ mark tokens. rw c.in-IntegerBase.is (c.in_ok-words-in-IntegerBase.ensures.made _)

pub returns-in_ok-inner-in-QualifiedPointer : goal.returns-in_ok-inner-in-QualifiedPointer
unfolding table
returns-in_ok-inner-in-QualifiedPointer c = λ mark tokens. rw c.in-QualifiedPointer.is (c.in_ok-inner-in-QualifiedPointer.ensures _)
