-- A tree or a fault, from a source or a token that can't stand.
use Rattle.cparse.proofs.Either.{tree-or-fault}
use Rattle.cparse.proofs.laws.tree_or_fault.Goals as goal

pub returns : goal.returns
returns c = λ tokens once. tree-or-fault tokens once (c.text_or_fault.ensures tokens once)
