use Rattle.prucc.proofs.TreeForm.{program_read}
use Rattle.prucc.proofs.form.writes_of.Goals as goal

pub returns-clause-read : goal.returns-clause-read
returns-clause-read c = program_read c.args.tree.now c.tree_writes.result c.tree_writes.ensures.writes c.tree_writes.ensures.err
