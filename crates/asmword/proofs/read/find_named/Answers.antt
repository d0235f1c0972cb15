use Rattle.std.proofs.Common.{rules}
use Rattle.asmword.proofs.NameLaws.{name_stop}
use Rattle.asmword.proofs.read.find_named.Goals as goal

pub returns-then-is_named : goal.returns-then-is_named
returns-then-is_named c =
    name_stop c.names.rest.now c.args.table.now c.in-Some.others.now c.in-Some.mnemonic.now c.args.word.now (search rules) (search rules)
    c.names.invariant
