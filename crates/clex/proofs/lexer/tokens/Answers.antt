use Rattle.clex.proofs.TextLemmas.{read_again, named_again}
use Rattle.clex.proofs.lexer.tokens.Goals as goal

pub returns-clause-read : goal.returns-clause-read
returns-clause-read c = read_again (λ tokens. tokens.items) c.args.bytes.now c.read.result c.read.ensures.tokens c.read.ensures.fault

pub returns-clause-named : goal.returns-clause-named
returns-clause-named c = named_again (λ tokens. tokens.items) c.args.bytes.now c.read.result c.read.ensures.tokens c.read.ensures.fault
