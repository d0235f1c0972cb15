use Rattle.std.proofs.Common.{Ok, Err}
use Rattle.cpre.proofs.Ends.{answer_ends}
use Rattle.cpre.proofs.Reading.{expanded, broken, answered}
use Rattle.cpre.proofs.source.expand.Goals as goal

pub returns-clause-expanded : goal.returns-clause-expanded
returns-clause-expanded c = expanded (λ out. out.items) c.args.tokens.now c.read.result c.read.ensures.exact

pub returns-clause-read : goal.returns-clause-read
returns-clause-read c = λ out h. answered (λ out. out.items) c.args.tokens.now c.read.result (Ok out) c.read.ensures.exact h

pub returns-clause-broken : goal.returns-clause-broken
returns-clause-broken c = broken (λ out. out.items) c.args.tokens.now c.read.result c.read.ensures.exact

pub returns-clause-named : goal.returns-clause-named
returns-clause-named c = λ span cause h. answered (λ out. out.items) c.args.tokens.now c.read.result
    (Err (span, cause)) c.read.ensures.exact h

pub returns-clause-ends : goal.returns-clause-ends
returns-clause-ends c = answer_ends (λ out. out.items) c.args.tokens.now c.read.result
    (expanded (λ out. out.items) c.args.tokens.now c.read.result c.read.ensures.exact)
