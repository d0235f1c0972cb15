use Rattle.std.proofs.Common.{◌∙◌, sym}
use Rattle.std.proofs.lemmas.Bool.{false≢true}
use Rattle.callcycle.proofs.Noted.{noted-later, noted-out, noted-in}
use Rattle.callcycle.proofs.cycle.note.Goals as goal

pub returns-then-is_later : goal.returns-then-is_later
returns-then-is_later c =
    noted-later c.args.functions.now c.args.caller c.args.call.now c.args.least c.requires.found (c.is_later.ensures.0 c.if-is_later.true)

pub returns-then-found : goal.returns-then-found
returns-then-found c =
    noted-in c.args.functions.now c.args.caller c.args.call.now c.args.least
    (λ k. false≢true (sym c.if-is_later.false ∙ c.is_later.ensures.1 k)) (c.in_ok-found.ensures.0 c.if-found.true)

pub returns : goal.returns
returns c =
    noted-out c.args.functions.now c.args.caller c.args.call.now c.args.least c.requires.found
    (λ i. false≢true (sym c.if-found.false ∙ c.in_ok-found.ensures.1 i))
