use Rattle.std.proofs.Common.{take, sym, ap, ◌∙◌}
use Rattle.cpre.proofs.Walking.{counted}
use Rattle.cpre.proofs.source.Closing.before.Goals as goal

pub returns : goal.returns
returns c =
    counted c.args.self c.args.token.now c.args.behind.now c.split_at.result.0.now c.directive_of.result c.with_directive.result
    c.requires.known (sym c.begins.ensures ∙ c.if-not-begins.false) c.directive_of.ensures
    (c.split_at.ensures.front ∙ ap (λ n. take n c.args.behind.now) c.line_length.ensures.value) c.with_directive.ensures
