-- One production made of the last values.
use Rattle.std.proofs.Common.{true, false, Some, sym, ap, ◌∙◌, ◌∷◌, ◌+◌, add-zero}
use Rattle.cparse.specs.Build.{built}
use Rattle.cparts.specs.Value.{bare_values}
use Rattle.cparse.proofs.StepMade.{step-none, step-some}
use Rattle.cparse.proofs.build.Builder.step.Goals as goal

pub returns-in-Err-Parts : goal.returns-in-Err-Parts
returns-in-Err-Parts c =
    step-none c.args.tokens.now c.args.self.now.values c.args.self.now.nodes c.args.entry c.children.result c.in_ok-parts.parts
    c.make.result
    c.children.ensures c.in_ok-parts.ensures.parts c.make.ensures c.in-Err-Parts.field-0 c.in-Err-Parts.is c.in-Err-Parts.field-0-is

pub returns-then-is_node : goal.returns-then-is_node
returns-then-is_node c =
    step-some c.args.tokens.now c.args.self.now.values c.args.self.now.nodes c.args.entry c.children.result c.in_ok-parts.parts
    c.make.result
    c.children.ensures c.in_ok-parts.ensures.parts c.make.ensures c.in-Ok.value c.take_parts.new.values true c.in-Ok.is
    c.in_ok-parts.ensures.left (sym c.is_node.ensures ∙ c.if-is_node.true)
    ∙ ap (λ vs. Some (built (bare_values vs) (c.args.self.now.nodes + 1))) (sym c.in_ok-push_front.ensures.items)

pub returns-else-is_node : goal.returns-else-is_node
returns-else-is_node c =
    step-some c.args.tokens.now c.args.self.now.values c.args.self.now.nodes c.args.entry c.children.result c.in_ok-parts.parts
    c.make.result
    c.children.ensures c.in_ok-parts.ensures.parts c.make.ensures c.in-Ok.value c.take_parts.new.values false c.in-Ok.is
    c.in_ok-parts.ensures.left (sym c.is_node.ensures ∙ c.if-is_node.false)
    ∙ ap (λ n. Some (built (bare_values (c.in-Ok.value ∷ c.take_parts.new.values)) n)) (add-zero c.args.self.now.nodes)
    ∙ ap (λ vs. Some (built (bare_values vs) c.args.self.now.nodes)) (sym c.in_ok-push_front.ensures.items)
