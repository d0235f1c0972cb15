use Rattle.std.proofs.Common.{ap, ◌∙◌}
use Rattle.linkarena.specs.Lists.{first_id}
use Rattle.midcode.proofs.Valid.{first-node}
use Rattle.midcode.proofs.function.MidFn.first.Goals as goal

pub returns-clause-node : goal.returns-clause-node
returns-clause-node c =
    first-node c.args.self.now.nodes c.first.result (c.first.ensures ∙ ap (λ f. first_id f.nodes) c.self.view_is)
