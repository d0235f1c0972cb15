use Rattle.std.proofs.Common.{◌≡◌, List, length, ap, ◌∙◌}
use Rattle.prutrace.specs.declared.event.Stamped.{Stamped}
use Rattle.twocore.specs.declared.side.Side.{Side}
use Rattle.twocore.specs.Views.{view_as, side_of}
use Rattle.twocore.proofs.machine.Machine.view.Goals as goal

pub returns : goal.returns
returns c =
    c.of.ensures ∙ ap (λ (s : Side). view_as s (length c.trace.result.now)) c.side.ensures
    ∙ ap (λ (t : List Stamped). view_as (side_of c.args.core c.args.self.now.machine) (length t)) c.trace.ensures
