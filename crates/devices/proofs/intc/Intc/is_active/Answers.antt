use Rattle.std.proofs.Common.{◌&&◌, eqb, ap, ◌∙◌}
use Rattle.std.specs.Int.{bit_at}
use Rattle.devices.specs.Controller.{Controller}
use Rattle.devices.proofs.HostBitLemmas.{both_bits}
use Rattle.devices.proofs.intc.Intc.is_active.Goals as goal

pub returns : goal.returns
returns c =
    both_bits c.self.inside.pending c.self.inside.enabled c.args.event
    ∙ ap (λ (s : Controller). eqb (bit_at s.pending c.args.event) 1 && eqb (bit_at s.enabled c.args.event) 1) c.self.view_is
