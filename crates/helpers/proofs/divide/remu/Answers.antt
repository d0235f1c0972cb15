use Rattle.std.proofs.Common.{◌≡◌, ◌∙◌}
use Rattle.helpers.proofs.Unsigned.{remu_computes}
use Rattle.helpers.specs.Bodies.{rest_unsigned}
use Rattle.helpers.proofs.Shapes.{rest_shape}
use Rattle.helpers.proofs.BodyPlans.{even_rest_unsigned}
use Rattle.helpers.proofs.Pieces.{grows}
use Rattle.helpers.proofs.divide.remu.Goals as goal

pub returns : goal.returns
returns c =
    let items : c.new.result ≡ rest_unsigned = c.new.ensures ∙ grows _ _ _ _ _ c.in_ok-append-2.ensures (grows _ _ _ _ _
    c.in_ok-append.ensures c.new-items.ensures.items c.divided.ensures) c.back.ensures in
    record { computes = remu_computes c.new.result items; shape = rest_shape c.new.result items; even = even_rest_unsigned c.new.result items }
