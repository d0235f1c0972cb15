use Rattle.std.proofs.Common.{◌≡◌, ◌∙◌}
use Rattle.helpers.proofs.Multiplying.{mul_computes}
use Rattle.helpers.specs.Bodies.{multiplication}
use Rattle.helpers.proofs.Shapes.{multiplication_shape}
use Rattle.helpers.proofs.BodyPlans.{even_multiplication}
use Rattle.helpers.proofs.Pieces.{grows}
use Rattle.helpers.proofs.multiply.mul.Goals as goal

pub returns : goal.returns
returns c =
    let items : c.new.result ≡ multiplication = c.new.ensures ∙ grows _ _ _ _ _ c.in_ok-append-2.ensures (grows _ _ _ _ _
    c.in_ok-append.ensures c.new-items.ensures.items c.multiplied.ensures) c.back.ensures in
    record { computes = mul_computes c.new.result items; shape = multiplication_shape c.new.result items; even = even_multiplication c.new.result items }
