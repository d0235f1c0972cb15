use Rattle.std.proofs.Common.{◌≡◌, ◌∙◌, ap, [], ◌∷◌}
use Rattle.isa.specs.declared.program.Item.{Item}
use Rattle.helpers.proofs.Unsigned.{divu_computes}
use Rattle.helpers.specs.Bodies.{divided_unsigned}
use Rattle.helpers.proofs.Shapes.{quotient_shape}
use Rattle.helpers.proofs.BodyPlans.{even_divided_unsigned}
use Rattle.helpers.proofs.Pieces.{grows}
use Rattle.helpers.proofs.divide.divu.Goals as goal

pub returns : goal.returns
returns c =
    let items : c.new.result ≡ divided_unsigned = c.new.ensures ∙ grows _ _ _ _ _ c.in_ok-append-3.ensures
    (grows _ _ _ _ _ c.in_ok-append-2.ensures (grows _ _ _ _ _ c.in_ok-append.ensures c.new-items.ensures.items c.divided.ensures)
    (ap (λ (i : Item). i ∷ []) c.quotient_moved.ensures)) c.back.ensures in
    record { computes = divu_computes c.new.result items; shape = quotient_shape c.new.result items; even = even_divided_unsigned c.new.result items }
