use Rattle.std.proofs.Common.{◌≡◌, ◌∙◌, ap, refl, [], ◌∷◌}
use Rattle.isa.specs.declared.program.Item.{Item}
use Rattle.helpers.proofs.Signed.{rems_computes}
use Rattle.helpers.specs.Bodies.{rest_signed}
use Rattle.helpers.proofs.Shapes.{signed_rest_shape}
use Rattle.helpers.proofs.BodyPlans.{even_rest_signed}
use Rattle.helpers.proofs.Pieces.{grows}
use Rattle.helpers.proofs.divide.rems.Goals as goal

pub returns : goal.returns
returns c =
    let items : c.new.result ≡ rest_signed = c.new.ensures ∙ grows _ _ _ _ _ c.in_ok-append_signed_end.ensures (grows _ _ _ _ _
    c.in_ok-append-2.ensures
    (grows _ _ _ _ _ c.in_ok-append_magnitudes.ensures (grows _ _ _ _ _ c.in_ok-append.ensures c.new-items.ensures.items
    (ap (λ (i : Item). i ∷ []) c.calculated.ensures)) refl) c.divided.ensures) refl in
    record { computes = rems_computes c.new.result items; shape = signed_rest_shape c.new.result items; even = even_rest_signed c.new.result items }
