use Rattle.std.proofs.Common.{◌≡◌, ◌∙◌, ap, refl, [], ◌∷◌}
use Rattle.isa.specs.declared.program.Item.{Item}
use Rattle.helpers.proofs.Signed.{divs_computes}
use Rattle.helpers.specs.Bodies.{divided_signed}
use Rattle.helpers.proofs.Shapes.{signed_quotient_shape}
use Rattle.helpers.proofs.BodyPlans.{even_divided_signed}
use Rattle.helpers.proofs.Pieces.{grows}
use Rattle.helpers.proofs.divide.divs.Goals as goal

pub returns : goal.returns
returns c =
    let items : c.new.result ≡ divided_signed = c.new.ensures ∙ grows _ _ _ _ _ c.in_ok-append_signed_end.ensures (grows _ _ _ _ _
    c.in_ok-append-3.ensures
    (grows _ _ _ _ _ c.in_ok-append-2.ensures (grows _ _ _ _ _ c.in_ok-append_magnitudes.ensures (grows _ _ _ _ _ c.in_ok-append.ensures
    c.new-items.ensures.items
    c.quotient_sign.ensures) refl) c.divided.ensures) (ap (λ (i : Item). i ∷ []) c.quotient_moved.ensures)) refl in
    record { computes = divs_computes c.new.result items; shape = signed_quotient_shape c.new.result items; even = even_divided_signed c.new.result items }
