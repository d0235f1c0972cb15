use Rattle.std.proofs.Common.{◌≡◌, ℕ, ◌+◌, ◌-◌, List, ap, ◌∙◌}
use Rattle.corestep.specs.Pieces.{bank_number}
use Rattle.corestep.specs.Effect.{numbers_from}
use Rattle.devices.specs.Ports.{with_pad}
use Rattle.twocore.specs.World.{pads_with}
use Rattle.twocore.proofs.PadLemmas.{xout_turn}
use Rattle.twocore.proofs.store.xout.Goals as goal

pub loop-k-preserved : goal.loop-k-preserved
loop-k-preserved c =
    let first : ℕ = c.args.moved.now.first in
    let k : ℕ = c.loop-k.k in
    let bank : ℕ = bank_number c.args.moved.now.bank in
    let rest : List ℕ = numbers_from c.args.core.now.registers (first + (k + 1)) (c.args.moved.now.count - (k + 1)) in
    ap (λ (banks : List (List ℕ)). pads_with banks bank (first + (k + 1)) rest)
    (c.set.ensures ∙ ap (λ (b : ℕ). with_pad c.loop-k.pads b (first + k) c.reg.result) c.bank_number-bank.ensures.value
    ∙ ap (λ (v : ℕ). with_pad c.loop-k.pads bank (first + k) v) c.reg.ensures)
    ∙ xout_turn c.loop-k.pads bank first k c.args.moved.now.count c.args.core.now.registers c.loop-k-test.true ∙ c.loop-k.invariant
