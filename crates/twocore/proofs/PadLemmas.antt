-- Registers into the scratchpad, one at a time.
use Rattle.std.proofs.Common.{◌≡◌, ℕ, zero, suc, ◌+◌, ◌-◌, ◌<◌, List, [], ◌∷◌, refl, sym, ap, ◌∙◌, arith}
use Rattle.corestep.specs.Fields.{register}
use Rattle.corestep.specs.Effect.{numbers_from}
use Rattle.devices.specs.Ports.{with_pad}
use Rattle.twocore.specs.World.{pads_with}

pub xout_turn : (banks : List (List ℕ)) (bank first k count : ℕ) (registers : List ℕ) → k < count
    → pads_with (with_pad banks bank (first + k) (register registers (first + k))) bank (first + (k + 1))
    (numbers_from registers (first + (k + 1)) (count - (k + 1)))
    ≡ pads_with banks bank (first + k) (numbers_from registers (first + k) (count - k))
xout_turn banks bank first k count registers h =
    let after : List (List ℕ) = with_pad banks bank (first + k) (register registers (first + k)) in
    ap (λ (at : ℕ). pads_with after bank at (numbers_from registers at (count - (k + 1))))
    (let e : first + (k + 1) ≡ first + k + 1 = omega arith in e)
    ∙ ap (λ (n : ℕ). pads_with banks bank (first + k) (numbers_from registers (first + k) n))
    (let e : suc (count - (k + 1)) ≡ count - k = omega arith in e)

pub xout_start : (banks : List (List ℕ)) (bank first count : ℕ) (registers : List ℕ)
    → pads_with banks bank (first + 0) (numbers_from registers (first + 0) (count - 0))
    ≡ pads_with banks bank first (numbers_from registers first count)
xout_start banks bank first count registers =
    ap (λ (at : ℕ). pads_with banks bank at (numbers_from registers at (count - 0))) (let e : first + 0 ≡ first = omega arith in e)
    ∙ ap (λ (n : ℕ). pads_with banks bank first (numbers_from registers first n)) (let e : count - 0 ≡ count = omega arith in e)

pub xout_end : (banks : List (List ℕ)) (bank first count : ℕ) (registers : List ℕ)
    → pads_with banks bank (first + count) (numbers_from registers (first + count) (count - count)) ≡ banks
xout_end banks bank first count registers =
    ap (λ (n : ℕ). pads_with banks bank (first + count) (numbers_from registers (first + count) n))
    (let e : count - count ≡ 0 = omega arith in e)
