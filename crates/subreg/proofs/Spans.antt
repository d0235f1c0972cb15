-- Spans.
use Rattle.std.proofs.Common.{◌≡◌, ℕ, arith}
use Rattle.midcode.specs.declared.register.VReg.{VReg}
use Rattle.midcode.specs.Function.{Function}
use Rattle.subreg.specs.Span.{IsSpan}

pub same_span : (f : Function) (v : VReg) (a b c d : ℕ) → IsSpan f v a b → IsSpan f v c d → (a ≡ c) × (b ≡ d)
same_span f v a b c d p q =
    let one = p.least c d q.holds in
    let other = q.least a b p.holds in
    (omega (arith, one.0, other.0), omega (arith, one.1, other.1))
