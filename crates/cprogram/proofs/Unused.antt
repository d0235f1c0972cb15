-- Values that are no calls stay as they are where nothing takes them.
use Rattle.std.proofs.Common.{◌≡◌, refl}
use Rattle.cprogram.specs.declared.number.FunctionId.{FunctionId}
use Rattle.cprogram.specs.declared.value.CallResult.{CallResult}
use Rattle.cprogram.specs.declared.value.Operands.{Operands}
use Rattle.cprogram.specs.declared.value.ValueKind as kind
use Rattle.cprogram.specs.Value.{unused_kind}

pub others : (k : kind.ValueKind) → ((f : FunctionId) (r : CallResult) (all : Operands) → k ≡ kind.Call f r all → ⊥)
    → k ≡ unused_kind k
others (kind.Call f r all) h = absurd (h f r all refl)
others _ h = refl
