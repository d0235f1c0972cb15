-- A value that nothing takes, without its pointers.
use Rattle.std.proofs.Common.{◌≡◌, refl}
use Rattle.cprogram.specs.declared.value.ValueKind as value
use Rattle.cprogram.specs.Value.{unused_kind}
use Rattle.cnode.specs.Bare.{bare_kind}

pub bare_unused : (k : value.ValueKind) → bare_kind (unused_kind k) ≡ unused_kind (bare_kind k)
bare_unused (value.Call f r all) = refl
bare_unused _ = refl
