use Rattle.std.proofs.Common.{◌≡◌, drop}
use Rattle.std.specs.Int.{w8}
use Rattle.pruelf.specs.Fields.{fixed_in, kind_of}
use Rattle.pruelf.proofs.fields.fixed.Given as goal

-- what is left of the values is read of what is left of the bytes
abbrev pub invariant-loop-value : goal.invariant-loop-value
invariant-loop-value l = fixed_in l.cause (kind_of l.width) (drop l.value-index l.values) l.end l.rest
    ≡ fixed_in l.cause (kind_of l.width) l.values l.end l.bytes
