use Rattle.std.proofs.Common.{◌≡◌, take}
use Rattle.std.specs.List.{flat_map, AllByRecursion}
use Rattle.elfrec.proofs.writing.records_bytes.Given as goal

-- the bytes of the records so far, which fit
abbrev pub invariant-loop-record : goal.invariant-loop-record
invariant-loop-record g l =
    (l.bytes.items ≡ flat_map g.R.Record.format.bytes (take l.record-index l.records))
    × AllByRecursion g.R.Record.Fits (take l.record-index l.records)
