-- What the lines up to here tell is held.
use Rattle.std.proofs.Common.{◌≡◌, drop}
use Rattle.std.specs.Prelude.{fold}
use Rattle.std.specs.List.{flat_map}
use Rattle.asmtext.specs.Held.{all_told, names_held}
use Rattle.asmtext.specs.Labels.{with_name, names_told, names_of}
use Rattle.asmtext.proofs.names.Names.of.Given as goal

abbrev pub invariant-loop-line : goal.invariant-loop-line
invariant-loop-line l =
    fold with_name (names_held l.names) (flat_map names_told (all_told (drop l.line-index l.fn.lines))) ≡ names_of (all_told l.fn.lines)
