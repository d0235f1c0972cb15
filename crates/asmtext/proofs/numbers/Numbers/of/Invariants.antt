-- What the items up to here tell is held.
use Rattle.std.proofs.Common.{◌≡◌, drop}
use Rattle.std.specs.Prelude.{fold}
use Rattle.std.specs.List.{flat_map}
use Rattle.asmtext.specs.Held.{labels_held}
use Rattle.asmtext.specs.Printing.{with_label, labels_told, labels_of}
use Rattle.asmtext.proofs.numbers.Numbers.of.Given as goal

abbrev pub invariant-loop-item : goal.invariant-loop-item
invariant-loop-item l = fold with_label (labels_held l.numbers) (flat_map labels_told (drop l.item-index l.items)) ≡ labels_of l.items
