-- The items of the lines up to here, and what is made of their words.
use Rattle.std.proofs.Common.{◌≡◌, ◌++◌, drop}
use Rattle.std.specs.List.{flat_map, AllByRecursion}
use Rattle.asmtext.specs.Held.{all_told, names_held}
use Rattle.asmtext.specs.Items.{line_items, items_of}
use Rattle.asmtext.specs.Made.{IsMade}
use Rattle.asmtext.proofs.items.items_of.Given as goal

abbrev pub invariant-loop-line : goal.invariant-loop-line
invariant-loop-line l = record {
  items : l.items.items ++ flat_map (line_items (names_held l.fn.names)) (all_told (drop l.line-index l.fn.lines)) ≡ items_of
      (all_told l.fn.lines);
  made : AllByRecursion IsMade (all_told (drop l.line-index l.fn.lines)) → AllByRecursion IsMade (all_told l.fn.lines);
}
