-- How many items the lines up to here say, none of which is the one.
use Rattle.std.proofs.Common.{◌≡◌, ◌*◌, ◌≤◌, length}
use Rattle.asmtext.specs.Held.{all_told}
use Rattle.asmtext.specs.Reading.{items_before}
use Rattle.asmtext.proofs.reading.line_of_item.Given as goal

abbrev pub invariant-loop-number : goal.invariant-loop-number
invariant-loop-number l = record {
  items : l.count ≡ length (items_before (all_told l.fn.lines) l.number);
  behind : l.count ≤ l.fn.item;
  few : l.count ≤ 2 * l.number;
}
