use Rattle.std.proofs.Common.{◌≡◌, length, Some, None, cond}
use Rattle.std.specs.List.{list_all}
use Rattle.textline.specs.Numbers.{is_decimal}
use Rattle.hostscript.specs.Reading.{small_numbers}
use Rattle.hostscript.proofs.NumberLaws.{joined}
use Rattle.hostscript.proofs.line.read_numbers.Given as goal

abbrev pub invariant-words : goal.invariant-words
invariant-words l = record {
  forms : list_all is_decimal l.fields ≡ list_all is_decimal l.fn.fields;
  values : joined (cond l.are_small (Some l.numbers.items) None) (small_numbers l.fields) ≡ small_numbers l.fn.fields;
}

abbrev pub decreases-words : goal.decreases-words
decreases-words l = length l.fields
