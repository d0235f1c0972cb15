use Rattle.std.proofs.Common.{◌≡◌, ◌<◌, ◌≤◌, arith, ap, ◌∙◌, sym, Some, None, cond, option_and_then}
use Rattle.std.specs.List.{list_all, slice_get}
use Rattle.textline.specs.Numbers.{is_decimal, decimal_in}
use Rattle.hostscript.proofs.NumberLaws.{forms_step, values_large}
use Rattle.hostscript.proofs.line.read_numbers.Goals as goal

pub words-preserved : goal.words-preserved
words-preserved c =
    let n = c.in_ok-number.number in
    let told : Some n ≡ option_and_then decimal_in (slice_get c.words.fields 0) =
    sym c.in_ok-number.ensures.ok_part ∙ c.decimal.ensures.number in
    let low : n ≤ 255 → ⊥ = c.in-None.ensures in
    let large : 255 < n = omega arith in
    record {
      forms = ap (list_all is_decimal) c.decimal.ensures.taken ∙ forms_step c.words.fields n told ∙ c.words.invariant.forms;
      values = values_large (cond c.words.are_small (Some c.words.numbers.items) None) c.words.fields n told large
          ∙ c.words.invariant.values;
    }
