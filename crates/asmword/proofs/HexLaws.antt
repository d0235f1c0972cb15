-- Hexadecimal digits of either case, taken one by one.
use Rattle.std.proofs.Common.{◌≡◌, ℕ, ◌+◌, ◌*◌, ◌<◌, true, cond, List, length, take, get_or, sym, ◌∙◌, arith, Some, None}
use Rattle.std.proofs.lemmas.Bool.{and_from}
use Rattle.std.proofs.lemmas.Option.{cond_some}
use Rattle.std.proofs.lemmas.Int.Digits.{digits_value_more}
use Rattle.std.proofs.lemmas.List.Folds.{list_all_more}
use Rattle.std.specs.Str.Parse.{digits_value}
use Rattle.std.specs.Char.{is_ascii_hexdigit, digit_value}
use Rattle.std.specs.List.{list_all}
use Rattle.asmword.specs.Numbers.{whole}

pub digit_of : (c d : ℕ) → Some d ≡ cond (is_ascii_hexdigit c) (Some (digit_value c)) None
    → (is_ascii_hexdigit c ≡ true) × (digit_value c ≡ d)
digit_of c d e = cond_some (is_ascii_hexdigit c) (digit_value c) d (sym e)

pub digits_step : (word : List ℕ) (i : ℕ) → i < length word → list_all is_ascii_hexdigit (take i word) ≡ true
    → is_ascii_hexdigit (get_or word i 0) ≡ true → list_all is_ascii_hexdigit (take (i + 1) word) ≡ true
digits_step word i h all one = list_all_more is_ascii_hexdigit word i 0 h ∙ and_from _ _ all one

pub value_step : (word : List ℕ) (i v d more : ℕ) → i < length word → v ≡ whole (digits_value 16 (take i word))
    → digit_value (get_or word i 0) ≡ d → more ≡ whole (v * 16 + d) → more ≡ whole (digits_value 16 (take (i + 1) word))
value_step word i v d more h e one m = omega (arith, digits_value_more 16 word i h)
