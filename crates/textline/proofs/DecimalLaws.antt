-- Decimal numbers are read as they are printed, and nothing else is.
use Rattle.std.proofs.Common.{◌≡◌, ℕ, zero, suc, ◌+◌, ◌-◌, ◌*◌, ◌^◌, ◌<◌, true, List, length, take}
use Rattle.std.proofs.Common.{get_or, sym, ap, ◌∙◌, arith, rules, Some, min}
use Rattle.std.proofs.lemmas.Bool.{and_from}
use Rattle.std.proofs.lemmas.Bool.Decides.{nat_tests}
use Rattle.std.proofs.lemmas.Fmt.{decimal_is_IsNumeral, first_decimal, decimal-digits_value, decimal_digit}
use Rattle.std.proofs.lemmas.Str.Parse.{IsDigitsTest, IsNumeralModel, numerals_by_value}
use Rattle.std.proofs.lemmas.Int.Digits.{digits_value_more}
use Rattle.std.proofs.lemmas.List.Folds.{list_all_more}
use Rattle.std.specs.Str.Parse.{digits_value}
use Rattle.std.specs.Char.{is_ascii_digit, digit_value}
use Rattle.std.specs.List.{list_all}
use Rattle.std.specs.Fmt.{decimal}
use Rattle.textline.specs.Numbers.{decimal_in}

digits_test : IsDigitsTest (λ ds. list_all is_ascii_digit ds ≡ true)
digits_test = search rules

own : IsNumeralModel (λ ds. list_all is_ascii_digit ds ≡ true) (digits_value 10)
own = numerals_by_value _ digits_test

reads : (word : List ℕ) (n : ℕ) → list_all is_ascii_digit word ≡ true → 0 < length word → (get_or word 0 0 ≡ 48 → length word ≡ 1)
    → digits_value 10 word ≡ n → n < 2 ^ 64
    → decimal_in word ≡ Some n
reads word n digits some lead value small = grind (arith, nat_tests)

pub decimal_reads : (n : ℕ) → n < 2 ^ 64 → decimal_in (decimal n) ≡ Some n
decimal_reads n small =
    let k = decimal_is_IsNumeral n small in
    reads (decimal n) n (own.from (decimal n) k.0.1) k.0.0 (lead n small) k.1 small
  where
    lead : (n : ℕ) → n < 2 ^ 64 → get_or (decimal n) 0 0 ≡ 48 → length (decimal n) ≡ 1
    lead zero small e = ap length (decimal_digit 0 (omega arith))
    lead (suc m) small e = absurd (omega (arith, first_decimal (suc m) (omega arith) small))

told : (word : List ℕ) (n : ℕ) → decimal_in word ≡ Some n
    → (list_all is_ascii_digit word ≡ true) × (0 < length word) × (get_or word 0 0 ≡ 48 → length word ≡ 1)
    × (min (digits_value 10 word) (2 ^ 64 - 1) ≡ n)
told word n read = grind (arith, nat_tests)

pub decimal_only : (word : List ℕ) (n : ℕ) → decimal_in word ≡ Some n → n < 2 ^ 64 - 1 → word ≡ decimal n
decimal_only word n read small =
    let t = told word n read in
    let same : digits_value 10 word ≡ n = omega (arith, t.3) in
    sym (ap decimal (sym same) ∙ decimal-digits_value own word t.0 t.1 t.2 (omega arith))

-- one digit more
pub digits_step : (word : List ℕ) (i : ℕ) → i < length word → list_all is_ascii_digit (take i word) ≡ true
    → is_ascii_digit (get_or word i 0) ≡ true
    → list_all is_ascii_digit (take (i + 1) word) ≡ true
digits_step word i h all one = list_all_more is_ascii_digit word i 0 h ∙ and_from _ _ all one

digit_minus : (c : ℕ) → is_ascii_digit c ≡ true → digit_value c ≡ c - 48
digit_minus c h = grind (arith, nat_tests)

-- the value, kept within 64 bits
pub value_step : (word : List ℕ) (i v tens d more : ℕ) → i < length word → v ≡ min (digits_value 10 (take i word)) (2 ^ 64 - 1)
    → is_ascii_digit (get_or word i 0) ≡ true
    → tens ≡ min (v * 10) (2 ^ 64 - 1) → d ≡ get_or word i 0 - 48 → more ≡ min (tens + d) (2 ^ 64 - 1)
    → more ≡ min (digits_value 10 (take (i + 1) word)) (2 ^ 64 - 1)
value_step word i v tens d more h e one t f m = omega (arith, digits_value_more 10 word i h, digit_minus (get_or word i 0) one)
