-- What printed numbers are made of, which bytes texts lack, and where a text is cut.
use Rattle.std.proofs.Common.{◌≡◌, ◌≢◌, ℕ, ◌^◌, ◌<◌, ◌≤◌, Bool, true, ◌&&◌, ◌==◌, nat_le, List, [], ◌∷◌}
use Rattle.std.proofs.Common.{◌++◌, length, Some, refl, sym, ap, subst, ◌∙◌, arith}
use Rattle.std.specs.List.{list_all, AllByRecursion}
use Rattle.std.specs.Char.{is_ascii_digit}
use Rattle.std.specs.Fmt.{decimal}
use Rattle.std.specs.Str.Parse.{digits_value}
use Rattle.std.proofs.lemmas.Bool.{and_parts, and_from, leb-true, eqb-true}
use Rattle.std.proofs.lemmas.Bool.Decides.{nat_tests}
use Rattle.std.proofs.lemmas.Option.{cond_some}
use Rattle.textline.specs.Numbers.{is_decimal, is_hex_digit, decimal_in, hex_in, hex_digits}
use Rattle.textline.specs.Lines.{Lacks, line_of}
use Rattle.textline.proofs.DecimalLaws.{decimal_reads}
use Rattle.textline.proofs.HexLaws.{hex_reads, hex_small}

-- no byte below '0'
abbrev high_bytes : List ℕ → Bool
high_bytes word = list_all (λ c. nat_le 48 c) word

pub lacks_low : (byte : ℕ) (word : List ℕ) → byte < 48 → high_bytes word ≡ true → Lacks byte word
lacks_low byte [] low h = tt
lacks_low byte (c ∷ word) low h =
    let parts = and_parts (nat_le 48 c) (high_bytes word) h in
    let le = leb-true 48 c parts.0 in
    (λ e. omega (arith, le, e), lacks_low byte word low parts.1)

digit_high : (word : List ℕ) → list_all is_ascii_digit word ≡ true → high_bytes word ≡ true
digit_high [] h = refl
digit_high (c ∷ word) h =
    let parts = and_parts (is_ascii_digit c) (list_all is_ascii_digit word) h in
    and_from _ _ (one c parts.0) (digit_high word parts.1)
  where
    one : (c : ℕ) → is_ascii_digit c ≡ true → nat_le 48 c ≡ true
    one c h = grind (arith, nat_tests)

hex_high : (word : List ℕ) → list_all is_hex_digit word ≡ true → high_bytes word ≡ true
hex_high [] h = refl
hex_high (c ∷ word) h =
    let parts = and_parts (is_hex_digit c) (list_all is_hex_digit word) h in
    and_from _ _ (one c parts.0) (hex_high word parts.1)
  where
    one : (c : ℕ) → is_hex_digit c ≡ true → nat_le 48 c ≡ true
    one c h = grind (arith, nat_tests)

pub is_decimal_told : (word : List ℕ) (n : ℕ) → decimal_in word ≡ Some n → is_decimal word ≡ true
is_decimal_told word n e = (cond_some (is_decimal word) _ n e).0

pub decimal_digits : (n : ℕ) → n < 2 ^ 64 → (list_all is_ascii_digit (decimal n) ≡ true) × (0 < length (decimal n))
decimal_digits n small =
    let told = is_decimal_told (decimal n) n (decimal_reads n small) in
    let outer = and_parts _ _ told in
    let inner = and_parts _ _ outer.0 in
    (inner.0, grind (arith, nat_tests))

pub decimal_lacks : (byte n : ℕ) → byte < 48 → n < 2 ^ 64 → Lacks byte (decimal n)
decimal_lacks byte n low small = lacks_low byte (decimal n) low (digit_high (decimal n) (decimal_digits n small).0)

-- so many digits, each a hexadecimal one
pub hex_is : (count n : ℕ) → n < 16 ^ count → (length (hex_digits count n) ≡ count) × (list_all is_hex_digit (hex_digits count n) ≡ true)
hex_is count n small =
    let told = cond_some (length (hex_digits count n) == count && list_all is_hex_digit (hex_digits count n)) _ n
    (hex_reads count n small) in
    let parts = and_parts _ _ told.0 in
    (eqb-true _ _ parts.0, parts.1)

-- a number of so many digits is below the power
pub hex_bound : (count : ℕ) (word : List ℕ) (n : ℕ) → hex_in count word ≡ Some n → n < 16 ^ count
hex_bound count word n e =
    let told = cond_some (length word == count && list_all is_hex_digit word) (digits_value 16 word) n e in
    let parts = and_parts _ _ told.0 in
    subst (λ m. m < 16 ^ count) told.1 (subst (λ k. digits_value 16 word < 16 ^ k) (eqb-true _ _ parts.0) (hex_small word parts.1))

pub hex_lacks : (byte count n : ℕ) → byte < 48 → n < 16 ^ count → Lacks byte (hex_digits count n)
hex_lacks byte count n low small = lacks_low byte (hex_digits count n) low (hex_high (hex_digits count n) (hex_is count n small).1)

pub append_lacks : (byte : ℕ) (front behind : List ℕ) → Lacks byte front → Lacks byte behind → Lacks byte (front ++ behind)
append_lacks byte [] behind f b = b
append_lacks byte (c ∷ front) behind f b = (f.0, append_lacks byte front behind f.1 b)

-- a line lacks what its fields lack, but for the space
pub line_lacks : (byte : ℕ) (fields : List (List ℕ)) → 32 ≢ byte → AllByRecursion (Lacks byte) fields → Lacks byte (line_of fields)
line_lacks byte [] space all = tt
line_lacks byte (field ∷ []) space all = all.0
line_lacks byte (field ∷ next ∷ fields) space all =
    append_lacks byte field (32 ∷ line_of (next ∷ fields)) all.0 (space, line_lacks byte (next ∷ fields) space all.1)

-- the first such byte cuts a text in one way
pub cut_once : (byte : ℕ) (one other behind rest : List ℕ) → Lacks byte one → Lacks byte other
    → one ++ byte ∷ behind ≡ other ++ byte ∷ rest → (one ≡ other) × (behind ≡ rest)
cut_once byte [] [] behind rest a b e = (refl, cc)
cut_once byte [] (c ∷ other) behind rest a b e = absurd (b.0 (let h : byte ≡ c = cc in sym h))
cut_once byte (c ∷ one) [] behind rest a b e = absurd (a.0 (cc))
cut_once byte (c ∷ one) (d ∷ other) behind rest a b e =
    let tails : one ++ byte ∷ behind ≡ other ++ byte ∷ rest = cc in
    let same = cut_once byte one other behind rest a.1 b.1 tails in
    (let h : c ≡ d = cc in let t : one ≡ other = same.0 in cc, same.1)
