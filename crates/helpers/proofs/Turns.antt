-- What a turn of a loop does to numbers.
use Rattle.std.proofs.Common.{◌≡◌, ℕ, zero, suc, ◌+◌, ◌-◌, ◌*◌, ◌/◌, ◌%◌, ◌^◌, ◌<◌, ◌≤◌, refl, sym, ap, ◌∙◌, arith}
use Rattle.std.specs.Prelude.{bit_or, ◌==◌, if◌then◌else◌, Bool, false}
use Rattle.prunum.specs.Number.{quot_u, rem_u}
use Rattle.std.proofs.Math.Dec.{eqb-suc-zero}
use Rattle.std.proofs.Math.Nat.{mul_comm, div-le_self, mod-le, pow-suc, mul-add, add-mul, div-lt_iff_lt-mul}
use Rattle.std.proofs.lemmas.Nat.{shr-shr, pow_pos, or_shifted, div-mul-add, mod-mul-add, mul-le, pow_below, div-add-mod'}

-- ---- multiplication: the product with the high bits, doubled, and added to where the next bit is 1

halves : (n : ℕ) → n ≡ 2 * (n / 2) + n % 2
halves n = omega arith

next_bit : (b k : ℕ) → b / 2 ^ k ≡ 2 * (b / 2 ^ suc k) + b / 2 ^ k % 2
next_bit b k =
    let half : b / 2 ^ k / 2 ≡ b / 2 ^ (k + 1) = shr-shr b k 1 in
    let same : b / 2 ^ (k + 1) ≡ b / 2 ^ suc k = ap (λ n. b / 2 ^ n) (let e : k + 1 ≡ suc k = omega arith in e) in
    omega (arith, halves (b / 2 ^ k))

twice : (x : ℕ) → (x % 2 ^ 32 + x % 2 ^ 32) % 2 ^ 32 ≡ (x + x) % 2 ^ 32
twice x = omega arith

twice_and : (x a : ℕ) → ((x + x) % 2 ^ 32 + a) % 2 ^ 32 ≡ (x + x + a) % 2 ^ 32
twice_and x a = omega arith

abbrev pub times_high : ℕ → ℕ → ℕ → ℕ
times_high a b k = a * (b / 2 ^ k) % 2 ^ 32

pub doubled_by_0 : (a b k : ℕ) → b / 2 ^ k % 2 ≡ 0 → (times_high a b (suc k) + times_high a b (suc k)) % 2 ^ 32 ≡ times_high a b k
doubled_by_0 a b k bit =
    let h : ℕ = b / 2 ^ suc k in
    let e : b / 2 ^ k ≡ h + h = let n = next_bit b k in omega arith in
    twice (a * h) ∙ ap (λ n. n % 2 ^ 32) (sym (mul-add a h h)) ∙ ap (λ n. a * n % 2 ^ 32) (sym e)

pub doubled_by_1 : (a b k : ℕ) → b / 2 ^ k % 2 ≡ 1
    → ((times_high a b (suc k) + times_high a b (suc k)) % 2 ^ 32 + a) % 2 ^ 32 ≡ times_high a b k
doubled_by_1 a b k bit =
    let h : ℕ = b / 2 ^ suc k in
    let e : b / 2 ^ k ≡ h + h + 1 = let n = next_bit b k in omega arith in
    let last : a * (h + h + 1) ≡ a * h + a * h + a = mul-add a (h + h) 1 ∙ ap (λ n. n + a * 1) (mul-add a h h) ∙ omega arith in
    ap (λ n. (n + a) % 2 ^ 32) (twice (a * h)) ∙ twice_and (a * h) a ∙ ap (λ n. n % 2 ^ 32) (sym last)
    ∙ ap (λ n. a * n % 2 ^ 32) (sym e)

pub no_high : (a b : ℕ) → b < 2 ^ 32 → 0 ≡ times_high a b 32
no_high a b small = let e : b / 2 ^ 32 ≡ 0 = omega arith in sym (ap (λ n. a * n % 2 ^ 32) e ∙ omega arith)

pub all_high : (a b : ℕ) → times_high a b 0 ≡ a * b % 2 ^ 32
all_high a b = ap (λ n. a * n % 2 ^ 32) (let e : b / 2 ^ 0 ≡ b = omega arith in e)

-- ---- division

-- Of A divided by d, the bits of the quotient from bit k on are q, and r is left.
pub record Divides (A d k r q : ℕ) : Type 0 where
  pub sum : q * d + r ≡ A
  pub high : ℕ
  pub whole : q ≡ high * 2 ^ k
  pub small : 0 < d → r < d * 2 ^ k
  pub full : d ≡ 0 → q + 2 ^ k ≡ 2 ^ 32

pub begins : (A d : ℕ) → A < 2 ^ 32 → Divides A d 32 A 0
begins A d fits = record {
  sum = omega arith;
  high = 0;
  whole = omega arith;
  small = λ some. let least : 1 * 2 ^ 32 ≤ d * 2 ^ 32 = mul-le 1 (2 ^ 32) d (2 ^ 32) some (omega arith) in omega arith;
  full = λ none. refl;
}

double : (k : ℕ) → 2 ^ suc k ≡ 2 ^ k + 2 ^ k
double k = pow-suc 2 k ∙ omega arith

pub not_taken : (A d k r q : ℕ) → Divides A d (suc k) r q → r / 2 ^ k < d → Divides A d k r q
not_taken A d k r q is less =
    let p : ℕ = 2 ^ k in
    record {
      sum = is.sum;
      high = is.high + is.high;
      whole = is.whole ∙ ap (λ n. is.high * n) (double k) ∙ mul-add is.high p p ∙ sym (add-mul is.high is.high p);
      small = λ some. (div-lt_iff_lt-mul (pow_pos k)).0 less;
      full = λ none. absurd (omega arith);
    }

pub at_least : (d k r : ℕ) → d ≤ r / 2 ^ k → d * 2 ^ k ≤ r
at_least d k r most =
    let below : d * 2 ^ k ≤ r / 2 ^ k * 2 ^ k = mul-le d (2 ^ k) (r / 2 ^ k) (2 ^ k) most (omega arith) in
    omega (arith, div-add-mod' r (2 ^ k))

pub taken : (A d k r q : ℕ) → Divides A d (suc k) r q → d ≤ r / 2 ^ k → Divides A d k (r - d * 2 ^ k) (q + 2 ^ k)
taken A d k r q is most =
    let p : ℕ = 2 ^ k in
    let has : d * p ≤ r = at_least d k r most in
    let sums : (q + p) * d ≡ q * d + p * d = add-mul q p d in
    let turned : p * d ≡ d * p = mul_comm p d in
    let two : d * 2 ^ suc k ≡ d * p + d * p = ap (λ n. d * n) (double k) ∙ mul-add d p p in
    let old : q * d + r ≡ A = is.sum in
    record {
      sum = omega arith;
      high = is.high + is.high + 1;
      whole =
          ap (λ n. n + p) (is.whole ∙ ap (λ n. is.high * n) (double k) ∙ mul-add is.high p p ∙ sym (add-mul is.high is.high p))
          ∙ (let one : (is.high + is.high) * p + 1 * p ≡ (is.high + is.high + 1) * p = sym (add-mul (is.high + is.high) 1 p) in omega
          arith);
      small = λ some. let less = is.small some in omega arith;
      full = λ none. let before = is.full none in let twice : 2 ^ suc k ≡ 2 ^ k + 2 ^ k = double k in omega arith;
    }

pub bit_is_new : (A d k r q : ℕ) → Divides A d (suc k) r q → bit_or q (2 ^ k) ≡ q + 2 ^ k
bit_is_new A d k r q is =
    let less : 2 ^ k < 2 ^ suc k = pow_below k (suc k) (omega arith) in
    ap (λ n. bit_or n (2 ^ k)) is.whole ∙ or_shifted is.high (suc k) (2 ^ k) less ∙ ap (λ n. n + 2 ^ k) (sym is.whole)

pub left_fits : (A d k r q : ℕ) → Divides A d k r q → A < 2 ^ 32 → r < 2 ^ 32
left_fits A d k r q is fits = let sum = is.sum in omega arith

pub quotient_fits : (A d k r q : ℕ) → Divides A d k r q → A < 2 ^ 32 → q < 2 ^ 32
quotient_fits A zero k r q is fits = let full = is.full refl in let p = pow_pos k in omega arith
quotient_fits A (suc d) k r q is fits =
    let sum = is.sum in
    let least : q * 1 ≤ q * suc d = mul-le q 1 q (suc d) (omega arith) (omega arith) in
    omega arith

-- ---- when no bit is left

pub quotient_is : (A d r q : ℕ) → Divides A d 0 r q → q ≡ quot_u A d
quotient_is A zero r q is = let full = is.full refl in omega arith
quotient_is A (suc d) r q is =
    let some : (suc d == 0) ≡ false = eqb-suc-zero d in
    let less : r < suc d = let h = is.small (omega arith) in omega arith in
    sym (ap (λ (b : Bool). if b then 2 ^ 32 - 1 else A / suc d) some ∙ ap (λ (n : ℕ). n / suc d) (sym is.sum) ∙ div-mul-add q (suc d) r
    less)

pub rest_is : (A d r q : ℕ) → Divides A d 0 r q → r ≡ rem_u A d
rest_is A zero r q is = let sum = is.sum in omega arith
rest_is A (suc d) r q is =
    let some : (suc d == 0) ≡ false = eqb-suc-zero d in
    let less : r < suc d = let h = is.small (omega arith) in omega arith in
    sym (ap (λ (b : Bool). if b then A else A % suc d) some ∙ ap (λ (n : ℕ). n % suc d) (sym is.sum) ∙ mod-mul-add q (suc d) r less)

-- ---- sizes

pub quot_u_fits : (a b : ℕ) → a < 2 ^ 32 → quot_u a b < 2 ^ 32
quot_u_fits a zero fits = omega arith
quot_u_fits a (suc b) fits =
    let some : (suc b == 0) ≡ false = eqb-suc-zero b in
    let is : quot_u a (suc b) ≡ a / suc b = ap (λ (t : Bool). if t then 2 ^ 32 - 1 else a / suc b) some in
    let less = div-le_self a (suc b) in omega arith

pub rem_u_fits : (a b : ℕ) → a < 2 ^ 32 → rem_u a b < 2 ^ 32
rem_u_fits a zero fits = omega arith
rem_u_fits a (suc b) fits =
    let some : (suc b == 0) ≡ false = eqb-suc-zero b in
    let is : rem_u a (suc b) ≡ a % suc b = ap (λ (t : Bool). if t then a else a % suc b) some in
    let less = mod-le a (suc b) in omega arith
