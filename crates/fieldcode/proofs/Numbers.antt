-- What chains give, as numbers.
use Rattle.std.proofs.Common.{◌≡◌, ◌≢◌, ℕ, zero, suc, ◌+◌, ◌-◌, ◌*◌, ◌/◌, ◌%◌, ◌^◌, ◌<◌, ◌≤◌, Bool, true, false, refl, sym, ap, ◌∙◌}
use Rattle.std.proofs.Common.{arith, inl, inr, ◌⊎◌, lit<, lit≤, subst}
use Rattle.std.specs.Prelude.{◌==◌, nat_lt, nat_le, not, if◌then◌else◌, bit_and, bit_xor, min, max}
use Rattle.std.specs.Int.{w32, bit_at, bit_not}
use Rattle.std.specs.Int.Bits.{xor_self, xor_zero_r, xor_add_and}
use Rattle.std.proofs.lemmas.Nat.{and_le_l, and_le_r, xor_lt, xor_block, xor_comm}
use Rattle.std.proofs.lemmas.Bool.{eqb-true, eqb-false, ltb-true, ltb-false, leb-true, leb-false}
use Rattle.corestep.specs.Compute.{difference, leftmost_below}
use Rattle.corestep.specs.Compute as compute
use Rattle.midcode.specs.Value.{truth, leftmost, shifted}

-- ---- bits

-- numbers whose bits are the same are equal
xor_zero : (a b : ℕ) → bit_xor a b ≡ 0 → a ≡ b
xor_zero a b is = omega (arith, is, xor_add_and a b, and_le_l a b, and_le_r a b)

-- the highest bit turned
pub turned_on : (k a : ℕ) → a < 2 ^ k → bit_xor a (2 ^ k) ≡ a + 2 ^ k
turned_on k a less =
    let left : 0 * 2 ^ k + a ≡ a = omega arith in
    let right : 1 * 2 ^ k + 0 ≡ 2 ^ k = omega arith in
    ap (λ x. bit_xor x (2 ^ k)) (sym left) ∙ ap (bit_xor (0 * 2 ^ k + a)) (sym right)
    ∙ xor_block k 0 1 a 0 less (omega (arith, less))
    ∙ ap (λ x. 1 * 2 ^ k + x) (xor_zero_r a) ∙ omega arith

pub turned_off : (k a : ℕ) → a < 2 ^ k → bit_xor (a + 2 ^ k) (2 ^ k) ≡ a
turned_off k a less =
    let left : 1 * 2 ^ k + a ≡ a + 2 ^ k = omega arith in
    let right : 1 * 2 ^ k + 0 ≡ 2 ^ k = omega arith in
    ap (λ x. bit_xor x (2 ^ k)) (sym left) ∙ ap (bit_xor (1 * 2 ^ k + a)) (sym right)
    ∙ xor_block k 1 1 a 0 less (omega (arith, less))
    ∙ ap (λ x. 0 * 2 ^ k + x) (xor_zero_r a) ∙ omega arith

-- ---- 0 or 1

none_of : (x : ℕ) → x ≡ 0 → min (x % 2 ^ 32) 1 ≡ 0
none_of x is = ap (λ y. min (y % 2 ^ 32) 1) is

some_of : (x : ℕ) → x ≢ 0 → x < 2 ^ 32 → min (x % 2 ^ 32) 1 ≡ 1
some_of x some fits = grind arith

-- ---- comparisons

equal_by : (a b : ℕ) → a < 2 ^ 32 → b < 2 ^ 32 → (e : Bool) → (a == b) ≡ e
    → bit_xor (min (bit_xor a b % 2 ^ 32) 1 % 2 ^ 32) 1 ≡ truth e
equal_by a b left right true is =
    ap (λ x. bit_xor (x % 2 ^ 32) 1) (none_of (bit_xor a b) (ap (bit_xor a) (sym (eqb-true a b is)) ∙ xor_self a))
equal_by a b left right false is =
    ap (λ x. bit_xor (x % 2 ^ 32) 1)
    (some_of (bit_xor a b) (λ z. eqb-false a b is (xor_zero a b z)) (xor_lt 32 a b left right))

pub equal_is : (a b : ℕ) → a < 2 ^ 32 → b < 2 ^ 32 → bit_xor (min (bit_xor a b % 2 ^ 32) 1 % 2 ^ 32) 1 ≡ truth (a == b)
equal_is a b left right = equal_by a b left right (a == b) refl

not_equal_by : (a b : ℕ) → a < 2 ^ 32 → b < 2 ^ 32 → (e : Bool) → (a == b) ≡ e → min (bit_xor a b % 2 ^ 32) 1 ≡ truth (not e)
not_equal_by a b left right true is = none_of (bit_xor a b) (ap (bit_xor a) (sym (eqb-true a b is)) ∙ xor_self a)
not_equal_by a b left right false is =
    some_of (bit_xor a b) (λ z. eqb-false a b is (xor_zero a b z)) (xor_lt 32 a b left right)

pub not_equal_is : (a b : ℕ) → a < 2 ^ 32 → b < 2 ^ 32 → min (bit_xor a b % 2 ^ 32) 1 ≡ truth (not (a == b))
not_equal_is a b left right = not_equal_by a b left right (a == b) refl

max_left : (a b : ℕ) → b ≤ a → a < 2 ^ 32 → max a b % 2 ^ 32 ≡ a
max_left a b more fits = grind arith

max_right : (a b : ℕ) → a ≤ b → b < 2 ^ 32 → max a b % 2 ^ 32 ≡ b
max_right a b less fits = grind arith

less_by : (a b : ℕ) → a < 2 ^ 32 → b < 2 ^ 32 → (l : Bool) → nat_lt a b ≡ l
    → min (bit_xor (max a b % 2 ^ 32) a % 2 ^ 32) 1 ≡ truth l
less_by a b left right true is =
    let smaller : a < b = ltb-true a b is in
    ap (λ x. min (bit_xor x a % 2 ^ 32) 1) (max_right a b (omega arith) right)
    ∙ some_of (bit_xor b a) (λ z. let e : b ≡ a = xor_zero b a z in omega arith) (xor_lt 32 b a right left)
less_by a b left right false is =
    let greater : b ≤ a = ltb-false a b is in
    ap (λ x. min (bit_xor x a % 2 ^ 32) 1) (max_left a b greater left) ∙ none_of (bit_xor a a) (xor_self a)

pub less_is : (a b : ℕ) → a < 2 ^ 32 → b < 2 ^ 32 → min (bit_xor (max a b % 2 ^ 32) a % 2 ^ 32) 1 ≡ truth (nat_lt a b)
less_is a b left right = less_by a b left right (nat_lt a b) refl

less_or_equal_by : (a b : ℕ) → a < 2 ^ 32 → b < 2 ^ 32 → (l : Bool) → nat_le a b ≡ l
    → bit_xor (min (bit_xor (max a b % 2 ^ 32) b % 2 ^ 32) 1 % 2 ^ 32) 1 ≡ truth l
less_or_equal_by a b left right true is =
    ap (λ x. bit_xor (min (bit_xor x b % 2 ^ 32) 1 % 2 ^ 32) 1) (max_right a b (leb-true a b is) right)
    ∙ ap (λ x. bit_xor (x % 2 ^ 32) 1) (none_of (bit_xor b b) (xor_self b))
less_or_equal_by a b left right false is =
    let greater : b < a = leb-false a b is in
    ap (λ x. bit_xor (min (bit_xor x b % 2 ^ 32) 1 % 2 ^ 32) 1) (max_left a b (omega arith) left)
    ∙ ap (λ x. bit_xor (x % 2 ^ 32) 1)
    (some_of (bit_xor a b) (λ z. let e : a ≡ b = xor_zero a b z in omega arith) (xor_lt 32 a b left right))

pub less_or_equal_is : (a b : ℕ) → a < 2 ^ 32 → b < 2 ^ 32
    → bit_xor (min (bit_xor (max a b % 2 ^ 32) b % 2 ^ 32) 1 % 2 ^ 32) 1 ≡ truth (nat_le a b)
less_or_equal_is a b left right = less_or_equal_by a b left right (nat_le a b) refl

-- ---- signs

sign_by : (a : ℕ) → a < 2 ^ 32 → (l : Bool) → nat_lt a (2 ^ 31) ≡ l → bit_xor (2 ^ 31) a % 2 ^ 32 ≡ shifted a
sign_by a fits true is =
    ap (λ x. x % 2 ^ 32) (xor_comm (2 ^ 31) a ∙ turned_on 31 a (ltb-true a (2 ^ 31) is))
sign_by a fits false is =
    let more : 2 ^ 31 ≤ a = ltb-false a (2 ^ 31) is in
    let rest : a - 2 ^ 31 + 2 ^ 31 ≡ a = omega arith in
    let off : bit_xor a (2 ^ 31) ≡ a - 2 ^ 31 =
    ap (λ x. bit_xor x (2 ^ 31)) (sym rest) ∙ turned_off 31 (a - 2 ^ 31) (omega arith) in
    ap (λ x. x % 2 ^ 32) (xor_comm (2 ^ 31) a ∙ off) ∙ omega arith

pub sign_turned : (a : ℕ) → a < 2 ^ 32 → bit_xor (2 ^ 31) a % 2 ^ 32 ≡ shifted a
sign_turned a fits = sign_by a fits (nat_lt a (2 ^ 31)) refl

-- ---- one instruction

pub difference_is : (a b : ℕ) → b < 2 ^ 32 → difference a b ≡ (a + (2 ^ 32 - b)) % 2 ^ 32
difference_is a b fits = omega arith

pub negated : (a : ℕ) → a < 2 ^ 32 → difference 0 a ≡ (2 ^ 32 - a) % 2 ^ 32
negated a fits = omega arith

pub not_is : (a : ℕ) → bit_not w32 a ≡ 2 ^ 32 - 1 - a
not_is a = refl

pub leftmost_is : (n a bit : ℕ) → leftmost_below a bit n ≡ leftmost n a bit
unfolding leftmost_below
leftmost_is zero a bit = refl
leftmost_is (suc n) a bit = ap (λ r. if bit_at a n == bit then n else r) (leftmost_is n a bit)

not_by : (a : ℕ) → a < 2 ^ 32 → (e : Bool) → (a == 0) ≡ e → bit_xor (min a 1 % 2 ^ 32) 1 ≡ truth e
not_by a fits true is = ap (λ x. bit_xor (min x 1 % 2 ^ 32) 1) (eqb-true a 0 is)
not_by a fits false is =
    let some : a ≢ 0 = eqb-false a 0 is in
    let one : min a 1 ≡ 1 = grind arith in
    ap (λ x. bit_xor (x % 2 ^ 32) 1) one

-- 1 for 0, and 0 for all else
pub is_zero : (a : ℕ) → a < 2 ^ 32 → bit_xor (min a 1 % 2 ^ 32) 1 ≡ truth (a == 0)
is_zero a fits = not_by a fits (a == 0) refl

pub copied : (a : ℕ) → a < 2 ^ 32 → (a + 0) % 2 ^ 32 ≡ a
copied a fits = omega (arith, fits)
