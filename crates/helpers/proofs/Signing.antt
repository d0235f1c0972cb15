-- The pieces that see to signs.
use Rattle.std.proofs.Common.{◌≡◌, ℕ, zero, suc, ◌+◌, ◌^◌, ◌<◌, Bool, true, false, List, [], ◌∷◌, length, set, refl, sym, ap}
use Rattle.std.proofs.Common.{◌∙◌, subst, arith, Some, None, T, ltb}
use Rattle.std.specs.Prelude.{◌==◌, if◌then◌else◌, bit_xor}
use Rattle.std.proofs.lemmas.List.{set-get_or}
use Rattle.std.proofs.lemmas.Nat.{xor_lt}
use Rattle.std.proofs.Math.Dec.{eqb-zero-suc, eqb-suc-zero}
use Rattle.prunum.specs.Bytes.{little_bytes}
use Rattle.isa.specs.declared.control.Condition.TheVariants as conditions
use Rattle.isa.specs.declared.field.Operand.TheVariants as operand
use Rattle.isa.specs.declared.inst.AluOp.TheVariants as ops
use Rattle.isa.specs.declared.inst.Inst.TheVariants as inst
use Rattle.corestep.specs.Core.{State}
use Rattle.corerun.specs.Code.{Code}
use Rattle.helpers.specs.Bodies.{register, whole, unaimed, quotient_sign}
use Rattle.helpers.specs.Runs.{StandsAt, StepsTo, RunsTo, here, on}
use Rattle.helpers.proofs.Steps as steps
use Rattle.helpers.proofs.Steps.{Sized, Here, at, first_here, straight}
use Rattle.helpers.proofs.Signs.{negative, opposite, signed_by, sign_of_quotient}

module _ (code : Code) (front back ram : List ℕ) (size : length front ≡ 56) where
  abbrev core : ℕ → List (List ℕ) → State
  core p v = steps.core code front back ram size p None v

  abbrev Is : List (List ℕ) → ℕ → ℕ → Type 0
  Is v k x = steps.Is code front back ram size v k x

  -- the items of a negation
  pub record Negates (p skips turns q k j : ℕ) : Type 0 where
    pub tests : Here code p (inst.Branch conditions.BitSet unaimed (whole (14 + j)) (operand.Imm 31)) (Some turns)
    pub goes_by : Here code skips (inst.Qba unaimed) (Some q)
    pub negates : Here code turns (inst.Alu ops.Rsb (whole (14 + k)) (whole (14 + k)) (operand.Imm 0)) None
    pub next : p + 1 ≡ skips
    pub last : turns + 1 ≡ q

  negates_by : (p skips turns q k j x s n : ℕ) (v : List (List ℕ)) (t : Bool) → Negates p skips turns q k j → Sized v → T (ltb k 6)
      → T (ltb j 6) → Is v k x → Is v j s → negative s ≡ t → (if t then opposite x else x) ≡ n
      → RunsTo code 2 (core p v) (core q (set v k (little_bytes 4 n)))
  negates_by p skips turns q k j x s n v true items sized hk hj is_x is_s told gives =
      on 1 _ _ _ (steps.branch_to code front back ram size p turns turns None None v conditions.BitSet unaimed j (operand.Imm 31) s 31
      items.tests sized hj (straight turns turns refl) is_s (steps.imm code front back ram size v 31) told)
      (on 0 _ _ _ (steps.alu code front back ram size turns q None None v ops.Rsb k k (operand.Imm 0) x 0 n None items.negates sized hk hk
      (straight (turns + 1) q items.last) is_x (steps.imm code front back ram size v 0) gives) (here (core q (set v k (little_bytes 4 n)))))
  negates_by p skips turns q k j x s n v false items sized hk hj is_x is_s told gives =
      let stays : v ≡ set v k (little_bytes 4 n) =
      sym (ap (set v k) (ap (little_bytes 4) (sym gives) ∙ sym is_x.holds) ∙ set-get_or v k []) in
      on 1 _ _ _ (steps.branch_on code front back ram size p skips None None v conditions.BitSet unaimed j (operand.Imm 31) s 31 (Some
      turns)
      items.tests sized hj (straight (p + 1) skips items.next) is_s (steps.imm code front back ram size v 31) told)
      (on 0 _ _ _ (subst (λ (w : List (List ℕ)). StepsTo code (core skips v) (core q w)) stays
      (steps.skip code front back ram size skips q q None None v unaimed items.goes_by (straight q q refl)))
      (here (core q (set v k (little_bytes 4 n)))))

  pub negation : (p skips turns q k j x s : ℕ) (v : List (List ℕ)) → Negates p skips turns q k j → Sized v → T (ltb k 6) → T (ltb j 6)
      → Is v k x → Is v j s → RunsTo code 2 (core p v) (core q (set v k (little_bytes 4 (signed_by s x))))
  negation p skips turns q k j x s v items sized hk hj is_x is_s =
      negates_by p skips turns q k j x s (signed_by s x) v (negative s) items sized hk hj is_x is_s refl refl

  -- ---- the quotient's sign

  module _ (base a b : ℕ) (stands : StandsAt code base quotient_sign) (a_fits : a < 2 ^ 32) (b_fits : b < 2 ^ 32) (x16 x17 x18 : List ℕ)
      (h : length x16 ≡ 4) (i : length x17 ≡ 4) (j : length x18 ≡ 4) where
    abbrev regs : List ℕ → List (List ℕ)
    regs x19 = little_bytes 4 a ∷ little_bytes 4 b ∷ x16 ∷ x17 ∷ x18 ∷ x19 ∷ []

    sized : (x19 : List ℕ) → length x19 ≡ 4 → Sized (regs x19)
    sized x19 k = record { count = refl; fours = (refl, (refl, (h, (i, (j, (k, tt)))))) }

    r15 : (x19 : List ℕ) → Is (regs x19) 1 b
    r15 x19 = record { holds = refl; fits = b_fits }

    compares : (x19 : List ℕ) → length x19 ≡ 4
        → StepsTo code (core base (regs x19)) (core (base + 1) (regs (little_bytes 4 (bit_xor a b))))
    compares x19 k =
        steps.alu code front back ram size base (base + 1) None None (regs x19) ops.Xor 5 0 (register 15) a b (bit_xor a b) None
        (first_here code base (inst.Alu ops.Xor (whole (14 + 5)) (whole (14 + 0)) (register 15)) None
        (at code base quotient_sign stands 0 _ tt refl refl refl)) (sized x19 k) tt tt
        (straight (base + 1) (base + 1) refl) (record { holds = refl; fits = a_fits })
        (steps.reg code front back ram size (regs x19) 1 b (sized x19 k) tt (r15 x19)) refl

    divisor_0 : (n : ℕ) → (0 == b) ≡ true → RunsTo code 2 (core (base + 1) (regs (little_bytes 4 n))) (core (base + 4) (regs (little_bytes
        4 0)))
    divisor_0 n told =
        let v : List (List ℕ) = regs (little_bytes 4 n) in
        on 1 _ _ _ (steps.branch_to code front back ram size (base + 1) (base + 3) (base + 3) None None v conditions.Eq unaimed 1
        (operand.Imm 0)
        b 0 (at code base quotient_sign stands 1 _ tt refl refl refl) (sized (little_bytes 4 n) refl) tt (straight (base + 3) (base + 3)
        refl)
        (r15 (little_bytes 4 n)) (steps.imm code front back ram size v 0) told)
        (on 0 _ _ _ (steps.ldi code front back ram size (base + 3) (base + 4) None None v 5 0 None
        (at code base quotient_sign stands 3 _ tt refl refl refl) (sized (little_bytes 4 n) refl) tt
        (straight (base + 3 + 1) (base + 4) (omega arith))) (here (core (base + 4) (regs (little_bytes 4 0)))))

    divisor_not_0 : (n : ℕ) → (0 == b) ≡ false
        → RunsTo code 2 (core (base + 1) (regs (little_bytes 4 n))) (core (base + 4) (regs (little_bytes 4 n)))
    divisor_not_0 n told =
        let v : List (List ℕ) = regs (little_bytes 4 n) in
        on 1 _ _ _ (steps.branch_on code front back ram size (base + 1) (base + 2) None None v conditions.Eq unaimed 1 (operand.Imm 0)
        b 0 (Some (base + 3)) (at code base quotient_sign stands 1 _ tt refl refl refl) (sized (little_bytes 4 n) refl) tt
        (straight (base + 1 + 1) (base + 2) (omega arith)) (r15 (little_bytes 4 n)) (steps.imm code front back ram size v 0) told)
        (on 0 _ _ _ (steps.skip code front back ram size (base + 2) (base + 4) (base + 4) None None v unaimed
        (at code base quotient_sign stands 2 _ tt refl refl refl) (straight (base + 4) (base + 4) refl)) (here (core (base + 4) v)))

    by_divisor : (n : ℕ) → (d : ℕ) → d ≡ b
        → RunsTo code 2 (core (base + 1) (regs (little_bytes 4 n))) (core (base + 4) (regs (little_bytes 4 (if d == 0 then 0 else n))))
    by_divisor n zero is = divisor_0 n (ap (λ (d : ℕ). 0 == d) (sym is))
    by_divisor n (suc d) is =
        let not_0 : (0 == b) ≡ false = ap (λ (m : ℕ). 0 == m) (sym is) ∙ eqb-zero-suc d in
        let other : (suc d == 0) ≡ false = eqb-suc-zero d in
        subst (λ (t : Bool). RunsTo code 2 (core (base + 1) (regs (little_bytes 4 n)))
        (core (base + 4) (regs (little_bytes 4 (if t then 0 else n))))) (sym other) (divisor_not_0 n not_0)

    pub sign : (x19 : List ℕ) → length x19 ≡ 4 → RunsTo code 3 (core base (regs x19)) (core (base + 4) (regs (little_bytes 4
        (sign_of_quotient a b))))
    sign x19 k = on 2 _ _ _ (compares x19 k) (by_divisor (bit_xor a b) b refl)

    either_fits : (t : Bool) → (if t then 0 else bit_xor a b) < 2 ^ 32
    either_fits true = omega arith
    either_fits false = xor_lt 32 a b a_fits b_fits

    pub sign_fits : sign_of_quotient a b < 2 ^ 32
    sign_fits = either_fits (b == 0)
