-- The run of multiplication.
use Rattle.std.proofs.Common.{◌≡◌, ℕ, zero, suc, ◌+◌, ◌*◌, ◌/◌, ◌%◌, ◌^◌, ◌<◌, List, [], ◌∷◌, length, refl}
use Rattle.std.proofs.Common.{ap, ◌∙◌, subst, arith, Option, Some, None, ◌⊎◌, inl, inr}
use Rattle.std.specs.Prelude.{◌==◌}
use Rattle.prunum.specs.Bytes.{little_bytes}
use Rattle.isa.specs.declared.control.Condition.TheVariants as conditions
use Rattle.isa.specs.declared.field.Operand.TheVariants as operand
use Rattle.isa.specs.declared.inst.AluOp.TheVariants as ops
use Rattle.corestep.specs.declared.onward.Turning.{Turning}
use Rattle.corestep.specs.Core.{State}
use Rattle.corerun.specs.Code.{Code}
use Rattle.helpers.specs.Bodies.{multiplication, register, whole, unaimed, turns}
use Rattle.isa.specs.declared.inst.Inst.TheVariants as inst
use Rattle.isa.specs.declared.program.Item.{Item}
use Rattle.helpers.specs.Numbers.{product}
use Rattle.helpers.specs.Runs.{StandsAt, StepsTo, RunsTo, here, on, Computes}
use Rattle.helpers.proofs.Steps as steps
use Rattle.helpers.proofs.Steps.{Sized, Is, Reads, Here, at, first_here, loop, behind_turn, inside, turned, straight}
use Rattle.helpers.proofs.Calls.{then_runs, called, Left}
use Rattle.helpers.proofs.Turns.{times_high, doubled_by_0, doubled_by_1, no_high, all_high}

halved : (n : ℕ) → (n % 2 ≡ 0) ⊎ (n % 2 ≡ 1)
halved n = grind arith

module _ (code : Code) (base a b : ℕ) (stands : StandsAt code base multiplication) (a_fits : a < 2 ^ 32) (b_fits : b < 2 ^ 32)
    (front back ram x18 x19 : List ℕ) (size : length front ≡ 56) (size18 : length x18 ≡ 4) (size19 : length x19 ≡ 4) where
  abbrev le : ℕ → List ℕ
  le n = little_bytes 4 n

  abbrev core : ℕ → Option Turning → List (List ℕ) → State
  core p t v = steps.core code front back ram size p t v

  -- R16 and R17 with numbers
  abbrev regs : ℕ → ℕ → List (List ℕ)
  regs r k = le a ∷ le b ∷ le r ∷ le k ∷ x18 ∷ x19 ∷ []

  sized : (x16 x17 : List ℕ) → length x16 ≡ 4 → length x17 ≡ 4 → Sized (le a ∷ le b ∷ x16 ∷ x17 ∷ x18 ∷ x19 ∷ [])
  sized x16 x17 h i = record { count = refl; fours = (refl, (refl, (h, (i, (size18, (size19, tt)))))) }

  abbrev Holds : List (List ℕ) → ℕ → ℕ → Type 0
  Holds v k x = steps.Is code front back ram size v k x

  r14 : (r k : ℕ) → Holds (regs r k) 0 a
  r14 r k = record { holds = refl; fits = a_fits }

  r15 : (r k : ℕ) → Holds (regs r k) 1 b
  r15 r k = record { holds = refl; fits = b_fits }

  r16 : (r k : ℕ) → r < 2 ^ 32 → Holds (regs r k) 2 r
  r16 r k fits = record { holds = refl; fits = fits }

  r17 : (r k : ℕ) → k < 2 ^ 32 → Holds (regs r k) 3 k
  r17 r k fits = record { holds = refl; fits = fits }

  whole_regs : (r k : ℕ) → Sized (regs r k)
  whole_regs r k = sized (le r) (le k) refl refl

  abbrev first : ℕ
  first = base + 3

  abbrev end : ℕ
  end = base + 8

  -- ---- a turn, for the bit of number k

  counts_down : (k : ℕ) → k < 32 → (r : ℕ) → StepsTo code (core (base + 3) (loop first end k) (regs r (suc k))) (core (base + 4) (loop
      first end k) (regs r k))
  counts_down k h r =
      steps.alu code front back ram size (base + 3) (base + 4) (loop first end k) (loop first end k) (regs r (suc k)) ops.Sub 3 3
      (operand.Imm 1)
      (suc k) 1 k None (at code base multiplication stands 3 _ tt refl refl refl) (whole_regs r (suc k)) tt tt
      (inside first end k (base + 3 + 1) (base + 4) (omega arith) (omega arith) (omega arith)) (r17 r (suc k) (omega arith))
      (steps.imm code front back ram size (regs r (suc k)) 1) (omega arith)

  doubles : (k r : ℕ) → r < 2 ^ 32
      → StepsTo code (core (base + 4) (loop first end k) (regs r k)) (core (base + 5) (loop first end k) (regs ((r + r) % 2 ^ 32) k))
  doubles k r fits =
      steps.alu code front back ram size (base + 4) (base + 5) (loop first end k) (loop first end k) (regs r k) ops.Add 2 2 (register 16)
      r r ((r + r) % 2 ^ 32) None (at code base multiplication stands 4 _ tt refl refl refl) (whole_regs r k) tt tt
      (inside first end k (base + 4 + 1) (base + 5) (omega arith) (omega arith) (omega arith)) (r16 r k fits)
      (steps.reg code front back ram size (regs r k) 2 r (whole_regs r k) tt (r16 r k fits)) refl

  tests_bit : (k bit : ℕ) → k < 32 → b / 2 ^ k % 2 ≡ bit → (b / 2 ^ (k % 32) % 2 == 1) ≡ (bit == 1)
  tests_bit k bit h is =
      ap (λ (i : ℕ). b / 2 ^ i % 2 == 1) (let e : k % 32 ≡ k = omega arith in e) ∙ ap (λ (n : ℕ). n == 1) is

  bit_0 : (k r : ℕ) → k < 32 → b / 2 ^ k % 2 ≡ 0
      → StepsTo code (core (base + 5) (loop first end k) (regs r k)) (core (base + 6) (loop first end k) (regs r k))
  bit_0 k r h is =
      steps.branch_on code front back ram size (base + 5) (base + 6) (loop first end k) (loop first end k) (regs r k) conditions.BitSet
      unaimed 1
      (register 17) b k (Some (base + 7)) (at code base multiplication stands 5 _ tt refl refl refl) (whole_regs r k) tt
      (inside first end k (base + 5 + 1) (base + 6) (omega arith) (omega arith) (omega arith)) (r15 r k)
      (steps.reg code front back ram size (regs r k) 3 k (whole_regs r k) tt (r17 r k (omega arith))) (tests_bit k 0 h is)

  bit_1 : (k r : ℕ) → k < 32 → b / 2 ^ k % 2 ≡ 1
      → StepsTo code (core (base + 5) (loop first end k) (regs r k)) (core (base + 7) (loop first end k) (regs r k))
  bit_1 k r h is =
      steps.branch_to code front back ram size (base + 5) (base + 7) (base + 7) (loop first end k) (loop first end k) (regs r k)
      conditions.BitSet unaimed 1
      (register 17) b k (at code base multiplication stands 5 _ tt refl refl refl) (whole_regs r k) tt
      (inside first end k (base + 7) (base + 7) refl (omega arith) (omega arith)) (r15 r k)
      (steps.reg code front back ram size (regs r k) 3 k (whole_regs r k) tt (r17 r k (omega arith))) (tests_bit k 1 h is)

  abbrev behind : ℕ → ℕ → State
  behind k r = core (behind_turn first end k).pc (behind_turn first end k).turning (regs r k)

  skips : (k r : ℕ) → StepsTo code (core (base + 6) (loop first end k) (regs r k)) (behind k r)
  skips k r =
      steps.skip code front back ram size (base + 6) (behind_turn first end k).pc end (loop first end k) (behind_turn first end k).turning
      (regs r k) unaimed (at code base multiplication stands 6 _ tt refl refl refl) (turned first end k end refl)

  adds : (k r n : ℕ) → r < 2 ^ 32 → (r + a) % 2 ^ 32 ≡ n → StepsTo code (core (base + 7) (loop first end k) (regs r k)) (behind k n)
  adds k r n fits is =
      steps.alu code front back ram size (base + 7) (behind_turn first end k).pc (loop first end k) (behind_turn first end k).turning
      (regs r k)
      ops.Add 2 2 (register 14)
      r a n None (at code base multiplication stands 7 _ tt refl refl refl) (whole_regs r k) tt tt
      (turned first end k (base + 7 + 1) (omega arith)) (r16 r k fits)
      (steps.reg code front back ram size (regs r k) 0 a (whole_regs r k) tt (r14 r k)) is

  turn_by : (k r n : ℕ) → k < 32 → r < 2 ^ 32 → (b / 2 ^ k % 2 ≡ 0) ⊎ (b / 2 ^ k % 2 ≡ 1)
      → (b / 2 ^ k % 2 ≡ 0 → (r + r) % 2 ^ 32 ≡ n) → (b / 2 ^ k % 2 ≡ 1 → ((r + r) % 2 ^ 32 + a) % 2 ^ 32 ≡ n)
      → RunsTo code 4 (core first (loop first end k) (regs r (suc k))) (behind k n)
  turn_by k r n h fits (inl zero_bit) by_0 by_1 =
      let m : ℕ = (r + r) % 2 ^ 32 in
      on 3 _ _ _ (counts_down k h r) (on 2 _ _ _ (doubles k r fits) (on 1 _ _ _ (bit_0 k m h zero_bit)
      (on 0 _ _ _ (subst (λ (i : ℕ). StepsTo code (core (base + 6) (loop first end k) (regs m k)) (behind k i)) (by_0 zero_bit) (skips k m))
      (here (behind k n)))))
  turn_by k r n h fits (inr one_bit) by_0 by_1 =
      let m : ℕ = (r + r) % 2 ^ 32 in
      let small : m < 2 ^ 32 = omega arith in
      on 3 _ _ _ (counts_down k h r) (on 2 _ _ _ (doubles k r fits) (on 1 _ _ _ (bit_1 k m h one_bit)
      (on 0 _ _ _ (adds k m n small (by_1 one_bit)) (here (behind k n)))))

  turn : (k : ℕ) → k < 32 → RunsTo code 4 (core first (loop first end k) (regs (times_high a b (suc k)) (suc k))) (behind k (times_high a
      b k))
  turn k h =
      turn_by k (times_high a b (suc k)) (times_high a b k) h (omega arith) (halved (b / 2 ^ k)) (doubled_by_0 a b k) (doubled_by_1 a b k)

  all_turns : (k : ℕ) → k < 32
      → RunsTo code (4 * suc k) (core first (loop first end k) (regs (times_high a b (suc k)) (suc k))) (core end None (regs (times_high a
      b 0) 0))
  all_turns zero h = turn zero h
  all_turns (suc k) h = then_runs code 4 (4 * suc k) (4 * suc (suc k)) _ _ _ (omega arith) (turn (suc k) h) (all_turns k (omega arith))

  -- ---- the whole

  moves : (r : ℕ) → r < 2 ^ 32 → StepsTo code (core (base + 8) None (regs r 0))
      (core (base + 9) None (le r ∷ le b ∷ le r ∷ le 0 ∷ x18 ∷ x19 ∷ []))
  moves r fits =
      steps.alu code front back ram size (base + 8) (base + 9) None None (regs r 0) ops.Add 0 2 (operand.Imm 0) r 0 r None
      (at code base multiplication stands 8 _ tt refl refl refl) (whole_regs r 0) tt tt (straight (base + 8 + 1) (base + 9) (omega arith))
      (r16 r 0 fits) (steps.imm code front back ram size (regs r 0) 0) (omega arith)

  starts : (x16 x17 : List ℕ) → length x16 ≡ 4 → length x17 ≡ 4
      → RunsTo code 3 (core base None (le a ∷ le b ∷ x16 ∷ x17 ∷ x18 ∷ x19 ∷ [])) (core first (loop first end 31) (regs (times_high a b
      32) 32))
  starts x16 x17 h i =
      on 2 _ _ _ (steps.ldi code front back ram size base (base + 1) None None (le a ∷ le b ∷ x16 ∷ x17 ∷ x18 ∷ x19 ∷ []) 2 0 None
      (first_here code base (inst.Ldi (whole (14 + 2)) 0) None (at code base multiplication stands 0 _ tt refl refl refl))
      (sized x16 x17 h i) tt (straight (base + 1) (base + 1) refl))
      (on 1 _ _ _ (steps.ldi code front back ram size (base + 1) (base + 2) None None (le a ∷ le b ∷ le 0 ∷ x17 ∷ x18 ∷ x19 ∷ []) 3 32 None
      (at code base multiplication stands 1 _ tt refl refl refl) (sized (le 0) x17 refl i) tt (straight (base + 1 + 1) (base + 2) (omega
      arith)))
      (on 0 _ _ _ (subst (λ (n : ℕ). StepsTo code (core (base + 2) None (regs 0 32)) (core first (loop first end 31) (regs n 32)))
      (no_high a b b_fits) (steps.begin_loop code front back ram size (base + 2) first end None (regs 0 32) turns
      (at code base multiplication stands 2 _ tt refl refl refl) (omega arith)))
      (here (core first (loop first end 31) (regs (times_high a b 32) 32)))))

  multiplies : (x16 x17 : List ℕ) → length x16 ≡ 4 → length x17 ≡ 4
      → Left code base a b (product a b) 133 front back ram x16 x17 x18 x19 size
  multiplies x16 x17 h i =
      let n : ℕ = times_high a b 0 in
      let fits : n < 2 ^ 32 = omega arith in
      let after : List (List ℕ) = le n ∷ le b ∷ le n ∷ le 0 ∷ x18 ∷ x19 ∷ [] in
      record {
        after = after;
        sized = record { count = refl; fours = (refl, (refl, (refl, (refl, (size18, (size19, tt)))))) };
        result = ap (little_bytes 4) (all_high a b);
        runs = then_runs code 3 130 133 _ _ _ refl (starts x16 x17 h i)
            (then_runs code 128 2 130 _ _ _ refl (all_turns 31 (omega arith))
            (on 1 _ _ _ (moves n fits) (on 0 _ _ _
            (steps.return code front back ram size (base + 9) after (at code base multiplication stands 9 _ tt refl refl refl)) (here _))));
      }

pub mul_computes : (items : List Item) → items ≡ multiplication → Computes product 133 items
mul_computes items is = record {
  call = λ code base a b s stands begins.
      let stand : StandsAt code base multiplication = subst (StandsAt code base) is stands in
      called code base a b (product a b) 133 s begins (λ front back ram x16 x17 x18 x19 size h i j k.
      multiplies code base a b stand begins.first_fits begins.second_fits front back ram x18 x19 size j k x16 x17 h i);
}
