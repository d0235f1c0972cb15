-- The run of division, a piece of four bodies.
use Rattle.std.proofs.lemmas.Bool.Decides.{leb_tells}
use Rattle.std.proofs.Common.{◌≡◌, ℕ, zero, suc, ◌+◌, ◌-◌, ◌*◌, ◌/◌, ◌%◌, ◌^◌, ◌<◌, ◌≤◌, true, false, List, [], ◌∷◌, length, refl}
use Rattle.std.proofs.Common.{ap, ◌∙◌, subst, arith, Option, Some, None, ◌⊎◌, inl, inr, leb}
use Rattle.std.specs.Prelude.{bit_or}
use Rattle.std.proofs.lemmas.Nat.{shr_le}
use Rattle.prunum.specs.Bytes.{little_bytes}
use Rattle.prunum.specs.Number.{quot_u, rem_u}
use Rattle.isa.specs.declared.control.Condition.TheVariants as conditions
use Rattle.isa.specs.declared.field.Operand.TheVariants as operand
use Rattle.isa.specs.declared.inst.AluOp.TheVariants as ops
use Rattle.isa.specs.declared.inst.Inst.TheVariants as inst
use Rattle.corestep.specs.declared.onward.Turning.{Turning}
use Rattle.corestep.specs.Core.{State}
use Rattle.corerun.specs.Code.{Code}
use Rattle.helpers.specs.Bodies.{divided, register, whole, unaimed, turns}
use Rattle.helpers.specs.Runs.{StandsAt, StepsTo, RunsTo, here, on}
use Rattle.helpers.proofs.Steps as steps
use Rattle.helpers.proofs.Steps.{Sized, Here, at, first_here, loop, behind_turn, inside, turned, straight}
use Rattle.helpers.proofs.Calls.{then_runs}
use Rattle.helpers.proofs.Turns.{Divides, begins, not_taken, taken, at_least, bit_is_new, left_fits, quotient_fits, quotient_is, rest_is}

module _ (code : Code) (p : ℕ) (stands : StandsAt code p divided) (A d : ℕ) (A_fits : A < 2 ^ 32) (d_fits : d < 2 ^ 32)
    (front back ram x19 : List ℕ) (size : length front ≡ 56) (size19 : length x19 ≡ 4) where
  abbrev le : ℕ → List ℕ
  le n = little_bytes 4 n

  abbrev core : ℕ → Option Turning → List (List ℕ) → State
  core q t v = steps.core code front back ram size q t v

  -- what is left in R14, the quotient so far in R16, the bit's number in R17, and R18
  abbrev regs : ℕ → ℕ → ℕ → List ℕ → List (List ℕ)
  regs r m k x = le r ∷ le d ∷ le m ∷ le k ∷ x ∷ x19 ∷ []

  sized : (a x16 x17 x : List ℕ) → length a ≡ 4 → length x16 ≡ 4 → length x17 ≡ 4 → length x ≡ 4
      → Sized (a ∷ le d ∷ x16 ∷ x17 ∷ x ∷ x19 ∷ [])
  sized a x16 x17 x g h i j = record { count = refl; fours = (g, (refl, (h, (i, (j, (size19, tt)))))) }

  whole_regs : (r m k : ℕ) (x : List ℕ) → length x ≡ 4 → Sized (regs r m k x)
  whole_regs r m k x long = sized (le r) (le m) (le k) x refl refl refl long

  abbrev Holds : List (List ℕ) → ℕ → ℕ → Type 0
  Holds v k n = steps.Is code front back ram size v k n

  r14 : (r m k : ℕ) (x : List ℕ) → r < 2 ^ 32 → Holds (regs r m k x) 0 r
  r14 r m k x fits = record { holds = refl; fits = fits }

  r15 : (r m k : ℕ) (x : List ℕ) → Holds (regs r m k x) 1 d
  r15 r m k x = record { holds = refl; fits = d_fits }

  r16 : (r m k : ℕ) (x : List ℕ) → m < 2 ^ 32 → Holds (regs r m k x) 2 m
  r16 r m k x fits = record { holds = refl; fits = fits }

  r17 : (r m k : ℕ) (x : List ℕ) → k < 2 ^ 32 → Holds (regs r m k x) 3 k
  r17 r m k x fits = record { holds = refl; fits = fits }

  r18 : (r m k n : ℕ) → n < 2 ^ 32 → Holds (regs r m k (le n)) 4 n
  r18 r m k n fits = record { holds = refl; fits = fits }

  abbrev first : ℕ
  first = p + 3

  abbrev end : ℕ
  end = p + 12

  abbrev in_loop : ℕ → ℕ → List (List ℕ) → State
  in_loop i k v = core (p + i) (loop first end k) v

  abbrev behind : ℕ → List (List ℕ) → State
  behind k v = core (behind_turn first end k).pc (behind_turn first end k).turning v

  -- ---- a turn, for the bit of number k

  low : (k : ℕ) → k < 32 → k % 32 ≡ k
  low k h = omega arith

  counts_down : (k r m : ℕ) (x : List ℕ) → k < 32 → length x ≡ 4 → StepsTo code (in_loop 3 k (regs r m (suc k) x)) (in_loop 4 k (regs r m
      k x))
  counts_down k r m x h long =
      steps.alu code front back ram size (p + 3) (p + 4) (loop first end k) (loop first end k) (regs r m (suc k) x) ops.Sub 3 3
      (operand.Imm 1)
      (suc k) 1 k None (at code p divided stands 3 _ tt refl refl refl) (whole_regs r m (suc k) x long) tt tt
      (inside first end k (p + 3 + 1) (p + 4) (omega arith) (omega arith) (omega arith)) (r17 r m (suc k) x (omega arith))
      (steps.imm code front back ram size (regs r m (suc k) x) 1) (omega arith)

  shifts : (k r m : ℕ) (x : List ℕ) → k < 32 → length x ≡ 4 → r < 2 ^ 32
      → StepsTo code (in_loop 4 k (regs r m k x)) (in_loop 5 k (regs r m k (le (r / 2 ^ k))))
  shifts k r m x h long fits =
      steps.alu code front back ram size (p + 4) (p + 5) (loop first end k) (loop first end k) (regs r m k x) ops.Lsr 4 0 (register 17)
      r k (r / 2 ^ k) None (at code p divided stands 4 _ tt refl refl refl) (whole_regs r m k x long) tt tt
      (inside first end k (p + 4 + 1) (p + 5) (omega arith) (omega arith) (omega arith)) (r14 r m k x fits)
      (steps.reg code front back ram size (regs r m k x) 3 k (whole_regs r m k x long) tt (r17 r m k x (omega arith)))
      (ap (λ (i : ℕ). r / 2 ^ i) (low k h))

  too_small : (k r m t : ℕ) → k < 32 → t < 2 ^ 32 → leb d t ≡ false
      → StepsTo code (in_loop 5 k (regs r m k (le t))) (in_loop 6 k (regs r m k (le t)))
  too_small k r m t h fits told =
      steps.branch_on code front back ram size (p + 5) (p + 6) (loop first end k) (loop first end k) (regs r m k (le t)) conditions.Le
      unaimed 4
      (register 15) t d (Some (p + 9)) (at code p divided stands 5 _ tt refl refl refl) (whole_regs r m k (le t) refl) tt
      (inside first end k (p + 5 + 1) (p + 6) (omega arith) (omega arith) (omega arith)) (r18 r m k t fits)
      (steps.reg code front back ram size (regs r m k (le t)) 1 d (whole_regs r m k (le t) refl) tt (r15 r m k (le t))) told

  has : (k r m t : ℕ) → k < 32 → t < 2 ^ 32 → leb d t ≡ true
      → StepsTo code (in_loop 5 k (regs r m k (le t))) (in_loop 9 k (regs r m k (le t)))
  has k r m t h fits told =
      steps.branch_to code front back ram size (p + 5) (p + 9) (p + 9) (loop first end k) (loop first end k) (regs r m k (le t))
      conditions.Le
      unaimed 4
      (register 15) t d (at code p divided stands 5 _ tt refl refl refl) (whole_regs r m k (le t) refl) tt
      (inside first end k (p + 9) (p + 9) refl (omega arith) (omega arith)) (r18 r m k t fits)
      (steps.reg code front back ram size (regs r m k (le t)) 1 d (whole_regs r m k (le t) refl) tt (r15 r m k (le t))) told

  waits : (k r m t : ℕ) → StepsTo code (in_loop 6 k (regs r m k (le t))) (in_loop 7 k (regs r m k (le 0)))
  waits k r m t =
      steps.ldi code front back ram size (p + 6) (p + 7) (loop first end k) (loop first end k) (regs r m k (le t)) 4 0 None
      (at code p divided stands 6 _ tt refl refl refl) (whole_regs r m k (le t) refl) tt
      (inside first end k (p + 6 + 1) (p + 7) (omega arith) (omega arith) (omega arith))

  waits_again : (k r m : ℕ) → StepsTo code (in_loop 7 k (regs r m k (le 0))) (in_loop 8 k (regs r m k (le 0)))
  waits_again k r m =
      steps.ldi code front back ram size (p + 7) (p + 8) (loop first end k) (loop first end k) (regs r m k (le 0)) 4 0 None
      (at code p divided stands 7 _ tt refl refl refl) (whole_regs r m k (le 0) refl) tt
      (inside first end k (p + 7 + 1) (p + 8) (omega arith) (omega arith) (omega arith))

  skips : (k r m : ℕ) → StepsTo code (in_loop 8 k (regs r m k (le 0))) (behind k (regs r m k (le 0)))
  skips k r m =
      steps.skip code front back ram size (p + 8) (behind_turn first end k).pc end (loop first end k) (behind_turn first end k).turning
      (regs r m k (le 0)) unaimed (at code p divided stands 8 _ tt refl refl refl) (turned first end k end refl)

  aligns : (k r m t n : ℕ) → k < 32 → d * 2 ^ k ≡ n → n < 2 ^ 32
      → StepsTo code (in_loop 9 k (regs r m k (le t))) (in_loop 10 k (regs r m k (le n)))
  aligns k r m t n h is fits =
      steps.alu code front back ram size (p + 9) (p + 10) (loop first end k) (loop first end k) (regs r m k (le t)) ops.Lsl 4 1 (register
      17)
      d k n None (at code p divided stands 9 _ tt refl refl refl) (whole_regs r m k (le t) refl) tt tt
      (inside first end k (p + 9 + 1) (p + 10) (omega arith) (omega arith) (omega arith)) (r15 r m k (le t))
      (steps.reg code front back ram size (regs r m k (le t)) 3 k (whole_regs r m k (le t) refl) tt (r17 r m k (le t) (omega arith)))
      (ap (λ (i : ℕ). d * 2 ^ i % 2 ^ 32) (low k h) ∙ ap (λ (i : ℕ). i % 2 ^ 32) is ∙ omega arith)

  takes : (k r m n : ℕ) → r < 2 ^ 32 → n ≤ r → StepsTo code (in_loop 10 k (regs r m k (le n))) (in_loop 11 k (regs (r - n) m k (le n)))
  takes k r m n fits less =
      steps.alu code front back ram size (p + 10) (p + 11) (loop first end k) (loop first end k) (regs r m k (le n)) ops.Sub 0 0 (register
      18)
      r n (r - n) None (at code p divided stands 10 _ tt refl refl refl) (whole_regs r m k (le n) refl) tt tt
      (inside first end k (p + 10 + 1) (p + 11) (omega arith) (omega arith) (omega arith)) (r14 r m k (le n) fits)
      (steps.reg code front back ram size (regs r m k (le n)) 4 n (whole_regs r m k (le n) refl) tt (r18 r m k n (omega arith)))
      (omega arith)

  sets : (k r m n : ℕ) → k < 32 → m < 2 ^ 32 → bit_or m (2 ^ k) ≡ m + 2 ^ k
      → StepsTo code (in_loop 11 k (regs r m k (le n))) (behind k (regs r (m + 2 ^ k) k (le n)))
  sets k r m n h fits new =
      steps.alu code front back ram size (p + 11) (behind_turn first end k).pc (loop first end k) (behind_turn first end k).turning
      (regs r m k (le n)) ops.Set 2 2 (register 17)
      m k (m + 2 ^ k) None (at code p divided stands 11 _ tt refl refl refl) (whole_regs r m k (le n) refl) tt tt
      (turned first end k (p + 11 + 1) (omega arith)) (r16 r m k (le n) fits)
      (steps.reg code front back ram size (regs r m k (le n)) 3 k (whole_regs r m k (le n) refl) tt (r17 r m k (le n) (omega arith)))
      (ap (λ (i : ℕ). bit_or m (2 ^ i)) (low k h) ∙ new)

  -- the state behind some steps, at some place, with so many bits left
  record After (k count : ℕ) (s : State) (to : List (List ℕ) → State) : Type 0 where
    pub left : ℕ
    pub quotient : ℕ
    pub scratch : List ℕ
    pub scratch_size : length scratch ≡ 4
    pub divides : Divides A d k left quotient
    pub runs : RunsTo code count s (to (regs left quotient k scratch))

  turn_by : (k r m : ℕ) (x : List ℕ) → k < 32 → length x ≡ 4 → Divides A d (suc k) r m
      → ((leb d (r / 2 ^ k) ≡ true) × (d ≤ r / 2 ^ k)) ⊎ ((leb d (r / 2 ^ k) ≡ false) × (r / 2 ^ k < d))
      → After k 6 (in_loop 3 k (regs r m (suc k) x)) (behind k)
  turn_by k r m x h long is (inl more) =
      let r_fits : r < 2 ^ 32 = left_fits A d (suc k) r m is A_fits in
      let m_fits : m < 2 ^ 32 = quotient_fits A d (suc k) r m is A_fits in
      let t_fits : r / 2 ^ k < 2 ^ 32 = let least = shr_le r k in omega arith in
      let n : ℕ = d * 2 ^ k in
      let n_less : n ≤ r = at_least d k r more.1 in
      record {
        left = r - n;
        quotient = m + 2 ^ k;
        scratch = le n;
        scratch_size = refl;
        divides = taken A d k r m is more.1;
        runs = on 5 _ _ _ (counts_down k r m x h long) (on 4 _ _ _ (shifts k r m x h long r_fits)
            (on 3 _ _ _ (has k r m (r / 2 ^ k) h t_fits more.0) (on 2 _ _ _ (aligns k r m (r / 2 ^ k) n h refl (omega arith))
            (on 1 _ _ _ (takes k r m n r_fits n_less) (on 0 _ _ _ (sets k (r - n) m n h m_fits (bit_is_new A d k r m is))
            (here (behind k (regs (r - n) (m + 2 ^ k) k (le n)))))))));
      }
  turn_by k r m x h long is (inr less) =
      let r_fits : r < 2 ^ 32 = left_fits A d (suc k) r m is A_fits in
      let t_fits : r / 2 ^ k < 2 ^ 32 = let least = shr_le r k in omega arith in
      record {
        left = r;
        quotient = m;
        scratch = le 0;
        scratch_size = refl;
        divides = not_taken A d k r m is less.1;
        runs = on 5 _ _ _ (counts_down k r m x h long) (on 4 _ _ _ (shifts k r m x h long r_fits)
            (on 3 _ _ _ (too_small k r m (r / 2 ^ k) h t_fits less.0) (on 2 _ _ _ (waits k r m (r / 2 ^ k))
            (on 1 _ _ _ (waits_again k r m) (on 0 _ _ _ (skips k r m) (here (behind k (regs r m k (le 0)))))))));
      }

  turn : (k r m : ℕ) (x : List ℕ) → k < 32 → length x ≡ 4 → Divides A d (suc k) r m → After k 6 (in_loop 3 k (regs r m (suc k) x)) (behind
      k)
  turn k r m x h long is = turn_by k r m x h long is (leb_tells d (r / 2 ^ k))

  all_turns : (k r m : ℕ) (x : List ℕ) → k < 32 → length x ≡ 4 → Divides A d (suc k) r m
      → After 0 (6 * suc k) (in_loop 3 k (regs r m (suc k) x)) (core end None)
  all_turns zero r m x h long is = let one = turn 0 r m x h long is in record {
    left = one.left;
    quotient = one.quotient;
    scratch = one.scratch;
    scratch_size = one.scratch_size;
    divides = one.divides;
    runs = one.runs;
  }
  all_turns (suc k) r m x h long is =
      let one = turn (suc k) r m x h long is in
      let rest = all_turns k one.left one.quotient one.scratch (omega arith) one.scratch_size one.divides in
      record {
        left = rest.left;
        quotient = rest.quotient;
        scratch = rest.scratch;
        scratch_size = rest.scratch_size;
        divides = rest.divides;
        runs = then_runs code 6 (6 * suc k) (6 * suc (suc k)) _ _ _ (omega arith) one.runs rest.runs;
      }

  -- ---- the whole

  starts : (x16 x17 x : List ℕ) → length x16 ≡ 4 → length x17 ≡ 4 → length x ≡ 4
      → RunsTo code 3 (core p None (le A ∷ le d ∷ x16 ∷ x17 ∷ x ∷ x19 ∷ [])) (in_loop 3 31 (regs A 0 32 x))
  starts x16 x17 x h i j =
      on 2 _ _ _ (steps.ldi code front back ram size p (p + 1) None None (le A ∷ le d ∷ x16 ∷ x17 ∷ x ∷ x19 ∷ []) 2 0 None
      (first_here code p (inst.Ldi (whole (14 + 2)) 0) None (at code p divided stands 0 _ tt refl refl refl))
      (sized (le A) x16 x17 x refl h i j) tt (straight (p + 1) (p + 1) refl))
      (on 1 _ _ _ (steps.ldi code front back ram size (p + 1) (p + 2) None None (le A ∷ le d ∷ le 0 ∷ x17 ∷ x ∷ x19 ∷ []) 3 32 None
      (at code p divided stands 1 _ tt refl refl refl) (sized (le A) (le 0) x17 x refl refl i j) tt (straight (p + 1 + 1) (p + 2) (omega
      arith)))
      (on 0 _ _ _ (steps.begin_loop code front back ram size (p + 2) first end None (regs A 0 32 x) turns
      (at code p divided stands 2 _ tt refl refl refl) (omega arith))
      (here (in_loop 3 31 (regs A 0 32 x)))))

  -- R14 is what is left over and R16 is the quotient
  pub record Divided (s : State) (q : ℕ) : Type 0 where
    pub scratch : List ℕ
    pub scratch_size : length scratch ≡ 4
    pub runs : RunsTo code 195 s (core q None (regs (rem_u A d) (quot_u A d) 0 scratch))

  pub divides : (q : ℕ) (x16 x17 x : List ℕ) → p + 12 ≡ q → length x16 ≡ 4 → length x17 ≡ 4 → length x ≡ 4
      → Divided (core p None (le A ∷ le d ∷ x16 ∷ x17 ∷ x ∷ x19 ∷ [])) q
  divides q x16 x17 x is h i j =
      let all = all_turns 31 A 0 x (omega arith) j (begins A d A_fits) in
      let runs : RunsTo code 195 (core p None (le A ∷ le d ∷ x16 ∷ x17 ∷ x ∷ x19 ∷ [])) (core end None (regs all.left all.quotient 0
      all.scratch)) =
      then_runs code 3 192 195 _ _ _ refl (starts x16 x17 x h i j) all.runs in
      record {
        scratch = all.scratch;
        scratch_size = all.scratch_size;
        runs = subst (λ (e : ℕ). RunsTo code 195 (core p None (le A ∷ le d ∷ x16 ∷ x17 ∷ x ∷ x19 ∷ []))
            (core e None (regs (rem_u A d) (quot_u A d) 0 all.scratch))) is
            (subst (λ (r : ℕ). RunsTo code 195 (core p None (le A ∷ le d ∷ x16 ∷ x17 ∷ x ∷ x19 ∷ []))
            (core end None (regs r (quot_u A d) 0 all.scratch))) (rest_is A d all.left all.quotient all.divides)
            (subst (λ (m : ℕ). RunsTo code 195 (core p None (le A ∷ le d ∷ x16 ∷ x17 ∷ x ∷ x19 ∷ []))
            (core end None (regs all.left m 0 all.scratch))) (quotient_is A d all.left all.quotient all.divides) runs));
      }
