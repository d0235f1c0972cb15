-- The runs of division of two's complement.
use Rattle.std.proofs.Common.{◌≡◌, ℕ, ◌+◌, ◌^◌, ◌<◌, List, [], ◌∷◌, ◌++◌, length, refl, ap, subst, arith, None}
use Rattle.prunum.specs.Bytes.{little_bytes}
use Rattle.prunum.specs.Number.{quot_u, rem_u, quot_s, rem_s}
use Rattle.isa.specs.declared.field.Operand.TheVariants as operand
use Rattle.isa.specs.declared.inst.AluOp.TheVariants as ops
use Rattle.isa.specs.declared.inst.Inst.TheVariants as inst
use Rattle.isa.specs.declared.program.Item.{Item}
use Rattle.corestep.specs.Core.{State}
use Rattle.corerun.specs.Code.{Code}
use Rattle.corerun.specs.Items.{placed}
use Rattle.helpers.specs.Bodies.{calculated, whole, negated, magnitudes, divided, divided_signed, rest_signed, quotient_sign}
use Rattle.helpers.specs.Bodies.{quotient_moved, back}
use Rattle.helpers.specs.Runs.{StandsAt, StepsTo, RunsTo, here, on, Computes}
use Rattle.helpers.proofs.Steps as steps
use Rattle.helpers.proofs.Steps.{Sized, at, first_here, straight}
use Rattle.helpers.proofs.Calls.{then_runs, called, Left}
use Rattle.helpers.proofs.Dividing.{divides}
use Rattle.helpers.proofs.Pieces.{part}
use Rattle.helpers.proofs.Signing as signing
use Rattle.helpers.proofs.Signs.{signed_by, sign_of_quotient, signed_fits, quotient_is_signed, rest_is_signed}
use Rattle.helpers.proofs.Turns.{quot_u_fits, rem_u_fits}

module _ (code : Code) (base a b : ℕ) (a_fits : a < 2 ^ 32) (b_fits : b < 2 ^ 32)
    (front behind ram x16 x17 x18 x19 : List ℕ) (size : length front ≡ 56)
    (h : length x16 ≡ 4) (i : length x17 ≡ 4) (j : length x18 ≡ 4) (k : length x19 ≡ 4) where
  abbrev le : ℕ → List ℕ
  le n = little_bytes 4 n

  abbrev core : ℕ → List (List ℕ) → State
  core p v = steps.core code front behind ram size p None v

  abbrev Negates : ℕ → ℕ → ℕ → ℕ → ℕ → ℕ → Type 0
  Negates p skips turns q k j = signing.Negates code front behind ram size p skips turns q k j

  -- the distances from 0
  abbrev m : ℕ
  m = signed_by a a

  abbrev n : ℕ
  n = signed_by b b

  m_fits : m < 2 ^ 32
  m_fits = signed_fits a a a_fits

  n_fits : n < 2 ^ 32
  n_fits = signed_fits b b b_fits

  -- R14 and R15 with numbers, R16 to R18 as they were, and R19 with a sign
  abbrev regs : ℕ → ℕ → ℕ → List (List ℕ)
  regs x y s = le x ∷ le y ∷ x16 ∷ x17 ∷ x18 ∷ le s ∷ []

  sized : (x y s : ℕ) → Sized (regs x y s)
  sized x y s = record { count = refl; fours = (refl, (refl, (h, (i, (j, (refl, tt)))))) }

  both_magnitudes : (p p1 p2 q q1 q2 r s : ℕ) → Negates p p1 p2 q 0 0 → Negates q q1 q2 r 1 1
      → RunsTo code 4 (core p (regs a b s)) (core r (regs m n s))
  both_magnitudes p p1 p2 q q1 q2 r s first second =
      then_runs code 2 2 4 _ _ _ refl
      (signing.negation code front behind ram size p p1 p2 q 0 0 a a (regs a b s) first (sized a b s) tt tt
      (record { holds = refl; fits = a_fits }) (record { holds = refl; fits = a_fits }))
      (signing.negation code front behind ram size q q1 q2 r 1 1 b b (regs m b s) second (sized m b s) tt tt
      (record { holds = refl; fits = b_fits }) (record { holds = refl; fits = b_fits }))

  abbrev after : ℕ → List ℕ → ℕ → List (List ℕ)
  after x scratch s = le x ∷ le n ∷ le (quot_u m n) ∷ le 0 ∷ scratch ∷ le s ∷ []

  after_sized : (x s : ℕ) (scratch : List ℕ) → length scratch ≡ 4 → Sized (after x scratch s)
  after_sized x s scratch l = record { count = refl; fours = (refl, (refl, (refl, (refl, (l, (refl, tt)))))) }

  -- ---- what is left over

  copies : StandsAt code base rest_signed → StepsTo code (core base (le a ∷ le b ∷ x16 ∷ x17 ∷ x18 ∷ x19 ∷ [])) (core (base + 1) (regs a b
      a))
  copies stands =
      let v : List (List ℕ) = le a ∷ le b ∷ x16 ∷ x17 ∷ x18 ∷ x19 ∷ [] in
      steps.alu code front behind ram size base (base + 1) None None v ops.Add 5 0 (operand.Imm 0) a 0 a None
      (first_here code base (inst.Alu ops.Add (whole (14 + 5)) (whole (14 + 0)) (operand.Imm 0)) None
      (at code base rest_signed stands 0 _ tt refl refl refl))
      (record { count = refl; fours = (refl, (refl, (h, (i, (j, (k, tt)))))) }) tt tt (straight (base + 1) (base + 1) refl)
      (record { holds = refl; fits = a_fits }) (steps.imm code front behind ram size v 0) (omega arith)

  rest : StandsAt code base rest_signed → Left code base a b (rem_s a b) 203 front behind ram x16 x17 x18 x19 size
  rest stands =
      let piece : StandsAt code (base + 7) divided =
      part code base 7 (base + 7) rest_signed divided (placed [] (calculated ops.Add 19 14 (operand.Imm 0) ∷ magnitudes))
      (placed [] (negated 14 19 8 9 ++ back)) stands refl refl refl (
        refl,
        (
          refl,
          (
            refl,
            (
              refl,
              (
                refl,
                (
                  refl,
                  (
                    refl,
                    (
                      refl,
                      (
                        refl,
                        (
                          refl,
                          (refl, (refl, tt)),
                        ),
                      ),
                    ),
                  ),
                ),
              ),
            ),
          ),
        ),
      ) in
      let did = divides code (base + 7) piece m n m_fits n_fits front behind ram (le a) size refl (base + 19) x16 x17 x18 (omega arith) h
      i j in
      let r : ℕ = signed_by a (rem_u m n) in
      record {
        after = after r did.scratch a;
        sized = after_sized r a did.scratch did.scratch_size;
        result = ap (little_bytes 4) (rest_is_signed a b a_fits b_fits);
        runs = on 202 _ _ _ (copies stands) (then_runs code 4 198 202 _ _ _ refl
            (both_magnitudes (base + 1) (base + 2) (base + 3) (base + 4) (base + 5) (base + 6) (base + 7) a
            (record {
              tests = at code base rest_signed stands 1 _ tt refl refl refl;
              goes_by = at code base rest_signed stands 2 _ tt refl refl refl;
              negates = at code base rest_signed stands 3 _ tt refl refl refl;
              next = omega arith;
              last = omega arith;
            })
            (record {
              tests = at code base rest_signed stands 4 _ tt refl refl refl;
              goes_by = at code base rest_signed stands 5 _ tt refl refl refl;
              negates = at code base rest_signed stands 6 _ tt refl refl refl;
              next = omega arith;
              last = omega arith;
            }))
            (then_runs code 195 3 198 _ _ _ refl did.runs (then_runs code 2 1 3 _ _ _ refl
            (signing.negation code front behind ram size (base + 19) (base + 20) (base + 21) (base + 22) 0 5 (rem_u m n) a
            (after (rem_u m n) did.scratch a)
            (record {
              tests = at code base rest_signed stands 19 _ tt refl refl refl;
              goes_by = at code base rest_signed stands 20 _ tt refl refl refl;
              negates = at code base rest_signed stands 21 _ tt refl refl refl;
              next = omega arith;
              last = omega arith;
            }) (after_sized (rem_u m n) a did.scratch did.scratch_size) tt tt
            (record { holds = refl; fits = rem_u_fits m n m_fits }) (record { holds = refl; fits = a_fits }))
            (on 0 _ _ _ (steps.return code front behind ram size (base + 22) (after r did.scratch a)
            (at code base rest_signed stands 22 _ tt refl refl refl)) (here _)))));
      }

  -- ---- the quotient

  abbrev s : ℕ
  s = sign_of_quotient a b

  quotient : StandsAt code base divided_signed → Left code base a b (quot_s a b) 206 front behind ram x16 x17 x18 x19 size
  quotient stands =
      let signs : StandsAt code base quotient_sign =
      part code base 0 base divided_signed quotient_sign [] (placed [] (magnitudes ++ (divided ++ (quotient_moved ∷ (negated 14 19 8 9 ++
      back)))))
      stands refl refl (omega arith) (refl, (refl, (refl, (refl, tt)))) in
      let piece : StandsAt code (base + 10) divided =
      part code base 10 (base + 10) divided_signed divided (placed [] (quotient_sign ++ magnitudes))
      (placed [] (quotient_moved ∷ (negated 14 19 8 9 ++ back))) stands refl refl refl (
        refl,
        (
          refl,
          (
            refl,
            (
              refl,
              (
                refl,
                (
                  refl,
                  (
                    refl,
                    (refl, (refl, (refl, (refl, (refl, tt))))),
                  ),
                ),
              ),
            ),
          ),
        ),
      ) in
      let s_fits : s < 2 ^ 32 = signing.sign_fits code front behind ram size base a b signs a_fits b_fits x16 x17 x18 h i j in
      let did = divides code (base + 10) piece m n m_fits n_fits front behind ram (le s) size refl (base + 22) x16 x17 x18 (omega arith) h
      i j in
      let q : ℕ = quot_u m n in
      let q_fits : q < 2 ^ 32 = quot_u_fits m n m_fits in
      let r : ℕ = signed_by s q in
      record {
        after = after r did.scratch s;
        sized = after_sized r s did.scratch did.scratch_size;
        result = ap (little_bytes 4) (quotient_is_signed a b a_fits b_fits);
        runs = then_runs code 3 203 206 _ _ _ refl
            (signing.sign code front behind ram size base a b signs a_fits b_fits x16 x17 x18 h i j x19 k)
            (then_runs code 4 199 203 _ _ _ refl
            (both_magnitudes (base + 4) (base + 5) (base + 6) (base + 7) (base + 8) (base + 9) (base + 10) s
            (record {
              tests = at code base divided_signed stands 4 _ tt refl refl refl;
              goes_by = at code base divided_signed stands 5 _ tt refl refl refl;
              negates = at code base divided_signed stands 6 _ tt refl refl refl;
              next = omega arith;
              last = omega arith;
            })
            (record {
              tests = at code base divided_signed stands 7 _ tt refl refl refl;
              goes_by = at code base divided_signed stands 8 _ tt refl refl refl;
              negates = at code base divided_signed stands 9 _ tt refl refl refl;
              next = omega arith;
              last = omega arith;
            }))
            (then_runs code 195 4 199 _ _ _ refl did.runs (on 3 _ _ _
            (steps.alu code front behind ram size (base + 22) (base + 23) None None (after (rem_u m n) did.scratch s) ops.Add 0 2
            (operand.Imm 0) q 0 q
            None (at code base divided_signed stands 22 _ tt refl refl refl) (after_sized (rem_u m n) s did.scratch did.scratch_size) tt tt
            (straight (base + 22 + 1) (base + 23) (omega arith)) (record { holds = refl; fits = q_fits })
            (steps.imm code front behind ram size (after (rem_u m n) did.scratch s) 0) (omega arith))
            (then_runs code 2 1 3 _ _ _ refl
            (signing.negation code front behind ram size (base + 23) (base + 24) (base + 25) (base + 26) 0 5 q s (after q did.scratch s)
            (record {
              tests = at code base divided_signed stands 23 _ tt refl refl refl;
              goes_by = at code base divided_signed stands 24 _ tt refl refl refl;
              negates = at code base divided_signed stands 25 _ tt refl refl refl;
              next = omega arith;
              last = omega arith;
            }) (after_sized q s did.scratch did.scratch_size) tt tt
            (record { holds = refl; fits = q_fits }) (record { holds = refl; fits = s_fits }))
            (on 0 _ _ _ (steps.return code front behind ram size (base + 26) (after r did.scratch s)
            (at code base divided_signed stands 26 _ tt refl refl refl)) (here _))))));
      }

pub rems_computes : (items : List Item) → items ≡ rest_signed → Computes rem_s 203 items
rems_computes items is = record {
  call = λ code base a b s stands begins. called code base a b (rem_s a b) 203 s begins (λ front behind ram x16 x17 x18 x19 size h i j k.
      rest code base a b begins.first_fits begins.second_fits front behind ram x16 x17 x18 x19 size h i j k
      (subst (StandsAt code base) is stands));
}

pub divs_computes : (items : List Item) → items ≡ divided_signed → Computes quot_s 206 items
divs_computes items is = record {
  call = λ code base a b s stands begins. called code base a b (quot_s a b) 206 s begins (λ front behind ram x16 x17 x18 x19 size h i j k.
      quotient code base a b begins.first_fits begins.second_fits front behind ram x16 x17 x18 x19 size h i j k
      (subst (StandsAt code base) is stands));
}
