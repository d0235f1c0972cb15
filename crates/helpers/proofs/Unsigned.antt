-- The runs of division without sign.
use Rattle.std.proofs.Common.{◌≡◌, ℕ, ◌+◌, ◌^◌, ◌<◌, List, [], ◌∷◌, length, refl, subst, arith, None}
use Rattle.prunum.specs.Bytes.{little_bytes}
use Rattle.prunum.specs.Number.{quot_u, rem_u}
use Rattle.isa.specs.declared.field.Operand.TheVariants as operand
use Rattle.isa.specs.declared.inst.AluOp.TheVariants as ops
use Rattle.isa.specs.declared.program.Item.{Item}
use Rattle.corerun.specs.Code.{Code}
use Rattle.corerun.specs.Items.{placed}
use Rattle.helpers.specs.Bodies.{divided, divided_unsigned, rest_unsigned, back, quotient_moved}
use Rattle.helpers.specs.Runs.{StandsAt, here, on, Computes}
use Rattle.helpers.proofs.Steps as steps
use Rattle.helpers.proofs.Steps.{Sized, at, straight}
use Rattle.helpers.proofs.Calls.{then_runs, called, Left}
use Rattle.helpers.proofs.Dividing.{divides}
use Rattle.helpers.proofs.Pieces.{part}
use Rattle.helpers.proofs.Turns.{quot_u_fits}

module _ (code : Code) (base a b : ℕ) (a_fits : a < 2 ^ 32) (b_fits : b < 2 ^ 32)
    (front behind ram x16 x17 x18 x19 : List ℕ) (size : length front ≡ 56)
    (h : length x16 ≡ 4) (i : length x17 ≡ 4) (j : length x18 ≡ 4) (k : length x19 ≡ 4) where
  abbrev le : ℕ → List ℕ
  le n = little_bytes 4 n

  rest : StandsAt code base rest_unsigned → Left code base a b (rem_u a b) 196 front behind ram x16 x17 x18 x19 size
  rest stands =
      let piece : StandsAt code base divided =
      part code base 0 base rest_unsigned divided [] (placed [] back) stands refl refl (omega arith) (
        refl,
        (
          refl,
          (
            refl,
            (
              refl,
              (
                refl,
                (refl, (refl, (refl, (refl, (refl, (refl, (refl, tt))))))),
              ),
            ),
          ),
        ),
      ) in
      let did = divides code base piece a b a_fits b_fits front behind ram x19 size k (base + 12) x16 x17 x18 refl h i j in
      let after : List (List ℕ) = le (rem_u a b) ∷ le b ∷ le (quot_u a b) ∷ le 0 ∷ did.scratch ∷ x19 ∷ [] in
      record {
        after = after;
        sized = record { count = refl; fours = (refl, (refl, (refl, (refl, (did.scratch_size, (k, tt)))))) };
        result = refl;
        runs = then_runs code 195 1 196 _ _ _ refl did.runs (on 0 _ _ _
            (steps.return code front behind ram size (base + 12) after (at code base rest_unsigned stands 12 _ tt refl refl refl)) (here
            _));
      }

  quotient : StandsAt code base divided_unsigned → Left code base a b (quot_u a b) 197 front behind ram x16 x17 x18 x19 size
  quotient stands =
      let piece : StandsAt code base divided =
      part code base 0 base divided_unsigned divided [] (placed [] (quotient_moved ∷ back)) stands refl refl (omega arith) (
        refl,
        (
          refl,
          (refl, (refl, (refl, (refl, (refl, (refl, (refl, (refl, (refl, (refl, tt)))))))))),
        ),
      ) in
      let did = divides code base piece a b a_fits b_fits front behind ram x19 size k (base + 12) x16 x17 x18 refl h i j in
      let before : List (List ℕ) = le (rem_u a b) ∷ le b ∷ le (quot_u a b) ∷ le 0 ∷ did.scratch ∷ x19 ∷ [] in
      let after : List (List ℕ) = le (quot_u a b) ∷ le b ∷ le (quot_u a b) ∷ le 0 ∷ did.scratch ∷ x19 ∷ [] in
      let fits : quot_u a b < 2 ^ 32 = quot_u_fits a b a_fits in
      let sized : Sized before = record { count = refl; fours = (refl, (refl, (refl, (refl, (did.scratch_size, (k, tt)))))) } in
      record {
        after = after;
        sized = record { count = refl; fours = (refl, (refl, (refl, (refl, (did.scratch_size, (k, tt)))))) };
        result = refl;
        runs = then_runs code 195 2 197 _ _ _ refl did.runs (on 1 _ _ _
            (steps.alu code front behind ram size (base + 12) (base + 13) None None before ops.Add 0 2 (operand.Imm 0) (quot_u a b) 0
            (quot_u a b)
            None (at code base divided_unsigned stands 12 _ tt refl refl refl) sized tt tt (straight (base + 12 + 1) (base + 13) (omega
            arith))
            (record { holds = refl; fits = fits }) (steps.imm code front behind ram size before 0) (omega arith))
            (on 0 _ _ _ (steps.return code front behind ram size (base + 13) after
            (at code base divided_unsigned stands 13 _ tt refl refl refl)) (here _)));
      }

pub remu_computes : (items : List Item) → items ≡ rest_unsigned → Computes rem_u 196 items
remu_computes items is = record {
  call = λ code base a b s stands begins. called code base a b (rem_u a b) 196 s begins (λ front behind ram x16 x17 x18 x19 size h i j k.
      rest code base a b begins.first_fits begins.second_fits front behind ram x16 x17 x18 x19 size h i j k
      (subst (StandsAt code base) is stands));
}

pub divu_computes : (items : List Item) → items ≡ divided_unsigned → Computes quot_u 197 items
divu_computes items is = record {
  call = λ code base a b s stands begins. called code base a b (quot_u a b) 197 s begins (λ front behind ram x16 x17 x18 x19 size h i j k.
      quotient code base a b begins.first_fits begins.second_fits front behind ram x16 x17 x18 x19 size h i j k
      (subst (StandsAt code base) is stands));
}
