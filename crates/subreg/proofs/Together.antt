-- Spans of registers that are all needed at the same places.
use Rattle.std.proofs.Common.{◌≡◌, ℕ, ◌+◌, ◌<◌, List, [], ◌∷◌, ◌++◌, length, length-append, refl, sym, inl, inr, ◌∙◌, ap, arith}
use Rattle.std.specs.Prelude.{slice_get, Some}
use Rattle.std.proofs.lemmas.Bool.{cases_lt}
use Rattle.std.proofs.lemmas.Option.{same_Some, slice_get_within}
use Rattle.prunum.specs.declared.width.Width.{Width}
use Rattle.subreg.specs.declared.home.Interval.{Interval}
use Rattle.subreg.specs.Listed.{AreSpans}
use Rattle.subreg.proofs.Elements.{get-push_front, get-push_last}

-- register k is needed from place 0 to place 9
abbrev pub span_of : ℕ → Interval
span_of k = record { vreg = record { 0 = k }; from = 0; to = 9 }

pub record AreTogether (spans : List Interval) (n : ℕ) : Type 0 where
  pub all : length spans ≡ n
  pub each : (k : ℕ) (s : Interval) → slice_get spans k ≡ Some s → s ≡ span_of k

pub together-none : AreTogether [] 0
together-none = record { all = refl; each = λ k s at. absurd (cc) }

pub together-more : (spans : List Interval) (n : ℕ) → AreTogether spans n → AreTogether (spans ++ span_of n ∷ []) (n + 1)
together-more spans n before =
    record {
      all = length-append spans (span_of n ∷ []) ∙ ap (λ m. m + 1) before.all;
      each = λ k s at.
          elim (cases_lt k (length spans)) [
            | inl front ↦ before.each k s (sym (get-push_front spans k (span_of n) front) ∙ at)
            | inr behind ↦
                let short : k < length spans + 1 = omega (
                  arith,
                  slice_get_within (spans ++ span_of n ∷ []) k s at,
                  length-append spans (span_of n ∷ []),
                ) in
                let here : k ≡ length spans = omega (arith, behind, short) in
                let is : span_of n ≡ s = same_Some (span_of n) s
                (sym (get-push_last spans (span_of n)) ∙ ap (slice_get (spans ++ span_of n ∷ [])) (sym here) ∙ at) in
                sym is ∙ ap span_of (sym (here ∙ before.all))
          ];
    }

module _ (spans : List Interval) (n : ℕ) (are : AreTogether spans n) where
  number-is : (k : ℕ) (s : Interval) → slice_get spans k ≡ Some s → s.vreg.0 ≡ k
  number-is k s at = ap (λ (y : Interval). y.vreg.0) (are.each k s at)

  from-is : (k : ℕ) (s : Interval) → slice_get spans k ≡ Some s → s.from ≡ 0
  from-is k s at = ap (λ (y : Interval). y.from) (are.each k s at)

  to-is : (k : ℕ) (s : Interval) → slice_get spans k ≡ Some s → s.to ≡ 9
  to-is k s at = ap (λ (y : Interval). y.to) (are.each k s at)

  pub together-spans : (registers : List Width) → n ≡ length registers → n < 100 → AreSpans registers spans
  together-spans registers e few =
      record {
        few = omega (arith, are.all, few);
        named = λ k s at. omega (arith, number-is k s at, slice_get_within spans k s at, are.all, e);
        forward = λ k s at. omega (arith, from-is k s at);
        small = λ k s at. omega (arith, to-is k s at);
        ordered = λ j k s t le at-j at-k. omega (arith, from-is j s at-j);
        once = λ j k s t at-j at-k same. omega (arith, same, number-is j s at-j, number-is k t at-k);
      }
