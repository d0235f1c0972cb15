-- Homes for registers, one after another.
use Rattle.std.proofs.Common.{◌≡◌, ℕ, ◌+◌, ◌<◌, List, [], ◌∷◌, ◌++◌, length, refl, sym, inl, inr, ◌∙◌, ap, arith, subst}
use Rattle.std.proofs.Common.{length-append, get_or}
use Rattle.std.specs.Prelude.{slice_get, Some}
use Rattle.std.proofs.lemmas.Bool.{cases_lt}
use Rattle.std.proofs.lemmas.Option.{same_Some, slice_get-get_or, slice_get_within}
use Rattle.prunum.specs.Width.{byte_count}
use Rattle.prunum.specs.declared.width.Width.{Width}
use Rattle.prunum.specs.declared.width.Width.TheVariants.{B1, B2, B4}
use Rattle.isa.specs.declared.field.Field.{Field}
use Rattle.callconv.specs.Places.{IsAligned}
use Rattle.subreg.specs.declared.home.Home.{Home}
use Rattle.subreg.specs.declared.home.Home.TheVariants as home
use Rattle.subreg.specs.Allocation.{IsField}
use Rattle.subreg.specs.Scan.{IsFieldHome, AreFirstHomes}
use Rattle.subreg.proofs.Fields.{field_at-is}
use Rattle.subreg.proofs.Elements.{get-push_front, get-push_last}

-- so many homes are made
pub record Made (registers : List Width) (homes : List Home) (i : ℕ) : Type 0 where
  pub all : length homes ≡ i
  pub well : (n : ℕ) (w : Width) (h : Home) → slice_get registers n ≡ Some w → slice_get homes n ≡ Some h → IsFieldHome w h

pub r5-is : (f : Field) (w : Width) → IsAligned f (byte_count w) 20 → IsField f w
r5-is f B1 is = field_at-is f B1 20 is refl (omega arith) (omega arith)
r5-is f B2 is = field_at-is f B2 20 is refl (omega arith) (omega arith)
r5-is f B4 is = field_at-is f B4 20 is refl (omega arith) (omega arith)

pub made-none : (registers : List Width) → Made registers [] 0
made-none registers = record { all = refl; well = λ n w h wide lives. absurd (cc) }

pub made-more : (registers : List Width) (homes : List Home) (i : ℕ) (w : Width) (f : Field) → i < length registers
    → w ≡ get_or registers i B1 → IsAligned f (byte_count w) 20 → Made registers homes i
    → Made registers (homes ++ home.Field f ∷ []) (i + 1)
made-more registers homes i w f below is aligned made =
    let own : slice_get registers i ≡ Some w = slice_get-get_or registers i B1 below ∙ ap Some (sym is) in
    record {
      all = length-append homes (home.Field f ∷ []) ∙ ap (λ n. n + 1) made.all;
      well = λ n v h wide lives.
          elim (cases_lt n (length homes)) [
            | inl front ↦ made.well n v h wide (sym (get-push_front homes n (home.Field f) front) ∙ lives)
            | inr behind ↦
                let short : n < length homes + 1 = omega (
                  arith,
                  slice_get_within (homes ++ home.Field f ∷ []) n h lives,
                  length-append homes (home.Field f ∷ []),
                ) in
                let here : n ≡ length homes = omega (arith, behind, short) in
                let there : n ≡ i = here ∙ made.all in
                let h-is : home.Field f ≡ h = same_Some (home.Field f) h
                (sym (get-push_last homes (home.Field f)) ∙ ap (slice_get (homes ++ home.Field f ∷ [])) (sym here) ∙ lives) in
                let w-is : w ≡ v = same_Some w v (sym own ∙ ap (slice_get registers) (sym there) ∙ wide) in
                let P : Width → Type 0 = λ x. IsField f x in
                record { field = f; is = sym h-is; well = subst P w-is (r5-is f w aligned) }
          ];
    }

pub made-all : (registers : List Width) (homes : List Home) (i : ℕ) → i ≡ length registers → Made registers homes i
    → AreFirstHomes registers homes
made-all registers homes i e made = record { all = made.all ∙ e; well = made.well }
