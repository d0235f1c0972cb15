-- Once all spans have their homes, the homes are an allocation.
use Rattle.std.proofs.Common.{◌≡◌, ◌≢◌, ℕ, ◌+◌, ◌%◌, ◌<◌, inl, inr, List, length, get_or, sym, ◌∙◌, ap, subst, arith}
use Rattle.std.specs.Prelude.{slice_get, Some}
use Rattle.std.proofs.lemmas.Bool.{cases_lt}
use Rattle.std.proofs.lemmas.Option.{same_Some, slice_get-get_or, slice_get_within}
use Rattle.prunum.specs.declared.width.Width.{Width}
use Rattle.prunum.specs.declared.width.Width.TheVariants.{B1}
use Rattle.isa.specs.declared.field.Field.{Field}
use Rattle.midcode.specs.declared.register.VReg.{VReg}
use Rattle.subreg.specs.declared.home.Home.{Home}
use Rattle.subreg.specs.declared.home.Home.TheVariants as home
use Rattle.subreg.specs.declared.home.Interval.{Interval}
use Rattle.subreg.specs.Allocation.{IsField, AreApart, Meet, IsTaken, TwentyOthers, IsCrowded, IsAllocation}
use Rattle.subreg.specs.Listed.{Listed}
use Rattle.subreg.proofs.Fields.{same_register, word_field, word_field-is}
use Rattle.subreg.proofs.Placed.{Placed, Holder, field_same}

-- ---- twenty others

module _ (HasSpan : VReg → ℕ → ℕ → Type 0) (homes : List Home) (v : VReg) (w : Width) (from : ℕ)
    (full : (g : Field) → IsField g w → IsTaken HasSpan homes from v g) where
  taken : (n : ℕ) → IsTaken HasSpan homes from v (word_field w n)
  taken n = full (word_field w n) (word_field-is w n)

  register-is : (n : ℕ) → (taken n).field.reg ≡ 5 + n % 21
  register-is n = same_register (taken n).field (word_field w n) (taken n).shares

  apart-others : (m n : ℕ) → m < n → n < 20 → (taken m).other.0 ≡ (taken n).other.0 → ⊥
  apart-others m n less few e =
      let one : Some (home.Field (taken m).field) ≡ Some (home.Field (taken n).field) =
      sym (taken m).lives ∙ ap (slice_get homes) e ∙ (taken n).lives in
      let same : (taken m).field ≡ (taken n).field =
      field_same (taken m).field (taken n).field (same_Some (home.Field (taken m).field) (home.Field (taken n).field) one) in
      let reg : (taken m).field.reg ≡ (taken n).field.reg = ap (λ (f : Field). f.reg) same in
      let sum : 5 + m % 21 ≡ 5 + n % 21 = sym (register-is m) ∙ reg ∙ register-is n in
      omega (arith, sum, less, few)

  pub twenty_others : TwentyOthers HasSpan from v
  twenty_others =
      record {
        other = λ n. (taken n).other;
        another = λ n few. (taken n).another;
        distinct = λ m n less few e. apart-others m n less few e;
        cover = λ n few. (taken n).needed;
      }

-- ---- all spans

apart_both : (g h : Home) → AreApart g h → AreApart h g
apart_both (home.Field f) (home.Field g) (inl a) = inr a
apart_both (home.Field f) (home.Field g) (inr a) = inl a
apart_both (home.Field f) (home.Slot n) a = tt
apart_both (home.Slot n) (home.Field f) a = tt
apart_both (home.Slot m) (home.Slot n) a = λ e. a (sym e)

field-no_slot : (f : Field) (n : ℕ) → home.Field f ≡ home.Slot n → ⊥
field-no_slot f n e = cc

module _ (registers : List Width) (spans : List Interval) (homes : List Home) (free_from : List ℕ) (slots : ℕ)
    (placed : Placed registers spans (length spans) homes free_from slots) where
  apart-all : (v w : VReg) (h k : Home) → v.0 ≢ w.0 → slice_get homes v.0 ≡ Some h → slice_get homes w.0 ≡ Some k
      → Meet (Listed spans) v w → AreApart h k
  apart-all v w h k ne at-h at-k meet =
      let s : Interval = record { vreg = v; from = meet.from; to = meet.to } in
      let t : Interval = record { vreg = w; from = meet.start; to = meet.end_ } in
      elim (cases_lt meet.first.0 meet.second.0) [
        | inl less ↦
            placed.apart meet.first.0 meet.second.0 s t h k meet.place less (slice_get_within spans meet.second.0 t meet.second.1)
            meet.first.1 meet.second.1 meet.in_first meet.in_second at-h at-k
        | inr more ↦ elim (cases_lt meet.second.0 meet.first.0) [
          | inl less ↦
              apart_both k h (placed.apart meet.second.0 meet.first.0 t s k h meet.place less
              (slice_get_within spans meet.first.0 s meet.first.1) meet.second.1 meet.first.1 meet.in_second meet.in_first at-k at-h)
          | inr same ↦
              let e : meet.first.0 ≡ meet.second.0 = omega (arith, more, same) in
              let one : s ≡ t = same_Some s t (sym meet.first.1 ∙ ap (slice_get spans) e ∙ meet.second.1) in
              absurd (ne (ap (λ (y : Interval). y.vreg.0) one))
        ]
      ]

  holder-takes : (v : VReg) (n place : ℕ) (g : Field) → slice_get homes v.0 ≡ Some (home.Slot n)
      → Holder spans (length spans) homes place g → IsTaken (Listed spans) homes place v g
  holder-takes v n place g slot k =
      record {
        other = k.span.vreg;
        another = λ e. absurd (field-no_slot k.field n (same_Some (home.Field k.field) (home.Slot n)
            (sym k.lives ∙ ap (slice_get homes) e ∙ slot)));
        field = k.field;
        lives = k.lives;
        needed = record { from = k.span.from; to = k.span.to; span = (k.number, k.listed); within = (k.started, k.needed) };
        shares = k.shares;
      }

  taken-all : (v : VReg) (n : ℕ) (w : Width) (from to : ℕ) (g : Field) → slice_get homes v.0 ≡ Some (home.Slot n)
      → slice_get registers v.0 ≡ Some w → Listed spans v from to → IsField g w → IsTaken (Listed spans) homes from v g
  taken-all v n w from to g slot wide span field =
      let s : Interval = record { vreg = v; from = from; to = to } in
      holder-takes v n from g slot (placed.crowded span.0 s n w g (slice_get_within spans span.0 s span.1) span.1 slot wide field)

  crowded-all : (v : VReg) (n : ℕ) → slice_get homes v.0 ≡ Some (home.Slot n) → IsCrowded (Listed spans) registers homes v
  crowded-all v n slot =
      let below : v.0 < length registers = omega (arith, slice_get_within homes v.0 (home.Slot n) slot, placed.all) in
      let wide : slice_get registers v.0 ≡ Some (get_or registers v.0 B1) = slice_get-get_or registers v.0 B1 below in
      record {
        full = λ x from to g is span field. taken-all v n x from to g slot is span field;
        others = λ from to span.
            twenty_others (Listed spans) homes v (get_or registers v.0 B1) from
            (λ g field. taken-all v n (get_or registers v.0 B1) from to g slot wide span field);
      }

  pub placed-all : IsAllocation (Listed spans) registers homes slots
  placed-all = record { fits = record { all = placed.all; well = placed.well; apart = apart-all }; slots = crowded-all }

pub placed-done : (registers : List Width) (spans : List Interval) (i : ℕ) (homes : List Home) (free_from : List ℕ) (slots : ℕ)
    → i ≡ length spans → Placed registers spans i homes free_from slots → IsAllocation (Listed spans) registers homes slots
placed-done registers spans i homes free_from slots e placed =
    let P : ℕ → Type 0 = λ n. Placed registers spans n homes free_from slots in
    placed-all registers spans homes free_from slots (subst P e placed)
