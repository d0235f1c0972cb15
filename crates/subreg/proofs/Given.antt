-- What a field or a slot does for the next span.
use Rattle.std.proofs.Common.{◌≡◌, ℕ, ◌+◌, ◌<◌, ◌≤◌, ◌⊎◌, inl, inr, List, get_or, refl, sym, ap, subst, arith}
use Rattle.std.specs.Prelude.{slice_get, slice_set, slice_index, Some}
use Rattle.std.proofs.lemmas.Option.{slice_get-get_or}
use Rattle.prunum.specs.declared.width.Width.{Width}
use Rattle.prunum.specs.declared.width.Width.TheVariants.{B1}
use Rattle.isa.specs.declared.field.Field.{Field}
use Rattle.callconv.specs.Places.{first_byte, field_size}
use Rattle.subreg.specs.declared.home.Home.{Home}
use Rattle.subreg.specs.declared.home.Home.TheVariants as home
use Rattle.subreg.specs.declared.home.Interval.{Interval}
use Rattle.subreg.specs.Span.{Within}
use Rattle.subreg.specs.Allocation.{IsField, AreApart}
use Rattle.subreg.specs.Listed.{AreSpans}
use Rattle.subreg.specs.Bytes.{IsGiven, IsGivenField, IsGivenSlot, slots_with}
use Rattle.subreg.proofs.Fields.{disjoint_or_shared, within_or_not}
use Rattle.subreg.proofs.Placed.{Placed, Holder, Takes, Gives, Step, field_same, placed-next}

module _ (registers : List Width) (spans : List Interval) (i : ℕ) (homes : List Home) (old new : List ℕ) (slots : ℕ) (s : Interval)
    (w : Width) (step : Step registers spans i homes old slots s w) where
  forward : s.from ≤ s.to
  forward = step.are.forward i s step.listed

  module _ (f : Field) (given : IsGivenField old new w s f) where
    grows-field : (byte : ℕ) → slice_index old byte ≤ slice_index new byte
    grows-field byte =
        elim (within_or_not byte (first_byte f) (field_size f)) [
          | inl own ↦ omega (arith, forward, given.free.each byte own.0 own.1, given.taken.own byte own.0 own.1)
          | inr other ↦ omega (arith, given.taken.others byte other)
        ]

    own-field : (g : Field) (byte : ℕ) → home.Field f ≡ home.Field g → first_byte g ≤ byte → byte < first_byte g + field_size g
        → s.to < slice_index new byte
    own-field g byte e from to =
        let P : Field → Type 0 = λ x. first_byte x ≤ byte in
        let Q : Field → Type 0 = λ x. byte < first_byte x + field_size x in
        let back : g ≡ f = sym (field_same f g e) in
        omega (arith, given.taken.own byte (subst P back from) (subst Q back to))

    from-field : (byte place : ℕ) → place < slice_index new byte → (place < slice_index old byte) ⊎ Takes (home.Field f) s byte place
    from-field byte place later =
        elim (within_or_not byte (first_byte f) (field_size f)) [
          | inl own ↦
              inr (record {
                field = f;
                is = refl;
                from = own.0;
                to = own.1;
                needed = omega (arith, later, given.taken.own byte own.0 own.1);
              })
          | inr other ↦ inl (omega (arith, later, given.taken.others byte other))
        ]

    apart-field : (j : ℕ) (t : Interval) (g : Home) (place : ℕ) → j < i → slice_get spans j ≡ Some t → Within t.from t.to place
        → Within s.from s.to place → slice_get homes t.vreg.0 ≡ Some g → AreApart g (home.Field f)
    apart-field j t (home.Slot n) place less at in-t in-s lives = tt
    apart-field j t (home.Field g) place less at in-t in-s lives =
        elim (disjoint_or_shared g f) [
          | inl apart ↦ apart
          | inr shared ↦
              absurd (omega (
                arith,
                step.placed.kept j t g shared.byte less at lives shared.from shared.to,
                given.free.each shared.byte shared.start shared.end_,
                in-t.1,
                in-s.0,
              ))
        ]

    pub gives-field : Gives registers spans i homes old new slots slots s w (home.Field f)
    gives-field =
        record {
          well = given.field;
          rises = omega arith;
          few = omega arith;
          grows = grows-field;
          own = own-field;
          from = from-field;
          apart = apart-field;
          crowded = λ n g e field. absurd (cc);
        }

  module _ (n : ℕ) (given : IsGivenSlot old new w s slots n) where
    same-bytes : (byte : ℕ) → slice_index new byte ≡ slice_index old byte
    same-bytes byte = ap (λ xs. slice_index xs byte) given.same

    apart-slot : (j : ℕ) (t : Interval) (g : Home) (place : ℕ) → j < i → slice_get spans j ≡ Some t → Within t.from t.to place
        → Within s.from s.to place → slice_get homes t.vreg.0 ≡ Some g → AreApart g (home.Slot n)
    apart-slot j t (home.Field g) place less at in-t in-s lives = tt
    apart-slot j t (home.Slot m) place less at in-t in-s lives =
        let below : m < slots = step.placed.well t.vreg (get_or registers t.vreg.0 B1) (home.Slot m)
        (slice_get-get_or registers t.vreg.0 B1 (step.are.named j t at)) lives in
        λ e. absurd (omega (arith, below, e, given.next))

    crowded-slot : (m : ℕ) (g : Field) → home.Slot n ≡ home.Slot m → IsField g w → Holder spans i homes s.from g
    crowded-slot m g e field =
        let held = given.full g field in
        let owner = step.placed.owned held.byte s.from held.later in
        record {
          number = owner.number;
          span = owner.span;
          field = owner.field;
          below = owner.below;
          listed = owner.listed;
          lives = owner.lives;
          started = step.are.ordered owner.number i owner.span s (omega (arith, owner.below)) owner.listed step.listed;
          needed = owner.needed;
          shares = λ apart. elim apart [
            | inl before ↦ absurd (omega (arith, before, owner.to, held.from))
            | inr behind ↦ absurd (omega (arith, behind, held.to, owner.from))
          ];
        }

    pub gives-slot : Gives registers spans i homes old new slots (slots + 1) s w (home.Slot n)
    gives-slot =
        record {
          well = omega (arith, given.next);
          rises = omega arith;
          few = omega arith;
          grows = λ byte. omega (arith, same-bytes byte);
          own = λ f byte e from to. absurd (cc);
          from = λ byte place later. inl (omega (arith, later, same-bytes byte));
          apart = apart-slot;
          crowded = crowded-slot;
        }

  pub placed-given : (h : Home) → IsGiven old new w s slots h
      → Placed registers spans (i + 1) (slice_set homes s.vreg.0 h) new (slots_with h slots)
  placed-given (home.Field f) given =
      placed-next registers spans i homes old new slots slots s w (home.Field f) step (gives-field f given)
  placed-given (home.Slot n) given =
      placed-next registers spans i homes old new slots (slots + 1) s w (home.Slot n) step (gives-slot n given)

-- one iteration, over what its calls answer
pub placed-span : (registers : List Width) (spans : List Interval) (i : ℕ) (homes : List Home) (old new : List ℕ) (slots more : ℕ)
    (s : Interval) (w : Width) (h : Home) → AreSpans registers spans → slice_get spans i ≡ Some s
    → slice_get registers s.vreg.0 ≡ Some w → Placed registers spans i homes old slots → IsGiven old new w s slots h
    → more ≡ slots_with h slots → Placed registers spans (i + 1) (slice_set homes s.vreg.0 h) new more
placed-span registers spans i homes old new slots more s w h are listed wide placed given e =
    let step : Step registers spans i homes old slots s w =
    record { are = are; listed = listed; wide = wide; placed = placed } in
    let P : ℕ → Type 0 = λ n. Placed registers spans (i + 1) (slice_set homes s.vreg.0 h) new n in
    subst P (sym e) (placed-given registers spans i homes old new slots s w step h given)
