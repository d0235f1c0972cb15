-- What stands in the other homes stays there.
use Rattle.std.proofs.Common.{◌≡◌, ◌≢◌, ℕ, ◌+◌, ◌-◌, ◌*◌, ◌%◌, ◌^◌, ◌<◌, ◌≤◌, Bool, true, false, List, [], ◌∷◌, length, refl, sym, ap, ◌∙◌}
use Rattle.std.proofs.Common.{arith, inl, inr, ◌⊎◌, subst, Option, Some, None}
use Rattle.std.specs.Prelude.{◌==◌, nat_lt, slice_get, if◌then◌else◌}
use Rattle.std.proofs.lemmas.Bool.{eqb-true, eqb-false, ltb-true, ltb-false}
use Rattle.prunum.specs.Bytes.{little_number}
use Rattle.prunum.specs.Number.{bit_count}
use Rattle.prunum.specs.Width.{byte_count}
use Rattle.prunum.specs.declared.width.Width.{Width}
use Rattle.prunum.specs.declared.width.Width.TheVariants.{B1, B2, B4}
use Rattle.isa.specs.declared.field.Field.{Field}
use Rattle.midcode.specs.Machine.{with_register}
use Rattle.callconv.specs.Places.{first_byte}
use Rattle.subreg.specs.declared.home.Home.{Home}
use Rattle.subreg.specs.declared.home.Home.TheVariants as home
use Rattle.subreg.specs.Allocation as allocation
use Rattle.subreg.specs.Allocation.{IsField, LivesWell}
use Rattle.fieldcode.specs.Homes.{slot_place, home_value, Holds, HomesHold, AreApart, IsApartFrom, Keeps, scratch}
use Rattle.fieldcode.specs.Homes.{register_ranges, ram_ranges}
use Rattle.fieldcode.specs.Values.{Place}
use Rattle.fieldcode.specs.Effects.{IsPut}
use Rattle.fieldcode.specs.Laws.{HomesLaw, AreOthers, are}
use Rattle.fieldcode.proofs.Slots.{few_bytes}

scratch_apart : (g : Field) (w : Width) → IsField g w → IsApartFrom (first_byte g) (byte_count w) scratch
scratch_apart g w lives =
    let from = lives.from in
    let to = lives.to in
    let size = lives.size in
    (inr (omega (arith, from)), (inr (omega (arith, from)), (inl (omega (arith, to, size)), tt)))

behind_slot : (slots m n : ℕ) (w k : Width) (l : Bool) → nat_lt n m ≡ l → n ≤ m → m ≢ n
    → AreApart (slot_place slots m) (byte_count w) (slot_place slots n) (byte_count k)
behind_slot slots m n w k true is least other =
    let more : n < m = ltb-true n m is in inr (omega (arith, more, few_bytes k))
behind_slot slots m n w k false is least other =
    let most : m ≤ n = ltb-false n m is in absurd (other (omega (arith, least, most)))

slots_apart : (slots m n : ℕ) (w k : Width) (l : Bool) → nat_lt m n ≡ l → m ≢ n
    → AreApart (slot_place slots m) (byte_count w) (slot_place slots n) (byte_count k)
slots_apart slots m n w k true is other =
    let less : m < n = ltb-true m n is in inl (omega (arith, less, few_bytes w))
slots_apart slots m n w k false is other = behind_slot slots m n w k (nat_lt n m) refl (ltb-false m n is) other

fields_apart : (g f : Field) (w k : Width) → IsField g w → IsField f k → allocation.AreDisjoint g f
    → AreApart (first_byte g) (byte_count w) (first_byte f) (byte_count k)
fields_apart g f w k lives lives_too apart =
    let size = lives.size in
    let size_too = lives_too.size in
    elim apart [ inl less ↦ inl (omega (arith, less, size)) | inr more ↦ inr (omega (arith, more, size_too)) ]

module _ (slots spills : ℕ) (w k : Width) (v : ℕ) (registers ram after left : List ℕ) where
  still_there : (h to : Home) → LivesWell spills w h → LivesWell spills k to → allocation.AreApart h to
      → Keeps (register_ranges k to) registers after → Keeps (ram_ranges slots k to) ram left → Holds slots w h registers ram v
      → Holds slots w h after left v
  still_there (home.Field g) (home.Field f) lives to_lives apart kept ram_kept holds = record {
    value = ap (little_number (byte_count w)) (kept.others (first_byte g) (byte_count w)
        (fields_apart g f w k lives to_lives apart, scratch_apart g w lives)) ∙ holds.value;
    fits = holds.fits;
  }
  still_there (home.Field g) (home.Slot n) lives to_lives apart kept ram_kept holds = record {
    value = ap (little_number (byte_count w)) (kept.others (first_byte g) (byte_count w) (scratch_apart g w lives)) ∙ holds.value;
    fits = holds.fits;
  }
  still_there (home.Slot m) (home.Field f) lives to_lives apart kept ram_kept holds = record {
    value = ap (little_number (byte_count w)) (ram_kept.others (slot_place slots m) (byte_count w) tt) ∙ holds.value;
    fits = holds.fits;
  }
  still_there (home.Slot m) (home.Slot n) lives to_lives apart kept ram_kept holds = record {
    value = ap (little_number (byte_count w)) (ram_kept.others (slot_place slots m) (byte_count w)
        (slots_apart slots m n w k (nat_lt m n) refl apart, tt)) ∙ holds.value;
    fits = holds.fits;
  }

-- ---- all registers

some_is : {A : Type 0} (a b : A) → ◌≡◌ {A = Option A} (Some a) (Some b) → a ≡ b
some_is a b same = cc

cut_fits : (w : Width) (n : ℕ) → n % 2 ^ bit_count w < 2 ^ bit_count w
cut_fits B1 n = omega arith
cut_fits B2 n = omega arith
cut_fits B4 n = omega arith

module _ (slots spills r n : ℕ) (widths : List Width) (homes : List Home) (live next : ℕ → Type 0) (values : ℕ → Option ℕ) (to : Place)
    (registers ram after left : List ℕ) (width : slice_get widths r ≡ Some to.width) (lives : slice_get homes r ≡ Some to.home)
    (well : LivesWell spills to.width to.home) (others : AreOthers spills widths homes live next r to)
    (hold : HomesHold slots widths homes live values registers ram) (put : IsPut slots to n registers ram after left) where
  abbrev made : ℕ
  made = n % 2 ^ bit_count to.width

  by_number : (q m : ℕ) (w : Width) (h : Home) (same : Bool) → (q == r) ≡ same → next q → slice_get widths q ≡ Some w
      → slice_get homes q ≡ Some h → (if same then Some made else values q) ≡ Some m → Holds slots w h after left m
  by_number q m w h true is alive has_width has_home has =
      let at : q ≡ r = eqb-true q r is in
      let w_is : to.width ≡ w = some_is to.width w (sym width ∙ ap (slice_get widths) (sym at) ∙ has_width) in
      let h_is : to.home ≡ h = some_is to.home h (sym lives ∙ ap (slice_get homes) (sym at) ∙ has_home) in
      let m_is : made ≡ m = some_is made m has in
      let first : Holds slots to.width to.home after left made = record { value = put.value; fits = cut_fits to.width n } in
      subst (λ (i : ℕ). Holds slots w h after left i) m_is
      (subst (λ (k : Home). Holds slots w k after left made) h_is
      (subst (λ (k : Width). Holds slots k to.home after left made) w_is first))
  by_number q m w h false is alive has_width has_home has =
      let other = others q w h alive (eqb-false q r is) has_width has_home in
      still_there slots spills w to.width m registers ram after left h to.home other.1 well other.2 put.kept put.ram_kept
      (hold.each q m w h other.0 has_width has_home has)

  pub all_hold : HomesHold slots widths homes next (with_register values r made) after left
  all_hold = record {
    each = λ q m w h alive has_width has_home has. by_number q m w h (q == r) refl alive has_width has_home has;
  }

pub homes_law : HomesLaw
homes_law slots spills r n widths homes live next values to registers ram after left width lives well others hold put =
    all_hold slots spills r n widths homes (are live) (are next) values to registers ram after left width lives well others hold put
