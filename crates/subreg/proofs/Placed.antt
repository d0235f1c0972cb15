-- What holds once some spans have their homes, and how one more keeps it.
use Rattle.std.proofs.Common.{◌≡◌, ◌≢◌, ℕ, ◌+◌, ◌<◌, ◌≤◌, ◌⊎◌, inl, inr, List, length, length-set, sym, ◌∙◌, ap, subst, arith}
use Rattle.std.specs.Prelude.{slice_get, slice_set, slice_index, Some}
use Rattle.std.proofs.lemmas.Bool.{cases_lt, cases_eq}
use Rattle.std.proofs.lemmas.Option.{same_Some}
use Rattle.prunum.specs.declared.width.Width.{Width}
use Rattle.isa.specs.declared.field.Field.{Field}
use Rattle.midcode.specs.declared.register.VReg.{VReg}
use Rattle.callconv.specs.Places.{first_byte, field_size}
use Rattle.subreg.specs.declared.home.Home.{Home}
use Rattle.subreg.specs.declared.home.Home.TheVariants as home
use Rattle.subreg.specs.declared.home.Interval.{Interval}
use Rattle.subreg.specs.Span.{Within}
use Rattle.subreg.specs.Allocation.{IsField, LivesWell, AreApart, AreDisjoint}
use Rattle.subreg.specs.Listed.{AreSpans}
use Rattle.subreg.specs.Scan.{IsFieldHome, AreFirstHomes}
use Rattle.subreg.proofs.Elements.{get-set_same, get-set_other}

module _ (spans : List Interval) where
  -- one of the first i spans has a home with this byte, and is needed at a place or later
  pub record Owner (i : ℕ) (homes : List Home) (byte place : ℕ) : Type 0 where
    pub number : ℕ
    pub span : Interval
    pub field : Field
    pub below : number < i
    pub listed : slice_get spans number ≡ Some span
    pub lives : slice_get homes span.vreg.0 ≡ Some (home.Field field)
    pub from : first_byte field ≤ byte
    pub to : byte < first_byte field + field_size field
    pub needed : place ≤ span.to

  -- one of the first i spans covers a place, and has a home that shares a byte with the field
  pub record Holder (i : ℕ) (homes : List Home) (place : ℕ) (g : Field) : Type 0 where
    pub number : ℕ
    pub span : Interval
    pub field : Field
    pub below : number < i
    pub listed : slice_get spans number ≡ Some span
    pub lives : slice_get homes span.vreg.0 ≡ Some (home.Field field)
    pub started : span.from ≤ place
    pub needed : place ≤ span.to
    pub shares : AreDisjoint field g → ⊥

-- The first i spans have their homes.
pub record Placed (registers : List Width) (spans : List Interval) (i : ℕ) (homes : List Home) (free_from : List ℕ) (slots : ℕ) :
    Type 0 where
  pub all : length homes ≡ length registers
  pub few : slots ≤ i
  pub well : (v : VReg) (w : Width) (h : Home) → slice_get registers v.0 ≡ Some w → slice_get homes v.0 ≡ Some h → LivesWell slots w h
  pub apart : (j k : ℕ) (s t : Interval) (g h : Home) (place : ℕ) → j < k → k < i → slice_get spans j ≡ Some s
      → slice_get spans k ≡ Some t → Within s.from s.to place → Within t.from t.to place → slice_get homes s.vreg.0 ≡ Some g
      → slice_get homes t.vreg.0 ≡ Some h → AreApart g h
  pub kept : (j : ℕ) (s : Interval) (f : Field) (byte : ℕ) → j < i → slice_get spans j ≡ Some s
      → slice_get homes s.vreg.0 ≡ Some (home.Field f) → first_byte f ≤ byte → byte < first_byte f + field_size f
      → s.to < slice_index free_from byte
  pub owned : (byte place : ℕ) → place < slice_index free_from byte → Owner spans i homes byte place
  pub crowded : (j : ℕ) (s : Interval) (n : ℕ) (w : Width) (g : Field) → j < i → slice_get spans j ≡ Some s
      → slice_get homes s.vreg.0 ≡ Some (home.Slot n) → slice_get registers s.vreg.0 ≡ Some w → IsField g w
      → Holder spans i homes s.from g

-- ---- no span has a home

first-lives : (w : Width) (h : Home) → IsFieldHome w h → LivesWell 0 w h
first-lives w h is = let P : Home → Type 0 = λ x. LivesWell 0 w x in subst P (sym is.is) is.well

pub placed-none : (registers : List Width) (spans : List Interval) (homes : List Home) (free_from : List ℕ)
    → ((byte : ℕ) → slice_index free_from byte ≡ 0) → AreFirstHomes registers homes → Placed registers spans 0 homes free_from 0
placed-none registers spans homes free_from free made =
    record {
      all = made.all;
      few = omega arith;
      well = λ v w h wide lives. first-lives w h (made.well v.0 w h wide lives);
      apart = λ j k s t g h place less below _ _ _ _ _ _. absurd (omega (arith, below));
      kept = λ j s f byte below _ _ _ _. absurd (omega (arith, below));
      owned = λ byte place later. absurd (omega (arith, later, free byte));
      crowded = λ j s n w g below _ _ _ _. absurd (omega (arith, below));
    }

-- ---- one more span

-- a home takes this byte, and is needed at a place or later
pub record Takes (h : Home) (s : Interval) (byte place : ℕ) : Type 0 where
  pub field : Field
  pub is : h ≡ home.Field field
  pub from : first_byte field ≤ byte
  pub to : byte < first_byte field + field_size field
  pub needed : place ≤ s.to

-- what a home does for span i
pub record Gives (registers : List Width) (spans : List Interval) (i : ℕ) (homes : List Home) (old new : List ℕ) (slots more : ℕ)
    (s : Interval) (w : Width) (h : Home) : Type 0 where
  pub well : LivesWell more w h
  pub rises : slots ≤ more
  pub few : more ≤ slots + 1
  pub grows : (byte : ℕ) → slice_index old byte ≤ slice_index new byte
  pub own : (f : Field) (byte : ℕ) → h ≡ home.Field f → first_byte f ≤ byte → byte < first_byte f + field_size f
      → s.to < slice_index new byte
  pub from : (byte place : ℕ) → place < slice_index new byte → (place < slice_index old byte) ⊎ Takes h s byte place
  pub apart : (j : ℕ) (t : Interval) (g : Home) (place : ℕ) → j < i → slice_get spans j ≡ Some t → Within t.from t.to place
      → Within s.from s.to place → slice_get homes t.vreg.0 ≡ Some g → AreApart g h
  pub crowded : (n : ℕ) (g : Field) → h ≡ home.Slot n → IsField g w → Holder spans i homes s.from g

lives-more : (slots more : ℕ) (w : Width) (h : Home) → slots ≤ more → LivesWell slots w h → LivesWell more w h
lives-more slots more w (home.Field f) le well = well
lives-more slots more w (home.Slot n) le well = omega (arith, le, well)

pub field_same : (f g : Field) → home.Field f ≡ home.Field g → f ≡ g
field_same f g e = cc

pub record Step (registers : List Width) (spans : List Interval) (i : ℕ) (homes : List Home) (old : List ℕ) (slots : ℕ) (s : Interval)
    (w : Width) : Type 0 where
  pub are : AreSpans registers spans
  pub listed : slice_get spans i ≡ Some s
  pub wide : slice_get registers s.vreg.0 ≡ Some w
  pub placed : Placed registers spans i homes old slots

module _ (registers : List Width) (spans : List Interval) (i : ℕ) (homes : List Home) (old new : List ℕ) (slots more : ℕ) (s : Interval)
    (w : Width) (h : Home) (step : Step registers spans i homes old slots s w) where
  number-below : s.vreg.0 < length homes
  number-below = omega (arith, step.are.named i s step.listed, step.placed.all)

  -- earlier spans are of other registers
  another : (j : ℕ) (t : Interval) → j < i → slice_get spans j ≡ Some t → t.vreg.0 ≢ s.vreg.0
  another j t less at = λ e. absurd (omega (arith, less, step.are.once j i t s at step.listed e))

  stays : (v : ℕ) → v ≢ s.vreg.0 → slice_get (slice_set homes s.vreg.0 h) v ≡ slice_get homes v
  stays v ne = get-set_other homes s.vreg.0 v h ne

  here : slice_get (slice_set homes s.vreg.0 h) s.vreg.0 ≡ Some h
  here = get-set_same homes s.vreg.0 h number-below

  own_home : (g : Home) → slice_get (slice_set homes s.vreg.0 h) s.vreg.0 ≡ Some g → h ≡ g
  own_home g lives = same_Some h g (sym here ∙ lives)

  was : (j : ℕ) (t : Interval) (g : Home) → j < i → slice_get spans j ≡ Some t
      → slice_get (slice_set homes s.vreg.0 h) t.vreg.0 ≡ Some g → slice_get homes t.vreg.0 ≡ Some g
  was j t g less at lives = sym (stays t.vreg.0 (another j t less at)) ∙ lives

  -- the span of a place is the one that is added
  same_span : (k : ℕ) (t : Interval) → k ≡ i → slice_get spans k ≡ Some t → t ≡ s
  same_span k t e at = same_Some t s (sym at ∙ ap (slice_get spans) e ∙ step.listed)

  well-next : LivesWell more w h → slots ≤ more → (v : VReg) (x : Width) (g : Home) → slice_get registers v.0 ≡ Some x
      → slice_get (slice_set homes s.vreg.0 h) v.0 ≡ Some g → LivesWell more x g
  well-next well rises v x g wide lives =
      elim (cases_eq v.0 s.vreg.0) [
        | inl e ↦
            let w-is : w ≡ x = same_Some w x (sym step.wide ∙ ap (slice_get registers) (sym e) ∙ wide) in
            let h-is : h ≡ g = own_home g (ap (slice_get (slice_set homes s.vreg.0 h)) (sym e) ∙ lives) in
            let P : Width → Type 0 = λ y. LivesWell more y h in
            let Q : Home → Type 0 = λ y. LivesWell more x y in
            subst Q h-is (subst P w-is well)
        | inr ne ↦ lives-more slots more x g rises (step.placed.well v x g wide (sym (stays v.0 ne) ∙ lives))
      ]

  holder-stays : (place : ℕ) (g : Field) → Holder spans i homes place g → Holder spans (i + 1) (slice_set homes s.vreg.0 h) place g
  holder-stays place g k =
      record {
        number = k.number;
        span = k.span;
        field = k.field;
        below = omega (arith, k.below);
        listed = k.listed;
        lives = stays k.span.vreg.0 (another k.number k.span k.below k.listed) ∙ k.lives;
        started = k.started;
        needed = k.needed;
        shares = k.shares;
      }

  owner-stays : (byte place : ℕ) → Owner spans i homes byte place → Owner spans (i + 1) (slice_set homes s.vreg.0 h) byte place
  owner-stays byte place k =
      record {
        number = k.number;
        span = k.span;
        field = k.field;
        below = omega (arith, k.below);
        listed = k.listed;
        lives = stays k.span.vreg.0 (another k.number k.span k.below k.listed) ∙ k.lives;
        from = k.from;
        to = k.to;
        needed = k.needed;
      }

  owner-new : (byte place : ℕ) → Takes h s byte place → Owner spans (i + 1) (slice_set homes s.vreg.0 h) byte place
  owner-new byte place k =
      record {
        number = i;
        span = s;
        field = k.field;
        below = omega arith;
        listed = step.listed;
        lives = here ∙ ap Some k.is;
        from = k.from;
        to = k.to;
        needed = k.needed;
      }

  apart-next : Gives registers spans i homes old new slots more s w h → (j k : ℕ) (t u : Interval) (g x : Home) (place : ℕ) → j < k
      → k < i + 1 → slice_get spans j ≡ Some t → slice_get spans k ≡ Some u → Within t.from t.to place → Within u.from u.to place
      → slice_get (slice_set homes s.vreg.0 h) t.vreg.0 ≡ Some g → slice_get (slice_set homes s.vreg.0 h) u.vreg.0 ≡ Some x
      → AreApart g x
  apart-next gives j k t u g x place less below at-j at-k in-t in-u lives-t lives-u =
      elim (cases_lt k i) [
        | inl early ↦
            step.placed.apart j k t u g x place less early at-j at-k in-t in-u
            (was j t g (omega (arith, less, early)) at-j lives-t) (was k u x early at-k lives-u)
        | inr late ↦
            let last : k ≡ i = omega (arith, late, below) in
            let early : j < i = omega (arith, less, last) in
            let u-is : u ≡ s = same_span k u last at-k in
            let P : Interval → Type 0 = λ y. Within y.from y.to place in
            let x-is : h ≡ x = own_home x (ap (λ (y : Interval). slice_get (slice_set homes s.vreg.0 h) y.vreg.0) (sym u-is) ∙ lives-u) in
            let Q : Home → Type 0 = λ y. AreApart g y in
            subst Q x-is (gives.apart j t g place early at-j in-t (subst P u-is in-u) (was j t g early at-j lives-t))
      ]

  kept-next : Gives registers spans i homes old new slots more s w h → (j : ℕ) (t : Interval) (f : Field) (byte : ℕ) → j < i + 1
      → slice_get spans j ≡ Some t → slice_get (slice_set homes s.vreg.0 h) t.vreg.0 ≡ Some (home.Field f) → first_byte f ≤ byte
      → byte < first_byte f + field_size f → t.to < slice_index new byte
  kept-next gives j t f byte below at lives from to =
      elim (cases_lt j i) [
        | inl early ↦
            let old-kept = step.placed.kept j t f byte early at (was j t (home.Field f) early at lives) from to in
            omega (arith, old-kept, gives.grows byte)
        | inr late ↦
            let t-is : t ≡ s = same_span j t (omega (arith, late, below)) at in
            let h-is : h ≡ home.Field f =
            own_home (home.Field f) (ap (λ (y : Interval). slice_get (slice_set homes s.vreg.0 h) y.vreg.0) (sym t-is) ∙ lives) in
            let P : Interval → Type 0 = λ y. y.to < slice_index new byte in
            subst P (sym t-is) (gives.own f byte h-is from to)
      ]

  owned-next : Gives registers spans i homes old new slots more s w h → (byte place : ℕ) → place < slice_index new byte
      → Owner spans (i + 1) (slice_set homes s.vreg.0 h) byte place
  owned-next gives byte place later =
      elim (gives.from byte place later) [
        | inl before ↦ owner-stays byte place (step.placed.owned byte place before)
        | inr takes ↦ owner-new byte place takes
      ]

  crowded-next : Gives registers spans i homes old new slots more s w h → (j : ℕ) (t : Interval) (n : ℕ) (x : Width) (g : Field)
      → j < i + 1 → slice_get spans j ≡ Some t → slice_get (slice_set homes s.vreg.0 h) t.vreg.0 ≡ Some (home.Slot n)
      → slice_get registers t.vreg.0 ≡ Some x → IsField g x → Holder spans (i + 1) (slice_set homes s.vreg.0 h) t.from g
  crowded-next gives j t n x g below at lives wide field =
      elim (cases_lt j i) [
        | inl early ↦
            holder-stays t.from g (step.placed.crowded j t n x g early at (was j t (home.Slot n) early at lives) wide field)
        | inr late ↦
            let t-is : t ≡ s = same_span j t (omega (arith, late, below)) at in
            let h-is : h ≡ home.Slot n =
            own_home (home.Slot n) (ap (λ (y : Interval). slice_get (slice_set homes s.vreg.0 h) y.vreg.0) (sym t-is) ∙ lives) in
            let w-is : x ≡ w =
            same_Some x w (sym wide ∙ ap (λ (y : Interval). slice_get registers y.vreg.0) t-is ∙ step.wide) in
            let P : Width → Type 0 = λ y. IsField g y in
            let Q : Interval → Type 0 = λ y. Holder spans (i + 1) (slice_set homes s.vreg.0 h) y.from g in
            subst Q (sym t-is) (holder-stays s.from g (gives.crowded n g h-is (subst P w-is field)))
      ]

  pub placed-next : Gives registers spans i homes old new slots more s w h
      → Placed registers spans (i + 1) (slice_set homes s.vreg.0 h) new more
  placed-next gives =
      record {
        all = length-set homes s.vreg.0 h ∙ step.placed.all;
        few = omega (arith, gives.few, step.placed.few);
        well = well-next gives.well gives.rises;
        apart = apart-next gives;
        kept = kept-next gives;
        owned = owned-next gives;
        crowded = crowded-next gives;
      }
