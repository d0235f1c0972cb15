-- Where virtual registers live: fields of R5 to R25, and slots.
use Rattle.std.specs.Prelude.{◌≡◌, ◌≢◌, ℕ, ◌+◌, ◌%◌, ◌<◌, ◌≤◌, ◌⊎◌, List, length, Some, slice_get}
use Rattle.prunum.specs.Width.{byte_count}
use Rattle.prunum.specs.declared.width.Width.{Width}
use Rattle.isa.specs.declared.field.Field.{Field}
use Rattle.midcode.specs.declared.register.VReg.{VReg}
use Rattle.callconv.specs.Places.{first_byte, field_size}
use Rattle.subreg.specs.declared.home.Home.{Home}
use Rattle.subreg.specs.declared.home.Home.TheVariants as home
use Rattle.subreg.specs.Span.{Within}

-- An aligned field of this width in R5 to R25, whose bytes are 20 to 103.
pub record IsField (f : Field) (w : Width) : Type 0 where
  pub size : field_size f ≡ byte_count w
  pub aligned : first_byte f % byte_count w ≡ 0
  pub from : 20 ≤ first_byte f
  pub to : first_byte f + field_size f ≤ 104

abbrev pub AreDisjoint : Field → Field → Type 0
AreDisjoint f g = (first_byte f + field_size f ≤ first_byte g) ⊎ (first_byte g + field_size g ≤ first_byte f)

abbrev pub LivesWell : ℕ → Width → Home → Type 0
LivesWell spills w (home.Field f) = IsField f w
LivesWell spills w (home.Slot n) = n < spills

abbrev pub AreApart : Home → Home → Type 0
AreApart (home.Field f) (home.Field g) = AreDisjoint f g
AreApart (home.Slot m) (home.Slot n) = m ≢ n
AreApart _ _ = Unit {0}

-- HasSpan v from to says that v may be needed from a place to a place, both among them.
module _ (HasSpan : VReg → ℕ → ℕ → Type 0) where
  -- some place lies in the spans of both
  pub record Meet (v w : VReg) : Type 0 where
    pub place : ℕ
    pub from : ℕ
    pub to : ℕ
    pub start : ℕ
    pub end_ : ℕ
    pub first : HasSpan v from to
    pub second : HasSpan w start end_
    pub in_first : Within from to place
    pub in_second : Within start end_ place

  -- Each register has a home of its width, and homes whose registers are needed at one place are apart.
  pub record Fits (registers : List Width) (homes : List Home) (spills : ℕ) : Type 0 where
    pub all : length homes ≡ length registers
    pub well : (v : VReg) (w : Width) (h : Home) → slice_get registers v.0 ≡ Some w → slice_get homes v.0 ≡ Some h
        → LivesWell spills w h
    pub apart : (v w : VReg) (h k : Home) → v.0 ≢ w.0 → slice_get homes v.0 ≡ Some h → slice_get homes w.0 ≡ Some k → Meet v w
        → AreApart h k

  -- the span of a register covers a place
  pub record Covers (place : ℕ) (v : VReg) : Type 0 where
    pub from : ℕ
    pub to : ℕ
    pub span : HasSpan v from to
    pub within : Within from to place

  -- at this place the field is taken by a register other than v that lives in a field
  pub record IsTaken (homes : List Home) (place : ℕ) (v : VReg) (g : Field) : Type 0 where
    pub other : VReg
    pub another : other.0 ≢ v.0
    pub field : Field
    pub lives : slice_get homes other.0 ≡ Some (home.Field field)
    pub needed : Covers place other
    pub shares : AreDisjoint field g → ⊥

  -- twenty registers other than v, no two of them the same, whose spans cover a place
  pub record TwentyOthers (place : ℕ) (v : VReg) : Type 0 where
    pub other : ℕ → VReg
    pub another : (n : ℕ) → n < 20 → (other n).0 ≢ v.0
    pub distinct : (m n : ℕ) → m < n → n < 20 → (other m).0 ≢ (other n).0
    pub cover : (n : ℕ) → n < 20 → Covers place (other n)

  -- no aligned field of its width is free at the start of the register's span, and at least 20 other spans cover that start
  pub record IsCrowded (registers : List Width) (homes : List Home) (v : VReg) : Type 0 where
    pub full : (w : Width) (from to : ℕ) (g : Field) → slice_get registers v.0 ≡ Some w → HasSpan v from to → IsField g w
        → IsTaken homes from v g
    pub others : (from to : ℕ) → HasSpan v from to → TwentyOthers from v

  -- The homes fit, and a slot is given only where it is crowded.
  pub record IsAllocation (registers : List Width) (homes : List Home) (spills : ℕ) : Type 0 where
    pub fits : Fits registers homes spills
    pub slots : (v : VReg) (n : ℕ) → slice_get homes v.0 ≡ Some (home.Slot n) → IsCrowded registers homes v
