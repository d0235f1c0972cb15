-- Where the objects of a run of C are, and which number stands for a value.
use Rattle.std.specs.Prelude.{ℕ, ◌≡◌, ◌+◌, ◌*◌, ◌^◌, ◌<◌, ◌≤◌, List, length, Some, slice_get}
use Rattle.prunum.specs.Number.{bit_count}
use Rattle.prunum.specs.declared.width.Width.{Width}
use Rattle.prunum.specs.declared.width.Width.TheVariants.{B4}
use Rattle.cprogram.specs.declared.scalar.Integer.{Integer}
use Rattle.cmean.specs.Datum.{Spot, Datum, Number, Null, Plain, Address}

-- ---- types of values

-- What a value is of. A plain pointer's type names the layout of what it points to, by its number.
pub data Meant : Type 0 where
  OfInteger : Integer → Meant
  ToPlain : ℕ → Meant
  ToVolatile : Meant

abbrev pub meant_width : Meant → Width
meant_width (OfInteger t) = t.width
meant_width (ToPlain layout) = B4
meant_width ToVolatile = B4

-- a leaf, and the byte at which it begins
pub record Part : Type 0 where
  pub meant : Meant
  pub offset : ℕ

-- the leaves of an object or of an element, in order, and its size
pub record Laid : Type 0 where
  pub parts : List Part
  pub bytes : ℕ

-- ---- places of objects

pub data Home : Type 0 where
  -- a scalar whose address isn't taken is a virtual register
  InRegister : ℕ → Meant → Home
  -- each other object is a range of bytes of the private memory, from an address on
  InMemory : ℕ → Laid → Home
  -- a volatile object holds nothing by itself
  Outside : Home

-- ---- values

module _ (layouts : List Laid) (homes : List Home) where
  -- A pointer to an element of an array, or to the place one past its last, is the address of its object and the byte in it. The array
  -- lies inside the object, and the leaves of its elements are leaves of the object.
  pub record IsSpot (layout : ℕ) (p : Spot) (v : ℕ) : Type 0 where
    pub element : Laid
    pub laid : slice_get layouts layout ≡ Some element
    pub address : ℕ
    pub whole : Laid
    pub home : slice_get homes p.object ≡ Some (InMemory address whole)
    pub start : ℕ  -- the byte at which the array begins
    pub inside : start + p.count * element.bytes ≤ whole.bytes
    pub leaves : (i j : ℕ) (part : Part) → i < p.count → slice_get element.parts j ≡ Some part
        → slice_get whole.parts (p.first + i * length element.parts + j)
        ≡ Some (record part { offset = start + i * element.bytes + part.offset })
    pub range : p.index ≤ p.count
    pub leaf : p.leaf ≡ p.first + p.index * length element.parts
    pub byte : p.byte ≡ start + p.index * element.bytes
    pub value : v ≡ address + p.byte

  -- This number stands for a value of this type.
  abbrev pub Held : Meant → Datum → ℕ → Type 0
  Held (OfInteger t) (Number n) v = (v ≡ n) × (n < 2 ^ bit_count t.width)
  Held (ToPlain layout) Null v = v ≡ 0
  Held (ToPlain layout) (Plain p) v = IsSpot layout p v
  Held ToVolatile (Address a) v = (v ≡ a) × (a < 2 ^ 32)
  Held t d v = ⊥
