-- How an object is made of leaves. Alignment is natural: a leaf's offset is a multiple of its width, and the size of an element one
-- of the greatest width among its leaves (SPRUHV7).
use Rattle.std.specs.Prelude.{ℕ, ◌≡◌, ◌+◌, ◌*◌, ◌/◌, ◌%◌, ◌<◌, ◌≤◌, max, fold, List, [], ◌∷◌, length, slice_get, Option, option_map}
use Rattle.cprogram.specs.Scalar.{scalar_bytes}
use Rattle.cprogram.specs.declared.layout.Leaf.{Leaf}
use Rattle.cprogram.specs.declared.layout.TheConstants.{MAX_OBJECT_BYTES}
use Rattle.cprogram.specs.declared.scalar.Scalar.{Scalar}

-- the leaves of one element, its size in bytes, and how many elements stand in a row
pub record Shape : Type 0 where
  pub leaves : List Leaf
  pub bytes : ℕ
  pub count : ℕ

abbrev pub leaf_end : Leaf → ℕ
leaf_end l = l.offset + scalar_bytes l.scalar

-- the greatest width among leaves
abbrev pub alignment : List Leaf → ℕ
alignment leaves = fold (λ greatest l. max greatest (scalar_bytes l.scalar)) 1 leaves

-- leaves one behind the other between two offsets, each at a multiple of its width
abbrev pub IsRow : ℕ → ℕ → List Leaf → Type 0
IsRow from to [] = from ≤ to
IsRow from to (l ∷ rest) = (from ≤ l.offset) × (l.offset % scalar_bytes l.scalar ≡ 0) × IsRow (leaf_end l) to rest

pub record IsLayout (s : Shape) : Type 0 where
  pub some_leaf : 0 < length s.leaves
  pub row : IsRow 0 s.bytes s.leaves
  pub padded : s.bytes % alignment s.leaves ≡ 0
  pub some_element : 0 < s.count
  pub small : s.bytes * s.count ≤ MAX_OBJECT_BYTES

abbrev pub leaf_count : Shape → ℕ
leaf_count s = length s.leaves * s.count

abbrev pub size : Shape → ℕ
size s = s.bytes * s.count

-- of a scalar alone
abbrev pub shape_of_scalar : Scalar → Shape
shape_of_scalar s = record { leaves = record { scalar = s; offset = 0 } ∷ []; bytes = scalar_bytes s; count = 1 }

-- a leaf of an element that stands so many bytes behind the first
abbrev pub moved : ℕ → Leaf → Leaf
moved bytes l = record l { offset = bytes + l.offset }

-- the leaf with this number, of the whole object
abbrev pub leaf_at : Shape → ℕ → Option Leaf
leaf_at s n = option_map (moved (s.bytes * (n / length s.leaves))) (slice_get s.leaves (n % length s.leaves))
