-- Leaves in a row, and the leaves of a whole object.
use Rattle.std.proofs.Common.{◌≡◌, ℕ, ◌+◌, ◌*◌, ◌/◌, ◌%◌, ◌<◌, ◌≤◌, zero, suc, List, [], ◌∷◌}
use Rattle.std.proofs.Common.{length, get_or, Some, refl, ap, arith, Fits, w32}
use Rattle.std.specs.List.{slice_get}
use Rattle.std.specs.Prelude.{option_map}
use Rattle.std.proofs.lemmas.Nat.{div_below, mul-le}
use Rattle.std.proofs.lemmas.Option.{slice_get-get_or}
use Rattle.std.proofs.Math.Nat.{mod-lt, le-mul_of_pos_right}
use Rattle.prunum.specs.Width.{byte_count}
use Rattle.prunum.specs.declared.width.Width.{Width}
use Rattle.prunum.specs.declared.width.Width.TheVariants.{B1, B2, B4}
use Rattle.cprogram.specs.Layout.{Shape, IsRow, IsLayout, leaf_end, leaf_count, size, moved, leaf_at}
use Rattle.cprogram.specs.Scalar.{scalar_bytes, scalar_width}
use Rattle.cprogram.specs.declared.layout.Leaf.{Leaf}
use Rattle.cprogram.specs.declared.layout.TheConstants.{MAX_OBJECT_BYTES}
use Rattle.cprogram.specs.declared.scalar.Scalar.{Scalar}

pub byte_count-pos : (w : Width) → 0 < byte_count w
byte_count-pos B1 = omega arith
byte_count-pos B2 = omega arith
byte_count-pos B4 = omega arith

pub scalar_bytes-pos : (s : Scalar) → 0 < scalar_bytes s
scalar_bytes-pos s = byte_count-pos (scalar_width s)

-- a row has room for a byte a leaf
pub row_room : (from to : ℕ) (ls : List Leaf) → IsRow from to ls → from + length ls ≤ to
row_room from to [] h = omega (arith, h)
row_room from to (l ∷ rest) h = omega (arith, h.0, scalar_bytes-pos l.scalar, row_room (leaf_end l) to rest h.2)

-- each leaf of a row ends within it
pub row_at : (from to : ℕ) (ls : List Leaf) (k : ℕ) (d : Leaf) → k < length ls → IsRow from to ls → leaf_end (get_or ls k d) ≤ to
row_at from to [] k d p h = absurd (omega (arith, p))
row_at from to (l ∷ rest) zero d p h = omega (arith, row_room (leaf_end l) to rest h.2)
row_at from to (l ∷ rest) (suc k) d p h = row_at (leaf_end l) to rest k d (omega (arith, p)) h.2

pub few_leaves : (s : Shape) → IsLayout s → length s.leaves ≤ s.bytes
few_leaves s h = omega (arith, row_room 0 s.bytes s.leaves h.row)

pub small_element : (s : Shape) → IsLayout s → s.bytes ≤ MAX_OBJECT_BYTES
small_element s h = omega (arith, le-mul_of_pos_right s.bytes h.some_element, h.small)

pub no_empty_leaf : (s : Shape) → IsLayout s → leaf_count s ≤ size s
no_empty_leaf s h = mul-le (length s.leaves) s.count s.bytes s.count (few_leaves s h) (omega arith)

-- a leaf lies within the object
pub leaf_fits : (s : Shape) (n : ℕ) (d : Leaf) → IsLayout s → n < leaf_count s →
    s.bytes * (n / length s.leaves) + leaf_end (get_or s.leaves (n % length s.leaves) d) ≤ size s
leaf_fits s n d h p =
    let below = div_below n (length s.leaves) s.count h.some_leaf (omega (arith, p)) in
    let rows = mul-le s.bytes (n / length s.leaves + 1) s.bytes s.count (omega arith) (omega (arith, below)) in
    omega (arith, rows, row_at 0 s.bytes s.leaves (n % length s.leaves) d (mod-lt n h.some_leaf) h.row)

pub leaf_offset_fits : (s : Shape) (n : ℕ) (d : Leaf) → IsLayout s → n < leaf_count s →
    Fits w32 (s.bytes * (n / length s.leaves) + (get_or s.leaves (n % length s.leaves) d).offset)
leaf_offset_fits s n d h p = omega (arith, leaf_fits s n d h p, h.small)

pub leaf_is : (s : Shape) (n : ℕ) (d : Leaf) → IsLayout s →
    leaf_at s n ≡ Some (moved (s.bytes * (n / length s.leaves)) (get_or s.leaves (n % length s.leaves) d))
leaf_is s n d h =
    ap (option_map (moved (s.bytes * (n / length s.leaves)))) (slice_get-get_or s.leaves (n % length s.leaves) d (mod-lt n h.some_leaf))
