-- That what types take up keeps its alignment when it is put together.
use Rattle.std.proofs.Common.{◌≡◌, ℕ, ◌+◌, ◌-◌, ◌*◌, ◌/◌, ◌%◌, ◌<◌, ◌≤◌, max, List, [], ◌∷◌, ◌++◌}
use Rattle.std.proofs.Common.{map, length, refl, ap, sym, ◌∙◌, subst, arith}
use Rattle.std.specs.Prelude.{◌^◌, fold, All}
use Rattle.std.proofs.lemmas.List.Elements.{All-nil, All-cons}
use Rattle.prunum.specs.Width.{byte_count}
use Rattle.prunum.specs.declared.width.Width.{Width}
use Rattle.prunum.specs.declared.width.Width.TheVariants.{B1, B2, B4}
use Rattle.cprogram.specs.Layout.{moved, alignment, leaf_end, IsRow, IsLayout}
use Rattle.cprogram.specs.declared.layout.TheConstants.{MAX_OBJECT_BYTES}
use Rattle.cprogram.specs.Scalar.{scalar_bytes, scalar_width}
use Rattle.cprogram.specs.declared.layout.Leaf.{Leaf}
use Rattle.cprogram.specs.declared.scalar.Scalar.{Scalar}
use Rattle.ctypes.specs.Room.{Room, IsRoom, wider, widest_from, member_at, joined, closed, opened, room_of_scalar}
use Rattle.ctypes.specs.Round.{rounded}

-- ---- numbers

pub rounded_above : (n : ℕ) (w : Width) → n ≤ rounded n (byte_count w)
rounded_above n B1 = omega arith
rounded_above n B2 = omega arith
rounded_above n B4 = omega arith

pub rounded_below : (n : ℕ) (w : Width) → rounded n (byte_count w) ≤ n + 3
rounded_below n B1 = omega arith
rounded_below n B2 = omega arith
rounded_below n B4 = omega arith

pub rounded_aligned : (n : ℕ) (w : Width) → rounded n (byte_count w) % byte_count w ≡ 0
rounded_aligned n B1 = omega arith
rounded_aligned n B2 = omega arith
rounded_aligned n B4 = omega arith

-- a multiple of a width is one of each narrower width
narrower : (v w : Width) (n : ℕ) → byte_count v ≤ byte_count w → n % byte_count w ≡ 0 → n % byte_count v ≡ 0
narrower B1 w n h m = omega arith
narrower B2 B1 n h m = omega (arith, h)
narrower B2 B2 n h m = m
narrower B2 B4 n h m = omega (arith, m)
narrower B4 B1 n h m = omega (arith, h)
narrower B4 B2 n h m = omega (arith, h)
narrower B4 B4 n h m = m

zero_aligned : (w : Width) → 0 % byte_count w ≡ 0
zero_aligned B1 = refl
zero_aligned B2 = refl
zero_aligned B4 = refl

sum_aligned : (w : Width) (m n : ℕ) → m % byte_count w ≡ 0 → n % byte_count w ≡ 0 → (m + n) % byte_count w ≡ 0
sum_aligned B1 m n g h = omega arith
sum_aligned B2 m n g h = omega (arith, g, h)
sum_aligned B4 m n g h = omega (arith, g, h)

-- ---- rows

row_lower : (least from to : ℕ) (ls : List Leaf) → least ≤ from → IsRow from to ls → IsRow least to ls
row_lower least from to [] p h = omega (arith, p, h)
row_lower least from to (l ∷ rest) p h = (omega (arith, p, h.0), h.1, h.2)

pub row_upper : (from to most : ℕ) (ls : List Leaf) → to ≤ most → IsRow from to ls → IsRow from most ls
row_upper from to most [] p h = omega (arith, p, h)
row_upper from to most (l ∷ rest) p h = (h.0, h.1, row_upper (leaf_end l) to most rest p h.2)

row_append : (from mid to : ℕ) (xs ys : List Leaf) → IsRow from mid xs → IsRow mid to ys → IsRow from to (xs ++ ys)
row_append from mid to [] ys g h = row_lower from mid to ys g h
row_append from mid to (l ∷ rest) ys g h = (g.0, g.1, row_append (leaf_end l) mid to rest ys g.2 h)

abbrev IsNarrow : Width → List Leaf → Type 0
IsNarrow _ [] = Unit {0}
IsNarrow w (l ∷ rest) = (scalar_bytes l.scalar ≤ byte_count w) × IsNarrow w rest

row_moved : (w : Width) (at from to : ℕ) (ls : List Leaf) → at % byte_count w ≡ 0 → IsNarrow w ls → IsRow from to ls →
    IsRow (at + from) (at + to) (map (moved at) ls)
row_moved w at from to [] m n h = omega (arith, h)
row_moved w at from to (l ∷ rest) m n h = (
  omega (arith, h.0),
  sum_aligned (scalar_width l.scalar) at l.offset (narrower (scalar_width l.scalar) w at n.0 m) h.1,
  row_lower (leaf_end (moved at l)) (at + leaf_end l) (at + to) (map (moved at) rest) (omega arith) (row_moved w at
      (leaf_end l) to rest m n.1 h.2),
)

-- ---- widths

wider_assoc : (u v w : Width) → wider (wider u v) w ≡ wider u (wider v w)
wider_assoc B1 v w = refl
wider_assoc B2 B1 w = refl
wider_assoc B2 B2 B1 = refl
wider_assoc B2 B2 B2 = refl
wider_assoc B2 B2 B4 = refl
wider_assoc B2 B4 w = refl
wider_assoc B4 v w = refl

wider_first : (v w : Width) → byte_count v ≤ byte_count (wider v w)
wider_first B1 B1 = omega arith
wider_first B1 B2 = omega arith
wider_first B1 B4 = omega arith
wider_first B2 B1 = omega arith
wider_first B2 B2 = omega arith
wider_first B2 B4 = omega arith
wider_first B4 w = omega arith

wider_second : (v w : Width) → byte_count w ≤ byte_count (wider v w)
wider_second B1 w = omega arith
wider_second B2 B1 = omega arith
wider_second B2 B2 = omega arith
wider_second B2 B4 = omega arith
wider_second B4 B1 = omega arith
wider_second B4 B2 = omega arith
wider_second B4 B4 = omega arith

wider_max : (v w : Width) → byte_count (wider v w) ≡ max (byte_count v) (byte_count w)
wider_max B1 B1 = refl
wider_max B1 B2 = refl
wider_max B1 B4 = refl
wider_max B2 B1 = refl
wider_max B2 B2 = refl
wider_max B2 B4 = refl
wider_max B4 B1 = refl
wider_max B4 B2 = refl
wider_max B4 B4 = refl

widest_above : (w : Width) (ls : List Leaf) → byte_count w ≤ byte_count (widest_from w ls)
widest_above w [] = omega arith
widest_above w (l ∷ rest) = omega (arith, wider_first w (scalar_width l.scalar), widest_above (wider w (scalar_width l.scalar)) rest)

narrow : (w : Width) (ls : List Leaf) → IsNarrow (widest_from w ls) ls
narrow w [] = tt
narrow w (l ∷ rest) = (
  omega (arith, wider_second w (scalar_width l.scalar), widest_above (wider w (scalar_width l.scalar)) rest),
  narrow (wider w
      (scalar_width l.scalar)) rest,
)

widest_split : (w : Width) (ls : List Leaf) → widest_from w ls ≡ wider w (widest_from B1 ls)
widest_split B1 [] = refl
widest_split B2 [] = refl
widest_split B4 [] = refl
widest_split w (l ∷ rest) =
    widest_split (wider w (scalar_width l.scalar)) rest
    ∙ (wider_assoc w (scalar_width l.scalar) (widest_from B1 rest) ∙ ap (wider w) (sym (widest_split (scalar_width l.scalar) rest)))

widest_append : (w : Width) (xs ys : List Leaf) → widest_from w (xs ++ ys) ≡ widest_from (widest_from w xs) ys
widest_append w [] ys = refl
widest_append w (l ∷ rest) ys = widest_append (wider w (scalar_width l.scalar)) rest ys

widest_moved : (w : Width) (at : ℕ) (ls : List Leaf) → widest_from w (map (moved at) ls) ≡ widest_from w ls
widest_moved w at [] = refl
widest_moved w at (l ∷ rest) = widest_moved (wider w (scalar_width l.scalar)) at rest

alignment_from : (w : Width) (ls : List Leaf) →
    fold (λ greatest l. max greatest (scalar_bytes l.scalar)) (byte_count w) ls ≡ byte_count (widest_from w ls)
alignment_from w [] = refl
alignment_from w (l ∷ rest) =
    ap (λ n. fold (λ greatest m. max greatest (scalar_bytes m.scalar)) n rest) (sym (wider_max w (scalar_width l.scalar)))
    ∙ alignment_from (wider w (scalar_width l.scalar)) rest

pub alignment_is : (r : Room) → IsRoom r → alignment r.leaves ≡ byte_count r.widest
alignment_is r h = alignment_from B1 r.leaves ∙ ap byte_count (sym h.widest)

-- ---- rooms

pub scalar_room : (s : Scalar) → IsRoom (room_of_scalar s)
scalar_room s = record { row = (omega arith, zero_aligned (scalar_width s), omega arith); widest = refl }

pub opened_room : IsRoom opened
opened_room = record { row = omega arith; widest = refl }

pub joined_room : (s m : Room) → IsRoom s → IsRoom m → IsRoom (joined s m)
joined_room s m g h =
    let at : ℕ = member_at s m in
    let narrow_leaves : IsNarrow m.widest m.leaves = let P : Width → Type 0 = λ w. IsNarrow w m.leaves in subst P (sym h.widest)
    (narrow B1 m.leaves) in
    record {
      row = row_append 0 (at + 0) (at + m.bytes) s.leaves (map (moved at) m.leaves) (row_upper 0 s.bytes (at + 0) s.leaves (omega
          (arith, rounded_above s.bytes m.widest)) g.row) (row_moved m.widest at 0 m.bytes m.leaves
          (rounded_aligned s.bytes m.widest) narrow_leaves h.row);
      widest = sym (widest_append B1 s.leaves (map (moved at) m.leaves) ∙ (widest_moved (widest_from B1 s.leaves) at m.leaves ∙
          (widest_split (widest_from B1 s.leaves) m.leaves ∙ (ap (λ w. wider w (widest_from B1 m.leaves)) (sym g.widest) ∙ ap
          (wider s.widest) (sym h.widest)))));
    }

pub closed_room : (s : Room) → IsRoom s → IsRoom (closed s)
closed_room s h = record {
  row = row_upper 0 s.bytes (rounded s.bytes (byte_count s.widest)) s.leaves
      (rounded_above s.bytes s.widest) h.row;
  widest = h.widest;
}

row_end : (from to : ℕ) (ls : List Leaf) → IsRow from to ls → from ≤ to
row_end from to [] h = h
row_end from to (l ∷ rest) h = omega (arith, h.0, row_end (leaf_end l) to rest h.2)

-- moved leaves have offsets of four bytes
pub offsets_fit : (at from to : ℕ) (ls : List Leaf) → at + to < 2 ^ 32 → IsRow from to ls → All (λ l. at + l.offset < 2 ^ 32) ls
offsets_fit at from to [] p h = All-nil (λ l. at + l.offset < 2 ^ 32)
offsets_fit at from to (l ∷ rest) p h =
    All-cons (λ m. at + m.offset < 2 ^ 32) l rest (omega (arith, p, row_end (leaf_end l) to rest h.2)) (offsets_fit at
    (leaf_end l) to rest p h.2)

-- ---- what the code needs

pub member_fits : (s m : Room) (at : ℕ) → at ≡ member_at s m → s.bytes + m.bytes + 8 < 2 ^ 32 → IsRoom m →
    All (λ l. at + l.offset < 2 ^ 32) m.leaves
member_fits s m at e p h = offsets_fit at 0 m.bytes m.leaves (omega (arith, e, p, rounded_below s.bytes m.widest)) h.row

pub layout_of : (r t : Room) (count : ℕ) → r ≡ t → IsRoom r → 0 < length t.leaves → t.bytes % byte_count t.widest ≡ 0 → 0 < count →
    t.bytes * count ≤ MAX_OBJECT_BYTES → IsLayout (record { leaves = r.leaves; bytes = r.bytes; count = count })
layout_of r t count e h some closed_size element small =
    record {
      some_leaf = omega (arith, some, ap (λ x. length x.leaves) e);
      row = h.row;
      padded = ap (λ a. r.bytes % a) (alignment_is r h) ∙ (ap (λ x. x.bytes % byte_count x.widest) e ∙ closed_size);
      some_element = element;
      small = omega (arith, small, ap (λ x. x.bytes * count) e);
    }
