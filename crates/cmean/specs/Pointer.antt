-- Arithmetic and comparisons of pointers (C99 6.5.6, 6.5.8, 6.5.9), and where C leaves them undefined. A plain pointer is null or an
-- element of an array of an object; a volatile pointer is an address, which wraps at 32 bits. Where several causes apply, the first
-- of them in the order of `UndefinedCause` is named.
use Rattle.std.specs.Prelude.{ℕ, zero, suc, ◌+◌, ◌-◌, ◌*◌, ◌/◌, ◌%◌, ◌^◌, ◌==◌, nat_lt, nat_le, Bool, true, false, ◌&&◌, ◌||◌}
use Rattle.std.specs.Prelude.{if◌then◌else◌, ℤ, pos, ◌+ℤ◌, ◌-ℤ◌, ◌*ℤ◌, neg_ℤ, unsigned_abs, Option, Some, None}
use Rattle.prunum.specs.declared.width.Width.TheVariants.{B4}
use Rattle.prunum.specs.Number.{wrap, wrap_signed, shr_s}
use Rattle.csyn.specs.declared.operator.ComparisonOperator.{ComparisonOperator}
use Rattle.csyn.specs.declared.operator.ComparisonOperator.TheVariants.{Equal, NotEqual}
use Rattle.cprogram.specs.declared.pointer.Direction.{Direction}
use Rattle.cprogram.specs.declared.pointer.Direction.TheVariants.{Up, Down}
use Rattle.cprogram.specs.declared.pointer.Element.{Element}
use Rattle.cprogram.specs.declared.pointer.Offset.{Offset}
use Rattle.cmean.specs.declared.undefined.UndefinedCause.{UndefinedCause}
use Rattle.cmean.specs.declared.undefined.UndefinedCause.TheVariants.{OutsideArray, NullPointer, DifferentArrays, EndedCall}
use Rattle.cmean.specs.Datum.{Spot, Datum, Number, Null, Plain, Address, compare}

-- what an operation comes to: a value, a step that C leaves undefined, or none, where no program asks for it
pub data Step (A : Type 0) : Type 0 where
  Gives : A → Step A
  Breaks : UndefinedCause → Step A
  Never : Step A

-- ---- moving in an array

-- so many elements further, or back
abbrev pub moved_by : Direction → ℤ → ℤ
moved_by Up n = n
moved_by Down n = neg_ℤ n

-- where an array's elements begin, from the place of one of them
abbrev pub at_index : ℕ → ℕ → ℕ → ℕ → ℕ
at_index start index size wanted = start - index * size + wanted * size

-- the element with this number of the same array
abbrev pub element_at : Element → Spot → ℕ → Spot
element_at e p i = record p { index = i; leaf = at_index p.leaf p.index e.leaves i; byte = at_index p.byte p.index e.bytes i }

-- the number of elements of an array, and one more for the place past the last, bound where a pointer may go
abbrev pub is_within : ℕ → ℤ → Bool
is_within count (pos i) = nat_le i count
is_within count z = false

-- a pointer to an object of a call that ended may be copied and tested, and nothing else
abbrev pub unless_ended : {A : Type 0} → Bool → A → Step A
unless_ended is_alive a = if is_alive then Gives a else Breaks EndedCall

-- p + n or p - n. `is_alive` tells of an object by its number whether its call goes on.
abbrev pub moved : (ℕ → Bool) → Element → Datum → ℤ → Step Datum
moved is_alive e (Plain p) n =
    let i = pos p.index +ℤ n in
    if is_within p.count i then unless_ended (is_alive p.object) (Plain (element_at e p (unsigned_abs i))) else Breaks OutsideArray
moved is_alive e Null n = Breaks NullPointer
moved is_alive e (Address a) n = Gives (Address (wrap_signed B4 (pos a +ℤ n *ℤ pos e.bytes)))
moved is_alive e (Number _) n = Never

-- the member at this offset of the struct that p points to, as an array of one
abbrev pub member_at : Offset → Spot → Spot
member_at o p = record {
  object = p.object;
  first = p.leaf + o.leaves;
  count = 1;
  index = 0;
  leaf = p.leaf + o.leaves;
  byte = p.byte + o.bytes;
}

-- p->m, or a.m of the place p
abbrev pub member : Offset → Datum → Step Datum
member o (Plain p) = if nat_lt p.index p.count then Gives (Plain (member_at o p)) else Breaks OutsideArray
member o Null = Breaks NullPointer
member o (Address a) = Gives (Address (wrap B4 (a + o.bytes)))
member o (Number _) = Never

-- the first element of the array at p, which has so many
abbrev pub decayed : ℕ → Datum → Step Datum
decayed count (Plain p) =
    if nat_lt p.index p.count then Gives (Plain (record p { first = p.leaf; count = count; index = 0 })) else Breaks OutsideArray
decayed count Null = Breaks NullPointer
decayed count (Address a) = Gives (Address a)
decayed count (Number _) = Never

-- ---- two pointers

abbrev pub is_same_array : Spot → Spot → Bool
is_same_array p q = p.object == q.object && p.first == q.first && p.count == q.count

abbrev pub is_past_end : Spot → Bool
is_past_end p = p.index == p.count

-- an element size as its greatest power of two and the odd part
abbrev pub twos_below : ℕ → ℕ → ℕ
twos_below zero n = 0
twos_below (suc fuel) n = if n % 2 == 0 then suc (twos_below fuel (n / 2)) else 0

abbrev pub twos : ℕ → ℕ
twos n = twos_below 32 n

abbrev pub odd_part : ℕ → ℕ
odd_part n = n / 2 ^ twos n

-- One step towards the inverse of an odd number modulo 2 to the power 32: each doubles the bits that are right.
abbrev pub nearer_inverse : ℕ → ℕ → ℕ
nearer_inverse n x = wrap B4 (x * wrap B4 (2 + 2 ^ 64 - n * x))

abbrev pub inverse : ℕ → ℕ
inverse n = nearer_inverse n (nearer_inverse n (nearer_inverse n (nearer_inverse n (nearer_inverse n 1))))

-- The difference of two addresses over an element size: times the inverse of the size's odd part, then shifted right by its twos, copying
-- the sign. For a whole number of elements that is their number.
abbrev pub address_difference : ℕ → ℕ → ℕ → ℕ
address_difference size a b = shr_s (wrap B4 (wrap B4 (a + (2 ^ 32 - b)) * inverse (odd_part size))) (twos size)

-- p - q, in elements
abbrev pub difference : (ℕ → Bool) → Element → Datum → Datum → Step Datum
difference is_alive e (Plain p) (Plain q) =
    if is_same_array p q
    then unless_ended (is_alive p.object) (Number (wrap_signed B4 (pos p.index -ℤ pos q.index)))
    else Breaks DifferentArrays
difference is_alive e (Address a) (Address b) = Gives (Number (address_difference e.bytes a b))
difference is_alive e Null q = Breaks NullPointer
difference is_alive e p Null = Breaks NullPointer
difference is_alive e p q = Never

-- equality is the one comparison of pointers into different arrays
abbrev pub of_equality : ComparisonOperator → Option Bool
of_equality Equal = Some false
of_equality NotEqual = Some true
of_equality op = None

-- into different arrays
abbrev pub compare_apart : (ℕ → Bool) → ComparisonOperator → Spot → Spot → Step Bool
compare_apart is_alive op p q = elim (of_equality op) [
  | None ↦ Breaks DifferentArrays
  | Some apart ↦
      if is_past_end p || is_past_end q then Breaks DifferentArrays
      else unless_ended (is_alive p.object && is_alive q.object) apart
]

-- a null pointer is equal to a null one, and below every other plain pointer
abbrev pub compare_pointers : (ℕ → Bool) → ComparisonOperator → Datum → Datum → Step Bool
compare_pointers is_alive op (Plain p) (Plain q) =
    if is_same_array p q then unless_ended (is_alive p.object) (compare op p.index q.index) else compare_apart is_alive op p q
compare_pointers is_alive op Null Null = Gives (compare op 0 0)
compare_pointers is_alive op Null (Plain q) = unless_ended (is_alive q.object) (compare op 0 1)
compare_pointers is_alive op (Plain p) Null = unless_ended (is_alive p.object) (compare op 1 0)
compare_pointers is_alive op (Address a) (Address b) = Gives (compare op a b)
compare_pointers is_alive op p q = Never
