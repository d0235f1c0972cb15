-- How much room types take, with natural alignment (SPRUHV7).
use Rattle.std.specs.Prelude.{ℕ, ◌≡◌, ◌+◌, fold, List, [], ◌∷◌, ◌++◌, map}
use Rattle.prunum.specs.Width.{byte_count}
use Rattle.prunum.specs.declared.width.Width.{Width}
use Rattle.prunum.specs.declared.width.Width.TheVariants.{B1, B2, B4}
use Rattle.cprogram.specs.Layout.{moved, IsRow}
use Rattle.cprogram.specs.Scalar.{scalar_bytes, scalar_width}
use Rattle.cprogram.specs.declared.layout.Leaf.{Leaf}
use Rattle.cprogram.specs.declared.scalar.Scalar.{Scalar}
use Rattle.ctypes.specs.Round.{rounded}

-- the leaves of a type, its size in bytes, and the greatest width among its leaves, of which its address is a multiple
pub record Room : Type 0 where
  pub leaves : List Leaf
  pub bytes : ℕ
  pub widest : Width

abbrev pub wider : Width → Width → Width
wider B1 w = w
wider B2 B1 = B2
wider B2 B2 = B2
wider B2 B4 = B4
wider B4 _ = B4

abbrev pub widest_from : Width → List Leaf → Width
widest_from w leaves = fold (λ v l. wider v (scalar_width l.scalar)) w leaves

-- the leaves stand one behind the other within the size, each at a multiple of its width
pub record IsRoom (r : Room) : Type 0 where
  pub row : IsRow 0 r.bytes r.leaves
  pub widest : r.widest ≡ widest_from B1 r.leaves

abbrev pub room_of_scalar : Scalar → Room
room_of_scalar s = record { leaves = record { scalar = s; offset = 0 } ∷ []; bytes = scalar_bytes s; widest = scalar_width s }

-- a struct that has no member yet
abbrev pub opened : Room
opened = record { leaves = []; bytes = 0; widest = B1 }

-- where one more member begins: at the next multiple of its alignment
abbrev pub member_at : Room → Room → ℕ
member_at s m = rounded s.bytes (byte_count m.widest)

abbrev pub joined : Room → Room → Room
joined s m =
    record {
      leaves = s.leaves ++ map (moved (member_at s m)) m.leaves;
      bytes = member_at s m + m.bytes;
      widest = wider s.widest m.widest;
    }

-- a struct behind its last member: its size is a multiple of its alignment
abbrev pub closed : Room → Room
closed s = record s { bytes = rounded s.bytes (byte_count s.widest) }
