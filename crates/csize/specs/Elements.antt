-- Sizes that are in range.
use Rattle.std.specs.Prelude.{ℕ, ◌*◌, ◌^◌, ◌<◌, ◌≤◌, ◌&&◌, Bool, true, false, IsTrue, nat_lt, nat_le, Option, Some, None}
use Rattle.std.proofs.Common.{arith, refl}
use Rattle.std.proofs.lemmas.Bool.Decides.{nat_tests}
use Rattle.cprogram.specs.declared.pointer.Element.{Element}
use Rattle.prunum.specs.Width.{byte_count}
use Rattle.prunum.specs.declared.width.Width.{Width}

-- f of a proof that the test passes, where it does
abbrev pub where_true : {X : Type 0} (b : Bool) → (IsTrue b → Option X) → Option X
where_true true f = f refl
where_true false f = None

-- so many leaves in so many bytes
abbrev pub is_element : ℕ → ℕ → Bool
is_element leaves bytes = nat_lt 0 leaves && nat_lt bytes (2 ^ 32) && nat_le leaves bytes

pub some_leaf : (leaves bytes : ℕ) → IsTrue (is_element leaves bytes) → 0 < leaves
some_leaf leaves bytes h = grind (arith, nat_tests)

pub no_empty_leaf : (leaves bytes : ℕ) → IsTrue (is_element leaves bytes) → leaves ≤ bytes
no_empty_leaf leaves bytes h = grind (arith, nat_tests)

abbrev pub element_made : (leaves bytes : ℕ) → IsTrue (is_element leaves bytes) → Element
element_made leaves bytes h =
    record {
      leaves = leaves;
      bytes = bytes;
      some_leaf = some_leaf leaves bytes h;
      no_empty_leaf = no_empty_leaf leaves bytes h;
    }

unfoldable pub element_at : ℕ → ℕ → Option Element
element_at leaves bytes = where_true (is_element leaves bytes) (λ h. Some (element_made leaves bytes h))

-- one leaf of a width
abbrev pub leaf_element : Width → Option Element
leaf_element w = element_at 1 (byte_count w)

-- so many elements in a row
abbrev pub times : ℕ → Option Element → Option Element
times _ None = None
times n (Some e) = element_at (n * e.leaves) (n * e.bytes)
