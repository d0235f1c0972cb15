-- A program of operations, and when it is valid.
use Rattle.std.specs.Prelude.{ℕ, zero, suc, ◌+◌, ◌==◌, ◌&&◌, Bool, true, false, IsTrue, nat_lt, nat_le, List, [], ◌∷◌}
use Rattle.std.specs.Prelude.{length, map, Option, Some, None, slice_get, All, count_by, sum_by}
use Rattle.std.specs.List.{list_all, list_any}
use Rattle.prunum.specs.Width.{byte_count}
use Rattle.prunum.specs.declared.width.Width.{Width}
use Rattle.midcode.specs.declared.object.FirstPart.{FirstPart}
use Rattle.midcode.specs.declared.object.FirstPart.TheVariants as first
use Rattle.midcode.specs.declared.register.VReg.{VReg}
use Rattle.midcode.specs.declared.signature.Signature.{Signature}
use Rattle.midcode.specs.declared.op.OpKind.{OpKind}
use Rattle.midcode.specs.declared.op.OpKind.TheVariants as op
use Rattle.midcode.specs.declared.op.Mark.TheVariants as mark
use Rattle.midcode.specs.Operation.{listed, parameters, objects_of, region_of, target_of, is_last}
use Rattle.midcode.specs.Function.{Function, kinds, size_of, size_at, each_of, stands, IsValidFunction}
use Rattle.midcode.specs.Stored.{Stored}
use Rattle.midcode.specs.Structure.{skeleton, is_structured, regions_from}

-- Regions are numbered below `regions`.
pub record Program : Type 0 where
  pub functions : List Function
  pub objects : List Stored
  pub regions : ℕ
  pub main : ℕ

-- ---- an operation in its function and its program

abbrev pub sizes_match : List Width → List Width → List VReg → Bool
sizes_match registers [] [] = true
sizes_match registers (w ∷ ws) (r ∷ rs) = size_at registers r == byte_count w && sizes_match registers ws rs
sizes_match registers _ _ = false

-- a value, where there is one, has the width of the result
abbrev pub gives : List Width → Option Width → Option VReg → Bool
gives registers result None = true
gives registers result (Some r) = size_at registers r == size_of result

abbrev pub calls : List Width → Option Signature → List VReg → Option VReg → Bool
calls registers None arguments to = false
calls registers (Some s) arguments to = sizes_match registers (parameters s) arguments && gives registers s.result to

-- what a function sees of its program: what its functions take and give, how many objects and regions there are
pub record Outside : Type 0 where
  pub signatures : List Signature
  pub objects : ℕ
  pub regions : ℕ

abbrev pub outside : Program → Outside
outside p = record { signatures = map (λ f. f.signature) p.functions; objects = length p.objects; regions = p.regions }

abbrev pub is_called_well : List Signature → Function → OpKind → Bool
is_called_well signatures f (op.Call function arguments to) =
    calls f.registers (slice_get signatures function) (listed arguments) to
is_called_well signatures f (op.Return value) = gives f.registers f.signature.result value
is_called_well signatures f k = true

-- what it names is there
abbrev pub is_linked : Outside → Function → OpKind → Bool
is_linked o f k =
    list_all (λ n. nat_lt n o.objects) (objects_of k) && each_of (λ r. nat_lt r o.regions) (region_of k) &&
    each_of (λ l. stands (kinds f) l.0) (target_of k) && is_called_well o.signatures f k

abbrev pub ends_well : List OpKind → Bool
ends_well [] = false
ends_well (k ∷ []) = is_last k
ends_well (k ∷ l ∷ ks) = ends_well (l ∷ ks)

abbrev pub is_function_of : Outside → Function → Bool
is_function_of o f = list_all (is_linked o f) (kinds f) && ends_well (kinds f) && is_structured (skeleton (kinds f))

-- ---- regions

abbrev pub enters : ℕ → OpKind → Bool
enters region (op.Mark (mark.Enter r)) = r == region
enters region k = false

abbrev pub leaves : ℕ → OpKind → Bool
leaves region (op.Mark (mark.Leave r)) = r == region
leaves region k = false

abbrev pub skeletons : Program → List (List OpKind)
skeletons p = map (λ f. skeleton (kinds f)) p.functions

-- one mark Enter, one mark Leave, and this behind that in one function
abbrev pub is_marked : List (List OpKind) → ℕ → Bool
is_marked kss region =
    sum_by (count_by (enters region)) kss == 1 && sum_by (count_by (leaves region)) kss == 1 &&
    list_any (λ ks. list_any (λ m. m.region == region) (regions_from 0 ks)) kss

abbrev pub each_below : ℕ → (ℕ → Bool) → Bool
each_below zero test = true
each_below (suc n) test = test n && each_below n test

-- ---- objects

abbrev pub is_first_part : ℕ → FirstPart → Bool
is_first_part objects (first.Number width value) = true
is_first_part objects (first.Address object offset) = nat_lt object objects
is_first_part objects (first.Zeros n) = true

abbrev pub part_size : FirstPart → ℕ
part_size (first.Number width value) = byte_count width
part_size (first.Address object offset) = 4
part_size (first.Zeros n) = n

abbrev pub parts_size : List FirstPart → ℕ
parts_size [] = 0
parts_size (part ∷ parts) = part_size part + parts_size parts

abbrev pub is_object_of : ℕ → Stored → Bool
is_object_of objects o = list_all (is_first_part objects) o.first && nat_le (parts_size o.first) o.bytes

-- ---- the whole

-- It takes nothing and gives nothing.
abbrev pub is_main : Option Signature → Bool
is_main None = false
is_main (Some s) = s.count == 0 && size_of s.result == 0

abbrev pub is_whole : Program → Bool
is_whole p =
    list_all (is_function_of (outside p)) p.functions && list_all (is_object_of (length p.objects)) p.objects &&
    each_below p.regions (is_marked (skeletons p)) &&
    is_main (slice_get (outside p).signatures p.main)

pub record IsValidProgram (p : Program) : Type 0 where
  pub each : All IsValidFunction p.functions
  pub whole : IsTrue (is_whole p)
