-- Of the proof: what stands in the place of an operation where numbers in its registers are known, and which are known behind it.
use Rattle.std.specs.Prelude.{ℕ, List, Option, Some, None, map, slice_get, slice_set, slice_index_or}
use Rattle.prunum.specs.Number.{wrap, wrap_signed, sext}
use Rattle.prunum.specs.declared.width.Width.{Width}
use Rattle.prunum.specs.declared.width.Width.TheVariants.{B4}
use Rattle.midcode.specs.declared.register.VReg.{VReg}
use Rattle.midcode.specs.declared.op.BinaryOp.{BinaryOp}
use Rattle.midcode.specs.declared.op.Operand.{Operand}
use Rattle.midcode.specs.declared.op.Operand.TheVariants as operand
use Rattle.midcode.specs.declared.op.OpKind.{OpKind}
use Rattle.midcode.specs.declared.op.OpKind.TheVariants as op
use Rattle.midcode.specs.Operation.{writes}
use Rattle.midcode.specs.Value.{unary_value, binary_value}
use Rattle.midcode.specs.Function.{size_of}
use Rattle.midcode.specs.Meaning.{width_of_size}
use Rattle.midopt.specs.Tidy.{number_of}

abbrev pub width_at : List Width → ℕ → Width
width_at registers r = width_of_size (size_of (slice_get registers r))

-- a number, cut to a register
abbrev pub cut : List Width → ℕ → ℕ → ℕ
cut registers r n = wrap (width_at registers r) n

abbrev pub constant : List Width → VReg → ℕ → OpKind
constant registers to n = op.Constant to (cut registers to.0 n)

-- the number that is held for a register
abbrev pub number_at : List (Option ℕ) → VReg → Option ℕ
number_at held r = slice_index_or held r.0 None

-- ---- an operation

abbrev pub from_one : List Width → VReg → (ℕ → ℕ) → Option ℕ → Option OpKind
from_one registers to value None = None
from_one registers to value (Some a) = Some (constant registers to (value a))

abbrev pub from_two : List Width → BinaryOp → VReg → VReg → VReg → Option ℕ → Option ℕ → Option OpKind
from_two registers o to left right a None = None
from_two registers o to left right None (Some b) = Some (op.Binary o to left (operand.Constant b))
from_two registers o to left right (Some a) (Some b) = Some (constant registers to (binary_value o a b))

abbrev pub improved_binary : List Width → List (Option ℕ) → BinaryOp → VReg → VReg → Operand → Option OpKind
improved_binary registers held o to left (operand.Register right) =
    from_two registers o to left right (number_at held left) (number_at held right)
improved_binary registers held o to left (operand.Constant b) = from_one registers to (λ a. binary_value o a b) (number_at held left)

-- A constant, or a sum with one; where neither is known the operation stays.
abbrev pub improved : List Width → List (Option ℕ) → OpKind → Option OpKind
improved registers held (op.Copy to from) = from_one registers to (λ a. a) (number_at held from)
improved registers held (op.Unary o to from) = from_one registers to (unary_value o) (number_at held from)
improved registers held (op.Binary o to left right) = improved_binary registers held o to left right
improved registers held (op.Widen to from) =
    from_one registers to (λ a. wrap_signed B4 (sext (width_at registers from.0) a)) (number_at held from)
improved registers held _ = None

abbrev pub or_itself : OpKind → Option OpKind → OpKind
or_itself k None = k
or_itself k (Some better) = better

abbrev pub improved_kind : List Width → List (Option ℕ) → OpKind → OpKind
improved_kind registers held k = or_itself k (improved registers held k)

-- ---- behind an operation

abbrev pub cut_number : List Width → ℕ → Option ℕ → Option ℕ
cut_number registers r None = None
cut_number registers r (Some n) = Some (cut registers r n)

abbrev pub with_number : List Width → Option VReg → Option ℕ → List (Option ℕ) → List (Option ℕ)
with_number registers None n held = held
with_number registers (Some r) n held = slice_set held r.0 (cut_number registers r.0 n)

abbrev pub noted : List Width → OpKind → List (Option ℕ) → List (Option ℕ)
noted registers (op.Label l) held = map (λ _. None) held
noted registers k held = with_number registers (writes k) (number_of k) held
