-- A function of operations, and when it is valid.
use Rattle.std.specs.Prelude.{◌≡◌, ℕ, ◌<◌, ◌==◌, ◌&&◌, not, Bool, true, false, IsTrue, nat_lt, nat_le, List}
use Rattle.std.specs.Prelude.{[], ◌∷◌, ◌++◌, length, map, Option, Some, None, slice_get}
use Rattle.std.specs.List.{list_all, list_any}
use Rattle.prunum.specs.Width.{byte_count}
use Rattle.prunum.specs.declared.width.Width.{Width}
use Rattle.midcode.specs.declared.register.VReg.{VReg}
use Rattle.midcode.specs.declared.register.Label.{Label}
use Rattle.midcode.specs.declared.signature.Signature.{Signature}
use Rattle.midcode.specs.declared.op.Op.{Op}
use Rattle.midcode.specs.declared.op.OpKind.{OpKind}
use Rattle.midcode.specs.declared.op.OpKind.TheVariants as op
use Rattle.midcode.specs.Operation.{reads, writes, label_of, target_of, base_reads, volatile_reads, parameters}

-- Its registers by their widths, the number of its labels, and its operations in order, each under the id of its node. The first
-- registers are the parameters.
pub record Function : Type 0 where
  pub signature : Signature
  pub registers : List Width
  pub labels : ℕ
  pub nodes : List (ℕ × Op)

abbrev pub kinds_of : List (ℕ × Op) → List OpKind
kinds_of nodes = map (λ n. n.1.kind) nodes

abbrev pub kinds : Function → List OpKind
kinds f = kinds_of f.nodes

-- how many bytes a register has, and 0 where the function has none of this number
abbrev pub size_of : Option Width → ℕ
size_of None = 0
size_of (Some w) = byte_count w

abbrev pub size_at : List Width → VReg → ℕ
size_at registers r = size_of (slice_get registers r.0)

abbrev pub is_word : List Width → VReg → Bool
is_word registers r = size_at registers r == 4

abbrev pub has : List Width → VReg → Bool
has registers r = nat_lt r.0 (length registers)

abbrev pub has_turns : Option ℕ → Bool
has_turns None = true
has_turns (Some n) = nat_le 1 n

-- the widths that the kind of operation asks for, and its numbers
abbrev pub is_sized : List Width → OpKind → Bool
is_sized registers (op.Address to object offset) = is_word registers to
is_sized registers (op.Widen to from) = nat_lt (size_at registers from) (size_at registers to)
is_sized registers (op.Load to b offset) = list_all (is_word registers) (base_reads b)
is_sized registers (op.Store b offset from width) =
    list_all (is_word registers) (base_reads b) && nat_le (byte_count width) (size_at registers from)
is_sized registers (op.Zero object offset bytes) = nat_le 1 bytes && nat_le bytes 256
is_sized registers (op.Read to b offset own) = list_all (is_word registers) (volatile_reads b)
is_sized registers (op.Write b offset from width own) =
    list_all (is_word registers) (volatile_reads b) && nat_le (byte_count width) (size_at registers from)
is_sized registers (op.ReadRegister to register) = is_word registers to
is_sized registers (op.WriteRegister register from) = is_word registers from
is_sized registers (op.ReadPad to bank register) = is_word registers to && (nat_lt bank 3 && nat_lt register 30)
is_sized registers (op.WritePad bank register from) = is_word registers from && (nat_lt bank 3 && nat_lt register 30)
is_sized registers (op.Branch left test right to turns) = has_turns turns
is_sized registers (op.Delay cycles) = nat_le 1 cycles && nat_le cycles 1000000
is_sized registers k = true

abbrev pub each_of : {A : Type 0} → (A → Bool) → Option A → Bool
each_of p None = true
each_of p (Some a) = p a

-- Its registers and labels are among the function's, and it is sized as its kind asks.
abbrev pub fits : List Width → ℕ → OpKind → Bool
fits registers labels k =
    list_all (has registers) (reads k) && each_of (has registers) (writes k) && each_of (λ l. nat_lt l.0 labels) (label_of k) &&
    each_of (λ l. nat_lt l.0 labels) (target_of k) && is_sized registers k

-- the labels that stand in it, in order
abbrev pub standing : List OpKind → List ℕ
standing [] = []
standing (op.Label l ∷ ks) = l.0 ∷ standing ks
standing (_ ∷ ks) = standing ks

abbrev pub stands : List OpKind → ℕ → Bool
stands ks l = list_any (λ m. m == l) (standing ks)

abbrev pub are_distinct : List ℕ → Bool
are_distinct [] = true
are_distinct (l ∷ ls) = not (list_any (λ m. m == l) ls) && are_distinct ls

abbrev pub same_widths : List Width → List Width → Bool
same_widths [] registers = true
same_widths (w ∷ ws) [] = false
same_widths (w ∷ ws) (v ∷ vs) = byte_count w == byte_count v && same_widths ws vs

pub record IsValidFunction (f : Function) : Type 0 where
  pub parameters : IsTrue (same_widths (parameters f.signature) f.registers)
  pub fit : IsTrue (list_all (fits f.registers f.labels) (kinds f))
  pub once : IsTrue (are_distinct (standing (kinds f)))
  pub few : length f.nodes < 1048577
  pub few_registers : length f.registers < 1048577

-- ---- nodes

-- a node of the function, with what stands before it and behind it
pub record IsNode (nodes : List (ℕ × Op)) (node : ℕ) : Type 0 where
  pub front : List (ℕ × Op)
  pub op : Op
  pub back : List (ℕ × Op)
  pub at : nodes ≡ front ++ (node, op) ∷ back

-- wherever the node stands, P holds of what stands before it, of its operation and of what stands behind it
abbrev pub AtNode : List (ℕ × Op) → ℕ → (List (ℕ × Op) → Op → List (ℕ × Op) → Type 0) → Type 0
AtNode nodes node P = (front : List (ℕ × Op)) (op : Op) (back : List (ℕ × Op)) → nodes ≡ front ++ (node, op) ∷ back → P front op back

-- It stands behind all others, in a node of its own.
pub record IsPushed (old new : Function) (op : Op) : Type 0 where
  pub node : ℕ
  pub pushed : new ≡ record old { nodes = old.nodes ++ (node, op) ∷ [] }

-- what may stand behind the operations of a function
pub record MayFollow (f : Function) (k : OpKind) : Type 0 where
  pub fit : IsTrue (fits f.registers f.labels k)
  pub once : (l : Label) → label_of k ≡ Some l → IsTrue (not (stands (kinds f) l.0))
