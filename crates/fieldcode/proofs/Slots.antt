-- Operands that come from their homes, and results that go to theirs.
use Rattle.std.proofs.Common.{◌≡◌, ℕ, ◌+◌, ◌-◌, ◌*◌, ◌/◌, ◌%◌, ◌^◌, ◌<◌, ◌≤◌, Bool, true, false, List, [], ◌∷◌, ◌++◌, length, take, drop}
use Rattle.std.proofs.Common.{refl, sym, ap, ◌∙◌, arith, inl, inr, ◌⊎◌, lit<, lit≤, length-drop, subst}
use Rattle.std.specs.Prelude.{if◌then◌else◌, nat_le}
use Rattle.std.proofs.lemmas.Bool.{le-leb}
use Rattle.std.proofs.lemmas.List.{length-take-le}
use Rattle.prunum.specs.Bytes.{little_number}
use Rattle.prunum.specs.Number.{bit_count}
use Rattle.prunum.specs.Width.{byte_count}
use Rattle.prunum.specs.declared.width.Width.{Width}
use Rattle.prunum.specs.declared.width.Width.TheVariants.{B1, B2, B4}
use Rattle.isa.specs.declared.access.Access.{Access}
use Rattle.isa.specs.declared.field.Field.{Field}
use Rattle.isa.specs.declared.field.Part.{Part}
use Rattle.isa.specs.declared.field.Part.TheVariants as parts
use Rattle.isa.specs.declared.inst.Inst.{Inst}
use Rattle.isa.specs.declared.inst.Inst.TheVariants as inst
use Rattle.corestep.specs.declared.goes.Goes.TheVariants.{Behind}
use Rattle.corestep.specs.Effect.{Given, effect, shows, loaded, stored, access_place}
use Rattle.corestep.specs.Fields as fields
use Rattle.corestep.specs.Fields.{bytes_at, with_bytes, place_of, part_length}
use Rattle.corestep.specs.Memory.{address_of, is_private, ram_after}
use Rattle.corestep.specs.Pieces.{access_events}
use Rattle.callconv.specs.Places.{first_byte, field_size, part_first, part_size}
use Rattle.subreg.specs.Allocation.{IsField}
use Rattle.fieldcode.specs.Homes.{number_at, AreApart, IsApartFrom, Keeps}
use Rattle.fieldcode.specs.Insts.{whole, low_field, slot_access, from_slot, to_slot}
use Rattle.fieldcode.specs.Runs.{Does, Straight, none, next}
use Rattle.fieldcode.proofs.Bytes.{with_size, read_same, read_below, read_above}
use Rattle.fieldcode.proofs.Steps.{number_of, put, ldi_does, put_size, put_same, put_keeps, keeps_all, inner}

-- ---- fields of homes

part_first_is : (p : Part) → part_first p ≡ fields.first_byte p
part_first_is parts.B0 = refl
part_first_is parts.B1 = refl
part_first_is parts.B2 = refl
part_first_is parts.B3 = refl
part_first_is parts.W0 = refl
part_first_is parts.W1 = refl
part_first_is parts.W2 = refl
part_first_is parts.All = refl

part_size_is : (p : Part) → part_size p ≡ part_length p
part_size_is parts.B0 = refl
part_size_is parts.B1 = refl
part_size_is parts.B2 = refl
part_size_is parts.B3 = refl
part_size_is parts.W0 = refl
part_size_is parts.W1 = refl
part_size_is parts.W2 = refl
part_size_is parts.All = refl

pub place_is : (f : Field) → first_byte f ≡ place_of f
place_is f = ap (λ n. 4 * f.reg + n) (part_first_is f.part)

pub length_is : (f : Field) (w : Width) → IsField f w → byte_count w ≡ part_length f.part
length_is f w home = sym home.size ∙ part_size_is f.part

pub home_number : (f : Field) (w : Width) (registers : List ℕ) → IsField f w
    → number_at (first_byte f) (byte_count w) registers ≡ number_of registers f
home_number f w registers home =
    ap (λ n. number_at n (byte_count w) registers) (place_is f) ∙ ap (λ n. number_at (place_of f) n registers) (length_is f w home)

some_bytes : (w : Width) → 1 ≤ byte_count w
some_bytes B1 = lit≤ tt
some_bytes B2 = lit≤ tt
some_bytes B4 = lit≤ tt

pub few_bytes : (w : Width) → byte_count w ≤ 4
few_bytes B1 = lit≤ tt
few_bytes B2 = lit≤ tt
few_bytes B4 = lit≤ tt

pub home_low : (f : Field) (w : Width) → IsField f w → f.reg < 30
home_low f w home =
    let size = home.size in
    let to = home.to in
    omega (arith, size, to, some_bytes w)

-- ---- loads and stores

abbrev pub address : Field
address = whole 0

at_is : (registers : List ℕ) (r at : ℕ) (w : Width) → number_of registers address ≡ at → at < 2 ^ 32
    → address_of registers (slot_access r w) ≡ at
at_is registers r at w is fits = ap (λ n. (0 + n) % 2 ^ 32) is ∙ omega (arith, fits)

abbrev pub slot_first : ℕ → ℕ
slot_first r = 4 * (26 + r % 3) + 0

load_does : (registers ram : List ℕ) (r at : ℕ) (w : Width) → number_of registers address ≡ at → at + byte_count w ≤ 0x1E00
    → Does (inst.Load (slot_access r w)) registers ram (with_bytes (slot_first r) (bytes_at at (byte_count w) ram) registers) ram
load_does registers ram r at w is room = record {
  effect = λ behind g.
      ap (λ n. loaded registers ram (slot_access r w) n g.bytes) (at_is registers r at w is (omega (arith, room)))
      ∙ ap (λ (b : Bool). if b then shows (with_bytes (slot_first r) (bytes_at at (byte_count w) ram) registers) ram [] Behind
      else shows (with_bytes (slot_first r) g.bytes registers) ram (access_events false at g.bytes) Behind)
      (le-leb (at + byte_count w) 0x1E00 room);
}

store_does : (registers ram : List ℕ) (r at : ℕ) (w : Width) → number_of registers address ≡ at → at + byte_count w ≤ 0x1E00
    → length registers ≡ 124
    → Does (inst.Store (slot_access r w)) registers ram registers (with_bytes at (bytes_at (slot_first r) (byte_count w) registers) ram)
store_does registers ram r at w is room full =
    let bytes : List ℕ = bytes_at (slot_first r) (byte_count w) registers in
    let size : length bytes ≡ byte_count w =
    length-take-le (byte_count w) (drop (slot_first r) registers) (omega (
      arith,
      full,
      few_bytes w,
      length-drop
          (slot_first r) registers,
    )) in
    record {
      effect = λ behind g.
          ap (λ n. stored registers ram n bytes) (at_is registers r at w is (omega (arith, room)))
          ∙ ap (λ (b : Bool). if b then shows registers (with_bytes at bytes ram) [] Behind
          else record {
            registers = registers;
            ram = ram_after ram at bytes;
            events = access_events true at bytes;
            at = at;
            stored = bytes;
            goes = Behind;
          }) (le-leb (at + length bytes) 0x1E00 (omega (arith, size, room)));
    }

-- ---- from a slot

-- R0, and a register from R26 on
abbrev pub fetch_ranges : ℕ → List (ℕ × ℕ)
fetch_ranges r = (0, 12) ∷ (slot_first r, 4) ∷ []

pub record Fetched (code : List Inst) (r at len : ℕ) (registers ram : List ℕ) : Type 0 where
  pub after : List ℕ
  pub straight : Straight code registers ram after ram
  pub kept : Keeps (fetch_ranges r) registers after
  pub value : number_at (slot_first r) len after ≡ number_at at len ram

pub from_slot_does : (registers ram : List ℕ) (r at : ℕ) (w : Width) → length registers ≡ 124 → length ram ≡ 0x1E00
    → at + byte_count w ≤ 0x1E00 → Fetched (from_slot at r w) r at (byte_count w) registers ram
from_slot_does registers ram r at w full ram_full room =
    let middle : List ℕ = put address (at % 65536) registers in
    let bytes : List ℕ = bytes_at at (byte_count w) ram in
    let size : length middle ≡ 124 = put_size address (at % 65536) registers (lit< tt) full in
    let there : number_of middle address ≡ at =
    put_same address (at % 65536) registers (lit< tt) full ∙ (let e : at % 65536 % 2 ^ 32 ≡ at = omega (arith, room) in e) in
    let long : length bytes ≡ byte_count w =
    length-take-le (byte_count w) (drop at ram) (omega (arith, ram_full, room, length-drop at ram)) in
    let fits : slot_first r + length bytes ≤ length middle = omega (arith, long, size, few_bytes w) in
    let after : List ℕ = with_bytes (slot_first r) bytes middle in
    record {
      after = after;
      straight = next (inst.Ldi address (at % 65536)) (inst.Load (slot_access r w) ∷ []) registers ram middle ram after ram
          (ldi_does address (at % 65536) registers ram (lit< tt))
          (next (inst.Load (slot_access r w)) [] middle ram after ram after ram (load_does middle ram r at w there room) (none after ram));
      kept = keeps_all (fetch_ranges r) registers middle after
          (put_keeps address (at % 65536) registers (lit< tt) full (fetch_ranges r)
          (λ a len from. inner a len 0 12 0 4 (lit≤ tt) (lit≤ tt) from.0))
          (record {
            size = with_size (slot_first r) bytes middle fits;
            others = λ a len from. elim from.1.0 [
              | inl less ↦ read_below (slot_first r) bytes middle fits a len less
              | inr more ↦ read_above (slot_first r) bytes middle fits a len (omega (arith, more, long, few_bytes w))
            ];
          });
      value = ap (λ n. little_number (byte_count w) (bytes_at (slot_first r) n after)) (sym long)
          ∙ ap (little_number (byte_count w)) (read_same (slot_first r) bytes middle fits);
    }

-- ---- to a slot

pub record Kept (code : List Inst) (r at len : ℕ) (registers ram : List ℕ) : Type 0 where
  pub after : List ℕ
  pub left : List ℕ
  pub straight : Straight code registers ram after left
  pub kept : Keeps ((0, 12) ∷ []) registers after
  pub ram_kept : Keeps ((at, len) ∷ []) ram left
  pub value : number_at at len left ≡ number_at (slot_first r) len registers

pub to_slot_does : (registers ram : List ℕ) (r at : ℕ) (w : Width) → length registers ≡ 124 → length ram ≡ 0x1E00
    → at + byte_count w ≤ 0x1E00 → Kept (to_slot at r w) r at (byte_count w) registers ram
to_slot_does registers ram r at w full ram_full room =
    let middle : List ℕ = put address (at % 65536) registers in
    let size : length middle ≡ 124 = put_size address (at % 65536) registers (lit< tt) full in
    let there : number_of middle address ≡ at =
    put_same address (at % 65536) registers (lit< tt) full ∙ (let e : at % 65536 % 2 ^ 32 ≡ at = omega (arith, room) in e) in
    let bytes : List ℕ = bytes_at (slot_first r) (byte_count w) middle in
    let long : length bytes ≡ byte_count w =
    length-take-le (byte_count w) (drop (slot_first r) middle) (omega (arith, size, few_bytes w, length-drop (slot_first r) middle)) in
    let fits : at + length bytes ≤ length ram = omega (arith, long, ram_full, room) in
    let left : List ℕ = with_bytes at bytes ram in
    let kept : Keeps ((0, 12) ∷ []) registers middle =
    put_keeps address (at % 65536) registers (lit< tt) full ((0, 12) ∷ [])
    (λ a len from. inner a len 0 12 0 4 (lit≤ tt) (lit≤ tt) from.0) in
    record {
      after = middle;
      left = left;
      straight = next (inst.Ldi address (at % 65536)) (inst.Store (slot_access r w) ∷ []) registers ram middle ram middle left
          (ldi_does address (at % 65536) registers ram (lit< tt))
          (next (inst.Store (slot_access r w)) [] middle ram middle left middle left (store_does middle ram r at w there room size)
          (none middle left));
      kept = kept;
      ram_kept = record {
        size = with_size at bytes ram fits;
        others = λ a len from. elim from.0 [
          | inl less ↦ read_below at bytes ram fits a len less
          | inr more ↦ read_above at bytes ram fits a len (omega (arith, more, long))
        ];
      };
      value = ap (λ n. little_number (byte_count w) (bytes_at at n left)) (sym long)
          ∙ ap (little_number (byte_count w)) (read_same at bytes ram fits)
          ∙ ap (little_number (byte_count w)) (kept.others (slot_first r) (byte_count w) (inr (omega arith), tt));
    }
