-- The machine keeps the ranges of what it holds, so that what a word reads is as its type says.
use Rattle.std.proofs.Common.{◌≡◌, ℕ, zero, suc, ◌+◌, ◌-◌, ◌*◌, ◌/◌, ◌%◌, ◌^◌, ◌<◌, ◌≤◌, Bool, true, false, cond, IsTrue, List, []}
use Rattle.std.proofs.Common.{◌∷◌, ◌++◌, length, take, drop, map, replicate, Option, Some, None, refl, sym, ap, subst, ◌∙◌, arith}
use Rattle.std.proofs.Common.{length-append}
use Rattle.std.specs.Prelude.{◌==◌, nat_lt, nat_le, slice_set, slice_index, slice_index_or, bit_or}
use Rattle.std.specs.List.{AllByRecursion, flat_map, range_with_len}
use Rattle.std.proofs.lemmas.List.FromFn.{length-map-range_with_len}
use Rattle.prunum.specs.Width.{byte_count}
use Rattle.prunum.specs.Bytes.{little_bytes}
use Rattle.prutrace.specs.declared.event.Place.{Place}
use Rattle.prutrace.specs.declared.event.Place.TheVariants.{Reg30, Reg31, Addr, Pad}
use Rattle.prutrace.specs.declared.event.Event.{Event}
use Rattle.prutrace.specs.declared.event.Event.TheVariants as events
use Rattle.isa.specs.declared.inst.Inst.{Inst}
use Rattle.isa.specs.declared.inst.Inst.TheVariants as inst
use Rattle.isa.specs.declared.access.Access.{Access}
use Rattle.corestep.specs.declared.out.Input.{Input}
use Rattle.corestep.specs.Core.{State, zeros}
use Rattle.corestep.specs.Fields.{register}
use Rattle.corestep.specs.Memory.{address_of, is_private}
use Rattle.corestep.specs.Pieces.{Piece, pieces, bank_number}
use Rattle.corestep.specs.Effect.{numbers_from}
use Rattle.corestep.specs.Step.{Stepped}
use Rattle.corerun.specs.Fits.{AreBytes, CoreFits, InputFits, StepFits}
use Rattle.corerun.proofs.SizeLemmas.{all_append, all_take, all_drop, little_are_bytes}
use Rattle.corerun.proofs.FollowLemmas.{register_small}
use Rattle.devices.specs.Controller.{Controller as Pending, read_at}
use Rattle.devices.specs.HostBits.{host_bits_of}
use Rattle.devices.specs.Ports.{pad_at, with_pad}
use Rattle.hostscript.specs.declared.action.Action.{Action}
use Rattle.hostscript.specs.declared.action.Action.TheVariants as action
use Rattle.hostscript.specs.declared.action.Act.{Act}
use Rattle.hostscript.specs.Acts.{IsAction, IsAct}
use Rattle.twocore.specs.declared.side.Side.{Side}
use Rattle.twocore.specs.declared.spot.Spot.{Spot}
use Rattle.twocore.specs.declared.spot.Spot.TheVariants.{Own, Other, Shared, Controller, Outside, Nothing}
use Rattle.twocore.specs.declared.world.World.{World}
use Rattle.twocore.specs.Memory.{spot_of, put, ram_byte, window_after, private_after}
use Rattle.twocore.specs.World.{Stage, byte_behind, bytes_in, controller_bytes, controller_after, stored_in}
use Rattle.twocore.specs.World.{r31_of, led_out, all_led_out, pads_at, pads_with, pads_after}
use Rattle.twocore.specs.Word.{filled, bytes_for, pads_for, input_for}
use Rattle.twocore.proofs.PutLemmas.{put_size}

abbrev pub AreWords : List ℕ → Type 0
AreWords values = AllByRecursion (λ v. v < 2 ^ 32) values

pub record SideFits (side : Side) : Type 0 where
  pub core : CoreFits side.core
  pub window : AreBytes side.window

pub record WorldFits (world : World) : Type 0 where
  pub shared : AreBytes world.shared
  pub outside : AreBytes world.outside
  pub pads : AllByRecursion AreWords world.pads
  pub inputs : AllByRecursion (λ v. v < 2 ^ 16) world.pins.inputs

pub record StageFits (s : Stage) : Type 0 where
  pub own : SideFits s.own
  pub other : SideFits s.other
  pub world : WorldFits s.world

-- ---- lists

module _ {X : Type 0} (P : X → Type 0) where
  pub all_set : (xs : List X) (i : ℕ) (v : X) → AllByRecursion P xs → P v → AllByRecursion P (slice_set xs i v)
  all_set [] i v all h = tt
  all_set (x ∷ xs) zero v all h = (h, all.1)
  all_set (x ∷ xs) (suc i) v all h = (all.0, all_set xs i v all.1 h)

  all_index : (xs : List X) (i : ℕ) (d : X) → AllByRecursion P xs → P d → P (slice_index_or xs i d)
  all_index [] i d all h = h
  all_index (x ∷ xs) zero d all h = all.0
  all_index (x ∷ xs) (suc i) d all h = all_index xs i d all.1 h

put_bytes : (memory : List ℕ) (at : ℕ) (bytes : List ℕ) → AreBytes memory → AreBytes bytes → AreBytes (put memory at bytes)
put_bytes memory at [] old new = old
put_bytes memory at (b ∷ bytes) old new =
    put_bytes (slice_set memory at b) (at + 1) bytes (all_set (λ v. v < 256) memory at b old new.0) new.1

-- ---- stores

private_fits : (side : Side) (at : ℕ) (bytes : List ℕ) → SideFits side → AreBytes bytes
    → CoreFits (record side.core { ram = private_after side at bytes })
private_fits side at bytes fits new = record {
  registers_size = fits.core.registers_size;
  registers_bytes = fits.core.registers_bytes;
  ram_size = put_size side.core.ram at (take (0x1E00 - at) bytes) ∙ fits.core.ram_size;
  ram_bytes = put_bytes side.core.ram at (take (0x1E00 - at) bytes) fits.core.ram_bytes (all_take (λ v. v < 256) (0x1E00 - at) bytes new);
}

window_fits : (side : Side) (at : ℕ) (bytes : List ℕ) → SideFits side → AreBytes bytes → AreBytes (window_after side at bytes)
window_fits side at bytes fits new =
    put_bytes side.window (at - 0x1E00) (drop (0x1E00 - at) bytes) fits.window (all_drop (λ v. v < 256) (0x1E00 - at) bytes new)

pub stored_fits : (s : Stage) (spot : Spot) (bytes : List ℕ) → StageFits s → AreBytes bytes → StageFits (stored_in s spot bytes)
stored_fits s (Own at) bytes fits new = record {
  own = record { core = fits.own.core; window = window_fits s.own at bytes fits.own new };
  other = fits.other;
  world = fits.world;
}
stored_fits s (Other at) bytes fits new = record {
  own = fits.own;
  other = record { core = private_fits s.other at bytes fits.other new; window = window_fits s.other at bytes fits.other new };
  world = fits.world;
}
stored_fits s (Shared at) bytes fits new = record {
  own = fits.own;
  other = fits.other;
  world = record {
    shared = put_bytes s.world.shared at bytes fits.world.shared new;
    outside = fits.world.outside;
    pads = fits.world.pads;
    inputs = fits.world.inputs;
  };
}
stored_fits s (Controller at) bytes fits new = record {
  own = fits.own;
  other = fits.other;
  world = record {
    shared = fits.world.shared;
    outside = fits.world.outside;
    pads = fits.world.pads;
    inputs = fits.world.inputs;
  };
}
stored_fits s (Outside at) bytes fits new = record {
  own = fits.own;
  other = fits.other;
  world = record {
    shared = fits.world.shared;
    outside = put_bytes s.world.outside at bytes fits.world.outside new;
    pads = fits.world.pads;
    inputs = fits.world.inputs;
  };
}
stored_fits s Nothing bytes fits new = fits

-- ---- devices

led_fits : (core : ℕ) (world : World) (e : Event) → WorldFits world → WorldFits (led_out core world e)
led_fits core world (events.Write Reg30 width value) fits = record
    { shared = fits.shared; outside = fits.outside; pads = fits.pads; inputs = fits.inputs }
led_fits core world (events.Write Reg31 width value) fits = record
    { shared = fits.shared; outside = fits.outside; pads = fits.pads; inputs = fits.inputs }
led_fits core world (events.Write (Addr a) width value) fits = fits
led_fits core world (events.Write (Pad bank reg) width value) fits = fits
led_fits core world (events.Read place width value) fits = fits
led_fits core world (events.Enter n) fits = fits
led_fits core world (events.Leave n) fits = fits
led_fits core world (events.DelayIn n) fits = fits
led_fits core world (events.DelayOut n) fits = fits
led_fits core world events.Halted fits = fits

pub all_led_fits : (core : ℕ) (world : World) (es : List Event) → WorldFits world → WorldFits (all_led_out core world es)
all_led_fits core world [] fits = fits
all_led_fits core world (e ∷ es) fits = all_led_fits core (led_out core world e) es (led_fits core world e fits)

pads_with_fits : (banks : List (List ℕ)) (bank reg : ℕ) (values : List ℕ) → AllByRecursion AreWords banks → AreWords values
    → AllByRecursion AreWords (pads_with banks bank reg values)
pads_with_fits banks bank reg [] fits new = fits
pads_with_fits banks bank reg (v ∷ values) fits new =
    pads_with_fits (with_pad banks bank reg v) bank (reg + 1) values
    (all_set AreWords banks bank (slice_set (slice_index_or banks bank []) reg v) fits
    (all_set (λ w. w < 2 ^ 32) (slice_index_or banks bank []) reg v (all_index AreWords banks bank [] fits tt) new.0)) new.1

numbers_fit : (registers : List ℕ) (r k : ℕ) → AreBytes registers → AreWords (numbers_from registers r k)
numbers_fit registers r zero fits = tt
numbers_fit registers r (suc k) fits = (register_small registers r fits, numbers_fit registers (r + 1) k fits)

pub pads_after_fits : (banks : List (List ℕ)) (registers : List ℕ) (i : Inst) → AllByRecursion AreWords banks → AreBytes registers
    → AllByRecursion AreWords (pads_after banks registers i)
pads_after_fits banks registers (inst.Xout t) fits new =
    pads_with_fits banks (bank_number t.bank) t.first (numbers_from registers t.first t.count) fits
    (numbers_fit registers t.first t.count new)
pads_after_fits banks registers (inst.Alu op d a b) fits new = fits
pads_after_fits banks registers (inst.Not d a) fits new = fits
pads_after_fits banks registers (inst.Jmp to) fits new = fits
pads_after_fits banks registers (inst.Jal d to) fits new = fits
pads_after_fits banks registers (inst.Ldi d n) fits new = fits
pads_after_fits banks registers (inst.Lmbd d a b) fits new = fits
pads_after_fits banks registers inst.Halt fits new = fits
pads_after_fits banks registers (inst.Xin t) fits new = fits
pads_after_fits banks registers (inst.Loop body) fits new = fits
pads_after_fits banks registers (inst.Branch condition offset a b) fits new = fits
pads_after_fits banks registers (inst.Qba offset) fits new = fits
pads_after_fits banks registers (inst.Load a) fits new = fits
pads_after_fits banks registers (inst.Store a) fits new = fits

-- ---- what a word reads

pub zeros_all : (P : ℕ → Type 0) (n : ℕ) → P 0 → AllByRecursion P (zeros n)
unfolding zeros
zeros_all P zero h = tt
zeros_all P (suc n) h = (h, zeros_all P n h)

pub zeros_size : (n : ℕ) → length (zeros n) ≡ n
unfolding zeros
zeros_size zero = refl
zeros_size (suc n) = ap suc (zeros_size n)

filled_all : (P : ℕ → Type 0) (n : ℕ) (xs : List ℕ) → P 0 → AllByRecursion P xs → AllByRecursion P (filled n xs)
filled_all P n xs h all = all_append P xs (zeros (n - length xs)) all (zeros_all P (n - length xs) h)

filled_size : (n : ℕ) (xs : List ℕ) → length xs ≤ n → length (filled n xs) ≡ n
filled_size n xs h = omega (arith, length-append xs (zeros (n - length xs)), zeros_size (n - length xs))

mapped_all : (P : ℕ → Type 0) (f : ℕ → ℕ) (a n : ℕ) → ((k : ℕ) → P (f k)) → AllByRecursion P (map f (range_with_len a n))
mapped_all P f a zero h = tt
mapped_all P f a (suc n) h = (h a, mapped_all P f (a + 1) n h)

either_small : (b : Bool) (x y : ℕ) → x < 256 → y < 256 → cond b x y < 256
either_small true x y hx hy = hx
either_small false x y hx hy = hy

small_byte : (xs : List ℕ) (i : ℕ) → AreBytes xs → slice_index xs i < 256
small_byte xs i all = all_index (λ v. v < 256) xs i 0 all (omega arith)

ram_byte_small : (side : Side) (at : ℕ) → SideFits side → ram_byte side at < 256
ram_byte_small side at fits =
    either_small (nat_lt at 0x1E00) (slice_index side.core.ram at) (slice_index side.window (at - 0x1E00))
    (small_byte side.core.ram at fits.core.ram_bytes) (small_byte side.window (at - 0x1E00) fits.window)

behind_small : (s : Stage) (spot : Spot) (k : ℕ) → StageFits s → byte_behind s spot k < 256
behind_small s (Own at) k fits = ram_byte_small s.own (at + k) fits.own
behind_small s (Other at) k fits = ram_byte_small s.other (at + k) fits.other
behind_small s (Shared at) k fits = small_byte s.world.shared (at + k) fits.world.shared
behind_small s (Controller at) k fits = omega arith
behind_small s (Outside at) k fits = small_byte s.world.outside (at + k) fits.world.outside
behind_small s Nothing k fits = omega arith

pieces_bytes : (c : Pending) (ps : List Piece) → AreBytes (flat_map (λ p. little_bytes (byte_count p.width) (read_at c p.addr p.width)) ps)
pieces_bytes c [] = tt
pieces_bytes c (p ∷ ps) =
    all_append (λ v. v < 256) (little_bytes (byte_count p.width) (read_at c p.addr p.width)) _
    (little_are_bytes (byte_count p.width) (read_at c p.addr p.width)) (pieces_bytes c ps)

in_bytes : (s : Stage) (spot : Spot) (len : ℕ) → StageFits s → AreBytes (bytes_in s spot len)
in_bytes s (Controller at) len fits = pieces_bytes s.world.intc (pieces at (replicate len 0))
in_bytes s (Own at) len fits = mapped_all (λ v. v < 256) (byte_behind s (Own at)) 0 len (λ k. behind_small s (Own at) k fits)
in_bytes s (Other at) len fits = mapped_all (λ v. v < 256) (byte_behind s (Other at)) 0 len (λ k. behind_small s (Other at) k fits)
in_bytes s (Shared at) len fits = mapped_all (λ v. v < 256) (byte_behind s (Shared at)) 0 len (λ k. behind_small s (Shared at) k fits)
in_bytes s (Outside at) len fits = mapped_all (λ v. v < 256) (byte_behind s (Outside at)) 0 len (λ k. behind_small s (Outside at) k fits)
in_bytes s Nothing len fits = mapped_all (λ v. v < 256) (byte_behind s Nothing) 0 len (λ k. behind_small s Nothing k fits)

controller_size : (c : Pending) (at n : ℕ) → length (controller_bytes c at n) ≡ n
controller_size c at zero = refl
controller_size c at (suc zero) = refl
controller_size c at (suc (suc zero)) = refl
controller_size c at (suc (suc (suc zero))) = refl
controller_size c at (suc (suc (suc (suc n)))) = ap (λ (k : ℕ). suc (suc (suc (suc k)))) (controller_size c ((at + 4) % 2 ^ 32) n)

in_size : (s : Stage) (spot : Spot) (len : ℕ) → length (bytes_in s spot len) ≡ len
in_size s (Controller at) len = controller_size s.world.intc at len
in_size s (Own at) len = length-map-range_with_len (byte_behind s (Own at)) 0 len
in_size s (Other at) len = length-map-range_with_len (byte_behind s (Other at)) 0 len
in_size s (Shared at) len = length-map-range_with_len (byte_behind s (Shared at)) 0 len
in_size s (Outside at) len = length-map-range_with_len (byte_behind s (Outside at)) 0 len
in_size s Nothing len = length-map-range_with_len (byte_behind s Nothing) 0 len

pub record Few (n : ℕ) (P : ℕ → Type 0) (xs : List ℕ) : Type 0 where
  pub size : length xs ≤ n
  pub all : AllByRecursion P xs

few_of : (n : ℕ) (P : ℕ → Type 0) (b : Bool) (xs : List ℕ) → Few n P xs → Few n P (cond b [] xs)
few_of n P true xs few = record { size = omega arith; all = tt }
few_of n P false xs few = few

none_few : (n : ℕ) (P : ℕ → Type 0) → Few n P []
none_few n P = record { size = omega arith; all = tt }

load_few : (s : Stage) (a : Access) → StageFits s → Few 124 (λ v. v < 256) (bytes_for s (inst.Load a))
load_few s a fits =
    let addr : ℕ = address_of s.own.core.registers a in
    few_of 124 (λ v. v < 256) (is_private addr a.len) (bytes_in s (spot_of addr) a.len)
    (record { size = omega (arith, in_size s (spot_of addr) a.len, a.below); all = in_bytes s (spot_of addr) a.len fits })

bytes_few : (s : Stage) (i : Inst) → StageFits s → Few 124 (λ v. v < 256) (bytes_for s i)
bytes_few s (inst.Load a) fits = load_few s a fits
bytes_few s (inst.Alu op d a b) fits = none_few 124 (λ v. v < 256)
bytes_few s (inst.Not d a) fits = none_few 124 (λ v. v < 256)
bytes_few s (inst.Jmp to) fits = none_few 124 (λ v. v < 256)
bytes_few s (inst.Jal d to) fits = none_few 124 (λ v. v < 256)
bytes_few s (inst.Ldi d n) fits = none_few 124 (λ v. v < 256)
bytes_few s (inst.Lmbd d a b) fits = none_few 124 (λ v. v < 256)
bytes_few s inst.Halt fits = none_few 124 (λ v. v < 256)
bytes_few s (inst.Xin t) fits = none_few 124 (λ v. v < 256)
bytes_few s (inst.Xout t) fits = none_few 124 (λ v. v < 256)
bytes_few s (inst.Loop body) fits = none_few 124 (λ v. v < 256)
bytes_few s (inst.Branch condition offset a b) fits = none_few 124 (λ v. v < 256)
bytes_few s (inst.Qba offset) fits = none_few 124 (λ v. v < 256)
bytes_few s (inst.Store a) fits = none_few 124 (λ v. v < 256)

pad_small : (banks : List (List ℕ)) (bank reg : ℕ) → AllByRecursion AreWords banks → pad_at banks bank reg < 2 ^ 32
pad_small banks bank reg fits =
    all_index (λ w. w < 2 ^ 32) (slice_index_or banks bank []) reg 0 (all_index AreWords banks bank [] fits tt) (omega arith)

pads_few : (s : Stage) (i : Inst) → StageFits s → Few 4 (λ v. v < 2 ^ 32) (pads_for s i)
pads_few s (inst.Xin t) fits = record {
  size = omega (arith, length-map-range_with_len (pad_at s.world.pads (bank_number t.bank)) t.first t.count, t.at_most);
  all = mapped_all (λ v. v < 2 ^ 32) (pad_at s.world.pads (bank_number t.bank)) t.first t.count
      (λ k. pad_small s.world.pads (bank_number t.bank) k fits.world.pads);
}
pads_few s (inst.Alu op d a b) fits = none_few 4 (λ v. v < 2 ^ 32)
pads_few s (inst.Not d a) fits = none_few 4 (λ v. v < 2 ^ 32)
pads_few s (inst.Jmp to) fits = none_few 4 (λ v. v < 2 ^ 32)
pads_few s (inst.Jal d to) fits = none_few 4 (λ v. v < 2 ^ 32)
pads_few s (inst.Ldi d n) fits = none_few 4 (λ v. v < 2 ^ 32)
pads_few s (inst.Lmbd d a b) fits = none_few 4 (λ v. v < 2 ^ 32)
pads_few s inst.Halt fits = none_few 4 (λ v. v < 2 ^ 32)
pads_few s (inst.Xout t) fits = none_few 4 (λ v. v < 2 ^ 32)
pads_few s (inst.Loop body) fits = none_few 4 (λ v. v < 2 ^ 32)
pads_few s (inst.Branch condition offset a b) fits = none_few 4 (λ v. v < 2 ^ 32)
pads_few s (inst.Qba offset) fits = none_few 4 (λ v. v < 2 ^ 32)
pads_few s (inst.Load a) fits = none_few 4 (λ v. v < 2 ^ 32)
pads_few s (inst.Store a) fits = none_few 4 (λ v. v < 2 ^ 32)

r31_small : (x h : ℕ) → x < 2 ^ 16 → x + h % 4 * 2 ^ 30 < 2 ^ 32
r31_small x h small = let four : h % 4 < 4 = omega arith in omega arith

pub input_fits : (core : ℕ) (s : Stage) (i : Inst) → StageFits s → InputFits s.own.core.registers (input_for core s i)
input_fits core s i fits =
    let bytes : Few 124 (λ v. v < 256) (bytes_for s i) = bytes_few s i fits in
    let pads : Few 4 (λ v. v < 2 ^ 32) (pads_for s i) = pads_few s i fits in
    record {
      registers_size = fits.own.core.registers_size;
      registers_bytes = fits.own.core.registers_bytes;
      r31 = r31_small (slice_index s.world.pins.inputs core) (host_bits_of s.world.intc)
          (all_index (λ v. v < 2 ^ 16) s.world.pins.inputs core 0 fits.world.inputs (omega arith));
      bytes_size = filled_size 124 (bytes_for s i) bytes.size;
      bytes = filled_all (λ v. v < 256) 124 (bytes_for s i) (omega arith) bytes.all;
      pads_size = filled_size 4 (pads_for s i) pads.size;
      pads = filled_all (λ v. v < 2 ^ 32) 4 (pads_for s i) (omega arith) pads.all;
    }
