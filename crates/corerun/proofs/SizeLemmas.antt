-- A word keeps the sizes and ranges of what its core holds, stores bytes, and shows few events.
use Rattle.std.proofs.Common.{◌≡◌, ℕ, zero, suc, ◌+◌, ◌-◌, ◌*◌, ◌/◌, ◌%◌, ◌^◌, ◌<◌, ◌≤◌, Bool, true, false, cond, List, [], ◌∷◌}
use Rattle.std.proofs.Common.{◌++◌, length, take, drop, map, Option, Some, None, refl, sym, ap, subst, ◌∙◌, arith, length-append}
use Rattle.std.proofs.Common.{length-drop}
use Rattle.std.specs.Prelude.{◌==◌, nat_lt, nat_le, option_map, option_to_list}
use Rattle.std.specs.List.{AllByRecursion, flat_map}
use Rattle.std.specs.Int.{bytes_low_first, byte_at}
use Rattle.std.proofs.lemmas.Bool.Decides.{nat_tests}
use Rattle.std.proofs.lemmas.List.{length-take-le}
use Rattle.prunum.specs.Bytes.{little_bytes}
use Rattle.prunum.specs.declared.width.Width.TheVariants.{B4}
use Rattle.prutrace.specs.declared.event.Place.TheVariants.{Reg30, Reg31}
use Rattle.prutrace.specs.declared.event.Event.{Event}
use Rattle.prutrace.specs.declared.event.Event.TheVariants.{Read, Write}
use Rattle.prutrace.specs.declared.event.Event.TheVariants as events
use Rattle.isa.specs.declared.field.Field.{Field}
use Rattle.isa.specs.declared.field.Operand.{Operand}
use Rattle.isa.specs.declared.field.Operand.TheVariants as operand
use Rattle.isa.specs.declared.field.Part.{Part}
use Rattle.isa.specs.declared.field.Part.TheVariants as parts
use Rattle.isa.specs.declared.inst.Inst.{Inst}
use Rattle.isa.specs.declared.inst.Inst.TheVariants as inst
use Rattle.isa.specs.declared.control.Jump.{Jump}
use Rattle.isa.specs.declared.control.Jump.TheVariants as jump
use Rattle.isa.specs.declared.note.Note.{Note}
use Rattle.isa.specs.declared.note.NoteKind.TheVariants.{Enter, DelayIn, DelayOut, Leave}
use Rattle.isa.specs.Image.{Contents}
use Rattle.corestep.specs.declared.goes.Goes.{Goes}
use Rattle.corestep.specs.declared.goes.Goes.TheVariants.{Behind}
use Rattle.corestep.specs.declared.out.Input.{Input}
use Rattle.corestep.specs.Core.{State}
use Rattle.corestep.specs.Fields.{bytes_at, with_bytes, with_field, place_of, part_length, first_byte}
use Rattle.corestep.specs.Fields.{field_reads, operand_reads, field_writes, register, given_to_r31}
use Rattle.corestep.specs.Memory.{address_of, is_private, ram_after}
use Rattle.corestep.specs.Pieces.{Piece, pieces, access_event, access_events, bank_number, pad_events}
use Rattle.corestep.specs.Effect.{Given, Effect, effect, shows, writes, stored, access_place, numbers_from, jump_reads}
use Rattle.corestep.specs.Given.{given_by}
use Rattle.corestep.specs.Step.{Stepped, stepped, istep, step_by, given_at, inst_at, notes_at}
use Rattle.corestep.specs.Step.{after_effect, marks_before, marks_behind, value_of_kind}
use Rattle.corerun.specs.Fits.{AreBytes, InputFits, CoreFits, StepFits}

-- ---- lists of bytes

pub all_append : (P : ℕ → Type 0) (xs ys : List ℕ) → AllByRecursion P xs → AllByRecursion P ys → AllByRecursion P (xs ++ ys)
all_append P [] ys left right = right
all_append P (x ∷ xs) ys left right = (left.0, all_append P xs ys left.1 right)

pub all_take : (P : ℕ → Type 0) (n : ℕ) (xs : List ℕ) → AllByRecursion P xs → AllByRecursion P (take n xs)
all_take P zero xs all = tt
all_take P (suc n) [] all = tt
all_take P (suc n) (x ∷ xs) all = (all.0, all_take P n xs all.1)

pub all_drop : (P : ℕ → Type 0) (n : ℕ) (xs : List ℕ) → AllByRecursion P xs → AllByRecursion P (drop n xs)
all_drop P zero xs all = all
all_drop P (suc n) [] all = tt
all_drop P (suc n) (x ∷ xs) all = all_drop P n xs all.1

low_first_size : (i n x : ℕ) → length (bytes_low_first i n x) ≡ n
low_first_size i zero x = refl
low_first_size i (suc n) x = ap suc (low_first_size (suc i) n x)

digit_small : (i x : ℕ) → byte_at i x < 256
digit_small zero x = omega arith
digit_small (suc i) x = omega arith

low_first_bytes : (i n x : ℕ) → AreBytes (bytes_low_first i n x)
low_first_bytes i zero x = tt
low_first_bytes i (suc n) x = (digit_small i x, low_first_bytes (suc i) n x)

pub little_size : (n x : ℕ) → length (little_bytes n x) ≡ n
little_size n x = low_first_size 0 n x

pub little_are_bytes : (n x : ℕ) → AreBytes (little_bytes n x)
little_are_bytes n x = low_first_bytes 0 n x

-- so many bytes of that size
pub record Sized (n : ℕ) (bytes : List ℕ) : Type 0 where
  pub size : length bytes ≡ n
  pub all : AreBytes bytes

-- a range of it is written
pub with_fits : (n at : ℕ) (bytes list : List ℕ) → at + length bytes ≤ n → AreBytes bytes → Sized n list
    → Sized n (with_bytes at bytes list)
with_fits n at bytes list h all fits =
    let rest : List ℕ = drop (at + length bytes) list in
    let size : length list ≡ n = fits.size in
    record {
      size = omega (
        arith,
        length-append (take at list) (bytes ++ rest),
        length-append bytes rest,
        length-take-le at list
            (omega arith),
        length-drop (at + length bytes) list,
      );
      all = all_append (λ b. b < 256) (take at list) (bytes ++ rest) (all_take (λ b. b < 256) at list fits.all)
          (all_append (λ b. b < 256) bytes rest all (all_drop (λ b. b < 256) (at + length bytes) list fits.all));
    }

either_fits : (n : ℕ) (b : Bool) (xs ys : List ℕ) → Sized n xs → Sized n ys → Sized n (cond b xs ys)
either_fits n true xs ys x y = x
either_fits n false xs ys x y = y

pub range_fits : (n at len : ℕ) (list : List ℕ) → at + len ≤ n → Sized n list → Sized len (bytes_at at len list)
range_fits n at len list h fits =
    let size : length list ≡ n = fits.size in
    record {
      size = length-take-le len (drop at list) (omega (arith, length-drop at list));
      all = all_take (λ b. b < 256) len (drop at list) (all_drop (λ b. b < 256) at list fits.all);
    }

-- ---- fields

part_within : (part : Part) → first_byte part + part_length part ≤ 4
part_within parts.B0 = omega arith
part_within parts.B1 = omega arith
part_within parts.B2 = omega arith
part_within parts.B3 = omega arith
part_within parts.W0 = omega arith
part_within parts.W1 = omega arith
part_within parts.W2 = omega arith
part_within parts.All = omega arith

lt_is : (a b : ℕ) → nat_lt a b ≡ true → a < b
lt_is a b h = grind (arith, nat_tests)

lt_not : (a b : ℕ) → nat_lt a b ≡ false → b ≤ a
lt_not a b h = grind (arith, nat_tests)

le_is : (a b : ℕ) → nat_le a b ≡ true → a ≤ b
le_is a b h = grind (arith, nat_tests)

le_not : (a b : ℕ) → nat_le a b ≡ false → b < a
le_not a b h = grind (arith, nat_tests)

field_fits_by : (d : Field) (n : ℕ) (registers : List ℕ) (b : Bool) → nat_lt d.reg 31 ≡ b → Sized 124 registers
    → Sized 124 (cond b (with_bytes (place_of d) (little_bytes (part_length d.part) n) registers) registers)
field_fits_by d n registers true e fits =
    let below : d.reg < 31 = lt_is d.reg 31 e in
    with_fits 124 (place_of d) (little_bytes (part_length d.part) n) registers
    (omega (arith, little_size (part_length d.part) n, part_within d.part)) (little_are_bytes (part_length d.part) n) fits
field_fits_by d n registers false e fits = fits

field_fits : (d : Field) (n : ℕ) (registers : List ℕ) → Sized 124 registers → Sized 124 (with_field d n registers)
field_fits d n registers fits = field_fits_by d n registers (nat_lt d.reg 31) refl fits

-- ---- few events

to_two : {n : ℕ} → n ≤ 1 → n ≤ 2
to_two h = omega arith

to_many : {n : ℕ} → n ≤ 2 → n ≤ 32
to_many h = omega arith

two_few : (b c : Bool) (x y : Event) → length (cond b (x ∷ []) (cond c (y ∷ []) [])) ≤ 1
two_few true c x y = omega arith
two_few false true x y = omega arith
two_few false false x y = omega arith

reads_few : (outer : ℕ) (f : Field) → length (field_reads outer f) ≤ 1
reads_few outer f = two_few (f.reg == 30) (f.reg == 31) (Read Reg30 B4 outer) (Read Reg31 B4 outer)

operand_few : (outer : ℕ) (o : Operand) → length (operand_reads outer o) ≤ 1
operand_few outer (operand.Field f) = reads_few outer f
operand_few outer (operand.Imm n) = omega arith

jump_few : (outer : ℕ) (to : Jump) → length (jump_reads outer to) ≤ 1
jump_few outer (jump.Field f) = reads_few outer f
jump_few outer (jump.Word n) = omega arith

writes_few : (d : Field) (n : ℕ) (registers : List ℕ) → length (field_writes d n registers) ≤ 1
writes_few d n registers = two_few (d.reg == 30) (d.reg == 31) (Write Reg30 B4 (register (with_field d n registers) 30))
    (Write Reg31 B4 (given_to_r31 d.part n))

length-pads : (store : Bool) (bank reg : ℕ) (values : List ℕ) → length (pad_events store bank reg values) ≡ length values
length-pads store bank reg [] = refl
length-pads store bank reg (v ∷ values) = ap suc (length-pads store bank (reg + 1) values)

pieces_few : (store : Bool) (addr : ℕ) (bytes : List ℕ) → 4 * length (access_events store addr bytes) ≤ length bytes + 5
pieces_few store addr [] = omega arith
pieces_few store addr (a ∷ []) = omega arith
pieces_few store addr (a ∷ b ∷ []) = omega arith
pieces_few store addr (a ∷ b ∷ c ∷ []) = omega arith
pieces_few store addr (a ∷ b ∷ c ∷ d ∷ bytes) = let ih = pieces_few store ((addr + 4) % 2 ^ 32) bytes in omega arith

mark_few : (event : ℕ → Event) (o : Option ℕ) → length (option_to_list (option_map event o)) ≤ 1
mark_few event None = omega arith
mark_few event (Some n) = omega arith

two_marks : (one two : ℕ → Event) (a b : Option ℕ) → length (option_to_list (option_map one a) ++ option_to_list (option_map two b)) ≤ 2
two_marks one two a b =
    omega (arith, length-append (option_to_list (option_map one a)) (option_to_list (option_map two b)), mark_few one a, mark_few two b)

before_few : (notes : List Note) → length (marks_before notes) ≤ 2
before_few notes = two_marks (λ v. events.Enter (v % 2 ^ 16)) events.DelayIn (value_of_kind Enter notes) (value_of_kind DelayIn notes)

take_few : (n : ℕ) (xs : List ℕ) → length (take n xs) ≤ n
take_few zero xs = omega arith
take_few (suc n) [] = omega arith
take_few (suc n) (x ∷ xs) = let ih = take_few n xs in omega arith

words_size : (xs : List ℕ) → length (flat_map (little_bytes 4) xs) ≡ 4 * length xs
words_size [] = omega arith
words_size (x ∷ xs) = let ih = words_size xs in let four = little_size 4 x in omega arith

words_bytes : (xs : List ℕ) → AreBytes (flat_map (little_bytes 4) xs)
words_bytes [] = tt
words_bytes (x ∷ xs) = all_append (λ b. b < 256) (little_bytes 4 x) (flat_map (little_bytes 4) xs) (little_are_bytes 4 x) (words_bytes xs)

numbers_size : (registers : List ℕ) (r k : ℕ) → length (numbers_from registers r k) ≡ k
numbers_size registers r zero = refl
numbers_size registers r (suc k) = ap suc (numbers_size registers (r + 1) k)

-- ---- an instruction

pub record EffectFits (e : Effect) : Type 0 where
  pub registers : Sized 124 e.registers
  pub ram : Sized 0x1E00 e.ram
  pub stored : AreBytes e.stored

module _ (registers ram : List ℕ) (core : Sized 124 registers) (own : Sized 0x1E00 ram) where
  writes_fits : (events : List Event) (d : Field) (n : ℕ) (goes : Goes) → EffectFits (writes registers ram events d n goes)
  writes_fits events d n goes = record { registers = field_fits d n registers core; ram = own; stored = tt }

  shows_fits : (after : List ℕ) (events : List Event) (goes : Goes) → Sized 124 after → EffectFits (shows after ram events goes)
  shows_fits after events goes fits = record { registers = fits; ram = own; stored = tt }

  loaded_by : (b : Bool) (addr len place : ℕ) (bytes : List ℕ) → is_private addr len ≡ b → place + len ≤ 124 → Sized len bytes
      → EffectFits (cond b (shows (with_bytes place (bytes_at addr len ram) registers) ram [] Behind)
      (shows (with_bytes place bytes registers) ram (access_events false addr bytes) Behind))
  loaded_by true addr len place bytes e h fits =
      let inside : addr + len ≤ 0x1E00 = le_is (addr + len) 0x1E00 e in
      let range : Sized len (bytes_at addr len ram) = range_fits 0x1E00 addr len ram inside own in
      let size : length (bytes_at addr len ram) ≡ len = range.size in
      shows_fits _ [] Behind (with_fits 124 place (bytes_at addr len ram) registers (omega arith) range.all core)
  loaded_by false addr len place bytes e h fits =
      let size : length bytes ≡ len = fits.size in
      shows_fits _ (access_events false addr bytes) Behind (with_fits 124 place bytes registers (omega arith) fits.all core)

  ram_fits_by : (b : Bool) (addr : ℕ) (bytes : List ℕ) → nat_lt addr 0x1E00 ≡ b → AreBytes bytes
      → Sized 0x1E00 (cond b (with_bytes addr (take (0x1E00 - addr) bytes) ram) ram)
  ram_fits_by true addr bytes e all =
      let inside : addr < 0x1E00 = lt_is addr 0x1E00 e in
      with_fits 0x1E00 addr (take (0x1E00 - addr) bytes) ram (omega (arith, take_few (0x1E00 - addr) bytes))
      (all_take (λ b. b < 256) (0x1E00 - addr) bytes all) own
  ram_fits_by false addr bytes e all = own

  stored_by : (b : Bool) (addr : ℕ) (bytes : List ℕ) → is_private addr (length bytes) ≡ b → AreBytes bytes
      → EffectFits (cond b (shows registers (with_bytes addr bytes ram) [] Behind)
      (record {
        registers = registers;
        ram = ram_after ram addr bytes;
        events = access_events true addr bytes;
        at = addr;
        stored = bytes;
        goes = Behind;
      }))
  stored_by true addr bytes e all = record {
    registers = core;
    ram = with_fits 0x1E00 addr bytes ram (le_is (addr + length bytes) 0x1E00 e) all own;
    stored = tt;
  }
  stored_by false addr bytes e all = record { registers = core; ram = ram_fits_by (nat_lt addr 0x1E00) addr bytes refl all; stored = all }

  module _ (behind : ℕ) (input : Input) (bytes_size : length input.bytes ≡ 124) (bytes : AreBytes input.bytes)
      (pads_size : length input.pads ≡ 4) where
    pub effect_fits : (i : Inst) → EffectFits (effect behind registers ram (given_by registers input i) i)
    effect_fits (inst.Alu op d a b) = writes_fits _ d _ Behind
    effect_fits (inst.Not d a) = writes_fits _ d _ Behind
    effect_fits (inst.Jmp to) = shows_fits registers _ _ core
    effect_fits (inst.Jal d to) = writes_fits _ d _ _
    effect_fits (inst.Ldi d n) = writes_fits [] d n Behind
    effect_fits (inst.Lmbd d a b) = writes_fits _ d _ Behind
    effect_fits inst.Halt = shows_fits registers _ _ core
    effect_fits (inst.Xin t) =
        let pads : List ℕ = take t.count input.pads in
        let long : length pads ≡ t.count = length-take-le t.count input.pads (omega (arith, t.at_most)) in
        let words : List ℕ = flat_map (little_bytes 4) pads in
        shows_fits _ (pad_events false (bank_number t.bank) t.first pads) Behind
        (with_fits 124 (4 * t.first) words registers (omega (arith, words_size pads, t.below)) (words_bytes pads) core)
    effect_fits (inst.Xout t) =
        shows_fits registers (pad_events true (bank_number t.bank) t.first (numbers_from registers t.first t.count)) Behind core
    effect_fits (inst.Loop body) = shows_fits registers [] _ core
    effect_fits (inst.Branch condition offset a b) = shows_fits registers _ _ core
    effect_fits (inst.Qba offset) = shows_fits registers [] _ core
    effect_fits (inst.Load a) =
        let addr : ℕ = address_of registers a in
        let read : List ℕ = take a.len input.bytes in
        loaded_by (is_private addr a.len) addr a.len (access_place a) read refl (omega (arith, a.below))
        (record {
          size = length-take-le a.len input.bytes (omega (arith, a.below));
          all = all_take (λ b. b < 256) a.len input.bytes bytes;
        })
    effect_fits (inst.Store a) =
        let addr : ℕ = address_of registers a in
        let range : Sized a.len (bytes_at (access_place a) a.len registers) =
        range_fits 124 (access_place a) a.len registers (omega (arith, a.below)) core in
        stored_by (is_private addr (length (bytes_at (access_place a) a.len registers))) addr
        (bytes_at (access_place a) a.len registers) refl
        range.all

-- ---- its events

either_few : (b : Bool) (x y : Effect) → length x.events ≤ 32 → length y.events ≤ 32 → length (cond b x y).events ≤ 32
either_few true x y left right = left
either_few false x y left right = right

access_few : (store : Bool) (addr n : ℕ) (bytes : List ℕ) → n ≤ 120 → length bytes ≤ n → length (access_events store addr bytes) ≤ 32
access_few store addr n bytes h few = omega (arith, pieces_few store addr bytes)

behind_reads : (reads : List Event) (d : Field) (n : ℕ) (registers : List ℕ) → length reads ≤ 2
    → length (reads ++ field_writes d n registers) ≤ 32
behind_reads reads d n registers few = omega (arith, length-append reads (field_writes d n registers), writes_few d n registers)

both_few : (x y : List Event) → length x ≤ 1 → length y ≤ 1 → length (x ++ y) ≤ 2
both_few x y left right = omega (arith, length-append x y)

module _ (behind : ℕ) (registers ram : List ℕ) (input : Input) where
  effect_few : (i : Inst) → length (effect behind registers ram (given_by registers input i) i).events ≤ 32
  effect_few (inst.Alu op d a b) = behind_reads _ d _ registers (both_few _ _ (reads_few _ a) (operand_few _ b))
  effect_few (inst.Not d a) = behind_reads _ d _ registers (to_two (reads_few _ a))
  effect_few (inst.Jmp to) = to_many (to_two (jump_few _ to))
  effect_few (inst.Jal d to) = behind_reads _ d _ registers (to_two (jump_few _ to))
  effect_few (inst.Ldi d n) = behind_reads [] d n registers (omega arith)
  effect_few (inst.Lmbd d a b) = behind_reads _ d _ registers (both_few _ _ (reads_few _ a) (operand_few _ b))
  effect_few inst.Halt = omega arith
  effect_few (inst.Xin t) =
      let pads : List ℕ = take t.count input.pads in
      omega (arith, length-pads false (bank_number t.bank) t.first pads, take_few t.count input.pads, t.at_most)
  effect_few (inst.Xout t) =
      let values : List ℕ = numbers_from registers t.first t.count in
      omega (arith, length-pads true (bank_number t.bank) t.first values, numbers_size registers t.first t.count, t.at_most)
  effect_few (inst.Loop body) = omega arith
  effect_few (inst.Branch condition offset a b) = to_many (both_few _ _ (reads_few _ a) (operand_few _ b))
  effect_few (inst.Qba offset) = omega arith
  effect_few (inst.Load a) =
      let addr : ℕ = address_of registers a in
      let read : List ℕ = take a.len input.bytes in
      either_few (is_private addr a.len) (shows (with_bytes (access_place a) (bytes_at addr a.len ram) registers) ram [] Behind)
      (shows (with_bytes (access_place a) read registers) ram (access_events false addr read) Behind) (omega arith)
      (access_few false addr a.len read (omega (arith, a.below)) (take_few a.len input.bytes))
  effect_few (inst.Store a) =
      let addr : ℕ = address_of registers a in
      let bytes : List ℕ = bytes_at (access_place a) a.len registers in
      either_few (is_private addr (length bytes)) (shows registers (with_bytes addr bytes ram) [] Behind)
      (record {
        registers = registers;
        ram = ram_after ram addr bytes;
        events = access_events true addr bytes;
        at = addr;
        stored = bytes;
        goes = Behind;
      })
      (omega arith) (access_few true addr a.len bytes (omega (arith, a.below)) (take_few a.len (drop (access_place a) registers)))

-- ---- a word

after_fits : (notes : List Note) (s : State) (i : Inst) (e : Effect) → EffectFits e → StepFits (after_effect notes s i e)
after_fits notes s i e fits = record {
  core = record {
    registers_size = fits.registers.size;
    registers_bytes = fits.registers.all;
    ram_size = fits.ram.size;
    ram_bytes = fits.ram.all;
  };
  stored = fits.stored;
}

behind_few : (all : List Note) → length (marks_behind all) ≤ 2
behind_few all = two_marks events.DelayOut (λ v. events.Leave (v % 2 ^ 16)) (value_of_kind DelayOut all) (value_of_kind Leave all)

step_fits_by : (image : Contents) (s : State) (input : Input) (o : Option Inst) → CoreFits s → InputFits s.registers input
    → StepFits (step_by image.notes s (given_at s input o) o)
step_fits_by image s input None core fits = record { core = core; stored = tt }
step_fits_by image s input (Some i) core fits =
    after_fits (notes_at image.notes s.pc) s i _
    (effect_fits s.registers s.ram (record { size = core.registers_size; all = core.registers_bytes })
    (record { size = core.ram_size; all = core.ram_bytes }) (s.pc + 1) input fits.bytes_size fits.bytes fits.pads_size i)

pub step_fits : (image : Contents) (s : State) (input : Input) → CoreFits s → InputFits s.registers input
    → StepFits (stepped image s input)
unfolding istep
step_fits image s input core fits = step_fits_by image s input (inst_at image.words s.pc) core fits

after_few : (notes : List Note) (s : State) (i : Inst) (e : Effect) → length e.events ≤ 32
    → length (after_effect notes s i e).out.events ≤ 36
after_few notes s i e few =
    omega (
      arith,
      length-append (marks_before notes) (e.events ++ marks_behind notes),
      length-append e.events (marks_behind notes),
      before_few notes,
      behind_few notes,
    )

step_few_by : (image : Contents) (s : State) (input : Input) (o : Option Inst)
    → length (step_by image.notes s (given_at s input o) o).out.events ≤ 36
step_few_by image s input None = omega arith
step_few_by image s input (Some i) =
    after_few (notes_at image.notes s.pc) s i (effect (s.pc + 1) s.registers s.ram (given_by s.registers input i) i)
    (effect_few (s.pc + 1) s.registers s.ram input i)

pub step_few : (image : Contents) (s : State) (input : Input) → length (stepped image s input).out.events ≤ 36
unfolding istep
step_few image s input = step_few_by image s input (inst_at image.words s.pc)
