-- The cycles of a trace don't fall, word by word.
use Rattle.std.proofs.Common.{◌≡◌, ℕ, zero, suc, ◌+◌, ◌%◌, ◌^◌, ◌<◌, ◌≤◌, Bool, true, false, cond, List, [], ◌∷◌, ◌++◌}
use Rattle.std.proofs.Common.{length, take, map, Option, Some, None, refl, sym, ap, subst, ◌∙◌, arith}
use Rattle.std.specs.Prelude.{◌==◌, ◌&&◌, option_map, option_to_list}
use Rattle.std.specs.List.{AllByRecursion}
use Rattle.std.proofs.lemmas.List.{append-nil}
use Rattle.prunum.specs.declared.width.Width.{Width}
use Rattle.prunum.specs.declared.width.Width.TheVariants.{B4}
use Rattle.prutrace.specs.declared.event.Place.{Place}
use Rattle.prutrace.specs.declared.event.Place.TheVariants.{Reg30, Reg31, Addr, Pad}
use Rattle.prutrace.specs.declared.event.Event.{Event}
use Rattle.prutrace.specs.declared.event.Event.TheVariants as events
use Rattle.prutrace.specs.declared.event.Stamped.{Stamped}
use Rattle.isa.specs.declared.control.Jump.{Jump}
use Rattle.isa.specs.declared.control.Jump.TheVariants as jump
use Rattle.isa.specs.declared.field.Field.{Field}
use Rattle.isa.specs.declared.field.Operand.{Operand}
use Rattle.isa.specs.declared.field.Operand.TheVariants as operand
use Rattle.isa.specs.declared.inst.Inst.{Inst}
use Rattle.isa.specs.declared.inst.Inst.TheVariants as inst
use Rattle.isa.specs.declared.note.Note.{Note}
use Rattle.isa.specs.declared.note.NoteKind.TheVariants.{Enter, DelayIn, DelayOut, Leave}
use Rattle.isa.specs.Image.{Contents}
use Rattle.corestep.specs.declared.goes.Goes.TheVariants.{Behind}
use Rattle.corestep.specs.declared.out.Input.{Input}
use Rattle.corestep.specs.Core.{State}
use Rattle.corestep.specs.Fields.{bytes_at, with_bytes, register, with_field, given_to_r31, field_reads, operand_reads, field_writes}
use Rattle.corestep.specs.Memory.{address_of, is_private, ram_after}
use Rattle.corestep.specs.Pieces.{Piece, pieces, access_event, access_events, bank_number, pad_events}
use Rattle.corestep.specs.Effect.{Effect, effect, shows, access_place, numbers_from, jump_reads}
use Rattle.corestep.specs.Given.{given_by}
use Rattle.corestep.specs.Step.{Stepped, stepped, istep, step_by, given_at, inst_at, notes_at}
use Rattle.corestep.specs.Step.{after_effect, marks_before, marks_behind, value_of_kind}
use Rattle.twocore.specs.declared.setup.Setup.{Setup}
use Rattle.twocore.specs.declared.side.Side.{Side}
use Rattle.twocore.specs.declared.side.Word.{Word}
use Rattle.corestep.specs.declared.table.Table.{Table}
use Rattle.hostscript.specs.declared.script.Script.{Script}
use Rattle.twocore.specs.Memory.{spot_of}
use Rattle.twocore.specs.World.{Stage, stored_in}
use Rattle.twocore.specs.Word.{Turned, quiet, beginning, begun_by, begun, input_for, stamp_of}
use Rattle.twocore.specs.Word.{stamped_by, ended, worked_by, worked, is_going, turned}
use Rattle.twocore.specs.Machine.{Machine, acts_at, swapped, cycle, cycles, at_start_of, M}
use Rattle.twocore.specs.Alone.{behind_acts, behind_zero}
use Rattle.twocore.specs.Stamps.{Ascends}
use Rattle.twocore.proofs.KeepLemmas.{Keeps, KeepsBoth, moved, stored_keeps_own, all_acted_keeps, turned_keeps}

-- ---- lists of events

module _ {X : Type 0} (P : X → Type 0) where
  all_append : (xs ys : List X) → AllByRecursion P xs → AllByRecursion P ys → AllByRecursion P (xs ++ ys)
  all_append [] ys left right = right
  all_append (x ∷ xs) ys left right = (left.0, all_append xs ys left.1 right)

  all_also : (Q : X → Type 0) (xs : List X) → ((x : X) → P x → Q x) → AllByRecursion P xs → AllByRecursion Q xs
  all_also Q [] so all = tt
  all_also Q (x ∷ xs) so all = (so x all.0, all_also Q xs so all.1)

abbrev To : ℕ → List Stamped → Type 0
To b trace = AllByRecursion (λ s. s.cycle ≤ b) trace

abbrev From : ℕ → List Stamped → Type 0
From b trace = AllByRecursion (λ s. b ≤ s.cycle) trace

abbrev At : ℕ → List Stamped → Type 0
At b trace = AllByRecursion (λ s. s.cycle ≡ b) trace

to_more : (a b : ℕ) (trace : List Stamped) → a ≤ b → To a trace → To b trace
to_more a b trace h all = all_also (λ s. s.cycle ≤ a) (λ s. s.cycle ≤ b) trace (λ s low. omega arith) all

from_less : (a b : ℕ) (trace : List Stamped) → a ≤ b → From b trace → From a trace
from_less a b trace h all = all_also (λ s. b ≤ s.cycle) (λ s. a ≤ s.cycle) trace (λ s high. omega arith) all

at_to : (b : ℕ) (trace : List Stamped) → At b trace → To b trace
at_to b trace all = all_also (λ s. s.cycle ≡ b) (λ s. s.cycle ≤ b) trace (λ s is. omega arith) all

at_from : (b : ℕ) (trace : List Stamped) → At b trace → From b trace
at_from b trace all = all_also (λ s. s.cycle ≡ b) (λ s. b ≤ s.cycle) trace (λ s is. omega arith) all

at_ascends : (b : ℕ) (trace : List Stamped) → At b trace → Ascends trace
at_ascends b [] all = tt
at_ascends b (s ∷ trace) all =
    (all_also (λ r. r.cycle ≡ b) (λ r. s.cycle ≤ r.cycle) trace (λ r is. let e = all.0 in omega arith) all.1, at_ascends b trace all.1)

ascends_append : (b : ℕ) (xs ys : List Stamped) → Ascends xs → Ascends ys → To b xs → From b ys → Ascends (xs ++ ys)
ascends_append b [] ys left right low high = right
ascends_append b (x ∷ xs) ys left right low high = (
  all_append (λ r. x.cycle ≤ r.cycle) xs ys left.0
      (all_also (λ r. b ≤ r.cycle) (λ r. x.cycle ≤ r.cycle) ys (λ r h. let e = low.0 in omega arith) high),
  ascends_append b xs ys left.1 right low.1 high,
)

-- ---- events of a word's own

abbrev IsPlain : Event → Type 0
IsPlain e = (first last : ℕ) → stamp_of first last e ≡ last

abbrev ArePlain : List Event → Type 0
ArePlain es = AllByRecursion IsPlain es

two_plain : (b c : Bool) (x y : Event) → IsPlain x → IsPlain y → ArePlain (cond b (x ∷ []) (cond c (y ∷ []) []))
two_plain true c x y hx hy = (hx, tt)
two_plain false true x y hx hy = (hy, tt)
two_plain false false x y hx hy = tt

reads_plain : (outer : ℕ) (f : Field) → ArePlain (field_reads outer f)
reads_plain outer f =
    two_plain (f.reg == 30) (f.reg == 31) (events.Read Reg30 B4 outer) (events.Read Reg31 B4 outer) (λ first last. refl)
    (λ first last. refl)

operand_plain : (outer : ℕ) (o : Operand) → ArePlain (operand_reads outer o)
operand_plain outer (operand.Field f) = reads_plain outer f
operand_plain outer (operand.Imm n) = tt

jump_plain : (outer : ℕ) (to : Jump) → ArePlain (jump_reads outer to)
jump_plain outer (jump.Field f) = reads_plain outer f
jump_plain outer (jump.Word n) = tt

writes_plain : (d : Field) (n : ℕ) (registers : List ℕ) → ArePlain (field_writes d n registers)
writes_plain d n registers =
    two_plain (d.reg == 30) (d.reg == 31) (events.Write Reg30 B4 (register (with_field d n registers) 30))
    (events.Write Reg31 B4 (given_to_r31 d.part n)) (λ first last. refl) (λ first last. refl)

access_plain : (store : Bool) (place : Place) (width : Width) (value : ℕ) → IsPlain (access_event store place width value)
access_plain true place width value first last = refl
access_plain false place width value first last = refl

pads_plain : (store : Bool) (bank reg : ℕ) (values : List ℕ) → ArePlain (pad_events store bank reg values)
pads_plain store bank reg [] = tt
pads_plain store bank reg (v ∷ values) = (access_plain store (Pad bank reg) B4 v, pads_plain store bank (reg + 1) values)

pieces_plain : (store : Bool) (ps : List Piece) → ArePlain (map (λ p. access_event store (Addr p.addr) p.width p.value) ps)
pieces_plain store [] = tt
pieces_plain store (p ∷ ps) = (access_plain store (Addr p.addr) p.width p.value, pieces_plain store ps)

either_plain : (b : Bool) (x y : Effect) → ArePlain x.events → ArePlain y.events → ArePlain (cond b x y).events
either_plain true x y left right = left
either_plain false x y left right = right

both_plain : (x y : List Event) → ArePlain x → ArePlain y → ArePlain (x ++ y)
both_plain x y left right = all_append IsPlain x y left right

module _ (behind : ℕ) (registers ram : List ℕ) (input : Input) where
  effect_plain : (i : Inst) → ArePlain (effect behind registers ram (given_by registers input i) i).events
  effect_plain (inst.Alu op d a b) =
      both_plain _ _ (both_plain _ _ (reads_plain _ a) (operand_plain _ b)) (writes_plain d _ registers)
  effect_plain (inst.Not d a) = both_plain _ _ (reads_plain _ a) (writes_plain d _ registers)
  effect_plain (inst.Jmp to) = jump_plain _ to
  effect_plain (inst.Jal d to) = both_plain _ _ (jump_plain _ to) (writes_plain d _ registers)
  effect_plain (inst.Ldi d n) = writes_plain d n registers
  effect_plain (inst.Lmbd d a b) =
      both_plain _ _ (both_plain _ _ (reads_plain _ a) (operand_plain _ b)) (writes_plain d _ registers)
  effect_plain inst.Halt = ((λ first last. refl), tt)
  effect_plain (inst.Xin t) = pads_plain false (bank_number t.bank) t.first (take t.count input.pads)
  effect_plain (inst.Xout t) = pads_plain true (bank_number t.bank) t.first (numbers_from registers t.first t.count)
  effect_plain (inst.Loop body) = tt
  effect_plain (inst.Branch condition offset a b) = both_plain _ _ (reads_plain _ a) (operand_plain _ b)
  effect_plain (inst.Qba offset) = tt
  effect_plain (inst.Load a) =
      let addr : ℕ = address_of registers a in
      let read : List ℕ = take a.len input.bytes in
      either_plain (is_private addr a.len) (shows (with_bytes (access_place a) (bytes_at addr a.len ram) registers) ram [] Behind)
      (shows (with_bytes (access_place a) read registers) ram (access_events false addr read) Behind) tt
      (pieces_plain false (pieces addr read))
  effect_plain (inst.Store a) =
      let addr : ℕ = address_of registers a in
      let bytes : List ℕ = bytes_at (access_place a) a.len registers in
      either_plain (is_private addr (length bytes)) (shows registers (with_bytes addr bytes ram) [] Behind)
      (record {
        registers = registers;
        ram = ram_after ram addr bytes;
        events = access_events true addr bytes;
        at = addr;
        stored = bytes;
        goes = Behind;
      })
      tt (pieces_plain true (pieces addr bytes))

-- ---- a word's events with their cycles

module _ (first last : ℕ) where
  abbrev stamps : List Event → List Stamped
  stamps es = map (stamped_by first last) es

  stamps_append : (xs ys : List Event) → stamps (xs ++ ys) ≡ stamps xs ++ stamps ys
  stamps_append [] ys = refl
  stamps_append (x ∷ xs) ys = ap (λ (l : List Stamped). stamped_by first last x ∷ l) (stamps_append xs ys)

  plain_at : (es : List Event) → ArePlain es → At last (stamps es)
  plain_at [] all = tt
  plain_at (e ∷ es) all = (all.0 first last, plain_at es all.1)

  mark_at : (b : ℕ) (event : ℕ → Event) (o : Option ℕ) → ((n : ℕ) → stamp_of first last (event n) ≡ b)
      → At b (stamps (option_to_list (option_map event o)))
  mark_at b event None is = tt
  mark_at b event (Some n) is = (is n, tt)

  marks_at : (b : ℕ) (one two : ℕ → Event) (x y : Option ℕ) → ((n : ℕ) → stamp_of first last (one n) ≡ b)
      → ((n : ℕ) → stamp_of first last (two n) ≡ b)
      → At b (stamps (option_to_list (option_map one x) ++ option_to_list (option_map two y)))
  marks_at b one two x y h k =
      let xs : List Event = option_to_list (option_map one x) in
      let ys : List Event = option_to_list (option_map two y) in
      subst (At b) (sym (stamps_append xs ys))
      (all_append (λ s. s.cycle ≡ b) (stamps xs) (stamps ys) (mark_at b one x h) (mark_at b two y k))

  -- what a word shows: its cycles don't fall, and lie from its first cycle to the one behind its last
  record Timed (es : List Event) : Type 0 where
    ascends : Ascends (stamps es)
    from : From first (stamps es)
    to : To (last + 1) (stamps es)

  three_timed : (before own behind : List Event) → first ≤ last → At first (stamps before) → At last (stamps own)
      → At (last + 1) (stamps behind)
      → Timed (before ++ (own ++ behind))
  three_timed before own behind h a b c =
      let tail : List Stamped = stamps own ++ stamps behind in
      let tail_from : From last tail =
      all_append (λ s. last ≤ s.cycle) (stamps own) (stamps behind) (at_from last (stamps own) b)
      (from_less last (last + 1) (stamps behind) (omega arith) (at_from (last + 1) (stamps behind) c)) in
      let tail_to : To (last + 1) tail =
      all_append (λ s. s.cycle ≤ last + 1) (stamps own) (stamps behind)
      (to_more last (last + 1) (stamps own) (omega arith) (at_to last (stamps own) b)) (at_to (last + 1) (stamps behind) c) in
      let tail_ascends : Ascends tail =
      ascends_append last (stamps own) (stamps behind) (at_ascends last (stamps own) b) (at_ascends (last + 1) (stamps behind) c)
      (at_to last (stamps own) b)
      (from_less last (last + 1) (stamps behind) (omega arith) (at_from (last + 1) (stamps behind) c)) in
      let whole : stamps (before ++ (own ++ behind)) ≡ stamps before ++ tail =
      stamps_append before (own ++ behind) ∙ ap (λ (l : List Stamped). stamps before ++ l) (stamps_append own behind) in
      record {
        ascends = subst Ascends (sym whole)
            (ascends_append first (stamps before) tail (at_ascends first (stamps before) a) tail_ascends (at_to first (stamps before) a)
            (from_less first last tail h tail_from));
        from = subst (From first) (sym whole)
            (all_append (λ s. first ≤ s.cycle) (stamps before) tail (at_from first (stamps before) a)
            (from_less first last tail h tail_from));
        to = subst (To (last + 1)) (sym whole)
            (all_append (λ s. s.cycle ≤ last + 1) (stamps before) tail
            (to_more first (last + 1) (stamps before) (omega arith) (at_to first (stamps before) a)) tail_to);
      }

  after_timed : (notes : List Note) (s : State) (i : Inst) (e : Effect) → first ≤ last → ArePlain e.events
      → Timed (after_effect notes s i e).out.events
  after_timed notes s i e h plain =
      three_timed (marks_before notes) e.events (marks_behind notes) h
      (marks_at first (λ v. events.Enter (v % 2 ^ 16)) events.DelayIn (value_of_kind Enter notes) (value_of_kind DelayIn notes)
      (λ n. refl) (λ n. refl))
      (plain_at e.events plain)
      (marks_at (last + 1) events.DelayOut (λ v. events.Leave (v % 2 ^ 16)) (value_of_kind DelayOut notes) (value_of_kind Leave notes)
      (λ n. refl) (λ n. refl))

  step_timed_by : (image : Contents) (s : State) (input : Input) (o : Option Inst) → first ≤ last
      → Timed (step_by image.notes s (given_at s input o) o).out.events
  step_timed_by image s input None h = record { ascends = tt; from = tt; to = tt }
  step_timed_by image s input (Some i) h =
      after_timed (notes_at image.notes s.pc) s i (effect (s.pc + 1) s.registers s.ram (given_by s.registers input i) i) h
      (effect_plain (s.pc + 1) s.registers s.ram input i)

  step_timed : (image : Contents) (s : State) (input : Input) → first ≤ last → Timed (stepped image s input).out.events
  unfolding istep
  step_timed image s input h = step_timed_by image s input (inst_at image.words s.pc) h

-- ---- a core's cycle

-- the word that a core is doing begins where its trace ends, and not later than now
abbrev pub WordIsTimely : ℕ → List Stamped → Option Word → Type 0
WordIsTimely t trace None = Unit {0}
WordIsTimely t trace (Some word) = AllByRecursion (λ s. s.cycle ≤ word.first) trace × (word.first ≤ t)

pub record IsTimely (t : ℕ) (now : Option Word) (trace : List Stamped) : Type 0 where
  pub ascends : Ascends trace
  pub to : AllByRecursion (λ s. s.cycle ≤ t) trace
  pub word : WordIsTimely t trace now

word_later : (t : ℕ) (trace : List Stamped) (word : Option Word) → WordIsTimely t trace word → WordIsTimely (t + 1) trace word
word_later t trace None h = tt
word_later t trace (Some word) h = (h.0, let e = h.1 in omega arith)

pub later : (t : ℕ) (word : Option Word) (trace : List Stamped) → IsTimely t word trace → IsTimely (t + 1) word trace
later t word trace h =
    record { ascends = h.ascends; to = to_more t (t + 1) trace (omega arith) h.to; word = word_later t trace word h.word }

later_quiet : (t : ℕ) (word : Option Word) (trace : List Stamped) → IsTimely t word trace → IsTimely (t + 1) word (trace ++ [])
later_quiet t word trace h = subst (IsTimely (t + 1) word) (sym (append-nil trace)) (later t word trace h)

ended_timely : (setup : Setup) (t : ℕ) (s : Stage) (word : Word) (trace : List Stamped) (o : Option Inst)
    → IsTimely t (Some word) trace → s.own.word ≡ Some word
    → IsTimely (t + 1) (ended setup t s word o).stage.own.word (trace ++ (ended setup t s word o).shown)
ended_timely setup t s word trace None h is =
    subst (λ (w : Option Word). IsTimely (t + 1) w (trace ++ [])) (sym is) (later_quiet t (Some word) trace h)
ended_timely setup t s word trace (Some i) h is =
    let did : Stepped = stepped setup.image s.own.core (input_for setup.core s i) in
    let shown : List Stamped = map (stamped_by word.first t) did.out.events in
    let timed : Timed word.first t did.out.events = step_timed word.first t setup.image s.own.core (input_for setup.core s i) h.word.1 in
    let keeps = stored_keeps_own (moved s i did) (spot_of did.out.at) did.out.stored in
    record {
      ascends = ascends_append word.first trace shown h.ascends timed.ascends h.word.0 timed.from;
      to = all_append (λ s. s.cycle ≤ t + 1) trace shown (to_more t (t + 1) trace (omega arith) h.to) timed.to;
      word = subst (WordIsTimely (t + 1) (trace ++ shown)) (sym keeps.word) tt;
    }

if_timely : (t : ℕ) (trace : List Stamped) (b : Bool) (s : Stage) (r : Turned) → IsTimely t s.own.word trace
    → IsTimely (t + 1) r.stage.own.word (trace ++ r.shown)
    → IsTimely (t + 1) (cond b r (quiet s)).stage.own.word (trace ++ (cond b r (quiet s)).shown)
if_timely t trace true s r same after = after
if_timely t trace false s r same after = later_quiet t s.own.word trace same

worked_timely : (setup : Setup) (t : ℕ) (s : Stage) (trace : List Stamped) (w : Option Word) → s.own.word ≡ w → IsTimely t w trace
    → IsTimely (t + 1) (worked_by setup t s w).stage.own.word (trace ++ (worked_by setup t s w).shown)
worked_timely setup t s trace None is h =
    subst (λ (w : Option Word). IsTimely (t + 1) w (trace ++ [])) (sym is) (later_quiet t None trace h)
worked_timely setup t s trace (Some word) is h =
    if_timely t trace (word.last == t) s (ended setup t s word (inst_at setup.image.words s.own.core.pc))
    (subst (λ (w : Option Word). IsTimely t w trace) (sym is) h)
    (ended_timely setup t s word trace (inst_at setup.image.words s.own.core.pc) h is)

beginning_timely : (setup : Setup) (t : ℕ) (side : Side) (trace : List Stamped) (o : Option Inst) → IsTimely t side.word trace
    → IsTimely t (beginning setup t side o).word trace
beginning_timely setup t side trace None h = h
beginning_timely setup t side trace (Some i) h = record { ascends = h.ascends; to = h.to; word = (h.to, omega arith) }

begun_timely : (setup : Setup) (t : ℕ) (side : Side) (trace : List Stamped) (w : Option Word) → IsTimely t side.word trace
    → IsTimely t (begun_by setup t side w).word trace
begun_timely setup t side trace None h = beginning_timely setup t side trace (inst_at setup.image.words side.core.pc) h
begun_timely setup t side trace (Some word) h = h

pub turned_timely : (setup : Setup) (t : ℕ) (s : Stage) (trace : List Stamped) → IsTimely t s.own.word trace
    → IsTimely (t + 1) (turned setup t s).stage.own.word (trace ++ (turned setup t s).shown)
turned_timely setup t s trace h =
    let mid : Stage = record s { own = begun setup t s.own } in
    if_timely t trace (s.own.started && is_going s.own.stop) s (worked setup t mid) h
    (worked_timely setup t mid trace mid.own.word refl (begun_timely setup t s.own trace s.own.word h))

-- ---- the machine

moved_timely : (t : ℕ) (old new : Side) (trace : List Stamped) → Keeps old new → IsTimely t old.word trace → IsTimely t new.word trace
moved_timely t old new trace keeps h = subst (λ (w : Option Word). IsTimely t w trace) (sym keeps.word) h

pub record BothTimely (m : Machine) : Type 0 where
  pub zero : IsTimely m.done m.zero.word m.trace0
  pub one : IsTimely m.done m.one.word m.trace1

cycle_timely : (m : Machine) → BothTimely m → BothTimely (cycle m)
cycle_timely m h =
    let start : Stage = record { own = m.zero; other = m.one; world = m.world } in
    let acted : Stage = behind_acts m in
    let middle : Stage = behind_zero m in
    let keeps : KeepsBoth start acted = all_acted_keeps start (acts_at m.done m.acts) in
    record {
      zero = moved_timely (m.done + 1) middle.own (cycle m).zero (cycle m).trace0 (turned_keeps m.setup1 m.done (swapped middle))
          (turned_timely m.setup0 m.done acted m.trace0 (moved_timely m.done m.zero acted.own m.trace0 keeps.own h.zero));
      one = turned_timely m.setup1 m.done (swapped middle) m.trace1
          (moved_timely m.done acted.other middle.other m.trace1 (turned_keeps m.setup0 m.done acted)
          (moved_timely m.done m.one acted.other m.trace1 keeps.other h.one));
    }

cycles_timely : (n : ℕ) (m : Machine) → BothTimely m → BothTimely (cycles n m)
cycles_timely zero m h = h
cycles_timely (suc n) m h = cycle_timely (cycles n m) (cycles_timely n m h)

start_timely : (table : Table) (image0 image1 : Contents) (script : Script) → BothTimely (at_start_of table image0 image1 script)
start_timely table image0 image1 script =
    record { zero = record { ascends = tt; to = tt; word = tt }; one = record { ascends = tt; to = tt; word = tt } }

pub stamps_ascend : (table : Table) (image0 image1 : Contents) (script : Script) (n : ℕ)
    → Ascends (M table image0 image1 script n).trace0 × Ascends (M table image0 image1 script n).trace1
stamps_ascend table image0 image1 script n =
    let all : BothTimely (cycles n (at_start_of table image0 image1 script)) =
    cycles_timely n (at_start_of table image0 image1 script) (start_timely table image0 image1 script) in
    (all.zero.ascends, all.one.ascends)
