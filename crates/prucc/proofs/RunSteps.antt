-- A core runs the code of a source word by word.
use Rattle.std.proofs.Common.{◌≡◌, ℕ, zero, suc, ◌+◌, ◌^◌, ◌<◌, ◌≤◌, List, [], ◌∷◌, ◌++◌, length, map, get_or, take}
use Rattle.std.proofs.Common.{drop, Option, Some, refl, sym, ap, subst, ◌∙◌, inl, inr, arith}
use Rattle.std.specs.Prelude.{slice_get}
use Rattle.std.specs.List.{AllByRecursion}
use Rattle.std.specs.Int.{w32, to_le_bytes, from_le_bytes}
use Rattle.std.proofs.lemmas.Bool.{cases_lt, le-ltb}
use Rattle.std.proofs.lemmas.List.{append-nil, length-append, length-map, length-take, drop_at, drop_all, take_all}
use Rattle.std.proofs.lemmas.Nat.{from_le_bytes-to_le_bytes_4}
use Rattle.prunum.specs.declared.width.Width.TheVariants.{B4}
use Rattle.prutrace.specs.declared.event.Place.TheVariants.{Reg30}
use Rattle.prutrace.specs.declared.event.Event.{Event}
use Rattle.prutrace.specs.declared.event.Event.TheVariants as events
use Rattle.prutrace.specs.declared.event.Stamped.{Stamped}
use Rattle.isa.specs.declared.inst.Inst.{Inst}
use Rattle.isa.specs.declared.inst.Inst.TheVariants.{Ldi, Halt}
use Rattle.isa.specs.Row.{word_of, Fits}
use Rattle.prucc.specs.declared.machine.Core.{Core}
use Rattle.prucc.specs.declared.machine.Stop.TheVariants.{Going, Halted}
use Rattle.prucc.specs.declared.machine.StepOut.{StepOut}
use Rattle.prucc.specs.declared.run.Outcome.{Outcome}
use Rattle.prucc.specs.Form.{IsLoadable}
use Rattle.prucc.specs.Meaning.{meaning, shown_in}
use Rattle.prucc.specs.Code.{output_register, code_of}
use Rattle.prucc.specs.Core.{IsKnown, shown_write, core_after, outcome}
use Rattle.prucc.specs.Run.{stamped, stamped_from, ShowsMeaning}

-- a core that runs the code of these writes has done so many words, each in a cycle of its own
pub record ShowsSoFar (ks : List ℕ) (core : Core) (trace : List Stamped) (time : ℕ) : Type 0 where
  pub pc : core.pc ≡ time
  pub within : time ≤ length ks
  pub trace_is : trace ≡ stamped_from 0 (take time (meaning ks))

abbrev pub IsCodeOf : List ℕ → List ℕ → Type 0
IsCodeOf words ks = words ≡ map word_of (code_of ks)

pub record Running (words : List ℕ) (cycles : ℕ) (core : Core) (trace : List Stamped) (time count : ℕ) : Type 0 where
  pub counted : count ≡ time
  pub within : time ≤ cycles
  pub counter : core.pc ≤ time
  pub shows : (ks : List ℕ) → AllByRecursion IsLoadable ks → IsCodeOf words ks → ShowsSoFar ks core trace time

-- ---- what a load of the output register shows

pub shown_load : (k : ℕ) (registers : List ℕ) → k < 2 ^ 16 → length registers ≡ 124
    → shown_write output_register k registers ≡ Some (events.Write Reg30 B4 k)
shown_load k registers small long = ap (λ (v : ℕ). Some (events.Write Reg30 B4 v))
    (ap (from_le_bytes w32) bytes ∙ from_le_bytes-to_le_bytes_4 k (omega arith))
  where
    bytes : drop 120 (take 120 registers ++ (to_le_bytes w32 k ++ drop 124 registers)) ≡ to_le_bytes w32 k
    bytes = drop_at (take 120 registers) (to_le_bytes w32 k ++ drop 124 registers) 120 (omega (arith, length-take 120 registers))
        ∙ ap (λ (t : List ℕ). to_le_bytes w32 k ++ t) (drop_all 124 registers (omega arith)) ∙ append-nil (to_le_bytes w32 k)

-- ---- the words of the code

get_code : (ks : List ℕ) (t : ℕ) → t < length ks → slice_get (map word_of (code_of ks)) t
    ≡ Some (word_of (Ldi output_register (get_or ks t 0)))
get_code [] t lt = absurd (omega arith)
get_code (k ∷ ks) zero lt = refl
get_code (k ∷ ks) (suc t) lt = get_code ks t (omega arith)

get_halt : (ks : List ℕ) → slice_get (map word_of (code_of ks)) (length ks) ≡ Some (word_of Halt)
get_halt [] = refl
get_halt (k ∷ ks) = get_halt ks

loadable_at : (ks : List ℕ) (t : ℕ) → AllByRecursion IsLoadable ks → t < length ks → IsLoadable (get_or ks t 0)
loadable_at [] t all lt = absurd (omega arith)
loadable_at (k ∷ ks) zero all lt = all.0
loadable_at (k ∷ ks) (suc t) all lt = loadable_at ks t all.1 (omega arith)

-- ---- the meaning, event by event

take_write : (ks : List ℕ) (t : ℕ) → t < length ks → take (suc t) (meaning ks)
    ≡ take t (meaning ks) ++ events.Write Reg30 B4 (get_or ks t 0) ∷ []
take_write [] t lt = absurd (omega arith)
take_write (k ∷ ks) zero lt = refl
take_write (k ∷ ks) (suc t) lt = ap (λ (es : List Event). events.Write Reg30 B4 k ∷ es) (take_write ks t (omega arith))

take_halt : (ks : List ℕ) → take (suc (length ks)) (meaning ks) ≡ take (length ks) (meaning ks) ++ events.Halted ∷ []
take_halt [] = refl
take_halt (k ∷ ks) = ap (λ (es : List Event). events.Write Reg30 B4 k ∷ es) (take_halt ks)

length_shown : (ks : List ℕ) (t : ℕ) → t ≤ length ks → length (take t (meaning ks)) ≡ t
length_shown ks t le = omega (
  arith,
  length-take t (meaning ks),
  length-append (map (λ (k : ℕ). events.Write Reg30 B4 k) ks)
      (events.Halted ∷ []),
  length-map ks (λ (k : ℕ). events.Write Reg30 B4 k),
)

stamped_push : (c : ℕ) (es : List Event) (e : Event) → stamped_from c (es ++ e ∷ [])
    ≡ stamped_from c es ++ record { event = e; cycle = c + length es } ∷ []
stamped_push c [] e = ap (λ (n : ℕ). record { event = e; cycle = n } ∷ []) (omega arith)
stamped_push c (x ∷ es) e = ap (λ (l : List Stamped). record { event = x; cycle = c } ∷ l)
    (stamped_push (c + 1) es e ∙ ap (λ (n : ℕ). stamped_from (c + 1) es ++ record { event = e; cycle = n } ∷ []) (omega arith))

push_shown : (ks : List ℕ) (t : ℕ) (e : Event) → t ≤ length ks → take (suc t) (meaning ks) ≡ take t (meaning ks) ++ e ∷ []
    → (trace : List Stamped) → trace ≡ stamped_from 0 (take t (meaning ks))
    → trace ++ record { event = e; cycle = t } ∷ [] ≡ stamped_from 0 (take (suc t) (meaning ks))
push_shown ks t e le more trace is =
    ap (λ (l : List Stamped). l ++ record { event = e; cycle = t } ∷ []) is
    ∙ ap (λ (n : ℕ). stamped_from 0 (take t (meaning ks)) ++ record { event = e; cycle = n } ∷ []) (omega (arith, length_shown ks t le))
    ∙ sym (stamped_push 0 (take t (meaning ks)) e) ∙ ap (stamped_from 0) (sym more)

-- ---- one word

-- what a step did
pub record Stepped (words : List ℕ) (core new : Core) (i : Inst) (out : StepOut) : Type 0 where
  pub only : (j : Inst) → IsKnown j → Fits j → slice_get words core.pc ≡ Some (word_of j) → Some i ≡ Some j
  pub size : length core.registers ≡ 124
  pub core_is : new ≡ core_after core i
  pub out_is : out ≡ outcome core i

-- of a core that has shown t events of its meaning: the word is the next write's or the halt's
pub data NextWord (ks : List ℕ) (core new : Core) (out : StepOut) (trace : List Stamped) (t : ℕ) : Type 0 where
  AnotherWrite : (more : t < length ks) (going : out.stop ≡ Going) (pc : new.pc ≡ t + 1)
      (now : trace ++ stamped out.event t ≡ stamped_from 0 (take (t + 1) (meaning ks))) → NextWord ks core new out trace t
  TheHalt : (last : t ≡ length ks) (halted : out.stop ≡ Halted)
      (now : trace ++ stamped out.event t ≡ stamped_from 0 (take (t + 1) (meaning ks))) → NextWord ks core new out trace t

pub next_word : (words ks : List ℕ) (core new : Core) (i : Inst) (out : StepOut) (trace : List Stamped) (t : ℕ)
    → AllByRecursion IsLoadable ks → IsCodeOf words ks → ShowsSoFar ks core trace t → Stepped words core new i out
    → NextWord ks core new out trace t
next_word words ks core new i out trace t loadable code shows step = elim (cases_lt t (length ks)) [
  | inl lt ↦
      let k = get_or ks t 0 in
      let small : k < 2 ^ 16 = loadable_at ks t loadable lt in
      let at : slice_get words core.pc ≡ Some (word_of (Ldi output_register k)) =
      ap (λ (n : ℕ). slice_get words n) shows.pc ∙ ap (λ (ws : List ℕ). slice_get ws t) code ∙ get_code ks t lt in
      let is : i ≡ Ldi output_register k = some_is i (Ldi output_register k) (step.only (Ldi output_register k) tt small at) in
      let next : suc t ≡ t + 1 = omega arith in
      let out_now : out ≡ record { event = Some (events.Write Reg30 B4 k); stop = Going } =
      step.out_is ∙ ap (outcome core) is ∙ ap (λ (e : Option Event). record { event = e; stop = Going })
      (shown_load k core.registers small step.size) in
      let pc_now : new.pc ≡ core.pc + 1 = ap (λ (c : Core). c.pc) (step.core_is ∙ ap (core_after core) is) in
      AnotherWrite lt (ap (λ (o : StepOut). o.stop) out_now) (pc_now ∙ ap (λ (n : ℕ). n + 1) shows.pc)
      (ap (λ (o : StepOut). trace ++ stamped o.event t) out_now
      ∙ push_shown ks t (events.Write Reg30 B4 k) shows.within (take_write ks t lt) trace shows.trace_is
      ∙ ap (λ (n : ℕ). stamped_from 0 (take n (meaning ks))) next)
  | inr le ↦
      let last : t ≡ length ks = let within = shows.within in omega arith in
      let at : slice_get words core.pc ≡ Some (word_of Halt) =
      ap (λ (n : ℕ). slice_get words n) (shows.pc ∙ last) ∙ ap (λ (ws : List ℕ). slice_get ws (length ks)) code ∙ get_halt ks in
      let is : i ≡ Halt = some_is i Halt (step.only Halt tt tt at) in
      let next : suc t ≡ t + 1 = omega arith in
      let out_now : out ≡ record { event = Some events.Halted; stop = Halted } = step.out_is ∙ ap (outcome core) is in
      let more : take (suc t) (meaning ks) ≡ take t (meaning ks) ++ events.Halted ∷ [] =
      subst (λ (n : ℕ). take (suc n) (meaning ks) ≡ take n (meaning ks) ++ events.Halted ∷ []) (sym last) (take_halt ks) in
      TheHalt last (ap (λ (o : StepOut). o.stop) out_now)
      (ap (λ (o : StepOut). trace ++ stamped o.event t) out_now
      ∙ push_shown ks t events.Halted shows.within more trace shows.trace_is
      ∙ ap (λ (n : ℕ). stamped_from 0 (take n (meaning ks))) next)
]
  where
    some_is : (a b : Inst) → Some a ≡ Some b → a ≡ b
    some_is a b e = cc

-- a word stands at the counter until the halt is done
pub some_word : (words ks : List ℕ) (core : Core) (trace : List Stamped) (t : ℕ) → AllByRecursion IsLoadable ks → IsCodeOf words ks
    → ShowsSoFar ks core trace t
    → (i : Inst) × IsKnown i × Fits i × (slice_get words core.pc ≡ Some (word_of i))
some_word words ks core trace t loadable code shows = elim (cases_lt t (length ks)) [
  | inl lt ↦ (
    Ldi output_register (get_or ks t 0),
    tt,
    loadable_at ks t loadable lt,
    ap (λ (n : ℕ). slice_get words n) shows.pc
        ∙ ap (λ (ws : List ℕ). slice_get ws t) code ∙ get_code ks t lt,
  )
  | inr le ↦
      let last : t ≡ length ks = let within = shows.within in omega arith in (
        Halt,
        tt,
        tt,
        ap (λ (n : ℕ). slice_get words n) (shows.pc ∙ last) ∙ ap (λ (ws : List ℕ). slice_get ws (length ks)) code
            ∙ get_halt ks,
      )
]

-- ---- the loop

pub goes_on : (words : List ℕ) (cycles : ℕ) (core new : Core) (i : Inst) (out : StepOut) (trace after : List Stamped)
    (time count : ℕ) → time < cycles → Running words cycles core trace time count → Stepped words core new i out
    → new.pc ≤ core.pc + 1 → out.stop ≡ Going → after ≡ trace ++ stamped out.event time
    → Running words cycles new after (time + 1) (count + 1)
goes_on words cycles core new i out trace after time count lt run step counter going is = record {
  counted = let c = run.counted in omega arith;
  within = omega arith;
  counter = let c = run.counter in omega arith;
  shows = λ ks loadable code. elim (next_word words ks core new i out trace time loadable code (run.shows ks loadable code) step) [
    | AnotherWrite more g pc now ↦ record { pc = pc; within = omega arith; trace_is = is ∙ now }
    | TheHalt last halted now ↦ absurd (going_is_not_halted (sym going ∙ halted))
  ];
}
  where
    going_is_not_halted : Going ≡ Halted → ⊥
    going_is_not_halted e = cc

whole_meaning : (n : ℕ) (ks : List ℕ) → length ks + 1 ≤ n → shown_in n ks ≡ meaning ks
whole_meaning n ks le = take_all n (meaning ks) (omega (
  arith,
  length-append (map (λ (k : ℕ). events.Write Reg30 B4 k) ks)
      (events.Halted ∷ []),
  length-map ks (λ (k : ℕ). events.Write Reg30 B4 k),
))

pub halts : (words : List ℕ) (cycles : ℕ) (core new : Core) (i : Inst) (out : StepOut) (trace : List Stamped) (time count : ℕ)
    (o : Outcome) → time < cycles → Running words cycles core trace time count → Stepped words core new i out
    → (out.stop ≡ Going → ⊥) → o.trace.items ≡ trace ++ stamped out.event time → o.count ≡ count + 1 → o.stop ≡ out.stop
    → (ks : List ℕ) → AllByRecursion IsLoadable ks → IsCodeOf words ks → ShowsMeaning ks cycles o
halts words cycles core new i out trace time count o lt run step stopped is counted stop ks loadable code =
    elim (next_word words ks core new i out trace time loadable code (run.shows ks loadable code) step) [
      | AnotherWrite more going pc now ↦ absurd (stopped going)
      | TheHalt last halted now ↦
          let done : length ks + 1 ≤ cycles = omega arith in
          let ends : time + 1 ≡ length ks + 1 = omega arith in
          record {
            trace = is ∙ now ∙ ap (λ (n : ℕ). stamped_from 0 (take n (meaning ks))) ends
                ∙ ap (stamped_from 0) (whole_meaning (length ks + 1) ks (omega arith) ∙ sym (whole_meaning cycles ks done));
            count = let c = run.counted in omega arith;
            stop = stop ∙ halted ∙ rw (le-ltb cycles (length ks + 1) done) refl;
          }
    ]
