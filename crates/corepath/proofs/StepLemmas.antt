-- What a word does to the core's counter and its LOOP, in the terms of paths.
use Rattle.std.proofs.Common.{◌≡◌, ℕ, ◌+◌, ◌-◌, Bool, true, false, cond, List, Option, Some, None}
use Rattle.std.proofs.Common.{refl, sym, ap, subst, ◌∙◌, arith, ◌⊎◌, inl, inr}
use Rattle.std.specs.Prelude.{◌==◌, ◌&&◌, nat_lt, nat_le}
use Rattle.std.proofs.lemmas.Bool.{eqb-false}
use Rattle.isa.specs.declared.control.Jump.TheVariants as jump
use Rattle.isa.specs.declared.inst.Inst.{Inst}
use Rattle.isa.specs.declared.inst.Inst.TheVariants as inst
use Rattle.isa.specs.Image.{Contents}
use Rattle.isa.specs.Note.{is_access}
use Rattle.behaviour.specs.Ran.{Done, Stopped, state_of}
use Rattle.behaviour.specs.declared.stop.Stop.TheVariants as stops
use Rattle.corestep.specs.declared.goes.Goes.{Goes as Onto}
use Rattle.corestep.specs.declared.goes.Goes.TheVariants.{Behind, Target}
use Rattle.corestep.specs.declared.onward.Onward.{Onward}
use Rattle.corestep.specs.declared.onward.Turning.{Turning}
use Rattle.corestep.specs.declared.out.Stop.{Stop}
use Rattle.corestep.specs.declared.out.Stop.TheVariants.{Going, Halted, Stuck}
use Rattle.corestep.specs.declared.table.Class.{Class}
use Rattle.corestep.specs.declared.table.Class.TheVariants.{Own}
use Rattle.corestep.specs.declared.table.Table.{Table}
use Rattle.corestep.specs.Core.{State, onward}
use Rattle.corestep.specs.Cost.{load_cycles, store_cycles, class_cycles, quarters}
use Rattle.corestep.specs.Effect.{Given, Effect, effect}
use Rattle.corestep.specs.Memory.{class_of}
use Rattle.corestep.specs.Step.{inst_at, stop_of}
use Rattle.corerun.specs.Code.{Code, code_of_words, step_by_code, goes_on_in, turning_at}
use Rattle.corerun.specs.Solo.{Alone, Went, step_standing, step_at, step_with, after_step}
use Rattle.corerun.specs.Values.{Taken, taken_by}
use Rattle.corerun.proofs.WordLemmas.{words_step}
use Rattle.corepath.specs.Flow.{Aims, aim_or, called}
use Rattle.corepath.specs.Path.{come, is_loop, own_cost}
use Rattle.corepath.specs.Pass.{Does, is_plain, address, cycles_of, Stays, TurningBy, TurningBehind}

-- ---- a step of a core alone is a step of its word

record Worked (image : Contents) (now next : Alone) (i : Inst) : Type 0 where
  pub given : Given
  pub on : record { pc = next.core.pc; turning = next.core.turning }
      ≡ goes_on_in (code_of_words image) now.core.pc now.core.turning i
      (effect (now.core.pc + 1) now.core.registers now.core.ram given i).goes
  pub stands : next.stands ≡ stop_of (effect (now.core.pc + 1) now.core.registers now.core.ram given i).goes

abbrev on_of : State → Onward
on_of s = record { pc = s.pc; turning = s.turning }

step_worked : (image : Contents) (now next : Alone) (i : Inst) (g : Given) (left : List ℕ)
    → next ≡ after_step now left (step_by_code (code_of_words image) now.core g (Some i))
    → Worked image now next i
step_worked image now next i g left is =
    record { given = g; on = ap (λ (a : Alone). on_of a.core) is; stands = ap (λ (a : Alone). a.stands) is }

with_worked : (image : Contents) (now next : Alone) (i : Inst) (taken : Taken Given) → inst_at image.words now.core.pc ≡ Some i
    → step_with image now taken ≡ Done tt next → Worked image now next i
with_worked image now next i None is did = absurd (not_done did)
  where
    not_done : ◌≡◌ {A = Went} (Stopped stops.Dry now) (Done tt next) → ⊥
    not_done wrong = cc
with_worked image now next i (Some (g, left)) is did =
    step_worked image now next i g left
    (sym (ap (λ (r : Went). state_of r) did) ∙ ap (after_step now left) (words_step image now.core g)
    ∙ ap (λ (o : Option Inst). after_step now left (step_by_code (code_of_words image) now.core g o)) is)

standing_worked : (image : Contents) (now next : Alone) (i : Inst) (stands : Stop) → inst_at image.words now.core.pc ≡ Some i
    → step_standing image now stands ≡ Done tt next → Worked image now next i
standing_worked image now next i Going is did =
    with_worked image now next i (taken_by now.core.registers i now.left) is
    (subst (λ (o : Option Inst). step_at image now o ≡ Done tt next) is did)
standing_worked image now next i Halted is did = absurd (not_done did)
  where
    not_done : ◌≡◌ {A = Went} (Stopped stops.Ended now) (Done tt next) → ⊥
    not_done wrong = cc
standing_worked image now next i Stuck is did = absurd (not_done did)
  where
    not_done : ◌≡◌ {A = Went} (Stopped stops.Stuck now) (Done tt next) → ⊥
    not_done wrong = cc

worked : (image : Contents) (region : ℕ) (now next : Alone) (did : Does image region now next) → Worked image now next did.inst
worked image region now next did = standing_worked image now next did.inst now.stands did.is did.done

-- ---- where it goes

record Flows (code : Code) (pc : ℕ) (turning : Option Turning) (i : Inst) (goes : Onto) : Type 0 where
  pub to : ℕ
  pub aims : Aims code pc i to
  pub comes : goes_on_in code pc turning i goes ≡ come code pc to turning i

either_behind : (b : Bool) (x y : Effect) → x.goes ≡ Behind → y.goes ≡ Behind → (cond b x y).goes ≡ Behind
either_behind true x y at_x at_y = at_x
either_behind false x y at_x at_y = at_y

none : (f : ℕ) → ◌≡◌ {A = Option ℕ} None (Some f) → ⊥
none f wrong = cc

some_is : (n f : ℕ) → ◌≡◌ {A = Option ℕ} (Some n) (Some f) → n ≡ f
some_is n f is = cc

module _ (code : Code) (s : State) (g : Given) where
  abbrev goes_of : Inst → Onto
  goes_of i = (effect (code.number (s.pc + 1)) s.registers s.ram g i).goes

  branched : (i : Inst) (b : Bool) → is_loop i ≡ false → Aims code s.pc i (s.pc + 1)
      → ((to : ℕ) × Aims code s.pc i to × (goes_on_in code s.pc s.turning i Target ≡ onward to s.turning))
      → come code s.pc (s.pc + 1) s.turning i ≡ onward (s.pc + 1) s.turning
      → ((to : ℕ) → come code s.pc to s.turning i ≡ onward to s.turning)
      → Flows code s.pc s.turning i (cond b Target Behind)
  branched i true plain behind there near far =
      record { to = there.0; aims = there.1; comes = there.2 ∙ sym (far there.0) }
  branched i false plain behind there near far = record { to = s.pc + 1; aims = behind; comes = sym near }

  flows : (i : Inst) → is_plain i ≡ true → stop_of (goes_of i) ≡ Going → Flows code s.pc s.turning i (goes_of i)
  flows (inst.Alu op d a b) plain going = record { to = s.pc + 1; aims = refl; comes = refl }
  flows (inst.Not d a) plain going = record { to = s.pc + 1; aims = refl; comes = refl }
  flows (inst.Jmp (jump.Word n)) plain going = record { to = aim_or code s.pc (code.place n); aims = refl; comes = refl }
  flows (inst.Jmp (jump.Field f)) plain going = absurd (let wrong : false ≡ true = plain in cc)
  flows (inst.Jal d to) plain going = absurd (let wrong : false ≡ true = plain in cc)
  flows (inst.Ldi d n) plain going = record { to = s.pc + 1; aims = refl; comes = refl }
  flows (inst.Lmbd d a b) plain going = record { to = s.pc + 1; aims = refl; comes = refl }
  flows inst.Halt plain going = absurd (let wrong : Halted ≡ Going = going in cc)
  flows (inst.Xin t) plain going = record { to = s.pc + 1; aims = refl; comes = refl }
  flows (inst.Xout t) plain going = record { to = s.pc + 1; aims = refl; comes = refl }
  flows (inst.Loop body) plain going = record { to = s.pc + 1; aims = refl; comes = refl }
  flows (inst.Branch condition offset a b) plain going =
      branched (inst.Branch condition offset a b) _ refl (inr refl) (aim_or code s.pc s.pc, inl refl, refl) refl (λ to. refl)
  flows (inst.Qba offset) plain going = record { to = aim_or code s.pc s.pc; aims = refl; comes = refl }
  flows (inst.Load a) plain going = record {
    to = s.pc + 1;
    aims = refl;
    comes = ap (goes_on_in code s.pc s.turning (inst.Load a)) (either_behind _ _ _ refl refl);
  }
  flows (inst.Store a) plain going = record {
    to = s.pc + 1;
    aims = refl;
    comes = ap (goes_on_in code s.pc s.turning (inst.Store a)) (either_behind _ _ _ refl refl);
  }

  -- a call goes to its function
  calls_to : (i : Inst) (f : ℕ) → called code s.pc i ≡ Some f → goes_on_in code s.pc s.turning i (goes_of i) ≡ onward f s.turning
  calls_to (inst.Jal d (jump.Word n)) f is = ap (λ (k : ℕ). onward k s.turning) (some_is (aim_or code s.pc (code.place n)) f is)
  calls_to (inst.Jal d (jump.Field r)) f is = absurd (none f is)
  calls_to (inst.Alu op d a b) f is = absurd (none f is)
  calls_to (inst.Not d a) f is = absurd (none f is)
  calls_to (inst.Jmp to) f is = absurd (none f is)
  calls_to (inst.Ldi d n) f is = absurd (none f is)
  calls_to (inst.Lmbd d a b) f is = absurd (none f is)
  calls_to inst.Halt f is = absurd (none f is)
  calls_to (inst.Xin t) f is = absurd (none f is)
  calls_to (inst.Xout t) f is = absurd (none f is)
  calls_to (inst.Loop body) f is = absurd (none f is)
  calls_to (inst.Branch condition offset a b) f is = absurd (none f is)
  calls_to (inst.Qba offset) f is = absurd (none f is)
  calls_to (inst.Load a) f is = absurd (none f is)
  calls_to (inst.Store a) f is = absurd (none f is)

-- ---- LOOP

abbrev left_of : Option Turning → ℕ
left_of None = 0
left_of (Some t) = t.left

abbrev is_one : Option Turning → Bool
is_one None = false
is_one (Some t) = true

-- where the LOOP stays as it was, or is over, it didn't turn
turn_stays : (b : Bool) (left : ℕ) (d : ℕ) (u : Turning) (r : Onward) → (left == 0) ≡ b → left ≡ u.left
    → r ≡ cond b (record { pc = d; turning = None }) (record { pc = u.first; turning = Some (record u { left = u.left - 1 }) })
    → (r.turning ≡ Some u) ⊎ (r.turning ≡ None)
    → r.pc ≡ d
turn_stays true left d u r e same is stays = ap (λ (x : Onward). x.pc) is
turn_stays false left d u r e same is stays =
    let turned : r.turning ≡ Some (record u { left = u.left - 1 }) = ap (λ (x : Onward). x.turning) is in
    absurd (elim stays [
      | inl some ↦
          let less : u.left - 1 ≡ u.left = ap left_of (sym turned ∙ some) in
          let not_zero : left ≡ 0 → ⊥ = eqb-false left 0 e in
          not_zero (omega arith)
      | inr none ↦ let wrong : true ≡ false = ap is_one (sym turned ∙ none) in cc
    ])

come_stays : (inside at_end : Bool) (d : ℕ) (u : Turning) (r : Onward)
    → r ≡ cond at_end
    (cond (u.left == 0) (record { pc = d; turning = None }) (record { pc = u.first; turning = Some (record u { left = u.left - 1 }) }))
    (cond inside (record { pc = d; turning = Some u }) (record { pc = d; turning = None }))
    → (r.turning ≡ Some u) ⊎ (r.turning ≡ None)
    → r.pc ≡ d
come_stays inside true d u r is stays = turn_stays (u.left == 0) u.left d u r refl refl is stays
come_stays true false d u r is stays = ap (λ (x : Onward). x.pc) is
come_stays false false d u r is stays = ap (λ (x : Onward). x.pc) is

pub stays_at : (d : ℕ) (o : Option Turning) (r : Onward) → r ≡ onward d o → (r.turning ≡ o) ⊎ (r.turning ≡ None) → r.pc ≡ d
stays_at d None r is stays = ap (λ (x : Onward). x.pc) is
stays_at d (Some u) r is stays = come_stays (nat_le u.first d && nat_lt d u.end) (d == u.end) d u r is stays

-- the LOOP of a path is the core's, or none
abbrev pub Agrees : Option Turning → Alone → Type 0
Agrees t now = (t ≡ now.core.turning) ⊎ (t ≡ None)

path_by : (code : Code) (b : Bool) (i : Inst) (d : ℕ) (t after : Option Turning) (now next : Alone) → is_loop i ≡ b
    → on_of next.core ≡ come code now.core.pc d now.core.turning i → Agrees t now → TurningBehind t now next i after
    → (come code now.core.pc d t i ≡ record { pc = next.core.pc; turning = after }) × Agrees after next
path_by code true i d t after now next e on agrees behind =
    let is : after ≡ next.core.turning = subst (λ (b : Bool). TurningBy b t now next after) e behind in
    let same : come code now.core.pc d t i ≡ come code now.core.pc d now.core.turning i = loop_same e in
    (same ∙ sym on ∙ ap (λ (x : Option Turning). record { pc = next.core.pc; turning = x }) (sym is), inl is)
  where
    loop_same : is_loop i ≡ true → come code now.core.pc d t i ≡ come code now.core.pc d now.core.turning i
    loop_same e =
        ap (λ (b : Bool). cond b (record { pc = d; turning = turning_at code now.core.pc i }) (onward d t)) e
        ∙ sym (ap (λ (b : Bool). cond b (record { pc = d; turning = turning_at code now.core.pc i }) (onward d now.core.turning)) e)
path_by code false i d t after now next e on agrees behind =
    plain_path t agrees (subst (λ (b : Bool). TurningBy b t now next after) e behind)
  where
    come_plain : (o : Option Turning) → come code now.core.pc d o i ≡ onward d o
    come_plain o = ap (λ (b : Bool). cond b (record { pc = d; turning = turning_at code now.core.pc i }) (onward d o)) e

    goes : on_of next.core ≡ onward d now.core.turning
    goes = on ∙ come_plain now.core.turning

    plain_path : (t : Option Turning) → Agrees t now → TurningBy false t now next after
        → (come code now.core.pc d t i ≡ record { pc = next.core.pc; turning = after }) × Agrees after next
    plain_path None agrees h =
        let pc : next.core.pc ≡ d = stays_at d now.core.turning (on_of next.core) goes h.1 in (
          come_plain None ∙ ap (λ (n : ℕ). record { pc = n; turning = None }) (sym pc)
              ∙ ap (λ (x : Option Turning). record { pc = next.core.pc; turning = x }) (sym h.0),
          inr h.0,
        )
    plain_path (Some u) agrees h =
        let same : Some u ≡ now.core.turning = elim agrees [
          | inl is ↦ is
          | inr none ↦ absurd (let wrong : true ≡ false = ap is_one none in cc)
        ] in (
          come_plain (Some u) ∙ ap (onward d) same ∙ sym goes
              ∙ ap (λ (x : Option Turning). record { pc = next.core.pc; turning = x }) (sym h),
          inl h,
        )

-- ---- cycles

pub own_cycles : (table : Table) (s : State) (i : Inst) → (is_access i ≡ true → class_of (address s i) ≡ Own)
    → cycles_of table s i ≡ own_cost table i
own_cycles table s (inst.Load a) own =
    ap (λ (c : Class). load_cycles table + quarters a.len + class_cycles table c 0) (own refl)
own_cycles table s (inst.Store a) own =
    ap (λ (c : Class). store_cycles table + quarters a.len + class_cycles table c 0) (own refl)
own_cycles table s (inst.Alu op d a b) own = refl
own_cycles table s (inst.Not d a) own = refl
own_cycles table s (inst.Jmp to) own = refl
own_cycles table s (inst.Jal d to) own = refl
own_cycles table s (inst.Ldi d n) own = refl
own_cycles table s (inst.Lmbd d a b) own = refl
own_cycles table s inst.Halt own = refl
own_cycles table s (inst.Xin t) own = refl
own_cycles table s (inst.Xout t) own = refl
own_cycles table s (inst.Loop body) own = refl
own_cycles table s (inst.Branch condition offset a b) own = refl
own_cycles table s (inst.Qba offset) own = refl

-- ---- in the terms of paths

-- a plain word goes along a path
pub record Along (image : Contents) (region : ℕ) (now next : Alone) (i : Inst) (t after : Option Turning) : Type 0 where
  pub to : ℕ
  pub aims : Aims (code_of_words image) now.core.pc i to
  pub comes : come (code_of_words image) now.core.pc to t i ≡ record { pc = next.core.pc; turning = after }
  pub agrees : Agrees after next

pub plain_along : (image : Contents) (region : ℕ) (now next : Alone) (t after : Option Turning) (did : Does image region now next)
    → is_plain did.inst ≡ true → Agrees t now → TurningBehind t now next did.inst after
    → Along image region now next did.inst t after
plain_along image region now next t after did plain agrees behind =
    let w : Worked image now next did.inst = worked image region now next did in
    let f = flows (code_of_words image) now.core w.given did.inst plain (sym w.stands ∙ did.going) in
    let both = path_by (code_of_words image) (is_loop did.inst) did.inst f.to t after now next refl (w.on ∙ f.comes) agrees behind in
    record { to = f.to; aims = f.aims; comes = both.0; agrees = both.1 }

-- a call comes to its function
pub call_comes : (image : Contents) (region : ℕ) (now next : Alone) (f : ℕ) (did : Does image region now next)
    → called (code_of_words image) now.core.pc did.inst ≡ Some f → Stays now next → next.core.pc ≡ f
call_comes image region now next f did is stays =
    let w : Worked image now next did.inst = worked image region now next did in
    stays_at f now.core.turning (on_of next.core) (w.on ∙ calls_to (code_of_words image) now.core w.given did.inst f is) stays
