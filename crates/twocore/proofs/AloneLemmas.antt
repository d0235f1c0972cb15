-- What a core does in the machine is what it does alone.
use Rattle.std.proofs.Common.{◌≡◌, ℕ, zero, suc, ◌+◌, ◌<◌, Bool, true, false, cond, List, [], ◌∷◌, ◌++◌, map}
use Rattle.std.proofs.Common.{Option, Some, None, refl, sym, ap, subst, ◌∙◌, arith, append_assoc}
use Rattle.std.specs.Prelude.{◌==◌, ◌&&◌}
use Rattle.std.proofs.lemmas.List.{append-nil}
use Rattle.prutrace.specs.declared.event.Event.{Event}
use Rattle.prutrace.specs.declared.event.Stamped.{Stamped}
use Rattle.isa.specs.declared.inst.Inst.{Inst}
use Rattle.isa.specs.Image.{Contents}
use Rattle.behaviour.specs.Ran.{Ran, Done, and_then}
use Rattle.behaviour.specs.Machine.{exec}
use Rattle.corestep.specs.declared.goes.Goes.{Goes}
use Rattle.corestep.specs.declared.goes.Goes.TheVariants as goes
use Rattle.corestep.specs.declared.out.Input.{Input}
use Rattle.corestep.specs.declared.out.Stop.{Stop}
use Rattle.corestep.specs.declared.out.Stop.TheVariants.{Going, Halted, Stuck}
use Rattle.corestep.specs.Core.{State}
use Rattle.corestep.specs.Effect.{Effect, effect}
use Rattle.corestep.specs.Given.{given_by}
use Rattle.corestep.specs.Step.{Stepped, stepped, istep, step_by, given_at, inst_at, notes_at, after_effect, stop_of}
use Rattle.corerun.specs.Solo.{Alone, Went, solo, alone_step, after_step}
use Rattle.corerun.specs.Values.{values_of}
use Rattle.corerun.proofs.ReadLemmas.{values_of-append}
use Rattle.corerun.proofs.AloneFollows.{alone_follows}
use Rattle.twocore.specs.declared.setup.Setup.{Setup}
use Rattle.twocore.specs.declared.side.Side.{Side}
use Rattle.twocore.specs.declared.side.Word.{Word}
use Rattle.twocore.specs.Memory.{spot_of}
use Rattle.twocore.specs.World.{Stage, stored_in}
use Rattle.twocore.specs.Word.{Turned, quiet, beginning, begun_by, begun, input_for, stamped_by}
use Rattle.twocore.specs.Word.{side_after, ended, worked_by, worked, is_going, turned}
use Rattle.twocore.specs.Alone.{events_of, standing, alone_as, RunsAlone}
use Rattle.twocore.proofs.KeepLemmas.{Keeps, moved, stored_keeps_own, stored_own_core}
use Rattle.twocore.proofs.RangeLemmas.{StageFits, input_fits}
use Rattle.twocore.proofs.StageLemmas.{mid_fits}

-- ---- traces

events_stamped : (first last : ℕ) (es : List Event) → events_of (map (stamped_by first last) es) ≡ es
events_stamped first last [] = refl
events_stamped first last (e ∷ es) = ap (λ (xs : List Event). e ∷ xs) (events_stamped first last es)

events_append : (xs ys : List Stamped) → events_of (xs ++ ys) ≡ events_of xs ++ events_of ys
events_append [] ys = refl
events_append (x ∷ xs) ys = ap (λ (es : List Event). x.event ∷ es) (events_append xs ys)

-- ---- what counts of a side

abbrev alone_of : State → Stop → ℕ → List Stamped → List ℕ → Alone
alone_of core stop count trace behind =
    record { core = core; stands = standing stop; left = behind; shown = events_of trace; count = count }

pub alone_moved : (image : Contents) (old new : Side) (trace : List Stamped) → new.core ≡ old.core → new.stop ≡ old.stop
    → new.count ≡ old.count → RunsAlone image old trace → RunsAlone image new trace
alone_moved image old new trace core stop count alone = record {
  runs = λ behind more.
      ap (λ (n : ℕ). solo image (values_of (events_of trace) ++ behind) (n + more)) count
      ∙ alone.runs behind more
      ∙ ap (exec (alone_step image) more)
      (ap (λ (c : State). alone_of c old.stop old.count trace behind) (sym core)
      ∙ ap (λ (p : Stop). alone_of new.core p old.count trace behind) (sym stop)
      ∙ ap (λ (n : ℕ). alone_of new.core new.stop n trace behind) (sym count));
  stuck = λ is. ap (λ (c : State). inst_at image.words c.pc) core ∙ alone.stuck (sym stop ∙ is);
}

nothing_more : (image : Contents) (side : Side) (trace : List Stamped) → RunsAlone image side trace → RunsAlone image side (trace ++ [])
nothing_more image side trace alone = subst (RunsAlone image side) (sym (append-nil trace)) alone

-- ---- a word

stop_stands : (g : Goes) → standing (stop_of g) ≡ stop_of g
stop_stands goes.Behind = refl
stop_stands (goes.Number n) = refl
stop_stands goes.Target = refl
stop_stands goes.Around = refl
stop_stands goes.Nowhere = refl

not_stuck : (g : Goes) → stop_of g ≡ Stuck → ⊥
not_stuck goes.Behind h = cc
not_stuck (goes.Number n) h = cc
not_stuck goes.Target h = cc
not_stuck goes.Around h = cc
not_stuck goes.Nowhere h = cc

stepped_stop : (image : Contents) (s : State) (input : Input) (i : Inst) → inst_at image.words s.pc ≡ Some i
    → (stepped image s input).out.stop ≡ stop_of (effect (s.pc + 1) s.registers s.ram (given_by s.registers input i) i).goes
unfolding istep
stepped_stop image s input i at = ap (λ (o : Option Inst). (step_by image.notes s (given_at s input o) o).out.stop) at

module _ (setup : Setup) (t : ℕ) (s : Stage) (word : Word) (trace : List Stamped) (i : Inst) (fits : StageFits s)
    (going : s.own.stop ≡ Going) (at : inst_at setup.image.words s.own.core.pc ≡ Some i)
    (alone : RunsAlone setup.image s.own trace) where
  abbrev did : Stepped
  did = stepped setup.image s.own.core (input_for setup.core s i)

  abbrev shown : List Stamped
  shown = map (stamped_by word.first t) did.out.events

  abbrev goes_where : Goes
  goes_where =
      (effect (s.own.core.pc + 1) s.own.core.registers s.own.core.ram (given_by s.own.core.registers (input_for setup.core s i) i) i).goes

  stop_is : did.out.stop ≡ stop_of goes_where
  stop_is = stepped_stop setup.image s.own.core (input_for setup.core s i) i at

  stands_is : standing did.out.stop ≡ did.out.stop
  stands_is = ap standing stop_is ∙ stop_stands goes_where ∙ sym stop_is

  events_are : events_of (trace ++ shown) ≡ events_of trace ++ did.out.events
  events_are =
      events_append trace shown ∙ ap (λ (es : List Event). events_of trace ++ es) (events_stamped word.first t did.out.events)

  values_are : (behind : List ℕ)
      → values_of (events_of (trace ++ shown)) ++ behind ≡ values_of (events_of trace) ++ (values_of did.out.events ++ behind)
  values_are behind =
      ap (λ (es : List Event). values_of es ++ behind) events_are
      ∙ ap (λ (vs : List ℕ). vs ++ behind) (values_of-append (events_of trace) did.out.events)
      ∙ append_assoc (values_of (events_of trace)) (values_of did.out.events) behind

  one_step : (behind : List ℕ)
      → alone_step setup.image (alone_as s.own trace (values_of did.out.events ++ behind))
      ≡ Done tt (after_step (alone_as s.own trace (values_of did.out.events ++ behind)) behind did)
  one_step behind =
      alone_follows setup.image (alone_as s.own trace (values_of did.out.events ++ behind)) (input_for setup.core s i) i behind
      (input_fits setup.core s i fits) (ap standing going) at refl

  same_after : (behind : List ℕ)
      → after_step (alone_as s.own trace (values_of did.out.events ++ behind)) behind did
      ≡ alone_as (side_after s.own did) (trace ++ shown) behind
  same_after behind =
      ap (λ (p : Stop). record {
        core = did.core;
        stands = p;
        left = behind;
        shown = events_of trace ++ did.out.events;
        count =
            s.own.count + 1;
      })
      (sym stands_is)
      ∙ ap (λ (es : List Event). record {
        core = did.core;
        stands = standing did.out.stop;
        left = behind;
        shown = es;
        count =
            s.own.count + 1;
      })
      (sym events_are)

  word_alone : RunsAlone setup.image (side_after s.own did) (trace ++ shown)
  word_alone = record {
    runs = λ behind more.
        ap (λ (vs : List ℕ). solo setup.image vs (s.own.count + 1 + more)) (values_are behind)
        ∙ ap (solo setup.image (values_of (events_of trace) ++ (values_of did.out.events ++ behind)))
        (let e : s.own.count + 1 + more ≡ s.own.count + suc more = omega arith in e)
        ∙ alone.runs (values_of did.out.events ++ behind) (suc more)
        ∙ ap (λ (r : Went). and_then r (λ _. exec (alone_step setup.image) more)) (one_step behind)
        ∙ ap (exec (alone_step setup.image) more) (same_after behind);
    stuck = λ is. absurd (not_stuck goes_where (sym stop_is ∙ is));
  }

  ended_alone : RunsAlone setup.image (ended setup t s word (Some i)).stage.own (trace ++ (ended setup t s word (Some i)).shown)
  ended_alone =
      let keeps = stored_keeps_own (moved s i did) (spot_of did.out.at) did.out.stored in
      alone_moved setup.image (side_after s.own did) (stored_in (moved s i did) (spot_of did.out.at) did.out.stored).own (trace ++ shown)
      (stored_own_core (moved s i did) (spot_of did.out.at) did.out.stored) keeps.stop keeps.count word_alone

-- ---- a core's cycle

after_ended : (setup : Setup) (t : ℕ) (s : Stage) (word : Word) (trace : List Stamped) (o : Option Inst) → StageFits s
    → s.own.stop ≡ Going → inst_at setup.image.words s.own.core.pc ≡ o → RunsAlone setup.image s.own trace
    → RunsAlone setup.image (ended setup t s word o).stage.own (trace ++ (ended setup t s word o).shown)
after_ended setup t s word trace None fits going at alone = nothing_more setup.image s.own trace alone
after_ended setup t s word trace (Some i) fits going at alone = ended_alone setup t s word trace i fits going at alone

if_alone : (image : Contents) (trace : List Stamped) (b : Bool) (s : Stage) (r : Turned) → RunsAlone image s.own trace
    → RunsAlone image r.stage.own (trace ++ r.shown)
    → RunsAlone image (cond b r (quiet s)).stage.own (trace ++ (cond b r (quiet s)).shown)
if_alone image trace true s r same after = after
if_alone image trace false s r same after = nothing_more image s.own trace same

after_worked : (setup : Setup) (t : ℕ) (s : Stage) (trace : List Stamped) (word : Word) → StageFits s → s.own.stop ≡ Going
    → RunsAlone setup.image s.own trace
    → RunsAlone setup.image (worked_by setup t s (Some word)).stage.own (trace ++ (worked_by setup t s (Some word)).shown)
after_worked setup t s trace word fits going alone =
    if_alone setup.image trace (word.last == t) s (ended setup t s word (inst_at setup.image.words s.own.core.pc)) alone
    (after_ended setup t s word trace (inst_at setup.image.words s.own.core.pc) fits going refl alone)

-- the core's cycle, where it goes: by the word that it is doing, and by the instruction at its counter
abbrev goes_on_by : Setup → ℕ → Stage → Option Word → Option Inst → Turned
goes_on_by setup t s None None = worked_by setup t (record s { own = beginning setup t s.own None }) None
goes_on_by setup t s None (Some i) =
    worked_by setup t (record s { own = beginning setup t s.own (Some i) }) (beginning setup t s.own (Some i)).word
goes_on_by setup t s (Some word) o = worked_by setup t s (Some word)

split_word : (setup : Setup) (t : ℕ) (s : Stage) (w : Option Word) (o : Option Inst) → s.own.word ≡ w
    → inst_at setup.image.words s.own.core.pc ≡ o
    → worked setup t (record s { own = begun setup t s.own }) ≡ goes_on_by setup t s w o
split_word setup t s None None is at =
    ap (λ (x : Option Word). worked setup t (record s { own = begun_by setup t s.own x })) is
    ∙ ap (λ (x : Option Inst). worked setup t (record s { own = beginning setup t s.own x })) at
    ∙ ap (worked_by setup t (record s { own = beginning setup t s.own None })) is
split_word setup t s None (Some i) is at =
    ap (λ (x : Option Word). worked setup t (record s { own = begun_by setup t s.own x })) is
    ∙ ap (λ (x : Option Inst). worked setup t (record s { own = beginning setup t s.own x })) at
split_word setup t s (Some word) o is at =
    ap (λ (x : Option Word). worked setup t (record s { own = begun_by setup t s.own x })) is
    ∙ ap (worked_by setup t s) is

goes_alone : (setup : Setup) (t : ℕ) (s : Stage) (trace : List Stamped) (w : Option Word) (o : Option Inst)
    → inst_at setup.image.words s.own.core.pc ≡ o → StageFits s → s.own.stop ≡ Going → RunsAlone setup.image s.own trace
    → RunsAlone setup.image (goes_on_by setup t s w o).stage.own (trace ++ (goes_on_by setup t s w o).shown)
goes_alone setup t s trace None None at fits going alone =
    nothing_more setup.image (record s.own { stop = Stuck }) trace
    (record {
      runs = λ behind more.
          alone.runs behind more
          ∙ ap (exec (alone_step setup.image) more)
          (ap (λ (p : Stop). record { core = s.own.core; stands = p; left = behind; shown = events_of trace; count = s.own.count })
          (ap standing going));
      stuck = λ is. at;
    })
goes_alone setup t s trace None (Some i) at fits going alone =
    let mid : Stage = record s { own = beginning setup t s.own (Some i) } in
    after_worked setup t mid trace _ (record {
      own = record { core = fits.own.core; window = fits.own.window };
      other = fits.other;
      world = fits.world;
    })
    going (alone_moved setup.image s.own mid.own trace refl refl refl alone)
goes_alone setup t s trace (Some word) o at fits going alone = after_worked setup t s trace word fits going alone

going_of : (a : Bool) (stop : Stop) → a && is_going stop ≡ true → stop ≡ Going
going_of true Going h = refl
going_of true Halted h = absurd (cc)
going_of true Stuck h = absurd (cc)
going_of false stop h = absurd (cc)

turn_alone_by : (setup : Setup) (t : ℕ) (s : Stage) (trace : List Stamped) (b : Bool) → s.own.started && is_going s.own.stop ≡ b
    → StageFits s → RunsAlone setup.image s.own trace
    → let r = cond b (worked setup t (record s { own = begun setup t s.own })) (quiet s) in
    RunsAlone setup.image r.stage.own (trace ++ r.shown)
turn_alone_by setup t s trace true is fits alone =
    let o : Option Inst = inst_at setup.image.words s.own.core.pc in
    subst (λ (r : Turned). RunsAlone setup.image r.stage.own (trace ++ r.shown)) (sym (split_word setup t s s.own.word o refl refl))
    (goes_alone setup t s trace s.own.word o refl fits (going_of s.own.started s.own.stop is) alone)
turn_alone_by setup t s trace false is fits alone = nothing_more setup.image s.own trace alone

-- a core's own cycle
pub turned_alone : (setup : Setup) (t : ℕ) (s : Stage) (trace : List Stamped) → StageFits s → RunsAlone setup.image s.own trace
    → RunsAlone setup.image (turned setup t s).stage.own (trace ++ (turned setup t s).shown)
turned_alone setup t s trace fits alone = turn_alone_by setup t s trace (s.own.started && is_going s.own.stop) refl fits alone

-- and what others leave of it
pub kept_alone : (image : Contents) (old new : Side) (trace : List Stamped) → Keeps old new → new.core.ram ≡ old.core.ram
    → RunsAlone image old trace → RunsAlone image new trace
kept_alone image old new trace keeps ram alone =
    alone_moved image old new trace (keeps.core ∙ ap (λ (r : List ℕ). record old.core { ram = r }) ram) keeps.stop keeps.count alone
