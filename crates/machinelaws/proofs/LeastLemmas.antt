-- How late a core is, word by word.
use Rattle.std.proofs.Common.{◌≡◌, ℕ, zero, suc, ◌+◌, ◌-◌, ◌*◌, ◌<◌, ◌≤◌, Bool, true, false, cond, List, [], ◌∷◌}
use Rattle.std.proofs.Common.{Option, Some, None, refl, sym, ap, subst, ◌∙◌, arith, ◌⊎◌, inl, inr}
use Rattle.std.specs.Prelude.{◌==◌, ◌&&◌}
use Rattle.std.proofs.lemmas.Bool.{cases_lt, eqb-true, eqb-false}
use Rattle.std.specs.List.{AllByRecursion}
use Rattle.isa.specs.declared.inst.Inst.{Inst}
use Rattle.isa.specs.Image.{Contents}
use Rattle.corestep.specs.declared.out.Stop.{Stop}
use Rattle.corestep.specs.declared.out.Stop.TheVariants.{Going, Halted, Stuck}
use Rattle.corestep.specs.declared.table.Table.{Table}
use Rattle.corestep.specs.declared.table.Table.TheVariants as tables
use Rattle.corestep.specs.Core.{State}
use Rattle.corestep.specs.Step.{Stepped, inst_at, stepped}
use Rattle.hostscript.specs.declared.action.Action.{Action}
use Rattle.hostscript.specs.declared.action.Action.TheVariants as action
use Rattle.hostscript.specs.declared.action.Act.{Act}
use Rattle.hostscript.specs.declared.script.Script.{Script}
use Rattle.twocore.specs.declared.setup.Setup.{Setup}
use Rattle.twocore.specs.declared.side.Side.{Side}
use Rattle.twocore.specs.declared.side.Word.{Word}
use Rattle.twocore.specs.declared.spot.Spot.{Spot}
use Rattle.twocore.specs.declared.spot.Spot.TheVariants.{Own, Other, Shared, Controller, Outside, Nothing}
use Rattle.twocore.specs.Memory.{spot_of}
use Rattle.twocore.specs.World.{Stage, stored_in}
use Rattle.twocore.specs.Word.{Turned, quiet, cycles_of, beginning, begun_by, begun, input_for, ended, worked_by, worked, is_going, turned}
use Rattle.twocore.specs.Machine.{Machine, acts_at, swapped, acted, all_acted, cycle, cycles, at_start_of}
use Rattle.twocore.specs.Alone.{behind_acts, behind_zero}
use Rattle.twocore.proofs.KeepLemmas.{Keeps, KeepsBoth, moved, stored_keeps_own, all_acted_keeps, turned_keeps}
use Rattle.twocore.proofs.CycleLemmas.{cycles_done, cycles_add}
use Rattle.machinelaws.specs.Least.{dearest}
use Rattle.machinelaws.proofs.CostLemmas.{word_some, word_few}

-- ---- a core that has started stays so

stored_own_started : (s : Stage) (spot : Spot) (bytes : List ℕ) → (stored_in s spot bytes).own.started ≡ s.own.started
stored_own_started s (Own at) bytes = refl
stored_own_started s (Other at) bytes = refl
stored_own_started s (Shared at) bytes = refl
stored_own_started s (Controller at) bytes = refl
stored_own_started s (Outside at) bytes = refl
stored_own_started s Nothing bytes = refl

stored_other_started : (s : Stage) (spot : Spot) (bytes : List ℕ) → (stored_in s spot bytes).other.started ≡ s.other.started
stored_other_started s (Own at) bytes = refl
stored_other_started s (Other at) bytes = refl
stored_other_started s (Shared at) bytes = refl
stored_other_started s (Controller at) bytes = refl
stored_other_started s (Outside at) bytes = refl
stored_other_started s Nothing bytes = refl

record Started (old new : Stage) : Type 0 where
  own : old.own.started ≡ true → new.own.started ≡ true
  other : old.other.started ≡ true → new.other.started ≡ true

start_started : (b : Bool) (s : Stage)
    → Started s (cond b (record s { own = record s.own { started = true } }) (record s { other = record s.other { started = true } }))
start_started true s = record { own = λ h. refl; other = λ h. h }
start_started false s = record { own = λ h. h; other = λ h. refl }

acted_started : (s : Stage) (a : Action) → Started s (acted s a)
acted_started s (action.Poke addr width value) = record {
  own = λ h. stored_own_started s (spot_of addr) _ ∙ h;
  other = λ h. stored_other_started s (spot_of addr) _ ∙ h;
}
acted_started s (action.Pins core bits) = record { own = λ h. h; other = λ h. h }
acted_started s (action.Event number) = record { own = λ h. h; other = λ h. h }
acted_started s (action.Start core) = start_started (core == 0) s

all_started : (s : Stage) (acts : List Act) → Started s (all_acted s acts)
all_started s [] = record { own = λ h. h; other = λ h. h }
all_started s (a ∷ acts) =
    let first : Started s (acted s a.action) = acted_started s a.action in
    let rest : Started (acted s a.action) (all_acted (acted s a.action) acts) = all_started (acted s a.action) acts in
    record { own = λ h. rest.own (first.own h); other = λ h. rest.other (first.other h) }

ended_started : (setup : Setup) (t : ℕ) (s : Stage) (word : Word) (o : Option Inst) → Started s (ended setup t s word o).stage
ended_started setup t s word None = record { own = λ h. h; other = λ h. h }
ended_started setup t s word (Some i) =
    let did : Stepped = stepped setup.image s.own.core (input_for setup.core s i) in
    record {
      own = λ h. stored_own_started (moved s i did) (spot_of did.out.at) did.out.stored ∙ h;
      other = λ h. stored_other_started (moved s i did) (spot_of did.out.at) did.out.stored ∙ h;
    }

if_started : (b : Bool) (s : Stage) (r : Turned) → Started s r.stage → Started s (cond b r (quiet s)).stage
if_started true s r h = h
if_started false s r h = record { own = λ h. h; other = λ h. h }

worked_started : (setup : Setup) (t : ℕ) (s : Stage) (o : Option Word) → Started s (worked_by setup t s o).stage
worked_started setup t s None = record { own = λ h. h; other = λ h. h }
worked_started setup t s (Some word) =
    if_started (word.last == t) s (ended setup t s word (inst_at setup.image.words s.own.core.pc))
    (ended_started setup t s word (inst_at setup.image.words s.own.core.pc))

beginning_started : (setup : Setup) (t : ℕ) (side : Side) (o : Option Inst) → (beginning setup t side o).started ≡ side.started
beginning_started setup t side None = refl
beginning_started setup t side (Some i) = refl

begun_started : (setup : Setup) (t : ℕ) (side : Side) (o : Option Word) → (begun_by setup t side o).started ≡ side.started
begun_started setup t side None = beginning_started setup t side (inst_at setup.image.words side.core.pc)
begun_started setup t side (Some word) = refl

turned_started : (setup : Setup) (t : ℕ) (s : Stage) → Started s (turned setup t s).stage
turned_started setup t s =
    let mid : Stage = record s { own = begun setup t s.own } in
    let works : Started mid (worked setup t mid).stage = worked_started setup t mid mid.own.word in
    if_started (s.own.started && is_going s.own.stop) s (worked setup t mid)
    (record { own = λ h. works.own (begun_started setup t s.own s.own.word ∙ h); other = works.other })

-- ---- a core's cycle

-- the word that a core is doing stands at its counter, and ends in time
record Doing (setup : Setup) (dear since t : ℕ) (side : Side) (word : Word) : Type 0 where
  inst : Inst
  is : inst_at setup.image.words side.core.pc ≡ Some inst
  now : t ≤ word.last
  soon : word.last < since + (dear * side.count + dear)

-- A core that began in a cycle is by cycle t not later than the most expensive words would have it.
abbrev InTime : Setup → ℕ → ℕ → ℕ → Side → Option Word → Type 0
InTime setup dear since t side None = t ≤ since + dear * side.count
InTime setup dear since t side (Some word) = Doing setup dear since t side word

record IsPaced (setup : Setup) (dear since t : ℕ) (side : Side) : Type 0 where
  idle : (side.started ≡ true) ⊎ (side.word ≡ None)
  going : side.stop ≡ Going → InTime setup dear since t side side.word

-- a core that has begun its word, or was stuck
abbrev HasBegun : Setup → ℕ → ℕ → ℕ → Side → Option Word → Type 0
HasBegun setup dear since t side None = side.stop ≡ Stuck
HasBegun setup dear since t side (Some word) = Doing setup dear since t side word

one_more : (dear n : ℕ) → dear * (n + 1) ≡ dear * n + dear
one_more dear n = grind arith

module _ (setup : Setup) (dear since t : ℕ) (few : (side : Side) (i : Inst) → cycles_of setup side i ≤ dear) where
  abbrev Begins : Side → Type 0
  Begins side = HasBegun setup dear since t side side.word

  beginning_is : (side : Side) (o : Option Inst) → inst_at setup.image.words side.core.pc ≡ o → side.word ≡ None
      → t ≤ since + dear * side.count
      → Begins (beginning setup t side o)
  beginning_is side None e none h =
      subst (λ (w : Option Word). HasBegun setup dear since t (record side { stop = Stuck }) w) (sym none) refl
  beginning_is side (Some i) e none h =
      let some : 1 ≤ cycles_of setup side i = word_some setup side i in
      let most : cycles_of setup side i ≤ dear = few side i in
      record { inst = i; is = e; now = omega (arith, some); soon = omega (arith, some, most, h) }

  begun_is : (side : Side) (w : Option Word) → side.word ≡ w → InTime setup dear since t side w → Begins (begun_by setup t side w)
  begun_is side None is h = beginning_is side (inst_at setup.image.words side.core.pc) refl is h
  begun_is side (Some word) is h = subst (λ (w : Option Word). HasBegun setup dear since t side w) (sym is) h

  abbrev Ends : Side → Type 0
  Ends side = side.stop ≡ Going → InTime setup dear since (t + 1) side side.word

  later : (last : ℕ) → t ≤ last → (last ≡ t → ⊥) → t + 1 ≤ last
  later last h other = elim (cases_lt t last) [
    | inl more ↦ omega arith
    | inr less ↦ absurd (other (omega arith))
  ]

  ended_is : (s : Stage) (word : Word) (o : Option Inst) → inst_at setup.image.words s.own.core.pc ≡ o
      → Doing setup dear since t s.own word → word.last ≡ t
      → Ends (ended setup t s word o).stage.own
  ended_is s word None e doing last going = absurd (let wrong : ◌≡◌ {A = Option Inst} None (Some doing.inst) = sym e ∙ doing.is in cc)
  ended_is s word (Some i) e doing last going =
      let did : Stepped = stepped setup.image s.own.core (input_for setup.core s i) in
      let keeps = stored_keeps_own (moved s i did) (spot_of did.out.at) did.out.stored in
      let after : Side = (ended setup t s word (Some i)).stage.own in
      let count : after.count ≡ s.own.count + 1 = keeps.count in
      let soon : t + 1 ≤ since + dear * (s.own.count + 1) = let m = one_more dear s.own.count in omega (arith, doing.soon, last, m) in
      subst (λ (w : Option Word). InTime setup dear since (t + 1) after w) (sym keeps.word)
      (subst (λ (n : ℕ). t + 1 ≤ since + dear * n) (sym count) soon)

  if_is : (s : Stage) (word : Word) (b : Bool) → (word.last == t) ≡ b → s.own.word ≡ Some word
      → Doing setup dear since t s.own word
      → Ends (cond b (ended setup t s word (inst_at setup.image.words s.own.core.pc)) (quiet s)).stage.own
  if_is s word true e is doing going =
      ended_is s word (inst_at setup.image.words s.own.core.pc) refl doing (eqb-true word.last t e) going
  if_is s word false e is doing going =
      subst (λ (w : Option Word). InTime setup dear since (t + 1) s.own w) (sym is)
      (record {
        inst = doing.inst;
        is = doing.is;
        now = later word.last doing.now (eqb-false word.last t e);
        soon = doing.soon;
      })

  worked_is : (s : Stage) (w : Option Word) → s.own.word ≡ w → HasBegun setup dear since t s.own w
      → Ends (worked_by setup t s w).stage.own
  worked_is s None is h going = absurd (let wrong : Going ≡ Stuck = sym going ∙ h in cc)
  worked_is s (Some word) is h going = if_is s word (word.last == t) refl is h going

  -- before the core began it does nothing
  not_going : (side : Side) → (side.started && is_going side.stop) ≡ false → (side.started ≡ true) → side.stop ≡ Going → ⊥
  not_going side e started going =
      let both : (side.started && is_going side.stop) ≡ true =
      ap (λ (b : Bool). b && is_going side.stop) started ∙ ap is_going going in
      let wrong : true ≡ false = sym both ∙ e in
      cc

  quiet_is : (side : Side) → (side.started && is_going side.stop) ≡ false → (t < since) ⊎ (side.started ≡ true)
      → IsPaced setup dear since t side → IsPaced setup dear since (t + 1) side
  quiet_is side e early h = record {
    idle = h.idle;
    going = λ going. elim early [
      | inr started ↦ absurd (not_going side e started going)
      | inl before ↦ elim h.idle [
        | inl started ↦ absurd (not_going side e started going)
        | inr none ↦
            subst (λ (w : Option Word). InTime setup dear since (t + 1) side w) (sym none) (omega (arith, before))
      ]
    ];
  }

  started_of : (a b : Bool) → (a && b) ≡ true → a ≡ true
  started_of true b e = refl
  started_of false b e = e

  going_of : (a : Bool) (stop : Stop) → (a && is_going stop) ≡ true → stop ≡ Going
  going_of true Going e = refl
  going_of true Halted e = absurd (let wrong : false ≡ true = e in cc)
  going_of true Stuck e = absurd (let wrong : false ≡ true = e in cc)
  going_of false stop e = absurd (let wrong : false ≡ true = e in cc)

  turned_by : (s : Stage) (b : Bool) → (s.own.started && is_going s.own.stop) ≡ b → (t < since) ⊎ (s.own.started ≡ true)
      → IsPaced setup dear since t s.own
      → IsPaced setup dear since (t + 1) (cond b (worked setup t (record s { own = begun setup t s.own })) (quiet s)).stage.own
  turned_by s true e early h =
      let mid : Stage = record s { own = begun setup t s.own } in
      let going : s.own.stop ≡ Going = going_of s.own.started s.own.stop e in
      let started : s.own.started ≡ true = started_of s.own.started (is_going s.own.stop) e in
      let begins : Begins mid.own = begun_is s.own s.own.word refl (h.going going) in
      let works : Started mid (worked setup t mid).stage = worked_started setup t mid mid.own.word in
      record {
        idle = inl (works.own (begun_started setup t s.own s.own.word ∙ started));
        going = worked_is mid mid.own.word refl begins;
      }
  turned_by s false e early h = quiet_is s.own e early h

  turned_is : (s : Stage) → (t < since) ⊎ (s.own.started ≡ true) → IsPaced setup dear since t s.own
      → IsPaced setup dear since (t + 1) (turned setup t s).stage.own
  turned_is s early h = turned_by s (s.own.started && is_going s.own.stop) refl early h

-- ---- the machine

module _ (setup : Setup) (dear since t : ℕ) where
  count_moved : (old new : Side) (w : Option Word) → new.core.pc ≡ old.core.pc → new.count ≡ old.count
      → InTime setup dear since t old w → InTime setup dear since t new w
  count_moved old new None pc count h = subst (λ (n : ℕ). t ≤ since + dear * n) (sym count) h
  count_moved old new (Some word) pc count h = record {
    inst = h.inst;
    is = ap (inst_at setup.image.words) pc ∙ h.is;
    now = h.now;
    soon = subst (λ (n : ℕ). word.last < since + (dear * n + dear)) (sym count) h.soon;
  }

  moved_is : (old new : Side) → Keeps old new → (old.started ≡ true → new.started ≡ true) → IsPaced setup dear since t old
      → IsPaced setup dear since t new
  moved_is old new keeps starts h = record {
    idle = elim h.idle [ inl started ↦ inl (starts started) | inr none ↦ inr (keeps.word ∙ none) ];
    going = λ going.
        subst (InTime setup dear since t new) (sym keeps.word)
        (count_moved old new old.word (ap (λ (c : State). c.pc) keeps.core) keeps.count (h.going (sym keeps.stop ∙ going)));
  }

-- what is given stays
given0 : (n : ℕ) (m : Machine) → (cycles n m).setup0 ≡ m.setup0
given0 zero m = refl
given0 (suc n) m = given0 n m

given1 : (n : ℕ) (m : Machine) → (cycles n m).setup1 ≡ m.setup1
given1 zero m = refl
given1 (suc n) m = given1 n m

abbrev start : Machine → Stage
start m = record { own = m.zero; other = m.one; world = m.world }

begun_zero : (m : Machine) → (behind_acts m).own.started ≡ true → (behind_acts (cycle m)).own.started ≡ true
begun_zero m h =
    (all_started (start (cycle m)) (acts_at (cycle m).done (cycle m).acts)).own
    ((turned_started m.setup1 m.done (swapped (behind_zero m))).other ((turned_started m.setup0 m.done (behind_acts m)).own h))

begun_one : (m : Machine) → (behind_acts m).other.started ≡ true → (behind_acts (cycle m)).other.started ≡ true
begun_one m h =
    (all_started (start (cycle m)) (acts_at (cycle m).done (cycle m).acts)).other
    ((turned_started m.setup1 m.done (swapped (behind_zero m))).own ((turned_started m.setup0 m.done (behind_acts m)).other h))

runs_zero : (n : ℕ) (m : Machine) → (behind_acts m).own.started ≡ true → (behind_acts (cycles n m)).own.started ≡ true
runs_zero zero m h = h
runs_zero (suc n) m h = begun_zero (cycles n m) (runs_zero n m h)

runs_one : (n : ℕ) (m : Machine) → (behind_acts m).other.started ≡ true → (behind_acts (cycles n m)).other.started ≡ true
runs_one zero m h = h
runs_one (suc n) m h = begun_one (cycles n m) (runs_one n m h)

-- before a cycle, or from it on
either_zero : (s n : ℕ) (m : Machine) → (behind_acts (cycles s m)).own.started ≡ true
    → (n < s) ⊎ ((behind_acts (cycles n m)).own.started ≡ true)
either_zero s n m h = elim (cases_lt n s) [
  | inl before ↦ inl before
  | inr behind ↦
      inr (subst (λ (x : Machine). (behind_acts x).own.started ≡ true)
      (cycles_add (n - s) s m ∙ ap (λ (k : ℕ). cycles k m) (let e : n - s + s ≡ n = omega arith in e))
      (runs_zero (n - s) (cycles s m) h))
]

either_one : (s n : ℕ) (m : Machine) → (behind_acts (cycles s m)).other.started ≡ true
    → (n < s) ⊎ ((behind_acts (cycles n m)).other.started ≡ true)
either_one s n m h = elim (cases_lt n s) [
  | inl before ↦ inl before
  | inr behind ↦
      inr (subst (λ (x : Machine). (behind_acts x).other.started ≡ true)
      (cycles_add (n - s) s m ∙ ap (λ (k : ℕ). cycles k m) (let e : n - s + s ≡ n = omega arith in e))
      (runs_one (n - s) (cycles s m) h))
]

module _ (dear since t : ℕ) where
  zero_is : (m : Machine) → ((side : Side) (i : Inst) → cycles_of m.setup0 side i ≤ dear)
      → (t < since) ⊎ ((behind_acts m).own.started ≡ true) → m.done ≡ t
      → IsPaced m.setup0 dear since t m.zero
      → IsPaced m.setup0 dear since (t + 1) (cycle m).zero
  zero_is m few early now h =
      let acted : Stage = behind_acts m in
      let middle : Stage = behind_zero m in
      let acts : KeepsBoth (start m) acted = all_acted_keeps (start m) (acts_at m.done m.acts) in
      let ready : IsPaced m.setup0 dear since t acted.own =
      moved_is m.setup0 dear since t m.zero acted.own acts.own (all_started (start m) (acts_at m.done m.acts)).own h in
      let turns : IsPaced m.setup0 dear since (t + 1) middle.own =
      subst (λ (k : ℕ). IsPaced m.setup0 dear since (t + 1) (turned m.setup0 k acted).stage.own) (sym now)
      (turned_is m.setup0 dear since t few acted early ready) in
      moved_is m.setup0 dear since (t + 1) middle.own (cycle m).zero (turned_keeps m.setup1 m.done (swapped middle))
      (turned_started m.setup1 m.done (swapped middle)).other turns

  one_is : (m : Machine) → ((side : Side) (i : Inst) → cycles_of m.setup1 side i ≤ dear)
      → (t < since) ⊎ ((behind_acts m).other.started ≡ true) → m.done ≡ t
      → IsPaced m.setup1 dear since t m.one
      → IsPaced m.setup1 dear since (t + 1) (cycle m).one
  one_is m few early now h =
      let acted : Stage = behind_acts m in
      let middle : Stage = behind_zero m in
      let acts : KeepsBoth (start m) acted = all_acted_keeps (start m) (acts_at m.done m.acts) in
      let ready : IsPaced m.setup1 dear since t acted.other =
      moved_is m.setup1 dear since t m.one acted.other acts.other (all_started (start m) (acts_at m.done m.acts)).other h in
      let seen : IsPaced m.setup1 dear since t middle.other =
      moved_is m.setup1 dear since t acted.other middle.other (turned_keeps m.setup0 m.done acted)
      (turned_started m.setup0 m.done acted).other ready in
      let begun : (t < since) ⊎ (middle.other.started ≡ true) = elim early [
        | inl before ↦ inl before
        | inr started ↦ inr ((turned_started m.setup0 m.done acted).other started)
      ] in
      subst (λ (k : ℕ). IsPaced m.setup1 dear since (t + 1) (turned m.setup1 k (swapped middle)).stage.own) (sym now)
      (turned_is m.setup1 dear since t few (swapped middle) begun seen)

module _ (m : Machine) (at_first : m.done ≡ 0) (dear since : ℕ) where
  zero_runs : (n : ℕ) → ((side : Side) (i : Inst) → cycles_of m.setup0 side i ≤ dear)
      → (behind_acts (cycles since m)).own.started ≡ true → IsPaced m.setup0 dear since 0 m.zero
      → IsPaced m.setup0 dear since n (cycles n m).zero
  zero_runs zero few h first = first
  zero_runs (suc n) few h first =
      let x : Machine = cycles n m in
      let same : x.setup0 ≡ m.setup0 = given0 n m in
      let before : IsPaced x.setup0 dear since n x.zero =
      subst (λ (u : Setup). IsPaced u dear since n x.zero) (sym same) (zero_runs n few h first) in
      let after : IsPaced x.setup0 dear since (n + 1) (cycle x).zero =
      zero_is dear since n x (subst (λ (u : Setup). (side : Side) (i : Inst) → cycles_of u side i ≤ dear) (sym same) few)
      (either_zero since n m h) (let d = cycles_done n m in omega (arith, at_first)) before in
      subst (λ (k : ℕ). IsPaced m.setup0 dear since k (cycle x).zero) (let e : n + 1 ≡ suc n = omega arith in e)
      (subst (λ (u : Setup). IsPaced u dear since (n + 1) (cycle x).zero) same after)

  one_runs : (n : ℕ) → ((side : Side) (i : Inst) → cycles_of m.setup1 side i ≤ dear)
      → (behind_acts (cycles since m)).other.started ≡ true → IsPaced m.setup1 dear since 0 m.one
      → IsPaced m.setup1 dear since n (cycles n m).one
  one_runs zero few h first = first
  one_runs (suc n) few h first =
      let x : Machine = cycles n m in
      let same : x.setup1 ≡ m.setup1 = given1 n m in
      let before : IsPaced x.setup1 dear since n x.one =
      subst (λ (u : Setup). IsPaced u dear since n x.one) (sym same) (one_runs n few h first) in
      let after : IsPaced x.setup1 dear since (n + 1) (cycle x).one =
      one_is dear since n x (subst (λ (u : Setup). (side : Side) (i : Inst) → cycles_of u side i ≤ dear) (sym same) few)
      (either_one since n m h) (let d = cycles_done n m in omega (arith, at_first)) before in
      subst (λ (k : ℕ). IsPaced m.setup1 dear since k (cycle x).one) (let e : n + 1 ≡ suc n = omega arith in e)
      (subst (λ (u : Setup). IsPaced u dear since (n + 1) (cycle x).one) same after)

-- ---- what it tells

dear_some : (table : Table) (wait : ℕ) → 0 < dearest table wait
dear_some tables.One wait = omega arith
dear_some tables.Two wait = omega arith

in_time : (setup : Setup) (dear since t : ℕ) (side : Side) (w : Option Word) → 0 < dear → InTime setup dear since t side w
    → t < since + dear * (side.count + 1)
in_time setup dear since t side None some h = let m = one_more dear side.count in omega (arith, m)
in_time setup dear since t side (Some word) some h = let m = one_more dear side.count in omega (arith, m, h.now, h.soon)

pub least_zero : (table : Table) (image0 image1 : Contents) (script : Script) (wait s n : ℕ)
    → AllByRecursion (λ w. w ≤ wait) script.arb0
    → (behind_acts (cycles s (at_start_of table image0 image1 script))).own.started ≡ true
    → (cycles n (at_start_of table image0 image1 script)).zero.stop ≡ Going
    → n < s + dearest table wait * ((cycles n (at_start_of table image0 image1 script)).zero.count + 1)
least_zero table image0 image1 script wait s n waits begun going =
    let m : Machine = at_start_of table image0 image1 script in
    let dear : ℕ = dearest table wait in
    let few : (side : Side) (i : Inst) → cycles_of m.setup0 side i ≤ dear = λ side i. word_few m.setup0 side i wait waits in
    let first : IsPaced m.setup0 dear s 0 m.zero = record { idle = inr refl; going = λ _. omega arith } in
    let paced : IsPaced m.setup0 dear s n (cycles n m).zero = zero_runs m refl dear s n few begun first in
    in_time m.setup0 dear s n (cycles n m).zero (cycles n m).zero.word (dear_some table wait) (paced.going going)

pub least_one : (table : Table) (image0 image1 : Contents) (script : Script) (wait s n : ℕ)
    → AllByRecursion (λ w. w ≤ wait) script.arb1
    → (behind_acts (cycles s (at_start_of table image0 image1 script))).other.started ≡ true
    → (cycles n (at_start_of table image0 image1 script)).one.stop ≡ Going
    → n < s + dearest table wait * ((cycles n (at_start_of table image0 image1 script)).one.count + 1)
least_one table image0 image1 script wait s n waits begun going =
    let m : Machine = at_start_of table image0 image1 script in
    let dear : ℕ = dearest table wait in
    let few : (side : Side) (i : Inst) → cycles_of m.setup1 side i ≤ dear = λ side i. word_few m.setup1 side i wait waits in
    let first : IsPaced m.setup1 dear s 0 m.one = record { idle = inr refl; going = λ _. omega arith } in
    let paced : IsPaced m.setup1 dear s n (cycles n m).one = one_runs m refl dear s n few begun first in
    in_time m.setup1 dear s n (cycles n m).one (cycles n m).one.word (dear_some table wait) (paced.going going)
