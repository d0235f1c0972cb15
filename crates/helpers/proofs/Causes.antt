-- No place of a body refuses a certificate where control comes into it by calls of its first place alone.
use Rattle.std.proofs.Common.{◌≡◌, ℕ, ◌+◌, ◌-◌, ◌<◌, ◌≤◌, ◌⊎◌, inl, inr, Bool, true, false, not, ◌&&◌, ◌||◌, List, [], ◌∷◌}
use Rattle.std.proofs.Common.{Option, Some, None, refl, sym, ap, subst, ◌∙◌, arith, nat_lt, nat_le}
use Rattle.std.specs.Prelude.{option_map, option_and_then, unwrap_or, ◌==◌, is_some}
use Rattle.std.specs.List.{list_all, list_any}
use Rattle.std.proofs.lemmas.Bool.{and_parts, and_from, ltb-true, leb-true, lt-ltb, le-leb, eqb-true, not-true}
use Rattle.isa.specs.declared.control.Jump.TheVariants as jump
use Rattle.isa.specs.declared.control.LoopBody.{LoopBody}
use Rattle.isa.specs.declared.inst.Inst.{Inst}
use Rattle.isa.specs.declared.inst.Inst.TheVariants as inst
use Rattle.isa.specs.declared.note.Note.{Note}
use Rattle.isa.specs.declared.note.NoteKind.TheVariants.{Leave, Return, Turns}
use Rattle.isa.specs.declared.program.Item.{Item}
use Rattle.isa.specs.Note.{is_access, is_jump_to_field, kind_number}
use Rattle.corestep.specs.Step.{value_of_kind}
use Rattle.corerun.specs.Code.{Code}
use Rattle.corerun.specs.Items.{Placed, placed}
use Rattle.corepath.specs.Cause.{Touches, Unbounded, back, jump as jump_cause, return, call, cycle, halt, Crossed, Passes, IsLoopOf, LiesIn}
use Rattle.corepath.specs.Cause.{step as pass_step, call as pass_call, turns as by_turns, body as by_body, goes_back, calls_register}
use Rattle.corepath.specs.Cause.{entered, begun, run_in_call, body_entered, body_called, body_left, body_runs_out, body_returns, body_calls}
use Rattle.corepath.specs.Cause.{body_nests, body_shared, ends_inside, overlaps, ends_in_call}
use Rattle.corepath.specs.Certificate.{AnyCause}
use Rattle.corepath.specs.Flow.{Aims, Reaches, begin as reaches_begin, step as reaches_step, call as reaches_call}
use Rattle.corepath.specs.Flow.{at_first, leaves, is_mark}
use Rattle.corepath.specs.Flow.{has_note}
use Rattle.corepath.specs.Loops.{Loop, loop_at, holds, body_at, body_end, branch_aim}
use Rattle.helpers.specs.Paths.{IsWithin, IsCalledOnly}
use Rattle.helpers.specs.Runs.{StandsAt}
use Rattle.helpers.proofs.EvenPaths.{Keeps, here, tame, same_inst, no_call, moves_within}
use Rattle.helpers.proofs.Moves.{each_place, each_at, is_tame, moves, aim_of, Lands, lands, tame_calls, Stood}
use Rattle.helpers.proofs.Plans.{Plan, is_sum, loops, sum_is}

-- ---- the tests of a body

abbrev in_body : Plan → ℕ → Bool
in_body plan q = nat_le plan.first q && nat_lt q plan.end

abbrev is_no : Note → Bool
is_no n = not (kind_number n.kind == kind_number Leave)

abbrev no_leaves : ℕ → Placed → Bool
no_leaves p x = list_all is_no x.notes

abbrev no_turns : ℕ → Placed → Bool
no_turns p x = not (is_some (value_of_kind Turns x.notes))

abbrev noted_by : List Note → Bool → Bool
noted_by notes false = true
noted_by notes true = list_any (λ n. kind_number n.kind == kind_number Return) notes

abbrev noted : ℕ → Placed → Bool
noted p x = noted_by x.notes (is_jump_to_field x.inst)

abbrev forward : List Item → ℕ → Placed → Bool
forward items p x = list_all (λ q. nat_lt p q) (moves items p x)

abbrev loop_by : Plan → List Item → ℕ → Placed → Bool → Bool
loop_by plan items p x false = true
loop_by plan items p x true = (p + 1 == plan.first) && is_sum plan.end (aim_of items x)

abbrev loop_place : Plan → List Item → ℕ → Placed → Bool
loop_place plan items p x = loop_by plan items p x (loops x.inst)

abbrev may_enter : Plan → ℕ → ℕ → Bool
may_enter plan p q = not (in_body plan q) || (in_body plan p || (p + 1 == plan.first))

abbrev into_body : Plan → List Item → ℕ → Placed → Bool
into_body plan items p x = list_all (may_enter plan p) (moves items p x)

abbrev stays_or_ends : Plan → ℕ → Bool
stays_or_ends plan q = in_body plan q || (q == plan.end)

abbrev from_by : Plan → List Item → ℕ → Placed → Bool → Bool
from_by plan items p x false = true
from_by plan items p x true = list_all (stays_or_ends plan) (moves items p x) && not (is_jump_to_field x.inst)

abbrev from_body : Plan → List Item → ℕ → Placed → Bool
from_body plan items p x = from_by plan items p x (in_body plan p)

pub record IsQuiet (plan : Plan) (count : ℕ) (items : List Item) : Type 0 where
  pub end_within : nat_lt plan.end count ≡ true
  pub no_leaves : each_place no_leaves 0 (placed [] items) ≡ true
  pub no_turns : each_place no_turns 0 (placed [] items) ≡ true
  pub noted : each_place noted 0 (placed [] items) ≡ true
  pub forward : each_place (forward items) 0 (placed [] items) ≡ true
  pub loop_place : each_place (loop_place plan items) 0 (placed [] items) ≡ true
  pub into_body : each_place (into_body plan items) 0 (placed [] items) ≡ true
  pub from_body : each_place (from_body plan items) 0 (placed [] items) ≡ true

-- ---- instructions

none_is : {A : Type 0} (a : A) → ◌≡◌ {A = Option A} None (Some a) → ⊥
none_is a wrong = cc

not_both : (b : Bool) → b ≡ true → b ≡ false → ⊥
not_both b is isn't = let wrong : true ≡ false = sym is ∙ isn't in cc

tame_access : (i : Inst) → is_tame i ≡ true → is_access i ≡ true → ⊥
tame_access (inst.Load a) tame access = let wrong : false ≡ true = tame in cc
tame_access (inst.Store a) tame access = let wrong : false ≡ true = tame in cc
tame_access _ tame access = let wrong : false ≡ true = access in cc

tame_registers : (i : Inst) → is_tame i ≡ true → calls_register i ≡ true → ⊥
tame_registers (inst.Jal field to) tame calls = let wrong : false ≡ true = tame in cc
tame_registers _ tame calls = let wrong : false ≡ true = calls in cc

back_aims : (code : Code) (w : ℕ) (i : Inst) → is_tame i ≡ true → goes_back code w i ≡ true → (d : ℕ) × Aims code w i d × (d ≤ w)
back_aims code w (inst.Branch condition offset a b) tame goes = (unwrap_or (code.target w) w, inl refl, leb-true _ w goes)
back_aims code w (inst.Qba offset) tame goes = (unwrap_or (code.target w) w, refl, leb-true _ w goes)
back_aims code w (inst.Jmp (jump.Word n)) tame goes = absurd (let wrong : false ≡ true = tame in cc)
back_aims code w (inst.Jmp (jump.Field f)) tame goes = absurd (let wrong : false ≡ true = goes in cc)
back_aims code w _ tame goes = absurd (let wrong : false ≡ true = goes in cc)

leaves_none : (region : ℕ) (notes : List Note) → list_all is_no notes ≡ true → list_any (is_mark Leave region) notes ≡ true → ⊥
leaves_none region [] all any = let wrong : false ≡ true = any in cc
leaves_none region (n ∷ notes) all any =
    let both = and_parts (is_no n) (list_all is_no notes) all in
    let other : (kind_number n.kind == kind_number Leave) ≡ false = not-true (kind_number n.kind == kind_number Leave) both.0 in
    leaves_none region notes both.1
    (ap (λ b. (b && (n.value == region)) || list_any (is_mark Leave region) notes) (sym other) ∙ any)

turnless : (o : Option ℕ) → not (is_some o) ≡ true → o ≡ None
turnless None h = refl
turnless (Some n) h = absurd (let wrong : false ≡ true = h in cc)

looping : (i : Inst) (b : LoopBody) → i ≡ inst.Loop b → loops i ≡ true
looping i b is = ap loops is

-- ---- places

module _ (plan : Plan) (count cycles : ℕ) (items : List Item) (keeps : Keeps plan count cycles items) (quiet : IsQuiet plan count items)
    (code : Code) (region first base : ℕ) (stands : StandsAt code base items) (only : IsCalledOnly code region first base count) where
  record Spot (w : ℕ) : Type 0 where
    p : ℕ
    less : p < count
    at : w ≡ base + p
    s : Stood code base items p

  spot : (w : ℕ) → IsWithin base count w → Spot w
  spot w within =
      let low : base ≤ w = within.0 in
      let high : w < base + count = within.1 in
      let less : w - base < count = omega (arith, low, high) in
      record {
        p = w - base;
        less = less;
        at = omega (arith, low);
        s = here plan count cycles items keeps code region base stands (w - base) less;
      }

  tame_inst : (w : ℕ) (i : Inst) (x : Spot w) → code.inst w ≡ Some i → is_tame i ≡ true
  tame_inst w i x is =
      ap is_tame (sym (same_inst plan count cycles items keeps code region base stands x.p x.s w i x.at is))
      ∙ tame plan count cycles items keeps code region base stands x.p x.s

  placed_inst : (w : ℕ) (i : Inst) (x : Spot w) → code.inst w ≡ Some i → x.s.x.inst ≡ i
  placed_inst w i x is = same_inst plan count cycles items keeps code region base stands x.p x.s w i x.at is

  notes_at : (w : ℕ) (x : Spot w) → code.notes w ≡ x.s.x.notes
  notes_at w x = ap code.notes x.at ∙ x.s.notes

  loopless : (w : ℕ) (l : Loop) → IsWithin base count w → loop_at code w ≡ Some l → ⊥
  loopless w l within is =
      let x = spot w within in
      let none : value_of_kind Turns (code.notes w) ≡ None =
      ap (value_of_kind Turns) (notes_at w x)
      ∙ turnless (value_of_kind Turns x.s.x.notes) (each_at no_turns x.p (placed [] items) x.s.x quiet.no_turns x.s.at) in
      none_is l (sym (ap (λ (o : Option ℕ). option_and_then (λ n. option_map (λ q. record { first = q; last = w; turns = n })
      (option_and_then (branch_aim code w) (code.inst w))) o) none) ∙ is)

  leaveless : (w : ℕ) → IsWithin base count w → leaves code region w ≡ true → ⊥
  leaveless w within is =
      let x = spot w within in
      leaves_none region x.s.x.notes (each_at no_leaves x.p (placed [] items) x.s.x quiet.no_leaves x.s.at)
      (ap (list_any (is_mark Leave region)) (sym (notes_at w x)) ∙ is)

  -- where a path passes on to
  passes : (test : ℕ → Bool) (u v : ℕ) (x : Spot u) → list_all test (moves items x.p x.s.x) ≡ true → Passes code region first u v
      → Lands base test v
  passes test u v x all (pass_step e entry so goes) =
      let i = placed_inst u goes.inst x goes.is in
      lands code base x.p (aim_of items x.s.x) x.s.aim test x.s.x.inst v
      (tame plan count cycles items keeps code region base stands x.p x.s) all
      (subst (λ (n : ℕ). Aims code n x.s.x.inst v) x.at (subst (λ (j : Inst). Aims code u j v) (sym i) goes.aims))
  passes test u v x all (pass_call e f b entry so calls inner ends at) =
      absurd (no_call plan count cycles items keeps code region base stands x.p u f x.less x.at calls)

  first_outside : (e w : ℕ) → e ≡ first → Reaches code region e w → IsWithin base count w → ⊥
  first_outside _ _ same (reaches_begin e) within = only.begins (subst (IsWithin base count) same within)
  first_outside _ _ same (reaches_step e u w so goes) within =
      let from : Reaches code region first u = subst (λ (n : ℕ). Reaches code region n u) same so in
      first_outside e u same so (only.comes u w (pass_step first at_first from goes) within)
  first_outside _ _ same (reaches_call e u f b so calls inner ends) within =
      let from : Reaches code region first u = subst (λ (n : ℕ). Reaches code region n u) same so in
      first_outside e u same so (only.comes u (u + 1) (pass_call first f b at_first from calls inner ends refl) within)

  -- ---- the LOOP

  record IsLoop (w : ℕ) : Type 0 where
    place : w + 1 ≡ base + plan.first
    end : body_end code w ≡ base + plan.end

  loop_spot : (w : ℕ) (b : LoopBody) → IsWithin base count w → code.inst w ≡ Some (inst.Loop b) → IsLoop w
  loop_spot w b within is =
      let x = spot w within in
      let i = placed_inst w (inst.Loop b) x is in
      let test = ap (loop_by plan items x.p x.s.x) (sym (looping x.s.x.inst b i))
      ∙ each_at (loop_place plan items) x.p (placed [] items) x.s.x quiet.loop_place x.s.at in
      let both = and_parts (x.p + 1 == plan.first) (is_sum plan.end (aim_of items x.s.x)) test in
      let at = x.at in
      let next = eqb-true (x.p + 1) plan.first both.0 in
      let aim : code.target w ≡ Some (base + plan.end) =
      ap code.target x.at ∙ x.s.aim ∙ ap (option_map (λ q. base + q)) (sum_is plan.end (aim_of items x.s.x) both.1) in
      record { place = omega (arith, at, next); end = ap (λ (o : Option ℕ). unwrap_or o (w + 1)) aim }

  end_less : plan.end < count
  end_less = ltb-true plan.end count quiet.end_within

  held : (w u : ℕ) (b : LoopBody) (l : IsLoop w) → holds (body_at code w b) u ≡ true → (base + plan.first ≤ u) × (u < base + plan.end)
  held w u b l is =
      let both = and_parts (nat_le (w + 1) u) (nat_le u (body_end code w - 1)) is in
      let low = leb-true (w + 1) u both.0 in
      let high = leb-true u (body_end code w - 1) both.1 in
      let place = l.place in
      let end = l.end in
      let some = ltb-true 0 plan.first keeps.loop_first in
      (omega (arith, low, place), omega (arith, low, high, place, end, some))

  holding : (w u : ℕ) (b : LoopBody) (l : IsLoop w) → base + plan.first ≤ u → u < base + plan.end → holds (body_at code w b) u ≡ true
  holding w u b l low high =
      let place = l.place in
      let end = l.end in
      and_from (nat_le (w + 1) u) (nat_le u (body_end code w - 1)) (le-leb (w + 1) u (omega (arith, low, place)))
      (le-leb u (body_end code w - 1) (omega (arith, high, end)))

  held_within : (w u : ℕ) (b : LoopBody) (l : IsLoop w) → holds (body_at code w b) u ≡ true → IsWithin base count u
  held_within w u b l is =
      let h = held w u b l is in
      let low = h.0 in
      let high = h.1 in
      let less = end_less in
      (omega (arith, low), omega (arith, high, less))

  held_place : (w u : ℕ) (b : LoopBody) (l : IsLoop w) (x : Spot u) → holds (body_at code w b) u ≡ true → in_body plan x.p ≡ true
  held_place w u b l x is =
      let h = held w u b l is in
      let low = h.0 in
      let high = h.1 in
      let at = x.at in
      and_from (nat_le plan.first x.p) (nat_lt x.p plan.end) (le-leb plan.first x.p (omega (arith, low, at)))
      (lt-ltb x.p plan.end (omega (arith, high, at)))

  in_held : (w v q : ℕ) (b : LoopBody) (l : IsLoop w) → v ≡ base + q → in_body plan q ≡ true → holds (body_at code w b) v ≡ true
  in_held w v q b l at is =
      let both = and_parts (nat_le plan.first q) (nat_lt q plan.end) is in
      let low = leb-true plan.first q both.0 in
      let high = ltb-true q plan.end both.1 in
      holding w v b l (omega (arith, low, at)) (omega (arith, high, at))

  from_place : (w u : ℕ) (b : LoopBody) (l : IsLoop w) (x : Spot u) → holds (body_at code w b) u ≡ true
      → (list_all (stays_or_ends plan) (moves items x.p x.s.x) ≡ true) × (is_jump_to_field x.s.x.inst ≡ false)
  from_place w u b l x is =
      let test = ap (from_by plan items x.p x.s.x) (sym (held_place w u b l x is))
      ∙ each_at (from_body plan items) x.p (placed [] items) x.s.x quiet.from_body x.s.at in
      let both = and_parts (list_all (stays_or_ends plan) (moves items x.p x.s.x)) (not (is_jump_to_field x.s.x.inst)) test in
      (both.0, not-true (is_jump_to_field x.s.x.inst) both.1)

  or_cases : (a b : Bool) → (a || b) ≡ true → (a ≡ true) ⊎ (b ≡ true)
  or_cases true b h = inl refl
  or_cases false b h = inr h

  or_right : (a b : Bool) → (not a || b) ≡ true → a ≡ true → b ≡ true
  or_right true b h is = h
  or_right false b h is = absurd (let wrong : false ≡ true = is in cc)

  -- ---- causes

  touches : (w : ℕ) → IsWithin base count w → Touches code region first w → ⊥
  touches w within t = tame_access t.inst (tame_inst w t.inst (spot w within) t.is) t.accesses

  unbounded : (w : ℕ) → IsWithin base count w → Unbounded code region first w → ⊥
  unbounded w within (back i reached is goes plain) =
      let x = spot w within in
      let a = back_aims code w i (tame_inst w i x is) goes in
      let j = placed_inst w i x is in
      let l = lands code base x.p (aim_of items x.s.x) x.s.aim (λ q. nat_lt x.p q) x.s.x.inst a.0
      (tame plan count cycles items keeps code region base stands x.p x.s)
      (each_at (forward items) x.p (placed [] items) x.s.x quiet.forward x.s.at)
      (subst (λ (n : ℕ). Aims code n x.s.x.inst a.0) x.at (subst (λ (k : Inst). Aims code w k a.0) (sym j) a.1)) in
      let ahead = ltb-true x.p l.to l.passes in
      let at = x.at in
      let to = l.is in
      let low = a.2 in
      omega (arith, ahead, at, to, low)
  unbounded w within (jump_cause i reached is jumps plain) =
      let x = spot w within in
      let j = placed_inst w i x is in
      let test = ap (noted_by x.s.x.notes) (sym (ap is_jump_to_field j ∙ jumps))
      ∙ each_at noted x.p (placed [] items) x.s.x quiet.noted x.s.at in
      not_both (has_note code Return w)
      (ap (list_any (λ n. kind_number n.kind == kind_number Return)) (notes_at w x) ∙ test) plain
  unbounded w within (return i so is jumps) = first_outside first w refl so within
  unbounded w within (call i reached is calls) = tame_registers i (tame_inst w i (spot w within) is) calls
  unbounded w within (cycle f g entry so calls again) =
      let x = spot w within in
      no_call plan count cycles items keeps code region base stands x.p w g x.less x.at calls
  unbounded w within (halt reached is) =
      let wrong : false ≡ true = tame_inst w inst.Halt (spot w within) is in cc

  crossed : (w : ℕ) → IsWithin base count w → Crossed code region first w → ⊥
  crossed w within (entered l u v reached is pass out in' apart) = loopless w l within is
  crossed w within (begun l e reached is entry in' apart) = loopless w l within is
  crossed w within (run_in_call l e u f g x is entry so in' calls again inner at) = loopless w l within is
  crossed w within (body_entered b u v reached is pass apart out in') =
      let l = loop_spot w b within is in
      let x = spot u (only.comes u v pass (held_within w v b l in')) in
      let to = passes (may_enter plan x.p) u v x (each_at (into_body plan items) x.p (placed [] items) x.s.x quiet.into_body x.s.at) pass in
      let y = spot v (held_within w v b l in') in
      let same : to.to ≡ y.p = let a = to.is in let c = y.at in omega (arith, a, c) in
      let inside : in_body plan to.to ≡ true = ap (in_body plan) same ∙ held_place w v b l y in' in
      let either = or_cases (in_body plan x.p) (x.p + 1 == plan.first)
      (or_right (in_body plan to.to) (in_body plan x.p || (x.p + 1 == plan.first)) to.passes inside) in
      elim either [
        | inl is ↦ not_both (holds (body_at code w b) u) (in_held w u x.p b l x.at is) out
        | inr is ↦
            let next = eqb-true (x.p + 1) plan.first is in
            let at = x.at in
            let place = l.place in
            apart (omega (arith, next, at, place))
      ]
  crossed w within (body_called b f reached is calls in') =
      let l = loop_spot w b within is in
      let h = held w f b l in' in
      let low = h.0 in
      let same : f ≡ base = only.called f calls (held_within w f b l in') in
      let some = ltb-true 0 plan.first keeps.loop_first in
      omega (arith, low, same, some)
  crossed w within (body_left b u v reached is pass in' out apart) =
      let l = loop_spot w b within is in
      let x = spot u (held_within w u b l in') in
      let to = passes (stays_or_ends plan) u v x (from_place w u b l x in').0 pass in
      elim (or_cases (in_body plan to.to) (to.to == plan.end) to.passes) [
        | inl is ↦ not_both (holds (body_at code w b) v) (in_held w v to.to b l to.is is) out
        | inr is ↦ apart (to.is ∙ ap (λ n. base + n) (eqb-true to.to plan.end is) ∙ sym l.end)
      ]
  crossed w within (body_runs_out b u v reached is pass in' none) =
      let l = loop_spot w b within is in
      let x = spot u (held_within w u b l in') in
      let all = each_at (moves_within count items) x.p (placed [] items) x.s.x keeps.within x.s.at in
      let to = passes (λ q. nat_lt q count) u v x all pass in
      let y = here plan count cycles items keeps code region base stands to.to (ltb-true to.to count to.passes) in
      none_is y.x.inst (sym none ∙ ap code.inst to.is ∙ y.inst)
  crossed w within (body_returns b f u reached is calls so returns in') =
      let l = loop_spot w b within is in
      let x = spot u (held_within w u b l in') in
      not_both (is_jump_to_field x.s.x.inst) (ap is_jump_to_field (placed_inst u returns.inst x returns.is) ∙ returns.jumps)
      (from_place w u b l x in').1
  crossed w within (body_calls b u i reached is other in' at (inl calls)) =
      let l = loop_spot w b within is in
      tame_calls code u calls.0 i (tame_inst u i (spot u (held_within w u b l in')) at) calls.1
  crossed w within (body_calls b u i reached is other in' at (inr calls)) =
      let l = loop_spot w b within is in
      tame_registers i (tame_inst u i (spot u (held_within w u b l in')) at) calls
  crossed w within (body_nests b c u reached is other in' at) =
      let l = loop_spot w b within is in
      let h = held w u b l in' in
      let low = h.0 in
      let m = loop_spot u c (held_within w u b l in') at in
      let place = m.place in
      omega (arith, low, place)
  crossed w within (body_shared b l u reached is loop at in' begins other held' goes) =
      loopless l.last l (held_within w l.last b (loop_spot w b within is) in') at
  crossed w within (ends_inside l u (by_turns reached is) in' left) = loopless w l within is
  crossed w within (ends_inside l u (by_body b reached is same) in' left) =
      leaveless u (held_within w u b (loop_spot w b within is) (ap (λ (l : Loop). holds l u) (sym same) ∙ in')) left
  crossed w within (overlaps l other p u (by_turns reached is) loop in' held' apart apart') = loopless w l within is
  crossed w within (overlaps l other p u (by_body b reached is same) loop in' held' apart apart') =
      apart (lies (nat_le base p && nat_lt p (base + count)) refl loop)
    where
      m : IsLoop w
      m = loop_spot w b within is

      u_within : IsWithin base count u
      u_within = held_within w u b m (ap (λ (l : Loop). holds l u) (sym same) ∙ in')

      l_first : l.first ≡ w + 1
      l_first = ap (λ (l : Loop). l.first) same

      l_last : l.last ≡ body_end code w - 1
      l_last = ap (λ (l : Loop). l.last) same

      within_p : (nat_le base p && nat_lt p (base + count)) ≡ true → IsWithin base count p
      within_p e =
          let both = and_parts (nat_le base p) (nat_lt p (base + count)) e in
          (leb-true base p both.0, ltb-true p (base + count) both.1)

      lies : (e : Bool) → (nat_le base p && nat_lt p (base + count)) ≡ e → IsLoopOf code region first p other → LiesIn l other
      lies true e (by_turns r at) = absurd (loopless p other (within_p e) at)
      lies true e (by_body c r at so) =
          let n = loop_spot p c (within_p e) at in
          let place : p ≡ w = let x = m.place in let y = n.place in omega (arith, x, y) in
          let o_first : other.first ≡ p + 1 = ap (λ (l : Loop). l.first) so in
          let o_last : other.last ≡ body_end code w - 1 =
          ap (λ (l : Loop). l.last) so ∙ ap (λ n. body_end code n - 1) place in
          let f = l_first in
          let g = l_last in
          (omega (arith, f, o_first, place), omega (arith, g, o_last))
      lies false e loop =
          let outside : IsWithin base count p → ⊥ = λ h.
          not_both (nat_le base p && nat_lt p (base + count))
          (and_from (nat_le base p) (nat_lt p (base + count)) (le-leb base p h.0) (lt-ltb p (base + count) h.1)) e in
          let h = only.loops p u other loop outside u_within held' in
          let low = h.0 in
          let high = h.1 in
          let f = l_first in
          let g = l_last in
          let place = m.place in
          let end = m.end in
          let less = end_less in
          (omega (arith, low, f, place), omega (arith, high, g, end, less))
  crossed w within (ends_in_call f i calls so is left) = leaveless w within left

  pub no_cause : (w : ℕ) → IsWithin base count w → AnyCause code region first w → ⊥
  no_cause w within (inl t) = touches w within t
  no_cause w within (inr (inl u)) = unbounded w within u
  no_cause w within (inr (inr c)) = crossed w within c
