-- A body that keeps to a plan takes the same cycles on each path.
use Rattle.std.proofs.Common.{◌≡◌, ℕ, zero, suc, ◌+◌, ◌-◌, ◌*◌, ◌<◌, Bool, true, false, not, cond, ◌&&◌, List, [], ◌∷◌, length}
use Rattle.std.proofs.Common.{Option, Some, None, refl, sym, ap, subst, ◌∙◌, arith, nat_lt}
use Rattle.std.specs.Prelude.{slice_get, option_map, option_and_then, unwrap_or}
use Rattle.std.specs.List.{list_all}
use Rattle.std.proofs.lemmas.Bool.{and_parts, ltb-true, eqb-true, not-true}
use Rattle.isa.specs.declared.inst.Inst.{Inst}
use Rattle.isa.specs.declared.inst.Inst.TheVariants as inst
use Rattle.isa.specs.declared.program.Item.{Item}
use Rattle.isa.specs.Note.{is_jump_to_field}
use Rattle.corestep.specs.declared.onward.Onward.{Onward}
use Rattle.corestep.specs.declared.onward.Turning.{Turning}
use Rattle.corestep.specs.declared.table.Table.{Table}
use Rattle.corestep.specs.Core.{onward}
use Rattle.corerun.specs.Code.{Code, turning_at}
use Rattle.corerun.specs.Items.{Placed, placed}
use Rattle.corepath.specs.Flow.{Goes, Calls, Returns, called, Aims}
use Rattle.corepath.specs.Flow.{Reaches, begin as reaches_begin, step as reaches_step, call as reaches_call}
use Rattle.corepath.specs.Loops.{Loop}
use Rattle.corepath.specs.Path.{Path, begin, step, call, Shares, IsFirstTurn, own_cost, come, is_loop}
use Rattle.helpers.specs.Paths.{IsWithin}
use Rattle.helpers.specs.Runs.{StandsAt}
use Rattle.helpers.proofs.Moves.{each_place, each_at, is_tame, moves, aim_of, lands, tame_cost, tame_calls, Stood, stood}
use Rattle.helpers.proofs.Plans.{Plan, sum_in, is_sum, sum_within, keeps_outside, outside_by, keeps_inside, inside_by, keeps_move, loops}
use Rattle.helpers.proofs.Plans.{At, Stands, Onto, inside_step, out_step, began, Began, turns_as, goes_by}

-- ---- the tests of a body

abbrev tame_at : ℕ → Placed → Bool
tame_at p x = is_tame x.inst

abbrev pub moves_within : ℕ → List Item → ℕ → Placed → Bool
moves_within count items p x = list_all (λ q. nat_lt q count) (moves items p x)

abbrev some_sum : Option ℕ → Bool
some_sum None = false
some_sum (Some s) = true

-- a return stands outside the LOOP, and has this sum with its own cycle
abbrev returns_by : Plan → ℕ → ℕ → Bool → Bool
returns_by plan cycles p false = true
returns_by plan cycles p true = is_sum cycles (option_map (λ s. s + 1) (sum_in plan.outside p)) && not (some_sum (sum_in plan.inside p))

abbrev returns_at : Plan → ℕ → ℕ → Placed → Bool
returns_at plan cycles p x = returns_by plan cycles p (is_jump_to_field x.inst)

-- a place has a sum outside the LOOP, or in it, and not both
abbrev one_at : Plan → ℕ → Placed → Bool
one_at plan p x = not (some_sum (sum_in plan.outside p) && some_sum (sum_in plan.inside p))

abbrev loop_stands : Plan → Option Placed → Bool
loop_stands plan None = false
loop_stands plan (Some x) = turns_as 32 x.inst

pub record Keeps (plan : Plan) (count cycles : ℕ) (items : List Item) : Type 0 where
  pub size : length (placed [] items) ≡ count
  pub some : nat_lt 0 count ≡ true
  pub outside_size : length plan.outside ≡ count
  pub inside_size : length plan.inside ≡ count
  pub first : sum_in plan.outside 0 ≡ Some 0
  pub tame : each_place tame_at 0 (placed [] items) ≡ true
  pub within : each_place (moves_within count items) 0 (placed [] items) ≡ true
  pub outside : each_place (keeps_outside plan items) 0 (placed [] items) ≡ true
  pub inside : each_place (keeps_inside plan items) 0 (placed [] items) ≡ true
  pub returns : each_place (returns_at plan cycles) 0 (placed [] items) ≡ true
  pub one : each_place (one_at plan) 0 (placed [] items) ≡ true
  pub loop : loop_stands plan (slice_get (placed [] items) (plan.first - 1)) ≡ true
  pub loop_first : nat_lt 0 plan.first ≡ true

got_within : (xs : List Placed) (p : ℕ) (x : Placed) → slice_get xs p ≡ Some x → p < length xs
got_within [] p x is = absurd (let wrong : ◌≡◌ {A = Option Placed} None (Some x) = is in cc)
got_within (y ∷ xs) zero x is = omega arith
got_within (y ∷ xs) (suc p) x is = let less = got_within xs p x is in omega (arith, less)

some_is : {A : Type 0} (a b : A) → ◌≡◌ {A = Option A} (Some a) (Some b) → a ≡ b
some_is a b is = cc

module _ (plan : Plan) (count cycles : ℕ) (items : List Item) (keeps : Keeps plan count cycles items) (code : Code) (region base : ℕ)
    (stands : StandsAt code base items) where
  pub here : (p : ℕ) → p < count → Stood code base items p
  here p less = let size = keeps.size in stood code base items p stands (omega (arith, size))

  pub tame : (p : ℕ) (s : Stood code base items p) → is_tame s.x.inst ≡ true
  tame p s = each_at tame_at p (placed [] items) s.x keeps.tame s.at

  pub same_inst : (p : ℕ) (s : Stood code base items p) (w : ℕ) (i : Inst) → w ≡ base + p → code.inst w ≡ Some i → s.x.inst ≡ i
  same_inst p s w i at is = some_is s.x.inst i (sym s.inst ∙ ap code.inst (sym at) ∙ is)

  -- ---- it stays in the body

  pub onward_within : (p w d : ℕ) → p < count → w ≡ base + p → Goes code region w d → (q : ℕ) × (q < count) × (d ≡ base + q)
  onward_within p w d less at goes =
      let s = here p less in
      let same = same_inst p s w goes.inst at goes.is in
      let aims : Aims code (base + p) s.x.inst d =
      subst (λ (n : ℕ). Aims code n s.x.inst d) at (subst (λ (i : Inst). Aims code w i d) (sym same) goes.aims) in
      let l = lands code base p (aim_of items s.x) s.aim (λ q. nat_lt q count) s.x.inst d (tame p s)
      (each_at (moves_within count items) p (placed [] items) s.x keeps.within s.at) aims in
      (l.to, ltb-true l.to count l.passes, l.is)

  pub no_call : (p w f : ℕ) → p < count → w ≡ base + p → Calls code region w f → ⊥
  no_call p w f less at calls =
      let s = here p less in
      tame_calls code w f s.x.inst (tame p s) (ap (λ (i : Inst). called code w i) (same_inst p s w calls.inst at calls.is) ∙ calls.calls)

  reaches_within : (e w : ℕ) → e ≡ base → Reaches code region e w → (p : ℕ) × (p < count) × (w ≡ base + p)
  reaches_within _ _ same (reaches_begin e) = (0, ltb-true 0 count keeps.some, omega (arith, same))
  reaches_within _ _ same (reaches_step e w d so goes) =
      let h = reaches_within e w same so in
      onward_within h.0 w d h.1 h.2 goes
  reaches_within _ _ same (reaches_call e w f b so calls back returns) =
      let h = reaches_within e w same so in
      absurd (no_call h.0 w f h.1 h.2 calls)

  pub stays : (w : ℕ) → Reaches code region base w → IsWithin base count w
  stays w so = let h = reaches_within base w refl so in let less = h.1 in let at = h.2 in (omega (arith, at), omega (arith, less, at))

  -- ---- sums

  at_within : (p : ℕ) (t : Option Turning) (s : ℕ) → At plan base p t s → p < count
  at_within p None s at = let less = sum_within plan.outside p s at in let size = keeps.outside_size in omega (arith, less, size)
  at_within p (Some u) s at =
      let less = sum_within plan.inside p (s + u.left * plan.turn) at.2 in let size = keeps.inside_size in omega (arith, less, size)

  turning_by : (p : ℕ) (i : Inst) → turns_as 32 i ≡ true
      → turning_at code p i ≡ Some (record { first = p + 1; end = unwrap_or (code.target p) (p + 1); left = 31 })
  turning_by p (inst.Loop body) is =
      ap (λ n. Some (record { first = p + 1; end = unwrap_or (code.target p) (p + 1); left = n - 1 })) (eqb-true body.count 32 is)
  turning_by p (inst.Branch condition offset a b) is = absurd (let wrong : false ≡ true = is in cc)
  turning_by p (inst.Qba offset) is = absurd (let wrong : false ≡ true = is in cc)
  turning_by p (inst.Jmp j) is = absurd (let wrong : false ≡ true = is in cc)
  turning_by p (inst.Jal field j) is = absurd (let wrong : false ≡ true = is in cc)
  turning_by p inst.Halt is = absurd (let wrong : false ≡ true = is in cc)
  turning_by p (inst.Alu op x a b) is = absurd (let wrong : false ≡ true = is in cc)
  turning_by p (inst.Not x a) is = absurd (let wrong : false ≡ true = is in cc)
  turning_by p (inst.Ldi x n) is = absurd (let wrong : false ≡ true = is in cc)
  turning_by p (inst.Lmbd x a b) is = absurd (let wrong : false ≡ true = is in cc)
  turning_by p (inst.Xin t) is = absurd (let wrong : false ≡ true = is in cc)
  turning_by p (inst.Xout t) is = absurd (let wrong : false ≡ true = is in cc)
  turning_by p (inst.Load a) is = absurd (let wrong : false ≡ true = is in cc)
  turning_by p (inst.Store a) is = absurd (let wrong : false ≡ true = is in cc)

  loop_same : (i : Inst) → loops i ≡ is_loop i
  loop_same (inst.Loop body) = refl
  loop_same _ = refl

  looped : (p d : ℕ) (i : Inst) → turns_as 32 i ≡ true → Aims code (base + p) i d → d ≡ base + p + 1
  looped p d (inst.Loop body) is aims = aims
  looped p d _ is aims = absurd (let wrong : false ≡ true = is in cc)

  -- a LOOP word, from outside
  enters : (p d a s : ℕ) (x : Stood code base items p) → a ≡ s → Aims code (base + p) x.x.inst d → Began plan p a items x.x
      → Onto plan base (record { pc = d; turning = turning_at code (base + p) x.x.inst }) (s + 1)
  enters p d a s x same aims b =
      let first : base + p + 1 ≡ base + plan.first = let f = b.first in omega (arith, f) in
      let end : unwrap_or (code.target (base + p)) (base + p + 1) ≡ base + plan.end =
      ap (λ (o : Option ℕ). unwrap_or o (base + p + 1)) (x.aim ∙ ap (option_map (λ q. base + q)) b.end) in
      subst (λ (o : Option Turning). Onto plan base (record { pc = d; turning = o }) (s + 1))
      (sym (turning_by (base + p) x.x.inst b.count)) (record {
        p = plan.first;
        place = looped p d x.x.inst b.count aims ∙ first;
        at = (first, end, b.sum ∙ ap (λ n. Some (n + 1 + 31 * plan.turn)) same);
      })

  from_outside : (is : Bool) (p d a s : ℕ) (x : Stood code base items p) → loops x.x.inst ≡ is → a ≡ s → Aims code (base + p) x.x.inst d
      → outside_by plan items p x.x (Some a) ≡ true
      → Onto plan base (cond is (record { pc = d; turning = turning_at code (base + p) x.x.inst }) (onward d None)) (s + 1)
  from_outside true p d a s x e same aims test =
      enters p d a s x same aims (began plan p a items x.x (ap (goes_by plan items p x.x a) (sym e) ∙ test))
  from_outside false p d a s x e same aims test =
      let all = ap (goes_by plan items p x.x a) (sym e) ∙ test in
      let l = lands code base p (aim_of items x.x) x.aim (λ q. is_sum (a + 1) (sum_in plan.outside q)) x.x.inst d (tame p x) all aims in
      subst (λ (n : ℕ). Onto plan base (onward n None) (s + 1)) (sym l.is) (out_step plan base a l.to s same l.passes)

  from_inside : (is : Bool) (p d b s : ℕ) (u : Turning) (x : Stood code base items p) → loops x.x.inst ≡ is
      → u.first ≡ base + plan.first → u.end ≡ base + plan.end → b ≡ s + u.left * plan.turn → Aims code (base + p) x.x.inst d
      → inside_by plan items p x.x (Some b) ≡ true
      → Onto plan base (cond is (record { pc = d; turning = turning_at code (base + p) x.x.inst }) (onward d (Some u))) (s + 1)
  from_inside true p d b s u x e first end sum aims test =
      let both = and_parts (not (loops x.x.inst)) (list_all (keeps_move plan b) (moves items p x.x)) test in
      absurd (let wrong : false ≡ true = sym (not-true (loops x.x.inst) both.0) ∙ e in cc)
  from_inside false p d b s u x e first end sum aims test =
      let both = and_parts (not (loops x.x.inst)) (list_all (keeps_move plan b) (moves items p x.x)) test in
      let l = lands code base p (aim_of items x.x) x.aim (keeps_move plan b) x.x.inst d (tame p x) both.1 aims in
      subst (λ (n : ℕ). Onto plan base (onward n (Some u)) (s + 1)) (sym l.is) (inside_step plan base u l.to b s first end sum l.passes)

  goes_on : (p d s : ℕ) (t : Option Turning) (x : Stood code base items p) → At plan base p t s → Aims code (base + p) x.x.inst d
      → Onto plan base (come code (base + p) d t x.x.inst) (s + 1)
  goes_on p d s None x at aims =
      let begun : Onward = record { pc = d; turning = turning_at code (base + p) x.x.inst } in
      subst (λ (b : Bool). Onto plan base (cond b begun (onward d None)) (s + 1))
      (loop_same x.x.inst)
      (from_outside (loops x.x.inst) p d s s x refl refl aims
      (ap (outside_by plan items p x.x) (sym at) ∙ each_at (keeps_outside plan items) p (placed [] items) x.x keeps.outside x.at))
  goes_on p d s (Some u) x at aims =
      let begun : Onward = record { pc = d; turning = turning_at code (base + p) x.x.inst } in
      subst (λ (b : Bool). Onto plan base (cond b begun (onward d (Some u))) (s + 1))
      (loop_same x.x.inst)
      (from_inside (loops x.x.inst) p d (s + u.left * plan.turn) s u x refl at.0 at.1 refl aims
      (ap (inside_by plan items p x.x) (sym at.2) ∙ each_at (keeps_inside plan items) p (placed [] items) x.x keeps.inside x.at))

  along : (table : Table) (all : List Loop) (e w : ℕ) (t : Option Turning) (k : Loop → ℕ) (s : ℕ) → e ≡ base
      → Path table code region all e w t k s → Stands plan base w t s
  along table all _ _ _ _ _ same (begin e k none) = record { p = 0; place = omega (arith, same); at = keeps.first }
  along table all _ _ _ _ _ same (step e w d v t after k j s so go comes counts) =
      let h = along table all e w t k s same so in
      let x = here h.p (at_within h.p t s h.at) in
      let i = same_inst h.p x w go.inst h.place go.is in
      let aims : Aims code (base + h.p) x.x.inst d =
      subst (λ (n : ℕ). Aims code n x.x.inst d) h.place (subst (λ (j : Inst). Aims code w j d) (sym i) go.aims) in
      let on : come code (base + h.p) d t x.x.inst ≡ record { pc = v; turning = after } =
      ap (λ (n : ℕ). come code n d t x.x.inst) (sym h.place) ∙ ap (come code w d t) i ∙ comes in
      let next = goes_on h.p d s t x h.at aims in
      let cost : own_cost table go.inst ≡ 1 = ap (own_cost table) (sym i) ∙ tame_cost table x.x.inst (tame h.p x) in
      subst (λ (n : ℕ). Stands plan base v after n) (ap (λ n. s + n) (sym cost))
      (subst (λ (r : Onward). Onto plan base r (s + 1)) on next)
  along table all _ _ _ _ _ same (call e w f b k j i s z so calls back returns left counts) =
      let h = along table all e w None k s same so in
      absurd (no_call h.p w f (at_within h.p None s h.at) h.place calls)

  -- ---- at a return

  return_sum : (p s : ℕ) (t : Option Turning) → At plan base p t s → returns_by plan cycles p true ≡ true → (t ≡ None) × (s + 1 ≡ cycles)
  return_sum p s None at test =
      let both = and_parts (is_sum cycles (option_map (λ s. s + 1) (sum_in plan.outside p))) (not (some_sum (sum_in plan.inside p))) test in
      (refl, eqb-true (s + 1) cycles (ap (λ (o : Option ℕ). is_sum cycles (option_map (λ s. s + 1) o)) (sym at) ∙ both.0))
  return_sum p s (Some u) at test =
      let both = and_parts (is_sum cycles (option_map (λ s. s + 1) (sum_in plan.outside p))) (not (some_sum (sum_in plan.inside p))) test in
      absurd (let wrong : false ≡ true = ap (λ (o : Option ℕ). not (some_sum o)) (sym at.2) ∙ both.1 in cc)

  pub returned : (table : Table) (all : List Loop) (w s : ℕ) (t : Option Turning) (k : Loop → ℕ) → Path table code region all base w t k s
      → (r : Returns code region w) → (t ≡ None) × (s + own_cost table r.inst ≡ cycles)
  returned table all w s t k so r =
      let h = along table all base w t k s refl so in
      let x = here h.p (at_within h.p t s h.at) in
      let i = same_inst h.p x w r.inst h.place r.is in
      let cost : own_cost table r.inst ≡ 1 = ap (own_cost table) (sym i) ∙ tame_cost table x.x.inst (tame h.p x) in
      let jumps : is_jump_to_field x.x.inst ≡ true = ap is_jump_to_field i ∙ r.jumps in
      let both = return_sum h.p s t h.at
      (ap (returns_by plan cycles h.p) (sym jumps) ∙ each_at (returns_at plan cycles) h.p (placed [] items) x.x keeps.returns x.at) in
      (both.0, ap (λ n. s + n) cost ∙ both.1)

  -- ---- one sum in first turns

  abbrev left_of : Option Turning → ℕ
  left_of None = 0
  left_of (Some u) = u.left

  record LoopAt (p : ℕ) : Type 0 where
    x : Placed
    at : slice_get (placed [] items) p ≡ Some x
    turns : turns_as 32 x.inst ≡ true

  loop_at : (p : ℕ) (o : Option Placed) → slice_get (placed [] items) p ≡ o → loop_stands plan o ≡ true → LoopAt p
  loop_at p None at test = absurd (let wrong : false ≡ true = test in cc)
  loop_at p (Some x) at test = record { x = x; at = at; turns = test }

  -- a LOOP in its first turn has 31 more
  first_left : (u : Turning) → u.first ≡ base + plan.first → IsFirstTurn code (Some u) → u.left ≡ 31
  first_left u first is =
      let some = ltb-true 0 plan.first keeps.loop_first in
      let spot : u.first - 1 ≡ base + (plan.first - 1) = omega (arith, first, some) in
      let l = loop_at (plan.first - 1) (slice_get (placed [] items) (plan.first - 1)) refl keeps.loop in
      let inst : code.inst (u.first - 1) ≡ Some l.x.inst =
      ap code.inst spot ∙ stands.inst (plan.first - 1) (got_within (placed [] items) (plan.first - 1) l.x l.at)
      ∙ ap (option_map (λ x. x.inst)) l.at in
      ap left_of (sym is ∙ ap (option_and_then (turning_at code (u.first - 1))) inst ∙ turning_by (u.first - 1) l.x.inst l.turns)

  not_both : (p a b : ℕ) → p < count → sum_in plan.outside p ≡ Some a → sum_in plan.inside p ≡ Some b → ⊥
  not_both p a b less out in' =
      let x = here p less in
      let test = each_at (one_at plan) p (placed [] items) x.x keeps.one x.at in
      let wrong : false ≡ true =
      ap (λ (o : Option ℕ). not (some_sum o && true)) (sym out)
      ∙ ap (λ (o : Option ℕ). not (some_sum (sum_in plan.outside p) && some_sum o)) (sym in') ∙ test in
      cc

  equal_at : (p s z : ℕ) (t o : Option Turning) → p < count → At plan base p t s → At plan base p o z → IsFirstTurn code t
      → IsFirstTurn code o → s ≡ z
  equal_at p s z None None less a b first other = some_is s z (sym a ∙ b)
  equal_at p s z (Some u) (Some v) less a b first other =
      let left : u.left ≡ 31 = first_left u a.0 first in
      let right : v.left ≡ 31 = first_left v b.0 other in
      let same : s + u.left * plan.turn ≡ z + v.left * plan.turn =
      some_is (s + u.left * plan.turn) (z + v.left * plan.turn) (sym a.2 ∙ b.2) in
      let one : u.left * plan.turn ≡ 31 * plan.turn = ap (λ n. n * plan.turn) left in
      let two : v.left * plan.turn ≡ 31 * plan.turn = ap (λ n. n * plan.turn) right in
      omega (arith, same, one, two)
  equal_at p s z None (Some v) less a b first other = absurd (not_both p s (z + v.left * plan.turn) less a b.2)
  equal_at p s z (Some u) None less a b first other = absurd (not_both p z (s + u.left * plan.turn) less b a.2)

  pub one_sum : (table : Table) (all : List Loop) (w s z : ℕ) → Shares table code region all base w s
      → Shares table code region all base w z → s ≡ z
  one_sum table all w s z a b =
      let h = along table all base w a.turning a.counts s refl a.path in
      let g = along table all base w b.turning b.counts z refl b.path in
      let same : g.p ≡ h.p = let x = h.place in let y = g.place in omega (arith, x, y) in
      equal_at h.p s z a.turning b.turning (at_within h.p a.turning s h.at) h.at
      (subst (λ (p : ℕ). At plan base p b.turning z) same g.at) a.first_turn b.first_turn
