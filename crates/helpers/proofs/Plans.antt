-- A plan of a body: the sum at each place outside its LOOP, and at each place of its LOOP the sum that the last turn has there. A body that
-- keeps to a plan takes the same cycles on each path.
use Rattle.std.proofs.Common.{◌≡◌, ℕ, zero, suc, ◌+◌, ◌-◌, ◌*◌, ◌<◌, Bool, true, false, not, cond, ◌&&◌, List, [], ◌∷◌, length}
use Rattle.std.proofs.Common.{Option, Some, None}
use Rattle.std.proofs.Common.{refl, sym, ap, subst, ◌∙◌, arith, nat_lt, nat_le, suc-mul}
use Rattle.std.specs.Prelude.{slice_get, option_map, option_and_then, ◌==◌}
use Rattle.std.specs.List.{list_all}
use Rattle.std.proofs.lemmas.Bool.{and_parts, and_from, ltb-true, leb-true, lt-ltb, le-leb, eqb-true, eqb-false}
use Rattle.isa.specs.declared.inst.Inst.{Inst}
use Rattle.isa.specs.declared.inst.Inst.TheVariants as inst
use Rattle.isa.specs.declared.program.Item.{Item}
use Rattle.corestep.specs.declared.onward.Onward.{Onward}
use Rattle.corestep.specs.declared.onward.Turning.{Turning}
use Rattle.corestep.specs.Core.{onward}
use Rattle.corerun.specs.Items.{Placed}
use Rattle.helpers.proofs.Moves.{aim_of, moves}

-- The LOOP's body goes from `first` to before `end`, and a turn takes `turn` cycles.
pub record Plan : Type 0 where
  pub outside : List (Option ℕ)
  pub inside : List (Option ℕ)
  pub first : ℕ
  pub end : ℕ
  pub turn : ℕ

abbrev pub sum_in : List (Option ℕ) → ℕ → Option ℕ
sum_in sums p = option_and_then (λ s. s) (slice_get sums p)

abbrev pub is_sum : ℕ → Option ℕ → Bool
is_sum n None = false
is_sum n (Some m) = m == n

-- ---- tests of a place

abbrev pub turns_as : ℕ → Inst → Bool
turns_as n (inst.Loop body) = body.count == n
turns_as n _ = false

abbrev pub loops : Inst → Bool
loops (inst.Loop body) = true
loops _ = false

abbrev pub begins_loop : Plan → List Item → ℕ → Placed → ℕ → Bool
begins_loop plan items p x a =
    is_sum (a + 1 + 31 * plan.turn) (sum_in plan.inside plan.first) && (p + 1 == plan.first) && is_sum plan.end (aim_of items x)
    && turns_as 32 x.inst

abbrev pub goes_by : Plan → List Item → ℕ → Placed → ℕ → Bool → Bool
goes_by plan items p x a true = begins_loop plan items p x a
goes_by plan items p x a false = list_all (λ q. is_sum (a + 1) (sum_in plan.outside q)) (moves items p x)

abbrev pub outside_by : Plan → List Item → ℕ → Placed → Option ℕ → Bool
outside_by plan items p x None = true
outside_by plan items p x (Some a) = goes_by plan items p x a (loops x.inst)

abbrev pub keeps_outside : Plan → List Item → ℕ → Placed → Bool
keeps_outside plan items p x = outside_by plan items p x (sum_in plan.outside p)

-- a move in the body, from a place with this sum
abbrev pub keeps_by : Plan → ℕ → ℕ → Bool → Bool
keeps_by plan b q true =
    is_sum (b + 1) (sum_in plan.outside q) && is_sum (b + 1) (option_map (λ c. c + plan.turn) (sum_in plan.inside plan.first))
keeps_by plan b q false = nat_le plan.first q && nat_lt q plan.end && is_sum (b + 1) (sum_in plan.inside q)

abbrev pub keeps_move : Plan → ℕ → ℕ → Bool
keeps_move plan b q = keeps_by plan b q (q == plan.end)

abbrev pub inside_by : Plan → List Item → ℕ → Placed → Option ℕ → Bool
inside_by plan items p x None = true
inside_by plan items p x (Some b) = not (loops x.inst) && list_all (keeps_move plan b) (moves items p x)

abbrev pub keeps_inside : Plan → List Item → ℕ → Placed → Bool
keeps_inside plan items p x = inside_by plan items p x (sum_in plan.inside p)

-- ---- sums

pub sum_is : (n : ℕ) (o : Option ℕ) → is_sum n o ≡ true → o ≡ Some n
sum_is n None h = absurd (let wrong : false ≡ true = h in cc)
sum_is n (Some m) h = ap Some (eqb-true m n h)

sum_less : (c n : ℕ) (o : Option ℕ) → is_sum n (option_map (λ m. m + c) o) ≡ true → (m : ℕ) × (o ≡ Some m) × (m + c ≡ n)
sum_less c n None h = absurd (let wrong : false ≡ true = h in cc)
sum_less c n (Some m) h = (m, refl, eqb-true (m + c) n h)

none_is : {A : Type 0} (a : A) → ◌≡◌ {A = Option A} None (Some a) → ⊥
none_is a wrong = cc

pub sum_within : (sums : List (Option ℕ)) (p s : ℕ) → sum_in sums p ≡ Some s → p < length sums
sum_within [] p s is = absurd (none_is s is)
sum_within (o ∷ sums) zero s is = omega arith
sum_within (o ∷ sums) (suc p) s is = let less = sum_within sums p s is in omega (arith, less)

-- ---- where a path is

-- At a place, with this LOOP and this sum: what the plan has there, less the turns that are left.
abbrev pub At : Plan → ℕ → ℕ → Option Turning → ℕ → Type 0
At plan base p None s = sum_in plan.outside p ≡ Some s
At plan base p (Some u) s =
    (u.first ≡ base + plan.first) × (u.end ≡ base + plan.end) × (sum_in plan.inside p ≡ Some (s + u.left * plan.turn))

pub record Stands (plan : Plan) (base v : ℕ) (t : Option Turning) (s : ℕ) : Type 0 where
  pub p : ℕ
  pub place : v ≡ base + p
  pub at : At plan base p t s

abbrev pub Onto : Plan → ℕ → Onward → ℕ → Type 0
Onto plan base on s = Stands plan base on.pc on.turning s

-- ---- a step within the LOOP

module _ (plan : Plan) (base : ℕ) (u : Turning) (q b s : ℕ) (first : u.first ≡ base + plan.first) (end : u.end ≡ base + plan.end)
    (sum : b ≡ s + u.left * plan.turn) where
  leaves_by : (done : Bool) → (u.left == 0) ≡ done → q ≡ plan.end → sum_in plan.outside q ≡ Some (b + 1)
      → (c : ℕ) → sum_in plan.inside plan.first ≡ Some c → c + plan.turn ≡ b + 1
      → Onto plan base (cond done (record { pc = base + q; turning = None })
      (record { pc = u.first; turning = Some (record u { left = u.left - 1 }) })) (s + 1)
  leaves_by true zero' is out c in' turn =
      let none : u.left ≡ 0 = eqb-true u.left 0 zero' in
      let same : b + 1 ≡ s + 1 = ap (λ n. n + 1) (sum ∙ ap (λ n. s + n * plan.turn) none) ∙ omega arith in
      record { p = q; place = refl; at = out ∙ ap Some same }
  leaves_by false more is out c in' turn =
      let some : u.left ≡ 0 → ⊥ = eqb-false u.left 0 more in
      let split : u.left ≡ suc (u.left - 1) = omega (arith, some) in
      let product : u.left * plan.turn ≡ plan.turn + (u.left - 1) * plan.turn =
      ap (λ n. n * plan.turn) split ∙ suc-mul (u.left - 1) plan.turn ∙ omega arith in
      let same : c ≡ s + 1 + (u.left - 1) * plan.turn = omega (arith, turn, sum, product) in
      record { p = plan.first; place = first; at = (first, end, in' ∙ ap Some same) }

  inside_at : (at_end : Bool) → (base + q == u.end) ≡ at_end → (is : Bool) → (q == plan.end) ≡ is → keeps_move plan b q ≡ true
      → Onto plan base (cond at_end
      (cond (u.left == 0) (record { pc = base + q; turning = None })
      (record { pc = u.first; turning = Some (record u { left = u.left - 1 }) }))
      (cond (nat_le u.first (base + q) && nat_lt (base + q) u.end) (record { pc = base + q; turning = Some u })
      (record { pc = base + q; turning = None }))) (s + 1)
  inside_at true e true f keeps =
      let all = ap (keeps_by plan b q) (sym f) ∙ keeps in
      let both = and_parts (is_sum (b + 1) (sum_in plan.outside q))
      (is_sum (b + 1) (option_map (λ c. c + plan.turn) (sum_in plan.inside plan.first))) all in
      let c = sum_less plan.turn (b + 1) (sum_in plan.inside plan.first) both.1 in
      leaves_by (u.left == 0) refl (eqb-true q plan.end f) (sum_is (b + 1) (sum_in plan.outside q) both.0) c.0 c.1 c.2
  inside_at true e false f keeps =
      let is : base + q ≡ u.end = eqb-true (base + q) u.end e in
      let apart : q ≡ plan.end → ⊥ = eqb-false q plan.end f in
      absurd (apart (omega (arith, is, end)))
  inside_at false e true f keeps =
      let is : q ≡ plan.end = eqb-true q plan.end f in
      let apart : base + q ≡ u.end → ⊥ = eqb-false (base + q) u.end e in
      absurd (apart (omega (arith, is, end)))
  inside_at false e false f keeps =
      let all = ap (keeps_by plan b q) (sym f) ∙ keeps in
      let outer = and_parts (nat_le plan.first q && nat_lt q plan.end) (is_sum (b + 1) (sum_in plan.inside q)) all in
      let inner = and_parts (nat_le plan.first q) (nat_lt q plan.end) outer.0 in
      let above = leb-true plan.first q inner.0 in
      let below = ltb-true q plan.end inner.1 in
      let low : nat_le u.first (base + q) ≡ true = le-leb u.first (base + q) (omega (arith, above, first)) in
      let high : nat_lt (base + q) u.end ≡ true = lt-ltb (base + q) u.end (omega (arith, below, end)) in
      let within : (nat_le u.first (base + q) && nat_lt (base + q) u.end) ≡ true =
      and_from (nat_le u.first (base + q)) (nat_lt (base + q) u.end) low high in
      let same : b + 1 ≡ s + 1 + u.left * plan.turn = omega (arith, sum) in
      subst (λ (x : Bool). Onto plan base (cond x (record { pc = base + q; turning = Some u }) (record { pc = base + q; turning = None }))
      (s + 1)) (sym within)
      (record { p = q; place = refl; at = (first, end, sum_is (b + 1) (sum_in plan.inside q) outer.1 ∙ ap Some same) })

  pub inside_step : keeps_move plan b q ≡ true → Onto plan base (onward (base + q) (Some u)) (s + 1)
  inside_step keeps = inside_at (base + q == u.end) refl (q == plan.end) refl keeps

-- ---- a step from outside the LOOP

module _ (plan : Plan) (p a : ℕ) (items : List Item) (x : Placed) where
  -- the LOOP begins
  pub record Began : Type 0 where
    pub sum : sum_in plan.inside plan.first ≡ Some (a + 1 + 31 * plan.turn)
    pub first : p + 1 ≡ plan.first
    pub end : aim_of items x ≡ Some plan.end
    pub count : turns_as 32 x.inst ≡ true

  pub began : begins_loop plan items p x a ≡ true → Began
  began all =
      let c = and_parts _ (turns_as 32 x.inst) all in
      let b = and_parts _ (is_sum plan.end (aim_of items x)) c.0 in
      let d = and_parts (is_sum (a + 1 + 31 * plan.turn) (sum_in plan.inside plan.first)) (p + 1 == plan.first) b.0 in
      record {
        sum = sum_is (a + 1 + 31 * plan.turn) (sum_in plan.inside plan.first) d.0;
        first = eqb-true (p + 1) plan.first d.1;
        end = sum_is plan.end (aim_of items x) b.1;
        count = c.1;
      }

pub out_step : (plan : Plan) (base a q s : ℕ) → a ≡ s → is_sum (a + 1) (sum_in plan.outside q) ≡ true
    → Onto plan base (onward (base + q) None) (s + 1)
out_step plan base a q s same is =
    record { p = q; place = refl; at = sum_is (a + 1) (sum_in plan.outside q) is ∙ ap (λ n. Some (n + 1)) same }
