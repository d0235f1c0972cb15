-- Instructions that stand in a code are run one behind the other.
use Rattle.std.proofs.Common.{◌≡◌, ℕ, zero, suc, ◌+◌, ◌-◌, ◌<◌, ◌≤◌, Bool, true, false, List, [], ◌∷◌, ◌++◌, length, map, refl, sym}
use Rattle.std.proofs.Common.{ap, ◌∙◌}
use Rattle.std.proofs.Common.{arith, subst, Option, Some, None}
use Rattle.std.specs.Prelude.{◌==◌, nat_le, nat_lt, ◌&&◌, if◌then◌else◌, slice_get, option_map}
use Rattle.std.proofs.lemmas.Bool.{ne_eqb, le-leb, lt-ltb}
use Rattle.prutrace.specs.declared.event.Event.{Event}
use Rattle.isa.specs.declared.inst.Inst.{Inst}
use Rattle.isa.specs.declared.note.Note.{Note}
use Rattle.isa.specs.declared.note.NoteKind.TheVariants as kinds
use Rattle.isa.specs.declared.program.Item.{Item}
use Rattle.isa.specs.declared.program.Item.TheVariants as item
use Rattle.isa.specs.Note.{is_access}
use Rattle.corestep.specs.declared.goes.Goes.TheVariants.{Behind}
use Rattle.corestep.specs.declared.onward.Onward.{Onward}
use Rattle.corestep.specs.declared.onward.Turning.{Turning}
use Rattle.corestep.specs.declared.out.Stop.TheVariants.{Going}
use Rattle.corestep.specs.Core.{State, onward}
use Rattle.corestep.specs.Effect.{Given, shows}
use Rattle.corestep.specs.Step.{Stepped, marks_before, marks_behind}
use Rattle.corerun.specs.Code.{Code, step_by_code, after_effect_in}
use Rattle.corerun.specs.Items.{Placed, placed, notes_of_placed}
use Rattle.helpers.specs.Runs.{StandsAt, StepsTo, RunsTo, here, on}
use Rattle.fieldcode.specs.Insts.{noted, items}
use Rattle.fieldcode.specs.Runs.{Does, Straight, none, next, GoesThrough, come_to}
use Rattle.fieldcode.specs.Values.{Place}
use Rattle.fieldcode.specs.Effects.{Puts, Performs, Run}

-- ---- items

abbrev own_notes : Bool → List Note
own_notes b = if b then record { word = 0; kind = kinds.Own; value = 0 } ∷ [] else []

abbrev own_placed : Inst → Placed
own_placed i = record { inst = i; aim = None; notes = own_notes (is_access i) }

noted_by : (b : Bool) (i : Inst) (rest : List Item)
    → placed [] ((if b then item.Note kinds.Own 0 ∷ item.Whole i ∷ [] else item.Whole i ∷ []) ++ rest)
    ≡ record { inst = i; aim = None; notes = own_notes b } ∷ placed [] rest
noted_by true i rest = refl
noted_by false i rest = refl

placed_items : (is : List Inst) → placed [] (items is) ≡ map own_placed is
placed_items [] = refl
placed_items (i ∷ is) = noted_by (is_access i) i (items is) ∙ ap (λ (l : List Placed). own_placed i ∷ l) (placed_items is)

silent_before : (b : Bool) → marks_before (own_notes b) ≡ []
silent_before true = refl
silent_before false = refl

silent_behind : (b : Bool) → marks_behind (own_notes b) ≡ []
silent_behind true = refl
silent_behind false = refl

-- ---- where they stand

record Here (code : Code) (p : ℕ) (i : Inst) : Type 0 where
  inst : code.inst p ≡ Some i
  notes : code.notes p ≡ own_notes (is_access i)

abbrev Laid : Code → ℕ → List Inst → Type 0
Laid code base [] = Unit {0}
Laid code base (i ∷ is) = Here code base i × Laid code (base + 1) is

long : (is : List Inst) → length (map own_placed is) ≡ length is
long [] = refl
long (i ∷ is) = ap suc (long is)

laid : (code : Code) (base : ℕ) (is : List Inst)
    → ((p : ℕ) → p < length is → code.inst (base + p) ≡ option_map (λ x. x.inst) (slice_get (map own_placed is) p))
    → ((p : ℕ) → p < length is → code.notes (base + p) ≡ notes_of_placed (slice_get (map own_placed is) p)) → Laid code base is
laid code base [] inst notes = tt
laid code base (i ∷ is) inst notes =
    let first : base + 0 ≡ base = omega arith in
    let shift : (p : ℕ) → base + 1 + p ≡ base + suc p = λ p. omega arith in (
      record {
        inst = ap code.inst (sym first) ∙ inst 0 (omega arith);
        notes = ap code.notes (sym first) ∙ notes 0 (omega arith);
      },
      laid code (base + 1) is (λ p less. ap code.inst (shift p) ∙ inst (suc p) (omega arith))
          (λ p less. ap code.notes (shift p) ∙ notes (suc p) (omega arith)),
    )

stands_laid : (code : Code) (base : ℕ) (is : List Inst) → StandsAt code base (items is) → Laid code base is
stands_laid code base is stands =
    let same = placed_items is in
    let count : length (placed [] (items is)) ≡ length is = ap length same ∙ long is in
    laid code base is
    (λ p less. stands.inst p (omega (arith, count, less)) ∙ ap (λ (l : List Placed). option_map (λ x. x.inst) (slice_get l p)) same)
    (λ p less. stands.notes p (omega (arith, count, less)) ∙ ap (λ (l : List Placed). notes_of_placed (slice_get l p)) same)

-- ---- steps

step_does : (code : Code) (s : State) (i : Inst) (after left : List ℕ) → Here code s.pc i → Does i s.registers s.ram after left
    → StepsTo code s (come_to (s.pc + 1) s.turning after left)
step_does code s i after left it does =
    let made : List Event → List Event → Stepped = λ before behind. record {
      core = come_to (s.pc + 1) s.turning after left;
      out = record { events = before ++ ([] ++ behind); at = 0; stored = []; stop = Going };
    } in
    let before : marks_before (code.notes s.pc) ≡ [] = ap marks_before it.notes ∙ silent_before (is_access i) in
    let behind : marks_behind (code.notes s.pc) ≡ [] = ap marks_behind it.notes ∙ silent_behind (is_access i) in
    record {
      does = λ g. ap (step_by_code code s g) it.inst ∙ ap (after_effect_in code s i) (does.effect (code.number (s.pc + 1)) g)
          ∙ ap (λ (es : List Event). made es (marks_behind (code.notes s.pc))) before ∙ ap (made []) behind;
    }

-- ---- within a LOOP

choice : (u : Turning) (n : ℕ) (is_end from before : Bool) → Onward
choice u n is_end from before =
    if is_end then (if u.left == 0 then record { pc = n; turning = None }
    else record { pc = u.first; turning = Some (record u { left = u.left - 1 }) })
    else if from && before then record { pc = n; turning = Some u } else record { pc = n; turning = None }

inside : (u : Turning) (n : ℕ) → u.first ≤ n → n < u.end → onward n (Some u) ≡ record { pc = n; turning = Some u }
unfolding choice
inside u n lower upper =
    let not_end : (n == u.end) ≡ false = ne_eqb n u.end (λ e. omega arith) in
    let least : nat_le u.first n ≡ true = le-leb u.first n lower in
    let most : nat_lt n u.end ≡ true = lt-ltb n u.end upper in
    ap (λ (b : Bool). choice u n b (nat_le u.first n) (nat_lt n u.end)) not_end
    ∙ ap (λ (c : Bool). choice u n false c (nat_lt n u.end)) least
    ∙ ap (λ (d : Bool). choice u n false true d) most

stays : (base : ℕ) (t : Option Turning) → GoesThrough base 0 t → onward base t ≡ record { pc = base; turning = t }
stays base None through = refl
stays base (Some u) through = inside u base through.0 through.1

begins : (base count : ℕ) (t : Option Turning) → GoesThrough base count t → GoesThrough base 0 t
begins base count None through = tt
begins base count (Some u) through =
    let upper = through.1 in (through.0, upper, (let e : base + 0 ≤ u.end = omega (arith, upper) in e))

behind_one : (base count : ℕ) (t : Option Turning) → GoesThrough base (suc (suc count)) t → GoesThrough (base + 1) (suc count) t
behind_one base count None through = tt
behind_one base count (Some u) through =
    let lower = through.0 in
    let upper = through.2 in (
      (let e : u.first ≤ base + 1 = omega (arith, lower) in e),
      (let e : base + 1 < u.end = omega (arith, upper) in e),
      (let e : base + 1 + suc count ≤ u.end = omega (arith, upper) in e),
    )

abbrev state : ℕ → Option Turning → List ℕ → List ℕ → State
state p t a r = record { pc = p; turning = t; registers = a; ram = r }

at_rest : (base : ℕ) (t : Option Turning) (a r : List ℕ) → GoesThrough base 0 t → come_to base t a r ≡ state base t a r
at_rest base t a r through =
    ap (λ (o : Onward). record { pc = o.pc; turning = o.turning; registers = a; ram = r }) (stays base t through)

-- ---- runs

record First (i : Inst) (is : List Inst) (a r b s : List ℕ) : Type 0 where
  m : List ℕ
  n : List ℕ
  does : Does i a r m n
  rest : Straight is m n b s

abbrev Split : List Inst → List ℕ → List ℕ → List ℕ → List ℕ → Type 0
Split [] a r b s = (a ≡ b) × (r ≡ s)
Split (i ∷ is) a r b s = First i is a r b s

split : (is : List Inst) (a r b s : List ℕ) → Straight is a r b s → Split is a r b s
split _ _ _ _ _ (none a r) = (refl, refl)
split _ _ _ _ _ (next i is a r m n b s does rest) = record { m = m; n = n; does = does; rest = rest }

runs : (code : Code) (is : List Inst) (base : ℕ) (t : Option Turning) (a r b s : List ℕ) → Straight is a r b s → Laid code base is
    → GoesThrough base (length is) t → RunsTo code (length is) (state base t a r) (come_to (base + length is) t b s)
runs code [] base t a r b s straight stands through =
    let same = split [] a r b s straight in
    let at : come_to (base + 0) t b s ≡ state base t a r =
    ap (λ p. come_to p t b s) (let e : base + 0 ≡ base = omega arith in e)
    ∙ at_rest base t b s (begins base 0 t through)
    ∙ ap (λ (l : List ℕ). state base t l s) (sym same.0) ∙ ap (λ (l : List ℕ). state base t a l) (sym same.1) in
    subst (λ (u : State). RunsTo code 0 (state base t a r) u) (sym at) (here (state base t a r))
runs code (i ∷ []) base t a r b s straight stands through =
    let first = split (i ∷ []) a r b s straight in
    let same = split [] first.m first.n b s first.rest in
    let end : State = come_to (base + 1) t first.m first.n in
    let at : end ≡ come_to (base + 1) t b s =
    ap (λ (l : List ℕ). come_to (base + 1) t l first.n) same.0 ∙ ap (λ (l : List ℕ). come_to (base + 1) t b l) same.1 in
    subst (λ (u : State). RunsTo code 1 (state base t a r) u) at
    (on 0 (state base t a r) end end (step_does code (state base t a r) i first.m first.n stands.0 first.does) (here end))
runs code (i ∷ j ∷ js) base t a r b s straight stands through =
    let first = split (i ∷ j ∷ js) a r b s straight in
    let count : ℕ = length (j ∷ js) in
    let far : GoesThrough (base + 1) count t = behind_one base (length js) t through in
    let rest : RunsTo code count (state (base + 1) t first.m first.n) (come_to (base + 1 + count) t b s) =
    runs code (j ∷ js) (base + 1) t first.m first.n b s first.rest stands.1 far in
    let arrived : state (base + 1) t first.m first.n ≡ come_to (base + 1) t first.m first.n =
    sym (at_rest (base + 1) t first.m first.n (begins (base + 1) count t far)) in
    let end : base + 1 + count ≡ base + suc count = omega arith in
    on count (state base t a r) (come_to (base + 1) t first.m first.n) (come_to (base + suc count) t b s)
    (step_does code (state base t a r) i first.m first.n stands.0 first.does)
    (subst (λ (u : State). RunsTo code count u (come_to (base + suc count) t b s)) arrived
    (subst (λ p. RunsTo code count (state (base + 1) t first.m first.n) (come_to p t b s)) end rest))

pub performs : (slots : ℕ) (to : Place) (n : ℕ) (is : List Inst) (registers ram : List ℕ) → Puts slots to n is registers ram
    → Performs slots to n is registers ram
performs slots to n is registers ram puts = record {
  run = λ code base t stands through. record {
    after = puts.after;
    left = puts.left;
    runs = runs code is base t registers ram puts.after puts.left puts.straight (stands_laid code base is stands) through;
    put = puts.put;
  };
}
