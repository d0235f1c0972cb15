-- What a run keeps: a register whose constant can be seen in the operations before the next one holds that, cut to it.
use Rattle.std.proofs.Common.{◌≡◌, ℕ, zero, suc, ◌+◌, ◌%◌, ◌^◌, ◌==◌, ◌⊎◌, inl, inr, Bool, true, false, not, ◌||◌, List, [], ◌∷◌, ◌++◌}
use Rattle.std.proofs.Common.{take, reverse, Option, Some, None, replicate, refl, sym, subst, ap, ◌∙◌, arith, slice_get, slice_index}
use Rattle.std.proofs.Common.{length, nat_lt, if◌then◌else◌}
use Rattle.std.proofs.lemmas.Bool.{true≢false}
use Rattle.std.proofs.lemmas.List.{reverse-append}
use Rattle.behaviour.specs.Ran.{Ran, Done, and_then}
use Rattle.prunum.specs.Bytes.{little_bytes, little_number}
use Rattle.prunum.specs.Number.{wrap, wrap_signed, sext}
use Rattle.prunum.specs.Width.{byte_count}
use Rattle.prunum.specs.declared.width.Width.{Width}
use Rattle.prunum.specs.declared.width.Width.TheVariants.{B4}
use Rattle.memorymap.specs.Windows.{in_own_window, in_window}
use Rattle.prutrace.specs.declared.event.Event.{Event}
use Rattle.prutrace.specs.declared.event.Event.TheVariants as event
use Rattle.prutrace.specs.declared.event.Place.{Place}
use Rattle.prutrace.specs.declared.event.Place.TheVariants as place
use Rattle.midcode.specs.declared.register.VReg.{VReg}
use Rattle.midcode.specs.declared.register.Label.{Label}
use Rattle.midcode.specs.declared.op.Base.{Base}
use Rattle.midcode.specs.declared.op.Base.TheVariants as base
use Rattle.midcode.specs.declared.op.VolatileBase.{VolatileBase}
use Rattle.midcode.specs.declared.op.VolatileBase.TheVariants as volatile
use Rattle.midcode.specs.declared.op.Operand.{Operand}
use Rattle.midcode.specs.declared.op.Operand.TheVariants as operand
use Rattle.midcode.specs.declared.op.Mark.TheVariants as mark
use Rattle.midcode.specs.declared.op.OpKind.{OpKind}
use Rattle.midcode.specs.declared.op.OpKind.TheVariants as op
use Rattle.midcode.specs.Operation.{writes, listed}
use Rattle.midcode.specs.Value.{unary_value, binary_value}
use Rattle.midcode.specs.Program.{Program}
use Rattle.midcode.specs.Machine.{Wild, Misaligned, OutsideWindows, NotOwn, OutsideObjects}
use Rattle.midcode.specs.Machine.{MoreTurns, FewerTurns, Frame, Caller, State, Does}
use Rattle.midcode.specs.Machine.{giving, in_turn, sure, get, with_register, onwards, are_in_objects}
use Rattle.midcode.specs.Machine.{bytes_at, stored, load, store, show, read_from, read, allowed}
use Rattle.midcode.specs.Machine as machine
use Rattle.midcode.specs.Meaning.{function_at, registers_of, running, width_of, set, value, plain_address}
use Rattle.midcode.specs.Meaning.{volatile_address, core_place, is_met, standing_at, go_to, turns_taken, count_turn, taking, passing}
use Rattle.midcode.specs.Meaning.{branch, get_all, call, get_option, hand_over, return_to, effect, charged, performed, step}
use Rattle.midcode.specs.Meaning.{start}
use Rattle.midopt.specs.Tidy.{is_result, number_of, known}
use Rattle.midopt.proofs.Effects.{ops}
use Rattle.midopt.proofs.Runs.{IsKept}
use Rattle.midfold.specs.Folding.{cut}
use Rattle.midfold.proofs.Leads.{Leads, then-leads, sure-leads, led}

-- ---- lists

-- the operations before a place, the last first
abbrev pub before : List OpKind → ℕ → List OpKind
before ks x = reverse (take x ks)

-- It is come to from the operation before it alone.
abbrev pub is_inner : Option OpKind → Bool
is_inner None = false
is_inner (Some (op.Label l)) = false
is_inner (Some k) = true

take-more : (ks : List OpKind) (x : ℕ) (k : OpKind) → slice_get ks x ≡ Some k → take (suc x) ks ≡ take x ks ++ k ∷ []
take-more [] x k at = cc
take-more (j ∷ ks) zero k at = ap (λ i. i ∷ []) (some-same j k at)
  where
    some-same : (j k : OpKind) → Some j ≡ Some k → j ≡ k
    some-same j k same = cc
take-more (j ∷ ks) (suc x) k at = ap (λ l. j ∷ l) (take-more ks x k at)

next-suc : (x : ℕ) → x + 1 ≡ suc x
next-suc x = omega arith

before-more : (ks : List OpKind) (x : ℕ) (k : OpKind) → slice_get ks x ≡ Some k → before ks (x + 1) ≡ k ∷ before ks x
before-more ks x k at =
    ap (λ n. reverse (take n ks)) (next-suc x) ∙ ap reverse (take-more ks x k at) ∙ reverse-append (take x ks) (k ∷ [])

-- A label is no place that is come to from the operation before it alone, nor is the end.
label-outer : (ks : List OpKind) (l : ℕ) → is_inner (slice_get ks (standing_at ks l)) ≡ false
label-outer [] l = refl
label-outer (k ∷ ks) l = by k (label-outer ks l)
  where
    one-more : (k : OpKind) (n : ℕ) → is_inner (slice_get ks n) ≡ false → is_inner (slice_get (k ∷ ks) (1 + n)) ≡ false
    one-more k n h = ap (λ m. is_inner (slice_get (k ∷ ks) m)) (let e : 1 + n ≡ suc n = omega arith in e) ∙ h

    either : (m : Label) (b : Bool) → is_inner (slice_get ks (standing_at ks l)) ≡ false
        → is_inner (slice_get (op.Label m ∷ ks) (if b then 0 else 1 + standing_at ks l)) ≡ false
    either m true h = refl
    either m false h = one-more (op.Label m) (standing_at ks l) h

    by : (k : OpKind) → is_inner (slice_get ks (standing_at ks l)) ≡ false
        → is_inner (slice_get (k ∷ ks) (standing_at (k ∷ ks) l)) ≡ false
    by (op.Label m) h = either m (m.0 == l) h
    by k h = one-more k (standing_at ks l) h

-- What is known behind an operation is its constant, or was known before.
abbrev Behind : OpKind → List OpKind → ℕ → ℕ → Type 0
Behind k front r v =
    ((is_result r (writes k) ≡ true) × (number_of k ≡ Some v))
    ⊎ ((is_result r (writes k) ≡ false) × (known front r ≡ Some v) × (is_inner (Some k) ≡ true))

behind : (k : OpKind) (front : List OpKind) (r v : ℕ) → known (k ∷ front) r ≡ Some v → Behind k front r v
behind k front r v = cases k
  where
    by : (k : OpKind) → is_inner (Some k) ≡ true → (b : Bool) → is_result r (writes k) ≡ b
        → (if b then number_of k else known front r) ≡ Some v → Behind k front r v
    by k inner true is at = inl (is, at)
    by k inner false is at = inr (is, at, inner)

    cases : (k : OpKind) → known (k ∷ front) r ≡ Some v → Behind k front r v
    cases (op.Label l) at = cc
    cases k at = by k refl (is_result r (writes k)) refl at

-- ---- states

module _ (q : Program) where
  abbrev widths : ℕ → List Width
  widths f = registers_of (function_at q f)

  abbrev Hold : ℕ → ℕ → (ℕ → Option ℕ) → Type 0
  Hold f x registers = (r v : ℕ) → known (before (ops q f) x) r ≡ Some v → registers r ≡ Some (cut (widths f) r v)

  -- a frame that waits, and the register that a value goes to
  abbrev CallerHolds : Frame → Option VReg → Type 0
  CallerHolds t to =
      (r v : ℕ) → known (before (ops q t.function) (t.place + 1)) r ≡ Some v
      → (is_result r to ≡ false) × (t.registers r ≡ Some (cut (widths t.function) r v))

  abbrev CallersHold : List Caller → Type 0
  CallersHold [] = Unit {0}
  CallersHold (c ∷ cs) = CallerHolds c.frame c.to × CallersHold cs

  pub record Holds (s : State) : Type 0 where
    pub frame : is_inner (slice_get (ops q s.frame.function) s.frame.place) ≡ true → Hold s.frame.function s.frame.place s.frame.registers
    pub callers : CallersHold s.callers

  none-before : (ks : List OpKind) (r v : ℕ) → known (before ks 0) r ≡ Some v → ⊥
  none-before [] r v is = cc
  none-before (k ∷ ks) r v is = cc

  starts : (a values : List ℕ) → Holds (start q a values)
  starts a values = record {
    frame = λ inner r v is. absurd (none-before (ops q q.main) r v is);
    callers = tt;
  }

  abbrev Kept : Unit {0} → State → Type 0
  Kept u t = Holds t

  -- ---- returns

  back-on : (t : State) (fr : Frame) (cs : List Caller) (to : Option VReg) → CallerHolds fr to → CallersHold cs → (v : Option ℕ)
      → Leads Kept (in_turn (hand_over q v to) (λ _. onwards) (record t { frame = fr; callers = cs }))
  back-on t fr cs to waits rest v = by v to waits
    where
      plain : (to : Option VReg) → CallerHolds fr to → Holds (record t { frame = record fr { place = fr.place + 1 }; callers = cs })
      plain to waits = record { frame = λ inner r n is. (waits r n is).1; callers = rest }

      by : (v : Option ℕ) (to : Option VReg) → CallerHolds fr to
          → Leads Kept (in_turn (hand_over q v to) (λ _. onwards) (record t { frame = fr; callers = cs }))
      by None None waits = plain None waits
      by None (Some r) waits = plain (Some r) waits
      by (Some v) None waits = plain None waits
      by (Some v) (Some r) waits = record {
        frame = λ inner m n is.
            ap (λ b. if b then Some (wrap (width_of q (record t { frame = fr; callers = cs }) r) v) else fr.registers m)
            (other-way r.0 m (waits m n is).0) ∙ (waits m n is).1;
        callers = rest;
      }
        where
          other-way : (n m : ℕ) → (n == m) ≡ false → (m == n) ≡ false
          other-way n m h = grind (arith, h)

  returns : (v : Option ℕ) (cs : List Caller) (t : State) → CallersHold cs → Leads Kept (return_to q v cs t)
  returns v [] t hold = tt
  returns v (c ∷ cs) t hold = back-on t c.frame cs c.to hold.0 hold.1 v

  -- ---- an operation

  module _ (a : List ℕ) (k : OpKind) (s : State) (here : slice_get (ops q s.frame.function) s.frame.place ≡ Some k) (holds : Holds s) where
    abbrev f : ℕ
    f = s.frame.function

    abbrev x : ℕ
    x = s.frame.place

    -- what the operation has not changed so far
    record Stays (t : State) : Type 0 where
      function : t.frame.function ≡ f
      place : t.frame.place ≡ x
      registers : t.frame.registers ≡ s.frame.registers
      callers : t.callers ≡ s.callers

    stays : Stays s
    stays = record { function = refl; place = refl; registers = refl; callers = refl }

    abbrev On : {A : Type 0} → A → State → Type 0
    On v t = Stays t

    -- ---- what is known behind it

    behind-here : (r v : ℕ) → known (before (ops q f) (x + 1)) r ≡ Some v → Behind k (before (ops q f) x) r v
    behind-here r v is = behind k (before (ops q f) x) r v (sym (ap (λ ks. known ks r) (before-more (ops q f) x k here)) ∙ is)

    held-before : (r v : ℕ) → known (before (ops q f) x) r ≡ Some v → is_inner (Some k) ≡ true
        → s.frame.registers r ≡ Some (cut (widths f) r v)
    held-before r v is inner = holds.frame (ap is_inner here ∙ inner) r v is

    -- the next place
    goes-on : (t : State) (registers : ℕ → Option ℕ) → Stays t → Hold f (x + 1) registers
        → Holds (record t { frame = record t.frame { registers = registers; place = t.frame.place + 1 } })
    goes-on t registers at hold = record {
      frame = λ inner r v is.
          hold r v
          (sym (ap (λ g. known (before (ops q g) (t.frame.place + 1)) r) at.function ∙
          ap (λ y. known (before (ops q f) (y + 1)) r) at.place) ∙ is) ∙
          ap (λ g. Some (cut (widths g) r v)) (sym at.function);
      callers = subst CallersHold (sym at.callers) holds.callers;
    }

    -- where it writes nothing
    on : writes k ≡ None → (t : State) → Stays t → Leads Kept (onwards t)
    on none t at = goes-on t t.frame.registers at (λ r v is. by r v (behind-here r v is))
      where
        by : (r v : ℕ) → Behind k (before (ops q f) x) r v → t.frame.registers r ≡ Some (cut (widths f) r v)
        by r v (inl (wrote, n)) = absurd (true≢false (sym wrote ∙ ap (is_result r) none))
        by r v (inr (off, was, inner)) = ap (λ rs. rs r) at.registers ∙ held-before r v was inner

    other-way : (n m : ℕ) → (n == m) ≡ false → (m == n) ≡ false
    other-way n m h = grind (arith, h)

    unwritten : (to : VReg) (r : ℕ) → writes k ≡ Some to → is_result r (writes k) ≡ false → (r == to.0) ≡ false
    unwritten to r is off = other-way to.0 r (sym (ap (is_result r) is) ∙ off)

    -- where it writes a number that can't be seen
    sets : (to : VReg) → writes k ≡ Some to → number_of k ≡ None → (n : ℕ) (t : State) → Stays t
        → Leads Kept (in_turn (set q to n) (λ _. onwards) t)
    sets to is none n t at =
        goes-on t (with_register t.frame.registers to.0 (wrap (width_of q t to) n)) at (λ r v was. by r v (behind-here r v was))
      where
        by : (r v : ℕ) → Behind k (before (ops q f) x) r v
            → with_register t.frame.registers to.0 (wrap (width_of q t to) n) r ≡ Some (cut (widths f) r v)
        by r v (inl (wrote, seen)) = absurd (never (sym none ∙ seen))
          where
            never : None ≡ Some v → ⊥
            never e = cc
        by r v (inr (off, was, inner)) =
            ap (λ b. if b then Some (wrap (width_of q t to) n) else t.frame.registers r) (unwritten to r is off) ∙
            ap (λ rs. rs r) at.registers ∙ held-before r v was inner

    -- a constant
    sets-constant : (to : VReg) (n : ℕ) → writes k ≡ Some to → number_of k ≡ Some n → (t : State) → Stays t
        → Leads Kept (in_turn (set q to n) (λ _. onwards) t)
    sets-constant to n is has t at =
        goes-on t (with_register t.frame.registers to.0 (wrap (width_of q t to) n)) at (λ r v was. by r v (behind-here r v was))
      where
        same-number : (n v : ℕ) → Some n ≡ Some v → n ≡ v
        same-number n v e = cc

        same-register : (r : ℕ) → is_result r (writes k) ≡ true → (r == to.0) ≡ true
        same-register r own = turned to.0 r (sym (ap (is_result r) is) ∙ own)
          where
            turned : (n m : ℕ) → (n == m) ≡ true → (m == n) ≡ true
            turned n m h = grind (arith, h)

        same-id : (n m : ℕ) → (n == m) ≡ true → m ≡ n
        same-id n m h = grind (arith, h)

        by : (r v : ℕ) → Behind k (before (ops q f) x) r v
            → with_register t.frame.registers to.0 (wrap (width_of q t to) n) r ≡ Some (cut (widths f) r v)
        by r v (inl (wrote, seen)) =
            ap (λ b. if b then Some (wrap (width_of q t to) n) else t.frame.registers r) (same-register r wrote) ∙
            ap (λ g. Some (cut (widths g) to.0 n)) at.function ∙
            ap (λ m. Some (cut (widths f) m n)) (same-id r to.0 (same-register r wrote)) ∙
            ap (λ m. Some (cut (widths f) r m)) (same-number n v (sym has ∙ seen))
        by r v (inr (off, was, inner)) =
            ap (λ b. if b then Some (wrap (width_of q t to) n) else t.frame.registers r) (unwritten to r is off) ∙
            ap (λ rs. rs r) at.registers ∙ held-before r v was inner

    -- ---- parts of operations, which change no register and no place

    get-stays : (r : VReg) (t : State) → Stays t → Leads On (get r t)
    get-stays r t at = by (t.frame.registers r.0)
      where
        by : (o : Option ℕ) → Leads On (machine.known o t)
        by None = tt
        by (Some v) = at

    value-stays : (o : Operand) (t : State) → Stays t → Leads On (value o t)
    value-stays (operand.Register r) t at = get-stays r t at
    value-stays (operand.Constant n) t at = at

    address-stays : (b : Base) (offset : ℕ) (t : State) → Stays t → Leads On (plain_address a b offset t)
    address-stays (base.Object object) offset t at = at
    address-stays (base.Register r) offset t at =
        then-leads On On (get r t) (λ v. giving ((v + offset) % 2 ^ 32)) (get-stays r t at) (λ v u on. on)

    volatile-stays : (b : VolatileBase) (offset : ℕ) (t : State) → Stays t → Leads On (volatile_address b offset t)
    volatile-stays (volatile.Address address) offset t at = at
    volatile-stays (volatile.Register r) offset t at =
        then-leads On On (get r t) (λ v. giving ((v + offset) % 2 ^ 32)) (get-stays r t at) (λ v u on. on)

    load-stays : (w : Width) (from : ℕ) (t : State) → Stays t → Leads On (load a q.objects w from t)
    load-stays w from t at =
        then-leads On On (sure OutsideObjects (are_in_objects a q.objects from (byte_count w)) t)
        (λ _ s. Done (little_number (byte_count w) (bytes_at s.memory from (byte_count w))) s)
        (sure-leads Stays OutsideObjects (are_in_objects a q.objects from (byte_count w)) t at) (λ v u on. on)

    same-frames : (t u : State) → u.frame ≡ t.frame → u.callers ≡ t.callers → Stays t → Stays u
    same-frames t u frame callers at = record {
      function = ap (λ z. z.function) frame ∙ at.function;
      place = ap (λ z. z.place) frame ∙ at.place;
      registers = ap (λ z. z.registers) frame ∙ at.registers;
      callers = callers ∙ at.callers;
    }

    store-stays : (from : ℕ) (bytes : List ℕ) (t : State) → Stays t → Leads On (store a q.objects from bytes t)
    store-stays from bytes t at =
        then-leads On On (sure OutsideObjects (are_in_objects a q.objects from (length bytes)) t)
        (λ _ s. Done tt (record s { memory = stored s.memory from bytes }))
        (sure-leads Stays OutsideObjects (are_in_objects a q.objects from (length bytes)) t at)
        (λ v u on. same-frames u (record u { memory = stored u.memory from bytes }) refl refl on)

    show-stays : (e : Event) (t : State) → Stays t → Leads On (show e t)
    show-stays e t at = same-frames t (record t { events = t.events ++ e ∷ [] }) refl refl at

    read-stays : (p : Place) (w : Width) (t : State) → Stays t → Leads On (read p w t)
    read-stays p w t at = by t.values
      where
        by : (vs : List ℕ) → Leads On (read_from p w vs t)
        by [] = tt
        by (v ∷ vs) =
            same-frames t (record t { values = vs; events = t.events ++ event.Read p w (wrap w v) ∷ [] }) refl refl at

    allowed-stays : (own : Bool) (w : Width) (to : ℕ) (t : State) → Stays t → Leads On (allowed own w to t)
    allowed-stays own w to t at =
        then-leads On On (sure Misaligned (to % byte_count w == 0) t) _ (sure-leads Stays Misaligned (to % byte_count w == 0) t at)
        (λ _ u on. then-leads On On (sure OutsideWindows (in_window to) u) (λ _. sure NotOwn (not own || in_own_window to))
        (sure-leads Stays OutsideWindows (in_window to) u on)
        (λ _ u on. sure-leads Stays NotOwn (not own || in_own_window to) u on))

    counted : (n : ℕ) (t : State) → Stays t → Leads On (count_turn n t)
    counted n t at = record { function = at.function; place = at.place; registers = at.registers; callers = at.callers }

    taking-stays : (turns : Option ℕ) (t : State) → Stays t → Leads On (taking turns t)
    taking-stays None t at = at
    taking-stays (Some n) t at =
        then-leads On On (sure MoreTurns (nat_lt (turns_taken t + 1) n) t) (λ _. count_turn (turns_taken t + 1))
        (sure-leads Stays MoreTurns (nat_lt (turns_taken t + 1) n) t at) (λ _ u on. counted (turns_taken t + 1) u on)

    passing-stays : (turns : Option ℕ) (t : State) → Stays t → Leads On (passing turns t)
    passing-stays None t at = at
    passing-stays (Some n) t at =
        then-leads On On (sure FewerTurns (turns_taken t + 1 == n) t) (λ _. count_turn 0)
        (sure-leads Stays FewerTurns (turns_taken t + 1 == n) t at) (λ _ u on. counted 0 u on)

    get_all-stays : (rs : List VReg) (t : State) → Stays t → Leads On (get_all rs t)
    get_all-stays [] t at = at
    get_all-stays (r ∷ rs) t at =
        then-leads On On (get r t) (λ v. in_turn (get_all rs) (λ vs. giving (v ∷ vs))) (get-stays r t at)
        (λ v u on. then-leads On On (get_all rs u) (λ vs. giving (v ∷ vs)) (get_all-stays rs u on) (λ vs w on. on))

    get_option-stays : (o : Option VReg) (t : State) → Stays t → Leads On (get_option o t)
    get_option-stays None t at = at
    get_option-stays (Some r) t at =
        then-leads On On (get r t) (λ v. giving (Some v)) (get-stays r t at) (λ v u on. on)

    -- ---- ways

    goes-to : (l : Label) (t : State) → Stays t → Leads Kept (go_to q l t)
    goes-to l t at = record {
      frame = λ inner. absurd (true≢false (sym inner ∙ label-outer (ops q t.frame.function) l.0));
      callers = subst CallersHold (sym at.callers) holds.callers;
    }

    branches : writes k ≡ None → (turns : Option ℕ) (l : Label) (b : Bool) (t : State) → Stays t → Leads Kept (branch q turns l b t)
    branches none turns l true t at =
        then-leads On Kept (taking turns t) (λ _. go_to q l) (taking-stays turns t at) (λ _ u on. goes-to l u on)
    branches none turns l false t at =
        then-leads On Kept (passing turns t) (λ _. onwards) (passing-stays turns t at) (λ _ u at. on none u at)

    calls : (n : ℕ) (vs : List ℕ) (to : Option VReg) → writes k ≡ to → number_of k ≡ None → (t : State) → Stays t
        → Leads Kept (call n vs to t)
    calls n vs to is none t at = record {
      frame = λ inner r v known. absurd (none-before (ops q n) r v known);
      callers = (
        λ r v was.
            let seen = sym (ap (λ g. known (before (ops q g) (t.frame.place + 1)) r) at.function ∙
            ap (λ y. known (before (ops q f) (y + 1)) r) at.place) ∙ was in
            let parts = by r v (behind-here r v seen) in
            (parts.0, parts.1 ∙ ap (λ g. Some (cut (widths g) r v)) (sym at.function)),
        subst CallersHold (sym at.callers) holds.callers,
      );
    }
      where
        by : (r v : ℕ) → Behind k (before (ops q f) x) r v
            → (is_result r to ≡ false) × (t.frame.registers r ≡ Some (cut (widths f) r v))
        by r v (inl (wrote, seen)) = absurd (never (sym none ∙ seen))
          where
            never : None ≡ Some v → ⊥
            never e = cc
        by r v (inr (off, was, inner)) =
            (ap (is_result r) (sym is) ∙ off, ap (λ rs. rs r) at.registers ∙ held-before r v was inner)

    -- ---- what it does

    after : {A : Type 0} (r : Ran Wild State A) (g : A → Does (Unit {0})) → Leads On r
        → ((v : A) (t : State) → Stays t → Leads Kept (g v t)) → Leads Kept (and_then r g)
    after r g first on = then-leads On Kept r g first on

    does : (j : OpKind) → writes k ≡ writes j → number_of k ≡ number_of j → Leads Kept (effect q a j s)
    does (op.Constant to n) w m = sets-constant to n w m s stays
    does (op.Address to object offset) w m = sets to w m (slice_index a object + offset) s stays
    does (op.Copy to from) w m = after (get from s) _ (get-stays from s stays) (λ v u at. sets to w m v u at)
    does (op.Unary o to from) w m =
        after (get from s) _ (get-stays from s stays) (λ v u at. sets to w m (unary_value o v) u at)
    does (op.Binary o to left right) w m =
        after (get left s) _ (get-stays left s stays) (λ v u at.
        after (value right u) _ (value-stays right u at) (λ n y at. sets to w m (binary_value o v n) y at))
    does (op.Widen to from) w m =
        after (get from s) _ (get-stays from s stays)
        (λ v u at. sets to w m (wrap_signed B4 (sext (width_of q u from) v)) u at)
    does (op.Load to b offset) w m =
        after (plain_address a b offset s) _ (address-stays b offset s stays) (λ from u at.
        after (load a q.objects (width_of q u to) from u) _ (load-stays (width_of q u to) from u at) (λ v y at. sets to w m v y at))
    does (op.Store b offset from width) w m =
        after (plain_address a b offset s) _ (address-stays b offset s stays) (λ to u at.
        after (get from u) _ (get-stays from u at) (λ v y at.
        after (store a q.objects to (little_bytes (byte_count width) v) y) _ (store-stays to (little_bytes (byte_count width) v) y at)
        (λ _ z at. on w z at)))
    does (op.Zero object offset bytes) w m =
        after (store a q.objects (slice_index a object + offset) (replicate bytes 0) s) _
        (store-stays (slice_index a object + offset) (replicate bytes 0) s stays) (λ _ z at. on w z at)
    does (op.Read to b offset own) w m =
        after (volatile_address b offset s) _ (volatile-stays b offset s stays) (λ from u at.
        after (allowed own (width_of q u to) from u) _ (allowed-stays own (width_of q u to) from u at) (λ _ y at.
        after (read (place.Addr from) (width_of q u to) y) _ (read-stays (place.Addr from) (width_of q u to) y at)
        (λ v z at. sets to w m v z at)))
    does (op.Write b offset from width own) w m =
        after (volatile_address b offset s) _ (volatile-stays b offset s stays) (λ to u at.
        after (get from u) _ (get-stays from u at) (λ v y at.
        after (allowed own width to y) _ (allowed-stays own width to y at)
        (λ _ z at. on w _ (show-stays (event.Write (place.Addr to) width (wrap width v)) z at))))
    does (op.ReadRegister to register) w m =
        after (read (core_place register) B4 s) _ (read-stays (core_place register) B4 s stays) (λ v u at. sets to w m v u at)
    does (op.WriteRegister register from) w m =
        after (get from s) _ (get-stays from s stays)
        (λ v u at. on w _ (show-stays (event.Write (core_place register) B4 v) u at))
    does (op.ReadPad to bank register) w m =
        after (read (place.Pad bank register) B4 s) _ (read-stays (place.Pad bank register) B4 s stays) (λ v u at. sets to w m v u at)
    does (op.WritePad bank register from) w m =
        after (get from s) _ (get-stays from s stays)
        (λ v u at. on w _ (show-stays (event.Write (place.Pad bank register) B4 v) u at))
    does (op.Call function arguments to) w m =
        after (get_all (listed arguments) s) _ (get_all-stays (listed arguments) s stays)
        (λ vs u at. calls function vs to w m u at)
    does (op.Return r) w m =
        after (get_option r s) _ (get_option-stays r s stays)
        (λ v u at. returns v u.callers u (subst CallersHold (sym at.callers) holds.callers))
    does (op.Label l) w m = on w s stays
    does (op.Jump l) w m = goes-to l s stays
    does (op.Branch left test right to turns) w m =
        after (get left s) _ (get-stays left s stays) (λ v u at. branches w turns to (is_met test v right) u at)
    does (op.Mark (mark.Enter region)) w m = on w _ (show-stays (event.Enter region) s stays)
    does (op.Mark (mark.Leave region)) w m = on w _ (show-stays (event.Leave region) s stays)
    does (op.Delay n) w m = on w _ (show-stays (event.DelayOut n) _ (show-stays (event.DelayIn n) s stays))
    does op.Halt w m = tt

  -- ---- a step

  performed-holds : (a : List ℕ) (o : Option OpKind) (s : State) → slice_get (ops q s.frame.function) s.frame.place ≡ o → Holds s
      → Leads Kept (performed q a o s)
  performed-holds a None s here holds = tt
  performed-holds a (Some k) s here holds =
      does a k (charged k s) here (record { frame = holds.frame; callers = holds.callers }) k refl refl

  step-holds : (a : List ℕ) (s : State) → Holds s → Leads Kept (step q a s)
  unfolding step
  step-holds a s holds = performed-holds a (slice_get (running q s) s.frame.place) s refl holds

  pub kept : (a : List ℕ) → IsKept q a Holds
  kept a = record {
    first = λ values. starts a values;
    next = λ s t holds is. led Kept (step q a s) tt t (step-holds a s holds) is;
  }
