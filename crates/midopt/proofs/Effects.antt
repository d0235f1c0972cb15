-- Operations that two programs have in common, on states that are related: what they do is alike.
use Rattle.std.proofs.Common.{◌≡◌, ℕ, ◌+◌, ◌%◌, ◌^◌, ◌≤◌, ◌==◌, inl, inr, Bool, true, false, not, List, [], ◌∷◌, ◌++◌}
use Rattle.std.proofs.Common.{length, Option, Some, None, replicate, option_to_list, ◌||◌, refl, sym, subst, ap, ◌∙◌}
use Rattle.std.proofs.Common.{slice_index, if◌then◌else◌, nat_lt}
use Rattle.std.specs.List.{list_all}
use Rattle.std.proofs.lemmas.Bool.{and_parts, not-true}
use Rattle.std.proofs.lemmas.List.Folds.{list_all-append}
use Rattle.behaviour.specs.declared.stop.Stop.TheVariants.{Ended}
use Rattle.behaviour.specs.Ran.{Done, Stopped}
use Rattle.prunum.specs.Bytes.{little_bytes, little_number}
use Rattle.prunum.specs.Number.{wrap, wrap_signed, sext}
use Rattle.prunum.specs.Width.{byte_count}
use Rattle.prunum.specs.declared.width.Width.{Width}
use Rattle.prunum.specs.declared.width.Width.TheVariants.{B4}
use Rattle.memorymap.specs.Windows.{in_own_window, in_window}
use Rattle.prutrace.specs.declared.event.Event.{Event}
use Rattle.prutrace.specs.declared.event.Event.TheVariants as event
use Rattle.prutrace.specs.declared.event.Place.{Place}
use Rattle.prutrace.specs.declared.event.Place.TheVariants as place
use Rattle.midcode.specs.declared.register.VReg.{VReg}
use Rattle.midcode.specs.declared.register.Label.{Label}
use Rattle.midcode.specs.declared.op.Base.{Base}
use Rattle.midcode.specs.declared.op.Base.TheVariants as base
use Rattle.midcode.specs.declared.op.VolatileBase.{VolatileBase}
use Rattle.midcode.specs.declared.op.VolatileBase.TheVariants as volatile
use Rattle.midcode.specs.declared.op.Operand.{Operand}
use Rattle.midcode.specs.declared.op.Operand.TheVariants as operand
use Rattle.midcode.specs.declared.op.Mark.TheVariants as mark
use Rattle.midcode.specs.declared.op.OpKind.{OpKind}
use Rattle.midcode.specs.declared.op.OpKind.TheVariants as op
use Rattle.midcode.specs.Operation.{reads, base_reads, volatile_reads, operand_reads, listed}
use Rattle.midcode.specs.Value.{unary_value, binary_value}
use Rattle.midcode.specs.Function.{size_at}
use Rattle.midcode.specs.Program.{Program}
use Rattle.midcode.specs.Machine.{Misaligned, OutsideWindows, NotOwn, OutsideObjects, MoreTurns, FewerTurns, Frame, Caller, State, Does}
use Rattle.midcode.specs.Machine.{giving, with_state, in_turn, sure, known, get, with_register, onwards, are_in_objects}
use Rattle.midcode.specs.Machine.{bytes_at, stored, load, store, show, read_from, read, allowed}
use Rattle.midcode.specs.Meaning.{function_at, kinds_of_function, registers_of, running, width_of_size, width_of, set, value, plain_address}
use Rattle.midcode.specs.Meaning.{volatile_address, core_place, is_met, standing_at}
use Rattle.midcode.specs.Meaning.{go_to, with_taken, turns_taken, count_turn, taking, passing}
use Rattle.midcode.specs.Meaning.{branch, get_all, call, get_option, hand_over, halt, back_to, return_to, effect}
use Rattle.midopt.proofs.Alike.{Shown, Alike, then-alike, sure-alike}

-- Where the operations of the old program stand in the new one, by function and place; which have no counterpart; and which registers
-- of a function are read by no operation.
pub record Places : Type 0 where
  pub moved : ℕ → ℕ → ℕ
  pub gone : ℕ → ℕ → Bool
  pub unread : ℕ → ℕ → Bool

module _ (e : Places) where
  -- Both stand before the same operation, the old one at place x of function f.
  pub record FrameAt (f x : ℕ) (s t : Frame) : Type 0 where
    pub old_function : s.function ≡ f
    pub old_place : s.place ≡ x
    pub function : t.function ≡ f
    pub place : t.place ≡ e.moved f x
    pub registers : (r : ℕ) → e.unread f r ≡ false → t.registers r ≡ s.registers r
    pub taken : (y : ℕ) → e.gone f y ≡ false → t.taken (e.moved f y) ≡ s.taken y

  pub record CallerAt (c d : Caller) : Type 0 where
    pub function : ℕ
    pub place : ℕ
    pub frame : FrameAt function place c.frame d.frame
    pub to : d.to ≡ c.to
    pub kept : e.gone function place ≡ false

  abbrev pub AreCallers : List Caller → List Caller → Type 0
  AreCallers [] [] = Unit {0}
  AreCallers (c ∷ cs) (d ∷ ds) = CallerAt c d × AreCallers cs ds
  AreCallers _ _ = ⊥

  pub record LikeAt (f x : ℕ) (s t : State) : Type 0 where
    pub frame : FrameAt f x s.frame t.frame
    pub callers : AreCallers s.callers t.callers
    pub memory : t.memory ≡ s.memory
    pub values : t.values ≡ s.values
    pub events : t.events ≡ s.events
    pub charge : t.charge ≤ s.charge

  abbrev pub Like : State → State → Type 0
  Like s t = (f : ℕ) × (x : ℕ) × LikeAt f x s t

  pub shown-of : (f x : ℕ) (s t : State) → LikeAt f x s t → Shown s t
  shown-of f x s t at = record { events = at.events; values = at.values; charge = at.charge }

abbrev pub ops : Program → ℕ → List OpKind
ops p f = kinds_of_function (function_at p f)

-- what the places owe to the two programs
pub record IsEdit (q p : Program) (e : Places) : Type 0 where
  pub widths : (f : ℕ) → registers_of (function_at p f) ≡ registers_of (function_at q f)
  pub objects : p.objects ≡ q.objects
  pub starts : (f : ℕ) → e.moved f 0 ≡ 0
  pub labels : (f l : ℕ) → standing_at (ops p f) l ≡ e.moved f (standing_at (ops q f) l)
  pub next : (f x : ℕ) → e.gone f x ≡ false → e.moved f (x + 1) ≡ e.moved f x + 1
  pub apart : (f x y : ℕ) → e.gone f x ≡ false → e.gone f y ≡ false → (e.moved f y == e.moved f x) ≡ (y == x)

module _ (q p : Program) (a : List ℕ) (e : Places) (edit : IsEdit q p e) where
  module _ (f x : ℕ) (kept : e.gone f x ≡ false) where
    abbrev At : State → State → Type 0
    At = LikeAt e f x

    abbrev is_seen : VReg → Bool
    is_seen r = not (e.unread f r.0)

    -- ---- registers

    known-alike : (o o' : Option ℕ) (s t : State) → o' ≡ o → At s t → Alike At (known o s) (known o' t)
    known-alike o o' s t is at = subst (λ z. Alike At (known o s) (known z t)) (sym is) (here o)
      where
        here : (o : Option ℕ) → Alike At (known o s) (known o t)
        here None = inl refl
        here (Some v) = inr (refl, at)

    get-alike : (r : VReg) (s t : State) → is_seen r ≡ true → At s t → Alike At (get r s) (get r t)
    get-alike r s t seen at =
        known-alike (s.frame.registers r.0) (t.frame.registers r.0) s t (at.frame.registers r.0 (not-true (e.unread f r.0) seen)) at

    after-get : {B : Type 0} (R : State → State → Type 0) (r : VReg) → is_seen r ≡ true → (g h : ℕ → Does B)
        → ((v : ℕ) (s t : State) → At s t → Alike R (g v s) (h v t))
        → (s t : State) → At s t → Alike R (in_turn (get r) g s) (in_turn (get r) h t)
    after-get R r seen g h on s t at = then-alike At R (get r s) (get r t) g h (get-alike r s t seen at) on

    width-same : (r : VReg) (s t : State) → At s t → width_of p t r ≡ width_of q s r
    width-same r s t at =
        ap (λ n. width_of_size (size_at (registers_of (function_at p n)) r)) at.frame.function ∙
        ap (λ ws. width_of_size (size_at ws r)) (edit.widths f) ∙
        ap (λ n. width_of_size (size_at (registers_of (function_at q n)) r)) (sym at.frame.old_function)

    put-at : (r : VReg) (v v' : ℕ) (s t : State) → v' ≡ v → At s t
        → At (record s { frame = record s.frame { registers = with_register s.frame.registers r.0 v } })
        (record t { frame = record t.frame { registers = with_register t.frame.registers r.0 v' } })
    put-at r v v' s t is at = record {
      frame = record {
        old_function = at.frame.old_function;
        old_place = at.frame.old_place;
        function = at.frame.function;
        place = at.frame.place;
        registers = λ n seen.
            ap (λ z. if n == r.0 then Some z else t.frame.registers n) is ∙
            ap (λ z. if n == r.0 then Some v else z) (at.frame.registers n seen);
        taken = at.frame.taken;
      };
      callers = at.callers;
      memory = at.memory;
      values = at.values;
      events = at.events;
      charge = at.charge;
    }

    -- numbers that are the same cut to the register
    set-cut : (r : VReg) (v v' : ℕ) (s t : State) → wrap (width_of q s r) v' ≡ wrap (width_of q s r) v → At s t
        → Alike At (set q r v s) (set p r v' t)
    set-cut r v v' s t is at =
        inr (
          refl,
          put-at r (wrap (width_of q s r) v) (wrap (width_of p t r) v') s t (ap (λ w. wrap w v') (width-same r s t at) ∙ is) at,
        )

    pub set-alike : (r : VReg) (v v' : ℕ) (s t : State) → v' ≡ v → At s t → Alike At (set q r v s) (set p r v' t)
    set-alike r v v' s t is at = set-cut r v v' s t (ap (wrap (width_of q s r)) is) at

    -- ---- places

    placed-at : (y z : ℕ) (s t : State) → At s t → z ≡ e.moved f y
        → LikeAt e f y (record s { frame = record s.frame { place = y } }) (record t { frame = record t.frame { place = z } })
    placed-at y z s t at to = record {
      frame = record {
        old_function = at.frame.old_function;
        old_place = refl;
        function = at.frame.function;
        place = to;
        registers = at.frame.registers;
        taken = at.frame.taken;
      };
      callers = at.callers;
      memory = at.memory;
      values = at.values;
      events = at.events;
      charge = at.charge;
    }

    pub onwards-alike : (s t : State) → At s t → Alike (Like e) (onwards s) (onwards t)
    onwards-alike s t at =
        inr (
          refl,
          (
            f,
            s.frame.place + 1,
            placed-at (s.frame.place + 1) (t.frame.place + 1) s t at
                (ap (λ n. n + 1) at.frame.place ∙ sym (edit.next f x kept) ∙ ap (λ n. e.moved f (n + 1)) (sym at.frame.old_place)),
          ),
        )

    pub set-cut-on : (r : VReg) (v v' : ℕ) (s t : State) → wrap (width_of q s r) v' ≡ wrap (width_of q s r) v → At s t
        → Alike (Like e) (in_turn (set q r v) (λ _. onwards) s) (in_turn (set p r v') (λ _. onwards) t)
    set-cut-on r v v' s t is at =
        then-alike At (Like e) (set q r v s) (set p r v' t) (λ _. onwards) (λ _. onwards) (set-cut r v v' s t is at) (λ _. onwards-alike)

    pub set-on : (r : VReg) (v v' : ℕ) (s t : State) → v' ≡ v → At s t
        → Alike (Like e) (in_turn (set q r v) (λ _. onwards) s) (in_turn (set p r v') (λ _. onwards) t)
    set-on r v v' s t is at =
        then-alike At (Like e) (set q r v s) (set p r v' t) (λ _. onwards) (λ _. onwards) (set-alike r v v' s t is at) (λ _. onwards-alike)

    running-same : (s t : State) → At s t → (l : ℕ) → standing_at (running p t) l ≡ e.moved f (standing_at (running q s) l)
    running-same s t at l =
        ap (λ n. standing_at (ops p n) l) at.frame.function ∙ edit.labels f l ∙
        ap (λ n. e.moved f (standing_at (ops q n) l)) (sym at.frame.old_function)

    go-alike : (l : Label) (s t : State) → At s t → Alike (Like e) (go_to q l s) (go_to p l t)
    go-alike l s t at =
        inr (
          refl,
          (
            f,
            standing_at (running q s) l.0,
            placed-at (standing_at (running q s) l.0) (standing_at (running p t) l.0) s t at
                (running-same s t at l.0),
          ),
        )

    -- ---- memory

    load-alike : (w w' : Width) (from : ℕ) (s t : State) → w' ≡ w → At s t
        → Alike At (load a q.objects w from s) (load a p.objects w' from t)
    load-alike w w' from s t is at = subst (λ z. Alike At (load a q.objects w from s) (load a p.objects z from t)) (sym is) here
      where
        here : Alike At (load a q.objects w from s) (load a p.objects w from t)
        here =
            then-alike At At (sure OutsideObjects (are_in_objects a q.objects from (byte_count w)) s)
            (sure OutsideObjects (are_in_objects a p.objects from (byte_count w)) t)
            (λ _ s. Done (little_number (byte_count w) (bytes_at s.memory from (byte_count w))) s)
            (λ _ s. Done (little_number (byte_count w) (bytes_at s.memory from (byte_count w))) s)
            (sure-alike At OutsideObjects _ _ s t (ap (λ os. are_in_objects a os from (byte_count w)) edit.objects) at)
            (λ _ s t at. inr (ap (λ m. little_number (byte_count w) (bytes_at m from (byte_count w))) (sym at.memory), at))

    store-alike : (from : ℕ) (bytes : List ℕ) (s t : State) → At s t
        → Alike At (store a q.objects from bytes s) (store a p.objects from bytes t)
    store-alike from bytes s t at =
        then-alike At At (sure OutsideObjects (are_in_objects a q.objects from (length bytes)) s)
        (sure OutsideObjects (are_in_objects a p.objects from (length bytes)) t)
        (λ _ s. Done tt (record s { memory = stored s.memory from bytes }))
        (λ _ s. Done tt (record s { memory = stored s.memory from bytes }))
        (sure-alike At OutsideObjects _ _ s t (ap (λ os. are_in_objects a os from (length bytes)) edit.objects) at)
        (λ _ s t at. inr (
          refl,
          record {
            frame = at.frame;
            callers = at.callers;
            memory = ap (λ m. stored m from bytes) at.memory;
            values = at.values;
            events = at.events;
            charge = at.charge;
          },
        ))

    -- ---- events

    show-alike : (v : Event) (s t : State) → At s t → Alike At (show v s) (show v t)
    show-alike v s t at = inr (
      refl,
      record {
        frame = at.frame;
        callers = at.callers;
        memory = at.memory;
        values = at.values;
        events = ap (λ es. es ++ v ∷ []) at.events;
        charge = at.charge;
      },
    )

    after-show : {B : Type 0} (R : State → State → Type 0) (v : Event) (g h : Does B)
        → ((s t : State) → At s t → Alike R (g s) (h t))
        → (s t : State) → At s t → Alike R (in_turn (show v) (λ _. g) s) (in_turn (show v) (λ _. h) t)
    after-show R v g h on s t at = then-alike At R (show v s) (show v t) (λ _. g) (λ _. h) (show-alike v s t at) (λ _. on)

    read-alike : (at_place : Place) (w w' : Width) (s t : State) → w' ≡ w → At s t → Alike At (read at_place w s) (read at_place w' t)
    read-alike pl w w' s t is at =
        subst (λ z. Alike At (read pl w s) (read pl z t)) (sym is)
        (subst (λ vs. Alike At (read pl w s) (read_from pl w vs t)) (sym at.values) (here s.values))
      where
        here : (vs : List ℕ) → Alike At (read_from pl w vs s) (read_from pl w vs t)
        here [] = inr (refl, shown-of e f x s t at)
        here (v ∷ vs) = inr (
          refl,
          record {
            frame = at.frame;
            callers = at.callers;
            memory = at.memory;
            values = refl;
            events = ap (λ es. es ++ event.Read pl w (wrap w v) ∷ []) at.events;
            charge = at.charge;
          },
        )

    allowed-alike : (own : Bool) (w w' : Width) (to : ℕ) (s t : State) → w' ≡ w → At s t
        → Alike At (allowed own w to s) (allowed own w' to t)
    allowed-alike own w w' to s t is at =
        subst (λ z. Alike At (allowed own w to s) (allowed own z to t)) (sym is)
        (then-alike At At (sure Misaligned (to % byte_count w == 0) s) (sure Misaligned (to % byte_count w == 0) t) _ _
        (sure-alike At Misaligned _ _ s t refl at)
        (λ _ s t at. then-alike At At (sure OutsideWindows (in_window to) s) (sure OutsideWindows (in_window to) t)
        (λ _. sure NotOwn (not own || in_own_window to)) (λ _. sure NotOwn (not own || in_own_window to))
        (sure-alike At OutsideWindows _ _ s t refl at)
        (λ _ s t at. sure-alike At NotOwn _ _ s t refl at)))

    -- ---- turns

    taken-same : (s t : State) → At s t → turns_taken t ≡ turns_taken s
    taken-same s t at =
        ap t.frame.taken at.frame.place ∙ at.frame.taken x kept ∙ ap s.frame.taken (sym at.frame.old_place)

    counted-at : (n n' : ℕ) (s t : State) → n' ≡ n → At s t
        → At (record s { frame = record s.frame { taken = with_taken s.frame.taken s.frame.place n } })
        (record t { frame = record t.frame { taken = with_taken t.frame.taken t.frame.place n' } })
    counted-at n n' s t is at = record {
      frame = record {
        old_function = at.frame.old_function;
        old_place = at.frame.old_place;
        function = at.frame.function;
        place = at.frame.place;
        registers = at.frame.registers;
        taken = λ y stays.
            ap (λ z. if e.moved f y == z then n' else t.frame.taken (e.moved f y)) at.frame.place ∙
            ap (λ b. if b then n' else t.frame.taken (e.moved f y)) (edit.apart f x y kept stays) ∙
            ap (λ z. if y == z then n' else t.frame.taken (e.moved f y)) (sym at.frame.old_place) ∙
            ap (λ z. if y == s.frame.place then z else t.frame.taken (e.moved f y)) is ∙
            ap (λ z. if y == s.frame.place then n else z) (at.frame.taken y stays);
      };
      callers = at.callers;
      memory = at.memory;
      values = at.values;
      events = at.events;
      charge = at.charge;
    }

    taking-alike : (turns : Option ℕ) (s t : State) → At s t → Alike At (taking turns s) (taking turns t)
    taking-alike None s t at = inr (refl, at)
    taking-alike (Some n) s t at =
        then-alike At At (sure MoreTurns (nat_lt (turns_taken s + 1) n) s) (sure MoreTurns (nat_lt (turns_taken t + 1) n) t)
        (λ _. count_turn (turns_taken s + 1)) (λ _. count_turn (turns_taken t + 1))
        (sure-alike At MoreTurns _ _ s t (ap (λ m. nat_lt (m + 1) n) (taken-same s t at)) at)
        (λ _ s' t' at'. inr (refl, counted-at (turns_taken s + 1) (turns_taken t + 1) s' t' (ap (λ m. m + 1) (taken-same s t at)) at'))

    passing-alike : (turns : Option ℕ) (s t : State) → At s t → Alike At (passing turns s) (passing turns t)
    passing-alike None s t at = inr (refl, at)
    passing-alike (Some n) s t at =
        then-alike At At (sure FewerTurns (turns_taken s + 1 == n) s) (sure FewerTurns (turns_taken t + 1 == n) t)
        (λ _. count_turn 0) (λ _. count_turn 0)
        (sure-alike At FewerTurns _ _ s t (ap (λ m. m + 1 == n) (taken-same s t at)) at)
        (λ _ s' t' at'. inr (refl, counted-at 0 0 s' t' refl at'))

    branch-alike : (turns : Option ℕ) (l : Label) (b : Bool) (s t : State) → At s t
        → Alike (Like e) (branch q turns l b s) (branch p turns l b t)
    branch-alike turns l true s t at =
        then-alike At (Like e) (taking turns s) (taking turns t) (λ _. go_to q l) (λ _. go_to p l)
        (taking-alike turns s t at) (λ _. go-alike l)
    branch-alike turns l false s t at =
        then-alike At (Like e) (passing turns s) (passing turns t) (λ _. onwards) (λ _. onwards) (passing-alike turns s t at)
        (λ _. onwards-alike)

    -- ---- calls

    get_all-alike : (rs : List VReg) → list_all is_seen rs ≡ true → (s t : State) → At s t → Alike At (get_all rs s) (get_all rs t)
    get_all-alike [] h s t at = inr (refl, at)
    get_all-alike (r ∷ rs) h s t at =
        let parts = and_parts (is_seen r) (list_all is_seen rs) h in
        after-get At r parts.0 (λ v. in_turn (get_all rs) (λ vs. giving (v ∷ vs))) (λ v. in_turn (get_all rs) (λ vs. giving (v ∷ vs)))
        (λ v s t at. then-alike At At (get_all rs s) (get_all rs t) (λ vs. giving (v ∷ vs)) (λ vs. giving (v ∷ vs))
        (get_all-alike rs parts.1 s t at) (λ vs s t at. inr (refl, at))) s t at

    call-alike : (n : ℕ) (vs : List ℕ) (to : Option VReg) (s t : State) → At s t → Alike (Like e) (call n vs to s) (call n vs to t)
    call-alike n vs to s t at = inr (
      refl,
      (
        n,
        0,
        record {
          frame = record {
            old_function = refl;
            old_place = refl;
            function = refl;
            place = sym (edit.starts n);
            registers = λ r seen. refl;
            taken = λ y stays. refl;
          };
          callers = (record { function = f; place = x; frame = at.frame; to = refl; kept = kept }, at.callers);
          memory = at.memory;
          values = at.values;
          events = at.events;
          charge = at.charge;
        },
      ),
    )

    get_option-alike : (o : Option VReg) → list_all is_seen (option_to_list o) ≡ true → (s t : State) → At s t
        → Alike At (get_option o s) (get_option o t)
    get_option-alike None h s t at = inr (refl, at)
    get_option-alike (Some r) h s t at =
        after-get At r (and_parts (is_seen r) true h).0 (λ v. giving (Some v)) (λ v. giving (Some v)) (λ v s t at. inr (refl, at)) s t at

    halt-alike : (s t : State) → At s t → Alike (Like e) (halt s) (halt t)
    halt-alike s t at =
        after-show {B = Unit {0}} (Like e) event.Halted (λ s. Stopped Ended s) (λ s. Stopped Ended s)
        (λ s t at. inr (refl, shown-of e f x s t at)) s t at

  -- the value of a call goes to the place that waits for it
  hand-alike : (f x : ℕ) (kept : e.gone f x ≡ false) (v : Option ℕ) (to : Option VReg) (s t : State) → LikeAt e f x s t
      → Alike (Like e) (in_turn (hand_over q v to) (λ _. onwards) s) (in_turn (hand_over p v to) (λ _. onwards) t)
  hand-alike f x kept (Some v) (Some r) s t at = set-on f x kept r v v s t refl at
  hand-alike f x kept (Some v) None s t at = onwards-alike f x kept s t at
  hand-alike f x kept None (Some r) s t at = onwards-alike f x kept s t at
  hand-alike f x kept None None s t at = onwards-alike f x kept s t at

  return-alike : (f x : ℕ) → e.gone f x ≡ false → (v : Option ℕ) (cs ds : List Caller) (s t : State) → LikeAt e f x s t
      → AreCallers e cs ds → Alike (Like e) (return_to q v cs s) (return_to p v ds t)
  return-alike f x kept v [] [] s t at callers = halt-alike f x kept s t at
  return-alike f x kept v (c ∷ cs) (d ∷ ds) s t at callers =
      let top = callers.0 in
      subst (λ to. Alike (Like e) (return_to q v (c ∷ cs) s)
      (in_turn (back_to d.frame ds) (λ _. in_turn (hand_over p v to) (λ _. onwards)) t)) (sym top.to)
      (hand-alike top.function top.place top.kept v c.to (record s { frame = c.frame; callers = cs })
      (record t { frame = d.frame; callers = ds })
      (record {
        frame = top.frame;
        callers = callers.1;
        memory = at.memory;
        values = at.values;
        events = at.events;
        charge = at.charge;
      }))
  return-alike f x kept v [] (d ∷ ds) s t at callers = absurd callers
  return-alike f x kept v (c ∷ cs) [] s t at callers = absurd callers

  -- ---- operations

  module _ (f x : ℕ) (kept : e.gone f x ≡ false) where
    abbrev Here : State → State → Type 0
    Here = LikeAt e f x

    abbrev seen : VReg → Bool
    seen r = not (e.unread f r.0)

    first : (r : VReg) → list_all seen (r ∷ []) ≡ true → seen r ≡ true
    first r h = (and_parts (seen r) true h).0

    before : (rs : List VReg) (r : VReg) → list_all seen (rs ++ r ∷ []) ≡ true → (list_all seen rs ≡ true) × (seen r ≡ true)
    before rs r h =
        let parts = and_parts (list_all seen rs) (list_all seen (r ∷ [])) (sym (list_all-append seen rs (r ∷ [])) ∙ h) in
        (parts.0, first r parts.1)

    after-value : {B : Type 0} (R : State → State → Type 0) (o : Operand) → list_all seen (operand_reads o) ≡ true → (g h : ℕ → Does B)
        → ((v : ℕ) (s t : State) → Here s t → Alike R (g v s) (h v t))
        → (s t : State) → Here s t → Alike R (in_turn (value o) g s) (in_turn (value o) h t)
    after-value R (operand.Register r) own g h on s t at = after-get f x kept R r (first r own) g h on s t at
    after-value R (operand.Constant n) own g h on s t at = on n s t at

    after-address : {B : Type 0} (R : State → State → Type 0) (b : Base) (offset : ℕ) → list_all seen (base_reads b) ≡ true
        → (g h : ℕ → Does B)
        → ((v : ℕ) (s t : State) → Here s t → Alike R (g v s) (h v t))
        → (s t : State) → Here s t → Alike R (in_turn (plain_address a b offset) g s) (in_turn (plain_address a b offset) h t)
    after-address R (base.Object object) offset own g h on s t at = on (slice_index a object + offset) s t at
    after-address R (base.Register r) offset own g h on s t at =
        then-alike Here R (plain_address a (base.Register r) offset s) (plain_address a (base.Register r) offset t) g h
        (after-get f x kept Here r (first r own) (λ v. giving ((v + offset) % 2 ^ 32)) (λ v. giving ((v + offset) % 2 ^ 32))
        (λ v s t at. inr (refl, at)) s t at) on

    after-volatile : {B : Type 0} (R : State → State → Type 0) (b : VolatileBase) (offset : ℕ) → list_all seen (volatile_reads b) ≡ true
        → (g h : ℕ → Does B) → ((v : ℕ) (s t : State) → Here s t → Alike R (g v s) (h v t))
        → (s t : State) → Here s t → Alike R (in_turn (volatile_address b offset) g s) (in_turn (volatile_address b offset) h t)
    after-volatile R (volatile.Address address) offset own g h on s t at = on ((address + offset) % 2 ^ 32) s t at
    after-volatile R (volatile.Register r) offset own g h on s t at =
        then-alike Here R (volatile_address (volatile.Register r) offset s) (volatile_address (volatile.Register r) offset t) g h
        (after-get f x kept Here r (first r own) (λ v. giving ((v + offset) % 2 ^ 32)) (λ v. giving ((v + offset) % 2 ^ 32))
        (λ v s t at. inr (refl, at)) s t at) on

    -- a value that is read goes to a register
    read-on : (pl : Place) (w w' : Width) (to : VReg) (s t : State) → w' ≡ w → Here s t
        → Alike (Like e) (in_turn (read pl w) (λ v. in_turn (set q to v) (λ _. onwards)) s)
        (in_turn (read pl w') (λ v. in_turn (set p to v) (λ _. onwards)) t)
    read-on pl w w' to s t is at =
        then-alike Here (Like e) (read pl w s) (read pl w' t) (λ v. in_turn (set q to v) (λ _. onwards))
        (λ v. in_turn (set p to v) (λ _. onwards)) (read-alike f x kept pl w w' s t is at) (λ v s t at. set-on f x kept to v v s t refl at)

    -- What both do is alike, where the operation reads only registers that are the same.
    pub effect-alike : (k : OpKind) → list_all seen (reads k) ≡ true → (s t : State) → Here s t
        → Alike (Like e) (effect q a k s) (effect p a k t)
    effect-alike (op.Constant to n) own s t at = set-on f x kept to n n s t refl at
    effect-alike (op.Address to object offset) own s t at = set-on f x kept to _ _ s t refl at
    effect-alike (op.Copy to from) own s t at =
        after-get f x kept (Like e) from (first from own) (λ v. in_turn (set q to v) (λ _. onwards))
        (λ v. in_turn (set p to v) (λ _. onwards))
        (λ v s t at. set-on f x kept to v v s t refl at) s t at
    effect-alike (op.Unary o to from) own s t at =
        after-get f x kept (Like e) from (first from own) (λ v. in_turn (set q to (unary_value o v)) (λ _. onwards))
        (λ v. in_turn (set p to (unary_value o v)) (λ _. onwards)) (λ v s t at. set-on f x kept to _ _ s t refl at) s t at
    effect-alike (op.Binary o to left right) own s t at =
        let parts = and_parts (seen left) (list_all seen (operand_reads right)) own in
        after-get f x kept (Like e) left parts.0
        (λ v. in_turn (value right) (λ w. in_turn (set q to (binary_value o v w)) (λ _. onwards)))
        (λ v. in_turn (value right) (λ w. in_turn (set p to (binary_value o v w)) (λ _. onwards)))
        (λ v s t at. after-value (Like e) right parts.1 (λ w. in_turn (set q to (binary_value o v w)) (λ _. onwards))
        (λ w. in_turn (set p to (binary_value o v w)) (λ _. onwards)) (λ w s t at. set-on f x kept to _ _ s t refl at) s t at) s t at
    effect-alike (op.Widen to from) own s t at =
        after-get f x kept (Like e) from (first from own)
        (λ v. with_state (λ s. in_turn (set q to (wrap_signed B4 (sext (width_of q s from) v))) (λ _. onwards)))
        (λ v. with_state (λ s. in_turn (set p to (wrap_signed B4 (sext (width_of p s from) v))) (λ _. onwards)))
        (λ v s t at. set-on f x kept to _ _ s t (ap (λ w. wrap_signed B4 (sext w v)) (width-same f x kept from s t at)) at) s t at
    effect-alike (op.Load to b offset) own s t at =
        after-address (Like e) b offset own
        (λ from. with_state (λ s. in_turn (load a q.objects (width_of q s to) from) (λ v. in_turn (set q to v) (λ _. onwards))))
        (λ from. with_state (λ s. in_turn (load a p.objects (width_of p s to) from) (λ v. in_turn (set p to v) (λ _. onwards))))
        (λ from s t at. then-alike Here (Like e) (load a q.objects (width_of q s to) from s) (load a p.objects (width_of p t to) from t)
        (λ v. in_turn (set q to v) (λ _. onwards)) (λ v. in_turn (set p to v) (λ _. onwards))
        (load-alike f x kept (width_of q s to) (width_of p t to) from s t (width-same f x kept to s t at) at)
        (λ v s t at. set-on f x kept to v v s t refl at)) s t at
    effect-alike (op.Store b offset from width) own s t at =
        let parts = before (base_reads b) from own in
        after-address (Like e) b offset parts.0
        (λ to. in_turn (get from) (λ v. in_turn (store a q.objects to (little_bytes (byte_count width) v)) (λ _. onwards)))
        (λ to. in_turn (get from) (λ v. in_turn (store a p.objects to (little_bytes (byte_count width) v)) (λ _. onwards)))
        (λ to s t at. after-get f x kept (Like e) from parts.1
        (λ v. in_turn (store a q.objects to (little_bytes (byte_count width) v)) (λ _. onwards))
        (λ v. in_turn (store a p.objects to (little_bytes (byte_count width) v)) (λ _. onwards))
        (λ v s t at. store-on to (little_bytes (byte_count width) v) s t at) s t at) s t at
      where
        store-on : (to : ℕ) (bytes : List ℕ) (s t : State) → Here s t
            → Alike (Like e) (in_turn (store a q.objects to bytes) (λ _. onwards) s) (in_turn (store a p.objects to bytes) (λ _. onwards) t)
        store-on to bytes s t at =
            then-alike Here (Like e) (store a q.objects to bytes s) (store a p.objects to bytes t) (λ _. onwards) (λ _. onwards)
            (store-alike f x kept to bytes s t at) (λ _. onwards-alike f x kept)
    effect-alike (op.Zero object offset bytes) own s t at =
        then-alike Here (Like e) (store a q.objects (slice_index a object + offset) (replicate bytes 0) s)
        (store a p.objects (slice_index a object + offset) (replicate bytes 0) t) (λ _. onwards) (λ _. onwards)
        (store-alike f x kept (slice_index a object + offset) (replicate bytes 0) s t at) (λ _. onwards-alike f x kept)
    effect-alike (op.Read to b offset mine) own s t at =
        after-volatile (Like e) b offset own
        (λ from. with_state (λ s. in_turn (allowed mine (width_of q s to) from) (λ _.
        in_turn (read (place.Addr from) (width_of q s to)) (λ v. in_turn (set q to v) (λ _. onwards)))))
        (λ from. with_state (λ s. in_turn (allowed mine (width_of p s to) from) (λ _.
        in_turn (read (place.Addr from) (width_of p s to)) (λ v. in_turn (set p to v) (λ _. onwards)))))
        (λ from s t at. then-alike Here (Like e) (allowed mine (width_of q s to) from s) (allowed mine (width_of p t to) from t)
        (λ _. in_turn (read (place.Addr from) (width_of q s to)) (λ v. in_turn (set q to v) (λ _. onwards)))
        (λ _. in_turn (read (place.Addr from) (width_of p t to)) (λ v. in_turn (set p to v) (λ _. onwards)))
        (allowed-alike f x kept mine (width_of q s to) (width_of p t to) from s t (width-same f x kept to s t at) at)
        (λ _ s' t' at'. read-on (place.Addr from) (width_of q s to) (width_of p t to) to s' t' (width-same f x kept to s t at) at')) s t at
    effect-alike (op.Write b offset from width mine) own s t at =
        let parts = before (volatile_reads b) from own in
        after-volatile (Like e) b offset parts.0
        (λ to. in_turn (get from) (λ v.
        in_turn (allowed mine width to) (λ _. in_turn (show (event.Write (place.Addr to) width (wrap width v))) (λ _. onwards))))
        (λ to. in_turn (get from) (λ v.
        in_turn (allowed mine width to) (λ _. in_turn (show (event.Write (place.Addr to) width (wrap width v))) (λ _. onwards))))
        (λ to s t at. after-get f x kept (Like e) from parts.1
        (λ v. in_turn (allowed mine width to) (λ _. in_turn (show (event.Write (place.Addr to) width (wrap width v))) (λ _. onwards)))
        (λ v. in_turn (allowed mine width to) (λ _. in_turn (show (event.Write (place.Addr to) width (wrap width v))) (λ _. onwards)))
        (λ v s t at. then-alike Here (Like e) (allowed mine width to s) (allowed mine width to t)
        (λ _. in_turn (show (event.Write (place.Addr to) width (wrap width v))) (λ _. onwards))
        (λ _. in_turn (show (event.Write (place.Addr to) width (wrap width v))) (λ _. onwards))
        (allowed-alike f x kept mine width width to s t refl at)
        (λ _ s t at. show-on (event.Write (place.Addr to) width (wrap width v)) s t at)) s t at) s t at
      where
        show-on : (v : Event) (s t : State) → Here s t
            → Alike (Like e) (in_turn (show v) (λ _. onwards) s) (in_turn (show v) (λ _. onwards) t)
        show-on v s t at = after-show f x kept (Like e) v onwards onwards (onwards-alike f x kept) s t at
    effect-alike (op.ReadRegister to register) own s t at = read-on (core_place register) B4 B4 to s t refl at
    effect-alike (op.WriteRegister register from) own s t at =
        after-get f x kept (Like e) from (first from own) (λ v. in_turn (show (event.Write (core_place register) B4 v)) (λ _. onwards))
        (λ v. in_turn (show (event.Write (core_place register) B4 v)) (λ _. onwards))
        (λ v. after-show f x kept (Like e) (event.Write (core_place register) B4 v) onwards onwards (onwards-alike f x kept)) s t at
    effect-alike (op.ReadPad to bank register) own s t at = read-on (place.Pad bank register) B4 B4 to s t refl at
    effect-alike (op.WritePad bank register from) own s t at =
        after-get f x kept (Like e) from (first from own) (λ v. in_turn (show (event.Write (place.Pad bank register) B4 v)) (λ _. onwards))
        (λ v. in_turn (show (event.Write (place.Pad bank register) B4 v)) (λ _. onwards))
        (λ v. after-show f x kept (Like e) (event.Write (place.Pad bank register) B4 v) onwards onwards (onwards-alike f x kept)) s t at
    effect-alike (op.Call function arguments to) own s t at =
        then-alike Here (Like e) (get_all (listed arguments) s) (get_all (listed arguments) t) (λ vs. call function vs to)
        (λ vs. call function vs to) (get_all-alike f x kept (listed arguments) own s t at) (λ vs. call-alike f x kept function vs to)
    effect-alike (op.Return r) own s t at =
        then-alike Here (Like e) (get_option r s) (get_option r t) (λ v. with_state (λ s. return_to q v s.callers))
        (λ v. with_state (λ s. return_to p v s.callers)) (get_option-alike f x kept r own s t at)
        (λ v s t at. return-alike f x kept v s.callers t.callers s t at at.callers)
    effect-alike (op.Label l) own s t at = onwards-alike f x kept s t at
    effect-alike (op.Jump l) own s t at = go-alike f x kept l s t at
    effect-alike (op.Branch left test right to turns) own s t at =
        after-get f x kept (Like e) left (first left own) (λ v. branch q turns to (is_met test v right))
        (λ v. branch p turns to (is_met test v right))
        (λ v. branch-alike f x kept turns to (is_met test v right)) s t at
    effect-alike (op.Mark (mark.Enter region)) own s t at =
        after-show f x kept (Like e) (event.Enter region) onwards onwards (onwards-alike f x kept) s t at
    effect-alike (op.Mark (mark.Leave region)) own s t at =
        after-show f x kept (Like e) (event.Leave region) onwards onwards (onwards-alike f x kept) s t at
    effect-alike (op.Delay n) own s t at =
        after-show f x kept (Like e) (event.DelayIn n) (in_turn (show (event.DelayOut n)) (λ _. onwards))
        (in_turn (show (event.DelayOut n)) (λ _. onwards))
        (after-show f x kept (Like e) (event.DelayOut n) onwards onwards (onwards-alike f x kept)) s t at
    effect-alike op.Halt own s t at = halt-alike f x kept s t at
