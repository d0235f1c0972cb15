-- Operations that only compute a value which nobody reads: the old program does them, and the new one has nothing in their place.
use Rattle.std.proofs.Common.{◌≡◌, ℕ, ◌+◌, ◌%◌, ◌^◌, ◌==◌, ◌⊎◌, inl, inr, Bool, true, false, List, Option, Some, None}
use Rattle.std.proofs.Common.{refl, sym, subst, ap, ◌∙◌, slice_index, if◌then◌else◌}
use Rattle.std.proofs.lemmas.Bool.{eqb-true, true≢false, false_from_ne_true}
use Rattle.behaviour.specs.Ran.{Ran, Done, and_then}
use Rattle.prunum.specs.Bytes.{little_number}
use Rattle.prunum.specs.Number.{wrap, wrap_signed, sext}
use Rattle.prunum.specs.Width.{byte_count}
use Rattle.prunum.specs.declared.width.Width.{Width}
use Rattle.prunum.specs.declared.width.Width.TheVariants.{B4}
use Rattle.midcode.specs.declared.register.VReg.{VReg}
use Rattle.midcode.specs.declared.op.Base.{Base}
use Rattle.midcode.specs.declared.op.Base.TheVariants as base
use Rattle.midcode.specs.declared.op.Operand.{Operand}
use Rattle.midcode.specs.declared.op.Operand.TheVariants as operand
use Rattle.midcode.specs.declared.op.OpKind.{OpKind}
use Rattle.midcode.specs.declared.op.OpKind.TheVariants as op
use Rattle.midcode.specs.Operation.{is_value, writes}
use Rattle.midcode.specs.Value.{unary_value, binary_value}
use Rattle.midcode.specs.Program.{Program}
use Rattle.midcode.specs.Machine.{Wild, OutsideObjects, State, Does, in_turn, sure, known, get, with_register, onwards}
use Rattle.midcode.specs.Machine.{are_in_objects, bytes_at, load}
use Rattle.midcode.specs.Meaning.{width_of, set, value, plain_address, effect}
use Rattle.midopt.specs.Better.{is_wild}
use Rattle.midopt.proofs.Effects.{Places, LikeAt}

module _ (q : Program) (a : List ℕ) (e : Places) (f x : ℕ) (skipped : e.moved f (x + 1) ≡ e.moved f x) where
  -- The operation is wild, or the old program stands before the next one and the new one need not move.
  abbrev pub Quiet : Ran Wild State (Unit {0}) → State → Type 0
  Quiet r t = (is_wild r ≡ true) ⊎ ((s : State) × (r ≡ Done tt s) × LikeAt e f (x + 1) s t)

  known-quiet : (o : Option ℕ) (g : ℕ → Does (Unit {0})) (s t : State) → ((v : ℕ) → Quiet (g v s) t) → Quiet (and_then (known o s) g) t
  known-quiet None g s t on = inl refl
  known-quiet (Some v) g s t on = on v

  get-quiet : (r : VReg) (g : ℕ → Does (Unit {0})) (s t : State) → ((v : ℕ) → Quiet (g v s) t) → Quiet (in_turn (get r) g s) t
  get-quiet r g s t on = known-quiet (s.frame.registers r.0) g s t on

  value-quiet : (o : Operand) (g : ℕ → Does (Unit {0})) (s t : State) → ((v : ℕ) → Quiet (g v s) t) → Quiet (in_turn (value o) g s) t
  value-quiet (operand.Register r) g s t on = get-quiet r g s t on
  value-quiet (operand.Constant n) g s t on = on n

  address-quiet : (b : Base) (offset : ℕ) (g : ℕ → Does (Unit {0})) (s t : State) → ((v : ℕ) → Quiet (g v s) t)
      → Quiet (in_turn (plain_address a b offset) g s) t
  address-quiet (base.Object object) offset g s t on = on (slice_index a object + offset)
  address-quiet (base.Register r) offset g s t on = register (s.frame.registers r.0)
    where
      register : (o : Option ℕ) → Quiet (and_then (and_then (known o s) (λ v. Done ((v + offset) % 2 ^ 32))) g) t
      register None = inl refl
      register (Some v) = on ((v + offset) % 2 ^ 32)

  load-quiet : (w : Width) (from : ℕ) (g : ℕ → Does (Unit {0})) (s t : State) → ((v : ℕ) → Quiet (g v s) t)
      → Quiet (in_turn (load a q.objects w from) g s) t
  load-quiet w from g s t on = tested (are_in_objects a q.objects from (byte_count w))
    where
      tested : (b : Bool) → Quiet (and_then (and_then (sure OutsideObjects b s)
          (λ _ s. Done (little_number (byte_count w) (bytes_at s.memory from (byte_count w))) s)) g) t
      tested false = inl refl
      tested true = on (little_number (byte_count w) (bytes_at s.memory from (byte_count w)))

  module _ (s t : State) (at : LikeAt e f x s t) where
    -- a register that is read is not one that is not
    other : (to r : ℕ) → e.unread f to ≡ true → e.unread f r ≡ false → (r == to) ≡ false
    other to r un seen =
        false_from_ne_true (r == to) (λ same. true≢false (sym un ∙ ap (e.unread f) (sym (eqb-true r to same)) ∙ seen))

    pub set-quiet : (to : VReg) (v : ℕ) → e.unread f to.0 ≡ true → Quiet (in_turn (set q to v) (λ _. onwards) s) t
    set-quiet to v un = inr (
      record s {
        frame = record s.frame {
          registers = with_register s.frame.registers to.0 (wrap (width_of q s to) v);
          place = s.frame.place + 1;
        };
      },
      refl,
      record {
        frame = record {
          old_function = at.frame.old_function;
          old_place = ap (λ n. n + 1) at.frame.old_place;
          function = at.frame.function;
          place = at.frame.place ∙ sym skipped;
          registers = λ r seen. at.frame.registers r seen ∙
              ap (λ b. if b then Some (wrap (width_of q s to) v) else s.frame.registers r) (sym (other to.0 r un seen));
          taken = at.frame.taken;
        };
        callers = at.callers;
        memory = at.memory;
        values = at.values;
        events = at.events;
        charge = at.charge;
      },
    )

    -- An operation that only computes a value for a register that nobody reads.
    pub value-skipped : (k : OpKind) (to : VReg) → is_value k ≡ true → writes k ≡ Some to → e.unread f to.0 ≡ true
        → Quiet (effect q a k s) t
    value-skipped k to h is un = cases k h (λ r own. subst (λ n. e.unread f n ≡ true) (sym (same r to (own ∙ is))) un)
      where
        some-of : VReg → Option VReg → VReg
        some-of d None = d
        some-of d (Some r) = r

        same : (r to : VReg) → Some r ≡ Some to → r.0 ≡ to.0
        same r to p = ap (λ o. (some-of r o).0) p

        cases : (k : OpKind) → is_value k ≡ true → ((r : VReg) → Some r ≡ writes k → e.unread f r.0 ≡ true) → Quiet (effect q a k s) t
        cases (op.Constant r n) h un = set-quiet r n (un r refl)
        cases (op.Address r object offset) h un = set-quiet r _ (un r refl)
        cases (op.Copy r from) h un = get-quiet from _ s t (λ v. set-quiet r v (un r refl))
        cases (op.Unary o r from) h un = get-quiet from _ s t (λ v. set-quiet r (unary_value o v) (un r refl))
        cases (op.Binary o r left right) h un =
            get-quiet left _ s t (λ v. value-quiet right _ s t (λ w. set-quiet r (binary_value o v w) (un r refl)))
        cases (op.Widen r from) h un =
            get-quiet from _ s t (λ v. set-quiet r (wrap_signed B4 (sext (width_of q s from) v)) (un r refl))
        cases (op.Load r b offset) h un =
            address-quiet b offset _ s t (λ from. load-quiet (width_of q s r) from _ s t (λ v. set-quiet r v (un r refl)))
        cases _ h un = cc
