-- Operations whose only effect is which operation is next.
use Rattle.std.proofs.Common.{◌≡◌, ℕ, ◌+◌, ◌*◌, ◌<◌, ◌≤◌, Bool, true, false, if◌then◌else◌, nat_lt, take, refl, sym, subst, ap, ◌∙◌, arith}
use Rattle.std.proofs.Common.{Some, None, slice_get}
use Rattle.std.proofs.lemmas.Bool.{ltb-true}
use Rattle.std.proofs.lemmas.Nat.{mul-le, column_fits}
use Rattle.behaviour.specs.Ran.{Done}
use Rattle.midcode.specs.declared.register.VReg.{VReg}
use Rattle.midcode.specs.declared.register.Label.{Label}
use Rattle.midcode.specs.declared.op.Test.{Test}
use Rattle.midcode.specs.declared.op.OpKind.{OpKind}
use Rattle.midcode.specs.declared.op.OpKind.TheVariants as op
use Rattle.midcode.specs.Cost.{charge}
use Rattle.midcode.specs.Function.{standing}
use Rattle.midcode.specs.Machine as machine
use Rattle.midcode.specs.Meaning.{running, is_met, standing_at, branch, effect, charged}
use Rattle.cmean.specs.State.{State}
use Rattle.lowerstate.specs.Counted.{Counted, least_of, least_at}
use Rattle.lowerstate.specs.Related.{Fixed, Call, IsCall, Point, Related}
use Rattle.lowerstate.specs.PieceLaws.{gone_to, Moved}
use Rattle.lowerstate.proofs.Laws.{runs, op-at, op-reaches, counted_to}
use Rattle.lowerstate.proofs.Numbers.{got}

late-behind : (most least more steps owed : ℕ) (b : Bool) → owed ≤ most → steps ≤ most * least + owed → (b ≡ true → 0 < more)
    → steps ≤ most * (least + more) + (if b then 0 else owed)
late-behind most least more steps owed true few late some =
    let one = some refl in
    let grown : most * least + most ≤ most * (least + more) =
    column_fits most least most (least + more) (omega (arith, one)) (omega arith) in
    omega (arith, few, late, grown)
late-behind most least more steps owed false few late some =
    let grown : most * least ≤ most * (least + more) = mul-le most least most (least + more) (omega arith) (omega arith) in
    omega (arith, late, grown)

module _ (r : Fixed) (c : Call) (call : IsCall r c) where
  module _ (x : Point) (s : State) (m : Counted) (k : OpKind) (related : Related r c x s m) (is : slice_get c.ops x.place ≡ Some k) where
    -- the instructions of the operation at the place, at the least
    least-there : least_at (running r.program m.state) m.state.frame.place (slice_get (running r.program m.state) m.state.frame.place)
        ≡ least_of (standing (take x.place c.ops)) k
    least-there =
        ap (λ ks. least_at ks m.state.frame.place (slice_get ks m.state.frame.place)) (runs r c call x s m related)
        ∙ (ap (λ n. least_at c.ops n (slice_get c.ops n)) related.place ∙ ap (λ o. least_at c.ops x.place o) is)

    pub move-does : (place hand : ℕ) → x.owed ≤ r.most
        → effect r.program r.addresses k (charged k m.state) ≡ Done tt (gone_to place (charged k m.state))
        → charge k + hand ≤ x.hand → Moved r c x k place hand s m
    move-does place hand few does paid = (
      counted_to r c call m (gone_to place (charged k m.state)),
      op-reaches r c call m k (gone_to place (charged k m.state)) (op-at r c call x s m k related is) does,
      record {
        later = related.later;
        place = refl;
        function = related.function;
        callers = related.callers;
        locals = related.locals;
        events = related.events;
        values = related.values;
        stored = related.stored;
        variables = related.variables;
        outer = related.outer;
        kept = related.kept;
        paid = let before = related.paid in omega (arith, before, paid);
        late = late-behind r.most m.least more s.steps x.owed (nat_lt 0 (least_of (standing (take x.place c.ops)) k)) few related.late
            (λ some. subst (λ n. 0 < n) (sym least-there) (ltb-true 0 (least_of (standing (take x.place c.ops)) k) some));
        left = related.left;
        done = related.done;
      },
    )
      where
        more : ℕ
        more = least_at (running r.program m.state) m.state.frame.place (slice_get (running r.program m.state) m.state.frame.place)

  module _ (x : Point) (s : State) (m : Counted) (hand : ℕ) (few : x.owed ≤ r.most) (related : Related r c x s m) where
    pub label-does : (l : Label) → slice_get c.ops x.place ≡ Some (op.Label l) → hand ≤ x.hand
        → Moved r c x (op.Label l) (x.place + 1) hand s m
    label-does l is paid =
        move-does x s m (op.Label l) related is (x.place + 1) hand few
        (ap (λ n. Done tt (gone_to (n + 1) (charged (op.Label l) m.state))) related.place) (omega (arith, paid))

    pub jump-does : (l : Label) → slice_get c.ops x.place ≡ Some (op.Jump l) → 1 + hand ≤ x.hand
        → Moved r c x (op.Jump l) (standing_at c.ops l.0) hand s m
    jump-does l is paid =
        move-does x s m (op.Jump l) related is (standing_at c.ops l.0) hand few
        (ap (λ ks. Done tt (gone_to (standing_at ks l.0) (charged (op.Jump l) m.state))) (runs r c call x s m related)) paid

    branches : (to : Label) (t : machine.State) (b : Bool) → t.frame.place ≡ x.place → running r.program t ≡ c.ops
        → branch r.program None to b t ≡ Done tt (gone_to (if b then standing_at c.ops to.0 else x.place + 1) t)
    branches to t true place runs = ap (λ ks. Done tt (gone_to (standing_at ks to.0) t)) runs
    branches to t false place runs = ap (λ n. Done tt (gone_to (n + 1) t)) place

    pub branch-does : (left : VReg) (test : Test) (v right : ℕ) (to : Label)
        → slice_get c.ops x.place ≡ Some (op.Branch left test right to None) → m.state.frame.registers left.0 ≡ Some v
        → charge (op.Branch left test right to None) + hand ≤ x.hand
        → Moved r c x (op.Branch left test right to None)
        (if is_met test v right then standing_at c.ops to.0 else x.place + 1) hand s m
    branch-does left test v right to is reg paid =
        let k : OpKind = op.Branch left test right to None in
        move-does x s m k related is (if is_met test v right then standing_at c.ops to.0 else x.place + 1) hand few
        (got (charged k m.state) left v _ reg
        ∙ branches to (charged k m.state) (is_met test v right) related.place (runs r c call x s m related)) paid
