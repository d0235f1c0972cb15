use Rattle.std.proofs.Common.{◌≡◌, ℕ, ◌+◌, ◌-◌, List, ◌++◌, Option, Some, None, refl, sym, ap, ◌∙◌, arith}
use Rattle.std.proofs.lemmas.Bool.{false≢true}
use Rattle.isa.specs.declared.inst.Inst.{Inst}
use Rattle.prutrace.specs.declared.event.Event.{Event}
use Rattle.prutrace.specs.declared.event.Stamped.{Stamped}
use Rattle.prucc.specs.Run.{stamped}
use Rattle.prucc.proofs.RunSteps.{Stepped, some_word, goes_on, halts}
use Rattle.prucc.proofs.run.run.Goals as goal

nothing : (i : Inst) → None ≡ Some i → ⊥
nothing i e = cc

pub returns-in_default : goal.returns-in_default
returns-in_default c = λ ks loadable code.
    let w = some_word c.args.words.now ks c.loop-time.core c.loop-time.trace.items c.loop-time.time loadable code
    (c.loop-time.invariant.shows ks loadable code) in
    absurd (nothing w.0 (c.in_default.ensures.only w.0 w.1 w.2 w.3))

-- the event stands at the word's last cycle
behind : (trace after : List Stamped) (e : Option Event) (time cost : ℕ) → after ≡ trace ++ stamped e (time + cost - 1) → cost ≡ 1
    → after ≡ trace ++ stamped e time
behind trace after e time cost is one = is ∙ ap (λ (n : ℕ). trace ++ stamped e n) (let t : time + cost - 1 ≡ time = omega arith in t)

pub returns-then-not-is_going : goal.returns-then-not-is_going
returns-then-not-is_going c =
    let step : Stepped c.args.words.now c.loop-time.core c.step-event.new.self c.in-Some.inst c.step-event.result =
    record {
      only = c.in-Some.ensures.only;
      size = c.step-event.ensures.size;
      core_is = c.step-event.ensures.core;
      out_is =
          c.step-event.ensures.out;
    } in
    halts c.args.words.now c.args.cycles c.loop-time.core c.step-event.new.self c.in-Some.inst c.step-event.result
    c.loop-time.trace.items c.loop-time.time c.loop-time.count _ c.loop-time-test.true c.loop-time.invariant step
    (λ e. false≢true (sym c.if-not-is_going.true ∙ c.is_going.ensures.1 e))
    (behind c.loop-time.trace.items c.push_event.new.trace.items c.step-event.result.event c.loop-time.time c.cost-time.result
    c.in_ok-push_event.ensures c.cost-time.ensures) refl refl

pub loop-time-preserved : goal.loop-time-preserved
loop-time-preserved c =
    let step : Stepped c.args.words.now c.loop-time.core c.step-event.new.self c.in-Some.inst c.step-event.result =
    record {
      only = c.in-Some.ensures.only;
      size = c.step-event.ensures.size;
      core_is = c.step-event.ensures.core;
      out_is =
          c.step-event.ensures.out;
    } in
    rw c.cost-time.ensures (goes_on c.args.words.now c.args.cycles c.loop-time.core c.step-event.new.self c.in-Some.inst
    c.step-event.result c.loop-time.trace.items c.push_event.new.trace.items c.loop-time.time c.loop-time.count
    c.loop-time-test.true c.loop-time.invariant step
    c.step-event.ensures.counter (c.is_going.ensures.0 c.if-not-is_going.false)
    (behind c.loop-time.trace.items c.push_event.new.trace.items c.step-event.result.event c.loop-time.time c.cost-time.result
    c.in_ok-push_event.ensures c.cost-time.ensures))
