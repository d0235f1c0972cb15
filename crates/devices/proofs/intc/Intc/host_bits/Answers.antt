use Rattle.std.proofs.Common.{◌≡◌, ℕ, ◌&&◌, eqb, ltb, get_or, sym, ap, subst, ◌∙◌, add-one, length, arith}
use Rattle.std.specs.Int.{bit_at}
use Rattle.devices.specs.Controller.{Controller}
use Rattle.devices.specs.HostBits.{is_enabled, bit_of}
use Rattle.devices.proofs.HostBitLemmas.{active_more, idle_more, Interrupts-bits, host_bits_of-bits}
use Rattle.devices.proofs.HostBitLemmas.{any_below-zero, no_bit, off_bits, all_bits}
use Rattle.devices.proofs.intc.Intc.host_bits.Goals as goal
use Rattle.devices.proofs.intc.Intc.host_bits.Goals.{then-is_active, else-is_active}

pub loop-event-init : goal.loop-event-init
loop-event-init c = λ h. rw any_below-zero (no_bit _ h)

pub loop-event-preserved : goal.loop-event-preserved
loop-event-preserved c =
    let event = c.loop-event.event in
    let now = c.args.self.now in
    elim c.if-is_active.branch [
      | then-is_active w ↦ λ h. rw (w.bits-is, add-one) (active_more now event c.loop-event.bits w.bit_behind-bits.result
          (sym c.is_active.ensures ∙ w.if-is_active.true) c.loop-event.invariant
          (subst (λ (s : Controller). (k : ℕ) → bit_at w.bit_behind-bits.result k
          ≡ bit_of (is_enabled now k && (ltb (get_or s.channels event 0) 10 && eqb
          (get_or now.hosts (get_or s.channels event 0) 0) k))) c.self.view_is w.bit_behind-bits.ensures) h)
      | else-is_active w ↦ λ h. rw (w.bits-is, add-one) (idle_more now event c.loop-event.bits
          (sym c.is_active.ensures ∙ w.if-is_active.false) c.loop-event.invariant h)
    ]

pub returns-after-loop-event-clause-value : goal.returns-after-loop-event-clause-value
returns-after-loop-event-clause-value c =
    let e = sym c.self.view_is in
    let done : c.loop-event.event ≡ 64 = omega arith in
    host_bits_of-bits c.args.self.now c.loop-event.bits (ap (λ (s : Controller). length s.hosts_on) e ∙ c.self.told.0)
    (all_bits c.args.self.now _ (ap (λ (s : Controller). s.on) e ∙ c.if-self.true) (rw done at c.loop-event.invariant))

pub returns-after-loop-event-clause-interrupts : goal.returns-after-loop-event-clause-interrupts
returns-after-loop-event-clause-interrupts c =
    let done : c.loop-event.event ≡ 64 = omega arith in
    Interrupts-bits c.args.self.now c.loop-event.bits
    (all_bits c.args.self.now _ (ap (λ (s : Controller). s.on) (sym c.self.view_is) ∙ c.if-self.true) (rw done at c.loop-event.invariant))

pub returns-else-self-clause-value : goal.returns-else-self-clause-value
returns-else-self-clause-value c =
    let e = sym c.self.view_is in
    host_bits_of-bits c.args.self.now 0 (ap (λ (s : Controller). length s.hosts_on) e ∙ c.self.told.0)
    (off_bits c.args.self.now (ap (λ (s : Controller). s.on) e ∙ c.if-self.false))
