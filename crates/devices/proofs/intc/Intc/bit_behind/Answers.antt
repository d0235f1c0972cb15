use Rattle.std.proofs.Common.{◌<◌, ◌≡◌, get_or, arith, ap, ◌∙◌}
use Rattle.devices.proofs.HostBitLemmas.{shown_bit}
use Rattle.devices.proofs.intc.Intc.bit_behind.Goals as goal

pub returns-then-self-from : goal.returns-then-self-from
returns-then-self-from c = λ h.
    let leads : c.entry_at-host.result ≡ get_or c.self.inside.hosts c.args.channel 0 =
    c.entry_at-host.ensures ∙ ap (λ k. get_or c.self.inside.hosts k 0) c.from.ensures in
    let below : c.args.channel < 10 = omega arith in
    let enabled = rw c.from-then-host-lt10.ensures at c.if-self-from.true in
    rw (← c.self.view_is) (shown_bit c.self.inside.hosts_on c.self.inside.hosts c.args.channel c.entry_at-host.result h leads below
    c.if-host-lt10.true enabled)
