use Rattle.std.proofs.Common.{◌≡◌, ◌<◌, ◌≤◌, ◌+◌, ap, subst, sym, ◌∙◌, arith}
use Rattle.std.specs.List.{AllByRecursion}
use Rattle.hostscript.specs.Acts.{IsAct}
use Rattle.twocore.specs.World.{Stage}
use Rattle.twocore.specs.Machine.{acts_at}
use Rattle.twocore.specs.Views.{Held}
use Rattle.twocore.proofs.SteadyLemmas.{acts_are, SameCounts, acted_counts, TurnedCounts, after_turn}
use Rattle.twocore.proofs.machine.Machine.cycle.Goals as goal

pub act_all-requires : goal.act_all-requires
act_all-requires c =
    let acts = c.acts_at-acts.ensures ∙ ap (acts_at c.self.inside.done) c.as_slice.ensures.acts in
    subst (AllByRecursion IsAct) (sym acts) (acts_are c.self.inside.done c.self.inside.acts c.as_slice.ensures.ranges)

pub turn-requires-clause-few : goal.turn-requires-clause-few
turn-requires-clause-few c =
    let t = ap (λ (h : Held). h.machine.done) c.self.view_is in
    let a = acted_counts (record { own = c.self.inside.zero; other = c.self.inside.one; world = c.self.inside.world })
    c.acts_at-acts.result.now (record { own = c.act_all.new.own; other = c.act_all.new.other; world = c.act_all.new.world })
    c.act_all.ensures in
    omega (arith, a.own_count, c.self.invariant.count0, c.requires.more, t)

pub turn-requires-clause-waited : goal.turn-requires-clause-waited
turn-requires-clause-waited c =
    let t = ap (λ (h : Held). h.machine.done) c.self.view_is in
    let a = acted_counts (record { own = c.self.inside.zero; other = c.self.inside.one; world = c.self.inside.world })
    c.acts_at-acts.result.now (record { own = c.act_all.new.own; other = c.act_all.new.other; world = c.act_all.new.world })
    c.act_all.ensures in
    omega (arith, a.own_waited, c.self.invariant.waited0, c.requires.more, t)

pub turn-requires-2-clause-few : goal.turn-requires-2-clause-few
turn-requires-2-clause-few c =
    let t = ap (λ (h : Held). h.machine.done) c.self.view_is in
    let a = acted_counts (record { own = c.self.inside.zero; other = c.self.inside.one; world = c.self.inside.world })
    c.acts_at-acts.result.now (record { own = c.act_all.new.own; other = c.act_all.new.other; world = c.act_all.new.world })
    c.act_all.ensures in
    let b = after_turn c.self.inside.setup0 c.self.inside.done
    (record { own = c.act_all.new.own; other = c.act_all.new.other; world = c.act_all.new.world })
    (record { own = c.turn.new.own; other = c.turn.new.other; world = c.turn.new.world }) c.turn.ensures.stage in
    omega (arith, a.other_count, b.other_count, c.self.invariant.count1, c.requires.more, t)

pub turn-requires-2-clause-waited : goal.turn-requires-2-clause-waited
turn-requires-2-clause-waited c =
    let t = ap (λ (h : Held). h.machine.done) c.self.view_is in
    let a = acted_counts (record { own = c.self.inside.zero; other = c.self.inside.one; world = c.self.inside.world })
    c.acts_at-acts.result.now (record { own = c.act_all.new.own; other = c.act_all.new.other; world = c.act_all.new.world })
    c.act_all.ensures in
    let b = after_turn c.self.inside.setup0 c.self.inside.done
    (record { own = c.act_all.new.own; other = c.act_all.new.other; world = c.act_all.new.world })
    (record { own = c.turn.new.own; other = c.turn.new.other; world = c.turn.new.world }) c.turn.ensures.stage in
    omega (arith, a.other_waited, b.other_waited, c.self.invariant.waited1, c.requires.more, t)

pub invariant_of-self : goal.invariant_of-self
invariant_of-self c =
    let t = ap (λ (h : Held). h.machine.done) c.self.view_is in
    let a = acted_counts (record { own = c.self.inside.zero; other = c.self.inside.one; world = c.self.inside.world })
    c.acts_at-acts.result.now (record { own = c.act_all.new.own; other = c.act_all.new.other; world = c.act_all.new.world })
    c.act_all.ensures in
    let b = after_turn c.self.inside.setup0 c.self.inside.done
    (record { own = c.act_all.new.own; other = c.act_all.new.other; world = c.act_all.new.world })
    (record { own = c.turn.new.own; other = c.turn.new.other; world = c.turn.new.world }) c.turn.ensures.stage in
    let d = after_turn c.self.inside.setup1 c.self.inside.done
    (record { own = c.turn.new.other; other = c.turn.new.own; world = c.turn.new.world })
    (record { own = c.turn-2.new.own; other = c.turn-2.new.other; world = c.turn-2.new.world }) c.turn-2.ensures.stage in
    record {
      first = c.self.invariant.first;
      second = c.self.invariant.second;
      few = omega (arith, c.requires.more, t);
      count0 = omega (arith, a.own_count, b.own_count, d.other_count, c.self.invariant.count0);
      count1 = omega (arith, a.other_count, b.other_count, d.own_count, c.self.invariant.count1);
      waited0 = omega (arith, a.own_waited, b.own_waited, d.other_waited, c.self.invariant.waited0);
      waited1 = omega (arith, a.other_waited, b.other_waited, d.own_waited, c.self.invariant.waited1);
    }
