-- Each step keeps what stands; in the end it stands for all steps.
use Rattle.std.proofs.Common.{◌≡◌, length, sym, ◌∙◌, arith}
use Rattle.loopbound.specs.declared.graph.Side.TheVariants.{Least, Most}
use Rattle.loopbound.specs.declared.onepass.Passed.{Passed}
use Rattle.loopbound.specs.declared.onepass.Passed.TheVariants.{Exact, Disordered}
use Rattle.loopbound.specs.Table.{label_in}
use Rattle.loopbound.proofs.PassLemmas.{taken_at, at_end, whole_fits, whole_tight}
use Rattle.loopbound.proofs.onepass.pass.Goals as goal

pub loop-step-preserved : goal.loop-step-preserved
loop-step-preserved c =
    let now = c.loop-step.invariant in
    let step = c.take_step.ensures in
    record {
      same = step.shapes ∙ now.same;
      len = step.len ∙ now.len;
      made = λ ready.
          taken_at c.args.steps.now c.args.entry c.loop-step.step-index
          (record { from = 0; to = 0; cost = record { least = 0; most = 0 } })
          c.args.loops.now c.loop-step.loops c.take_step.new.loops c.args.labels.now c.loop-step.labels c.take_step.new.labels
          c.loop-step-test.true now.same now.len (step.taken c.if-not-take_step.false) ready (now.made ready);
    }

pub returns-clause-ordered : goal.returns-clause-ordered
returns-clause-ordered c =
    λ ready disordered.
    let steps = c.args.steps.now in
    let loops = c.loop-step.loops in
    let labels = c.loop-step.labels in
    let last : c.loop-step.step-index ≡ length steps =
    let past = c.loop-step-test.false in let within = c.loop-step.auto.step-index-end in omega (arith, past, within) in
    let made = at_end steps loops (label_in labels) c.args.entry c.loop-step.step-index last (c.loop-step.invariant.made ready) in
    let exact = c.judged.ensures.exact (whole_fits steps loops (label_in labels) c.args.entry made.fits)
    (whole_tight steps loops (label_in labels) c.args.entry Least (made.tight Least))
    (whole_tight steps loops (label_in labels) c.args.entry Most (made.tight Most)) in
    let e : ◌≡◌ {A = Passed} Exact Disordered = sym exact ∙ disordered in cc
