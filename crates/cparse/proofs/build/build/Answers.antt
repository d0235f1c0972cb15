-- The builder's loop.
use Rattle.std.proofs.Common.{◌≡◌, [], ◌∷◌, None, ap, subst, arith, length, get_or}
use Rattle.cgrammar.specs.declared.production.Production.TheVariants as make
use Rattle.creader.specs.declared.reader.Entry.{Entry}
use Rattle.cparse.specs.Build as specs
use Rattle.cparse.specs.Builder.{built_of, Steps}
use Rattle.cparts.specs.Value.{bare_values}
use Rattle.cparse.proofs.Turns as turns
use Rattle.cparse.proofs.Within.{Lies}
use Rattle.cparse.proofs.build.build.Goals as goal

-- what is read where there is no production
abbrev none : Entry
none = record { production = make.Identifier; first = 0; end = 0 }

pub loop-entry-init : goal.loop-entry-init
loop-entry-init c = record {
  same = ap (λ vs. specs.build c.args.tokens.now c.args.entries.now (specs.built (bare_values vs) 0)) c.new.ensures;
  few = omega arith;
}

pub step-requires-clause-few : goal.step-requires-clause-few
step-requires-clause-few c = omega (arith, c.loop-entry.invariant.few)

-- the production at hand lies within the source
lies : (c : goal.After-step-arg-1) → Lies (length c.args.tokens.now) (get_or c.args.entries.now c.loop-entry.entry-index none)
lies c =
    let e = get_or c.args.entries.now c.loop-entry.entry-index none in
    turns.lies c.args.tokens.now c.args.entries.now c.loop-entry.entry-index e c.requires.source.0
    (turns.same-at c.args.entries.now c.loop-entry.entry-index none e c.loop-entry-test.true) c.loop-entry-test.true
    c.requires.source.1 c.requires.source.2

pub step-requires-clause-order : goal.step-requires-clause-order
step-requires-clause-order c = (lies c).order

pub step-requires-clause-within : goal.step-requires-clause-within
step-requires-clause-within c = (lies c).within

pub returns-then-not-branch : goal.returns-then-not-branch
returns-then-not-branch c = λ written value text all has.
    let e = get_or c.args.entries.now c.loop-entry.entry-index none in
    let stuck : specs.build_one c.args.tokens.now (built_of c.loop-entry.builder) e ≡ None =
    subst (λ b. Steps c.args.tokens.now e b (built_of c.loop-entry.builder) (built_of c.step.new.self)) c.if-not-branch.true
    c.in_ok-step.ensures in
    absurd (turns.never-stuck c.args.tokens.now c.args.entries.now c.loop-entry.entry-index e (built_of c.loop-entry.builder) written value
    (turns.same-at c.args.entries.now c.loop-entry.entry-index none e c.loop-entry-test.true) c.loop-entry-test.true
    stuck c.loop-entry.invariant.same text all has)

pub returns : goal.returns
returns c = λ written value text all has.
    let last = turns.at-end c.args.tokens.now c.args.entries.now c.loop-entry.entry-index (built_of c.loop-entry.builder) written value
    c.loop-entry-test.false c.loop-entry.invariant.same text all has in
    let values : bare_values c.loop-entry.builder.values ≡ value ∷ [] = ap (λ (b : specs.Built). b.values) last in (
      turns.popped c.loop-entry.builder.values c.pop_front-value.new.self c.pop_front-value.result value values
          c.pop_front-value.ensures.items
          c.pop_front-value.ensures.cases,
      ap (λ (b : specs.Built). b.nodes) last,
    )
