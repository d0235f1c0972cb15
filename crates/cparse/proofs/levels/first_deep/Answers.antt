use Rattle.std.specs.Prelude.{unwrap_or}
use Rattle.std.proofs.Common.{◌≡◌, ◌++◌, length, replicate, vec_len, sym, ap, subst, ◌∙◌, arith}
use Rattle.cgrammar.specs.Grammar.{is_node}
use Rattle.cparse.specs.Nodes.{below}
use Rattle.cparse.proofs.Pass.{found_by, passed}
use Rattle.cparse.proofs.Step.{Pops, pops, stepped, bounded, noted, passed-by, higher}
use Rattle.cparse.proofs.Walk.{found-at-last}
use Rattle.cparse.proofs.levels.first_deep.Goals as goal
use Rattle.cparse.proofs.levels.first_deep.Goals.{then-own+then-level-eq-ALL_LEVELS, else-own}
use Rattle.cparse.proofs.levels.first_deep.Goals.{else-own-via-then-own+else-level-eq-ALL_LEVELS, else-own-via-else-own, then-own-2}
use Rattle.cparse.proofs.levels.first_deep.Goals.{else-own-2}

pub loop-entry-preserved : goal.loop-entry-preserved
loop-entry-preserved c =
    let at = c.loop-entry in
    let entry = c.in-Some.entry.now in
    let others = c.in-Some.others.now in
    let level = c.unwrap_or-level.result in
    let rest = c.pop.new.self.items in
    let after = c.push_level.new.levels.items in
    let last = c.in-Some.ensures.cases in
    let own-is : c.is_node-own.result ≡ is_node entry.production = c.is_node-own.ensures in
    let level-is : level ≡ unwrap_or c.pop.result 0 = c.unwrap_or-level.ensures in
    let pops-is : Pops at.levels.items rest level =
    subst (Pops at.levels.items rest) (sym level-is)
    (pops at.levels.items rest c.pop.result (vec_len at.levels) (vec_len c.pop.new.self) c.pop.ensures.items c.pop.new.self.ok.0
    c.pop.ensures.cases) in
    let under-is : c.if-own-2.below ≡ below (is_node entry.production) level =
    elim c.if-own-2.branch [
      | then-own-2 w ↦ w.below-is ∙ ap (λ own. below own level) (sym w.if-own-2.true ∙ own-is)
      | else-own-2 w ↦ w.below-is ∙ ap (λ own. below own level) (sym w.if-own-2.false ∙ own-is)
    ] in
    let found-is : c.if-own.found ≡ found_by (is_node entry.production) level entry.first at.found =
    elim c.if-own.branch [
      | then-own+then-level-eq-ALL_LEVELS w ↦ noted (is_node entry.production) level entry.first at.found c.if-own.found
          (sym own-is ∙ w.if-own.true) w.if-level-eq-ALL_LEVELS.true w.found-is
      | else-own w ↦ elim w.else-own.branch [
        | else-own-via-then-own+else-level-eq-ALL_LEVELS v ↦
            higher (is_node entry.production) level entry.first at.found c.if-own.found (sym own-is ∙ v.if-own.true)
            v.if-level-eq-ALL_LEVELS.false w.found-is
        | else-own-via-else-own v ↦ passed-by (is_node entry.production) level entry.first at.found c.if-own.found
            (sym own-is ∙ v.if-own.false) w.found-is
      ]
    ] in
    let pushed-is : after ≡ rest ++ replicate c.children.result c.if-own-2.below = c.in_ok-push_level.ensures in
    record {
      kept = stepped at.left.now others entry at.levels.items rest after level c.if-own-2.below c.children.result at.found c.if-own.found
          last.0 pops-is under-is found-is c.children.ensures pushed-is
          ∙ at.invariant.kept;
      within = omega arith;
      bound = bounded (length c.args.entries.now) (length at.left.now) (length others) at.levels.items rest after c.pop.result
          (is_node entry.production)
          c.if-own-2.below c.children.result at.invariant.within last.1 c.pop.ensures.items
          (under-is ∙ ap (below (is_node entry.production)) level-is) pushed-is at.invariant.bound;
    }

pub returns : goal.returns
returns c = λ written proper source.
    found-at-last c.loop-entry.left.now c.args.entries.now (passed c.loop-entry.levels.items c.loop-entry.found) written
    c.in_default.ensures.cases c.loop-entry.invariant.kept proper source
