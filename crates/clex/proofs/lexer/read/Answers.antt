use Rattle.std.proofs.Common.{◌-◌, List, length, take, ℕ, sym, ap, ◌∙◌, subst, arith, false-eqb}
use Rattle.csyn.specs.declared.token.Token.{Token}
use Rattle.clex.specs.declared.place.Place.{Place}
use Rattle.clex.specs.Text.{after_piece, IsFaultOf}
use Rattle.clex.proofs.Loop.{SoFar, shorter, goes_on, stops}
use Rattle.clex.proofs.lexer.read.Goals as goal

pub returns-in-Err-clause-fault : goal.returns-in-Err-clause-fault
returns-in-Err-clause-fault c =
    subst (IsFaultOf c.args.bytes.now) (sym c.at.ensures)
    (stops c.args.bytes.now c.loop-rest.rest.now c.loop-rest.place c.loop-rest.tokens.items c.in-Err.fault
    c.loop-rest.invariant.so_far (omega (arith, false-eqb _ 0 c.loop-rest-test.ensures)) c.in-Err.ensures)

pub overflow_sub-rest : goal.overflow_sub-rest
overflow_sub-rest c =
    let less = shorter c.loop-rest.rest.now c.in-Ok.found.0 c.in-Ok.found.1.now
    (omega (arith, false-eqb _ 0 c.loop-rest-test.ensures)) c.in-Ok.ensures in
    omega arith

pub loop-rest-smaller : goal.loop-rest-smaller
loop-rest-smaller c =
    shorter c.loop-rest.rest.now c.in-Ok.found.0 c.in-Ok.found.1.now (omega (arith, false-eqb _ 0 c.loop-rest-test.ensures)) c.in-Ok.ensures

pub loop-rest-preserved : goal.loop-rest-preserved
loop-rest-preserved c =
    let rest = c.loop-rest.rest.now in
    let left = c.in-Ok.found.1.now in
    let kind = c.in-Ok.found.0 in
    let place = c.loop-rest.place in
    let less = shorter rest kind left (omega (arith, false-eqb _ 0 c.loop-rest-test.ensures)) c.in-Ok.ensures in
    let next = goes_on c.args.bytes.now rest left place c.loop-rest.tokens.items kind c.loop-rest.invariant.so_far
    (omega (arith, false-eqb _ 0 c.loop-rest-test.ensures)) c.in-Ok.ensures in
    let placed = ap (λ (b : List ℕ). after_piece place (record { kind = kind; bytes = b })) (sym c.split_at.ensures.front)
    ∙ sym c.after-behind.ensures.place in
    record {
      so_far = subst (λ (p : Place). SoFar c.args.bytes.now left p c.add.new.tokens.items) placed
          (subst (λ (ts : List Token). SoFar c.args.bytes.now left
          (after_piece place (record { kind = kind; bytes = take (length rest - length left) rest })) ts)
          (sym c.in_ok-add.ensures.added) next);
      lines = omega (arith, c.loop-rest.invariant.lines, c.after-behind.ensures.line, c.split_at.ensures.front_len, less);
      columns = omega (arith, c.loop-rest.invariant.columns, c.after-behind.ensures.column, c.split_at.ensures.front_len, less);
    }
