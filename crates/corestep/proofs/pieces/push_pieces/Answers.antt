use Rattle.std.proofs.Common.{◌≡◌, ◌++◌, ◌≤◌, List, length, ap, ◌∙◌, arith, length-append}
use Rattle.prutrace.specs.declared.event.Event.{Event}
use Rattle.corestep.specs.Pieces.{access_events}
use Rattle.corestep.proofs.PieceLemmas.{few_events, pieces_turn}
use Rattle.corestep.proofs.pieces.push_pieces.Goals as goal

pub loop-rest-preserved : goal.loop-rest-preserved
loop-rest-preserved c =
    let shown : List Event = access_events c.args.store c.args.addr c.args.bytes.now in
    let all : List Event = c.args.events.now ++ shown in
    let fits : length all ≤ 40 = omega (arith, length-append c.args.events.now shown, c.requires) in
    pieces_turn c.args.store c.loop-rest.at c.loop-rest.events c.push_four.new.events all c.loop-rest.rest.now c.split_at.result.0.now
    c.split_at.result.1.now
    c.loop-rest-test.true c.split_at.ensures.front c.split_at.ensures.back c.push_four.ensures c.loop-rest.invariant.0 fits

pub returns-clause-few : goal.returns-clause-few
returns-clause-few c =
    let shown : List Event = access_events c.args.store c.args.addr c.args.bytes.now in
    let whole : c.push_last.new.events ≡ c.args.events.now ++ shown = c.push_last.ensures ∙ c.loop-rest.invariant.0 in
    omega (arith, ap length whole, length-append c.args.events.now shown, few_events c.args.store c.args.addr c.args.bytes.now)
