use Rattle.std.proofs.Common.{◌≡◌, ◌<◌, ◌∙◌, sym, arith, length, get_or, false}
use Rattle.std.specs.Prelude.{slice_index}
use Rattle.std.proofs.lemmas.Bool.{false≢true}
use Rattle.std.proofs.lemmas.List.{get_or_read}
use Rattle.callcycle.proofs.Reached.{caller-within, in-none}
use Rattle.callcycle.proofs.cycle.is_in_cycle.Goals as goal

pub returns-then-number_of : goal.returns-then-number_of
returns-then-number_of c =
    let less : slice_index c.args.numbers.now c.args.call.now.callee < slice_index c.args.numbers.now c.args.caller =
    omega (arith, c.number_of.ensures, c.number_of-2.ensures, c.if-number_of.true) in (
      λ e. absurd (false≢true e),
      λ i. absurd (in-none c.args.functions.now c.args.numbers.now c.args.caller c.args.call.now c.requires.falling less i),
    )

pub index-requires : goal.index-requires
index-requires c =
    omega (
      arith,
      caller-within c.args.functions.now c.args.caller c.args.call.now c.requires.is,
      c.in_ok-reached.ensures.all,
      c.in_ok-reached.reached.ok.0,
    )

pub returns : goal.returns
returns c =
    let marks = c.in_ok-reached.reached.items in
    let inside : c.args.caller < length c.args.functions.now =
    caller-within c.args.functions.now c.args.caller c.args.call.now c.requires.is in
    let e : c.index.result.now ≡ get_or marks c.args.caller false =
    get_or_read marks c.args.caller _ (omega (arith, inside, c.in_ok-reached.ensures.all)) c.index.ensures false in (
      λ is. record { is = c.requires.is; back = c.in_ok-reached.ensures.reached c.args.caller (sym e ∙ is) },
      λ i. e ∙ c.in_ok-reached.ensures.complete c.args.caller inside i.back,
    )
