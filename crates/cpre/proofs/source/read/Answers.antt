use Rattle.std.proofs.Common.{take, drop, sym, ap, ◌∙◌, refl}
use Rattle.cpre.specs.Stated.{view}
use Rattle.cpre.proofs.Walking.{tail_of, line_fails, line_goes, plain_fails, end_answers, none_answers}
use Rattle.cpre.proofs.source.read.Goals as goal

pub returns-then-is_end-clause-exact : goal.returns-then-is_end-clause-exact
returns-then-is_end-clause-exact c =
    let l = c.loop-rest in
    end_answers c.args.tokens.now l.rest.now (view l.state) c.token-item.result c.first_unclosed-unclosed.result l.invariant.same
    l.invariant.first c.in-len1-up.len_at_least c.token-item.is
    l.state.is_included c.in_ok-finish.field-0.items (sym c.is_end.ensures ∙ c.if-is_end.true) c.in_ok-finish.ensures

pub returns-in-Err-clause-exact : goal.returns-in-Err-clause-exact
returns-in-Err-clause-exact c =
    let l = c.loop-rest in
    line_fails c.args.tokens.now l.rest.now (view l.state) c.token-item.result c.first_unclosed-unclosed.result l.invariant.same
    l.invariant.first c.in-len1-up.len_at_least c.token-item.is
    c.split_at.result.0.now c.split_at.result.1.now _ (sym c.begins.ensures ∙ c.if-begins.true)
    (c.split_at.ensures.front ∙ ap (λ n. take n (tail_of l.rest.now)) c.line_length.ensures.value)
    (c.split_at.ensures.back ∙ ap (λ n. drop n (tail_of l.rest.now)) c.line_length.ensures.value) refl
    c.in-Err.fault c.at.result c.at.ensures c.in-Err.ensures.gives

pub loop-rest-preserved-then-begins : goal.loop-rest-preserved-then-begins
loop-rest-preserved-then-begins c =
    let l = c.loop-rest in
    let k = line_goes c.args.tokens.now l.rest.now (view l.state) c.token-item.result c.first_unclosed-unclosed.result l.invariant.same
    l.invariant.first c.in-len1-up.len_at_least c.token-item.is
    c.split_at.result.0.now c.split_at.result.1.now _ (sym c.begins.ensures ∙ c.if-begins.true)
    (c.split_at.ensures.front ∙ ap (λ n. take n (tail_of l.rest.now)) c.line_length.ensures.value)
    (c.split_at.ensures.back ∙ ap (λ n. drop n (tail_of l.rest.now)) c.line_length.ensures.value) refl
    (view c.directive.new.self) c.in_default-directive.ensures.gives
    in
    record { same = k.0; settled = c.in_default-directive.ensures.settled; first = k.1 }

pub returns-in-Err-token-clause-exact : goal.returns-in-Err-token-clause-exact
returns-in-Err-token-clause-exact c =
    let l = c.loop-rest in
    plain_fails c.args.tokens.now l.rest.now (view l.state) c.token-item.result c.first_unclosed-unclosed.result l.invariant.same
    l.invariant.first c.in-len1-up.len_at_least c.token-item.is
    c.in-Err-token.fault c.at-in-Err-token.result (sym c.is_end.ensures ∙ c.if-is_end.false)
    (sym c.begins.ensures ∙ c.if-begins.false) c.at-in-Err-token.ensures c.in-Err-token.ensures.gives

pub returns-clause-exact : goal.returns-clause-exact
returns-clause-exact c =
    none_answers c.args.tokens.now c.loop-rest.rest.now (view c.loop-rest.state) c.into_made.result.items c.loop-rest.invariant.same
    c.in_default.len_below c.into_made.ensures
