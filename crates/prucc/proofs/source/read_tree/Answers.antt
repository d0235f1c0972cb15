-- The tokens of a source expand to tokens that end once; a fault of the grammar is one of the source.
use Rattle.std.proofs.Common.{List, sym, subst}
use Rattle.std.proofs.lemmas.Result.{err_from_is_err_and}
use Rattle.csyn.specs.declared.token.Token.{Token}
use Rattle.cpre.specs.Expansion.{Expands}
use Rattle.cpre.specs.Line as line
use Rattle.creader.specs.Source.{EndsOnce}
use Rattle.cparse.specs.Parsed as parsed
use Rattle.prucc.specs.Source.{IsExpandedTo}
use Rattle.prucc.proofs.SourceParts.{grammar_broken}
use Rattle.prucc.proofs.Tokens.{written_ends, ends_once}
use Rattle.prucc.proofs.source.read_tree.Goals as goal

pub parse-requires-clause-ends : goal.parse-requires-clause-ends
parse-requires-clause-ends c =
    let written = written_ends c.in_ok-written.written.items c.args.bytes.now c.in_ok-written.ensures.spelled in
    let expanded = c.in_ok-tokens.ensures.ends (subst line.EndsOnce (sym c.deref.ensures.value) written) in
    subst EndsOnce (sym c.deref-2.ensures.value) (ends_once c.in_ok-tokens.tokens.items expanded)

pub returns-in_err-tree-clause-broken : goal.returns-in_err-tree-clause-broken
returns-in_err-tree-clause-broken c =
    let p = err_from_is_err_and c.from_residual-in_err-tree.result c.from_residual-in_err-tree.ensures.1 in
    let expanded : IsExpandedTo c.args.bytes.now c.in_ok-tokens.tokens.items =
    record {
      written = c.in_ok-written.written.items;
      spelled = c.in_ok-written.ensures.spelled;
      expands = subst (λ (ws : List Token). Expands ws c.in_ok-tokens.tokens.items) c.deref.ensures.value c.in_ok-tokens.ensures.expanded;
    }
    in
    rw (p.1, p.2) (grammar_broken c.args.bytes.now c.in_ok-tokens.tokens.items c.in_err-tree.field-0.0 expanded
    (subst (λ (ts : List Token). parsed.IsFaultOf ts c.in_err-tree.field-0.0) c.deref-2.ensures.value c.in_err-tree.ensures.broken))
