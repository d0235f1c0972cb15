use Rattle.std.proofs.Common.{◌≡◌, ◌≢◌, length, All}
use Rattle.cgrammar.specs.declared.kind.Kind.TheVariants as kind
use Rattle.cgrammar.specs.Kind.{kind_of}
use Rattle.creader.proofs.tests.source.Given as goal

-- a token for each word so far, and none of them is the end's
abbrev pub invariant-loop-word : goal.invariant-loop-word
invariant-loop-word l = record {
  count : length l.tokens.items ≡ l.word-index;
  none : All (λ token. kind_of token ≢ kind.End) l.tokens.items;
}
