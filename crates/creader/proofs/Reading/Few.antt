-- A source is made of no more productions than reading it takes steps.
use Rattle.std.specs.Prelude.{◌≡◌, ℕ, ◌+◌, ◌≤◌, Bool, true, false, List, [], ◌∷◌, ◌++◌, length, Option, Some, None, cond}
use Rattle.std.proofs.Common.{arith, sym, ap, subst, ◌∙◌, length-append}
use Rattle.csyn.specs.declared.token.Token.{Token}
use Rattle.cgrammar.specs.Kind.{kind_of}
use Rattle.cgrammar.specs.Terminal.{accepts}
use Rattle.cgrammar.specs.declared.production.Production.{Production}
use Rattle.cgrammar.specs.Grammar.{template}
use Rattle.cgrammar.specs.Text.{Written, leaf, none}
use Rattle.creader.specs.declared.part.Move.{Move}
use Rattle.creader.specs.declared.part.Move.TheVariants as move
use Rattle.creader.specs.declared.part.Symbol.{Symbol}
use Rattle.creader.specs.declared.part.Symbol.TheVariants as symbol
use Rattle.creader.specs.Entries.{entries_of}
use Rattle.creader.specs.Machine.{State, at, start, step, moved, follow_rule, gather, reduce, Reaches, here, next, count, most_steps}
use Rattle.creader.specs.Reader.{Held}
use Rattle.creader.specs.Rules.{Rule, rules, choose}
use Rattle.creader.proofs.Reading.Represents.{turned, turned-gather, entries-one}
use Rattle.creader.proofs.Reading.Reduced.{one-entry}
use Rattle.creader.proofs.Reading.Run.{Run}
use Rattle.creader.proofs.Reading.Halts.{few}

-- how many productions the values are made of
made : List Written → ℕ
made values = length (entries_of 0 (turned values none))

made-token : (token : Token) (values : List Written) → made (leaf token ∷ values) ≡ made values
unfolding made turned
made-token token values = ap length (entries-one token values)

made-reduced : (p : Production) (values : List Written) → made (reduce p values) ≡ made values + 1
unfolding made reduce turned
made-reduced p values =
    let g = gather (length (template p)) values none in
    ap length (one-entry g.1 p g.0) ∙ length-append (entries_of 0 (turned g.1 g.0)) _
    ∙ ap (λ parts. length (entries_of 0 parts) + 1) (sym (turned-gather (length (template p)) values none))

-- a step makes one at most
OneMore : List Written → Option State → Type 0
OneMore values None = Unit {0}
OneMore values (Some b) = made b.values ≤ made values + 1

one-by-move : (m : Move) (symbols : List Symbol) (values : List Written) (token : Token) (tokens : List Token)
    → OneMore values (Some (moved m symbols values token tokens))
unfolding OneMore
one-by-move move.Take symbols values token tokens = omega (arith, made-token token values)
one-by-move move.Stay symbols values token tokens = omega arith

one-by-rule : (found : Option Rule) (symbols : List Symbol) (values : List Written) (token : Token) (tokens : List Token)
    → OneMore values (follow_rule found symbols values token tokens)
unfolding OneMore
one-by-rule None symbols values token tokens = tt
one-by-rule (Some rule) symbols values token tokens = one-by-move rule.move (rule.symbols ++ symbols) values token tokens

one-by-token : (accepted : Bool) (symbols : List Symbol) (values : List Written) (token : Token) (tokens : List Token)
    → OneMore values (cond accepted (Some (at symbols (leaf token ∷ values) tokens)) None)
unfolding OneMore
one-by-token true symbols values token tokens = omega (arith, made-token token values)
one-by-token false symbols values token tokens = tt

one-more : (symbols : List Symbol) (values : List Written) (tokens : List Token) → OneMore values (step symbols values tokens)
unfolding OneMore step
one-more [] values tokens = tt
one-more (symbol.Reduce p ∷ symbols) values tokens = omega (arith, made-reduced p values)
one-more (symbol.Take t ∷ symbols) values [] = tt
one-more (symbol.Take t ∷ symbols) values (token ∷ tokens) = one-by-token (accepts t (kind_of token)) symbols values token tokens
one-more (symbol.Read part ∷ symbols) values [] = tt
one-more (symbol.Read part ∷ symbols) values (token ∷ tokens) =
    one-by-rule (choose (rules part) (kind_of token)) symbols values token tokens

made-by : {a b : State} (reading : Reaches a b) → made b.values ≤ made a.values + count reading
unfolding count OneMore
made-by here = omega arith
made-by {a = a} (next {b = b} e others) =
    let one : made b.values ≤ made a.values + 1 = subst (OneMore a.values) e (one-more a.symbols a.values a.tokens) in
    omega (arith, one, made-by others)

-- what the reader has made
pub few-made : (tokens rest : List Token) (h : Held) → Run (start tokens) h rest → length h.entries ≤ most_steps (length tokens)
unfolding made turned entries_of
few-made tokens rest h run =
    let many : length h.entries ≡ made run.values = ap length run.represents.entries in
    omega (arith, many, made-by run.reaches, few tokens _ run.reaches)
