-- What it means that symbols are done with some tokens, and of which smaller such facts it is made.
use Rattle.std.proofs.Common.{◌≡◌, true, List, [], ◌∷◌, ◌++◌, Some, refl, append_assoc}
use Rattle.csyn.specs.declared.token.Token.{Token}
use Rattle.cgrammar.specs.declared.production.Production.{Production}
use Rattle.cgrammar.specs.declared.terminal.Terminal.{Terminal}
use Rattle.creader.specs.declared.part.Part.{Part}
use Rattle.creader.specs.declared.part.Move.TheVariants as move
use Rattle.creader.specs.declared.part.Symbol.{Symbol}
use Rattle.creader.specs.declared.part.Symbol.TheVariants as symbol
use Rattle.cgrammar.specs.Kind.{kind_of}
use Rattle.cgrammar.specs.Terminal.{accepts}
use Rattle.creader.specs.Rules.{Rule, rules, choose}
use Rattle.cgrammar.specs.Text.{Written, leaf}
use Rattle.creader.specs.Machine.{at, reduce, step, Reaches, here, next}
use Rattle.creader.proofs.Fault.Steps.{onwards, take_step, read_step}

-- The symbols take the tokens of front and no more where `behind` stands behind them, whatever else is still to do and whatever was made
-- so far.
pub record Done (symbols : List Symbol) (front behind : List Token) : Type 0 where
  pub done : (below : List Symbol) (values : List Written)
      → (made : List Written) × Reaches (at (symbols ++ below) values (front ++ behind)) (at below made behind)

-- no symbols are done with no tokens
pub done_nothing : (behind : List Token) → Done [] [] behind
done_nothing behind = record { done = λ below values. (values, here) }

-- a production takes no token
pub done_reduce : (p : Production) (symbols : List Symbol) (front behind : List Token) → Done symbols front behind
    → Done (symbol.Reduce p ∷ symbols) front behind
unfolding step
done_reduce p symbols front behind rest = record {
  done = λ below values.
      let more = rest.done below (reduce p values) in (more.0, next refl more.1);
}

-- a token that may stand is taken
pub done_take : (t : Terminal) (symbols : List Symbol) (token : Token) (front behind : List Token) → accepts t (kind_of token) ≡ true
    → Done symbols front behind → Done (symbol.Take t ∷ symbols) (token ∷ front) behind
done_take t symbols token front behind fits rest = record {
  done = λ below values.
      let more = rest.done below (leaf token ∷ values) in
      (more.0, next (take_step t (symbols ++ below) values token (front ++ behind) fits) more.1);
}

pub done_rule_take : (p : Part) (rule : Rule) (symbols : List Symbol) (token : Token) (front behind : List Token)
    → choose (rules p) (kind_of token) ≡ Some rule → rule.move ≡ move.Take → Done (rule.symbols ++ symbols) front behind
    → Done (symbol.Read p ∷ symbols) (token ∷ front) behind
done_rule_take p rule symbols token front behind chosen takes rest = record {
  done = λ below values.
      let more = rest.done below (leaf token ∷ values) in
      let first = read_step p rule (symbols ++ below) values token (front ++ behind) chosen in
      (more.0, next (rw takes at first) (rw append_assoc at more.1));
}

pub done_rule_stay : (p : Part) (rule : Rule) (symbols : List Symbol) (token : Token) (front behind others : List Token)
    → choose (rules p) (kind_of token) ≡ Some rule → rule.move ≡ move.Stay → front ++ behind ≡ token ∷ others
    → Done (rule.symbols ++ symbols) front behind → Done (symbol.Read p ∷ symbols) front behind
done_rule_stay p rule symbols token front behind others chosen stays begins rest = record {
  done = λ below values.
      let more = rest.done below values in
      let first = read_step p rule (symbols ++ below) values token others chosen in
      (more.0, next (rw (stays, ← begins) at first) (rw append_assoc at more.1));
}

-- one after the other
pub done_both : (first second : List Symbol) (front middle behind : List Token) → Done first front (middle ++ behind)
    → Done second middle behind → Done (first ++ second) (front ++ middle) behind
done_both first second front middle behind one other = record {
  done = λ below values.
      let begun = one.done (second ++ below) values in
      let ended = other.done below begun.0 in
      (ended.0, rw (append_assoc first second below, append_assoc front middle behind) (onwards begun.1 ended.1));
}
