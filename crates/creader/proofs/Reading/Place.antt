-- Each token that is taken counts one.
use Rattle.std.specs.Prelude.{◌≡◌, ℕ, ◌+◌, Bool, true, false, List, [], ◌∷◌, Option, Some, None, refl, cond}
use Rattle.std.proofs.Common.{ap, subst, ◌∙◌}
use Rattle.cgrammar.specs.declared.kind.Kind.{Kind}
use Rattle.creader.specs.declared.part.Move.{Move}
use Rattle.creader.specs.declared.part.Move.TheVariants as move
use Rattle.creader.specs.declared.part.Symbol.{Symbol}
use Rattle.creader.specs.declared.part.Symbol.TheVariants as symbol
use Rattle.cgrammar.specs.Terminal.{accepts}
use Rattle.creader.specs.Rules.{Rule, rules, choose}
use Rattle.creader.specs.declared.reader.Progress.{Progress}
use Rattle.creader.specs.declared.reader.Progress.TheVariants as progress
use Rattle.creader.specs.Reader.{Held, step, step_by, followed, moved, pushed, reduced, taken, Moves, Feeds}
use Rattle.creader.specs.Reader as specs
use Rattle.creader.proofs.Reading.Moved.{moved-lighter}

-- the place behind a step
abbrev counted : Progress → ℕ → ℕ
counted progress.Taken place = place + 1
counted progress.Moved place = place
counted progress.Stuck place = place

-- what one step makes of the count of the taken tokens
Counts : Held → Progress × Held → Type 0
Counts before result = result.1.place ≡ counted result.0 before.place

by-move : (way : Move) (h : Held) → Counts h (moved way h)
unfolding Counts
by-move move.Take h = refl
by-move move.Stay h = refl

by-rule : (found : Option Rule) (h : Held) → Counts h (followed found h)
unfolding Counts
by-rule None h = refl
by-rule (Some rule) h = by-move rule.move (pushed rule.symbols h)

by-token : (accepted : Bool) (h : Held) → Counts h (cond accepted (progress.Taken, taken h) (progress.Stuck, h))
unfolding Counts
by-token true h = refl
by-token false h = refl

-- a step counts the token that it takes, and no other
counts-at : (symbols : List Symbol) (kind : Kind) (h : Held) → Counts h (step_by symbols kind h)
unfolding Counts
counts-at [] kind h = refl
counts-at (symbol.Reduce production ∷ symbols) kind h = refl
counts-at (symbol.Take terminal ∷ symbols) kind h = by-token (accepts terminal kind) (record h { symbols = symbols })
counts-at (symbol.Read part ∷ symbols) kind h = by-rule (choose (rules part) kind) (record h { symbols = symbols })

-- steps that take no token count none
moves-place : {kind : Kind} {a b : Held} → Moves kind a b → b.place ≡ a.place
moves-place specs.none = refl
moves-place {kind = kind} (specs.more {b = b} {c = c} moves last) = (moved-lighter kind b c last).place ∙ moves-place moves

-- a token that is fed counts as one
pub fed-place : (kind : Kind) (a b : Held) → Feeds kind true a b → b.place ≡ a.place + 1
unfolding Counts
fed-place kind a b feeds =
    let count : b.place ≡ feeds.between.place + 1 =
    subst (λ (x : Progress × Held). x.1.place ≡ counted x.0 feeds.between.place) feeds.last
    (counts-at feeds.between.symbols kind feeds.between) in
    count ∙ ap (λ n. n + 1) (moves-place feeds.moves)
