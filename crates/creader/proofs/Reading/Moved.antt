-- What a step that takes no token leaves.
use Rattle.std.specs.Prelude.{◌≡◌, ◌<◌, Bool, true, false, List, [], ◌∷◌, ◌++◌, Option, Some, None, refl, cond}
use Rattle.std.proofs.Common.{sym, ap, subst}
use Rattle.cgrammar.specs.declared.kind.Kind.{Kind}
use Rattle.creader.specs.declared.part.Part.{Part}
use Rattle.creader.specs.declared.part.Move.{Move}
use Rattle.creader.specs.declared.part.Move.TheVariants as move
use Rattle.creader.specs.declared.part.Symbol.{Symbol}
use Rattle.creader.specs.declared.part.Symbol.TheVariants as symbol
use Rattle.cgrammar.specs.Terminal.{accepts}
use Rattle.creader.specs.Rules.{Rule, rules, choose}
use Rattle.creader.specs.declared.reader.Progress.{Progress}
use Rattle.creader.specs.declared.reader.Progress.TheVariants as progress
use Rattle.creader.specs.Reader.{Held, step, step_by, followed, moved, pushed, reduced, taken}
use Rattle.creader.proofs.Reading.Weight.{weigh, lighter, made_paid}

-- lighter symbols, and the same place
pub record Lighter (symbols : List Symbol) (before after : Held) : Type 0 where
  pub weighs : weigh after.symbols < weigh symbols
  pub place : after.place ≡ before.place

moved_by : (rule : Rule) (way : Move) (part : Part) (kind : Kind) (symbols : List Symbol) (h b : Held) → way ≡ rule.move
    → choose (rules part) kind ≡ Some rule
    → moved way (pushed rule.symbols (record h { symbols = symbols })) ≡ (progress.Moved, b) → Lighter (symbol.Read part ∷ symbols) h b
moved_by rule move.Take part kind symbols h b way chosen e =
    let other : progress.Taken ≡ progress.Moved = ap (λ (x : Progress × Held). x.0) e in absurd (cc)
moved_by rule move.Stay part kind symbols h b way chosen e =
    let same : record h { symbols = rule.symbols ++ symbols } ≡ b = ap (λ (x : Progress × Held). x.1) e in
    subst (Lighter (symbol.Read part ∷ symbols) h) same
    record { weighs = lighter part kind rule symbols chosen (sym way); place = refl }

read_by : (found : Option Rule) (part : Part) (kind : Kind) (symbols : List Symbol) (h b : Held) → choose (rules part) kind ≡ found
    → followed found (record h { symbols = symbols }) ≡ (progress.Moved, b) → Lighter (symbol.Read part ∷ symbols) h b
read_by None part kind symbols h b chosen e = let other : progress.Stuck ≡ progress.Moved = ap (λ (x : Progress × Held). x.0) e in
    absurd (cc)
read_by (Some rule) part kind symbols h b chosen e = moved_by rule rule.move part kind symbols h b refl chosen e

-- taking a token is no step that leaves it
take_by : (accepted : Bool) (symbols : List Symbol) (h b : Held) {P : Type 0}
    → ◌≡◌ {A = Progress × Held} (cond accepted (progress.Taken, taken (record h { symbols = symbols }))
    (progress.Stuck, record h { symbols = symbols }))
    (progress.Moved, b) → P
take_by true symbols h b e = let other : progress.Taken ≡ progress.Moved = ap (λ (x : Progress × Held). x.0) e in absurd (cc)
take_by false symbols h b e = let other : progress.Stuck ≡ progress.Moved = ap (λ (x : Progress × Held). x.0) e in absurd (cc)

-- a step that takes no token leaves less weight, whatever the first symbol is
lighter_at : (symbols : List Symbol) (kind : Kind) (h b : Held) → step_by symbols kind h ≡ (progress.Moved, b) → Lighter symbols h b
lighter_at [] kind h b e = let other : progress.Stuck ≡ progress.Moved = ap (λ (x : Progress × Held). x.0) e in absurd (cc)
lighter_at (symbol.Reduce production ∷ symbols) kind h b e =
    let same : reduced production (record h { symbols = symbols }) ≡ b = ap (λ (x : Progress × Held). x.1) e in
    subst (Lighter (symbol.Reduce production ∷ symbols) h) same record { weighs = made_paid production symbols; place = refl }
lighter_at (symbol.Take terminal ∷ symbols) kind h b e = take_by (accepts terminal kind) symbols h b e
lighter_at (symbol.Read part ∷ symbols) kind h b e = read_by (choose (rules part) kind) part kind symbols h b refl e

-- a step that takes no token leaves lighter symbols and the same place
pub moved-lighter : (kind : Kind) (a b : Held) → step kind a ≡ (progress.Moved, b) → Lighter a.symbols a b
moved-lighter kind a b e = lighter_at a.symbols kind a b e
