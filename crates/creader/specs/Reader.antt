-- What the reader holds, and what a step makes of it.
use Rattle.std.specs.Prelude.{◌≡◌, Bool, true, false, ℕ, ◌+◌, ◌-◌, List, [], ◌∷◌, ◌++◌, length, take}
use Rattle.std.specs.Prelude.{slice_index_or, Option, Some, None, if◌then◌else◌}
use Rattle.cgrammar.specs.declared.kind.Kind.{Kind}
use Rattle.cgrammar.specs.declared.production.Production.{Production}
use Rattle.creader.specs.declared.part.Move.{Move}
use Rattle.creader.specs.declared.part.Move.TheVariants as move
use Rattle.creader.specs.declared.part.Symbol.{Symbol}
use Rattle.creader.specs.declared.part.Symbol.TheVariants as symbol
use Rattle.cgrammar.specs.Terminal.{accepts}
use Rattle.cgrammar.specs.Grammar.{template}
use Rattle.creader.specs.Rules.{Rule, rules, choose}
use Rattle.creader.specs.Machine.{start}
use Rattle.creader.specs.declared.reader.Entry.{Entry}
use Rattle.creader.specs.declared.reader.Reader.{Reader}
use Rattle.creader.specs.declared.reader.Progress.{Progress}
use Rattle.creader.specs.declared.reader.Progress.TheVariants as progress

-- the symbols that are left (the next first), where each value begins, the productions so far, and how many tokens have been taken
pub record Held : Type 0 where
  pub symbols : List Symbol
  pub firsts : List ℕ
  pub entries : List Entry
  pub place : ℕ

abbrev pub held : Reader → Held
held reader = record { symbols = reader.symbols; firsts = reader.firsts.items; entries = reader.entries.items; place = reader.place }

-- at the beginning of a source
abbrev pub at_start : Held
at_start = record { symbols = (start []).symbols; firsts = []; entries = []; place = 0 }

-- a token is a value, which begins where it stands
abbrev pub taken : Held → Held
taken h = record h { firsts = h.firsts ++ h.place ∷ []; place = h.place + 1 }

-- one value is made of the last ones, and begins where the first of them begins
abbrev pub reduced : Production → Held → Held
reduced production h =
    let below = length h.firsts - length (template production) in
    let first = slice_index_or h.firsts below h.place in
    record h {
      firsts = take below h.firsts ++ first ∷ [];
      entries =
          h.entries ++ record { production = production; first = first; end = h.place } ∷ [];
    }

-- symbols are put in front
abbrev pub pushed : List Symbol → Held → Held
pushed symbols h = record h { symbols = symbols ++ h.symbols }

-- what becomes of the token by which a rule is chosen
abbrev pub moved : Move → Held → Progress × Held
moved move.Take h = (progress.Taken, taken h)
moved move.Stay h = (progress.Moved, h)

-- the part is replaced by what the rule says; with no rule the token can't stand
abbrev pub followed : Option Rule → Held → Progress × Held
followed None h = (progress.Stuck, h)
followed (Some rule) h = moved rule.move (pushed rule.symbols h)

-- what the first symbol does, the others being held
abbrev pub step_by : List Symbol → Kind → Held → Progress × Held
step_by [] kind h = (progress.Stuck, h)
step_by (symbol.Reduce production ∷ symbols) kind h = (progress.Moved, reduced production (record h { symbols = symbols }))
step_by (symbol.Take terminal ∷ symbols) kind h =
    if accepts terminal kind then (progress.Taken, taken (record h { symbols = symbols })) else
    (progress.Stuck, record h { symbols = symbols })
step_by (symbol.Read part ∷ symbols) kind h = followed (choose (rules part) kind) (record h { symbols = symbols })

-- one step before a token of this kind
abbrev pub step : Kind → Held → Progress × Held
step kind h = step_by h.symbols kind h

-- some steps that take no token
pub data Moves (kind : Kind) : Held → Held → Type 0 where
  none : {h : Held} → Moves kind h h
  more : {a b c : Held} → Moves kind a b → step kind b ≡ (progress.Moved, c) → Moves kind a c

-- what the last step did
abbrev pub last_progress : Bool → Progress
last_progress true = progress.Taken
last_progress false = progress.Stuck

-- some steps that take no token, and then one that takes it, or can't
pub record Feeds (kind : Kind) (is_taken : Bool) (before after : Held) : Type 0 where
  pub between : Held
  pub moves : Moves kind before between
  pub last : step kind between ≡ (last_progress is_taken, after)

-- the productions that are left, if only productions are
abbrev pub finished : List Symbol → Held → Bool × Held
finished [] h = (true, h)
finished (symbol.Reduce production ∷ symbols) h = finished symbols (reduced production (record h { symbols = symbols }))
finished (symbol.Take _ ∷ symbols) h = (false, record h { symbols = symbols })
finished (symbol.Read _ ∷ symbols) h = (false, record h { symbols = symbols })
