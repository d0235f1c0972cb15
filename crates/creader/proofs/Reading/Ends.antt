-- What the reader's answers mean.
use Rattle.std.specs.Prelude.{◌≡◌, ℕ, suc, ◌≤◌, get_or, ◌+◌, ◌-◌, ◌<◌, true, false, List, [], ◌∷◌, length, drop, refl}
use Rattle.std.proofs.Common.{arith, sym, ap, subst, ◌∙◌, inl, inr, length-drop}
use Rattle.std.proofs.lemmas.List.{append-nil, drop_all}
use Rattle.std.proofs.Math.Seq.{drop-cons}
use Rattle.std.proofs.Math.Numerals.{add-one}
use Rattle.csyn.specs.declared.token.Token.{Token}
use Rattle.cgrammar.specs.declared.kind.Kind.{Kind}
use Rattle.cgrammar.specs.Kind.{kind_of}
use Rattle.cgrammar.specs.Text.{Written, none, IsText, IsFirstFault}
use Rattle.creader.specs.Entries.{entries, entries_of}
use Rattle.creader.specs.Machine.{start, here}
use Rattle.creader.specs.Reader.{Held, Feeds, at_start}
use Rattle.creader.specs.Source.{EndsOnce}
use Rattle.creader.proofs.Fault.First.{Sound, Whole, first_fault}
use Rattle.creader.proofs.Reading.Represents.{turned, firsts_of, width}
use Rattle.creader.proofs.Reading.Run.{Run, Stops, fed, not-fed}

-- at the beginning
pub begun : (tokens : List Token) (h : Held) → h ≡ at_start → Run (start tokens) h tokens
unfolding turned firsts_of width entries entries_of
begun tokens h e =
    subst (λ x. Run (start tokens) x tokens) (sym e)
    record { values = []; reaches = here; represents = record { firsts = refl; entries = refl; place = refl } }

-- at the end there is one value, a source, and the productions are its own
pub read-whole : Sound → (tokens : List Token) (h : Held) → Run (start tokens) (record h { symbols = [] }) []
    → (written : Written) × IsText written tokens × (h.entries ≡ entries 0 written)
unfolding turned entries entries_of
read-whole sound tokens h run =
    let found = sound tokens run.values run.reaches in
    let all : h.entries ≡ entries_of 0 (turned (found.0 ∷ []) none) =
    run.represents.entries ∙ ap (λ vs. entries_of 0 (turned vs none)) found.1 in
    (found.0, found.2, all ∙ append-nil (entries 0 found.0))

-- what stops at a token names the first fault
pub stopped : Sound → Whole → (tokens : List Token) (place : ℕ) → EndsOnce tokens → place < length tokens
    → Stops (start tokens) (drop place tokens)
    → IsFirstFault tokens place
stopped sound whole tokens place once within stop =
    let left : length (drop place tokens) ≡ length tokens - place = length-drop place tokens in
    elim (first_fault sound whole tokens (drop place tokens) stop.symbols stop.values once stop.reaches stop.stops) [
      | inl over ↦ let none : 0 ≡ length tokens - place = ap length (sym over.1) ∙ left in absurd (omega arith)
      | inr fault ↦ let same : length tokens - length (drop place tokens) ≡ place = omega arith in subst (IsFirstFault tokens) same fault.0
    ]

-- without a token left there is nothing to stop at
pub never-left : Sound → Whole → (tokens : List Token) → EndsOnce tokens → (stop : Stops (start tokens) []) → (stop.symbols ≡ [] → ⊥) → ⊥
never-left sound whole tokens once stop some =
    elim (first_fault sound whole tokens [] stop.symbols stop.values once stop.reaches stop.stops) [
      | inl over ↦ some over.0
      | inr fault ↦ absurd (omega (arith, fault.1))
    ]

-- the tokens from a place on
next-token : (tokens : List Token) (place : ℕ) (token : Token) → token ≡ get_or tokens place token → place < length tokens
    → drop place tokens ≡ token ∷ drop (place + 1) tokens
next-token tokens place token is within = rw (add-one, drop-cons tokens place token) (ap (λ t. t ∷ drop (suc place) tokens) (sym is))

-- a token that is taken, at its place
pub taken-at : (tokens : List Token) (place : ℕ) (token : Token) (kind : Kind) (before after : Held) → token ≡ get_or tokens place token
    → place < length tokens → kind ≡ kind_of token → Feeds kind true before after → Run (start tokens) before (drop place tokens)
    → Run (start tokens) after (drop (place + 1) tokens)
taken-at tokens place token kind before after is within same feeds run =
    let feeds' : Feeds (kind_of token) true before after = subst (λ k. Feeds k true before after) same feeds in
    let run' : Run (start tokens) before (token ∷ drop (place + 1) tokens) =
    subst (λ ts. Run (start tokens) before ts) (next-token tokens place token is within) run in
    fed (start tokens) token (drop (place + 1) tokens) before after feeds' run'

-- a token that is not taken is the first fault
pub refused-at : Sound → Whole → (tokens : List Token) (place : ℕ) (token : Token) (kind : Kind) (before after : Held) → EndsOnce tokens
    → token ≡ get_or tokens place token → place < length tokens → kind ≡ kind_of token → Feeds kind false before after
    → Run (start tokens) before (drop place tokens) → IsFirstFault tokens place
refused-at sound whole tokens place token kind before after once is within same feeds run =
    let feeds' : Feeds (kind_of token) false before after = subst (λ k. Feeds k false before after) same feeds in
    let here' = next-token tokens place token is within in
    let run' : Run (start tokens) before (token ∷ drop (place + 1) tokens) = subst (λ ts. Run (start tokens) before ts) here' run in
    let stop = not-fed (start tokens) token (drop (place + 1) tokens) before after feeds' run' in
    stopped sound whole tokens place once within (subst (λ ts. Stops (start tokens) ts) (sym here') stop)

-- behind the last token
pub at-end : (tokens : List Token) (place : ℕ) (h : Held) → length tokens ≤ place → Run (start tokens) h (drop place tokens)
    → Run (start tokens) h []
at-end tokens place h over run = subst (λ ts. Run (start tokens) h ts) (drop_all place tokens over) run
