-- Each list of tokens is a source or has a first fault: reading it stops at the one or the other.
use Rattle.std.specs.Prelude.{◌≡◌, ◌-◌, ◌<◌, ◌⊎◌, ℕ, List, [], length}
use Rattle.std.proofs.Common.{inl, inr, subst}
use Rattle.csyn.specs.declared.token.Token.{Token}
use Rattle.cgrammar.specs.Text.{Written, IsText, IsFirstFault}
use Rattle.creader.specs.declared.part.Symbol.{Symbol}
use Rattle.creader.specs.Machine.{at, start, Reaches}
use Rattle.creader.specs.Source.{EndsOnce}
use Rattle.creader.proofs.Both.{sound, whole}
use Rattle.creader.proofs.Fault.First.{first_fault}
use Rattle.creader.proofs.Reading.Halts.{Halts, halts}

abbrev TextOrFault : List Token → Type 0
TextOrFault tokens = ((written : Written) × IsText written tokens) ⊎ ((place : ℕ) × IsFirstFault tokens place)

-- at the end of a source
ended : (tokens rest : List Token) (symbols : List Symbol) (values : List Written) → Reaches (start tokens) (at symbols values rest)
    → symbols ≡ [] → rest ≡ [] → (written : Written) × IsText written tokens
ended tokens rest symbols values reached no-symbols no-tokens =
    let whole-way : Reaches (start tokens) (at [] values []) =
    subst (λ xs. Reaches (start tokens) (at xs values [])) no-symbols
    (subst (λ ts. Reaches (start tokens) (at symbols values ts)) no-tokens reached) in
    let made = sound tokens values whole-way in
    (made.0, made.2)

by-end : (tokens : List Token) (h : Halts (start tokens))
    → ((h.symbols ≡ []) × (h.rest ≡ [])) ⊎ (IsFirstFault tokens (length tokens - length h.rest) × (0 < length h.rest)) → TextOrFault tokens
by-end tokens h (inl both) = inl (ended tokens h.rest h.symbols h.values h.reached both.0 both.1)
by-end tokens h (inr fault) = inr (length tokens - length h.rest, fault.0)

pub text-or-fault : (tokens : List Token) → EndsOnce tokens → TextOrFault tokens
text-or-fault tokens once =
    let h = halts (start tokens) in
    by-end tokens h (first_fault sound whole tokens h.rest h.symbols h.values once h.reached h.stuck)
