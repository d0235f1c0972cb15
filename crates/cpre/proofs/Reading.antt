-- One reading of each source, and what `expand` answers.
use Rattle.std.proofs.Common.{◌≡◌, ◌⊎◌, inl, inr, List, Result, Ok, Err, IfOk, IfErr, refl, sym, ap, ◌∙◌}
use Rattle.csyn.specs.declared.cause.Cause.{Cause}
use Rattle.csyn.specs.declared.fault.SourceFault.{SourceFault}
use Rattle.csyn.specs.declared.fault.SourceFault.TheVariants.{Broken, Memory}
use Rattle.csyn.specs.declared.span.Span.{Span}
use Rattle.csyn.specs.declared.token.Token.{Token}
use Rattle.cpre.specs.Expansion.{Fault, Expands, IsFault, IsFaultOf, expansion}
use Rattle.cpre.specs.Given.{Answers}

abbrev pub Read : Type 0
Read = Result (List Token) Fault

abbrev pub ok : List Token → Read
ok out = Ok out

abbrev pub err : Fault → Read
err fault = Err fault

pub one_ok : (a b : List Token) → ok a ≡ ok b → a ≡ b
one_ok a b h = cc

fault-of : Fault → Read → Fault
fault-of f (Ok x) = f
fault-of f (Err g) = g

pub one_err : (s t : Span) (c d : Cause) → err (s, c) ≡ err (t, d) → (s ≡ t) × (c ≡ d)
one_err s t c d h =
    let e : (s, c) ≡ (t, d) = cc in
    (ap (λ (p : Fault). p.0) e, ap (λ (p : Fault). p.1) e)

pub not_both : (out : List Token) (s : Span) (c : Cause) → ok out ≡ err (s, c) → ⊥
not_both out s c h = cc

by-read : (tokens : List Token) (r : Read) → expansion tokens ≡ r
    → ((out : List Token) × Expands tokens out) ⊎ ((span : Span) × (cause : Cause) × IsFault tokens span cause)
by-read tokens (Ok out) e = inl (out, e)
by-read tokens (Err f) e = inr (f.0, f.1, e)

pub ok_or_err : (tokens : List Token) → ((out : List Token) × Expands tokens out) ⊎
    ((span : Span) × (cause : Cause) × IsFault tokens span cause)
ok_or_err tokens = by-read tokens (expansion tokens) refl

-- ---- what `expand` answers

module _ {A : Type 0} (view : A → List Token) (tokens : List Token) where
  pub expanded : (r : Result A SourceFault) → Answers view r (expansion tokens) → IfOk r (λ out. Expands tokens (view out))
  expanded (Ok out) h = h
  expanded (Err e) h = tt

  pub broken : (r : Result A SourceFault) → Answers view r (expansion tokens) → IfErr r (IsFaultOf tokens)
  broken (Ok out) h = tt
  broken (Err (Broken span cause)) h = h
  broken (Err Memory) h = tt

  pub answered : (r : Result A SourceFault) (wanted : Read) → Answers view r (expansion tokens) → expansion tokens ≡ wanted
      → Answers view r wanted
  answered (Ok out) wanted h e = sym e ∙ h
  answered (Err (Broken span cause)) wanted h e = sym e ∙ h
  answered (Err Memory) wanted h e = tt
