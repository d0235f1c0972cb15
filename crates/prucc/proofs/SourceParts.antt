-- The refusals of reading a source.
use Rattle.std.proofs.Common.{ℕ, List, sym, subst}
use Rattle.csyn.specs.declared.fault.SourceFault.{SourceFault}
use Rattle.csyn.specs.declared.fault.SourceFault.TheVariants as source
use Rattle.csyn.specs.declared.span.Span.{Span}
use Rattle.csyn.specs.declared.token.Token.{Token}
use Rattle.csyn.specs.Tree.{Contents}
use Rattle.clex.specs.Text as text
use Rattle.cpre.specs.Expansion as expansion
use Rattle.cparse.specs.Parsed as parsed
use Rattle.prucc.specs.declared.form.FormFault.{FormFault}
use Rattle.prucc.specs.declared.form.FormFault.TheVariants as form
use Rattle.prucc.specs.declared.refusal.Refusal.{Refusal}
use Rattle.prucc.specs.declared.refusal.Refusal.TheVariants.{Source, Script, Elf, NoMemory, NotBuilt}
use Rattle.prucc.specs.Source.{IsExpandedTo, IsTreeOf, IsFaultOf, InTokens, InExpansion, InGrammar, IsUnbuilt}
use Rattle.prucc.specs.SourceAnswer.{FormFails, Refuses, refusal_of, refusal_at}
use Rattle.prucc.specs.Sources.{NotBuiltIn, SourceFails}

pub tokens_broken : (bytes : List ℕ) (fault : SourceFault) → text.IsFaultOf bytes fault → IsFaultOf bytes fault
tokens_broken bytes (source.Broken span cause) h = InTokens h
tokens_broken bytes source.Memory h = tt

pub expansion_broken : (bytes : List ℕ) (written : List Token) (fault : SourceFault) → text.Spells written bytes
    → expansion.IsFaultOf written fault → IsFaultOf bytes fault
expansion_broken bytes written (source.Broken span cause) spelled h = InExpansion written spelled h
expansion_broken bytes written source.Memory spelled h = tt

pub grammar_broken : (bytes : List ℕ) (tokens : List Token) (fault : SourceFault) → IsExpandedTo bytes tokens
    → parsed.IsFaultOf tokens fault → IsFaultOf bytes fault
grammar_broken bytes tokens (source.Broken span cause) expanded h = InGrammar tokens expanded h
grammar_broken bytes tokens source.Memory expanded h = tt

pub fault_refuses : (bytes : List ℕ) (fault : SourceFault) → IsFaultOf bytes fault → Refuses bytes (refusal_of fault)
fault_refuses bytes (source.Broken span cause) h = h
fault_refuses bytes source.Memory h = tt

pub form_refuses : (bytes : List ℕ) (tree : Contents) (fault : FormFault) → IsTreeOf tree bytes → FormFails tree fault
    → Refuses bytes (refusal_at fault)
form_refuses bytes tree (form.At span) of_source h = record { tree = tree; of_source = of_source; departs = h }
form_refuses bytes tree form.Memory of_source h = tt

pub not_built_fails : (core : ℕ) (name text : List ℕ) (span : Span) (r : Refusal) → IsUnbuilt text span → NotBuiltIn name span r
    → SourceFails core name text r
not_built_fails core name text span (NotBuilt file place) unbuilt h = (h.0, subst (IsUnbuilt text) (sym h.1) unbuilt)
not_built_fails core name text span NoMemory unbuilt h = tt
not_built_fails core name text span (Source _ _ _) unbuilt h = absurd h
not_built_fails core name text span (Script _ _) unbuilt h = h
not_built_fails core name text span (Elf _ _ _) unbuilt h = h
