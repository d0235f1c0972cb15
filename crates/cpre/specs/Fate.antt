-- What becomes of a token, by what is held of its name.
use Rattle.std.specs.Prelude.{◌≡◌, [], ◌∷◌, Some}
use Rattle.csyn.specs.declared.span.Span.{Span}
use Rattle.csyn.specs.declared.token.Token.{Token}
use Rattle.cpre.specs.declared.macros.Stage.TheVariants.{Idle}
use Rattle.cpre.specs.declared.replace.Fate.{Fate}
use Rattle.cpre.specs.declared.replace.Fate.TheVariants.{Stays, Goes, Opens}
use Rattle.cpre.specs.declared.replace.Replacer.{Replacer}
use Rattle.cpre.specs.Directive.{name_of}
use Rattle.cpre.specs.Held.{macros_of, found}
use Rattle.cpre.specs.Replacement.{at, expanded}
use Rattle.cpre.specs.Replacing.{hide, names}

abbrev pub Becomes : Replacer → Token → Fate → Type 0
Becomes r t Stays = (span : Span) → expanded (hide (names r.frames) (macros_of r.macros)) (at span t) ≡ at span t ∷ []
Becomes r t Goes = (span : Span) → expanded (hide (names r.frames) (macros_of r.macros)) (at span t) ≡ []
Becomes r t (Opens name tokens) = (name_of t.kind ≡ Some name.now)
    × (found r.macros name.now ≡ Some (record { tokens = tokens; stage = Idle }))
