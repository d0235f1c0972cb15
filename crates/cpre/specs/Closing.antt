-- Openings and what closes them, counted from the right.
use Rattle.std.specs.Prelude.{◌≡◌, ℕ, suc, ◌+◌, ◌-◌, ◌≤◌, Bool, true, false, ◌&&◌, ◌==◌}
use Rattle.std.specs.Prelude.{if◌then◌else◌, List, [], ◌∷◌, length, Option, Some, None}
use Rattle.std.specs.List.{take_while}
use Rattle.csyn.specs.declared.token.Token.{Token}
use Rattle.cpre.specs.declared.directive.Directive.{Directive}
use Rattle.cpre.specs.declared.directive.Directive.TheVariants.{Ifdef, Ifndef, Endif}
use Rattle.cpre.specs.declared.source.Closing.{Closing}
use Rattle.cpre.specs.Directive.{directive_of}
use Rattle.cpre.specs.Expansion.{closers}
use Rattle.cpre.specs.Line.{items, begins, goes_on}

abbrev pub is_opening : Option Directive → Bool
is_opening (Some Ifdef) = true
is_opening (Some Ifndef) = true
is_opening _ = false

-- an opening that has no `#endif`
abbrev pub opens : Token → List Token → Bool
opens t ts = begins t && is_opening (directive_of (take_while goes_on ts)) && (closers (items false ts) == 0)

-- how many tokens there are from the first such on
abbrev pub unclosed : List Token → ℕ
unclosed [] = 0
unclosed (t ∷ ts) = if opens t ts then suc (length ts) else unclosed ts

pub record Counts (closing : Closing) (ts : List Token) : Type 0 where
  pub unclosed_is : closing.unclosed ≡ unclosed ts
  pub closers_are : closing.closers ≡ closers (items false ts)
  pub few : closing.closers ≤ length ts

-- with a directive before, from whose `#` on there are n tokens
abbrev pub with_opening : ℕ → Closing → Closing
with_opening n c = if c.closers == 0 then record { unclosed = n; closers = 0 } else record
    { unclosed = c.unclosed; closers = c.closers - 1 }

abbrev pub with_directive : Option Directive → ℕ → Closing → Closing
with_directive (Some Ifdef) n c = with_opening n c
with_directive (Some Ifndef) n c = with_opening n c
with_directive (Some Endif) n c = record { unclosed = c.unclosed; closers = c.closers + 1 }
with_directive _ n c = c
