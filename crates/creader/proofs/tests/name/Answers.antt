use Rattle.std.proofs.Common.{◌≡◌, ℕ, List, Bool, true, false, ◌||◌, if◌then◌else◌, codes}
use Rattle.std.specs.Str.{bytes_eq}
use Rattle.cgrammar.specs.declared.kind.Kind.TheVariants as kind
use Rattle.cgrammar.specs.Kind.{name_kind}
use Rattle.creader.proofs.tests.name.Goals as goal

-- none of the three kinds of a name is the end's
no-end : (is_register is_location : Bool) → (if is_register then kind.RegisterName else
    (if is_location then kind.LocationName else kind.Name)) ≡ kind.End → ⊥
no-end true _ e = cc
no-end false true e = cc
no-end false false e = cc

name-no-end : (name : List ℕ) → name_kind name ≡ kind.End → ⊥
unfolding name_kind
name-no-end name = no-end (bytes_eq name (codes "__R30") || bytes_eq name (codes "__R31")) (bytes_eq name (codes "location"))

pub returns : goal.returns
returns c = name-no-end c.new.result
