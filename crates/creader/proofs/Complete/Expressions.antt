-- Each expression is read, when its parts are.
pub mod Tables
pub mod Symbols
pub mod Stays
pub mod Tails
pub mod Grows
pub mod Growing
pub mod Entering
pub mod Beginning
pub mod Names
pub mod Sizes
use Rattle.std.proofs.Common.{◌≡◌, true, refl, sym, ◌∙◌, true≢false}
use Rattle.cgrammar.specs.declared.production.Production.{Production}
use Rattle.cgrammar.specs.declared.production.Production.TheVariants as make
use Rattle.cgrammar.specs.Grammar.{template, home}
use Rattle.cgrammar.specs.Text.{Forest, node, Match}
use Rattle.creader.proofs.Complete.Heads.{Heads, AllKnown, is_expression, is_level}
use Tables.{joined-class}
use Growing.{growing-reads, is_growing}
use Beginning.{beginning-reads, is_beginning}
use Names.{name-reads, call-reads}
use Sizes.{size-reads, type-reads, cast-reads}

-- the others make no expressions
pub expression-reads : (p : Production) (f : Forest) → is_expression p ≡ true → Match (template p) f → AllKnown f → Heads (node p f)
unfolding is_growing is_beginning is_expression is_level home
expression-reads make.Name f e m known = name-reads f m
expression-reads make.Number f e m known = beginning-reads make.Number f refl e m known
expression-reads make.Character f e m known = beginning-reads make.Character f refl e m known
expression-reads make.Parenthesised f e m known = beginning-reads make.Parenthesised f refl e m known
expression-reads make.Index f e m known = growing-reads make.Index f refl e m known
expression-reads make.CallFunction f e m known = call-reads f m known
expression-reads make.Call f e m known = growing-reads make.Call f refl e m known
expression-reads make.Member f e m known = growing-reads make.Member f refl e m known
expression-reads make.Arrow f e m known = growing-reads make.Arrow f refl e m known
expression-reads make.PostIncrement f e m known = growing-reads make.PostIncrement f refl e m known
expression-reads make.PostDecrement f e m known = growing-reads make.PostDecrement f refl e m known
expression-reads make.PreIncrement f e m known = beginning-reads make.PreIncrement f refl e m known
expression-reads make.PreDecrement f e m known = beginning-reads make.PreDecrement f refl e m known
expression-reads make.Prefix f e m known = beginning-reads make.Prefix f refl e m known
expression-reads make.SizeofExpression f e m known = size-reads f m known
expression-reads make.SizeofType f e m known = type-reads f m known
expression-reads make.Cast f e m known = cast-reads f m known
expression-reads (make.Binary o) f e m known = growing-reads (make.Binary o) f refl e m known
expression-reads (make.Comparison o) f e m known = growing-reads (make.Comparison o) f refl e m known
expression-reads (make.Logical o) f e m known = growing-reads (make.Logical o) f refl e m known
expression-reads make.Conditional f e m known = growing-reads make.Conditional f refl e m known
expression-reads make.Assign f e m known = growing-reads make.Assign f refl e m known
expression-reads (make.AssignWith o) f e m known = growing-reads (make.AssignWith o) f refl e m known
expression-reads make.Comma f e m known = growing-reads make.Comma f refl e m known
expression-reads (make.NextWord all w) f e m known = absurd (true≢false (sym e ∙ joined-class all w))
expression-reads _ f e m known = absurd (true≢false (sym e))
