-- Each source is read to its end.
use Rattle.std.specs.Prelude.{◌≡◌, Bool, true, false, ◌||◌, List, [], ◌∷◌}
use Rattle.std.proofs.Common.{refl, inl, inr}
use Rattle.csyn.specs.declared.token.Token.{Token}
use Rattle.cgrammar.specs.declared.production.Production.{Production}
use Rattle.cgrammar.specs.declared.production.Production.TheVariants as make
use Rattle.cgrammar.specs.declared.terminal.Terminal.TheVariants as terminal
use Rattle.creader.specs.declared.part.Part.TheVariants as part
use Rattle.creader.specs.declared.part.Symbol.TheVariants as symbol
use Rattle.cgrammar.specs.Kind.{kind_of}
use Rattle.cgrammar.specs.Terminal.{accepts}
use Rattle.creader.specs.Rules.{any_accepts}
use Rattle.cgrammar.specs.Grammar as class
use Rattle.cgrammar.specs.Grammar.{template, home, under, is_wider, class_number, words_number}
use Rattle.cgrammar.specs.Grammar.{operator_level, comparison_level, logical_level, alone, joined}
use Rattle.cgrammar.specs.Text.{Written, leaf, node, Forest, none, more, IsProper, Match, Stands, IsText, spell, spells}
use Rattle.creader.specs.Machine.{at, start, Reaches}
use Rattle.creader.proofs.Complete.Reading.{reader, has_reader, follow, allows, is_statement}
use Rattle.creader.proofs.Complete.Steps.{join, take-step, push}
use Rattle.creader.proofs.Complete.Productions.{productions, kept, makers, In, in-makers}
use Rattle.creader.proofs.Complete.Sequence.{may_follow, reads-before}
use Rattle.creader.proofs.Complete.Rule.{made-step}
use Rattle.creader.proofs.Complete.Whole.{complete}

-- of a source only sources are made
source-list : makers class.source ≡ make.Source ∷ []
unfolding makers kept productions under home is_wider class_number words_number operator_level comparison_level logical_level alone joined
source-list = refl

is-source : (p : Production) → under (home p) class.source ≡ true → p ≡ make.Source
is-source p h = go (rw source-list at (in-makers p class.source h))
  where
    go : In p (make.Source ∷ []) → p ≡ make.Source
    go (inl e) = e
    go (inr e) = absurd e

-- units stand before the end
units-may : (u : Written) (e : Token) → accepts terminal.End (kind_of e) ≡ true → may_follow class.units u (kind_of e) ≡ true
unfolding is_statement follow allows any_accepts
units-may u e h = go (accepts terminal.End (kind_of e)) h
  where
    go : (b : Bool) → b ≡ true → (b || false) ≡ true
    go true h = refl
    go false h = h

-- The units of a source are read, and its end.
forest-accepted : (f : Forest) → Match (template make.Source) f
    → Reaches (at (symbol.Read part.Units ∷ symbol.Take terminal.End ∷ symbol.Reduce make.Source ∷ []) [] (spells f))
    (at [] (node make.Source f ∷ []) [])
unfolding template Match push reader has_reader
forest-accepted none m = absurd m
forest-accepted (more u none) m = absurd m.3
forest-accepted (more u (more (leaf e) none)) m =
    let r = complete u m.1 class.units m.0 refl in
    join (reads-before class.units u r (symbol.Take terminal.End ∷ symbol.Reduce make.Source ∷ []) [] (e ∷ []) (units-may u e m.3.0))
    (join (take-step terminal.End (symbol.Reduce make.Source ∷ []) (u ∷ []) e [] m.3.0)
    (made-step make.Source (more u (more (leaf e) none)) [] [] [] m))
forest-accepted (more u (more (leaf e) (more v f))) m = absurd m.3.3
forest-accepted (more u (more (node p g) f)) m = absurd m.3.0

-- the same of the whole tree
tree-accepted : (w : Written) → Stands (class.part class.source) w → IsProper w → Reaches (start (spell w)) (at [] (w ∷ []) [])
unfolding IsProper
tree-accepted (leaf t) s m = absurd s
tree-accepted (node p f) s m = let same = is-source p s in rw same (forest-accepted f (rw same at m))

-- Each source is read to its end.
pub text-accepted : (tokens : List Token) (written : Written) → IsText written tokens → Reaches (start tokens) (at [] (written ∷ []) [])
text-accepted tokens written t = let same = t.spelled in rw (← same) (tree-accepted written t.is_source t.proper)
