-- The parts of a right side are read one after another, when each is read by itself.
use Rattle.std.specs.Prelude.{◌≡◌, Bool, true, false, not, ◌||◌, ◌&&◌, ◌⊎◌, List, [], ◌∷◌, ◌++◌}
use Rattle.std.proofs.Common.{refl, append_assoc, inl, inr}
use Rattle.std.proofs.lemmas.Bool.{and_parts, or_cases, or_left, or_right, not_from_false}
use Rattle.csyn.specs.declared.token.Token.{Token}
use Rattle.cgrammar.specs.declared.kind.Kind.{Kind}
use Rattle.cgrammar.specs.declared.production.Production.{Production}
use Rattle.cgrammar.specs.declared.production.Production.TheVariants as make
use Rattle.creader.specs.declared.part.Symbol.{Symbol}
use Rattle.creader.specs.declared.part.Symbol.TheVariants as symbol
use Rattle.cgrammar.specs.Grammar as class
use Rattle.cgrammar.specs.Grammar.{Class, Piece, token, part, template, home, under, is_wider, class_number, words_number}
use Rattle.cgrammar.specs.Grammar.{operator_level, comparison_level, logical_level, alone, joined}
use Rattle.cgrammar.specs.Text.{Written, leaf, node, Forest, none, more, IsProper, Match, spell}
use Rattle.cgrammar.specs.Text.{spells, dangles, last_dangles, begins_with_else}
use Rattle.creader.specs.Machine.{at, Reaches, here}
use Rattle.creader.proofs.Complete.Reading.{reader, follow, allows, is_statement, has_reader, Reads}
use Rattle.creader.proofs.Complete.Heads.{AllKnown}
use Rattle.creader.proofs.Complete.KnownReads.{known-reads}
use Rattle.creader.proofs.Complete.Kinds.{every_kind, at-kind}
use Rattle.creader.proofs.Complete.Productions.{productions, kept, makers, In, in-makers}
use Rattle.creader.proofs.Complete.Steps.{join, take-step, push}
use Rattle.creader.proofs.Complete.Firsts.{may_begin, Begins, begins-as, implied, no, forest-begins}

-- a token may stand behind a tree of the class
abbrev pub may_follow : Class → Written → Kind → Bool
may_follow c w kind = (is_statement c && not (dangles w)) || allows (follow c) kind

-- a class is read before what begins with a token that may follow
pub reads-before : (c : Class) (w : Written) → Reads c w → (symbols : List Symbol) (values : List Written) (tokens : List Token)
    → Begins (may_follow c w) tokens → Reaches (at (reader c ++ symbols) values (spell w ++ tokens)) (at symbols (w ∷ values) tokens)
reads-before c w r symbols values [] b = absurd b
reads-before c w r symbols values (t ∷ tokens) b = r.reads symbols values t tokens b

-- the same the other way round
pub reads-from : (c : Class) (w : Written)
    → ((symbols : List Symbol) (values : List Written) (tokens : List Token) → Begins (may_follow c w) tokens
    → Reaches (at (reader c ++ symbols) values (spell w ++ tokens)) (at symbols (w ∷ values) tokens)) → Reads c w
reads-from c w h = record { reads = λ symbols values next tokens b. h symbols values (next ∷ tokens) b }

-- the symbols by which the pieces are read
unfoldable pub readers : List Piece → List Symbol
readers [] = []
readers (token t ∷ pieces) = symbol.Take t ∷ readers pieces
readers (part c ∷ pieces) = reader c ++ readers pieces

-- the last piece, or what stands before a part behind an if
unfoldable pub before_end : List Piece → Bool
before_end [] = true
before_end (part class.optional_else ∷ []) = true
before_end _ = false

-- it ends with a statement
unfoldable pub ends_open : List Piece → Bool
ends_open [] = false
ends_open (part c ∷ []) = is_statement c
ends_open (token _ ∷ []) = false
ends_open (_ ∷ piece ∷ pieces) = ends_open (piece ∷ pieces)

-- each part may stand before what can follow it, a statement at the end aside
unfoldable pub fits : List Piece → (Kind → Bool) → Bool
fits [] after = true
fits (token t ∷ pieces) after = fits pieces after
fits (part c ∷ pieces) after = (has_reader c && ((is_statement c && before_end pieces)
    || every_kind (λ kind. not (may_begin pieces after kind) || allows (follow c) kind))) && fits pieces after

-- what stands behind a statement at the end may do so
abbrev pub Ends : List Piece → Forest → List Token → Type 0
Ends pieces f tokens = ends_open pieces ≡ true → Begins (λ kind. not (last_dangles f) || allows (follow class.statement) kind) tokens

-- the same may stand behind what is a statement
pub statement-follow : (c : Class) → is_statement c ≡ true → follow c ≡ follow class.statement
unfolding is_statement follow
statement-follow class.statement h = refl
statement-follow class.optional_else h = refl
statement-follow _ h = absurd (no h)

-- what stands behind the first branch of an if
data IsElse : Production → Type 0 where
  with_else : IsElse make.Else
  without_else : IsElse make.NoElse

-- the two productions behind the first branch
else-list : makers class.optional_else ≡ make.NoElse ∷ make.Else ∷ []
unfolding makers kept productions under home is_wider class_number words_number operator_level comparison_level logical_level alone joined
else-list = refl

-- as a choice
else-makers : (p : Production) → under (home p) class.optional_else ≡ true → IsElse p
else-makers p h = go (rw else-list at (in-makers p class.optional_else h))
  where
    go : In p (make.NoElse ∷ make.Else ∷ []) → IsElse p
    go (inl e) = rw e without_else
    go (inr (inl e)) = rw e with_else
    go (inr (inr e)) = absurd e

-- what may stand behind a statement, by whether it dangles
statement-may : (c : Class) (w : Written) (kind : Kind) → is_statement c ≡ true
    → (not (dangles w) || allows (follow class.statement) kind) ≡ true
    → may_follow c w kind ≡ true
statement-may c w kind s h = let same = statement-follow c s in rw (same, s) h

-- a first branch may stand before its else, and before what stands behind an if that has none
else-may : (c : Class) (w : Written) (q : Production) (h : Forest) (after : Kind → Bool) (tokens : List Token) → IsElse q
    → is_statement c ≡ true
    → Match (part c ∷ part class.optional_else ∷ []) (more w (more (node q h) none)) → Begins after tokens
    → Ends (part c ∷ part class.optional_else ∷ []) (more w (more (node q h) none)) tokens
    → Begins (may_follow c w) (spells (more (node q h) none) ++ tokens)
unfolding Match IsProper template ends_open dangles is_statement begins_with_else
else-may c w q h after tokens with_else s m b e =
    begins-as (may_begin (part class.optional_else ∷ []) after) (may_follow c w) (spells (more (node make.Else h) none) ++ tokens)
    (λ kind _. statement-may c w kind s (or_left _ _ (not_from_false (dangles w) (m.2 refl))))
    (forest-begins (more (node make.Else h) none) (part class.optional_else ∷ []) m.3 after tokens b)
else-may c w q none after tokens without_else s m b e =
    begins-as (λ kind. not true || allows (follow class.statement) kind) (may_follow c w) tokens
    (λ kind h. statement-may c w kind s (or_right (not (dangles w)) _ h)) (e refl)
else-may c w q (more v g) after tokens without_else s m b e = absurd m.3.1

-- a statement may stand before what stands behind it at the end
open-may : (c : Class) (pieces : List Piece) (w : Written) (g : Forest) (after : Kind → Bool) (tokens : List Token) → is_statement c ≡ true
    → before_end pieces ≡ true → Match (part c ∷ pieces) (more w g) → Begins after tokens → Ends (part c ∷ pieces) (more w g) tokens
    → Begins (may_follow c w) (spells g ++ tokens)
unfolding Match before_end ends_open dangles is_statement begins_with_else
open-may c [] w none after tokens s o m b e =
    begins-as (λ kind. not (dangles w) || allows (follow class.statement) kind) (may_follow c w) tokens
    (λ kind h. statement-may c w kind s h) (e s)
open-may c [] w (more v g) after tokens s o m b e = absurd m.3
open-may c (part class.optional_else ∷ []) w none after tokens s o m b e = absurd m.3
open-may c (part class.optional_else ∷ []) w (more (leaf t) g) after tokens s o m b e = absurd m.3.0
open-may c (part class.optional_else ∷ []) w (more (node q h) none) after tokens s o m b e =
    else-may c w q h after tokens (else-makers q m.3.0) s m b e
open-may c (part class.optional_else ∷ []) w (more (node q h) (more v g)) after tokens s o m b e = absurd m.3.3
open-may c _ w g after tokens s o m b e = absurd (no o)

-- each part may stand before what stands behind it
pub child-may : (c : Class) (pieces : List Piece) (w : Written) (g : Forest) (after : Kind → Bool) (tokens : List Token)
    → fits (part c ∷ pieces) after ≡ true → Match (part c ∷ pieces) (more w g) → Begins after tokens
    → Ends (part c ∷ pieces) (more w g) tokens
    → Begins (may_follow c w) (spells g ++ tokens)
unfolding Match fits
child-may c pieces w g after tokens h m b e =
    let front = and_parts _ (fits pieces after) h in
    go (or_cases _ _ (and_parts (has_reader c) _ front.0).1)
  where
    go : ((is_statement c && before_end pieces) ≡ true) ⊎ (every_kind
        (λ kind. not (may_begin pieces after kind) || allows (follow c) kind) ≡ true)
        → Begins (may_follow c w) (spells g ++ tokens)
    go (inl o) = let both = and_parts (is_statement c) (before_end pieces) o in open-may c pieces w g after tokens both.0 both.1 m b e
    go (inr f) =
        begins-as (may_begin pieces after) (may_follow c w) (spells g ++ tokens)
        (λ kind k. or_right _ _ (implied _ _ (at-kind (λ kind. not (may_begin pieces after kind) || allows (follow c) kind) f kind) k))
        (forest-begins g pieces m.3 after tokens b)

-- the same of what stands behind the first of them
ends-later : (piece : Piece) (pieces : List Piece) (w : Written) (g : Forest) (tokens : List Token) → Match pieces g
    → Ends (piece ∷ pieces) (more w g) tokens
    → Ends pieces g tokens
unfolding Match ends_open dangles
ends-later piece [] w g tokens m e o = absurd (no o)
ends-later piece (next ∷ pieces) w none tokens m e o = absurd m
ends-later (token t) (next ∷ pieces) w (more v g) tokens m e o = e o
ends-later (part c) (next ∷ pieces) w (more v g) tokens m e o = e o

-- The parts are read one after another.
pub sequence-reads : (pieces : List Piece) (f : Forest) (after : Kind → Bool) (symbols : List Symbol) (values : List Written)
    (tokens : List Token)
    → fits pieces after ≡ true → Match pieces f → AllKnown f → Begins after tokens → Ends pieces f tokens
    → Reaches (at (readers pieces ++ symbols) values (spells f ++ tokens)) (at symbols (push f values) tokens)
unfolding fits Match readers push AllKnown
sequence-reads [] none after symbols values tokens h m known b e = here
sequence-reads [] (more w g) after symbols values tokens h m known b e = absurd m
sequence-reads (piece ∷ pieces) none after symbols values tokens h m known b e = absurd m
sequence-reads (token t ∷ pieces) (more (leaf x) g) after symbols values tokens h m known b e =
    join (take-step t (readers pieces ++ symbols) values x (spells g ++ tokens) m.0)
    (sequence-reads pieces g after symbols (leaf x ∷ values) tokens h m.3 known.1 b (ends-later (token t) pieces (leaf x) g tokens m.3 e))
sequence-reads (token t ∷ pieces) (more (node q f) g) after symbols values tokens h m known b e = absurd m.0
sequence-reads (part c ∷ pieces) (more w g) after symbols values tokens h m known b e =
    let front = and_parts _ (fits pieces after) h in
    let r = known-reads w c known.0 m.0 (and_parts (has_reader c) _ front.0).0 in
    let one = reads-before c w r (readers pieces ++ symbols) values (spells g ++ tokens) (child-may c pieces w g after tokens h m b e) in
    let others = sequence-reads pieces g after symbols (w ∷ values) tokens front.1 m.3 known.1 b
    (ends-later (part c) pieces w g tokens m.3 e) in
    simp append_assoc (join one others)
