-- How pointers are read: those without qualifiers, and those with some.
use Rattle.std.specs.Prelude.{◌≡◌, Bool, true, false, not, ◌||◌, ◌&&◌, ◌⊎◌, List, [], ◌∷◌, ◌++◌}
use Rattle.std.proofs.Common.{refl, inl, inr, append_assoc}
use Rattle.csyn.specs.declared.token.Token.{Token}
use Rattle.csyn.specs.declared.punctuator.Punctuator.TheVariants as punctuator
use Rattle.cgrammar.specs.declared.kind.Kind.{Kind}
use Rattle.cgrammar.specs.declared.production.Production.{Production}
use Rattle.cgrammar.specs.declared.production.Production.TheVariants as make
use Rattle.cgrammar.specs.declared.terminal.Terminal.TheVariants as terminal
use Rattle.creader.specs.declared.part.Part.{Part}
use Rattle.creader.specs.declared.part.Part.TheVariants as part
use Rattle.creader.specs.declared.part.Move.TheVariants as move
use Rattle.creader.specs.declared.part.Symbol.{Symbol}
use Rattle.creader.specs.declared.part.Symbol.TheVariants as symbol
use Rattle.cgrammar.specs.Kind.{kind_of}
use Rattle.cgrammar.specs.Terminal.{accepts, keyword_number, punctuator_number}
use Rattle.creader.specs.Rules.{any_accepts}
use Rattle.cgrammar.specs.Grammar as class
use Rattle.cgrammar.specs.Grammar.{template, home, under, is_wider, class_number, words_number}
use Rattle.cgrammar.specs.Grammar.{operator_level, comparison_level, logical_level, alone, joined}
use Rattle.cgrammar.specs.Text.{Written, leaf, node, Forest, none, more, IsProper, Match, Stands, spell, spells}
use Rattle.creader.specs.Machine.{at, Reaches}
use Rattle.creader.proofs.Complete.Reading.{reader, follow, allows, is_statement, has_reader, Reads}
use Rattle.creader.proofs.Complete.KnownReads.{known-reads}
use Rattle.creader.proofs.Complete.Kinds.{kinds, each, every_kind, at-kind}
use Rattle.creader.proofs.Complete.Steps.{join, push}
use Rattle.creader.proofs.Complete.Productions.{productions, kept, makers, In, in-makers}
use Rattle.creader.proofs.Complete.Firsts.{sign, Begins, begins-as, implied, no, may_begin, forest-begins, written-begins, firsts, nullable}
use Rattle.creader.proofs.Complete.Sequence.{may_follow, reads-before, reads-from}
use Rattle.creader.proofs.Complete.Rule.{rule_check, rule_shape, Chosen, part-take, part-stay, stay-at, back-take, made-step}
use Rattle.creader.proofs.Complete.Deep.{Deep, Deeps, deep-known, Below, deep-below}

-- some tokens
abbrev pub is_star : Kind → Bool
is_star = accepts (sign punctuator.Star)

abbrev pub is_qualifier : Kind → Bool
is_qualifier = accepts terminal.Qualifier

abbrev pub not_qualifier : Kind → Bool
not_qualifier kind = not (is_qualifier kind)

-- the productions that make pointers
stars-list : makers class.stars ≡ make.NoPointers ∷ make.Star ∷ []
unfolding makers kept productions under home is_wider class_number words_number operator_level comparison_level logical_level alone joined
stars-list = refl

qualified-list : makers class.qualified ≡ make.QualifiedPointer ∷ make.NextPointer ∷ []
unfolding makers kept productions under home is_wider class_number words_number operator_level comparison_level logical_level alone joined
qualified-list = refl

pointers-list : makers class.pointers ≡ make.NoPointers ∷ make.Star ∷ make.QualifiedPointer ∷ make.NextPointer ∷ []
unfolding makers kept productions under home is_wider class_number words_number operator_level comparison_level logical_level alone joined
pointers-list = refl

-- the parts by which stars are read one by one
pub record Starred (tail after : Part) : Type 0 where
  pub starred : Chosen tail is_star move.Take (symbol.Read after ∷ [])
  pub bare : Chosen after not_qualifier move.Stay (symbol.Reduce make.Star ∷ symbol.Read tail ∷ [])

-- among pointers, and in a parameter
pub stars-tail : Starred part.StarsTail part.AfterStar
unfolding rule_check rule_shape
stars-tail = record {
  starred = record { index = 0; checked = refl; found = refl };
  bare = record { index = 1; checked = refl; found = refl };
}

pub parameter-tail : Starred part.ParameterTail part.ParameterAfterStar
unfolding rule_check rule_shape
parameter-tail = record {
  starred = record { index = 0; checked = refl; found = refl };
  bare = record { index = 1; checked = refl; found = refl };
}

-- a star is no qualifier
star-no-qualifier : (kind : Kind) → is_star kind ≡ true → not_qualifier kind ≡ true
unfolding every_kind kinds each accepts keyword_number punctuator_number
star-no-qualifier kind h = implied _ _ (at-kind (λ k. not (is_star k) || not_qualifier k) all kind) h
  where
    all : every_kind (λ k. not (is_star k) || not_qualifier k) ≡ true
    all = refl

-- the same as tests
unfoldable makes_stars : Production → Bool
makes_stars make.NoPointers = true
makes_stars make.Star = true
makes_stars _ = false

unfoldable makes_qualified : Production → Bool
makes_qualified make.QualifiedPointer = true
makes_qualified make.NextPointer = true
makes_qualified _ = false

stars-makers : (p : Production) → under (home p) class.stars ≡ true → makes_stars p ≡ true
unfolding makes_stars
stars-makers p h = go (rw stars-list at (in-makers p class.stars h))
  where
    go : In p (make.NoPointers ∷ make.Star ∷ []) → makes_stars p ≡ true
    go (inl e) = rw e refl
    go (inr (inl e)) = rw e refl
    go (inr (inr e)) = absurd e

qualified-makers : (p : Production) → under (home p) class.qualified ≡ true → makes_qualified p ≡ true
unfolding makes_qualified
qualified-makers p h = go (rw qualified-list at (in-makers p class.qualified h))
  where
    go : In p (make.QualifiedPointer ∷ make.NextPointer ∷ []) → makes_qualified p ≡ true
    go (inl e) = rw e refl
    go (inr (inl e)) = rw e refl
    go (inr (inr e)) = absurd e

-- pointers are of the one class or the other
pointers-ways : (p : Production) → under (home p) class.pointers ≡ true
    → (under (home p) class.stars ≡ true) ⊎ (under (home p) class.qualified ≡ true)
unfolding under home class_number is_wider
pointers-ways p h = go (rw pointers-list at (in-makers p class.pointers h))
  where
    go : In p (make.NoPointers ∷ make.Star ∷ make.QualifiedPointer ∷ make.NextPointer ∷ [])
        → (under (home p) class.stars ≡ true) ⊎ (under (home p) class.qualified ≡ true)
    go (inl e) = inl (rw e refl)
    go (inr (inl e)) = inl (rw e refl)
    go (inr (inr (inl e))) = inr (rw e refl)
    go (inr (inr (inr (inl e)))) = inr (rw e refl)
    go (inr (inr (inr (inr e)))) = absurd e

-- one more star, and no qualifier
star-reads : (tail after : Part) → Starred tail after → (c : Written) (x : Token) → Match (template make.Star) (more c (more (leaf x) none))
    → (symbols : List Symbol) (values : List Written) (tokens : List Token) → Begins not_qualifier tokens
    → Reaches (at (symbol.Read tail ∷ symbols) (c ∷ values) (x ∷ tokens))
    (at (symbol.Read tail ∷ symbols) (node make.Star (more c (more (leaf x) none)) ∷ values) tokens)
unfolding template Match push
star-reads tail after s c x m symbols values [] b = absurd b
star-reads tail after s c x m symbols values (y ∷ tokens) b =
    join (part-take tail is_star _ symbols (c ∷ values) x (y ∷ tokens) s.starred m.3.0)
    (join (part-stay after not_qualifier _ symbols (leaf x ∷ c ∷ values) y tokens s.bare b)
    (made-step make.Star (more c (more (leaf x) none)) (symbol.Read tail ∷ symbols) values (y ∷ tokens) m))

-- Stars are read one by one, and what may go on with them is left to read.
pub stars-read : (tail after : Part) → Starred tail after → (w : Written) → Stands (class.part class.stars) w → IsProper w
    → (symbols : List Symbol) (values : List Written) (tokens : List Token) → Begins not_qualifier tokens
    → Reaches (at (symbol.Reduce make.NoPointers ∷ symbol.Read tail ∷ symbols) values (spell w ++ tokens))
    (at (symbol.Read tail ∷ symbols) (w ∷ values) tokens)
unfolding IsProper template makes_stars push
stars-read tail after s (leaf t) st m symbols values tokens b = absurd st
stars-read tail after s (node make.NoPointers none) st m symbols values tokens b =
    made-step make.NoPointers none (symbol.Read tail ∷ symbols) values tokens m
stars-read tail after s (node make.NoPointers (more c f)) st m symbols values tokens b = absurd m
stars-read tail after s (node make.Star none) st m symbols values tokens b = absurd m
stars-read tail after s (node make.Star (more c none)) st m symbols values tokens b = absurd m.3
stars-read tail after s (node make.Star (more c (more (leaf x) none))) st m symbols values tokens b =
    let whole = stars-read tail after s c m.0 m.1 symbols values (x ∷ tokens) (star-no-qualifier (kind_of x) m.3.0) in
    rw append_assoc (join whole (star-reads tail after s c x m symbols values tokens b))
stars-read tail after s (node make.Star (more c (more (leaf x) (more d f)))) st m symbols values tokens b = absurd m.3.3
stars-read tail after s (node make.Star (more c (more (node q g) f))) st m symbols values tokens b = absurd m.3.0
stars-read tail after s (node p f) st m symbols values tokens b = absurd (no (stars-makers p st))

-- the parts by which a star and qualifiers behind it are read
record Marked (tail after : Part) : Type 0 where
  starred : Chosen tail is_star move.Take (symbol.Read after ∷ [])
  marked : Chosen after is_qualifier move.Take
      (symbol.Read part.Qualifiers ∷ symbol.Reduce make.Qualified ∷ symbol.Reduce make.QualifiedPointer
      ∷ symbol.Read part.PointersTail ∷ [])

-- behind stars, and behind pointers of which some are qualified
stars-marked : Marked part.StarsTail part.AfterStar
unfolding rule_check rule_shape
stars-marked = record {
  starred = record { index = 0; checked = refl; found = refl };
  marked = record { index = 0; checked = refl; found = refl };
}

pointers-marked : Marked part.PointersTail part.AfterNextStar
unfolding rule_check rule_shape
pointers-marked = record {
  starred = record { index = 0; checked = refl; found = refl };
  marked = record { index = 0; checked = refl; found = refl };
}

-- a star without a qualifier behind these
next-star : Chosen part.AfterNextStar not_qualifier move.Stay (symbol.Reduce make.NextPointer ∷ symbol.Read part.PointersTail ∷ [])
unfolding rule_check rule_shape
next-star = record { index = 1; checked = refl; found = refl }

qualifiers-first : Chosen part.Qualifiers is_qualifier move.Take (symbol.Read part.Qualifiers ∷ symbol.Reduce make.Qualified ∷ [])
unfolding rule_check rule_shape
qualifiers-first = record { index = 0; checked = refl; found = refl }

-- qualifiers stand before what is none, and begin with one
qualifiers-may : (d : Written) (kind : Kind) → not_qualifier kind ≡ true → may_follow class.some_qualifiers d kind ≡ true
unfolding is_statement follow allows any_accepts
qualifiers-may d kind h = go (is_qualifier kind) h
  where
    go : (b : Bool) → not b ≡ true → not (b || false) ≡ true
    go true h = h
    go false h = h

qualifiers-begin : (d : Written) → IsProper d → Stands (class.part class.some_qualifiers) d → (tokens : List Token)
    → Begins not_qualifier tokens
    → Begins is_qualifier (spell d ++ tokens)
unfolding any_accepts firsts nullable
qualifiers-begin d m s tokens b =
    begins-as (λ kind. any_accepts (firsts class.some_qualifiers) kind || (nullable class.some_qualifiers && not_qualifier kind))
    is_qualifier (spell d ++ tokens)
    (λ kind h. go (is_qualifier kind) h) (written-begins d m class.some_qualifiers s not_qualifier tokens b)
  where
    go : (b : Bool) → ((b || false) || false) ≡ true → b ≡ true
    go true h = refl
    go false h = h

-- qualifiers behind a star, as if they were read by themselves
qualifier-join : (after : Part) → Chosen after is_qualifier move.Take
    (symbol.Read part.Qualifiers ∷ symbol.Reduce make.Qualified ∷ symbol.Reduce make.QualifiedPointer ∷ symbol.Read part.PointersTail ∷ [])
    → (symbols : List Symbol) (values others : List Written) (tokens left : List Token) → Begins is_qualifier tokens
    → Reaches (at (symbol.Read part.Qualifiers ∷ symbol.Reduce make.QualifiedPointer ∷ symbol.Read part.PointersTail ∷ symbols)
    values tokens)
    (at (symbol.Reduce make.QualifiedPointer ∷ symbol.Read part.PointersTail ∷ symbols) others left)
    → Reaches (at (symbol.Read after ∷ symbols) values tokens)
    (at (symbol.Reduce make.QualifiedPointer ∷ symbol.Read part.PointersTail ∷ symbols) others left)
qualifier-join after c symbols values others [] left b reached = absurd b
qualifier-join after c symbols values others (q ∷ tokens) left b reached =
    let behind = symbol.Reduce make.QualifiedPointer ∷ symbol.Read part.PointersTail ∷ symbols in
    join (part-take after is_qualifier _ symbols values q tokens c b)
    (back-take [] behind values others left part.Qualifiers is_qualifier _ q tokens qualifiers-first b reached)

-- a star and qualifiers
marked-reads : (tail after : Part) → Marked tail after → (c : Written) (x : Token) (d : Written)
    → Match (template make.QualifiedPointer) (more c (more (leaf x) (more d none))) → Deep d
    → (symbols : List Symbol) (values : List Written) (tokens : List Token) → Begins not_qualifier tokens
    → Reaches (at (symbol.Read tail ∷ symbols) (c ∷ values) (x ∷ spell d ++ tokens))
    (at (symbol.Read part.PointersTail ∷ symbols) (node make.QualifiedPointer (more c (more (leaf x) (more d none))) ∷ values) tokens)
unfolding template Match push has_reader reader
marked-reads tail after s c x d m deep symbols values tokens b =
    let behind = symbol.Reduce make.QualifiedPointer ∷ symbol.Read part.PointersTail ∷ symbols in
    let r = known-reads d class.some_qualifiers (deep-known d deep) m.3.3.0 refl in
    let whole = reads-before class.some_qualifiers d r behind (leaf x ∷ c ∷ values) tokens
    (begins-as not_qualifier (may_follow class.some_qualifiers d) tokens (qualifiers-may d) b) in
    join (part-take tail is_star _ symbols (c ∷ values) x (spell d ++ tokens) s.starred m.3.0)
    (join (qualifier-join after s.marked symbols (leaf x ∷ c ∷ values) (d ∷ leaf x ∷ c ∷ values) (spell d ++ tokens) tokens
    (qualifiers-begin d m.3.3.1 m.3.3.0 tokens b) whole)
    (made-step make.QualifiedPointer (more c (more (leaf x) (more d none))) (symbol.Read part.PointersTail ∷ symbols) values tokens m))

-- a star behind qualifiers
next-reads : (c : Written) (x : Token) → Match (template make.NextPointer) (more c (more (leaf x) none))
    → (symbols : List Symbol) (values : List Written) (tokens : List Token) → Begins not_qualifier tokens
    → Reaches (at (symbol.Read part.PointersTail ∷ symbols) (c ∷ values) (x ∷ tokens))
    (at (symbol.Read part.PointersTail ∷ symbols) (node make.NextPointer (more c (more (leaf x) none)) ∷ values) tokens)
unfolding template Match push
next-reads c x m symbols values [] b = absurd b
next-reads c x m symbols values (y ∷ tokens) b =
    join (part-take part.PointersTail is_star _ symbols (c ∷ values) x (y ∷ tokens) pointers-marked.starred m.3.0)
    (join (part-stay part.AfterNextStar not_qualifier _ symbols (leaf x ∷ c ∷ values) y tokens next-star b)
    (made-step make.NextPointer (more c (more (leaf x) none)) (symbol.Read part.PointersTail ∷ symbols) values (y ∷ tokens) m))

-- read from the first star on, with what may go on with them left to read
abbrev Qualified : Written → Type 0
Qualified w = (symbols : List Symbol) (values : List Written) (tokens : List Token) → Begins not_qualifier tokens
    → Reaches (at (symbol.Reduce make.NoPointers ∷ symbol.Read part.StarsTail ∷ symbols) values (spell w ++ tokens))
    (at (symbol.Read part.PointersTail ∷ symbols) (w ∷ values) tokens)

-- pointers of either class, and a star and qualifiers
qualifiers-read : (c : Written) (x : Token) (d : Written) → Match (template make.QualifiedPointer) (more c (more (leaf x) (more d none)))
    → (Stands (class.part class.qualified) c → Qualified c) → Deep d
    → Qualified (node make.QualifiedPointer (more c (more (leaf x) (more d none))))
unfolding template Match
qualifiers-read (leaf t) x d m ih deep symbols values tokens b = absurd m.0
qualifiers-read (node p g) x d m ih deep symbols values tokens b = simp append_assoc (go (pointers-ways p m.0))
  where
    c : Written
    c = node p g

    behind : Begins not_qualifier (x ∷ spell d ++ tokens)
    behind = star-no-qualifier (kind_of x) m.3.0

    Goal : Type 0
    Goal = Reaches (at (symbol.Reduce make.NoPointers ∷ symbol.Read part.StarsTail ∷ symbols) values (spell c ++ (x ∷ spell d ++ tokens)))
        (at (symbol.Read part.PointersTail ∷ symbols) (node make.QualifiedPointer (more c (more (leaf x) (more d none))) ∷ values) tokens)

    go : (under (home p) class.stars ≡ true) ⊎ (under (home p) class.qualified ≡ true) → Goal
    go (inl e) =
        join (stars-read part.StarsTail part.AfterStar stars-tail c e m.1 symbols values (x ∷ spell d ++ tokens) behind)
        (marked-reads part.StarsTail part.AfterStar stars-marked c x d m deep symbols values tokens b)
    go (inr e) =
        join (ih e symbols values (x ∷ spell d ++ tokens) behind)
        (marked-reads part.PointersTail part.AfterNextStar pointers-marked c x d m deep symbols values tokens b)

-- Pointers of which some are qualified.
qualified-read : (w : Written) → Stands (class.part class.qualified) w → IsProper w → Below w → Qualified w
unfolding IsProper template makes_qualified Deep Below
qualified-read (leaf t) st m deep symbols values tokens b = absurd st
qualified-read (node make.QualifiedPointer none) st m deep symbols values tokens b = absurd m
qualified-read (node make.QualifiedPointer (more c none)) st m deep symbols values tokens b = absurd m.3
qualified-read (node make.QualifiedPointer (more c (more x none))) st m deep symbols values tokens b = absurd m.3.3
qualified-read (node make.QualifiedPointer (more c (more (leaf x) (more d none)))) st m deep symbols values tokens b =
    qualifiers-read c x d m (λ st'. qualified-read c st' m.1 (deep-below c deep.0)) deep.1.1.0 symbols values tokens b
qualified-read (node make.QualifiedPointer (more c (more (leaf x) (more d (more e f))))) st m deep symbols values tokens b = absurd m.3.3.3
qualified-read (node make.QualifiedPointer (more c (more (node p g) (more d f)))) st m deep symbols values tokens b = absurd m.3.0
qualified-read (node make.NextPointer none) st m deep symbols values tokens b = absurd m
qualified-read (node make.NextPointer (more c none)) st m deep symbols values tokens b = absurd m.3
qualified-read (node make.NextPointer (more c (more (leaf x) none))) st m deep symbols values tokens b =
    let whole = qualified-read c m.0 m.1 (deep-below c deep.0) symbols values (x ∷ tokens) (star-no-qualifier (kind_of x) m.3.0) in
    simp append_assoc (join whole (next-reads c x m symbols values tokens b))
qualified-read (node make.NextPointer (more c (more (leaf x) (more d f)))) st m deep symbols values tokens b = absurd m.3.3
qualified-read (node make.NextPointer (more c (more (node q g) f))) st m deep symbols values tokens b = absurd m.3.0
qualified-read (node p f) st m deep symbols values tokens b = absurd (no (qualified-makers p st))

-- the rules at the beginning and the end
pub pointers-first : Chosen part.Pointers (λ _. true) move.Stay (symbol.Reduce make.NoPointers ∷ symbol.Read part.StarsTail ∷ [])
unfolding rule_check rule_shape
pointers-first = record { index = 0; checked = refl; found = refl }

abbrev pub not_star : Kind → Bool
not_star kind = not (is_star kind)

pub stars-end : Chosen part.StarsTail not_star move.Stay []
unfolding rule_check rule_shape
stars-end = record { index = 1; checked = refl; found = refl }

pointers-end : Chosen part.PointersTail not_star move.Stay []
unfolding rule_check rule_shape
pointers-end = record { index = 1; checked = refl; found = refl }

-- what may stand behind pointers is neither a star nor a qualifier
pointers-may : (w : Written) (kind : Kind) → may_follow class.pointers w kind ≡ true → (not_qualifier kind ≡ true) × (not_star kind ≡ true)
unfolding is_statement follow allows any_accepts
pointers-may w kind h = go (is_star kind) (is_qualifier kind) h
  where
    go : (s q : Bool) → not (s || (q || false)) ≡ true → (not q ≡ true) × (not s ≡ true)
    go true q h = absurd (no h)
    go false true h = absurd (no h)
    go false false h = (refl, refl)

-- pointers are read before what is neither a star nor a qualifier
pub pointers-read : (p : Production) (f : Forest) → under (home p) class.pointers ≡ true → Match (template p) f → Deeps f
    → Reads class.pointers (node p f)
unfolding reader IsProper Below
pointers-read p f u m deep = reads-from class.pointers (node p f) (λ symbols values tokens b.
    join (stay-at part.Pointers (λ _. true) _ symbols values (spell (node p f) ++ tokens) pointers-first
    (begins-as (may_begin (template p) (may_follow class.pointers (node p f))) (λ _. true) (spell (node p f) ++ tokens)
    (λ _ _. refl) (forest-begins f (template p) m (may_follow class.pointers (node p f)) tokens b)))
    (go symbols values tokens b (pointers-ways p u)))
  where
    go : (symbols : List Symbol) (values : List Written) (tokens : List Token) → Begins (may_follow class.pointers (node p f)) tokens
        → (under (home p) class.stars ≡ true) ⊎ (under (home p) class.qualified ≡ true)
        → Reaches (at (symbol.Reduce make.NoPointers ∷ symbol.Read part.StarsTail ∷ symbols) values (spells f ++ tokens))
        (at symbols (node p f ∷ values) tokens)
    go symbols values tokens b (inl e) =
        join (stars-read part.StarsTail part.AfterStar stars-tail (node p f) e m symbols values tokens
        (begins-as (may_follow class.pointers (node p f)) not_qualifier tokens (λ kind h. (pointers-may (node p f) kind h).0) b))
        (stay-at part.StarsTail not_star [] symbols (node p f ∷ values) tokens stars-end
        (begins-as (may_follow class.pointers (node p f)) not_star tokens (λ kind h. (pointers-may (node p f) kind h).1) b))
    go symbols values tokens b (inr e) =
        join (qualified-read (node p f) e m deep symbols values tokens
        (begins-as (may_follow class.pointers (node p f)) not_qualifier tokens (λ kind h. (pointers-may (node p f) kind h).0) b))
        (stay-at part.PointersTail not_star [] symbols (node p f ∷ values) tokens pointers-end
        (begins-as (may_follow class.pointers (node p f)) not_star tokens (λ kind h. (pointers-may (node p f) kind h).1) b))

-- stars are pointers
pub stars-pointers : (w : Written) → Stands (class.part class.stars) w → Stands (class.part class.pointers) w
unfolding under home class_number is_wider
stars-pointers (leaf t) s = s
stars-pointers (node p f) s = go (rw stars-list at (in-makers p class.stars s))
  where
    go : In p (make.NoPointers ∷ make.Star ∷ []) → under (home p) class.pointers ≡ true
    go (inl e) = rw e refl
    go (inr (inl e)) = rw e refl
    go (inr (inr e)) = absurd e
