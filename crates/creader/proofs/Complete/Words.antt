-- How the words of an integer type are read.
use Rattle.std.specs.Prelude.{◌≡◌, Bool, true, false, not, ◌⊎◌, List, [], ◌∷◌, ◌++◌}
use Rattle.std.proofs.Common.{refl, subst, ap, inl, inr, append_assoc}
use Rattle.csyn.specs.declared.token.Token.{Token}
use Rattle.cgrammar.specs.declared.production.Word.{Word}
use Rattle.cgrammar.specs.declared.production.Word.TheVariants as kind
use Rattle.cgrammar.specs.declared.production.Words.{Words}
use Rattle.cgrammar.specs.declared.production.Words.TheVariants as every
use Rattle.cgrammar.specs.declared.production.Production.{Production}
use Rattle.cgrammar.specs.declared.production.Production.TheVariants as make
use Rattle.creader.specs.declared.part.Part.TheVariants as part
use Rattle.creader.specs.declared.part.Move.TheVariants as move
use Rattle.creader.specs.declared.part.Symbol.{Symbol}
use Rattle.creader.specs.declared.part.Symbol.TheVariants as symbol
use Rattle.cgrammar.specs.Terminal.{accepts}
use Rattle.creader.specs.Rules.{any_accepts}
use Rattle.cgrammar.specs.Grammar as class
use Rattle.cgrammar.specs.Grammar.{Class, under, is_wider, template, home, word_token, alone, before, joined}
use Rattle.cgrammar.specs.Text.{Written, leaf, node, Forest, none, more, IsProper, Match, Stands, spell, spells}
use Rattle.creader.specs.Machine.{at, Reaches}
use Rattle.creader.proofs.Complete.Reading.{reader, follow, allows, is_statement, Reads}
use Rattle.creader.proofs.Complete.Classes.{under-ways, same-under}
use Rattle.creader.proofs.Complete.Steps.{join, push}
use Rattle.creader.proofs.Complete.Firsts.{integer_words, Begins, no}
use Rattle.creader.proofs.Complete.Sequence.{may_follow, reads-from}
use Rattle.creader.proofs.Complete.Rule.{rule_check, rule_shape, Chosen, part-take, part-stay, made-step}

-- what stands where these words are wanted is of their class
none-wider : (a : Class) (ws : Words) → is_wider a (class.words ws) ≡ true → ⊥
unfolding is_wider
none-wider (class.level _) ws h = no h
none-wider class.callee ws h = no h
none-wider (class.words _) ws h = no h
none-wider class.stars ws h = no h
none-wider class.qualified ws h = no h
none-wider class.some_qualifiers ws h = no h
none-wider _ ws h = no h

words-home : (a : Class) (ws : Words) → under a (class.words ws) ≡ true → a ≡ class.words ws
words-home a ws u = go (under-ways a (class.words ws) u)
  where
    go : (a ≡ class.words ws) ⊎ (is_wider a (class.words ws) ≡ true) → a ≡ class.words ws
    go (inl e) = e
    go (inr w) = absurd (none-wider a ws w)

-- a first word, and what is left to read behind it
first-word : (w : Word) → Chosen part.Base (accepts (word_token w)) move.Take
    (symbol.Reduce (make.FirstWord w) ∷ symbol.Read (part.Words (alone w)) ∷ symbol.Reduce make.IntegerBase ∷ [])
unfolding rule_check rule_shape word_token alone
first-word kind.Sign = record { index = 3; checked = refl; found = refl }
first-word kind.Char = record { index = 4; checked = refl; found = refl }
first-word kind.Length = record { index = 5; checked = refl; found = refl }
first-word kind.Int = record { index = 6; checked = refl; found = refl }

-- a further word: the words before it, and the rule by which it is read behind them
record Further (all : Words) (w : Word) : Type 0 where
  earlier : Words
  before_is : before all w ≡ class.words earlier
  chosen : Chosen (part.Words earlier) (accepts (word_token w)) move.Take
      (symbol.Reduce (make.NextWord all w) ∷ symbol.Read (part.Words all) ∷ [])

-- each further word has such a rule
further : (all : Words) (w : Word) (ws : Words) → joined all w ≡ class.words ws → (all ≡ ws) × Further all w
unfolding joined before word_token rule_check rule_shape
further every.SignChar kind.Char ws h = (
  cc,
  record {
    earlier = every.Sign;
    before_is = refl;
    chosen =
        record { index = 0; checked = refl; found = refl };
  },
)
further every.SignLength kind.Length ws h = (
  cc,
  record {
    earlier = every.Sign;
    before_is = refl;
    chosen =
        record { index = 1; checked = refl; found = refl };
  },
)
further every.SignInt kind.Int ws h = (
  cc,
  record {
    earlier = every.Sign;
    before_is = refl;
    chosen =
        record { index = 2; checked = refl; found = refl };
  },
)
further every.SignChar kind.Sign ws h = (
  cc,
  record {
    earlier = every.Char;
    before_is = refl;
    chosen =
        record { index = 0; checked = refl; found = refl };
  },
)
further every.SignLength kind.Sign ws h = (
  cc,
  record {
    earlier = every.Length;
    before_is = refl;
    chosen =
        record { index = 0; checked = refl; found = refl };
  },
)
further every.LengthInt kind.Int ws h = (
  cc,
  record {
    earlier = every.Length;
    before_is = refl;
    chosen =
        record { index = 1; checked = refl; found = refl };
  },
)
further every.SignInt kind.Sign ws h = (
  cc,
  record {
    earlier = every.Int;
    before_is = refl;
    chosen =
        record { index = 0; checked = refl; found = refl };
  },
)
further every.LengthInt kind.Length ws h = (
  cc,
  record {
    earlier = every.Int;
    before_is = refl;
    chosen =
        record { index = 1; checked = refl; found = refl };
  },
)
further every.SignLengthInt kind.Int ws h = (
  cc,
  record {
    earlier = every.SignLength;
    before_is = refl;
    chosen =
        record { index = 0; checked = refl; found = refl };
  },
)
further every.SignLengthInt kind.Length ws h = (
  cc,
  record {
    earlier = every.SignInt;
    before_is = refl;
    chosen =
        record { index = 0; checked = refl; found = refl };
  },
)
further every.SignLengthInt kind.Sign ws h = (
  cc,
  record {
    earlier = every.LengthInt;
    before_is = refl;
    chosen =
        record { index = 0; checked = refl; found = refl };
  },
)
further _ _ ws h = cc

-- behind the last word
words-end : (ws : Words) → Chosen (part.Words ws) (λ k. not (any_accepts integer_words k)) move.Stay []
unfolding rule_check rule_shape
words-end every.Sign = record { index = 3; checked = refl; found = refl }
words-end every.Char = record { index = 1; checked = refl; found = refl }
words-end every.Length = record { index = 2; checked = refl; found = refl }
words-end every.Int = record { index = 2; checked = refl; found = refl }
words-end every.SignChar = record { index = 0; checked = refl; found = refl }
words-end every.SignLength = record { index = 1; checked = refl; found = refl }
words-end every.SignInt = record { index = 1; checked = refl; found = refl }
words-end every.LengthInt = record { index = 1; checked = refl; found = refl }
words-end every.SignLengthInt = record { index = 0; checked = refl; found = refl }

-- the productions that make words
unfoldable is_words : Class → Bool
is_words (class.words _) = true
is_words _ = false

unfoldable adds_word : Production → Bool
adds_word (make.FirstWord _) = true
adds_word (make.NextWord _ _) = true
adds_word _ = false

-- no other production makes words
adds-word : (p : Production) → is_words (home p) ≡ true → adds_word p ≡ true
unfolding is_words adds_word home
adds-word (make.FirstWord _) h = refl
adds-word (make.NextWord _ _) h = refl
adds-word _ h = absurd (no h)

words-added : (p : Production) (ws : Words) → home p ≡ class.words ws → adds_word p ≡ true
unfolding is_words
words-added p ws e = adds-word p (ap is_words e)

-- the first word
first-reads : (w : Word) (f : Forest) (ws : Words) → alone w ≡ ws → Match (template (make.FirstWord w)) f
    → (symbols : List Symbol) (values : List Written) (tokens : List Token)
    → Reaches (at (symbol.Read part.Base ∷ symbols) values (spells f ++ tokens))
    (at (symbol.Read (part.Words ws) ∷ symbol.Reduce make.IntegerBase ∷ symbols) (node (make.FirstWord w) f ∷ values) tokens)
unfolding template Match push
first-reads w none ws e m symbols values tokens = absurd m
first-reads w (more (node q g) f) ws e m symbols values tokens = absurd m.0
first-reads w (more (leaf x) (more d f)) ws e m symbols values tokens = absurd m.3
first-reads w (more (leaf x) none) ws e m symbols values tokens =
    let left = symbol.Read (part.Words (alone w)) ∷ symbol.Reduce make.IntegerBase ∷ symbols in
    let front = part-take part.Base (accepts (word_token w)) _ symbols values x tokens (first-word w) m.0 in
    let whole = join front (made-step (make.FirstWord w) (more (leaf x) none) left values tokens m) in
    rw e at whole

-- a further word
further-reads : (all : Words) (w : Word) (c : Written) (x : Token) (ws : Words) (f : Further all w) → all ≡ ws
    → Match (template (make.NextWord all w)) (more c (more (leaf x) none))
    → (symbols : List Symbol) (values : List Written) (tokens : List Token)
    → Reaches (at (symbol.Read (part.Words f.earlier) ∷ symbol.Reduce make.IntegerBase ∷ symbols) (c ∷ values) (x ∷ tokens))
    (at (symbol.Read (part.Words ws) ∷ symbol.Reduce make.IntegerBase ∷ symbols)
    (node (make.NextWord all w) (more c (more (leaf x) none)) ∷ values) tokens)
unfolding template Match push
further-reads all w c x ws f e m symbols values tokens =
    let left = symbol.Reduce make.IntegerBase ∷ symbols in
    let front = part-take (part.Words f.earlier) (accepts (word_token w)) _ left (c ∷ values) x tokens f.chosen m.3.0 in
    let whole = join front (made-step (make.NextWord all w) (more c (more (leaf x) none)) (symbol.Read (part.Words all) ∷ left)
    values tokens m) in
    subst (λ (v : Words). Reaches (at (symbol.Read (part.Words f.earlier) ∷ left) (c ∷ values) (x ∷ tokens))
    (at (symbol.Read (part.Words v) ∷ left) (node (make.NextWord all w) (more c (more (leaf x) none)) ∷ values) tokens)) e whole

-- The words of a type are read from its base on, and what may go on with them is left to read.
words-read : (w : Written) (ws : Words) → Stands (class.part (class.words ws)) w → IsProper w
    → (symbols : List Symbol) (values : List Written) (tokens : List Token)
    → Reaches (at (symbol.Read part.Base ∷ symbols) values (spell w ++ tokens))
    (at (symbol.Read (part.Words ws) ∷ symbol.Reduce make.IntegerBase ∷ symbols) (w ∷ values) tokens)
unfolding IsProper template home adds_word
words-read (leaf t) ws s m symbols values tokens = absurd s
words-read (node (make.FirstWord w) f) ws s m symbols values tokens =
    let same = words-home (class.words (alone w)) ws s in
    first-reads w f ws (cc) m symbols values tokens
words-read (node (make.NextWord all w) none) ws s m symbols values tokens = absurd m
words-read (node (make.NextWord all w) (more c none)) ws s m symbols values tokens = absurd m.3
words-read (node (make.NextWord all w) (more c (more (leaf x) none))) ws s m symbols values tokens =
    let found = further all w ws (words-home (joined all w) ws s) in
    let is = (found.1).before_is in
    let whole = words-read c (found.1).earlier (rw is at m.0) m.1 symbols values (x ∷ tokens) in
    rw append_assoc (join whole (further-reads all w c x ws found.1 found.0 m symbols values tokens))
words-read (node (make.NextWord all w) (more c (more (leaf x) (more d f)))) ws s m symbols values tokens = absurd m.3.3
words-read (node (make.NextWord all w) (more c (more (node q g) f))) ws s m symbols values tokens = absurd m.3.0
words-read (node p f) ws s m symbols values tokens = absurd (no (words-added p ws (words-home (home p) ws s)))

-- nothing is an integer but words
unfoldable is_integer : Class → Bool
is_integer class.integer = true
is_integer _ = false

no-integer : (p : Production) → is_integer (home p) ≡ true → ⊥
unfolding is_integer home joined
no-integer (make.NextWord every.Sign kind.Sign) h = no h
no-integer (make.NextWord every.Char kind.Sign) h = no h
no-integer (make.NextWord every.Length kind.Sign) h = no h
no-integer (make.NextWord every.Int kind.Sign) h = no h
no-integer (make.NextWord every.SignChar kind.Sign) h = no h
no-integer (make.NextWord every.SignLength kind.Sign) h = no h
no-integer (make.NextWord every.SignInt kind.Sign) h = no h
no-integer (make.NextWord every.LengthInt kind.Sign) h = no h
no-integer (make.NextWord every.SignLengthInt kind.Sign) h = no h
no-integer (make.NextWord _ _) h = no h
no-integer _ h = no h

integer-words : (c : Class) → is_wider c class.integer ≡ true → (ws : Words) × (c ≡ class.words ws)
unfolding is_wider
integer-words (class.words ws) h = (ws, refl)
integer-words (class.level _) h = absurd (no h)
integer-words class.callee h = absurd (no h)
integer-words class.stars h = absurd (no h)
integer-words class.qualified h = absurd (no h)
integer-words class.some_qualifiers h = absurd (no h)
integer-words _ h = absurd (no h)

-- what stands as an integer is some words
integer-home : (p : Production) → under (home p) class.integer ≡ true → (ws : Words) × (home p ≡ class.words ws)
unfolding is_integer
integer-home p u = go (under-ways (home p) class.integer u)
  where
    go : (home p ≡ class.integer) ⊎ (is_wider (home p) class.integer ≡ true) → (ws : Words) × (home p ≡ class.words ws)
    go (inl e) = absurd (no-integer p (ap is_integer e))
    go (inr h) = integer-words (home p) h

is-words : (p : Production) (ws : Words) → home p ≡ class.words ws → under (home p) (class.words ws) ≡ true
is-words p ws e = rw e (same-under (class.words ws))

-- no word stands behind them
ended : (ws : Words) (w : Written) (symbols : List Symbol) (values : List Written) (tokens : List Token)
    → Begins (may_follow class.base w) tokens
    → Reaches (at (symbol.Read (part.Words ws) ∷ symbols) values tokens) (at symbols values tokens)
unfolding is_statement follow allows
ended ws w symbols values [] b = absurd b
ended ws w symbols values (x ∷ tokens) b = part-stay (part.Words ws) (λ k. not (any_accepts integer_words k)) [] symbols values x
    tokens (words-end ws) b

-- an integer type is read as a base, before what is no further word
pub integer-base-reads : (f : Forest) → Match (template make.IntegerBase) f → Reads class.base (node make.IntegerBase f)
unfolding template Match reader push
integer-base-reads none m = absurd m
integer-base-reads (more (leaf x) f) m = absurd m.0
integer-base-reads (more w (more d f)) m = absurd m.3
integer-base-reads (more (node p f) none) m = reads-from class.base (node make.IntegerBase (more (node p f) none))
    (λ symbols values tokens b.
    let ws = integer-home p m.0 in
    let same = ws.1 in
    simp append_assoc (join (words-read (node p f) ws.0 (is-words p ws.0 same) m.1 symbols values tokens)
    (join (ended ws.0 _ (symbol.Reduce make.IntegerBase ∷ symbols) (node p f ∷ values) tokens b)
    (made-step make.IntegerBase (more (node p f) none) symbols values tokens m))))
