-- Each proper tree is read as each class of which it is, and a source to its end.
use Rattle.std.specs.Prelude.{◌≡◌, Bool, true, false, not, ◌&&◌, ◌⊎◌, List, [], ◌∷◌, if◌then◌else◌}
use Rattle.std.proofs.Common.{refl, sym, inl, inr}
use Rattle.std.proofs.lemmas.Bool.{and_parts, or_from}
use Rattle.cgrammar.specs.declared.production.Word.{Word}
use Rattle.cgrammar.specs.declared.production.Word.TheVariants as word
use Rattle.cgrammar.specs.declared.production.Words.{Words}
use Rattle.cgrammar.specs.declared.production.Words.TheVariants as every
use Rattle.cgrammar.specs.declared.production.Production.{Production}
use Rattle.cgrammar.specs.declared.production.Production.TheVariants as make
use Rattle.cgrammar.specs.Grammar as class
use Rattle.cgrammar.specs.Grammar.{Class, Piece, template, home, under, is_wider, class_number, joined}
use Rattle.cgrammar.specs.Text.{Written, leaf, node, Forest, none, more, IsProper, Match}
use Rattle.creader.proofs.Complete.Reading.{reader, follow, is_statement, has_reader, Reads, Complete}
use Rattle.creader.proofs.Complete.Classes.{under-ways}
use Rattle.creader.proofs.Complete.Firsts.{no}
use Rattle.creader.proofs.Complete.Heads.{Heads, Known, known_as, is_expression, is_level}
use Rattle.creader.proofs.Complete.KnownReads.{known-reads}
use Rattle.creader.proofs.Complete.Expressions.{expression-reads}
use Rattle.creader.proofs.Complete.Sequence.{readers}
use Rattle.creader.proofs.Complete.Plain.{is_plain, plain-reads, ready_check, direct-reads}
use Rattle.creader.proofs.Complete.Unit.{external-reads, struct-unit-reads, register-unit-reads}
use Rattle.creader.proofs.Complete.Deep.{Deep, Deeps, deep-known, deeps-known}
use Rattle.creader.proofs.Complete.Words.{integer-base-reads}
use Rattle.creader.proofs.Complete.Pointers.{pointers-read}
use Rattle.creader.proofs.Complete.Parameters.{void-reads, some-reads}
use Rattle.creader.proofs.Complete.Parameter.{parameter-reads}
use Rattle.creader.proofs.Complete.Arrays.{array-reads}

-- it is read as each class where it stands
abbrev AsEach : Production → Forest → Type 0
AsEach p f = (c : Class) → under (home p) c ≡ true → has_reader c ≡ true → Reads c (node p f)

-- what is known of a tree that is no expression, and of one that is
known-other : (p : Production) (f : Forest) → is_expression p ≡ false → AsEach p f → Known (node p f)
unfolding Known known_as
known-other p f e h = rw e h

known-expression : (p : Production) (f : Forest) → is_expression p ≡ true → Heads (node p f) → Known (node p f)
unfolding Known known_as
known-expression p f e h = rw e h

-- a class that is read alike wherever a tree of it stands
unfoldable narrow : Class → Bool
narrow (class.level _) = false
narrow class.callee = false
narrow (class.words _) = false
narrow class.stars = false
narrow class.qualified = false
narrow _ = true

qualifiers-alike : (w : Written) → Reads class.some_qualifiers w → Reads class.qualifiers w
unfolding reader follow is_statement
qualifiers-alike w r = record { reads = λ symbols values next tokens b. r.reads symbols values next tokens b }

narrow-reads : (a c : Class) (w : Written) → narrow a ≡ true → is_wider a c ≡ true → Reads a w → Reads c w
unfolding narrow is_wider
narrow-reads (class.level _) c w n h r = absurd (no n)
narrow-reads class.callee c w n h r = absurd (no n)
narrow-reads (class.words _) c w n h r = absurd (no n)
narrow-reads class.stars c w n h r = absurd (no n)
narrow-reads class.qualified c w n h r = absurd (no n)
narrow-reads class.some_qualifiers class.qualifiers w n h r = qualifiers-alike w r
narrow-reads class.some_qualifiers _ w n h r = absurd (no h)
narrow-reads _ c w n h r = absurd (no h)

narrow-each : (p : Production) (f : Forest) → narrow (home p) ≡ true → Reads (home p) (node p f) → AsEach p f
narrow-each p f n r c u has = go (under-ways (home p) c u)
  where
    go : (home p ≡ c) ⊎ (is_wider (home p) c ≡ true) → Reads c (node p f)
    go (inl same) = rw same at r
    go (inr wider) = narrow-reads (home p) c (node p f) n wider r

-- so it is enough to read it as its own class
narrow-known : (p : Production) (f : Forest) → is_expression p ≡ false → narrow (home p) ≡ true → Reads (home p) (node p f)
    → Known (node p f)
narrow-known p f e n r = known-other p f e (narrow-each p f n r)

-- plain productions are such
unfoldable plain_is_narrow : Production → Bool
plain_is_narrow p = if is_plain p then not (is_expression p) && narrow (home p) else true

-- as is computed
plain-is-narrow : (p : Production) → plain_is_narrow p ≡ true
unfolding plain_is_narrow is_plain narrow home is_expression is_level
plain-is-narrow make.Identifier = refl
plain-is-narrow _ = refl

plain-known : (p : Production) (f : Forest) → is_plain p ≡ true → is_expression p ≡ false → Reads (home p) (node p f) → Known (node p f)
unfolding plain_is_narrow
plain-known p f plain e r =
    let both = and_parts (not (is_expression p)) (narrow (home p)) (rw plain at (plain-is-narrow p)) in
    narrow-known p f e both.1 r

-- words, and what is of no class, are only read as parts of others
unfoldable unread : Class → Bool
unread (class.words _) = true
unread class.nothing = true
unread _ = false

-- so nothing is to be shown of them
unread-wider : (a c : Class) → unread a ≡ true → is_wider a c ≡ true → has_reader c ≡ true → ⊥
unfolding unread is_wider has_reader reader
unread-wider (class.words _) class.integer e w h = no h
unread-wider (class.words _) _ e w h = no w
unread-wider class.nothing c e w h = no w
unread-wider _ c e w h = no e

unread-reader : (a c : Class) → unread a ≡ true → under a c ≡ true → has_reader c ≡ true → ⊥
unfolding unread has_reader reader
unread-reader a c e u h = go (under-ways a c u)
  where
    same : (c : Class) → unread c ≡ true → has_reader c ≡ true → ⊥
    same (class.words _) e h = no h
    same class.nothing e h = no h
    same _ e h = no e

    go : (a ≡ c) ⊎ (is_wider a c ≡ true) → ⊥
    go (inl s) = same c (rw s at e) h
    go (inr w) = unread-wider a c e w h

unread-known : (p : Production) (f : Forest) → is_expression p ≡ false → unread (home p) ≡ true → Known (node p f)
unread-known p f e u = known-other p f e (λ c s h. absurd (unread-reader (home p) c u s h))

-- pointers are read as such alone
unfoldable is_pointers : Class → Bool
is_pointers class.stars = true
is_pointers class.qualified = true
is_pointers _ = false

-- they stand as pointers
pointers-wider : (a c : Class) → is_pointers a ≡ true → is_wider a c ≡ true → c ≡ class.pointers
unfolding is_pointers is_wider
pointers-wider class.stars class.pointers e w = refl
pointers-wider class.stars _ e w = absurd (no w)
pointers-wider class.qualified class.pointers e w = refl
pointers-wider class.qualified _ e w = absurd (no w)
pointers-wider _ c e w = absurd (no e)

pointers-bare : (c : Class) → is_pointers c ≡ true → has_reader c ≡ true → ⊥
unfolding is_pointers has_reader reader
pointers-bare class.stars e h = no h
pointers-bare class.qualified e h = no h
pointers-bare _ e h = no e

pointers-known : (p : Production) (f : Forest) → is_expression p ≡ false → is_pointers (home p) ≡ true
    → under (home p) class.pointers ≡ true
    → Match (template p) f → Deeps f → Known (node p f)
pointers-known p f e s u m deep = known-other p f e (λ c v h. go c h (under-ways (home p) c v))
  where
    go : (c : Class) → has_reader c ≡ true → (home p ≡ c) ⊎ (is_wider (home p) c ≡ true) → Reads c (node p f)
    go c h (inl same) = absurd (pointers-bare c (rw same at s) h)
    go c h (inr w) = let same = pointers-wider (home p) c s w in rw same (pointers-read p f u m deep)

-- words behind others are words, or of no class
next-word-unread : (all : Words) (w : Word) → unread (home (make.NextWord all w)) ≡ true
unfolding unread home joined
next-word-unread every.Sign word.Sign = refl
next-word-unread every.Char word.Sign = refl
next-word-unread every.Length word.Sign = refl
next-word-unread every.Int word.Sign = refl
next-word-unread every.SignChar word.Sign = refl
next-word-unread every.SignLength word.Sign = refl
next-word-unread every.SignInt word.Sign = refl
next-word-unread every.LengthInt word.Sign = refl
next-word-unread every.SignLengthInt word.Sign = refl
next-word-unread _ _ = refl

-- the other productions
special-known : (p : Production) (f : Forest) → is_expression p ≡ false → is_plain p ≡ false → Match (template p) f → Deeps f
    → Known (node p f)
unfolding is_expression is_level is_plain narrow home template reader readers ready_check unread is_pointers under class_number is_wider
special-known make.Identifier f e e' m deep = narrow-known make.Identifier f e refl
    (direct-reads make.Identifier f refl refl m (deeps-known f deep))
special-known make.RegionName f e e' m deep = narrow-known make.RegionName f e refl
    (direct-reads make.RegionName f refl refl m (deeps-known f deep))
special-known make.Source f e e' m deep = narrow-known make.Source f e refl (direct-reads make.Source f refl refl m (deeps-known f deep))
special-known make.IntegerBase f e e' m deep = narrow-known make.IntegerBase f e refl (integer-base-reads f m)
special-known (make.FirstWord w) f e e' m deep = unread-known (make.FirstWord w) f e refl
special-known (make.NextWord all w) f e e' m deep = unread-known (make.NextWord all w) f e (next-word-unread all w)
special-known make.NoPointers f e e' m deep = pointers-known make.NoPointers f e refl refl m deep
special-known make.Star f e e' m deep = pointers-known make.Star f e refl refl m deep
special-known make.QualifiedPointer f e e' m deep = pointers-known make.QualifiedPointer f e refl refl m deep
special-known make.NextPointer f e e' m deep = pointers-known make.NextPointer f e refl refl m deep
special-known make.StructUnit f e e' m deep = narrow-known make.StructUnit f e refl (struct-unit-reads f m (deeps-known f deep))
special-known make.RegisterUnit f e e' m deep = narrow-known make.RegisterUnit f e refl (register-unit-reads f m (deeps-known f deep))
special-known make.External f e e' m deep = narrow-known make.External f e refl (external-reads f m (deeps-known f deep))
special-known make.VoidParameters f e e' m deep = narrow-known make.VoidParameters f e refl (void-reads f m)
special-known make.SomeParameters f e e' m deep = narrow-known make.SomeParameters f e refl (some-reads f m (deeps-known f deep))
special-known make.Parameter f e e' m deep = narrow-known make.Parameter f e refl (parameter-reads f m (deeps-known f deep))
special-known make.ArrayParameter f e e' m deep = narrow-known make.ArrayParameter f e refl (array-reads f m (deeps-known f deep))
special-known p f e e' m deep = absurd (no (sym (or_from (is_expression p) (is_plain p) e e')))

-- What is known of the parts makes the whole known.
production-known : (p : Production) (f : Forest) → Match (template p) f → Deeps f → Known (node p f)
production-known p f m deep = ways (is_expression p) (is_plain p) refl refl
  where
    ways : (b b' : Bool) → is_expression p ≡ b → is_plain p ≡ b' → Known (node p f)
    ways true b' e e' = known-expression p f e (expression-reads p f e m (deeps-known f deep))
    ways false true e e' = plain-known p f e' e (plain-reads p f e' m (deeps-known f deep))
    ways false false e e' = special-known p f e e' m deep

mutual
  unfolding Deep IsProper

  written-deep : (w : Written) → IsProper w → Deep w
  written-deep (leaf t) m = tt
  written-deep (node p f) m = let d = forest-deep f (template p) m in (production-known p f m d, d)

  forest-deep : (f : Forest) (pieces : List Piece) → Match pieces f → Deeps f
  forest-deep none pieces m = tt
  forest-deep (more w f) [] m = absurd m
  forest-deep (more w f) (piece ∷ pieces) m = (written-deep w m.1, forest-deep f pieces m.3)

-- Each proper tree is read as each class of which it is, before any token that may follow.
pub complete : Complete
complete w m c s r = known-reads w c (deep-known w (written-deep w m)) s r
