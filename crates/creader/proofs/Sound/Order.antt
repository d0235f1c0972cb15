-- When what stands at one place may stand at another: computed, and what that gives.
use Rattle.std.proofs.Common.{◌≡◌, ℕ, ◌+◌, ◌-◌, Bool, true, false, not, ◌||◌, nat_eq, nat_le, if◌then◌else◌, List}
use Rattle.std.proofs.Common.{[], ◌∷◌, get_or, refl, sym, ◌∙◌, ap, subst, inl, inr, arith}
use Rattle.std.proofs.lemmas.Bool.{leb-true, le-leb, eqb-true, eq-eqb, or_cases, or_left, or_right, false≢true, cond-true, not-true}
use Rattle.cgrammar.specs.declared.kind.Kind.{Kind}
use Rattle.cgrammar.specs.declared.terminal.Terminal.{Terminal}
use Rattle.cgrammar.specs.declared.production.Words.{Words}
use Rattle.cgrammar.specs.declared.production.Words.TheVariants as every
use Rattle.cgrammar.specs.Terminal.{accepts}
use Rattle.cgrammar.specs.Grammar as class
use Rattle.cgrammar.specs.Grammar.{Class, Piece, under, is_wider, class_number, words_number, home}
use Rattle.cgrammar.specs.Text.{Written, leaf, node, Stands}
use Rattle.cgrammar.specs.Kind.{kind_of}
use Rattle.creader.proofs.Sound.Kinds.{every_kind, at-kind}

-- the second terminal accepts all that the first accepts
unfoldable pub covered : Terminal → Terminal → Bool
covered narrow wide = every_kind (λ k. not (accepts narrow k) || accepts wide k)

pub covered-accepts : (narrow wide : Terminal) → covered narrow wide ≡ true → (k : Kind) → accepts narrow k ≡ true → accepts wide k ≡ true
unfolding covered
covered-accepts narrow wide h k a =
    elim (or_cases (not (accepts narrow k)) (accepts wide k) (at-kind (λ k. not (accepts narrow k) || accepts wide k) h k))
    [ inl n ↦ absurd (false≢true (sym (not-true _ n) ∙ a)) | inr w ↦ w ]

-- the class with this number
plain_classes : List Class
plain_classes = class.callee ∷ class.stars ∷ class.qualified ∷ class.identifier ∷ class.arguments ∷ class.more_arguments
    ∷ class.optional_expression ∷ class.type_name ∷ class.«type» ∷ class.base ∷ class.integer ∷ class.qualifiers ∷ class.pointers
    ∷ class.lengths ∷ class.declarator ∷ class.more_declarators ∷ class.member ∷ class.more_members ∷ class.location ∷ class.initial
    ∷ class.init ∷ class.more_inits ∷ class.after_init_comma ∷ class.init_declarator ∷ class.more_init_declarators ∷ class.object
    ∷ class.statement ∷ class.optional_else ∷ class.for_first ∷ class.region_name ∷ class.items ∷ class.units ∷ class.unit
    ∷ class.register_type ∷ class.external_rest ∷ class.function_end ∷ class.parameters ∷ class.parameter ∷ class.more_parameters
    ∷ class.source ∷ class.nothing ∷ class.some_qualifiers ∷ class.label ∷ class.switch_items ∷ class.more_switch_items ∷ []

words_classes : List Class
words_classes = class.words every.Sign ∷ class.words every.Char ∷ class.words every.Length ∷ class.words every.Int
    ∷ class.words every.SignChar
    ∷ class.words every.SignLength ∷ class.words every.SignInt ∷ class.words every.LengthInt ∷ class.words every.SignLengthInt ∷ []

class_at : ℕ → Class
class_at n = if nat_le 100 n then class.level (n - 100)
    else (if nat_le 80 n then get_or words_classes (n - 80) class.nothing else get_or plain_classes n class.nothing)

class_at-words : (w : Words) → class_at (80 + words_number w) ≡ class.words w
unfolding class_at words_number words_classes
class_at-words every.Sign = refl
class_at-words _ = refl

class_at-number : (c : Class) → class_at (class_number c) ≡ c
unfolding class_at class_number plain_classes
class_at-number (class.level n) =
    cond-true (nat_le 100 (100 + n)) _ _ (le-leb 100 (100 + n) (omega arith)) ∙ ap class.level (omega arith)
class_at-number (class.words w) = class_at-words w
class_at-number class.callee = refl
class_at-number _ = refl

same-class : (c d : Class) → nat_eq (class_number c) (class_number d) ≡ true → c ≡ d
same-class c d h = sym (class_at-number c) ∙ ap class_at (eqb-true _ _ h) ∙ class_at-number d

wider-trans : (c d e : Class) → is_wider c d ≡ true → is_wider d e ≡ true → is_wider c e ≡ true
unfolding is_wider
wider-trans (class.level m) (class.level n) (class.level k) h g =
    le-leb k m (omega (arith, leb-true n m h, leb-true k n g))
wider-trans class.callee (class.level n) (class.level k) h g = le-leb k 15 (omega (arith, leb-true n 15 h, leb-true k n g))
wider-trans (class.words _) class.integer _ h g = absurd (false≢true g)
wider-trans class.some_qualifiers class.qualifiers _ h g = absurd (false≢true g)
wider-trans class.stars class.pointers _ h g = absurd (false≢true g)
wider-trans class.qualified class.pointers _ h g = absurd (false≢true g)
wider-trans _ _ _ h g = cc

pub under_refl : (c : Class) → under c c ≡ true
unfolding under
under_refl c = or_left (nat_eq (class_number c) (class_number c)) (is_wider c c) (eq-eqb (class_number c) (class_number c) refl)

pub under_trans : (c d e : Class) → under c d ≡ true → under d e ≡ true → under c e ≡ true
unfolding under
under_trans c d e h g = elim (or_cases _ _ h) [
  | inl s ↦ subst (λ x. under x e ≡ true) (sym (same-class c d s)) g
  | inr w ↦ elim (or_cases _ _ g) [
    | inl s ↦ subst (λ x. under c x ≡ true) (same-class d e s) h
    | inr v ↦ or_right _ _ (wider-trans c d e w v)
  ]
]

-- what stands at the first place may stand at the second
unfoldable pub below : Piece → Piece → Bool
below (class.token narrow) (class.token wide) = covered narrow wide
below (class.part c) (class.part d) = under c d
below _ _ = false

pub below-stands : (narrow wide : Piece) → below narrow wide ≡ true → (w : Written) → Stands narrow w → Stands wide w
unfolding below
below-stands (class.token narrow) (class.token wide) h (leaf t) s = covered-accepts narrow wide h (kind_of t) s
below-stands (class.part c) (class.part d) h (node p parts) s = under_trans (home p) c d s h
below-stands (class.token _) (class.token _) h (node _ _) s = absurd s
below-stands (class.part _) (class.part _) h (leaf _) s = absurd s
below-stands (class.token _) (class.part _) h w s = absurd (false≢true h)
below-stands (class.part _) (class.token _) h w s = absurd (false≢true h)
