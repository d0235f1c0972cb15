-- Classes are told apart by their numbers.
use Rattle.std.specs.Prelude.{◌≡◌, ℕ, ◌+◌, ◌-◌, ◌⊎◌, true, nat_eq, nat_le, List, [], ◌∷◌, Option, Some, None, if◌then◌else◌}
use Rattle.std.proofs.Common.{refl, sym, ap, ◌∙◌, arith, inl, inr}
use Rattle.std.proofs.lemmas.Bool.{eqb-true, eq-eqb, le-leb, or_cases, or_left}
use Rattle.cgrammar.specs.declared.production.Words.TheVariants as every
use Rattle.cgrammar.specs.Grammar as class
use Rattle.cgrammar.specs.Grammar.{Class, under, is_wider, class_number, words_number}
use Rattle.creader.proofs.Complete.Kinds.{entry}

unfoldable or_nothing : Option Class → Class
or_nothing None = class.nothing
or_nothing (Some c) = c

-- the classes by number, but for words and levels
unfoldable plain_classes : List Class
plain_classes =
    class.callee ∷ class.stars ∷ class.qualified ∷ class.identifier ∷ class.arguments ∷ class.more_arguments ∷ class.optional_expression
    ∷ class.type_name ∷ class.«type» ∷ class.base ∷ class.integer ∷ class.qualifiers ∷ class.pointers ∷ class.lengths ∷ class.declarator
    ∷ class.more_declarators ∷ class.member ∷ class.more_members ∷ class.location ∷ class.initial ∷ class.init ∷ class.more_inits
    ∷ class.after_init_comma ∷ class.init_declarator ∷ class.more_init_declarators ∷ class.object ∷ class.statement ∷ class.optional_else
    ∷ class.for_first ∷ class.region_name ∷ class.items ∷ class.units ∷ class.unit ∷ class.register_type ∷ class.external_rest
    ∷ class.function_end ∷ class.parameters ∷ class.parameter ∷ class.more_parameters ∷ class.source ∷ class.nothing ∷ class.some_qualifiers
    ∷ class.label ∷ class.switch_items ∷ class.more_switch_items ∷ []

unfoldable words_classes : List Class
words_classes =
    class.words every.Sign ∷ class.words every.Char ∷ class.words every.Length ∷ class.words every.Int ∷ class.words every.SignChar
    ∷ class.words every.SignLength ∷ class.words every.SignInt ∷ class.words every.LengthInt ∷ class.words every.SignLengthInt ∷ []

-- the class of a number
unfoldable class_of : ℕ → Class
class_of n = if nat_le 100 n then class.level (n - 100) else or_nothing
    (if nat_le 80 n then entry (n - 80) words_classes else entry n plain_classes)

-- each class is that of its number
class_of-number : (c : Class) → class_of (class_number c) ≡ c
unfolding class_of class_number words_number or_nothing plain_classes words_classes entry
class_of-number (class.level n) =
    let h = le-leb 100 (100 + n) (omega arith) in
    let e : (100 + n) - 100 ≡ n = omega arith in
    rw h (ap class.level e)
class_of-number (class.words every.Sign) = refl
class_of-number (class.words _) = refl
class_of-number _ = refl

-- two classes of one number are one
pub same-class : (a b : Class) → nat_eq (class_number a) (class_number b) ≡ true → a ≡ b
same-class a b h = sym (class_of-number a) ∙ (ap class_of (eqb-true (class_number a) (class_number b) h) ∙ class_of-number b)

-- what stands where a class is wanted is of the class, or tighter
pub under-ways : (a b : Class) → under a b ≡ true → (a ≡ b) ⊎ (is_wider a b ≡ true)
unfolding under
under-ways a b h = go (or_cases (nat_eq (class_number a) (class_number b)) (is_wider a b) h)
  where
    go : (nat_eq (class_number a) (class_number b) ≡ true) ⊎ (is_wider a b ≡ true) → (a ≡ b) ⊎ (is_wider a b ≡ true)
    go (inl e) = inl (same-class a b e)
    go (inr e) = inr e

-- each class stands where it is wanted
pub same-under : (a : Class) → under a a ≡ true
unfolding under
same-under a = or_left _ _ (eq-eqb (class_number a) (class_number a) refl)
