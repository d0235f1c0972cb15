-- Lines that may stand behind one another, and how a file that begins with them can go on.
use Rattle.std.proofs.Common.{◌≡◌, ℕ, zero, suc, ◌<◌, List, [], ◌∷◌, ◌++◌, Option, Some, None, refl, sym, subst, arith}
use Rattle.std.specs.List.{AllByRecursion}
use Rattle.certtext.specs.declared.edition.Edition.{Edition}
use Rattle.certtext.specs.declared.order.Place.{Place}
use Rattle.certtext.specs.declared.saying.Saying.{Saying}
use Rattle.certtext.specs.declared.saying.Saying.TheVariants.{Core, Certified, Labelled, Refused, Unbalanced}
use Rattle.certtext.specs.Texts.{Fits}
use Rattle.certtext.specs.Order.{MayName, MayCome, next, InOrder, place_behind}

pub place_push : (p : Place) (said : List Saying) (s : Saying) → place_behind p (said ++ s ∷ []) ≡ next (place_behind p said) s
place_push p [] s = refl
place_push p (t ∷ said) s = place_push (next p t) said s

pub place_append : (p : Place) (said rest : List Saying) → place_behind p (said ++ rest) ≡ place_behind (place_behind p said) rest
place_append p [] rest = refl
place_append p (t ∷ said) rest = place_append (next p t) said rest

pub order_append : (p : Place) (said rest : List Saying) → InOrder p said → InOrder (place_behind p said) rest → InOrder p (said ++ rest)
order_append p [] rest o r = r
order_append p (t ∷ said) rest o r = (o.0, order_append (next p t) said rest o.1 r)

pub order_push : (p : Place) (said : List Saying) (s : Saying) → InOrder p said → MayCome (place_behind p said) s
    → InOrder p (said ++ s ∷ [])
order_push p said s o m = order_append p said (s ∷ []) o (m, tt)

-- a line in the midst may stand behind those before it
pub order_at : (p : Place) (said : List Saying) (s : Saying) (rest : List Saying) → InOrder p (said ++ s ∷ rest)
    → MayCome (place_behind p said) s
order_at p [] s rest o = o.0
order_at p (t ∷ said) s rest o = order_at (next p t) said s rest o.1

-- ---- a core that is named is 0 or 1

abbrev IsNamed : Option ℕ → Type 0
IsNamed None = Unit {0}
IsNamed (Some core) = core < 2

name_small : (named : Option ℕ) (core : ℕ) → MayName named core → core < 2
name_small None core h = omega (arith, h)
name_small (Some n) core h = omega (arith, h.1)

core_named : (p : Place) (said : List Saying) → InOrder p said → IsNamed p.core → IsNamed (place_behind p said).core
core_named p [] o n = n
core_named p (Core core ∷ said) o n = core_named (next p (Core core)) said o.1 (name_small p.core core o.0)
core_named p (Certified r l m ∷ said) o n = core_named (next p (Certified r l m)) said o.1 n
core_named p (Labelled l ∷ said) o n = core_named (next p (Labelled l)) said o.1 n
core_named p (Refused r x ∷ said) o n = core_named (next p (Refused r x)) said o.1 n
core_named p (Unbalanced r w f s ∷ said) o n = core_named (next p (Unbalanced r w f s)) said o.1 n

-- how lines can go on to a whole file
pub record GoesOn (edition : Edition) (place : Place) : Type 0 where
  pub rest : List Saying
  pub fits : AllByRecursion (Fits edition) rest
  pub order : InOrder place rest
  pub whole : (place_behind place rest).core ≡ Some 1

pub first_on : (edition : Edition) (place : Place) → place.core ≡ None → GoesOn edition place
first_on edition place e = record {
  rest = Core 0 ∷ Core 1 ∷ [];
  fits = (omega arith, (omega arith, tt));
  order = (subst (λ (o : Option ℕ). MayName o 0) (sym e) refl, ((refl, refl), tt));
  whole = refl;
}

on : (edition : Edition) (place : Place) (named : Option ℕ) → place.core ≡ named → IsNamed named → GoesOn edition place
on edition place None e n = first_on edition place e
on edition place (Some zero) e n = record {
  rest = Core 1 ∷ [];
  fits = (omega arith, tt);
  order = (subst (λ (o : Option ℕ). MayName o 1) (sym e) (refl, refl), tt);
  whole = refl;
}
on edition place (Some (suc zero)) e n = record { rest = []; fits = tt; order = tt; whole = e }
on edition place (Some (suc (suc k))) e n = absurd (omega (arith, n))

pub goes_on : (edition : Edition) (p : Place) (said : List Saying) → InOrder p said → p.core ≡ None → GoesOn edition (place_behind p said)
goes_on edition p said o e =
    on edition (place_behind p said) (place_behind p said).core refl
    (core_named p said o (subst IsNamed (sym e) tt))
