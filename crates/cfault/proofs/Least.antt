-- The least fault of lists put together, and that what is noted of a list is its least.
use Rattle.std.proofs.Common.{◌≡◌, ◌⊎◌, ℕ, zero, suc, ◌≤◌, length, drop, ◌<◌, Bool, true, false, cond, List, [], ◌∷◌}
use Rattle.std.proofs.Common.{◌++◌, Option, Some, None, refl, ap, sym, ◌∙◌, inl, inr, arith}
use Rattle.std.specs.Prelude.{All, Contains, IfSome}
use Rattle.std.proofs.lemmas.List.Elements.{All-nil, All-cons, Contains-append_right}
use Rattle.cfault.proofs.Order.{not_after, not_before, not_itself}
use Rattle.cfault.specs.Fault.{is_before, noted, earlier, IsLeast}
use Rattle.cfault.specs.declared.fault.Fault.{Fault}

pub noted_none : (least : Option Fault) → noted [] least ≡ least
noted_none least = refl

pub noted_one : (f : Fault) (least : Option Fault) → noted (f ∷ []) least ≡ earlier least f
noted_one f least = refl

pub noted_append : (fs gs : List Fault) (least : Option Fault) → noted (fs ++ gs) least ≡ noted gs (noted fs least)
noted_append [] gs least = refl
noted_append (f ∷ fs) gs least = noted_append fs gs (earlier least f)

-- what is kept of a list behind a fault: it is among them, and none of them comes before it
pub record IsKept (f g : Fault) (faults : List Fault) : Type 0 where
  pub among : (g ≡ f) ⊎ Contains faults f
  pub first : is_before g f ≡ false
  pub least : All (λ h. is_before h f ≡ false) faults

among_later : (f h : Fault) (rest : List Fault) → (h ≡ f) ⊎ Contains rest f → Contains (h ∷ rest) f
among_later f h rest (inl e) = (0, omega arith, e)
among_later f h rest (inr c) = Contains-append_right (h ∷ []) rest f c

among_sooner : (f g h : Fault) (rest : List Fault) → (g ≡ f) ⊎ Contains rest f → (g ≡ f) ⊎ Contains (h ∷ rest) f
among_sooner f g h rest (inl e) = inl e
among_sooner f g h rest (inr c) = inr (Contains-append_right (h ∷ []) rest f c)

kept_later : (f g h : Fault) (rest : List Fault) → is_before h g ≡ true → IsKept f h rest → IsKept f g (h ∷ rest)
kept_later f g h rest b k =
    record {
      among = inr (among_later f h rest k.among);
      first = not_before g h f (not_after h g b) k.first;
      least = All-cons (λ x. is_before x f ≡ false) h rest k.first k.least;
    }

kept_sooner : (f g h : Fault) (rest : List Fault) → is_before h g ≡ false → IsKept f g rest → IsKept f g (h ∷ rest)
kept_sooner f g h rest b k =
    record {
      among = among_sooner f g h rest k.among;
      first = k.first;
      least = All-cons (λ x. is_before x f ≡ false) h rest (not_before h g f b k.first) k.least;
    }

kept_cases : (b : Bool) (f g h : Fault) (rest : List Fault) → is_before h g ≡ b → noted rest (cond b (Some h) (Some g)) ≡ Some f →
    (noted rest (Some h) ≡ Some f → IsKept f h rest) → (noted rest (Some g) ≡ Some f → IsKept f g rest) → IsKept f g (h ∷ rest)
kept_cases true f g h rest e k later sooner = kept_later f g h rest e (later k)
kept_cases false f g h rest e k later sooner = kept_sooner f g h rest e (sooner k)

pub kept : (faults : List Fault) (g f : Fault) → noted faults (Some g) ≡ Some f → IsKept f g faults
kept [] g f k = let e : g ≡ f = cc in record {
  among = inl e;
  first = ap (is_before g) (sym e) ∙ not_itself g;
  least = All-nil
      (λ x. is_before x f ≡ false);
}
kept (h ∷ rest) g f k = kept_cases (is_before h g) f g h rest refl k (kept rest h f) (kept rest g f)

something_cases : (b : Bool) (h g : Fault) (rest : List Fault) → noted rest (cond b (Some h) (Some g)) ≡ None →
    (noted rest (Some h) ≡ None → ⊥) → (noted rest (Some g) ≡ None → ⊥) → ⊥
something_cases true h g rest k later sooner = later k
something_cases false h g rest k later sooner = sooner k

-- something is kept
pub something : (faults : List Fault) (g : Fault) → noted faults (Some g) ≡ None → ⊥
something [] g k = cc
something (h ∷ rest) g k = something_cases (is_before h g) h g rest k (something rest h) (something rest g)

pub least_of_noted : (faults : List Fault) (f : Fault) → noted faults None ≡ Some f → IsLeast f faults
least_of_noted [] f k = cc
least_of_noted (g ∷ rest) f k =
    let h = kept rest g f k in
    record { among = among_later f g rest h.among; least = All-cons (λ x. is_before x f ≡ false) g rest h.first h.least }

pub none_of_noted : (faults : List Fault) → noted faults None ≡ None → faults ≡ []
none_of_noted [] k = refl
none_of_noted (g ∷ rest) k = absurd (something rest g k)

pub least_result : (o : Option Fault) (faults : List Fault) → o ≡ noted faults None → IfSome o (λ f. IsLeast f faults)
least_result None faults h = tt
least_result (Some f) faults h = least_of_noted faults f (sym h)

-- behind the last fault nothing more is noted
pub noted_past : (faults : List Fault) (i : ℕ) (least : Option Fault) → length faults ≤ i → noted (drop i faults) least ≡ least
noted_past [] zero least p = refl
noted_past [] (suc i) least p = refl
noted_past (f ∷ rest) zero least p = absurd (omega (arith, p))
noted_past (f ∷ rest) (suc i) least p = noted_past rest i least (omega (arith, p))
