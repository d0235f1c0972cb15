-- Going through the macros' tokens to a depth that is enough.
use Rattle.std.proofs.Common.{◌≡◌, ℕ, zero, suc, ◌+◌, ◌<◌, ◌≤◌, List, [], ◌∷◌, ◌++◌, length, map, flat_map}
use Rattle.std.proofs.Common.{Option, Some, None, refl, sym, ap, ◌∙◌, subst, arith}
use Rattle.std.specs.Option.{option_map_or}
use Rattle.csyn.specs.declared.span.Span.{Span}
use Rattle.csyn.specs.declared.token.Token.{Token}
use Rattle.cpre.specs.Replacement.{Macros, macro_of, without, at, replaced, expanded}
use Rattle.cpre.specs.Replacing.{steps, token_steps, all_steps}
use Rattle.cpre.proofs.Names.{Extends, extends_without, extends_macro, fewer_macros, no_macros}

-- what is computed of a token by its macro's tokens, to a depth
module _ {A : Type 0} (leaf : Token → A) (node : (Token → A) → Span → List Token → A) (f : ℕ → Macros → Token → A)
    (at_zero : (ms : Macros) (t : Token) → f zero ms t ≡ leaf t)
    (at_suc : (d : ℕ) (ms : Macros) (t : Token) → f (suc d) ms t
    ≡ option_map_or (λ m. node (f d (without m.0 ms)) t.span m.1) (macro_of ms t.kind) (leaf t)) where
  abbrev chosen : (ℕ → Macros → Token → A) → ℕ → Macros → Token → Option (List ℕ × List Token) → A
  chosen f d ms t m = option_map_or (λ m. node (f d (without m.0 ms)) t.span m.1) m (leaf t)

  same-step : (d e : ℕ) (ms : Macros) (t : Token) (m : Option (List ℕ × List Token)) → macro_of ms t.kind ≡ m → length ms ≤ suc d
      → length ms ≤ suc e
      → ((ms : Macros) (t : Token) → length ms ≤ d → length ms ≤ e → f d ms t ≡ f e ms t) → chosen f d ms t m ≡ chosen f e ms t m
  same-step d e ms t None is h k same = refl
  same-step d e ms t (Some m) is h k same =
      let lt = fewer_macros ms t.kind m is in
      ap (λ (g : Token → A). node g t.span m.1) (λ i t. same (without m.0 ms) t (omega (arith, lt, h)) (omega (arith, lt, k)) i)

  pub enough : (d e : ℕ) (ms : Macros) (t : Token) → length ms ≤ d → length ms ≤ e → f d ms t ≡ f e ms t
  enough zero zero ms t h k = refl
  enough zero (suc e) [] t h k = at_zero [] t ∙ sym (at_suc e [] t ∙ ap (chosen f e [] t) (no_macros t.kind))
  enough zero (suc e) (m ∷ ms) t h k = absurd (omega (arith, h))
  enough (suc d) zero [] t h k = at_suc d [] t ∙ ap (chosen f d [] t) (no_macros t.kind) ∙ sym (at_zero [] t)
  enough (suc d) zero (m ∷ ms) t h k = absurd (omega (arith, k))
  enough (suc d) (suc e) ms t h k =
      at_suc d ms t ∙ same-step d e ms t (macro_of ms t.kind) refl h k (λ ms t h k. enough d e ms t h k) ∙ sym (at_suc e ms t)

  -- the value of a name, and of any other token
  pub of_name : (ms : Macros) (t : Token) (m : List ℕ × List Token) → macro_of ms t.kind ≡ Some m
      → f (length ms) ms t ≡ node (λ t. f (length (without m.0 ms)) (without m.0 ms) t) t.span m.1
  of_name ms t m is =
      let lt = fewer_macros ms t.kind m is in
      enough (length ms) (suc (length ms)) ms t (omega arith) (omega arith)
      ∙ at_suc (length ms) ms t
      ∙ ap (chosen f (length ms) ms t) is
      ∙ ap (λ (g : Token → A). node g t.span m.1) (λ i t. enough (length ms) (length (without m.0 ms)) (without m.0 ms) t
      (omega (arith, lt)) (omega arith) i)

  pub of_other : (ms : Macros) (t : Token) → macro_of ms t.kind ≡ None → f (length ms) ms t ≡ leaf t
  of_other ms t is =
      enough (length ms) (suc (length ms)) ms t (omega arith) (omega arith) ∙ at_suc (length ms) ms t ∙ ap (chosen f (length ms) ms t) is

abbrev tokens : (Token → List Token) → Span → List Token → List Token
tokens g span ts = flat_map g (map (at span) ts)

abbrev count : (Token → ℕ) → Span → List Token → ℕ
count g span ts = 2 + all_steps g ts

replaced-zero : (ms : Macros) (t : Token) → replaced zero ms t ≡ t ∷ []
unfolding replaced
replaced-zero ms t = refl

replaced-suc : (d : ℕ) (ms : Macros) (t : Token) → replaced (suc d) ms t
    ≡ option_map_or (λ m. tokens (replaced d (without m.0 ms)) t.span m.1) (macro_of ms t.kind) (t ∷ [])
unfolding replaced
replaced-suc d ms t = refl

steps-zero : (ms : Macros) (t : Token) → steps zero ms t ≡ 1
unfolding steps
steps-zero ms t = refl

steps-suc : (d : ℕ) (ms : Macros) (t : Token) → steps (suc d) ms t
    ≡ option_map_or (λ m. count (steps d (without m.0 ms)) t.span m.1) (macro_of ms t.kind) 1
unfolding steps
steps-suc d ms t = refl

pub expanded_name : (ms : Macros) (t : Token) (m : List ℕ × List Token) → macro_of ms t.kind ≡ Some m
    → expanded ms t ≡ flat_map (expanded (without m.0 ms)) (map (at t.span) m.1)
expanded_name = of_name (λ t. t ∷ []) tokens replaced replaced-zero replaced-suc

pub expanded_other : (ms : Macros) (t : Token) → macro_of ms t.kind ≡ None → expanded ms t ≡ t ∷ []
expanded_other = of_other (λ t. t ∷ []) tokens replaced replaced-zero replaced-suc

pub steps_name : (ms : Macros) (t : Token) (m : List ℕ × List Token) → macro_of ms t.kind ≡ Some m
    → token_steps ms t ≡ 2 + all_steps (token_steps (without m.0 ms)) m.1
steps_name = of_name (λ _. 1) count steps steps-zero steps-suc

positive-by : (d : ℕ) (ms : Macros) (t : Token) (m : Option (List ℕ × List Token))
    → 0 < option_map_or (λ m. count (steps d (without m.0 ms)) t.span m.1) m 1
positive-by d ms t None = omega arith
positive-by d ms t (Some m) = omega arith

positive : (d : ℕ) (ms : Macros) (t : Token) → 0 < steps d ms t
positive zero ms t = subst (λ n. 0 < n) (sym (steps-zero ms t)) (omega arith)
positive (suc d) ms t = subst (λ n. 0 < n) (sym (steps-suc d ms t)) (positive-by d ms t (macro_of ms t.kind))

pub some_steps : (ms : Macros) (t : Token) → 0 < token_steps ms t
some_steps ms t = positive (length ms) ms t

-- ---- nothing comes of a name either where more macros are defined

parts-nil : {A : Type 0} (xs ys : List A) → xs ++ ys ≡ [] → (xs ≡ []) × (ys ≡ [])
parts-nil [] ys h = (refl, h)
parts-nil (x ∷ xs) ys h = absurd (cc)

all-nil : {A B : Type 0} (f g : A → List B) (xs : List A) → ((x : A) → f x ≡ [] → g x ≡ []) → flat_map f xs ≡ [] → flat_map g xs ≡ []
all-nil f g [] h nil = refl
all-nil f g (x ∷ xs) h nil =
    let parts = parts-nil (f x) (flat_map f xs) nil in
    ap (λ ys. ys ++ flat_map g xs) (h x parts.0) ∙ all-nil f g xs h parts.1

nothing-step : (d e : ℕ) (ms more : Macros) (t : Token) (m : Option (List ℕ × List Token)) → macro_of ms t.kind ≡ m → Extends ms more
    → ((ms more : Macros) (t : Token) → Extends ms more → replaced d ms t ≡ [] → replaced e more t ≡ [])
    → option_map_or (λ m. tokens (replaced d (without m.0 ms)) t.span m.1) m (t ∷ []) ≡ [] → replaced (suc e) more t ≡ []
nothing-step d e ms more t None is extends rest h = absurd (cc)
nothing-step d e ms more t (Some m) is extends rest h =
    replaced-suc e more t
    ∙ ap (λ m. option_map_or (λ m. tokens (replaced e (without m.0 more)) t.span m.1) m (t ∷ []))
    (extends_macro ms more t.kind m extends is)
    ∙ all-nil (replaced d (without m.0 ms)) (replaced e (without m.0 more)) (map (at t.span) m.1)
    (λ t. rest (without m.0 ms) (without m.0 more) t (extends_without m.0 ms more extends)) h

pub nothing_more : (d e : ℕ) (ms more : Macros) (t : Token) → d ≤ e → Extends ms more → replaced d ms t ≡ [] → replaced e more t ≡ []
nothing_more zero e ms more t le extends h = absurd (let k : t ∷ [] ≡ [] = sym (replaced-zero ms t) ∙ h in cc)
nothing_more (suc d) zero ms more t le extends h = absurd (omega (arith, le))
nothing_more (suc d) (suc e) ms more t le extends h =
    nothing-step d e ms more t (macro_of ms t.kind) refl extends (λ ms more t. nothing_more d e ms more t (omega (arith, le)))
    (sym (replaced-suc d ms t) ∙ h)

pub nothing_extended : (ms more : Macros) (t : Token) → Extends ms more → expanded ms t ≡ [] → expanded more t ≡ []
nothing_extended ms more t extends h =
    enough (λ t. t ∷ []) tokens replaced replaced-zero replaced-suc (length more) (length ms + length more) more t (omega arith)
    (omega arith)
    ∙ nothing_more (length ms) (length ms + length more) ms more t (omega arith) extends h
