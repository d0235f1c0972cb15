-- The end token stays the last, and no other is made.
use Rattle.std.proofs.Common.{◌≡◌, ℕ, zero, suc, Bool, true, false, cond, not, ◌&&◌, List, [], ◌∷◌, ◌++◌, length, map, flat_map}
use Rattle.std.proofs.Common.{Option, Some, None, Result, Ok, Err, refl, sym, ap, ◌∙◌, subst, true≢false}
use Rattle.std.specs.Prelude.{if◌then◌else◌, nat_lt}
use Rattle.std.specs.Option.{option_map_or}
use Rattle.std.specs.List.{prefix_len, take_while}
use Rattle.std.specs.Map.{lookup}
use Rattle.std.specs.Str.{bytes_eq}
use Rattle.csyn.specs.declared.cause.Cause.{Cause}
use Rattle.csyn.specs.declared.specifiers.StandardInteger.{StandardInteger}
use Rattle.csyn.specs.declared.span.Span.{Span}
use Rattle.csyn.specs.declared.token.Token.{Token}
use Rattle.csyn.specs.declared.token.TokenKind.{TokenKind}
use Rattle.csyn.specs.declared.token.TokenKind.TheVariants as token
use Rattle.cpre.specs.Directive.{name_of}
use Rattle.cpre.specs.Line.{is_end, NoEnd}
use Rattle.cpre.specs.Replacement.{Macros, definition_of, macro_of, without, at, replaced, expanded}
use Rattle.cpre.specs.Standard.{standard_named, type_or_name, typed_name, typed_kind, typed}
use Rattle.cpre.proofs.Names.{macro_named}

-- ---- lists without an end token

pub no_end_append : (ts us : List Token) → NoEnd ts → NoEnd us → NoEnd (ts ++ us)
no_end_append [] us h k = k
no_end_append (t ∷ ts) us h k = (h.0, no_end_append ts us h.1 k)

no_end_at : (span : Span) (ts : List Token) → NoEnd ts → NoEnd (map (at span) ts)
no_end_at span [] h = tt
no_end_at span (t ∷ ts) h = (h.0, no_end_at span ts h.1)

no_end_flat : (f : Token → List Token) (ts : List Token) → ((t : Token) → is_end t.kind ≡ false → NoEnd (f t)) → NoEnd ts
    → NoEnd (flat_map f ts)
no_end_flat f [] h k = tt
no_end_flat f (t ∷ ts) h k = no_end_append (f t) (flat_map f ts) (h t k.0) (no_end_flat f ts h k.1)

type-or-name : (name : List ℕ) (o : Option StandardInteger) → is_end (type_or_name name o) ≡ false
type-or-name name None = refl
type-or-name name (Some integer) = refl

named-type : (b : Bool) (name : List ℕ) → is_end (typed_name b name) ≡ false
named-type true name = type-or-name name (standard_named name)
named-type false name = refl

typed-end : (b : Bool) (k : TokenKind) → is_end k ≡ false → is_end (typed_kind b k) ≡ false
typed-end b (token.Identifier n) h = named-type b n
typed-end b (token.Number n) h = refl
typed-end b (token.Character n) h = refl
typed-end b (token.Literal n) h = refl
typed-end b (token.Keyword n) h = refl
typed-end b (token.Punctuator n) h = refl
typed-end b (token.Standard n) h = refl
typed-end b token.End h = h

pub no_end_typed : (b : Bool) (ts : List Token) → NoEnd ts → NoEnd (map (typed b) ts)
no_end_typed b [] h = tt
no_end_typed b (t ∷ ts) h = (typed-end b t.kind h.0, no_end_typed b ts h.1)

-- ---- macros without an end token

abbrev pub Bodies : Macros → Type 0
Bodies [] = Unit {0}
Bodies (m ∷ ms) = NoEnd m.1 × Bodies ms

pub bodies_push : (ms : Macros) (m : List ℕ × List Token) → Bodies ms → NoEnd m.1 → Bodies (ms ++ m ∷ [])
bodies_push [] m h k = (k, tt)
bodies_push (n ∷ ms) m h k = (h.0, bodies_push ms m h.1 k)

body-step : (b : Bool) (m tokens : List Token) (o : Option (List Token)) → cond b (Some m) o ≡ Some tokens → NoEnd m
    → (o ≡ Some tokens → NoEnd tokens) → NoEnd tokens
body-step true m tokens o h is rest = let e : m ≡ tokens = cc in subst NoEnd e is
body-step false m tokens o h is rest = rest h

body : (ms : Macros) (name : List ℕ) (tokens : List Token) → Bodies ms → definition_of ms name ≡ Some tokens → NoEnd tokens
body [] name tokens h e = absurd (cc)
body (m ∷ ms) name tokens h e = body-step (bytes_eq name m.0) m.1 tokens (definition_of ms name) e h.0 (body ms name tokens h.1)

bodies-step : (b : Bool) (m : List ℕ × List Token) (ms : Macros) → NoEnd m.1 → Bodies ms → Bodies (cond (not b) (m ∷ ms) ms)
bodies-step true m ms h k = k
bodies-step false m ms h k = (h, k)

bodies-without : (name : List ℕ) (ms : Macros) → Bodies ms → Bodies (without name ms)
bodies-without name [] h = tt
bodies-without name (m ∷ ms) h = bodies-step (bytes_eq name m.0) m (without name ms) h.0 (bodies-without name ms h.1)

replaced-by : (d : ℕ) (ms : Macros) (t : Token) (m : Option (List ℕ × List Token)) → macro_of ms t.kind ≡ m → Bodies ms
    → is_end t.kind ≡ false
    → ((ms : Macros) (t : Token) → Bodies ms → is_end t.kind ≡ false → NoEnd (replaced d ms t))
    → NoEnd (option_map_or (λ m. flat_map (replaced d (without m.0 ms)) (map (at t.span) m.1)) m (t ∷ []))
replaced-by d ms t None is h k rest = (k, tt)
replaced-by d ms t (Some m) is h k rest =
    no_end_flat (replaced d (without m.0 ms)) (map (at t.span) m.1) (λ t. rest (without m.0 ms) t (bodies-without m.0 ms h))
    (no_end_at t.span m.1 (body ms m.0 m.1 h (macro_named ms t.kind m is).1))

no_end_replaced : (d : ℕ) (ms : Macros) (t : Token) → Bodies ms → is_end t.kind ≡ false → NoEnd (replaced d ms t)
unfolding replaced
no_end_replaced zero ms t h k = (k, tt)
no_end_replaced (suc d) ms t h k = replaced-by d ms t (macro_of ms t.kind) refl h k (no_end_replaced d)

pub no_end_expanded : (ms : Macros) (t : Token) → Bodies ms → is_end t.kind ≡ false → NoEnd (expanded ms t)
no_end_expanded ms t h k = no_end_replaced (length ms) ms t h k
