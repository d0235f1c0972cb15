-- What is defined by a name where other names are hidden.
use Rattle.std.proofs.Common.{◌≡◌, ℕ, suc, ◌<◌, ◌≤◌, Bool, true, false, cond, not, ◌||◌, List, [], ◌∷◌, ◌++◌, length, map, Option}
use Rattle.std.proofs.Common.{Some, None, refl, sym, ap, ◌∙◌, subst, true≢false, option_and_then, arith}
use Rattle.std.specs.Option.{option_map, unwrap_or}
use Rattle.std.specs.Map.{lookup}
use Rattle.std.specs.Str.{bytes_eq}
use Rattle.std.proofs.lemmas.Slice.Eq.{bytes_eq-Decides}
use Rattle.csyn.specs.declared.token.Token.{Token}
use Rattle.csyn.specs.declared.token.TokenKind.{TokenKind}
use Rattle.cpre.specs.declared.macros.Macros as declared
use Rattle.cpre.specs.Directive.{name_of}
use Rattle.cpre.specs.Held.{macros_of, found}
use Rattle.cpre.specs.Replacement.{Macros, definition_of, macro_of, without}
use Rattle.cpre.specs.Replacing.{hide, is_among}

-- ---- names

pub same_name : (a b : List ℕ) → bytes_eq a b ≡ true → a ≡ b
same_name a b h = (bytes_eq-Decides a b).0 h

pub own_name : (a : List ℕ) → bytes_eq a a ≡ true
own_name a = (bytes_eq-Decides a a).1 refl

swapped-by : (a b : List ℕ) (r s : Bool) → bytes_eq a b ≡ r → bytes_eq b a ≡ s → r ≡ s
swapped-by a b true true p q = refl
swapped-by a b true false p q = absurd (true≢false (sym ((bytes_eq-Decides b a).1 (sym (same_name a b p))) ∙ q))
swapped-by a b false true p q = absurd (true≢false (sym ((bytes_eq-Decides a b).1 (sym (same_name b a q))) ∙ p))
swapped-by a b false false p q = refl

pub swapped : (a b : List ℕ) → bytes_eq a b ≡ bytes_eq b a
swapped a b = swapped-by a b (bytes_eq a b) (bytes_eq b a) refl refl

-- ---- without a name

module _ {T : Type 0} (x : T) (v l : Option T) where
  chosen : (b c : Bool) → v ≡ cond c None l → b ≡ c → v ≡ cond c None (cond b (Some x) l)
  chosen b true h e = h
  chosen b false h e = h ∙ (λ i. cond (sym e i) (Some x) l)

  passed : (b c : Bool) → v ≡ cond c None l → (b ≡ true → c ≡ false) → cond b (Some x) v ≡ cond c None (cond b (Some x) l)
  passed true c h e = λ i. cond (sym (e refl) i) None (Some x)
  passed false c h e = h

pub none : {T : Type 0} (b : Bool) → cond {A = Option T} b None None ≡ None
none true = refl
none false = refl

without-step : (name n : List ℕ) (m : List ℕ × List Token) (w : Macros) (l : Option (List Token)) (a : Bool) → bytes_eq name m.0 ≡ a
    → lookup (bytes_eq n) w ≡ cond (bytes_eq n name) None l
    → lookup (bytes_eq n) (cond (not a) (m ∷ w) w) ≡ cond (bytes_eq n name) None (cond (bytes_eq n m.0) (Some m.1) l)
without-step name n m w l true p h = chosen m.1 (lookup (bytes_eq n) w) l (bytes_eq n m.0) (bytes_eq n name) h
    (ap (bytes_eq n) (sym (same_name name m.0 p)))
without-step name n m w l false p h =
    passed m.1 (lookup (bytes_eq n) w) l (bytes_eq n m.0) (bytes_eq n name) h
    (λ q. ap (λ k. bytes_eq k name) (same_name n m.0 q) ∙ swapped m.0 name ∙ p)

pub definition_of-without : (name n : List ℕ) (ms : Macros) → definition_of (without name ms) n
    ≡ cond (bytes_eq n name) None (definition_of ms n)
definition_of-without name n [] = sym (none (bytes_eq n name))
definition_of-without name n (m ∷ ms) = without-step name n m (without name ms) (definition_of ms n) (bytes_eq name m.0) refl
    (definition_of-without name n ms)

fewer-step : (m : List ℕ × List Token) (w ms : Macros) (a : Bool) → length w ≤ length ms → length (cond (not a) (m ∷ w) w) ≤ suc (length ms)
fewer-step m w ms true h = omega (arith, h)
fewer-step m w ms false h = omega (arith, h)

fewer : (name : List ℕ) (ms : Macros) → length (without name ms) ≤ length ms
fewer name [] = omega arith
fewer name (m ∷ ms) = fewer-step m (without name ms) ms (bytes_eq name m.0) (fewer name ms)

shorter-step : (name : List ℕ) (m : List ℕ × List Token) (ms : Macros) (tokens : List Token) (a : Bool)
    → cond a (Some m.1) (definition_of ms name) ≡ Some tokens
    → (definition_of ms name ≡ Some tokens → length (without name ms) < length ms)
    → length (cond (not a) (m ∷ without name ms) (without name ms)) < suc (length ms)
shorter-step name m ms tokens true h rest = let le = fewer name ms in omega (arith, le)
shorter-step name m ms tokens false h rest = let lt = rest h in omega (arith, lt)

pub shorter : (name : List ℕ) (ms : Macros) (tokens : List Token) → definition_of ms name ≡ Some tokens
    → length (without name ms) < length ms
shorter name [] tokens h = absurd (cc)
shorter name (m ∷ ms) tokens h = shorter-step name m ms tokens (bytes_eq name m.0) h (λ h. shorter name ms tokens h)

-- ---- with names hidden

either : {T : Type 0} (a b : Bool) (l : Option T) → cond a None (cond b None l) ≡ cond (a || b) None l
either true b l = refl
either false b l = refl

pub definition_of-hide : (hidden : List (List ℕ)) (n : List ℕ) (ms : Macros)
    → definition_of (hide hidden ms) n ≡ cond (is_among hidden n) None (definition_of ms n)
definition_of-hide [] n ms = refl
definition_of-hide (h ∷ hidden) n ms =
    definition_of-without h n (hide hidden ms)
    ∙ ap (cond (bytes_eq n h) None) (definition_of-hide hidden n ms)
    ∙ either (bytes_eq n h) (is_among hidden n) (definition_of ms n)

-- ---- the macro that a token names

module _ (n : List ℕ) (m : List ℕ × List Token) where
  pub named : (o : Option (List Token)) → option_map (λ tokens. (n, tokens)) o ≡ Some m → (n ≡ m.0) × (o ≡ Some m.1)
  named None h = absurd (cc)
  named (Some tokens) h =
      let e : (n, tokens) ≡ m = ap (λ o. unwrap_or o (n, tokens)) h in
      (ap (λ m. m.0) e, ap (λ (m : List ℕ × List Token). Some m.1) e)

by_name : (ms : Macros) (name : Option (List ℕ)) (m : List ℕ × List Token)
    → option_and_then (λ n. option_map (λ tokens. (n, tokens)) (definition_of ms n)) name ≡ Some m
    → (name ≡ Some m.0) × (definition_of ms m.0 ≡ Some m.1)
by_name ms None m h = absurd (cc)
by_name ms (Some n) m h =
    let e = named n m (definition_of ms n) h in
    (ap Some e.0, ap (definition_of ms) (sym e.0) ∙ e.1)

pub macro_named : (ms : Macros) (kind : TokenKind) (m : List ℕ × List Token) → macro_of ms kind ≡ Some m
    → (name_of kind ≡ Some m.0) × (definition_of ms m.0 ≡ Some m.1)
macro_named ms kind m h = by_name ms (name_of kind) m h

pub names_macro : (ms : Macros) (kind : TokenKind) (n : List ℕ) (o : Option (List Token)) → name_of kind ≡ Some n
    → definition_of ms n ≡ o → macro_of ms kind ≡ option_map (λ tokens. (n, tokens)) o
names_macro ms kind n o named defined =
    ap (option_and_then (λ n. option_map (λ tokens. (n, tokens)) (definition_of ms n))) named
    ∙ ap (option_map (λ tokens. (n, tokens))) defined

pub names_none : (ms : Macros) (kind : TokenKind) → name_of kind ≡ None → macro_of ms kind ≡ None
names_none ms kind named = ap (option_and_then (λ n. option_map (λ tokens. (n, tokens)) (definition_of ms n))) named

pub fewer_macros : (ms : Macros) (kind : TokenKind) (m : List ℕ × List Token) → macro_of ms kind ≡ Some m
    → length (without m.0 ms) < length ms
fewer_macros ms kind m h = shorter m.0 ms m.1 (macro_named ms kind m h).1

abbrev pair : List ℕ → List Token → List ℕ × List Token
pair n tokens = (n, tokens)

no-macro : (o : Option (List ℕ)) → option_and_then (λ n. option_map (pair n) None) o ≡ None
no-macro None = refl
no-macro (Some n) = refl

pub no_macros : (kind : TokenKind) → macro_of [] kind ≡ None
no_macros kind = no-macro (name_of kind)

-- ---- more macros

abbrev pub Extends : Macros → Macros → Type 0
Extends ms more = (n : List ℕ) (tokens : List Token) → definition_of ms n ≡ Some tokens → definition_of more n ≡ Some tokens

extends-cond : (a : Bool) (l k : Option (List Token)) (tokens : List Token) → cond a None l ≡ Some tokens
    → (l ≡ Some tokens → k ≡ Some tokens) → cond a None k ≡ Some tokens
extends-cond true l k tokens h more = absurd (cc)
extends-cond false l k tokens h more = more h

pub extends_without : (name : List ℕ) (ms more : Macros) → Extends ms more → Extends (without name ms) (without name more)
extends_without name ms more extends = λ n tokens h.
    definition_of-without name n more
    ∙ extends-cond (bytes_eq n name) (definition_of ms n) (definition_of more n) tokens (sym (definition_of-without name n ms) ∙ h)
    (extends n tokens)

pub extends_hide : (hidden : List (List ℕ)) (ms more : Macros) → Extends ms more → Extends (hide hidden ms) (hide hidden more)
extends_hide [] ms more extends = extends
extends_hide (h ∷ hidden) ms more extends = extends_without h (hide hidden ms) (hide hidden more) (extends_hide hidden ms more extends)

push-step : (a : Bool) (x tokens : List Token) (l k : Option (List Token)) → cond a (Some x) l ≡ Some tokens
    → (l ≡ Some tokens → k ≡ Some tokens) → cond a (Some x) k ≡ Some tokens
push-step true x tokens l k h more = h
push-step false x tokens l k h more = more h

pub extends_push : (ms : Macros) (m : List ℕ × List Token) → Extends ms (ms ++ m ∷ [])
extends_push [] m = λ n tokens h. absurd (cc)
extends_push (first ∷ ms) m = λ n tokens h. push-step (bytes_eq n first.0) first.1 tokens (definition_of ms n)
    (definition_of (ms ++ m ∷ []) n) h (extends_push ms m n tokens)

pub extends_macro : (ms more : Macros) (kind : TokenKind) (m : List ℕ × List Token) → Extends ms more → macro_of ms kind ≡ Some m
    → macro_of more kind ≡ Some m
extends_macro ms more kind m extends h =
    let e = macro_named ms kind m h in
    names_macro more kind m.0 (Some m.1) e.0 (extends m.0 m.1 e.1)

-- ---- what is held

module _ {K V N T : Type 0} (test : N → Bool) (name : K → N) (tokens : V → T) where
  seen-step : (b : Bool) (v : V) (o : Option V) (l : Option T) → l ≡ option_map tokens o
      → cond b (Some (tokens v)) l ≡ option_map tokens (cond b (Some v) o)
  seen-step true v o l h = refl
  seen-step false v o l h = h

  pub lookup_seen : (es : List (K × V)) → lookup test (map (λ e. (name e.0, tokens e.1)) es)
      ≡ option_map tokens (lookup (λ k. test (name k)) es)
  lookup_seen [] = refl
  lookup_seen (e ∷ es) = seen-step (test (name e.0)) e.1 (lookup (λ k. test (name k)) es) _ (lookup_seen es)

pub definition_found : (macros : declared.Macros) (n : List ℕ)
    → definition_of (macros_of macros) n ≡ option_map (λ m. m.tokens.now) (found macros n)
definition_found macros n = lookup_seen (bytes_eq n) (λ k. k.now) (λ m. m.tokens.now) macros.by_name.entries
