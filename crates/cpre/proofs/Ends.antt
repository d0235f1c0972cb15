-- An expansion ends with the end token of its source, and has no other.
use Rattle.std.proofs.Common.{◌≡◌, ℕ, zero, suc, ◌+◌, Bool, true, false, cond, not, ◌&&◌, List, [], ◌∷◌, ◌++◌, length, map, take}
use Rattle.std.proofs.Common.{Option, Some, None, Result, Ok, Err, IfSome, IfOk, refl, sym, ap, ◌∙◌, subst, arith}
use Rattle.std.specs.Prelude.{if◌then◌else◌, nat_lt}
use Rattle.std.specs.List.{prefix_len, take_while}
use Rattle.csyn.specs.declared.cause.Cause.{Cause}
use Rattle.csyn.specs.declared.span.Span.{Span}
use Rattle.csyn.specs.declared.token.Token.{Token}
use Rattle.csyn.specs.declared.tree.TheConstants.{MAX_TOKENS}
use Rattle.cpre.specs.declared.directive.Directive.{Directive}
use Rattle.cpre.specs.declared.directive.Directive.TheVariants.{Ifdef, Ifndef, Else, Endif, Define, Include}
use Rattle.cpre.specs.declared.state.Group.{Group}
use Rattle.cpre.specs.Directive.{directive_of, name_of, name_alone, definition, defined_as}
use Rattle.cpre.specs.Directive.{without_parameters, opens_parameters, is_stdint, are_same}
use Rattle.cpre.specs.Expansion.{State, start, Fault, is_kept, is_empty, is_malformed, added, define, include, opened, opened_by}
use Rattle.cpre.specs.Expansion.{begin_group, stray, turn_group, end_group, closers, behind_word, directed, with_made, within}
use Rattle.cpre.specs.Expansion.{written, broken_at, and_then, after_all, made_of, expansion}
use Rattle.cpre.specs.Line.{Item, Line, Plain, End, items, begins, goes_on, is_end, NoEnd, EndsOnce}
use Rattle.cpre.specs.Replacement.{definition_of, expanded}
use Rattle.cpre.specs.Standard.{typed}
use Rattle.cpre.proofs.Closing.{by-token, no_end}
use Rattle.cpre.proofs.Ending.{Bodies, no_end_append, no_end_typed, no_end_expanded, bodies_push}

abbrev Clean : State → Type 0
Clean s = NoEnd s.made × Bodies s.macros

abbrev IsClean : Result State Cause → Type 0
IsClean (Ok s) = Clean s
IsClean (Err cause) = Unit {0}

either : (b : Bool) (x y : Result State Cause) → IsClean x → IsClean y → IsClean (cond b x y)
either true x y h k = h
either false x y h k = k

-- ---- lines

take-more : {A : Type 0} (n : ℕ) (x : A) (xs : List A) → x ∷ take n xs ≡ take (1 + n) (x ∷ xs)
take-more n x xs = let e : suc n ≡ 1 + n = omega arith in ap (λ n. take n (x ∷ xs)) e

line-step : (t : Token) (ts : List Token) (goes : Bool) → goes_on t ≡ goes → NoEnd (take_while goes_on ts)
    → NoEnd (take (cond goes (1 + prefix_len goes_on ts) 0) (t ∷ ts))
line-step t ts true is h = subst NoEnd (take-more (prefix_len goes_on ts) t ts) (no_end t is, h)
line-step t ts false is h = tt

no-end-line : (ts : List Token) → NoEnd (take_while goes_on ts)
no-end-line [] = tt
no-end-line (t ∷ ts) = line-step t ts (goes_on t) refl (no-end-line ts)

no-end-behind : (line : List Token) → NoEnd line → NoEnd (behind_word line)
no-end-behind [] h = tt
no-end-behind (t ∷ line) h = h.1

abbrev pair : List ℕ → List Token → List ℕ × List Token
pair name ts = (name, ts)

parameters-by : (b : Bool) (name : List ℕ) (ts : List Token) → NoEnd ts → IfSome (cond b None (Some (pair name ts))) (λ m. NoEnd m.1)
parameters-by true name ts h = tt
parameters-by false name ts h = h

no-parameters : (place : Span) (name : List ℕ) (ts : List Token) → NoEnd ts → IfSome (without_parameters place name ts) (λ m. NoEnd m.1)
no-parameters place name [] h = tt
no-parameters place name (t ∷ ts) h = parameters-by (opens_parameters place name t) name (t ∷ ts) h

defined-by : (place : Span) (ts : List Token) (name : Option (List ℕ)) → NoEnd ts → IfSome (defined_as place ts name) (λ m. NoEnd m.1)
defined-by place ts None h = tt
defined-by place ts (Some name) h = no-parameters place name ts h

defines : (line : List Token) → NoEnd line → IfSome (definition line) (λ m. NoEnd m.1)
defines [] h = tt
defines (t ∷ ts) h = defined-by t.span ts (name_of t.kind) h.1

-- ---- directives

module _ (s : State) (clean : Clean s) where
  adds : (m : List ℕ × List Token) (o : Option (List Token)) → NoEnd m.1 → IsClean (added s m o)
  adds m None h = (clean.0, bodies_push s.macros m clean.1 h)
  adds m (Some tokens) h = either (are_same tokens m.1) (Ok s) (Err _) clean tt

  defines-clean : (o : Option (List ℕ × List Token)) → IfSome o (λ m. NoEnd m.1) → IsClean (define s o)
  defines-clean None h = tt
  defines-clean (Some m) h = adds m (definition_of s.macros m.0) h

  includes : (line : List Token) → IsClean (include s line)
  includes [] = tt
  includes (t ∷ line) = either (is_stdint (t ∷ line)) (Ok _) (Err _) clean tt

  opens : (closed chosen : Bool) → IsClean (opened s closed chosen)
  opens closed chosen = either closed (Ok _) (Err _) clean tt

  opens-by : (closed wanted : Bool) (name : Option (List ℕ)) → IsClean (opened_by s closed wanted name)
  opens-by closed wanted None = tt
  opens-by closed wanted (Some name) = opens closed _

  begins-group : (closed wanted : Bool) (line : List Token) → IsClean (begin_group s closed wanted line)
  begins-group closed wanted line = either (is_kept s.groups) (opened_by s closed wanted (name_alone line)) (opened s closed false)
      (opens-by closed wanted (name_alone line)) (opens closed false)

  strays : (line : List Token) → IsClean (stray line)
  strays line = either (is_empty line) (Err _) (Err _) tt tt

  turns : (groups : List Group) (line : List Token) → IsClean (turn_group s groups line)
  turns [] line = strays line
  turns (g ∷ groups) line = either (is_malformed g line) (Err _) _ tt (either g.has_else (Err _) (Ok _) tt clean)

  ends-group : (groups : List Group) (line : List Token) → IsClean (end_group s groups line)
  ends-group [] line = strays line
  ends-group (g ∷ groups) line = either (is_malformed g line) (Err _) (Ok _) tt clean

  directs : (d : Option Directive) (line : List Token) (closed : Bool) → NoEnd line → IsClean (directed s d line closed)
  directs (Some Ifdef) line closed h = begins-group closed true line
  directs (Some Ifndef) line closed h = begins-group closed false line
  directs (Some Else) line closed h = turns s.groups line
  directs (Some Endif) line closed h = ends-group s.groups line
  directs (Some Define) line closed h = either (is_kept s.groups) (define s (definition line)) (Ok s)
      (defines-clean (definition line) (defines line h)) clean
  directs (Some Include) line closed h = either (is_kept s.groups) (include s line) (Ok s) (includes line) clean
  directs None line closed h = either (is_kept s.groups) (Err _) (Ok s) tt clean

  writes : (t : Token) → is_end t.kind ≡ false → IsClean (written s t)
  writes t h =
      either (is_kept s.groups) (within s (s.made ++ map (typed s.is_included) (expanded s.macros t))) (Ok s)
      (either (nat_lt MAX_TOKENS (length (s.made ++ map (typed s.is_included) (expanded s.macros t)))) (Err _) (Ok _) tt (
        no_end_append s.made (map (typed s.is_included) (expanded s.macros t)) clean.0
            (no_end_typed s.is_included (expanded s.macros t) (no_end_expanded s.macros t clean.1 h)),
        clean.1,
      ))
      clean

-- ---- whole sources

abbrev EndsWith : Token → Result State Fault → Type 0
EndsWith end (Ok s) = (made : List Token) × NoEnd made × (s.made ≡ made ++ end ∷ [])
EndsWith end (Err fault) = Unit {0}

and-false : (a b : Bool) → b ≡ false → (a && b) ≡ false
and-false true b h = h
and-false false b h = refl

at-end : (is_within : Bool) (end : Token) → is_end end.kind ≡ true → items is_within (end ∷ []) ≡ End end ∷ []
at-end is_within end is =
    let stops : (is_within && goes_on end) ≡ false = and-false is_within (goes_on end)
    (and-false (not end.is_first_of_line) (not (is_end end.kind)) (ap not is)) in
    (λ i. by-token end [] (stops i) (is_end end.kind) (begins end)) ∙ (λ i. by-token end [] false (is i) (begins end))

behind : (end : Token) (place : Span) (r : Result State Cause) (rest : List Item) → IsClean r
    → ((s : State) → Clean s → EndsWith end (after_all s rest)) → EndsWith end (and_then (broken_at place r) (λ s. after_all s rest))
behind end place (Ok s) rest clean go = go s clean
behind end place (Err cause) rest clean go = tt

by-begins : (end t : Token) (ts : List Token) (v : State) (starts : Bool) → is_end t.kind ≡ false → Clean v
    → ((w : Bool) (s : State) → Clean s → EndsWith end (after_all s (items w ts)))
    → EndsWith end (after_all v (by-token t ts false false starts))
by-begins end t ts v true is clean go =
    behind end t.span (directed v (directive_of (take_while goes_on ts)) (behind_word (take_while goes_on ts))
    (nat_lt 0 (closers (items true ts)))) (items true ts)
    (directs v clean (directive_of (take_while goes_on ts)) (behind_word (take_while goes_on ts)) (nat_lt 0 (closers (items true ts)))
    (no-end-behind (take_while goes_on ts) (no-end-line ts)))
    (go true)
by-begins end t ts v false is clean go = behind end t.span (written v t) (items false ts) (writes v clean t is) (go false)

by-goes : (end t : Token) (ts : List Token) (v : State) (goes : Bool) → is_end t.kind ≡ false → Clean v
    → ((w : Bool) (s : State) → Clean s → EndsWith end (after_all s (items w ts)))
    → EndsWith end (after_all v (by-token t ts goes (is_end t.kind) (begins t)))
by-goes end t ts v true is clean go = go true v clean
by-goes end t ts v false is clean go =
    subst (λ b. EndsWith end (after_all v (by-token t ts false b (begins t)))) (sym is) (by-begins end t ts v (begins t) is clean go)

ends : (body : List Token) (end : Token) → NoEnd body → is_end end.kind ≡ true → (is_within : Bool) (v : State) → Clean v
    → EndsWith end (after_all v (items is_within (body ++ end ∷ [])))
ends [] end none is is_within v clean = subst (λ items. EndsWith end (after_all v items)) (sym (at-end is_within end is))
    (v.made, clean.0, refl)
ends (t ∷ body) end none is is_within v clean = by-goes end t (body ++ end ∷ []) v (is_within && goes_on t) none.0 clean
    (ends body end none.1 is)

abbrev Once : Result (List Token) Fault → Type 0
Once (Ok out) = EndsOnce out
Once (Err fault) = Unit {0}

once : (end : Token) (r : Result State Fault) → is_end end.kind ≡ true → EndsWith end r → Once (made_of r)
once end (Ok s) is h = (h.0, end, h.2, is, h.1)
once end (Err fault) is h = tt

pub ends_once : (tokens : List Token) → EndsOnce tokens → Once (expansion tokens)
unfolding expansion
ends_once tokens h =
    subst (λ ts. Once (made_of (after_all start (items false ts)))) (sym h.2)
    (once h.1 (after_all start (items false (h.0 ++ h.1 ∷ []))) h.3 (ends h.0 h.1 h.4 h.3 false start (tt, tt)))

pub answer_ends : {A E : Type 0} (view : A → List Token) (tokens : List Token) (r : Result A E)
    → IfOk r (λ out. expansion tokens ≡ Ok (view out)) → EndsOnce tokens → IfOk r (λ out. EndsOnce (view out))
answer_ends view tokens (Ok out) h once = subst Once h (ends_once tokens once)
answer_ends view tokens (Err e) h once = tt

pub expansion_ends : (tokens out : List Token) → expansion tokens ≡ Ok out → EndsOnce tokens → EndsOnce out
expansion_ends tokens out e once = subst Once e (ends_once tokens once)
