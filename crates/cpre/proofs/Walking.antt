-- Going through a source item by item.
use Rattle.std.proofs.Common.{◌≡◌, ℕ, zero, suc, ◌+◌, ◌-◌, ◌<◌, ◌≤◌, Bool, true, false, cond, not, ◌&&◌, List, [], ◌∷◌, ◌++◌}
use Rattle.std.proofs.Common.{length, take, drop, get_or, Option, Some, None, Result, Ok, Err, refl, sym, ap, ◌∙◌, subst}
use Rattle.std.proofs.Common.{true≢false, arith, false-eqb}
use Rattle.std.specs.Prelude.{if◌then◌else◌, nat_lt, ◌==◌}
use Rattle.std.specs.List.{prefix_len, take_while}
use Rattle.std.proofs.lemmas.List.{take_all, nil_from_length}
use Rattle.csyn.specs.declared.cause.Cause.{Cause}
use Rattle.csyn.specs.declared.cause.Cause.TheVariants.{P6}
use Rattle.csyn.specs.declared.fault.SourceFault.{SourceFault}
use Rattle.csyn.specs.declared.span.Span.{Span}
use Rattle.csyn.specs.declared.token.Token.{Token}
use Rattle.csyn.specs.declared.token.TokenKind.{TokenKind}
use Rattle.csyn.specs.declared.token.TokenKind.TheVariants as token
use Rattle.cpre.specs.declared.directive.Directive.{Directive}
use Rattle.cpre.specs.declared.directive.Directive.TheVariants.{Ifdef, Ifndef, Else, Endif, Define, Include}
use Rattle.cpre.specs.declared.fault.ItemFault.{ItemFault}
use Rattle.cpre.specs.declared.fault.ItemFault.TheVariants.{Broken, Memory}
use Rattle.cpre.specs.declared.source.Closing.{Closing}
use Rattle.cpre.specs.Closing.{is_opening, unclosed, Counts, with_opening, with_directive}
use Rattle.cpre.specs.Directive.{directive_of, name_alone}
use Rattle.cpre.specs.Expansion.{State, start, Fault, is_kept, opened_by, begin_group, closing, closers, behind_word, directed}
use Rattle.cpre.specs.Expansion.{with_made, written, broken_at, after_item, and_then, after_all, made_of, expansion}
use Rattle.cpre.specs.Given.{Fails, Refuses, fault_at}
use Rattle.cpre.specs.Line.{Item, Line, Plain, End, items, begins, goes_on, is_end, is_hash}
use Rattle.cpre.specs.Standard.{typed, typed_kind}
use Rattle.std.proofs.lemmas.Bool.{eqb-true}
use Rattle.std.proofs.lemmas.Bool.Decides.{Decides-eqb, Decides-ltb}
use Rattle.cpre.proofs.Reading.{ok}
use Rattle.cpre.proofs.Stages.{false-unless}
use Rattle.cpre.proofs.Closing.{rest_of_line, items_skip, closers_within, unclosed_skip, unclosed_within, items_of_line}
use Rattle.cpre.proofs.Closing.{closers_of_line, unclosed_of_line, items_of_end, items_of_plain, unclosed_of_other}

-- ---- counting from the right

hash-no-end : (k : TokenKind) → is_end k ≡ true → is_hash k ≡ false
hash-no-end (token.Identifier n) h = refl
hash-no-end (token.Number n) h = refl
hash-no-end (token.Character n) h = refl
hash-no-end (token.Literal n) h = refl
hash-no-end (token.Keyword n) h = refl
hash-no-end (token.Punctuator n) h = absurd (true≢false (sym h))
hash-no-end (token.Standard n) h = refl
hash-no-end token.End h = refl

and-false : (a b : Bool) → b ≡ false → (a && b) ≡ false
and-false true b h = h
and-false false b h = refl

pub end_begins_nothing : (t : Token) → is_end t.kind ≡ true → begins t ≡ false
end_begins_nothing t h = and-false t.is_first_of_line (is_hash t.kind) (hash-no-end t.kind h)

pub counts_end : (n : ℕ) (closing : Closing) (t : Token) (ts : List Token) → Counts closing ts → is_end t.kind ≡ true
    → Counts (record { unclosed = closing.unclosed; closers = 0 }) (t ∷ ts)
counts_end n c t ts counts is = record {
  unclosed_is = counts.unclosed_is ∙ sym (unclosed_of_other t ts (end_begins_nothing t is));
  closers_are = sym (ap closers (items_of_end t ts is));
  few = omega arith;
}

pub counts_plain : (closing : Closing) (t : Token) (ts : List Token) → Counts closing ts → is_end t.kind ≡ false → begins t ≡ false
    → Counts closing (t ∷ ts)
counts_plain c t ts counts no-end no-beginning = record {
  unclosed_is = counts.unclosed_is ∙ sym (unclosed_of_other t ts no-beginning);
  closers_are = counts.closers_are ∙ sym (ap closers (items_of_plain t ts no-end no-beginning));
  few = let f = counts.few in omega (arith, f);
}

module _ (c : Closing) (t : Token) (ts : List Token) (counts : Counts c ts) (is : begins t ≡ true) where
  unclosed-as : (d : Option Directive) → directive_of (take_while goes_on ts) ≡ d
      → unclosed (t ∷ ts) ≡ (if (is_opening d && (closers (items false ts) == 0)) then suc (length ts) else unclosed ts)
  unclosed-as d e = unclosed_of_line t ts is ∙ ap (λ d. if (is_opening d && (closers (items false ts) == 0)) then suc
      (length ts) else unclosed ts) e

  closers-as : (d : Option Directive) → directive_of (take_while goes_on ts) ≡ d
      → closers (items false (t ∷ ts)) ≡ closing d (closers (items false ts))
  closers-as d e = closers_of_line t ts is ∙ ap (λ d. closing d (closers (items false ts))) e

  -- an opening, by whether nothing closes it
  opening-by : (b : Bool) → (closers (items false ts) == 0) ≡ b
      → unclosed (t ∷ ts) ≡ (if (closers (items false ts) == 0) then suc (length ts) else unclosed ts)
      → closers (items false (t ∷ ts)) ≡ closers (items false ts) - 1
      → Counts (if b then record { unclosed = suc (length ts); closers = 0 } else record
      { unclosed = c.unclosed; closers = c.closers - 1 }) (t ∷ ts)
  opening-by true e u k =
      let zero-closers : closers (items false ts) ≡ 0 = eqb-true (closers (items false ts)) 0 e in
      record {
        unclosed_is = sym (u ∙ ap (λ b. if b then suc (length ts) else unclosed ts) e);
        closers_are = omega (arith, zero-closers, k);
        few = omega arith;
      }
  opening-by false e u k =
      let are = counts.closers_are in
      let few = counts.few in
      record {
        unclosed_is = counts.unclosed_is ∙ sym (u ∙ ap (λ b. if b then suc (length ts) else unclosed ts) e);
        closers_are = omega (arith, are, k);
        few = omega (arith, few);
      }

  counts-opening : unclosed (t ∷ ts) ≡ (if (closers (items false ts) == 0) then suc (length ts) else unclosed ts)
      → closers (items false (t ∷ ts)) ≡ closers (items false ts) - 1
      → Counts (with_opening (suc (length ts)) c) (t ∷ ts)
  counts-opening u k =
      subst (λ n. Counts (if (n == 0) then record { unclosed = suc (length ts); closers = 0 } else record
      { unclosed = c.unclosed; closers = c.closers - 1 }) (t ∷ ts)) (sym counts.closers_are)
      (opening-by (closers (items false ts) == 0) refl u k)

  same-counts : unclosed (t ∷ ts) ≡ unclosed ts → closers (items false (t ∷ ts)) ≡ closers (items false ts) → Counts c (t ∷ ts)
  same-counts u k = record {
    unclosed_is = counts.unclosed_is ∙ sym u;
    closers_are = counts.closers_are ∙ sym k;
    few = let f = counts.few in omega (arith, f);
  }

  pub counts_line : (d : Option Directive) → directive_of (take_while goes_on ts) ≡ d
      → Counts (with_directive d (suc (length ts)) c) (t ∷ ts)
  counts_line (Some Ifdef) e = counts-opening (unclosed-as (Some Ifdef) e) (closers-as (Some Ifdef) e)
  counts_line (Some Ifndef) e = counts-opening (unclosed-as (Some Ifndef) e) (closers-as (Some Ifndef) e)
  counts_line (Some Endif) e =
      let k = closers-as (Some Endif) e in
      let are = counts.closers_are in
      let few = counts.few in
      record {
        unclosed_is = counts.unclosed_is ∙ sym (unclosed-as (Some Endif) e);
        closers_are = omega (arith, are, k);
        few = omega (arith, few);
      }
  counts_line (Some Else) e = same-counts (unclosed-as (Some Else) e) (closers-as (Some Else) e)
  counts_line (Some Define) e = same-counts (unclosed-as (Some Define) e) (closers-as (Some Define) e)
  counts_line (Some Include) e = same-counts (unclosed-as (Some Include) e) (closers-as (Some Include) e)
  counts_line None e = same-counts (unclosed-as None e) (closers-as None e)

-- ---- a directive's line

-- only of openings is it asked whether they are closed
same-closing : (v : State) (d : Option Directive) (line : List Token) (a b : Bool) → (is_opening d ≡ true → a ≡ b)
    → directed v d line a ≡ directed v d line b
same-closing v (Some Ifdef) line a b h = ap (directed v (Some Ifdef) line) (h refl)
same-closing v (Some Ifndef) line a b h = ap (directed v (Some Ifndef) line) (h refl)
same-closing v (Some Else) line a b h = refl
same-closing v (Some Endif) line a b h = refl
same-closing v (Some Define) line a b h = refl
same-closing v (Some Include) line a b h = refl
same-closing v None line a b h = refl

no-group : (v w : State) (kept wanted : Bool) (name : Option (List ℕ)) → (if kept then opened_by v false wanted name else Err P6) ≡ Ok w → ⊥
no-group v w true wanted None h = cc
no-group v w true wanted (Some n) h = cc
no-group v w false wanted name h = cc

self-equal : (n : ℕ) → (n == n) ≡ true
self-equal n = (Decides-eqb n n).1 refl

differ : (n m : ℕ) → m < n → (n == m) ≡ false
differ n m h = false-unless (n == m) (λ e. let same : n ≡ m = (Decides-eqb n m).0 e in absurd (omega (arith, same, h)))

some-below : (n : ℕ) → (n == 0) ≡ false → nat_lt 0 n ≡ true
some-below n h = (Decides-ltb 0 n).1 (omega (arith, false-eqb n 0 (sym h)))

module _ (v : State) (t : Token) (ts : List Token) (is : begins t ≡ true) (first : ℕ) (known : first ≡ unclosed (t ∷ ts)) where
  abbrev the_line : List Token
  the_line = take_while goes_on ts

  abbrev is-closed : Bool
  is-closed = not (suc (length ts) == first)

  closed-by : (b : Bool) → (closers (items false ts) == 0) ≡ b → first ≡ (if b then suc (length ts) else unclosed ts)
      → is-closed ≡ nat_lt 0 (closers (items false ts))
  closed-by true e u =
      let zero-closers : closers (items false ts) ≡ 0 = eqb-true (closers (items false ts)) 0 e in
      ap (λ n. not (suc (length ts) == n)) u ∙ ap not (self-equal (suc (length ts))) ∙ sym (ap (nat_lt 0) zero-closers)
  closed-by false e u =
      let within = unclosed_within ts in
      ap not (differ (suc (length ts)) first (omega (arith, within, u))) ∙ sym (some-below (closers (items false ts)) e)

  closed-is : (d : Option Directive) → directive_of the_line ≡ d → is_opening d ≡ true → is-closed ≡ nat_lt 0 (closers (items true ts))
  closed-is d e opens =
      closed-by (closers (items false ts) == 0) refl
      (known ∙ unclosed_of_line t ts is ∙ (λ i. if (is_opening (e i) && (closers (items false ts) == 0)) then suc
      (length ts) else unclosed ts)
      ∙ (λ i. if (opens i && (closers (items false ts) == 0)) then suc (length ts) else unclosed ts))
      ∙ ap (nat_lt 0) (sym (closers_within ts))

  abbrev step : Result State Cause
  step = directed v (directive_of the_line) (behind_word the_line) is-closed

  -- behind the line, where it is asked of an opening what the code asks
  pub after_line : after_all v (items false (t ∷ ts)) ≡ and_then (broken_at t.span step)
      (λ behind. after_all behind (items false (rest_of_line ts)))
  after_line =
      ap (after_all v) (items_of_line t ts is)
      ∙ ap (λ r. and_then (broken_at t.span r) (λ behind. after_all behind (items true ts)))
      (sym (same-closing v (directive_of the_line) (behind_word the_line) is-closed (nat_lt 0 (closers (items true ts)))
      (closed-is (directive_of the_line) refl)))
      ∙ (λ i. and_then (broken_at t.span step) (λ behind. after_all behind (items_skip ts i)))

  pub line_ok : (w : State) → step ≡ Ok w → after_all v (items false (t ∷ ts)) ≡ after_all w (items false (rest_of_line ts))
  line_ok w h = after_line ∙ ap (λ r. and_then (broken_at t.span r) (λ behind. after_all behind (items false (rest_of_line ts)))) h

  pub line_err : (cause : Cause) → step ≡ Err cause → after_all v (items false (t ∷ ts)) ≡ Err (t.span, cause)
  line_err cause h = after_line ∙ ap (λ r. and_then (broken_at t.span r) (λ behind. after_all behind (items false (rest_of_line ts)))) h

  -- an opening behind which there is a state has its `#endif`
  closed-opening : (w : State) (d : Option Directive) (b : Bool) (line : List Token) → directed v d line b ≡ Ok w → is_opening d ≡ true
      → b ≡ true
  closed-opening w d true line h opens = refl
  closed-opening w (Some Ifdef) false line h opens = absurd (no-group v w (is_kept v.groups) true (name_alone line) h)
  closed-opening w (Some Ifndef) false line h opens = absurd (no-group v w (is_kept v.groups) false (name_alone line) h)
  closed-opening w (Some Else) false line h opens = absurd (true≢false (sym opens))
  closed-opening w (Some Endif) false line h opens = absurd (true≢false (sym opens))
  closed-opening w (Some Define) false line h opens = absurd (true≢false (sym opens))
  closed-opening w (Some Include) false line h opens = absurd (true≢false (sym opens))
  closed-opening w None false line h opens = absurd (true≢false (sym opens))

  not-first : (b : Bool) → is_opening (directive_of the_line) ≡ b → (is_opening (directive_of the_line) ≡ true → is-closed ≡ true)
      → (c : Bool) → (closers (items false ts) == 0) ≡ c → first ≡ (if (b && c) then suc (length ts) else unclosed ts) → first ≡ unclosed ts
  not-first false e closed c f u = u
  not-first true e closed false f u = u
  not-first true e closed true f u =
      absurd (true≢false (sym (closed e) ∙ ap (λ n. not (suc (length ts) == n)) u ∙ ap not (self-equal (suc (length ts)))))

  pub first_behind : (w : State) → step ≡ Ok w → first ≡ unclosed (rest_of_line ts)
  first_behind w h =
      not-first (is_opening (directive_of the_line)) refl (closed-opening w (directive_of the_line) is-closed (behind_word the_line) h)
      (closers (items false ts) == 0) refl
      (known ∙ unclosed_of_line t ts is)
      ∙ sym (unclosed_skip ts)

-- ---- other tokens

module _ (v : State) (t : Token) (ts : List Token) (no-end : is_end t.kind ≡ false) (no-beginning : begins t ≡ false) where
  after-plain : after_all v (items false (t ∷ ts)) ≡ and_then (broken_at t.span (written v t)) (λ behind. after_all behind (items false ts))
  after-plain = ap (after_all v) (items_of_plain t ts no-end no-beginning)

  pub plain_ok : (w : State) → written v t ≡ Ok w → after_all v (items false (t ∷ ts)) ≡ after_all w (items false ts)
  plain_ok w h = after-plain ∙ ap (λ r. and_then (broken_at t.span r) (λ behind. after_all behind (items false ts))) h

  pub plain_err : (cause : Cause) → written v t ≡ Err cause → after_all v (items false (t ∷ ts)) ≡ Err (t.span, cause)
  plain_err cause h = after-plain ∙ ap (λ r. and_then (broken_at t.span r) (λ behind. after_all behind (items false ts))) h

pub first_plain : (first : ℕ) (t : Token) (ts : List Token) → begins t ≡ false → first ≡ unclosed (t ∷ ts) → first ≡ unclosed ts
first_plain first t ts no-beginning h = h ∙ unclosed_of_other t ts no-beginning

-- ---- what is answered

expansion-is : (tokens : List Token) → expansion tokens ≡ made_of (after_all start (items false tokens))
unfolding expansion
expansion-is tokens = refl

module _ (tokens rest : List Token) (v : State) (same : after_all v (items false rest) ≡ after_all start (items false tokens)) where
  pub expansion_from : expansion tokens ≡ made_of (after_all v (items false rest))
  expansion_from = expansion-is tokens ∙ ap made_of (sym same)

  fails-at : (fault : ItemFault) (span : Span) (r : Result State Cause) → Fails fault r
      → ((cause : Cause) → r ≡ Err cause → after_all v (items false rest) ≡ Err (span, cause))
      → Refuses (fault_at fault span) (expansion tokens)
  fails-at (Broken cause) span r fails errs = expansion_from ∙ ap made_of (errs cause fails)
  fails-at Memory span r fails errs = tt

  pub fails_at : (fault : ItemFault) (span : Span) (r : Result State Cause) (g : SourceFault) → g ≡ fault_at fault span → Fails fault r
      → ((cause : Cause) → r ≡ Err cause → after_all v (items false rest) ≡ Err (span, cause)) → Refuses g (expansion tokens)
  fails_at fault span r g is fails errs = subst (λ g. Refuses g (expansion tokens)) (sym is) (fails-at fault span r fails errs)

  typed-end : (k : TokenKind) (b : Bool) → is_end k ≡ true → typed_kind b k ≡ k
  typed-end (token.Identifier n) b h = absurd (true≢false (sym h))
  typed-end (token.Number n) b h = refl
  typed-end (token.Character n) b h = refl
  typed-end (token.Literal n) b h = refl
  typed-end (token.Keyword n) b h = refl
  typed-end (token.Punctuator n) b h = refl
  typed-end (token.Standard n) b h = refl
  typed-end token.End b h = refl

  pub ends_with : (t : Token) (ts : List Token) (b : Bool) → rest ≡ t ∷ ts → is_end t.kind ≡ true
      → expansion tokens ≡ Ok (v.made ++ typed b t ∷ [])
  ends_with t ts b e is =
      expansion_from
      ∙ ap (λ rest. made_of (after_all v (items false rest))) e
      ∙ ap (λ items. made_of (after_all v items)) (items_of_end t ts is)
      ∙ ap (λ (k : TokenKind). Ok (v.made ++ record { kind = k; span = t.span; is_first_of_line = t.is_first_of_line } ∷ []))
      (sym (typed-end t.kind b is))

  pub ends_without : rest ≡ [] → expansion tokens ≡ Ok v.made
  ends_without e = expansion_from ∙ ap (λ rest. made_of (after_all v (items false rest))) e

-- ---- the loop over the tokens

abbrev pub tail_of : List Token → List Token
tail_of rest = take (length rest - 1) (drop 1 rest)

pub whole : (rest : List Token) (t : Token) → 1 ≤ length rest → t ≡ get_or rest 0 t → rest ≡ t ∷ tail_of rest
whole [] t some is = absurd (let none : ⊥ = omega arith in none)
whole (u ∷ ts) t some is =
    ap (λ (v : Token). v ∷ ts) (sym is) ∙ ap (λ us. t ∷ us) (sym (take_all (length (u ∷ ts) - 1) ts (omega arith)))

pub counted : (closing : Closing) (t : Token) (ts line : List Token) (d : Option Directive) (result : Closing) → Counts closing ts
    → begins t ≡ true → d ≡ directive_of line → line ≡ take_while goes_on ts
    → result ≡ with_directive d (length ts + 1) closing → Counts result (t ∷ ts)
counted closing t ts line d result counts is names line-is made =
    let n : suc (length ts) ≡ length ts + 1 = omega arith in
    subst (λ r. Counts r (t ∷ ts)) (ap (λ n. with_directive d n closing) n ∙ sym made)
    (counts_line closing t ts counts is d (sym (names ∙ ap directive_of line-is)))

module _ (tokens rest : List Token) (v : State) (t : Token) (first : ℕ)
    (same : after_all v (items false rest) ≡ after_all start (items false tokens)) (known : first ≡ unclosed rest)
    (some : 1 ≤ length rest) (at : t ≡ get_or rest 0 t) where
  abbrev tail : List Token
  tail = tail_of rest

  parts : rest ≡ t ∷ tail
  parts = whole rest t some at

  same-parts : after_all v (items false (t ∷ tail)) ≡ after_all start (items false tokens)
  same-parts = ap (λ r. after_all v (items false r)) (sym parts) ∙ same

  module _ (line left : List Token) (closed : Bool) (is : begins t ≡ true) (line-is : line ≡ take_while goes_on tail)
      (left-is : left ≡ rest_of_line tail) (closed-is : closed ≡ not (length rest == first)) where
    step-is : directed v (directive_of line) (behind_word line) closed
        ≡ directed v (directive_of (take_while goes_on tail)) (behind_word (take_while goes_on tail)) (not (suc (length tail) == first))
    step-is =
        (λ i. directed v (directive_of (line-is i)) (behind_word (line-is i)) closed)
        ∙ ap (directed v (directive_of (take_while goes_on tail)) (behind_word (take_while goes_on tail)))
        (closed-is ∙ ap (λ (r : List Token). not (length r == first)) parts)

    pub line_fails : (fault : ItemFault) (g : SourceFault) → g ≡ fault_at fault t.span
        → Fails fault (directed v (directive_of line) (behind_word line) closed) → Refuses g (expansion tokens)
    line_fails fault g is-at fails =
        fails_at tokens (t ∷ tail) v same-parts fault t.span (directed v (directive_of line) (behind_word line) closed) g is-at fails
        (λ cause h. line_err v t tail is first (known ∙ ap unclosed parts) cause (sym step-is ∙ h))

    pub line_goes : (w : State) → directed v (directive_of line) (behind_word line) closed ≡ Ok w
        → (after_all w (items false left) ≡ after_all start (items false tokens)) × (first ≡ unclosed left)
    line_goes w h =
        let k = sym step-is ∙ h in (
          ap (λ r. after_all w (items false r)) left-is ∙ sym (line_ok v t tail is first (known ∙ ap unclosed parts) w k) ∙ same-parts,
          first_behind v t tail is first (known ∙ ap unclosed parts) w k ∙ ap unclosed (sym left-is),
        )

  pub plain_fails : (fault : ItemFault) (g : SourceFault) → is_end t.kind ≡ false → begins t ≡ false → g ≡ fault_at fault t.span
      → Fails fault (written v t) → Refuses g (expansion tokens)
  plain_fails fault g no-end no-beginning is-at fails =
      fails_at tokens (t ∷ tail) v same-parts fault t.span (written v t) g is-at fails
      (λ cause h. plain_err v t tail no-end no-beginning cause h)

  pub end_answers : (b : Bool) (out : List Token) → is_end t.kind ≡ true → out ≡ v.made ++ typed b t ∷ [] → expansion tokens ≡ Ok out
  end_answers b out is made = ends_with tokens rest v same t tail b parts is ∙ ap (λ (o : List Token). ok o) (sym made)

pub none_answers : (tokens rest : List Token) (v : State) (out : List Token)
    → after_all v (items false rest) ≡ after_all start (items false tokens) → length rest < 1 → out ≡ v.made → expansion tokens ≡ Ok out
none_answers tokens rest v out same few made =
    ends_without tokens rest v same (nil_from_length rest (omega arith)) ∙ ap (λ (o : List Token). ok o) (sym made)
