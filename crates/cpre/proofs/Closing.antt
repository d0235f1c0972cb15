-- The items of a source behind a line, and openings counted from the right.
use Rattle.std.proofs.Common.{◌≡◌, ℕ, zero, suc, ◌+◌, ◌-◌, ◌<◌, ◌≤◌, Bool, true, false, cond, not, ◌&&◌, List, [], ◌∷◌, length}
use Rattle.std.proofs.Common.{take, drop, Option, Some, None, refl, sym, ap, ◌∙◌, subst, true≢false, arith}
use Rattle.std.specs.Prelude.{if◌then◌else◌, nat_lt, ◌==◌}
use Rattle.std.specs.List.{prefix_len, take_while}
use Rattle.csyn.specs.declared.punctuator.Punctuator.{Punctuator}
use Rattle.csyn.specs.declared.punctuator.Punctuator.TheVariants.{Hash}
use Rattle.csyn.specs.declared.token.Token.{Token}
use Rattle.csyn.specs.declared.token.TokenKind.{TokenKind}
use Rattle.csyn.specs.declared.token.TokenKind.TheVariants as token
use Rattle.cpre.specs.declared.directive.Directive.{Directive}
use Rattle.cpre.specs.declared.directive.Directive.TheVariants.{Ifdef, Ifndef, Else, Endif, Define, Include}
use Rattle.cpre.specs.Closing.{is_opening, opens, unclosed}
use Rattle.cpre.specs.Directive.{directive_of}
use Rattle.cpre.specs.Expansion.{closers, closing}
use Rattle.cpre.specs.Line.{Item, Line, Plain, End, items, begins, goes_on, is_end, is_hash}

-- ---- a line is passed

abbrev pub rest_of_line : List Token → List Token
rest_of_line ts = drop (prefix_len goes_on ts) ts

-- the items by what a token is
abbrev pub by-token : Token → List Token → Bool → Bool → Bool → List Item
by-token t ts goes ends begins =
    if goes then items true ts else (if ends then End t ∷ [] else
    (if begins then Line t.span (take_while goes_on ts) ∷ items true ts else Plain t ∷ items false ts))

drop-more : {A : Type 0} (n : ℕ) (x : A) (xs : List A) → drop (1 + n) (x ∷ xs) ≡ drop n xs
drop-more n x xs = let e : 1 + n ≡ suc n = omega arith in ap (λ n. drop n (x ∷ xs)) e

skip-step : (t : Token) (ts : List Token) (goes : Bool) → items true ts ≡ items false (rest_of_line ts)
    → by-token t ts goes (is_end t.kind) (begins t) ≡ items false (drop (cond goes (1 + prefix_len goes_on ts) 0) (t ∷ ts))
skip-step t ts true rest = rest ∙ ap (items false) (sym (drop-more (prefix_len goes_on ts) t ts))
skip-step t ts false rest = refl

-- within a line, the items are those behind the line
pub items_skip : (ts : List Token) → items true ts ≡ items false (rest_of_line ts)
items_skip [] = refl
items_skip (t ∷ ts) = skip-step t ts (goes_on t) (items_skip ts)

not-both : (first hash : Bool) → not first ≡ true → (first && hash) ≡ false
not-both true hash h = absurd (true≢false (sym h))
not-both false hash h = refl

left-of : (a b : Bool) → (a && b) ≡ true → a ≡ true
left-of true b h = refl
left-of false b h = absurd (true≢false (sym h))

right-of : (a b : Bool) → (a && b) ≡ true → b ≡ true
right-of true b h = h
right-of false b h = absurd (true≢false (sym h))

not-true : (b : Bool) → not b ≡ true → b ≡ false
not-true true h = absurd (true≢false (sym h))
not-true false h = refl

-- a token that goes on with a line begins no directive, and is no end
pub no_beginning : (t : Token) → goes_on t ≡ true → begins t ≡ false
no_beginning t h = not-both t.is_first_of_line (is_hash t.kind) (left-of (not t.is_first_of_line) (not (is_end t.kind)) h)

pub no_end : (t : Token) → goes_on t ≡ true → is_end t.kind ≡ false
no_end t h = not-true (is_end t.kind) (right-of (not t.is_first_of_line) (not (is_end t.kind)) h)

within-step : (t : Token) (ts : List Token) (goes : Bool) → goes_on t ≡ goes → closers (items true ts) ≡ closers (items false ts)
    → closers (by-token t ts goes (is_end t.kind) (begins t)) ≡ closers (by-token t ts false (is_end t.kind) (begins t))
within-step t ts true is rest = rest ∙ sym (λ i. closers (by-token t ts false (no_end t is i) (no_beginning t is i)))
within-step t ts false is rest = refl

pub closers_within : (ts : List Token) → closers (items true ts) ≡ closers (items false ts)
closers_within [] = refl
closers_within (t ∷ ts) = within-step t ts (goes_on t) refl (closers_within ts)

-- ---- the first unclosed opening

unclosed-step : (t : Token) (ts : List Token) (goes : Bool) → goes_on t ≡ goes → unclosed (rest_of_line ts) ≡ unclosed ts
    → unclosed (drop (cond goes (1 + prefix_len goes_on ts) 0) (t ∷ ts)) ≡ unclosed (t ∷ ts)
unclosed-step t ts true is rest =
    ap unclosed (drop-more (prefix_len goes_on ts) t ts) ∙ rest
    ∙ sym (λ i. if (no_beginning t is i && is_opening (directive_of (take_while goes_on ts)) && (closers (items false ts) == 0)) then suc
    (length ts) else unclosed ts)
unclosed-step t ts false is rest = refl

-- no opening stands within a line
pub unclosed_skip : (ts : List Token) → unclosed (rest_of_line ts) ≡ unclosed ts
unclosed_skip [] = refl
unclosed_skip (t ∷ ts) = unclosed-step t ts (goes_on t) refl (unclosed_skip ts)

within-by : (t : Token) (ts : List Token) (b : Bool) → unclosed ts ≤ length ts
    → (if b then suc (length ts) else unclosed ts) ≤ suc (length ts)
within-by t ts true h = omega arith
within-by t ts false h = omega (arith, h)

pub unclosed_within : (ts : List Token) → unclosed ts ≤ length ts
unclosed_within [] = omega arith
unclosed_within (t ∷ ts) = within-by t ts (opens t ts) (unclosed_within ts)

-- what a directive's line is, and how many `#endif`s are behind it
module _ (t : Token) (ts : List Token) (is : begins t ≡ true) where
  not-ended : is_end t.kind ≡ false
  not-ended = no-hash t.kind (right-of t.is_first_of_line (is_hash t.kind) is)
    where
      no-hash : (k : TokenKind) → is_hash k ≡ true → is_end k ≡ false
      no-hash (token.Identifier n) h = refl
      no-hash (token.Number n) h = refl
      no-hash (token.Character n) h = refl
      no-hash (token.Literal n) h = refl
      no-hash (token.Keyword n) h = refl
      no-hash (token.Punctuator n) h = refl
      no-hash (token.Standard n) h = refl
      no-hash token.End h = absurd (true≢false (sym h))

  pub items_of_line : items false (t ∷ ts) ≡ Line t.span (take_while goes_on ts) ∷ items true ts
  items_of_line = λ i. if not-ended i then End t ∷ [] else (if is i then Line t.span
      (take_while goes_on ts) ∷ items true ts else Plain t ∷ items false ts)

  pub closers_of_line : closers (items false (t ∷ ts)) ≡ closing (directive_of (take_while goes_on ts)) (closers (items false ts))
  closers_of_line = ap closers items_of_line ∙ ap (closing (directive_of (take_while goes_on ts))) (closers_within ts)

  pub unclosed_of_line : unclosed (t ∷ ts) ≡ (if (is_opening (directive_of (take_while goes_on ts)) && (closers (items false ts) == 0))
      then suc (length ts) else unclosed ts)
  unclosed_of_line = λ i. if (is i && is_opening (directive_of (take_while goes_on ts)) && (closers (items false ts) == 0)) then suc
      (length ts) else unclosed ts

pub items_of_end : (t : Token) (ts : List Token) → is_end t.kind ≡ true → items false (t ∷ ts) ≡ End t ∷ []
items_of_end t ts is = λ i. if is i then End t ∷ [] else (if begins t then Line t.span
    (take_while goes_on ts) ∷ items true ts else Plain t ∷ items false ts)

pub items_of_plain : (t : Token) (ts : List Token) → is_end t.kind ≡ false → begins t ≡ false
    → items false (t ∷ ts) ≡ Plain t ∷ items false ts
items_of_plain t ts no-end no-beginning =
    λ i. if no-end i then End t ∷ [] else (if no-beginning i then Line t.span
    (take_while goes_on ts) ∷ items true ts else Plain t ∷ items false ts)

pub unclosed_of_other : (t : Token) (ts : List Token) → begins t ≡ false → unclosed (t ∷ ts) ≡ unclosed ts
unclosed_of_other t ts is = λ i. if (is i && is_opening (directive_of (take_while goes_on ts)) && (closers (items false ts) == 0)) then
    suc (length ts) else unclosed ts
