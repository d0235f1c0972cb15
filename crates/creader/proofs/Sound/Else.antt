-- An else belongs to the nearest if: no if without an else stands before an else.
use Rattle.std.proofs.Common.{◌≡◌, ℕ, zero, suc, Bool, true, false, ◌&&◌, ◌⊎◌, List, [], ◌∷◌, ◌++◌}
use Rattle.std.proofs.Common.{length, refl, sym, ◌∙◌, ap, subst, inl, inr, append_assoc}
use Rattle.std.proofs.lemmas.Bool.{false≢true, or_cases, and_parts, false_from_ne_true}
use Rattle.csyn.specs.declared.keyword.Keyword.TheVariants as keyword
use Rattle.csyn.specs.declared.token.Token.{Token}
use Rattle.cgrammar.specs.declared.production.Production.{Production}
use Rattle.cgrammar.specs.declared.production.Production.TheVariants as make
use Rattle.cgrammar.specs.declared.terminal.Terminal.TheVariants as terminal
use Rattle.cgrammar.specs.Kind.{kind_of}
use Rattle.cgrammar.specs.Terminal.{accepts}
use Rattle.cgrammar.specs.Grammar.{Piece, template}
use Rattle.cgrammar.specs.Text.{Written, leaf, node, Forest, none, more, spell, spells, is_if_without_else}
use Rattle.cgrammar.specs.Text.{ends_with_statement, dangles, last_dangles, begins_with_else, IsProper, Match}
use Rattle.creader.specs.Machine.{gather, reduce}
use Rattle.creader.proofs.Sound.Meaning.{IsShaped, Shape}

abbrev pub starts_with_else : List Token → Bool
starts_with_else [] = false
starts_with_else (token ∷ tokens) = accepts (terminal.Keyword keyword.Else) (kind_of token)

-- No if without an else stands before an else, where these tokens stand behind.
unfoldable mutual
  pub Clear : Written → List Token → Type 0
  Clear (leaf _) behind = Unit {0}
  Clear (node production parts) behind = (is_if_without_else production ≡ true → starts_with_else behind ≡ false) × Clears parts behind

  pub Clears : Forest → List Token → Type 0
  Clears none behind = Unit {0}
  Clears (more written parts) behind = Clear written (spells parts ++ behind) × Clears parts behind

-- the same of values, the last first
abbrev pub ClearAll : List Written → List Token → Type 0
ClearAll [] behind = Unit {0}
ClearAll (value ∷ values) behind = Clear value behind × ClearAll values (spell value ++ behind)

in_node : (production : Production) (parts : Forest) (behind : List Token) → Clear (node production parts) behind
    → (is_if_without_else production ≡ true) ⊎ ((ends_with_statement production && last_dangles parts) ≡ true)
    → (last_dangles parts ≡ true → starts_with_else behind ≡ false) → starts_with_else behind ≡ false
unfolding Clear
in_node production parts behind c (inl e) last = c.0 e
in_node production parts behind c (inr e) last = last (and_parts _ _ e).1

-- what dangles stands before no else
mutual
  unfolding Clear Clears dangles last_dangles

  dangles-Clear : (written : Written) (behind : List Token) → Clear written behind → dangles written ≡ true
      → starts_with_else behind ≡ false
  dangles-Clear (leaf _) behind c d = absurd (false≢true d)
  dangles-Clear (node production parts) behind c d =
      in_node production parts behind c (or_cases (is_if_without_else production) (ends_with_statement production && last_dangles parts) d)
      (λ e. last-Clears parts behind c.1 e)

  last-Clears : (parts : Forest) (behind : List Token) → Clears parts behind → last_dangles parts ≡ true → starts_with_else behind ≡ false
  last-Clears none behind c d = absurd (false≢true d)
  last-Clears (more written none) behind c d = dangles-Clear written behind c.0 d
  last-Clears (more written (more next parts)) behind c d = last-Clears (more next parts) behind c.1 d

-- an else is spelled with one in front
else-starts : (parts : Forest) (behind : List Token) → Shape (template make.Else) parts → starts_with_else (spells parts ++ behind) ≡ true
unfolding Shape template
else-starts none behind s = absurd s
else-starts (more (leaf t) others) behind s = s.0
else-starts (more (node _ _) others) behind s = absurd s.0

begins-starts : (pieces : List Piece) (parts : Forest) (behind : List Token) → Shape pieces parts → begins_with_else parts ≡ true
    → starts_with_else (spells parts ++ behind) ≡ true
unfolding Shape IsShaped begins_with_else
begins-starts (piece ∷ pieces) (more (node make.Else inner) parts) behind s b =
    subst (λ x. starts_with_else x ≡ true) (sym (append_assoc (spells inner) (spells parts) behind))
    (else-starts inner (spells parts ++ behind) s.1)
begins-starts [] (more (node make.Else inner) parts) behind s b = absurd s
begins-starts _ _ behind s b = absurd (false≢true b)

stands_clear : (pieces : List Piece) (written : Written) (parts : Forest) (behind : List Token) → Shape pieces parts
    → Clear written (spells parts ++ behind) → begins_with_else parts ≡ true → dangles written ≡ false
stands_clear pieces written parts behind s c b = false_from_ne_true (dangles written)
    (λ d. false≢true (sym (dangles-Clear written (spells parts ++ behind) c d) ∙ begins-starts pieces parts behind s b))

-- both invariants together are properness
mutual
  unfolding Clear Clears IsShaped Shape IsProper Match

  pub proper : (written : Written) (behind : List Token) → IsShaped written → Clear written behind → IsProper written
  proper (leaf _) behind s c = tt
  proper (node production parts) behind s c = proper-parts (template production) parts behind s c.1

  proper-parts : (pieces : List Piece) (parts : Forest) (behind : List Token) → Shape pieces parts → Clears parts behind
      → Match pieces parts
  proper-parts [] none behind s c = tt
  proper-parts (piece ∷ pieces) (more written parts) behind s c = (
    s.0,
    proper written (spells parts ++ behind) s.1 c.0,
    stands_clear pieces written parts behind s.2 c.0,
    proper-parts pieces parts behind s.2 c.1,
  )
  proper-parts _ _ behind s c = absurd s

-- what the gathering of the last values keeps
Cleared : List Token → Forest × List Written → Type 0
Cleared behind gathered = Clears gathered.0 behind × ClearAll gathered.1 (spells gathered.0 ++ behind)

gather-clear : (n : ℕ) (values : List Written) (parts : Forest) (behind : List Token) → Clears parts behind
    → ClearAll values (spells parts ++ behind) → Cleared behind (gather n values parts)
unfolding gather Cleared Clears
gather-clear zero values parts behind c v = (c, v)
gather-clear (suc n) [] parts behind c v = (c, tt)
gather-clear (suc n) (value ∷ values) parts behind c v =
    gather-clear n values (more value parts) behind (v.0, c)
    (subst (ClearAll values) (sym (append_assoc (spell value) (spells parts) behind)) v.1)

-- making one value of the last ones, where an if without an else is made before no else
pub reduce-clear : (p : Production) (values : List Written) (behind : List Token)
    → (is_if_without_else p ≡ true → starts_with_else behind ≡ false) → ClearAll values behind → ClearAll (reduce p values) behind
unfolding reduce Cleared Clear Clears
reduce-clear p values behind n v = let g = gather-clear (length (template p)) values none behind tt v in ((n, g.0), g.1)

-- what the values and the tokens that are left are spelled with
abbrev pub spelled : List Written → List Token → List Token
spelled [] tokens = tokens
spelled (value ∷ values) tokens = spelled values (spell value ++ tokens)

gather-spelled : (n : ℕ) (values : List Written) (parts : Forest) (tokens : List Token)
    → spelled (gather n values parts).1 (spells (gather n values parts).0 ++ tokens) ≡ spelled values (spells parts ++ tokens)
unfolding gather
gather-spelled zero values parts tokens = refl
gather-spelled (suc n) [] parts tokens = refl
gather-spelled (suc n) (value ∷ values) parts tokens =
    gather-spelled n values (more value parts) tokens ∙ ap (spelled values) (append_assoc (spell value) (spells parts) tokens)

pub reduce-spelled : (p : Production) (values : List Written) (tokens : List Token)
    → spelled (reduce p values) tokens ≡ spelled values tokens
unfolding reduce
reduce-spelled p values tokens = gather-spelled (length (template p)) values none tokens
