-- What the reader holds stands for what has been made of the tokens so far.
use Rattle.std.specs.Prelude.{◌≡◌, ℕ, zero, suc, ◌+◌, ◌-◌, ◌≤◌, List, [], ◌∷◌, ◌++◌, length, refl}
use Rattle.std.proofs.Common.{arith, sym, ap, ◌∙◌, append_assoc, length-append, zero-add}
use Rattle.std.proofs.lemmas.List.{append-nil}
use Rattle.csyn.specs.declared.token.Token.{Token}
use Rattle.cgrammar.specs.Text.{Written, leaf, Forest, none, more, spell, spells}
use Rattle.creader.specs.Entries.{entries, entries_of}
use Rattle.creader.specs.Machine.{gather}
use Rattle.creader.specs.Reader.{Held, taken}

-- the values in order, the last of which comes first, in front of a forest
unfoldable pub turned : List Written → Forest → Forest
turned [] parts = parts
turned (value ∷ values) parts = turned values (more value parts)

-- where each part begins
unfoldable pub firsts_of : ℕ → Forest → List ℕ
firsts_of at none = []
firsts_of at (more written parts) = at ∷ firsts_of (at + length (spell written)) parts

-- how many tokens the trees are spelled with
unfoldable pub width : Forest → ℕ
width parts = length (spells parts)

pub record Represents (h : Held) (values : List Written) : Type 0 where
  pub firsts : h.firsts ≡ firsts_of 0 (turned values none)
  pub entries : h.entries ≡ entries_of 0 (turned values none)
  pub place : h.place ≡ width (turned values none)

-- gathering leaves the parts in order
pub turned-gather : (n : ℕ) (values : List Written) (parts : Forest) → let g = gather n values parts in turned values parts ≡ turned g.1 g.0
unfolding gather turned
turned-gather zero values parts = refl
turned-gather (suc n) [] parts = refl
turned-gather (suc n) (value ∷ values) parts = turned-gather n values (more value parts)

pub width-turned : (values : List Written) (parts : Forest) → width (turned values parts) ≡ width (turned values none) + width parts
unfolding turned width
width-turned [] parts = sym (zero-add _)
width-turned (value ∷ values) parts =
    let a = width-turned values (more value parts) in
    let b = width-turned values (more value none) in
    omega (arith, a, b, length-append (spell value) (spells parts), length-append (spell value) [])

regroup : {A : Type 0} (a b c : List A) → a ++ (b ++ c) ≡ (a ++ (b ++ [])) ++ c
regroup a b c = simp (append_assoc, append-nil)

-- the width with one more value
width-more : (value : Written) (values : List Written) → width (turned values (more value none))
    ≡ width (turned values none) + length (spell value)
unfolding width
width-more value values = omega (arith, width-turned values (more value none), length-append (spell value) [])

pub entries-turned : (values : List Written) (parts : Forest)
    → entries_of 0 (turned values parts) ≡ entries_of 0 (turned values none) ++ entries_of (width (turned values none)) parts
unfolding turned width entries entries_of
entries-turned [] parts = refl
entries-turned (value ∷ values) parts =
    let before = width (turned values none) in
    let behind = width (turned values (more value none)) in
    let old = entries_of 0 (turned values none) in
    entries-turned values (more value parts)
    ∙ regroup old (entries before value) (entries_of (before + length (spell value)) parts)
    ∙ ap (λ n. (old ++ (entries before value ++ [])) ++ entries_of n parts) (sym (width-more value values))
    ∙ ap (λ e. e ++ entries_of behind parts) (sym (entries-turned values (more value none)))

pub firsts-turned : (values : List Written) (parts : Forest)
    → firsts_of 0 (turned values parts) ≡ firsts_of 0 (turned values none) ++ firsts_of (width (turned values none)) parts
unfolding turned width firsts_of
firsts-turned [] parts = refl
firsts-turned (value ∷ values) parts =
    let before = width (turned values none) in
    let behind = width (turned values (more value none)) in
    let old = firsts_of 0 (turned values none) in
    firsts-turned values (more value parts)
    ∙ regroup old (before ∷ []) (firsts_of (before + length (spell value)) parts)
    ∙ ap (λ n. (old ++ ((before ∷ []) ++ [])) ++ firsts_of n parts) (sym (width-more value values))
    ∙ ap (λ e. e ++ firsts_of behind parts) (sym (firsts-turned values (more value none)))

-- how many parts there are
unfoldable pub count : Forest → ℕ
count none = 0
count (more _ parts) = suc (count parts)

pub length-firsts : (at : ℕ) (parts : Forest) → length (firsts_of at parts) ≡ count parts
unfolding firsts_of count
length-firsts at none = refl
length-firsts at (more written parts) = ap suc (length-firsts (at + length (spell written)) parts)

-- the last n parts are gathered, or all, if there are fewer
pub count-gather : (n : ℕ) (values : List Written) (parts : Forest) → let g = gather n values parts in
    (count g.0 ≡ count parts + (length values - length g.1)) × (length g.1 ≡ length values - n) × (length g.1 ≤ length values)
unfolding gather count
count-gather zero values parts = (omega arith, omega arith, omega arith)
count-gather (suc n) [] parts = (omega arith, omega arith, omega arith)
count-gather (suc n) (value ∷ values) parts =
    let rest = count-gather n values (more value parts) in (omega arith, omega arith, omega arith)

pub count-turned : (values : List Written) (parts : Forest) → count (turned values parts) ≡ length values + count parts
unfolding turned count
count-turned [] parts = sym (zero-add _)
count-turned (value ∷ values) parts = omega (arith, count-turned values (more value parts))

firsts-one : (token : Token) (values : List Written)
    → firsts_of 0 (turned values (more (leaf token) none)) ≡ firsts_of 0 (turned values none) ++ width (turned values none) ∷ []
unfolding firsts_of
firsts-one token values = firsts-turned values (more (leaf token) none)

pub entries-one : (token : Token) (values : List Written) → entries_of 0 (turned values (more (leaf token) none))
    ≡ entries_of 0 (turned values none)
unfolding entries entries_of
entries-one token values = entries-turned values (more (leaf token) none) ∙ append-nil _

-- a token
pub represents-token : (h : Held) (values : List Written) (token : Token) → Represents h values → Represents (taken h) (leaf token ∷ values)
unfolding turned
represents-token h values token r = record {
  firsts = ap (λ n. h.firsts ++ n ∷ []) r.place ∙ ap (λ f. f ++ width (turned values none) ∷ []) r.firsts ∙ sym (firsts-one token values);
  entries = r.entries ∙ sym (entries-one token values);
  place = ap (λ n. n + 1) r.place ∙ sym (width-more (leaf token) values);
}
