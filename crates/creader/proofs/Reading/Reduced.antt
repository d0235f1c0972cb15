-- What a production makes of what the reader holds stands for what it makes of the values.
use Rattle.std.specs.Prelude.{◌≡◌, ℕ, ◌+◌, ◌-◌, List, [], ◌∷◌, ◌++◌, length, take, get_or, refl}
use Rattle.std.proofs.Common.{arith, sym, ap, ◌∙◌, append_assoc, add-zero}
use Rattle.std.proofs.lemmas.List.{append-nil}
use Rattle.std.proofs.Math.Seq.{take-append_seam, get_or-append_seam}
use Rattle.cgrammar.specs.declared.production.Production.{Production}
use Rattle.cgrammar.specs.Grammar.{template}
use Rattle.cgrammar.specs.Text.{Written, node, Forest, none, more, spell, spells}
use Rattle.creader.specs.Entries.{entries, entries_of}
use Rattle.creader.specs.Machine.{gather, reduce}
use Rattle.creader.specs.Reader.{Held, reduced}
use Rattle.creader.proofs.Reading.Represents.{
  turned,
  firsts_of,
  width,
  count,
  Represents,
  turned-gather,
  width-turned,
  entries-turned,
  firsts-turned,
  length-firsts,
  count-gather,
  count-turned,
}

-- there is nothing at the end of a list
past : (xs : List ℕ) (d : ℕ) → get_or xs (length xs) d ≡ d
past [] d = refl
past (x ∷ xs) d = past xs d

-- one value of these parts begins where they begin, and is as wide
one-first : (values : List Written) (production : Production) (parts : Forest)
    → firsts_of 0 (turned values (more (node production parts) none)) ≡ firsts_of 0 (turned values none) ++ width (turned values none) ∷ []
unfolding firsts_of
one-first values production parts = firsts-turned values (more (node production parts) none)

one-width : (values : List Written) (production : Production) (parts : Forest)
    → width (turned values (more (node production parts) none)) ≡ width (turned values none) + width parts
unfolding width
one-width values production parts =
    width-turned values (more (node production parts) none) ∙ ap (λ xs. width (turned values none) + length xs) (append-nil (spells parts))

pub one-entry : (values : List Written) (production : Production) (parts : Forest)
    → entries_of 0 (turned values (more (node production parts) none))
    ≡ entries_of 0 (turned values parts)
    ++ record { production = production; first = width (turned values none); end = width (turned values none) + width parts } ∷ []
unfolding width entries entries_of
one-entry values production parts =
    let at = width (turned values none) in
    entries-turned values (more (node production parts) none)
    ∙ ap (λ xs. entries_of 0 (turned values none) ++ xs) (append-nil _)
    ∙ sym (append_assoc (entries_of 0 (turned values none)) (entries_of at parts) _)
    ∙ ap (λ xs. xs ++ record { production = production; first = at; end = at + width parts } ∷ []) (sym (entries-turned values parts))

-- the first of the parts begins where they begin, or what comes next does
first-part : (front : List ℕ) (at : ℕ) (parts : Forest) (place : ℕ) → place ≡ at + width parts
    → get_or (front ++ firsts_of at parts) (length front) place ≡ at
unfolding width firsts_of
first-part front at none place e =
    ap (λ xs. get_or xs (length front) place) (append-nil front) ∙ past front place ∙ e ∙ omega arith
first-part front at (more written parts) place e = get_or-append_seam front at (firsts_of (at + length (spell written)) parts) place

-- beside the values that are left, one of these parts
reduced-by : (h : Held) (production : Production) (parts : Forest) (values : List Written) → h.firsts ≡ firsts_of 0 (turned values parts)
    → h.entries ≡ entries_of 0 (turned values parts) → h.place ≡ width (turned values parts)
    → length h.firsts - length (template production) ≡ length values → Represents (reduced production h) (node production parts ∷ values)
unfolding turned count
reduced-by h production parts values firsts entries-are place below =
    let front = firsts_of 0 (turned values none) in
    let at = width (turned values none) in
    let split : h.firsts ≡ front ++ firsts_of at parts = firsts ∙ firsts-turned values parts in
    let many : length front ≡ length values = length-firsts 0 (turned values none) ∙ count-turned values none ∙ add-zero (length values) in
    let seam : length h.firsts - length (template production) ≡ length front = below ∙ sym many in
    let ends : h.place ≡ at + width parts = place ∙ width-turned values parts in
    let kept : take (length h.firsts - length (template production)) h.firsts ≡ front =
    ap (λ n. take n h.firsts) seam ∙ ap (take (length front)) split ∙ take-append_seam front (firsts_of at parts) in
    let begins : get_or h.firsts (length h.firsts - length (template production)) h.place ≡ at =
    ap (λ n. get_or h.firsts n h.place) seam ∙ ap (λ xs. get_or xs (length front) h.place) split ∙ first-part front at parts h.place ends in
    record {
      firsts = ap (λ xs. xs ++ get_or h.firsts (length h.firsts - length (template production)) h.place ∷ []) kept
          ∙ ap (λ n. front ++ n ∷ []) begins ∙ sym (one-first values production parts);
      entries = ap (λ xs. xs ++ record {
        production = production;
        first =
            get_or h.firsts (length h.firsts - length (template production)) h.place;
        end = h.place;
      } ∷ []) entries-are
          ∙ ap (λ n. entries_of 0 (turned values parts) ++ record { production = production; first = n; end = h.place } ∷ []) begins
          ∙ ap (λ n. entries_of 0 (turned values parts) ++ record { production = production; first = at; end = n } ∷ []) ends
          ∙ sym (one-entry values production parts);
      place = ends ∙ sym (one-width values production parts);
    }

-- a production makes of the places what it makes of the values
pub represents-reduced : (h : Held) (values : List Written) (production : Production) → Represents h values
    → Represents (reduced production h) (reduce production values)
unfolding reduce count
represents-reduced h values production r =
    let n = length (template production) in
    let g = gather n values none in
    let same = turned-gather n values none in
    let counts = count-gather n values none in
    let many : length h.firsts ≡ length values = ap length r.firsts ∙ length-firsts 0 (turned values none)
    ∙ count-turned values none ∙ add-zero (length values) in
    reduced-by h production g.0 g.1 (r.firsts ∙ ap (firsts_of 0) same) (r.entries ∙ ap (entries_of 0) same) (r.place ∙ ap width same)
    (ap (λ m. m - n) many ∙ sym counts.1)
