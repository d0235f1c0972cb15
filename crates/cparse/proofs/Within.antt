-- The productions of a source lie within it, and they are counted.
use Rattle.std.proofs.Common.{◌+◌, ◌<◌, ◌≤◌, ℕ, zero, suc, List, [], ◌∷◌, ◌++◌, length, get_or, arith, length-append}
use Rattle.cgrammar.specs.Text.{Written, leaf, node, Forest, none, more, spell, spells}
use Rattle.creader.specs.declared.reader.Entry.{Entry}
use Rattle.creader.specs.Entries.{entries, entries_of}

pub record Lies (last : ℕ) (entry : Entry) : Type 0 where
  pub order : entry.first ≤ entry.end
  pub within : entry.end ≤ last

unfoldable Each : ℕ → List Entry → Type 0
Each last [] = Unit {0}
Each last (entry ∷ entries) = Lies last entry × Each last entries

each-append : (last : ℕ) (es fs : List Entry) → Each last es → Each last fs → Each last (es ++ fs)
unfolding Each
each-append last [] fs a b = b
each-append last (e ∷ es) fs a b = (a.0, each-append last es fs a.1 b)

each-at : (last : ℕ) (es : List Entry) (i : ℕ) (d : Entry) → Each last es → i < length es → Lies last (get_or es i d)
unfolding Each
each-at last [] i d all within = absurd (omega arith)
each-at last (e ∷ es) zero d all within = all.0
each-at last (e ∷ es) (suc i) d all within = each-at last es i d all.1 (omega arith)

each-of : (last at : ℕ) (parts : Forest) → at + length (spells parts) ≤ last → Each last (entries_of at parts)
unfolding Each entries entries_of
each-of last at none h = tt
each-of last at (more (leaf t) parts) h = each-of last (at + 1) parts (omega arith)
each-of last at (more (node production own) parts) h =
    let all = length-append (spells own) (spells parts) in
    each-append last (entries_of at own ++ record { production = production; first = at; end = at + length (spells own) } ∷ [])
    (entries_of (at + length (spells own)) parts)
    (each-append last (entries_of at own) (record { production = production; first = at; end = at + length (spells own) } ∷ [])
    (each-of last at own (omega arith)) (record { order = omega arith; within = omega arith }, tt))
    (each-of last (at + length (spells own)) parts (omega arith))

-- each production of a written source
pub lies-at : (written : Written) (i : ℕ) (d : Entry) → i < length (entries 0 written)
    → Lies (length (spell written)) (get_or (entries 0 written) i d)
unfolding entries entries_of Each
lies-at (leaf t) i d h = absurd (omega arith)
lies-at (node production own) i d h =
    each-at (length (spells own)) (entries 0 (node production own)) i d
    (each-append (length (spells own)) (entries_of 0 own) (record
    { production = production; first = 0; end = 0 + length (spells own) } ∷ [])
    (each-of (length (spells own)) 0 own (omega arith)) (record { order = omega arith; within = omega arith }, tt)) h
