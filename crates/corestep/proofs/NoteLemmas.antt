-- The notes of a word stand together, since notes are ordered by their words.
use Rattle.std.proofs.Common.{◌≡◌, ◌≢◌, ℕ, zero, suc, ◌+◌, ◌-◌, ◌<◌, ◌≤◌, true, false, IsTrue, nat_lt, nat_le, List, [], ◌∷◌}
use Rattle.std.proofs.Common.{length, take, drop, get_or, refl, sym, ap, subst, ◌∙◌, arith, length-drop}
use Rattle.std.proofs.lemmas.Bool.Decides.{nat_tests}
use Rattle.std.proofs.lemmas.List.{get_or-drop}
use Rattle.std.proofs.lemmas.List.Sorted.{IsNonDecreasingBy-drop}
use Rattle.std.specs.List.Sorted.{IsNonDecreasingBy, IsPartitionPoint}
use Rattle.isa.specs.declared.note.Note.{Note}
use Rattle.isa.specs.Note.{AreOrdered, is_before}
use Rattle.corestep.specs.Step.{notes_at}

rises : (m n : Note) → IsTrue (is_before m n) → m.word ≤ n.word
rises m n h = grind (arith, nat_tests)

first_least : (m : Note) (notes : List Note) → AreOrdered (m ∷ notes) → (j : ℕ) (d : Note) → j < length (m ∷ notes)
    → m.word ≤ (get_or (m ∷ notes) j d).word
first_least m notes ordered zero d h = omega arith
first_least m [] ordered (suc j) d h = absurd (omega arith)
first_least m (n ∷ notes) ordered (suc j) d h =
    let step : m.word ≤ n.word = rises m n ordered.0 in
    let rest = first_least n notes ordered.1 j d (omega arith) in
    omega arith

tail_ordered : (m : Note) (notes : List Note) → AreOrdered (m ∷ notes) → AreOrdered notes
tail_ordered m [] ordered = tt
tail_ordered m (n ∷ notes) ordered = ordered.1

pub words_rise : (notes : List Note) → AreOrdered notes → IsNonDecreasingBy (λ n. n.word) notes
words_rise [] ordered i j d le lt = absurd (omega arith)
words_rise (m ∷ notes) ordered zero j d le lt = first_least m notes ordered j d lt
words_rise (m ∷ notes) ordered (suc i) zero d le lt = absurd (omega arith)
words_rise (m ∷ notes) ordered (suc i) (suc j) d le lt = words_rise notes (tail_ordered m notes ordered) i j d (omega arith) (omega arith)

-- whether each note from one place to another, of those there are, has a word that passes a test
abbrev pub AllFrom : (ℕ → Type 0) → List Note → ℕ → ℕ → Type 0
AllFrom P notes from to = (k : ℕ) (d : Note) → from ≤ k → k < to → P (get_or notes k d).word

shift : (P : ℕ → Type 0) (m : Note) (notes : List Note) (from to : ℕ) → AllFrom P (m ∷ notes) (suc from) (suc to) → AllFrom P notes from to
shift P m notes from to all k d a b = all (suc k) d (omega arith) (omega arith)

shift_zero : (P : ℕ → Type 0) (m : Note) (notes : List Note) (to : ℕ) → AllFrom P (m ∷ notes) 0 (suc to) → AllFrom P notes 0 to
shift_zero P m notes to all k d a b = all (suc k) d (omega arith) (omega arith)

here : (P : ℕ → Type 0) (m : Note) (notes : List Note) (to : ℕ) → AllFrom P (m ∷ notes) 0 (suc to) → P m.word
here P m notes to all = all 0 m (omega arith) (omega arith)

kept : (w : ℕ) (m : Note) (notes : List Note) → m.word ≡ w → notes_at (m ∷ notes) w ≡ m ∷ notes_at notes w
kept w m notes e = grind (arith, nat_tests)

left_out : (w : ℕ) (m : Note) (notes : List Note) → m.word ≢ w → notes_at (m ∷ notes) w ≡ notes_at notes w
left_out w m notes e = grind (arith, nat_tests)

none : (P : ℕ → Type 0) (notes : List Note) → AllFrom P notes 0 0
none P notes k d a b = absurd (omega arith)

-- behind those before the word
skipped : (w : ℕ) (notes : List Note) (from : ℕ) → from ≤ length notes → AllFrom (λ v. v < w) notes 0 from
    → notes_at (drop from notes) w ≡ notes_at notes w
skipped w [] zero size before = refl
skipped w [] (suc from) size before = absurd (omega arith)
skipped w (m ∷ notes) zero size before = refl
skipped w (m ∷ notes) (suc from) size before =
    let less : m.word < w = here (λ v. v < w) m notes from before in
    skipped w notes from (omega arith) (shift_zero (λ v. v < w) m notes from before) ∙ sym (left_out w m notes (λ e. absurd (omega arith)))

-- before those behind it
cut : (w : ℕ) (rest : List Note) (count : ℕ) → count ≤ length rest → AllFrom (λ v. v ≡ w) rest 0 count
    → AllFrom (λ v. w < v) rest count (length rest) → take count rest ≡ notes_at rest w
cut w [] zero size at behind = refl
cut w [] (suc count) size at behind = absurd (omega arith)
cut w (m ∷ rest) zero size at behind =
    let more : w < m.word = here (λ v. w < v) m rest (length rest) behind in
    cut w rest zero (omega arith) (none (λ v. v ≡ w) rest) (shift_zero (λ v. w < v) m rest (length rest) behind)
    ∙ sym (left_out w m rest (λ e. absurd (omega arith)))
cut w (m ∷ rest) (suc count) size at behind =
    ap (λ (xs : List Note). m ∷ xs)
    (cut w rest count (omega arith) (shift_zero (λ v. v ≡ w) m rest count at) (shift (λ v. w < v) m rest count (length rest) behind))
    ∙ sym (kept w m rest (here (λ v. v ≡ w) m rest count at))

lt_is : (a b : ℕ) → nat_lt a b ≡ true → a < b
lt_is a b h = grind (arith, nat_tests)

lt_not : (a b : ℕ) → nat_lt a b ≡ false → b ≤ a
lt_not a b h = grind (arith, nat_tests)

le_is : (a b : ℕ) → nat_le a b ≡ true → a ≤ b
le_is a b h = grind (arith, nat_tests)

le_not : (a b : ℕ) → nat_le a b ≡ false → b < a
le_not a b h = grind (arith, nat_tests)

-- what two searches give
pub points : (w : ℕ) (notes rest : List Note) (from count : ℕ) → rest ≡ drop from notes → from ≤ length notes → count ≤ length rest
    → IsPartitionPoint (λ n. nat_lt n.word w ≡ true) (λ n. nat_lt n.word w ≡ false) notes from
    → IsPartitionPoint (λ n. nat_le n.word w ≡ true) (λ n. nat_le n.word w ≡ false) rest count
    → take count rest ≡ notes_at notes w
points w notes rest from count is size few p q =
    let before : AllFrom (λ v. v < w) notes 0 from = λ k d lo hi. lt_is _ _ (p.0 k d lo hi) in
    let behind : AllFrom (λ v. w < v) rest count (length rest) = λ k d lo hi. le_not _ _ (q.1 k d lo hi) in
    let long : length rest ≡ length notes - from = ap length is ∙ length-drop from notes in
    let same : (k : ℕ) (d : Note)
    → get_or rest k d ≡ get_or notes (from + k) d = λ k d. ap (λ (xs : List Note). get_or xs k d) is ∙ get_or-drop from notes k d in
    let at : AllFrom (λ v. v ≡ w) rest 0 count = λ k d lo hi.
    let up = le_is _ _ (q.0 k d lo hi) in
    let down = lt_not _ _ (p.1 (from + k) d (omega arith) (omega arith)) in
    omega (arith, ap (λ (n : Note). n.word) (same k d)) in
    cut w rest count few at behind ∙ ap (λ (xs : List Note). notes_at xs w) is ∙ skipped w notes from size before

pub rest_rises : (notes rest : List Note) (from : ℕ) → AreOrdered notes → rest ≡ drop from notes → IsNonDecreasingBy (λ n. n.word) rest
rest_rises notes rest from ordered is =
    subst (λ (xs : List Note). IsNonDecreasingBy (λ n. n.word) xs) (sym is)
    (IsNonDecreasingBy-drop (λ n. n.word) from notes (words_rise notes ordered))
