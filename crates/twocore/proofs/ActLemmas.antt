-- The acts of a cycle stand together, since acts are ordered by their cycles.
use Rattle.std.proofs.Common.{◌≡◌, ◌≢◌, ℕ, zero, suc, ◌+◌, ◌-◌, ◌<◌, ◌≤◌, true, false, nat_lt, nat_le, List, [], ◌∷◌}
use Rattle.std.proofs.Common.{length, take, drop, get_or, refl, sym, ap, subst, ◌∙◌, arith, length-drop}
use Rattle.std.proofs.lemmas.Bool.Decides.{nat_tests}
use Rattle.std.proofs.lemmas.List.{get_or-drop}
use Rattle.std.proofs.lemmas.List.Sorted.{IsNonDecreasingBy-drop}
use Rattle.std.specs.List.Sorted.{IsNonDecreasingBy, IsPartitionPoint}
use Rattle.hostscript.specs.declared.action.Act.{Act}
use Rattle.hostscript.specs.Acts.{InOrder}
use Rattle.twocore.specs.Machine.{acts_at}

abbrev acts_with : List Act → ℕ → List Act
acts_with acts t = acts_at t acts

-- whether each act from one place to another, of those there are, has a cycle that passes a test
abbrev pub AllFrom : (ℕ → Type 0) → List Act → ℕ → ℕ → Type 0
AllFrom P acts from to = (k : ℕ) (d : Act) → from ≤ k → k < to → P (get_or acts k d).cycle

shift : (P : ℕ → Type 0) (m : Act) (acts : List Act) (from to : ℕ) → AllFrom P (m ∷ acts) (suc from) (suc to) → AllFrom P acts from to
shift P m acts from to all k d a b = all (suc k) d (omega arith) (omega arith)

shift_zero : (P : ℕ → Type 0) (m : Act) (acts : List Act) (to : ℕ) → AllFrom P (m ∷ acts) 0 (suc to) → AllFrom P acts 0 to
shift_zero P m acts to all k d a b = all (suc k) d (omega arith) (omega arith)

here : (P : ℕ → Type 0) (m : Act) (acts : List Act) (to : ℕ) → AllFrom P (m ∷ acts) 0 (suc to) → P m.cycle
here P m acts to all = all 0 m (omega arith) (omega arith)

kept : (w : ℕ) (m : Act) (acts : List Act) → m.cycle ≡ w → acts_with (m ∷ acts) w ≡ m ∷ acts_with acts w
kept w m acts e = grind (arith, nat_tests)

left_out : (w : ℕ) (m : Act) (acts : List Act) → m.cycle ≢ w → acts_with (m ∷ acts) w ≡ acts_with acts w
left_out w m acts e = grind (arith, nat_tests)

none : (P : ℕ → Type 0) (acts : List Act) → AllFrom P acts 0 0
none P acts k d a b = absurd (omega arith)

-- behind those before the cycle
skipped : (w : ℕ) (acts : List Act) (from : ℕ) → from ≤ length acts → AllFrom (λ v. v < w) acts 0 from
    → acts_with (drop from acts) w ≡ acts_with acts w
skipped w [] zero size before = refl
skipped w [] (suc from) size before = absurd (omega arith)
skipped w (m ∷ acts) zero size before = refl
skipped w (m ∷ acts) (suc from) size before =
    let less : m.cycle < w = here (λ v. v < w) m acts from before in
    skipped w acts from (omega arith) (shift_zero (λ v. v < w) m acts from before) ∙ sym (left_out w m acts (λ e. absurd (omega arith)))

-- before those behind it
cut : (w : ℕ) (rest : List Act) (count : ℕ) → count ≤ length rest → AllFrom (λ v. v ≡ w) rest 0 count
    → AllFrom (λ v. w < v) rest count (length rest) → take count rest ≡ acts_with rest w
cut w [] zero size at behind = refl
cut w [] (suc count) size at behind = absurd (omega arith)
cut w (m ∷ rest) zero size at behind =
    let more : w < m.cycle = here (λ v. w < v) m rest (length rest) behind in
    cut w rest zero (omega arith) (none (λ v. v ≡ w) rest) (shift_zero (λ v. w < v) m rest (length rest) behind)
    ∙ sym (left_out w m rest (λ e. absurd (omega arith)))
cut w (m ∷ rest) (suc count) size at behind =
    ap (λ (xs : List Act). m ∷ xs)
    (cut w rest count (omega arith) (shift_zero (λ v. v ≡ w) m rest count at) (shift (λ v. w < v) m rest count (length rest) behind))
    ∙ sym (kept w m rest (here (λ v. v ≡ w) m rest count at))

lt_is : (a b : ℕ) → nat_lt a b ≡ true → a < b
lt_is a b h = grind (arith, nat_tests)

lt_not : (a b : ℕ) → nat_lt a b ≡ false → b ≤ a
lt_not a b h = grind (arith, nat_tests)

le_is : (a b : ℕ) → nat_le a b ≡ true → a ≤ b
le_is a b h = grind (arith, nat_tests)

le_not : (a b : ℕ) → nat_le a b ≡ false → b < a
le_not a b h = grind (arith, nat_tests)

-- what two searches give
pub points : (w : ℕ) (acts rest : List Act) (from count : ℕ) → rest ≡ drop from acts → from ≤ length acts → count ≤ length rest
    → IsPartitionPoint (λ n. nat_lt n.cycle w ≡ true) (λ n. nat_lt n.cycle w ≡ false) acts from
    → IsPartitionPoint (λ n. nat_le n.cycle w ≡ true) (λ n. nat_le n.cycle w ≡ false) rest count
    → take count rest ≡ acts_with acts w
points w acts rest from count is size few p q =
    let before : AllFrom (λ v. v < w) acts 0 from = λ k d lo hi. lt_is _ _ (p.0 k d lo hi) in
    let behind : AllFrom (λ v. w < v) rest count (length rest) = λ k d lo hi. le_not _ _ (q.1 k d lo hi) in
    let long : length rest ≡ length acts - from = ap length is ∙ length-drop from acts in
    let same : (k : ℕ) (d : Act)
    → get_or rest k d ≡ get_or acts (from + k) d = λ k d. ap (λ (xs : List Act). get_or xs k d) is ∙ get_or-drop from acts k d in
    let at : AllFrom (λ v. v ≡ w) rest 0 count = λ k d lo hi.
    let up = le_is _ _ (q.0 k d lo hi) in
    let down = lt_not _ _ (p.1 (from + k) d (omega arith) (omega arith)) in
    omega (arith, ap (λ (n : Act). n.cycle) (same k d)) in
    cut w rest count few at behind ∙ ap (λ (xs : List Act). acts_with xs w) is ∙ skipped w acts from size before

pub rest_rises : (acts rest : List Act) (from : ℕ) → InOrder acts → rest ≡ drop from acts → IsNonDecreasingBy (λ n. n.cycle) rest
rest_rises acts rest from ordered is =
    subst (λ (xs : List Act). IsNonDecreasingBy (λ n. n.cycle) xs) (sym is)
    (IsNonDecreasingBy-drop (λ n. n.cycle) from acts ordered)
