-- Offsets and entries one after the other, as a loop reads them.
use Rattle.std.proofs.Common.{◌≡◌, ℕ, suc, ◌-◌, ◌+◌, ◌≤◌, ◌<◌, List, [], ◌∷◌, ◌++◌, Result, Ok}
use Rattle.std.proofs.Common.{Err, refl, sym, ap, ◌∙◌, append_assoc, arith}
use Rattle.std.proofs.lemmas.List.{append-nil}
use Rattle.restable.specs.declared.trace.Trace.{Trace}
use Rattle.restable.specs.declared.fault.TableFault.{TableFault}
use Rattle.restable.specs.declared.fault.TableFault.TheVariants as faults
use Rattle.restable.specs.Reading.{◌>>=◌, Fails, fixed_at, offsets_at, entry_at, entries_at}

-- what was read before, and what is still read
abbrev pub with_front : List Trace → Result (List Trace × List ℕ) ℕ → Result (List Trace × List ℕ) ℕ
with_front front read = read >>= λ x. Ok (front ++ x.0, x.1)

pub with_none : (read : Result (List Trace × List ℕ) ℕ) → with_front [] read ≡ read
with_none (Ok x) = refl
with_none (Err offset) = refl

regroup : (front : List Trace) (trace : Trace) (read : Result (List Trace × List ℕ) ℕ)
    → with_front front (read >>= λ x. Ok (trace ∷ x.0, x.1)) ≡ with_front (front ++ trace ∷ []) read
regroup front trace (Ok x) = ap (λ (ts : List Trace). Ok (ts, x.1)) (simp append_assoc)
regroup front trace (Err offset) = refl

pub goes_on : (front : List Trace) (count i at : ℕ) (bytes : List ℕ) (trace : Trace) (behind : List ℕ)
    (total : Result (List Trace × List ℕ) ℕ) → i < count → entry_at at bytes ≡ Ok (trace, behind)
    → with_front front (entries_at (count - i) at bytes) ≡ total
    → with_front (front ++ trace ∷ []) (entries_at (count - (i + 1)) (at + 48) behind) ≡ total
unfolding entries_at
goes_on front count i at bytes trace behind total lt h so_far =
    let k : count - i ≡ suc (count - (i + 1)) = omega arith in
    let one : with_front front (entries_at (count - i) at bytes)
    ≡ with_front (front ++ trace ∷ []) (entries_at (count - (i + 1)) (at + 48) behind) =
    rw (k, h) (regroup front trace (entries_at (count - (i + 1)) (at + 48) behind)) in
    sym one ∙ so_far

pub ends : (e : TableFault) (front : List Trace) (count i at : ℕ) (bytes : List ℕ) (total : Result (List Trace × List ℕ) ℕ)
    → i < count → Fails e (entry_at at bytes)
    → with_front front (entries_at (count - i) at bytes) ≡ total → Fails e total
unfolding entries_at
ends faults.Memory front count i at bytes total lt h so_far = tt
ends (faults.At offset) front count i at bytes total lt h so_far =
    let k : count - i ≡ suc (count - (i + 1)) = omega arith in
    let one : with_front front (entries_at (count - i) at bytes) ≡ Err offset = rw (k, h) refl in
    sym so_far ∙ one

pub is_done : (front : List Trace) (count i at : ℕ) (bytes : List ℕ) (total : Result (List Trace × List ℕ) ℕ) → count ≤ i
    → with_front front (entries_at (count - i) at bytes) ≡ total → total ≡ Ok (front, bytes)
unfolding entries_at
is_done front count i at bytes total le so_far =
    let k : count - i ≡ 0 = omega arith in
    let one : with_front front (entries_at (count - i) at bytes) ≡ Ok (front, bytes) =
    rw k (ap (λ (ts : List Trace). Ok (ts, bytes)) (append-nil front)) in
    sym so_far ∙ one

pub offset_read : (count i value at : ℕ) (bytes behind : List ℕ) (total : Result (List ℕ) ℕ) → i < count
    → fixed_at value at bytes ≡ Ok behind
    → offsets_at (count - i) value at bytes ≡ total → offsets_at (count - (i + 1)) (value + 48) (at + 4) behind ≡ total
unfolding offsets_at
offset_read count i value at bytes behind total lt h so_far =
    let k : count - i ≡ suc (count - (i + 1)) = omega arith in
    let one : offsets_at (count - i) value at bytes ≡ offsets_at (count - (i + 1)) (value + 48) (at + 4) behind = rw (k, h) refl in
    sym one ∙ so_far

pub offset_fails : (e : TableFault) (count i value at : ℕ) (bytes : List ℕ) (total : Result (List ℕ) ℕ) → i < count
    → Fails e (fixed_at value at bytes)
    → offsets_at (count - i) value at bytes ≡ total → Fails e total
unfolding offsets_at
offset_fails faults.Memory count i value at bytes total lt h so_far = tt
offset_fails (faults.At offset) count i value at bytes total lt h so_far =
    let k : count - i ≡ suc (count - (i + 1)) = omega arith in
    let one : offsets_at (count - i) value at bytes ≡ Err offset = rw (k, h) refl in
    sym so_far ∙ one

pub offsets_done : (count i value at : ℕ) (bytes : List ℕ) (total : Result (List ℕ) ℕ) → count ≤ i
    → offsets_at (count - i) value at bytes ≡ total → total ≡ Ok bytes
unfolding offsets_at
offsets_done count i value at bytes total le so_far =
    let k : count - i ≡ 0 = omega arith in
    let one : offsets_at (count - i) value at bytes ≡ Ok bytes = rw k refl in
    sym so_far ∙ one
