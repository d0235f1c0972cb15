-- Reading one after the other, as a loop does.
use Rattle.std.proofs.Common.{◌≡◌, ℕ, suc, ◌-◌, ◌+◌, ◌≤◌, ◌<◌, List, [], ◌∷◌, ◌++◌, length, get_or, drop}
use Rattle.std.proofs.Common.{Result, Ok, Err, refl, sym, ap, ◌∙◌, append_assoc, arith}
use Rattle.std.proofs.lemmas.List.{append-nil, drop_more, drop_all}
use Rattle.elfrec.specs.declared.fault.ElfFault.{ElfFault}
use Rattle.elfrec.specs.declared.fault.ElfFault.TheVariants.{At, Memory}
use Rattle.elfrec.specs.declared.file.Contents.{Contents}
use Rattle.elfrec.specs.declared.section.Section.{Section}
use Rattle.elfrec.specs.File.{contents_of, all_contents_of}
use Rattle.elfrec.specs.Record.{Format, ◌>>=◌, Fails, record_at, records_at}
use Rattle.elfrec.specs.Section.{kind_of}

-- what was read before, and what is still read
abbrev pub with_front : {X : Type 0} → List X → Result (List X) ElfFault → Result (List X) ElfFault
with_front front read = read >>= λ xs. Ok (front ++ xs)

-- one, and the others behind it
abbrev pub with_first : {X : Type 0} → Result X ElfFault → Result (List X) ElfFault → Result (List X) ElfFault
with_first first others = first >>= λ x. others >>= λ xs. Ok (x ∷ xs)

regroup : {X : Type 0} (front : List X) (x : X) (others : Result (List X) ElfFault)
    → with_front front (with_first (Ok x) others) ≡ with_front (front ++ x ∷ []) others
regroup front x (Ok xs) = ap Ok (sym (append_assoc front (x ∷ []) xs))
regroup front x (Err f) = refl

goes_on : {X : Type 0} (front : List X) (first : Result X ElfFault) (others : Result (List X) ElfFault) (x : X)
    (total : Result (List X) ElfFault) → first ≡ Ok x
    → with_front front (with_first first others) ≡ total → with_front (front ++ x ∷ []) others ≡ total
goes_on front first others x total h so_far =
    sym (regroup front x others) ∙ ap (λ r. with_front front (with_first r others)) (sym h) ∙ so_far

ends : {X : Type 0} (e : ElfFault) (front : List X) (first : Result X ElfFault) (others : Result (List X) ElfFault)
    (total : Result (List X) ElfFault) → Fails e first
    → with_front front (with_first first others) ≡ total → Fails e total
ends (At offset cause) front first others total h so_far =
    sym so_far ∙ ap (λ r. with_front front (with_first r others)) h
ends Memory front first others total h so_far = tt

-- ---- records

records_more : {R : Type 0} (format : Format R) (count i at : ℕ) (bytes : List ℕ) → i < count
    → records_at format (count - i) at bytes ≡ with_first (record_at format at bytes)
    (records_at format (count - (i + 1)) (at + format.size) bytes)
unfolding records_at
records_more format count i at bytes lt =
    let k : count - i ≡ suc (count - (i + 1)) = omega arith in
    ap (λ n. records_at format n at bytes) k

pub records_go_on : {R : Type 0} (format : Format R) (front : List R) (count i at : ℕ) (bytes : List ℕ) (r : R)
    (total : Result (List R) ElfFault) → i < count → record_at format at bytes ≡ Ok r
    → with_front front (records_at format (count - i) at bytes) ≡ total
    → with_front (front ++ r ∷ []) (records_at format (count - (i + 1)) (at + format.size) bytes) ≡ total
records_go_on format front count i at bytes r total lt h so_far =
    goes_on front (record_at format at bytes) (records_at format (count - (i + 1)) (at + format.size) bytes) r total h
    (ap (with_front front) (sym (records_more format count i at bytes lt)) ∙ so_far)

pub records_end : {R : Type 0} (e : ElfFault) (format : Format R) (front : List R) (count i at : ℕ) (bytes : List ℕ)
    (total : Result (List R) ElfFault) → i < count → Fails e (record_at format at bytes)
    → with_front front (records_at format (count - i) at bytes) ≡ total → Fails e total
records_end e format front count i at bytes total lt h so_far =
    ends e front (record_at format at bytes) (records_at format (count - (i + 1)) (at + format.size) bytes) total h
    (ap (with_front front) (sym (records_more format count i at bytes lt)) ∙ so_far)

pub records_done : {R : Type 0} (format : Format R) (front : List R) (count i at : ℕ) (bytes : List ℕ)
    (total : Result (List R) ElfFault) → count ≤ i
    → with_front front (records_at format (count - i) at bytes) ≡ total → total ≡ Ok front
unfolding records_at
records_done format front count i at bytes total le so_far =
    let k : count - i ≡ 0 = omega arith in
    sym so_far ∙ ap (λ n. with_front front (records_at format n at bytes)) k ∙ ap Ok (append-nil front)

-- ---- what sections hold

abbrev held : Section → List ℕ → Result Contents ElfFault
held s bytes = contents_of (kind_of s.section_type) s bytes

contents_more : (sections : List Section) (i : ℕ) (d : Section) (bytes : List ℕ) → i < length sections
    → all_contents_of (drop i sections) bytes ≡ with_first (held (get_or sections i d) bytes)
    (all_contents_of (drop (i + 1) sections) bytes)
unfolding all_contents_of
contents_more sections i d bytes lt = ap (λ ss. all_contents_of ss bytes) (drop_more sections i d lt)

pub contents_go_on : (front : List Contents) (sections : List Section) (i : ℕ) (d : Section) (bytes : List ℕ) (c : Contents)
    (total : Result (List Contents) ElfFault) → i < length sections → held (get_or sections i d) bytes ≡ Ok c
    → with_front front (all_contents_of (drop i sections) bytes) ≡ total
    → with_front (front ++ c ∷ []) (all_contents_of (drop (i + 1) sections) bytes) ≡ total
contents_go_on front sections i d bytes c total lt h so_far =
    goes_on front (held (get_or sections i d) bytes) (all_contents_of (drop (i + 1) sections) bytes) c total h
    (ap (with_front front) (sym (contents_more sections i d bytes lt)) ∙ so_far)

pub contents_end : (e : ElfFault) (front : List Contents) (sections : List Section) (i : ℕ) (d : Section) (bytes : List ℕ)
    (total : Result (List Contents) ElfFault) → i < length sections → Fails e (held (get_or sections i d) bytes)
    → with_front front (all_contents_of (drop i sections) bytes) ≡ total → Fails e total
contents_end e front sections i d bytes total lt h so_far =
    ends e front (held (get_or sections i d) bytes) (all_contents_of (drop (i + 1) sections) bytes) total h
    (ap (with_front front) (sym (contents_more sections i d bytes lt)) ∙ so_far)

pub contents_done : (front : List Contents) (sections : List Section) (i : ℕ) (bytes : List ℕ)
    (total : Result (List Contents) ElfFault) → length sections ≤ i
    → with_front front (all_contents_of (drop i sections) bytes) ≡ total → total ≡ Ok front
unfolding all_contents_of
contents_done front sections i bytes total le so_far =
    sym so_far ∙ ap (λ ss. with_front front (all_contents_of ss bytes)) (drop_all i sections le) ∙ ap Ok (append-nil front)
