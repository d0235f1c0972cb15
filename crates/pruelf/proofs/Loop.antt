-- Reading one after the other, as a loop does.
use Rattle.std.proofs.Common.{◌≡◌, ℕ, suc, ◌+◌, ◌-◌, ◌<◌, ◌≤◌, ◌==◌, List, [], ◌∷◌, ◌++◌, length, get_or, drop, min}
use Rattle.std.proofs.Common.{Option, Some, Result, Ok, Err, refl, sym, ap, ◌∙◌, append_assoc, arith}
use Rattle.std.specs.Int.{Width}
use Rattle.std.proofs.lemmas.List.{append-nil, drop_more, drop_all, drop_min}
use Rattle.pruelf.specs.declared.fault.LoadCause.{LoadCause}
use Rattle.pruelf.specs.declared.fault.LoadFault.{LoadFault}
use Rattle.pruelf.specs.declared.fault.LoadFault.TheVariants.{At, Memory}
use Rattle.elfrec.specs.declared.symbol.Symbol.{Symbol as Entry}
use Rattle.pruelf.specs.declared.symbol.Sym.{Sym}
use Rattle.pruelf.specs.Parts.{name_in, named, named_in, end_before}
use Rattle.pruelf.specs.Fields.{◌>>=◌, Fails, judged_in, fixed_in, many_in}

-- ---- things of one kind

-- how one of them is read
abbrev pub Reader : Type 0 → Type 0
Reader A = ℕ → Option A → List ℕ → Result (A × List ℕ) LoadFault

-- what was read before, and what is still read
abbrev pub with_front : {A : Type 0} → List A → Result (List A × List ℕ) LoadFault → Result (List A × List ℕ) LoadFault
with_front front read = read >>= λ x. Ok (front ++ x.0, x.1)

pub with_none : {A : Type 0} (read : Result (List A × List ℕ) LoadFault) → with_front [] read ≡ read
with_none (Ok x) = refl
with_none (Err e) = refl

regroup : {A : Type 0} (front : List A) (x : A) (read : Result (List A × List ℕ) LoadFault)
    → with_front front (read >>= λ y. Ok (x ∷ y.0, y.1)) ≡ with_front (front ++ x ∷ []) read
regroup {A = A} front x (Ok y) = ap (λ (xs : List A). Ok (xs, y.1)) (sym (append_assoc front (x ∷ []) y.0))
regroup front x (Err e) = refl

-- the first, and the others behind it
abbrev step : {A : Type 0} → Reader A → ℕ → Result (A × List ℕ) LoadFault → Result (List A × List ℕ) LoadFault
step one left read = read >>= λ first. many_in one left (Some first.0) first.1 >>= λ others. Ok (first.0 ∷ others.0, others.1)

many_more : {A : Type 0} (one : Reader A) (count i : ℕ) (before : Option A) (bytes : List ℕ) → i < count
    → many_in one (count - i) before bytes ≡ step one (count - (i + 1)) (one (count - i) before bytes)
unfolding many_in
many_more one count i before bytes lt =
    let k : suc (count - (i + 1)) ≡ count - i = omega arith in
    ap (λ n. many_in one n before bytes) (sym k) ∙ ap (λ n. step one (count - (i + 1)) (one n before bytes)) k

pub goes_on : {A : Type 0} (one : Reader A) (front : List A) (count i : ℕ) (before : Option A) (bytes : List ℕ) (x : A)
    (behind : List ℕ) (total : Result (List A × List ℕ) LoadFault)
    → i < count → one (count - i) before bytes ≡ Ok (x, behind)
    → with_front front (many_in one (count - i) before bytes) ≡ total
    → with_front (front ++ x ∷ []) (many_in one (count - (i + 1)) (Some x) behind) ≡ total
goes_on one front count i before bytes x behind total lt h so_far =
    sym (regroup front x (many_in one (count - (i + 1)) (Some x) behind))
    ∙ ap (λ r. with_front front (step one (count - (i + 1)) r)) (sym h)
    ∙ ap (with_front front) (sym (many_more one count i before bytes lt)) ∙ so_far

pub ends : {A : Type 0} (e : LoadFault) (one : Reader A) (front : List A) (count i : ℕ) (before : Option A) (bytes : List ℕ)
    (total : Result (List A × List ℕ) LoadFault)
    → i < count → Fails e (one (count - i) before bytes) → with_front front (many_in one (count - i) before bytes) ≡ total → Fails e total
ends Memory one front count i before bytes total lt h so_far = tt
ends (At offset cause) one front count i before bytes total lt h so_far =
    sym so_far ∙ ap (with_front front) (many_more one count i before bytes lt) ∙ ap (λ r. with_front front (step one (count - (i + 1)) r)) h

pub is_done : {A : Type 0} (one : Reader A) (front : List A) (count i : ℕ) (before : Option A) (bytes : List ℕ)
    (total : Result (List A × List ℕ) LoadFault)
    → count ≤ i → with_front front (many_in one (count - i) before bytes) ≡ total → total ≡ Ok (front, bytes)
unfolding many_in
is_done {A = A} one front count i before bytes total le so_far =
    let k : count - i ≡ 0 = omega arith in
    sym so_far ∙ ap (λ n. with_front front (many_in one n before bytes)) k ∙ ap (λ (xs : List A). Ok (xs, bytes)) (append-nil front)

pub begins : {A : Type 0} (one : Reader A) (front : List A) (count : ℕ) (before : Option A) (bytes : List ℕ) → front ≡ []
    → with_front front (many_in one (count - 0) before bytes) ≡ many_in one count before bytes
begins one front count before bytes e =
    let k : count - 0 ≡ count = omega arith in
    ap (λ xs. with_front xs (many_in one (count - 0) before bytes)) e ∙ with_none (many_in one (count - 0) before bytes)
    ∙ ap (λ n. many_in one n before bytes) k

pub behind_all : {X : Type 0} (xs : List X) (n : ℕ) → drop (min n (length xs)) xs ≡ drop n xs
behind_all xs n = drop_min n xs

-- ---- names

-- a symbol's name, and the others behind it
abbrev name_step : ℕ → List Entry → Entry → ℕ → Result (List ℕ × List ℕ) LoadFault → Result (List Sym × List ℕ) LoadFault
name_step size others e end read = read >>= λ name. named_in size others end name.1 >>= λ rest. Ok (named name.0 e ∷ rest.0, rest.1)

abbrev pub length_of : ℕ → List Entry → Entry → ℕ
length_of size others e = end_before size others - e.name - 1

names_more : (size : ℕ) (entries : List Entry) (i : ℕ) (e : Entry) (end : ℕ) (bytes : List ℕ) → i < length entries
    → named_in size (drop i entries) end bytes ≡ name_step size (drop (i + 1) entries) (get_or entries i e) end
    (name_in (length_of size (drop (i + 1) entries) (get_or entries i e)) end bytes)
unfolding named_in
names_more size entries i e end bytes lt = ap (λ es. named_in size es end bytes) (drop_more entries i e lt)

pub names_go_on : (front : List Sym) (size : ℕ) (entries : List Entry) (i : ℕ) (d : Entry) (end : ℕ) (bytes : List ℕ) (count : ℕ)
    (name behind : List ℕ) (total : Result (List Sym × List ℕ) LoadFault)
    → i < length entries → count ≡ length_of size (drop (i + 1) entries) (get_or entries i d) → name_in count end bytes ≡ Ok (name, behind)
    → with_front front (named_in size (drop i entries) end bytes) ≡ total
    → with_front (front ++ named name (get_or entries i d) ∷ []) (named_in size (drop (i + 1) entries) end behind) ≡ total
names_go_on front size entries i d end bytes count name behind total lt is h so_far =
    let others = drop (i + 1) entries in
    let e = get_or entries i d in
    sym (regroup front (named name e) (named_in size others end behind))
    ∙ ap (λ r. with_front front (name_step size others e end r)) (sym h ∙ ap (λ n. name_in n end bytes) is)
    ∙ ap (with_front front) (sym (names_more size entries i d end bytes lt)) ∙ so_far

pub names_end : (f : LoadFault) (front : List Sym) (size : ℕ) (entries : List Entry) (i : ℕ) (d : Entry) (end : ℕ) (bytes : List ℕ)
    (count : ℕ) (total : Result (List Sym × List ℕ) LoadFault)
    → i < length entries → count ≡ length_of size (drop (i + 1) entries) (get_or entries i d) → Fails f (name_in count end bytes)
    → with_front front (named_in size (drop i entries) end bytes) ≡ total → Fails f total
names_end Memory front size entries i d end bytes count total lt is h so_far = tt
names_end (At offset cause) front size entries i d end bytes count total lt is h so_far =
    let others = drop (i + 1) entries in
    let e = get_or entries i d in
    sym so_far ∙ ap (with_front front) (names_more size entries i d end bytes lt)
    ∙ ap (λ r. with_front front (name_step size others e end r)) (ap (λ n. name_in n end bytes) (sym is) ∙ h)

pub names_done : (front : List Sym) (size : ℕ) (entries : List Entry) (i end : ℕ) (bytes : List ℕ)
    (total : Result (List Sym × List ℕ) LoadFault) → length entries ≤ i
    → with_front front (named_in size (drop i entries) end bytes) ≡ total → total ≡ Ok (front, bytes)
unfolding named_in
names_done front size entries i end bytes total le so_far =
    sym so_far ∙ ap (λ es. with_front front (named_in size es end bytes)) (drop_all i entries le)
    ∙ ap (λ (xs : List Sym). Ok (xs, bytes)) (append-nil front)

-- ---- fields of which each has one value

-- the first of the values, and the others behind it
abbrev fixed_step : LoadCause → Width → List ℕ → ℕ → Result (ℕ × List ℕ) LoadFault → Result (List ℕ) LoadFault
fixed_step cause w values end read = read >>= λ number. fixed_in cause w values end number.1

fixed_more : (cause : LoadCause) (w : Width) (values : List ℕ) (i end : ℕ) (bytes : List ℕ) → i < length values
    → fixed_in cause w (drop i values) end bytes ≡ fixed_step cause w (drop (i + 1) values) end
    (judged_in cause w (λ n. n == get_or values i 0) end bytes)
unfolding fixed_in
fixed_more cause w values i end bytes lt = ap (λ vs. fixed_in cause w vs end bytes) (drop_more values i 0 lt)

pub value_read : (cause : LoadCause) (w : Width) (values : List ℕ) (i end : ℕ) (bytes : List ℕ) (value : ℕ) (behind : List ℕ)
    (total : Result (List ℕ) LoadFault) → i < length values → value ≡ get_or values i 0
    → judged_in cause w (λ n. n == value) end bytes ≡ Ok (value, behind) → fixed_in cause w (drop i values) end bytes ≡ total
    → fixed_in cause w (drop (i + 1) values) end behind ≡ total
value_read cause w values i end bytes value behind total lt is h so_far =
    ap (fixed_step cause w (drop (i + 1) values) end) (sym h)
    ∙ ap (λ v. fixed_step cause w (drop (i + 1) values) end (judged_in cause w (λ n. n == v) end bytes)) is
    ∙ sym (fixed_more cause w values i end bytes lt) ∙ so_far

pub value_fails : (e : LoadFault) (cause : LoadCause) (w : Width) (values : List ℕ) (i end : ℕ) (bytes : List ℕ) (value : ℕ)
    (total : Result (List ℕ) LoadFault) → i < length values → value ≡ get_or values i 0
    → Fails e (judged_in cause w (λ n. n == value) end bytes) → fixed_in cause w (drop i values) end bytes ≡ total → Fails e total
value_fails Memory cause w values i end bytes value total lt is h so_far = tt
value_fails (At offset c) cause w values i end bytes value total lt is h so_far =
    sym so_far ∙ fixed_more cause w values i end bytes lt
    ∙ ap (λ v. fixed_step cause w (drop (i + 1) values) end (judged_in cause w (λ n. n == v) end bytes)) (sym is)
    ∙ ap (fixed_step cause w (drop (i + 1) values) end) h

pub values_done : (cause : LoadCause) (w : Width) (values : List ℕ) (i end : ℕ) (bytes : List ℕ) (total : Result (List ℕ) LoadFault)
    → length values ≤ i
    → fixed_in cause w (drop i values) end bytes ≡ total → total ≡ Ok bytes
unfolding fixed_in
values_done cause w values i end bytes total le so_far = sym so_far ∙ ap (λ vs. fixed_in cause w vs end bytes) (drop_all i values le)
