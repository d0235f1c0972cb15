-- What is written is read again: the words, the data, the notes and the names.
use Rattle.std.proofs.Common.{◌≡◌, ℕ, suc, ◌^◌, ◌<◌, Bool, true}
use Rattle.std.proofs.Common.{cond, List, [], ◌∷◌, ◌++◌, length, Option, Some, None, Result, Ok, Err}
use Rattle.std.proofs.Common.{refl, sym, ap, ◌∙◌, append_assoc, arith}
use Rattle.std.specs.Int.{w8, w16, w32, to_le_bytes}
use Rattle.std.specs.List.{flat_map}
use Rattle.isa.specs.declared.note.Note.{Note as Mark}
use Rattle.isa.specs.declared.note.NoteKind.{NoteKind}
use Rattle.isa.specs.declared.note.NoteKind.TheVariants.{Enter, DelayIn, DelayOut, Leave, Own, Return, Turns}
use Rattle.isa.specs.Note.{kind_at, kind_number, value_fits}
use Rattle.pruelf.specs.declared.fault.LoadCause.TheVariants as causes
use Rattle.pruelf.specs.declared.fault.LoadFault.{LoadFault}
use Rattle.pruelf.specs.Fields.{◌>>=◌, fixed_in, judged_in, many_in, number_in, wrong}
use Rattle.pruelf.specs.Parts.{chosen, is_word, kind_in, may_be_word, may_follow, note_in}
use Rattle.pruelf.specs.Parts.{word_in}
use Rattle.elfwrite.specs.Written.{note_bytes, numbers}
use Rattle.elfwrite.proofs.Again.{fixed_again, judged_again, number_again, then_ok, wide8, wide16, wide32}
use Rattle.pruelf.proofs.Loop.{Reader}

-- each fits what stands before it, and how many are left with it
abbrev pub Chain : {A : Type 0} → (ℕ → Option A → A → Type 0) → Option A → List A → Type 0
Chain P before [] = Unit {0}
Chain P before (x ∷ xs) = P (suc (length xs)) before x × Chain P (Some x) xs

pub many_again : {A : Type 0} (one : Reader A) (text : A → List ℕ) (P : ℕ → Option A → A → Type 0)
    → ((left : ℕ) (before : Option A) (x : A) (rest : List ℕ) → P left before x → one left before (text x ++ rest) ≡ Ok (x, rest))
    → (xs : List A) (before : Option A) (rest : List ℕ) → Chain P before xs → many_in one (length xs) before (flat_map text xs ++ rest)
    ≡ Ok (xs, rest)
unfolding many_in
many_again one text P each [] before rest h = refl
many_again one text P each (x ∷ xs) before rest h =
    let behind = flat_map text xs ++ rest in
    ap (many_in one (suc (length xs)) before) (append_assoc (text x) (flat_map text xs) rest)
    ∙ then_ok (one (suc (length xs)) before (text x ++ behind)) (x, behind)
    (λ first. many_in one (length xs) (Some first.0) first.1 >>= λ others. Ok (first.0 ∷ others.0, others.1))
    (each (suc (length xs)) before x behind h.0)
    ∙ then_ok (many_in one (length xs) (Some x) behind) (xs, rest) (λ others. Ok (x ∷ others.0, others.1))
    (many_again one text P each xs (Some x) rest h.1)

-- ---- words

abbrev pub IsWord : ℕ → Option ℕ → ℕ → Type 0
IsWord left before word = (word < 2 ^ 32) × (is_word word ≡ true)

pub word_again : (end left : ℕ) (before : Option ℕ) (word : ℕ) (rest : List ℕ) → IsWord left before word
    → word_in end left before (to_le_bytes w32 word ++ rest) ≡ Ok (word, rest)
word_again end left before word rest h = judged_again causes.Word w32 wide32 is_word end word rest h.0 h.1

pub words_again : (end : ℕ) (words : List ℕ) (rest : List ℕ) → Chain IsWord None words
    → many_in (word_in end) (length words) None (numbers w32 words ++ rest) ≡ Ok (words, rest)
words_again end words rest h = many_again (word_in end) (to_le_bytes w32) IsWord (word_again end) words None rest h

-- ---- notes

abbrev pub IsMark : List ℕ → ℕ → Option Mark → Mark → Type 0
IsMark words left before m = (m.word < 2 ^ 16) × (m.value < 2 ^ 32) × (may_be_word words before m.word
    ≡ true) × (may_follow words before m.word m.kind ≡ true) × (value_fits m.kind m.value ≡ true)

kind_small : (k : NoteKind) → kind_number k < 256
kind_small Enter = omega arith
kind_small DelayIn = omega arith
kind_small DelayOut = omega arith
kind_small Leave = omega arith
kind_small Own = omega arith
kind_small Return = omega arith
kind_small Turns = omega arith

kind_byte : (k : NoteKind) → to_le_bytes w8 (kind_number k) ≡ kind_number k ∷ []
kind_byte Enter = refl
kind_byte DelayIn = refl
kind_byte DelayOut = refl
kind_byte Leave = refl
kind_byte Own = refl
kind_byte Return = refl
kind_byte Turns = refl

kind_back : (k : NoteKind) → kind_at (kind_number k) ≡ Some k
kind_back Enter = refl
kind_back DelayIn = refl
kind_back DelayOut = refl
kind_back Leave = refl
kind_back Own = refl
kind_back Return = refl
kind_back Turns = refl

kind_again : (words : List ℕ) (before : Option Mark) (word end : ℕ) (k : NoteKind) (rest : List ℕ) → may_follow words before word k
    ≡ true → kind_in words before word end (kind_number k ∷ rest) ≡ Ok (k, rest)
unfolding kind_in
kind_again words before word end k rest ok =
    let may = may_follow words before word in
    let fault = wrong causes.Note end (kind_number k ∷ rest) in
    let read : number_in w8 end (kind_number k ∷ rest) ≡ Ok (kind_number k, rest) =
    ap (λ b. number_in w8 end (b ++ rest)) (sym (kind_byte k)) ∙ number_again w8 wide8 end (kind_number k) rest (kind_small k) in
    then_ok (number_in w8 end (kind_number k ∷ rest)) (kind_number k, rest)
    (λ number. chosen may (kind_at number.0) fault >>= λ kind. Ok (kind, number.1)) read
    ∙ ap (λ o. chosen may o fault >>= λ kind. Ok (kind, rest)) (kind_back k)
    ∙ ap (λ (t : Bool). cond {A = Result NoteKind LoadFault} t (Ok k) (Err fault) >>= λ kind. Ok (kind, rest)) ok

pub note_again : (words : List ℕ) (end left : ℕ) (before : Option Mark) (m : Mark) (rest : List ℕ) → IsMark words left before m
    → note_in words end left before (note_bytes m ++ rest) ≡ Ok (m, rest)
unfolding note_in
note_again words end left before m rest h =
    let r4 = to_le_bytes w32 m.value ++ rest in
    let r3 = numbers w8 (0 ∷ []) ++ r4 in
    let r2 = kind_number m.kind ∷ r3 in
    then_ok (judged_in causes.Note w16 (may_be_word words before) end (to_le_bytes w16 m.word ++ r2)) (m.word, r2) _
    (judged_again causes.Note w16 wide16 (may_be_word words before) end m.word r2 h.0 h.2)
    ∙ then_ok (kind_in words before m.word end r2) (m.kind, r3) _ (kind_again words before m.word end m.kind r3 h.3)
    ∙ then_ok (fixed_in causes.Note w8 (0 ∷ []) end r3) r4 _ (fixed_again causes.Note w8 wide8 (0 ∷ []) end r4 (omega arith, tt))
    ∙ then_ok (judged_in causes.Note w32 (value_fits m.kind) end r4) (m.value, rest) _
    (judged_again causes.Note w32 wide32 (value_fits m.kind) end m.value rest h.1 h.4)

pub notes_again : (words : List ℕ) (end : ℕ) (notes : List Mark) (rest : List ℕ) → Chain (IsMark words) None notes
    → many_in (note_in words end) (length notes) None (flat_map note_bytes notes ++ rest) ≡ Ok (notes, rest)
notes_again words end notes rest h = many_again (note_in words end) note_bytes (IsMark words) (note_again words end) notes None rest h
