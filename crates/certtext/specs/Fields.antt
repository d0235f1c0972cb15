-- Reading a line field by field. What a line says is told in `Texts`: this is no more than the way there.
use Rattle.std.specs.Prelude.{ℕ, ◌==◌, nat_le, if◌then◌else◌, List, [], ◌∷◌, length, drop}
use Rattle.std.specs.Prelude.{codes, slice_get, Option, Some, None, option_and_then}
use Rattle.std.specs.Str.{bytes_eq}
use Rattle.std.specs.Fmt.{decimal}
use Rattle.textline.specs.Numbers.{decimal_in}
use Rattle.corestep.specs.declared.table.Table.TheVariants.{One, Two}
use Rattle.certtext.specs.declared.cert.Cause.{Cause}
use Rattle.certtext.specs.declared.cert.Cause.TheVariants.{Touches, Unbounded, Crossed, Long}
use Rattle.certtext.specs.declared.edition.Edition.{Edition}
use Rattle.certtext.specs.declared.edition.Edition.TheVariants.{First, Second}
use Rattle.certtext.specs.declared.saying.Saying.{Saying}
use Rattle.certtext.specs.declared.saying.Saying.TheVariants.{Core, Certified, Labelled, Refused, Unbalanced}
use Rattle.certtext.specs.Texts.{cause_text}

unfoldable pub edition_in : List ℕ → Option Edition
edition_in line =
    if bytes_eq line (codes "certs 1") then Some First
    else (if bytes_eq line (codes "certs 2 1") then Some (Second One)
    else (if bytes_eq line (codes "certs 2 2") then Some (Second Two) else None))

-- ---- the fields of a line

abbrev pub bounds_fields : Edition → ℕ → ℕ → List (List ℕ)
bounds_fields First least most = decimal least ∷ []
bounds_fields (Second table) least most = decimal least ∷ decimal most ∷ []

abbrev pub saying_fields : Edition → Saying → List (List ℕ)
saying_fields edition (Core core) = codes "core" ∷ decimal core ∷ []
saying_fields edition (Certified region least most) = codes "cert" ∷ decimal region ∷ bounds_fields edition least most
saying_fields edition (Labelled l) = codes "at" ∷ decimal l.entry ∷ decimal l.pc ∷ bounds_fields edition l.least l.most
saying_fields edition (Refused region r) = codes "none" ∷ decimal region ∷ cause_text r.cause ∷ decimal r.pc ∷ []
saying_fields edition (Unbalanced region pc first second) =
    codes "none" ∷ decimal region ∷ codes "unbalanced" ∷ decimal pc ∷ decimal first ∷ decimal second ∷ []

-- ---- what is read of them

-- a number of at most so much
abbrev pub within : ℕ → ℕ → Option ℕ
within most n = if nat_le n most then Some n else None

abbrev pub number_in : ℕ → List ℕ → Option ℕ
number_in most word = option_and_then (within most) (decimal_in word)

-- the first field read
abbrev pub field : {A : Type 0} → (List ℕ → Option A) → List (List ℕ) → Option A
field read fields = option_and_then read (slice_get fields 0)

-- this, where no field is left
abbrev pub at_end : {A : Type 0} → List (List ℕ) → Option A → Option A
at_end fields read = if length fields == 0 then read else None

unfoldable pub alone : ℕ → List (List ℕ) → Option ℕ
alone most fields = option_and_then (λ n. at_end (drop 1 fields) (Some n)) (field (number_in most) fields)

abbrev pub ordered : ℕ → ℕ → Option (ℕ × ℕ)
ordered least most = if nat_le least most then Some (least, most) else None

unfoldable pub bounds_in : Edition → List (List ℕ) → Option (ℕ × ℕ)
bounds_in First fields = option_and_then (λ n. Some (n, n)) (alone 2000000 fields)
bounds_in (Second table) fields =
    option_and_then (λ least. option_and_then (ordered least) (alone 2000000 (drop 1 fields))) (field (number_in 2000000) fields)

abbrev pub core_in : List (List ℕ) → Option Saying
core_in fields = option_and_then (λ n. Some (Core n)) (alone 1 fields)

abbrev pub cert_in : Edition → List (List ℕ) → Option Saying
cert_in edition fields =
    option_and_then (λ region. option_and_then (λ b. Some (Certified region b.0 b.1)) (bounds_in edition (drop 1 fields)))
    (field (number_in 63) fields)

abbrev pub label_in : Edition → List (List ℕ) → Option Saying
label_in edition fields =
    option_and_then (λ entry.
    option_and_then (λ pc.
    option_and_then (λ b. Some (Labelled (record { entry = entry; pc = pc; least = b.0; most = b.1 })))
    (bounds_in edition (drop 1 (drop 1 fields))))
    (field (number_in 65535) (drop 1 fields)))
    (field (number_in 65535) fields)

unfoldable pub cause_in : List ℕ → Option Cause
cause_in word =
    if bytes_eq word (codes "touches") then Some Touches
    else (if bytes_eq word (codes "unbounded") then Some Unbounded
    else (if bytes_eq word (codes "crossed") then Some Crossed
    else (if bytes_eq word (codes "long") then Some Long else None)))

unfoldable pub unbalanced_in : Edition → ℕ → List (List ℕ) → Option Saying
unbalanced_in First region fields =
    option_and_then (λ pc.
    option_and_then (λ first.
    option_and_then (λ second. Some (Unbalanced region pc first second)) (alone 2000000 (drop 1 (drop 1 fields))))
    (field (number_in 2000000) (drop 1 fields)))
    (field (number_in 65535) fields)
unbalanced_in (Second table) region fields = None

unfoldable pub behind_word : Edition → ℕ → List ℕ → List (List ℕ) → Option Saying
behind_word edition region word fields =
    if bytes_eq word (codes "unbalanced") then unbalanced_in edition region fields
    else option_and_then (λ cause.
    option_and_then (λ pc. Some (Refused region (record { cause = cause; pc = pc }))) (alone 65535 fields))
    (cause_in word)

abbrev pub refused_in : Edition → List (List ℕ) → Option Saying
refused_in edition fields =
    option_and_then (λ region. field (λ word. behind_word edition region word (drop 1 (drop 1 fields))) (drop 1 fields))
    (field (number_in 63) fields)

unfoldable pub word_in : Edition → List ℕ → List (List ℕ) → Option Saying
word_in edition word fields =
    if bytes_eq word (codes "at") then label_in edition fields
    else (if bytes_eq word (codes "cert") then cert_in edition fields
    else (if bytes_eq word (codes "none") then refused_in edition fields
    else (if bytes_eq word (codes "core") then core_in fields else None)))

unfoldable pub said_in : Edition → List (List ℕ) → Option Saying
said_in edition [] = None
said_in edition (word ∷ fields) = word_in edition word fields
