-- What each line of a certificate file says, and its text in both editions: this project's own.
use Rattle.std.specs.Prelude.{◌≡◌, ℕ, ◌<◌, ◌≤◌, ◌^◌, List, ◌++◌, codes}
use Rattle.std.specs.Fmt.{decimal}
use Rattle.corestep.specs.declared.table.Table.{Table}
use Rattle.corestep.specs.declared.table.Table.TheVariants.{One, Two}
use Rattle.certtext.specs.declared.cert.Cause.{Cause}
use Rattle.certtext.specs.declared.cert.Cause.TheVariants.{Touches, Unbounded, Crossed, Long}
use Rattle.certtext.specs.declared.cert.Label.{Label}
use Rattle.certtext.specs.declared.cert.Refusal.{Refusal}
use Rattle.certtext.specs.declared.edition.Edition.{Edition}
use Rattle.certtext.specs.declared.edition.Edition.TheVariants.{First, Second}
use Rattle.certtext.specs.declared.saying.Saying.{Saying}
use Rattle.certtext.specs.declared.saying.Saying.TheVariants.{Core, Certified, Labelled, Refused, Unbalanced}

-- ---- the first line

abbrev pub edition_text : Edition → List ℕ
edition_text First = codes "certs 1"
edition_text (Second One) = codes "certs 2 1"
edition_text (Second Two) = codes "certs 2 2"

abbrev pub table_of : Edition → Table
table_of First = One
table_of (Second table) = table

-- ---- the others

-- the first edition tells both bounds by one number
abbrev pub bounds_text : Edition → ℕ → ℕ → List ℕ
bounds_text First least most = codes " " ++ decimal least
bounds_text (Second table) least most = codes " " ++ (decimal least ++ (codes " " ++ decimal most))

abbrev pub cert_text : Edition → ℕ → ℕ → ℕ → List ℕ
cert_text edition region least most = codes "cert " ++ (decimal region ++ bounds_text edition least most)

abbrev pub label_text : Edition → Label → List ℕ
label_text edition l = codes "at " ++ (decimal l.entry ++ (codes " " ++ (decimal l.pc ++ bounds_text edition l.least l.most)))

abbrev pub cause_text : Cause → List ℕ
cause_text Touches = codes "touches"
cause_text Unbounded = codes "unbounded"
cause_text Crossed = codes "crossed"
cause_text Long = codes "long"

abbrev pub refusal_text : Refusal → List ℕ
refusal_text r = cause_text r.cause ++ (codes " " ++ decimal r.pc)

abbrev pub refused_text : ℕ → Refusal → List ℕ
refused_text region r = codes "none " ++ (decimal region ++ (codes " " ++ refusal_text r))

abbrev pub unbalanced_text : ℕ → ℕ → ℕ → ℕ → List ℕ
unbalanced_text region pc first second =
    codes "none " ++ (decimal region ++ (codes " unbalanced " ++ (decimal pc ++ (codes " " ++ (decimal first ++ (codes " " ++ decimal
    second))))))

abbrev pub core_text : ℕ → List ℕ
core_text core = codes "core " ++ decimal core

abbrev pub saying_text : Edition → Saying → List ℕ
saying_text edition (Core core) = core_text core
saying_text edition (Certified region least most) = cert_text edition region least most
saying_text edition (Labelled label) = label_text edition label
saying_text edition (Refused region refusal) = refused_text region refusal
saying_text edition (Unbalanced region pc first second) = unbalanced_text region pc first second

-- ---- the numbers that they have

-- the most cycles that are certified
abbrev pub longest : ℕ
longest = 2000000

abbrev pub InBounds : ℕ → ℕ → Type 0
InBounds least most = (least ≤ most) × (most ≤ longest)

-- the bounds that an edition can tell
abbrev pub BoundsFit : Edition → ℕ → ℕ → Type 0
BoundsFit First least most = (least ≡ most) × (most ≤ longest)
BoundsFit (Second table) least most = InBounds least most

abbrev pub UnbalancedFits : Edition → ℕ → ℕ → ℕ → ℕ → Type 0
UnbalancedFits First region pc first second = (region < 64) × (pc < 2 ^ 16) × (first ≤ longest) × (second ≤ longest)
UnbalancedFits (Second table) region pc first second = ⊥

abbrev pub Fits : Edition → Saying → Type 0
Fits edition (Core core) = core < 2
Fits edition (Certified region least most) = (region < 64) × BoundsFit edition least most
Fits edition (Labelled l) = (l.entry < 2 ^ 16) × (l.pc < 2 ^ 16) × BoundsFit edition l.least l.most
Fits edition (Refused region refusal) = (region < 64) × (refusal.pc < 2 ^ 16)
Fits edition (Unbalanced region pc first second) = UnbalancedFits edition region pc first second
