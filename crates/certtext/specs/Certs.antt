-- The certificates that the lines of a core say, and the text of a file of certificates: this project's own.
use Rattle.std.specs.Prelude.{◌≡◌, ℕ, ◌+◌, ◌<◌, ◌==◌, ◌^◌, Bool, false, if◌then◌else◌, List, [], ◌∷◌, ◌++◌, map, Result, Ok, Err}
use Rattle.std.specs.List.{AllByRecursion, flat_map}
use Rattle.textline.specs.Lines.{text_of}
use Rattle.corestep.specs.declared.table.Table.{Table}
use Rattle.certtext.specs.declared.cert.Cert.{Cert}
use Rattle.certtext.specs.declared.cert.CertLine.{CertLine}
use Rattle.certtext.specs.declared.cert.CertLine.TheVariants as line
use Rattle.certtext.specs.declared.cert.Label.{Label}
use Rattle.certtext.specs.declared.edition.Edition.{Edition}
use Rattle.certtext.specs.declared.edition.Edition.TheVariants.{Second}
use Rattle.certtext.specs.declared.fault.CertsFault.{CertsFault}
use Rattle.certtext.specs.declared.fault.CertsFault.TheVariants.{Line, Memory}
use Rattle.certtext.specs.declared.read.CertFile.{CertFile}
use Rattle.certtext.specs.declared.saying.Saying.{Saying}
use Rattle.certtext.specs.declared.saying.Saying.TheVariants.{Core, Certified, Labelled, Refused, Unbalanced}
use Rattle.certtext.specs.Texts.{edition_text, table_of, core_text, cert_text, label_text, refused_text, InBounds}
use Rattle.certtext.specs.Order.{IsBefore}
use Rattle.certtext.specs.Files.{IsFile}

-- ---- what lines say together

abbrev pub names : ℕ → Saying → Bool
names core (Core named) = named == core
names core _ = false

-- the lines behind the one that names the core
abbrev pub of_core : ℕ → List Saying → List Saying
of_core core [] = []
of_core core (s ∷ said) = if names core s then said else of_core core said

-- the labels that stand first
abbrev pub first_labels : List Saying → List Label
first_labels [] = []
first_labels (Labelled label ∷ said) = label ∷ first_labels said
first_labels (Core core ∷ said) = []
first_labels (Certified region least most ∷ said) = []
first_labels (Refused region refusal ∷ said) = []
first_labels (Unbalanced region pc first second ∷ said) = []

-- the certificates and refusals up to the line that names the next core; a line that the second edition lacks is left out
abbrev pub certs_in : Table → List Saying → List CertLine
certs_in table [] = []
certs_in table (Core core ∷ said) = []
certs_in table (Certified region least most ∷ said) =
    line.Cert (record { table = table; region = region; least = least; most = most; labels = first_labels said }) ∷ certs_in table said
certs_in table (Labelled label ∷ said) = certs_in table said
certs_in table (Refused region refusal ∷ said) = line.Refused region refusal ∷ certs_in table said
certs_in table (Unbalanced region pc first second ∷ said) = certs_in table said

-- how many are left out
abbrev pub left_out : List Saying → ℕ
left_out [] = 0
left_out (Core core ∷ said) = 0
left_out (Certified region least most ∷ said) = left_out said
left_out (Labelled label ∷ said) = left_out said
left_out (Refused region refusal ∷ said) = left_out said
left_out (Unbalanced region pc first second ∷ said) = left_out said + 1

-- what a core's lines say
pub record IsSaidOf (edition : Edition) (said : List Saying) (core : ℕ) (file : CertFile) : Type 0 where
  pub table : file.table ≡ table_of edition
  pub lines : file.lines.items ≡ certs_in (table_of edition) (of_core core said)
  pub left_out : file.left_out ≡ left_out (of_core core said)

-- what is read is what the text says
pub record AreRead (text : List ℕ) (core : ℕ) (file : CertFile) : Type 0 where
  pub edition : Edition
  pub said : List Saying
  pub is : IsFile text edition said
  pub says : IsSaidOf edition said core file

-- this, unless memory was wanting
abbrev pub Gives : (CertFile → Type 0) → Result CertFile CertsFault → Type 0
Gives P (Ok file) = P file
Gives P (Err (Line number)) = ⊥
Gives P (Err Memory) = Unit {0}

-- ---- files of certificates, in the second edition

-- a certificate: its bounds, and its labels
abbrev pub cert_lines : Cert → List (List ℕ)
cert_lines cert = cert_text (Second cert.table) cert.region cert.least cert.most ∷ map (label_text (Second cert.table)) cert.labels

-- the lines of a region
abbrev pub region_lines : CertLine → List (List ℕ)
region_lines (line.Cert cert) = cert_lines cert
region_lines (line.Refused region refusal) = refused_text region refusal ∷ []

abbrev pub certs_lines : List CertLine → List (List ℕ)
certs_lines lines = flat_map region_lines lines

-- the text of core 0's certificates and core 1's
abbrev pub certs_text : Table → List CertLine → List CertLine → List ℕ
certs_text table zero one =
    text_of (edition_text (Second table) ∷ (core_text 0 ∷ certs_lines zero ++ core_text 1 ∷ certs_lines one))

abbrev pub LabelFits : Label → Type 0
LabelFits l = (l.entry < 2 ^ 16) × (l.pc < 2 ^ 16) × InBounds l.least l.most

abbrev pub LabelsAscend : List Label → Type 0
LabelsAscend [] = Unit {0}
LabelsAscend (a ∷ []) = Unit {0}
LabelsAscend (a ∷ b ∷ labels) = IsBefore a b × LabelsAscend (b ∷ labels)

pub record IsCert (table : Table) (cert : Cert) : Type 0 where
  pub same : cert.table ≡ table
  pub region : cert.region < 64
  pub bounds : InBounds cert.least cert.most
  pub labels : AllByRecursion LabelFits cert.labels
  pub ascend : LabelsAscend cert.labels

abbrev pub IsLine : Table → CertLine → Type 0
IsLine table (line.Cert cert) = IsCert table cert
IsLine table (line.Refused region refusal) = (region < 64) × (refusal.pc < 2 ^ 16)

abbrev pub region_of : CertLine → ℕ
region_of (line.Cert cert) = cert.region
region_of (line.Refused region refusal) = region

abbrev pub RegionsAscend : List CertLine → Type 0
RegionsAscend [] = Unit {0}
RegionsAscend (a ∷ []) = Unit {0}
RegionsAscend (a ∷ b ∷ lines) = (region_of a < region_of b) × RegionsAscend (b ∷ lines)

-- the lines of a core, by this table
pub record AreCerts (table : Table) (lines : List CertLine) : Type 0 where
  pub each : AllByRecursion (IsLine table) lines
  pub ascend : RegionsAscend lines

-- what is read of a printed file
pub record IsPrinted (by : Table) (certs : List CertLine) (file : CertFile) : Type 0 where
  pub table : file.table ≡ by
  pub lines : file.lines.items ≡ certs
  pub left_out : file.left_out ≡ 0

abbrev pub lines_of_core : ℕ → List CertLine → List CertLine → List CertLine
lines_of_core core zero one = if core == 0 then zero else one
