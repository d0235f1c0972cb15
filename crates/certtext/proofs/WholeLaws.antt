-- The certificates that are read are whole: their numbers are in their ranges, and regions and labels ascend.
use Rattle.std.proofs.Common.{ℕ, ◌<◌, Bool, true, false, cond, List, [], ◌∷◌, Option, Some, None, refl, arith}
use Rattle.std.specs.Prelude.{IfSome, IfOk}
use Rattle.std.specs.List.{AllByRecursion}
use Rattle.std.proofs.Common.{Result, Ok, Err, subst, sym}
use Rattle.corestep.specs.declared.table.Table.{Table}
use Rattle.certtext.specs.declared.cert.CertLine.{CertLine}
use Rattle.certtext.specs.declared.cert.CertLine.TheVariants as line
use Rattle.certtext.specs.declared.cert.Label.{Label}
use Rattle.certtext.specs.declared.edition.Edition.{Edition}
use Rattle.certtext.specs.declared.edition.Edition.TheVariants.{First, Second}
use Rattle.certtext.specs.declared.fault.CertsFault.{CertsFault}
use Rattle.certtext.specs.declared.order.Before.{Before}
use Rattle.certtext.specs.declared.order.Before.TheVariants as before
use Rattle.certtext.specs.declared.order.Place.{Place}
use Rattle.certtext.specs.declared.read.CertFile.{CertFile}
use Rattle.certtext.specs.declared.saying.Saying.{Saying}
use Rattle.certtext.specs.declared.saying.Saying.TheVariants.{Core, Certified, Labelled, Refused, Unbalanced}
use Rattle.certtext.specs.Texts.{table_of, Fits, BoundsFit, InBounds}
use Rattle.certtext.specs.Order.{start, MayLabel, next, behind_region, InOrder}
use Rattle.certtext.specs.Certs.{names, of_core, first_labels, certs_in, LabelFits, LabelsAscend, IsLine, region_of, RegionsAscend}
use Rattle.certtext.specs.Certs.{AreCerts}
use Rattle.certtext.specs.Certs.{AreRead}
use Rattle.certtext.proofs.PrintLaws.{LabelsBehind, RegionsBehind}

bounds_whole : (edition : Edition) (l m : ℕ) → BoundsFit edition l m → InBounds l m
bounds_whole First l m h = (omega (arith, h.0), h.1)
bounds_whole (Second table) l m h = h

-- ---- labels

record AreLabels (last : Before) (labels : List Label) : Type 0 where
  pub fit : AllByRecursion LabelFits labels
  pub ascend : LabelsAscend labels
  pub behind : LabelsBehind last labels

label_on : (last : Before) (l : Label) (labels : List Label) → LabelFits l → MayLabel last l → AreLabels (before.Label l) labels
    → AreLabels last (l ∷ labels)
label_on last l [] fits may h = record { fit = (fits, tt); ascend = tt; behind = may }
label_on last l (k ∷ labels) fits may h = record { fit = (fits, h.fit); ascend = (h.behind, h.ascend); behind = may }

no_labels : (last : Before) → AreLabels last []
no_labels last = record { fit = tt; ascend = tt; behind = tt }

labels_whole : (edition : Edition) (p : Place) (said : List Saying) → AllByRecursion (Fits edition) said → InOrder p said
    → AreLabels p.before (first_labels said)
labels_whole edition p [] f o = no_labels p.before
labels_whole edition p (Core core ∷ said) f o = no_labels p.before
labels_whole edition p (Certified r l m ∷ said) f o = no_labels p.before
labels_whole edition p (Labelled l ∷ said) f o =
    label_on p.before l (first_labels said) (f.0.0, f.0.1, bounds_whole edition l.least l.most f.0.2) o.0
    (labels_whole edition (next p (Labelled l)) said f.1 o.1)
labels_whole edition p (Refused r x ∷ said) f o = no_labels p.before
labels_whole edition p (Unbalanced r w x y ∷ said) f o = no_labels p.before

-- ---- certificates

record AreLines (table : Table) (last : Option ℕ) (lines : List CertLine) : Type 0 where
  pub each : AllByRecursion (IsLine table) lines
  pub ascend : RegionsAscend lines
  pub behind : RegionsBehind last lines

line_on : (table : Table) (last : Option ℕ) (l : CertLine) (lines : List CertLine) → IsLine table l
    → IfSome last (λ n. n < region_of l) → AreLines table (Some (region_of l)) lines → AreLines table last (l ∷ lines)
line_on table last l [] is may h = record { each = (is, tt); ascend = tt; behind = may }
line_on table last l (k ∷ lines) is may h = record { each = (is, h.each); ascend = (h.behind, h.ascend); behind = may }

-- a region without a line
line_over : (table : Table) (last : Option ℕ) (region : ℕ) (lines : List CertLine) → IfSome last (λ n. n < region)
    → AreLines table (Some region) lines → AreLines table last lines
line_over table last region [] may h = record { each = h.each; ascend = h.ascend; behind = tt }
line_over table None region (k ∷ lines) may h = record { each = h.each; ascend = h.ascend; behind = tt }
line_over table (Some n) region (k ∷ lines) may h =
    record { each = h.each; ascend = h.ascend; behind = (let b = h.behind in omega (arith, may, b)) }

no_lines : (table : Table) (last : Option ℕ) → AreLines table last []
no_lines table last = record { each = tt; ascend = tt; behind = tt }

region_small : (edition : Edition) (r p f s : ℕ) → Fits edition (Unbalanced r p f s) → r < 64
region_small First r p f s h = h.0
region_small (Second table) r p f s h = absurd h

certs_whole : (edition : Edition) (table : Table) (p : Place) (said : List Saying) → AllByRecursion (Fits edition) said → InOrder p said
    → AreLines table p.region (certs_in table said)
certs_whole edition table p [] f o = no_lines table p.region
certs_whole edition table p (Core core ∷ said) f o = no_lines table p.region
certs_whole edition table p (Certified r l m ∷ said) f o =
    let labels = labels_whole edition (behind_region p r before.Bounds) said f.1 o.1 in
    line_on table p.region _ (certs_in table said)
    (record {
      same = refl;
      region = f.0.0;
      bounds = bounds_whole edition l m f.0.1;
      labels = labels.fit;
      ascend = labels.ascend;
    }) o.0.1 (certs_whole edition table (behind_region p r before.Bounds) said f.1 o.1)
certs_whole edition table p (Labelled l ∷ said) f o = certs_whole edition table (next p (Labelled l)) said f.1 o.1
certs_whole edition table p (Refused r x ∷ said) f o =
    line_on table p.region (line.Refused r x) (certs_in table said) f.0 o.0.1
    (certs_whole edition table (behind_region p r before.Other) said f.1 o.1)
certs_whole edition table p (Unbalanced r w x y ∷ said) f o =
    line_over table p.region r (certs_in table said) o.0.1 (certs_whole edition table (behind_region p r before.Other) said f.1 o.1)

-- ---- the lines of a core

record IsPart (edition : Edition) (said : List Saying) : Type 0 where
  pub place : Place
  pub fits : AllByRecursion (Fits edition) said
  pub order : InOrder place said

part_by : (edition : Edition) (said rest : List Saying) (t : Bool) → IsPart edition said → IsPart edition rest
    → IsPart edition (cond t said rest)
part_by edition said rest true a b = a
part_by edition said rest false a b = b

part : (edition : Edition) (core : ℕ) (p : Place) (said : List Saying) → AllByRecursion (Fits edition) said → InOrder p said
    → IsPart edition (of_core core said)
part edition core p [] f o = record { place = p; fits = tt; order = tt }
part edition core p (s ∷ said) f o = part_by edition said (of_core core said) (names core s)
    (record { place = next p s; fits = f.1; order = o.1 }) (part edition core (next p s) said f.1 o.1)

-- what is read is whole
pub read_whole : (text : List ℕ) (core : ℕ) (file : CertFile) → AreRead text core file → AreCerts file.table file.lines.items
read_whole text core file h =
    let p = part h.edition core start h.said h.is.are.fits h.is.are.order in
    let whole = certs_whole h.edition (table_of h.edition) p.place (of_core core h.said) p.fits p.order in
    subst (λ t. AreCerts t file.lines.items) (sym h.says.table)
    (subst (AreCerts (table_of h.edition)) (sym h.says.lines) (record { each = whole.each; ascend = whole.ascend }))

pub all_whole : (text : List ℕ) (core : ℕ) (r : Result CertFile CertsFault) → IfOk r (AreRead text core)
    → IfOk r (λ file. AreCerts file.table file.lines.items)
all_whole text core (Ok file) h = read_whole text core file h
all_whole text core (Err e) h = tt
