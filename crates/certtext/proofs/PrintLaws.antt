-- A printed file says the certificates that were printed.
use Rattle.std.proofs.Common.{◌≡◌, ℕ, zero, suc, ◌<◌, List, [], ◌∷◌, ◌++◌, map}
use Rattle.std.proofs.Common.{Option, Some, None, Result, Ok, Err, refl, sym, ap, ◌∙◌, arith, subst, append_assoc}
use Rattle.std.specs.Prelude.{IsSome, IfSome}
use Rattle.std.proofs.lemmas.List.{append-nil}
use Rattle.std.specs.List.{AllByRecursion}
use Rattle.textline.specs.Lines.{text_of}
use Rattle.corestep.specs.declared.table.Table.{Table}
use Rattle.certtext.specs.declared.cert.Cert.{Cert}
use Rattle.certtext.specs.declared.cert.CertLine.{CertLine}
use Rattle.certtext.specs.declared.cert.CertLine.TheVariants as line
use Rattle.certtext.specs.declared.cert.Label.{Label}
use Rattle.certtext.specs.declared.edition.Edition.{Edition}
use Rattle.certtext.specs.declared.edition.Edition.TheVariants.{Second}
use Rattle.certtext.specs.declared.fault.CertsFault.{CertsFault}
use Rattle.certtext.specs.declared.fault.CertsFault.TheVariants.{Line, Memory}
use Rattle.certtext.specs.declared.order.Before.{Before}
use Rattle.certtext.specs.declared.order.Before.TheVariants as before
use Rattle.certtext.specs.declared.order.Place.{Place}
use Rattle.certtext.specs.declared.read.CertFile.{CertFile}
use Rattle.certtext.specs.declared.saying.Saying.{Saying}
use Rattle.certtext.specs.declared.saying.Saying.TheVariants.{Core, Certified, Labelled, Refused}
use Rattle.certtext.specs.Texts.{saying_text, core_text, edition_text, Fits}
use Rattle.certtext.specs.Order.{start, MayName, MayLabel, next, behind_region, InOrder, place_behind}
use Rattle.certtext.specs.Files.{IsFile}
use Rattle.certtext.specs.Certs.{of_core, first_labels, certs_in, left_out, IsSaidOf, Gives, region_lines, certs_lines}
use Rattle.certtext.specs.Certs.{certs_text, LabelFits, LabelsAscend, IsLine, region_of, RegionsAscend, AreCerts, IsPrinted, lines_of_core}
use Rattle.certtext.proofs.FileLaws.{all_append, map_append}
use Rattle.certtext.proofs.OrderLaws.{place_append}

-- ---- what is said by certificates

unfoldable labels_said : List Label → List Saying
labels_said [] = []
labels_said (l ∷ labels) = Labelled l ∷ labels_said labels

unfoldable region_said : CertLine → List Saying
region_said (line.Cert cert) = Certified cert.region cert.least cert.most ∷ labels_said cert.labels
region_said (line.Refused region refusal) = Refused region refusal ∷ []

unfoldable certs_said : List CertLine → List Saying
certs_said [] = []
certs_said (l ∷ lines) = region_said l ++ certs_said lines

abbrev file_said : List CertLine → List CertLine → List Saying
file_said zeros one = Core 0 ∷ (certs_said zeros ++ Core 1 ∷ certs_said one)

-- ---- its text

labels_text : (table : Table) (labels : List Label)
    → map (saying_text (Second table)) (labels_said labels) ≡ map (λ l. saying_text (Second table) (Labelled l)) labels
unfolding labels_said
labels_text table [] = refl
labels_text table (l ∷ labels) = ap (λ ls. saying_text (Second table) (Labelled l) ∷ ls) (labels_text table labels)

region_text : (table : Table) (l : CertLine) → IsLine table l → map (saying_text (Second table)) (region_said l) ≡ region_lines l
unfolding region_said
region_text table (line.Cert cert) h =
    ap (λ ls. saying_text (Second table) (Certified cert.region cert.least cert.most) ∷ ls) (labels_text table cert.labels)
    ∙ ap (λ t. saying_text (Second t) (Certified cert.region cert.least cert.most)
    ∷ map (λ l. saying_text (Second t) (Labelled l)) cert.labels) (sym h.same)
region_text table (line.Refused region refusal) h = refl

certs_said_text : (table : Table) (lines : List CertLine) → AllByRecursion (IsLine table) lines
    → map (saying_text (Second table)) (certs_said lines) ≡ certs_lines lines
unfolding certs_said
certs_said_text table [] h = refl
certs_said_text table (l ∷ lines) h =
    map_append (Second table) (region_said l) (certs_said lines)
    ∙ ap (λ ls. ls ++ map (saying_text (Second table)) (certs_said lines)) (region_text table l h.0)
    ∙ ap (λ ls. region_lines l ++ ls) (certs_said_text table lines h.1)

file_text : (table : Table) (zeros one : List CertLine) → AllByRecursion (IsLine table) zeros → AllByRecursion (IsLine table) one
    → map (saying_text (Second table)) (file_said zeros one) ≡ core_text 0 ∷ certs_lines zeros ++ core_text 1 ∷ certs_lines one
file_text table zeros one z o =
    ap (λ ls. core_text 0 ∷ ls) (map_append (Second table) (certs_said zeros) (Core 1 ∷ certs_said one)
    ∙ ap (λ ls. ls ++ core_text 1 ∷ map (saying_text (Second table)) (certs_said one)) (certs_said_text table zeros z)
    ∙ ap (λ ls. certs_lines zeros ++ core_text 1 ∷ ls) (certs_said_text table one o))

-- ---- its ranges

labels_fit : (table : Table) (labels : List Label) → AllByRecursion LabelFits labels
    → AllByRecursion (Fits (Second table)) (labels_said labels)
unfolding labels_said
labels_fit table [] h = tt
labels_fit table (l ∷ labels) h = (h.0, labels_fit table labels h.1)

region_fits : (table : Table) (l : CertLine) → IsLine table l → AllByRecursion (Fits (Second table)) (region_said l)
unfolding region_said
region_fits table (line.Cert cert) h = ((h.region, h.bounds), labels_fit table cert.labels h.labels)
region_fits table (line.Refused region refusal) h = (h, tt)

certs_fit : (table : Table) (lines : List CertLine) → AllByRecursion (IsLine table) lines
    → AllByRecursion (Fits (Second table)) (certs_said lines)
unfolding certs_said
certs_fit table [] h = tt
certs_fit table (l ∷ lines) h = all_append (Fits (Second table)) (region_said l) (certs_said lines) (region_fits table l h.0) (certs_fit
    table lines h.1)

-- ---- its order

-- what may stand behind any place of a core
abbrev GoesBehind : Option ℕ → List Saying → Type 0
GoesBehind core rest = (q : Place) → q.core ≡ core → InOrder q rest

-- the next label of a certificate
abbrev pub LabelsBehind : Before → List Label → Type 0
LabelsBehind last [] = Unit {0}
LabelsBehind last (l ∷ labels) = MayLabel last l

labels_order : (p : Place) (labels : List Label) (rest : List Saying) → LabelsBehind p.before labels → LabelsAscend labels
    → ((q : Place) → q.core ≡ p.core → q.region ≡ p.region → InOrder q rest) → InOrder p (labels_said labels ++ rest)
unfolding labels_said
labels_order p [] rest b a r = r p refl refl
labels_order p (l ∷ []) rest b a r = (b, r (next p (Labelled l)) refl refl)
labels_order p (l ∷ k ∷ labels) rest b a r = (b, labels_order (next p (Labelled l)) (k ∷ labels) rest a.0 a.1 r)

first_behind : (labels : List Label) → LabelsBehind before.Bounds labels
first_behind [] = tt
first_behind (l ∷ labels) = tt

-- the first region is above the last one
abbrev pub RegionsBehind : Option ℕ → List CertLine → Type 0
RegionsBehind last [] = Unit {0}
RegionsBehind last (l ∷ lines) = IfSome last (λ n. n < region_of l)

region_order : (table : Table) (p : Place) (l : CertLine) (rest : List Saying) → IsLine table l → IsSome p.core
    → IfSome p.region (λ n. n < region_of l)
    → ((q : Place) → q.core ≡ p.core → q.region ≡ Some (region_of l) → InOrder q rest) → InOrder p (region_said l ++ rest)
unfolding region_said
region_order table p (line.Cert cert) rest h c b r =
    ((c, b), labels_order (behind_region p cert.region before.Bounds) cert.labels rest (first_behind cert.labels) h.ascend r)
region_order table p (line.Refused region refusal) rest h c b r = ((c, b), r (behind_region p region before.Other) refl refl)

certs_order : (table : Table) (p : Place) (core : ℕ) (lines : List CertLine) (rest : List Saying) → AllByRecursion (IsLine table) lines
    → RegionsAscend lines → p.core ≡ Some core → RegionsBehind p.region lines → GoesBehind (Some core) rest
    → InOrder p (certs_said lines ++ rest)
unfolding certs_said
certs_order table p core [] rest h a c b r = r p c
certs_order table p core (l ∷ []) rest h a c b r =
    subst (InOrder p) (sym (append_assoc (region_said l) [] rest))
    (region_order table p l rest h.0 (subst (λ (o : Option ℕ). IsSome o) (sym c) refl) b (λ q same e. r q (same ∙ c)))
certs_order table p core (l ∷ k ∷ lines) rest h a c b r =
    subst (InOrder p) (sym (append_assoc (region_said l) (certs_said (k ∷ lines)) rest))
    (region_order table p l (certs_said (k ∷ lines) ++ rest) h.0 (subst (λ (o : Option ℕ). IsSome o) (sym c) refl) b
    (λ q same e. certs_order table q core (k ∷ lines) rest h.1 a.1 (same ∙ c)
    (subst (λ (o : Option ℕ). IfSome o (λ n. n < region_of k)) (sym e) a.0) r))

pub behind_none : (lines : List CertLine) → RegionsBehind None lines
behind_none [] = tt
behind_none (l ∷ lines) = tt

file_order : (table : Table) (zeros one : List CertLine) → AreCerts table zeros → AreCerts table one
    → InOrder start (file_said zeros one)
file_order table zeros one z o = (
  refl,
  certs_order table (next start (Core 0)) 0 zeros (Core 1 ∷ certs_said one) z.each z.ascend refl (behind_none zeros)
      (λ q e. (
        subst (λ (n : Option ℕ). MayName n 1) (sym e) (refl, refl),
        subst (InOrder (next q (Core 1))) (append-nil (certs_said one))
            (certs_order table (next q (Core 1)) 1 one [] o.each o.ascend refl (behind_none one) (λ p same. tt)),
      )),
)

labels_core : (p : Place) (labels : List Label) → (place_behind p (labels_said labels)).core ≡ p.core
unfolding labels_said
labels_core p [] = refl
labels_core p (l ∷ labels) = labels_core (next p (Labelled l)) labels

region_core : (p : Place) (l : CertLine) → (place_behind p (region_said l)).core ≡ p.core
unfolding region_said
region_core p (line.Cert cert) = labels_core (behind_region p cert.region before.Bounds) cert.labels
region_core p (line.Refused region refusal) = refl

certs_core : (p : Place) (lines : List CertLine) → (place_behind p (certs_said lines)).core ≡ p.core
unfolding certs_said
certs_core p [] = refl
certs_core p (l ∷ lines) =
    ap (λ (q : Place). q.core) (place_append p (region_said l) (certs_said lines))
    ∙ certs_core (place_behind p (region_said l)) lines ∙ region_core p l

file_whole : (zeros one : List CertLine) → (place_behind start (file_said zeros one)).core ≡ Some 1
file_whole zeros one =
    ap (λ (q : Place). q.core) (place_append (next start (Core 0)) (certs_said zeros) (Core 1 ∷ certs_said one))
    ∙ certs_core (next (place_behind (next start (Core 0)) (certs_said zeros)) (Core 1)) one

printed_file : (table : Table) (zeros one : List CertLine) → AreCerts table zeros → AreCerts table one
    → IsFile (certs_text table zeros one) (Second table) (file_said zeros one)
printed_file table zeros one z o = record {
  are = record {
    fits = (
      omega arith,
      all_append (Fits (Second table)) (certs_said zeros) (Core 1 ∷ certs_said one) (certs_fit table zeros z.each) (
        omega arith,
        certs_fit
            table one o.each,
      ),
    );
    order = file_order table zeros one z o;
    whole = file_whole zeros one;
  };
  same = ap (λ ls. text_of (edition_text (Second table) ∷ ls)) (sym (file_text table zeros one z.each o.each));
}

-- ---- what its lines say

labels_first : (labels : List Label) (rest : List Saying) → first_labels rest ≡ [] → first_labels (labels_said labels ++ rest) ≡ labels
unfolding labels_said
labels_first [] rest h = h
labels_first (l ∷ labels) rest h = ap (λ ls. l ∷ ls) (labels_first labels rest h)

labels_certs : (table : Table) (labels : List Label) (rest : List Saying)
    → certs_in table (labels_said labels ++ rest) ≡ certs_in table rest
unfolding labels_said
labels_certs table [] rest = refl
labels_certs table (l ∷ labels) rest = labels_certs table labels rest

labels_out : (labels : List Label) (rest : List Saying) → left_out (labels_said labels ++ rest) ≡ left_out rest
unfolding labels_said
labels_out [] rest = refl
labels_out (l ∷ labels) rest = labels_out labels rest

labels_skip : (core : ℕ) (labels : List Label) (rest : List Saying) → of_core core (labels_said labels ++ rest) ≡ of_core core rest
unfolding labels_said
labels_skip core [] rest = refl
labels_skip core (l ∷ labels) rest = labels_skip core labels rest

certs_first : (lines : List CertLine) (rest : List Saying) → first_labels rest ≡ [] → first_labels (certs_said lines ++ rest) ≡ []
unfolding certs_said region_said
certs_first [] rest h = h
certs_first (line.Cert cert ∷ lines) rest h = refl
certs_first (line.Refused region refusal ∷ lines) rest h = refl

cert_same : (cert : Cert) (table : Table) (labels : List Label) → cert.table ≡ table → labels ≡ cert.labels
    → line.Cert (record { table = table; region = cert.region; least = cert.least; most = cert.most; labels = labels }) ≡ line.Cert cert
cert_same cert table labels t l =
    ap (λ ls. line.Cert (record { table = table; region = cert.region; least = cert.least; most = cert.most; labels = ls })) l
    ∙ ap (λ x. line.Cert (record { table = x; region = cert.region; least = cert.least; most = cert.most; labels = cert.labels })) (sym t)

certs_back : (table : Table) (lines : List CertLine) (rest : List Saying) → AllByRecursion (IsLine table) lines
    → first_labels rest ≡ [] → certs_in table rest ≡ [] → certs_in table (certs_said lines ++ rest) ≡ lines
unfolding certs_said region_said
certs_back table [] rest h f c = c
certs_back table (line.Cert cert ∷ lines) rest h f c =
    let cut : (labels_said cert.labels ++ certs_said lines) ++ rest ≡ labels_said cert.labels ++ (certs_said lines ++ rest) =
    append_assoc (labels_said cert.labels) (certs_said lines) rest in
    let first = cert_same cert table (first_labels ((labels_said cert.labels ++ certs_said lines) ++ rest)) h.0.same
    (ap first_labels cut ∙ labels_first cert.labels (certs_said lines ++ rest) (certs_first lines rest f)) in
    let others : certs_in table ((labels_said cert.labels ++ certs_said lines) ++ rest) ≡ lines =
    ap (certs_in table) cut ∙ labels_certs table cert.labels (certs_said lines ++ rest) ∙ certs_back table lines rest h.1 f c in
    ap (λ l. l ∷ certs_in table ((labels_said cert.labels ++ certs_said lines) ++ rest)) first ∙ ap (λ ls. line.Cert cert ∷ ls) others
certs_back table (line.Refused region refusal ∷ lines) rest h f c =
    ap (λ ls. line.Refused region refusal ∷ ls) (certs_back table lines rest h.1 f c)

certs_out : (lines : List CertLine) (rest : List Saying) → left_out rest ≡ 0 → left_out (certs_said lines ++ rest) ≡ 0
unfolding certs_said region_said
certs_out [] rest h = h
certs_out (line.Cert cert ∷ lines) rest h =
    ap left_out (append_assoc (labels_said cert.labels) (certs_said lines) rest)
    ∙ labels_out cert.labels (certs_said lines ++ rest) ∙ certs_out lines rest h
certs_out (line.Refused region refusal ∷ lines) rest h = certs_out lines rest h

certs_skip : (core : ℕ) (lines : List CertLine) (rest : List Saying) → of_core core (certs_said lines ++ rest) ≡ of_core core rest
unfolding certs_said region_said
certs_skip core [] rest = refl
certs_skip core (line.Cert cert ∷ lines) rest =
    ap (of_core core) (append_assoc (labels_said cert.labels) (certs_said lines) rest)
    ∙ labels_skip core cert.labels (certs_said lines ++ rest) ∙ certs_skip core lines rest
certs_skip core (line.Refused region refusal ∷ lines) rest = certs_skip core lines rest

certs_alone : (table : Table) (lines : List CertLine) → AllByRecursion (IsLine table) lines → certs_in table (certs_said lines) ≡ lines
certs_alone table lines h =
    ap (certs_in table) (sym (append-nil (certs_said lines))) ∙ certs_back table lines [] h refl refl

out_alone : (lines : List CertLine) → left_out (certs_said lines) ≡ 0
out_alone lines = ap left_out (sym (append-nil (certs_said lines))) ∙ certs_out lines [] refl

said_printed : (table : Table) (core : ℕ) (zeros one : List CertLine) (file : CertFile) → core < 2 → AllByRecursion (IsLine table) zeros
    → AllByRecursion (IsLine table) one → IsSaidOf (Second table) (file_said zeros one) core file
    → IsPrinted table (lines_of_core core zeros one) file
said_printed table zero zeros one file small z o h = record {
  table = h.table;
  lines = h.lines ∙ certs_back table zeros (Core 1 ∷ certs_said one) z refl refl;
  left_out = h.left_out ∙ certs_out zeros (Core 1 ∷ certs_said one) refl;
}
said_printed table (suc zero) zeros one file small z o h =
    let skip : of_core 1 (certs_said zeros ++ Core 1 ∷ certs_said one) ≡ certs_said one =
    certs_skip 1 zeros (Core 1 ∷ certs_said one) in record {
      table = h.table;
      lines = h.lines ∙ ap (certs_in table) skip ∙ certs_alone table one o;
      left_out = h.left_out ∙ ap left_out skip ∙ out_alone one;
    }
said_printed table (suc (suc k)) zeros one file small z o h = absurd (omega (arith, small))

gives_map : (P Q : CertFile → Type 0) (r : Result CertFile CertsFault) → ((file : CertFile) → P file → Q file) → Gives P r → Gives Q r
gives_map P Q (Ok file) f g = f file g
gives_map P Q (Err (Line number)) f g = g
gives_map P Q (Err Memory) f g = tt

-- what is printed is read again
pub printed_gives : (text : List ℕ) (core : ℕ) (r : Result CertFile CertsFault) → core < 2
    → ((edition : Edition) (said : List Saying) → IsFile text edition said → Gives (IsSaidOf edition said core) r)
    → (table : Table) (zeros one : List CertLine) → AreCerts table zeros → AreCerts table one → text ≡ certs_text table zeros one
    → Gives (IsPrinted table (lines_of_core core zeros one)) r
printed_gives text core r small only table zeros one z o is =
    gives_map (IsSaidOf (Second table) (file_said zeros one) core) (IsPrinted table (lines_of_core core zeros one)) r
    (λ file h. said_printed table core zeros one file small z.each o.each h)
    (only (Second table) (file_said zeros one)
    (subst (λ t. IsFile t (Second table) (file_said zeros one)) (sym is) (printed_file table zeros one z o)))
