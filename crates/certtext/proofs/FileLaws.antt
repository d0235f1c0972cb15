-- What the lines of a text say of it as a certificate file.
use Rattle.std.proofs.Common.{◌≡◌, ℕ, suc, ◌+◌, Bool, false, List, [], ◌∷◌, ◌++◌, length, map}
use Rattle.std.proofs.Common.{Option, Some, None, Result, Ok, Err, refl, sym, ap, ◌∙◌, arith, subst, append_assoc}
use Rattle.std.specs.Prelude.{IfOk, IfErr, IsTrue}
use Rattle.std.specs.List.{AllByRecursion}
use Rattle.std.proofs.lemmas.List.{append-nil, length-append}
use Rattle.textline.specs.Lines.{Lacks, text_of}
use Rattle.textline.proofs.Printed.{cut_once}
use Rattle.certtext.specs.declared.edition.Edition.{Edition}
use Rattle.certtext.specs.declared.edition.Edition.TheVariants.{First}
use Rattle.certtext.specs.declared.fault.CertsFault.{CertsFault}
use Rattle.certtext.specs.declared.fault.CertsFault.TheVariants.{Line, Memory}
use Rattle.certtext.specs.declared.order.Place.{Place}
use Rattle.certtext.specs.declared.read.CertFile.{CertFile}
use Rattle.certtext.specs.declared.saying.Saying.{Saying}
use Rattle.certtext.specs.Texts.{edition_text, saying_text, Fits}
use Rattle.certtext.specs.Order.{start, MayCome, next, InOrder, place_behind}
use Rattle.certtext.specs.Files.{file_lines, IsFile, IsFirstBad, IsFaultOf}
use Rattle.certtext.specs.Reading.{IsSoFar, IsRest, FailsAt, Fails, LacksEdition, FailsFirst}
use Rattle.certtext.specs.Certs.{IsSaidOf, AreRead, Gives}
use Rattle.certtext.proofs.FieldLaws.{text_lacks, one_saying, one_edition, edition_lacks}
use Rattle.certtext.proofs.OrderLaws.{order_push, order_append, order_at, place_push, place_append, goes_on, first_on}

-- ---- texts cut at line ends

no_cut : (byte : ℕ) (front behind : List ℕ) → Lacks byte (front ++ byte ∷ behind) → ⊥
no_cut byte [] behind l = l.0 refl
no_cut byte (c ∷ front) behind l = no_cut byte front behind l.1

no_empty : (front behind : List ℕ) → [] ≡ front ++ 10 ∷ behind → ⊥
no_empty front behind e = omega (arith, ap length e, length-append front (10 ∷ behind))

-- a line and what is behind it
line_front : (l behind : List ℕ) → (l ++ 10 ∷ []) ++ behind ≡ l ++ 10 ∷ behind
line_front l behind = append_assoc l (10 ∷ []) behind

text_of-append : (front behind : List (List ℕ)) → text_of (front ++ behind) ≡ text_of front ++ text_of behind
text_of-append [] behind = refl
text_of-append (l ∷ front) behind = ap (λ t. (l ++ 10 ∷ []) ++ t) (text_of-append front behind)
    ∙ sym (append_assoc (l ++ 10 ∷ []) (text_of front) (text_of behind))

-- lines at the front of the text of lines
split_lines : (before lines : List (List ℕ)) (rest : List ℕ) → AllByRecursion (Lacks 10) before → AllByRecursion (Lacks 10) lines
    → text_of before ++ rest ≡ text_of lines → (more : List (List ℕ)) × (before ++ more ≡ lines) × (rest ≡ text_of more)
split_lines [] lines rest b l e = (lines, refl, e)
split_lines (x ∷ before) [] rest b l e = absurd (no_empty x (text_of before ++ rest)
    (sym e ∙ append_assoc (x ++ 10 ∷ []) (text_of before) rest ∙ line_front x (text_of before ++ rest)))
split_lines (x ∷ before) (y ∷ lines) rest b l e =
    let cut = cut_once 10 x y (text_of before ++ rest) (text_of lines) b.0 l.0
    (sym (append_assoc (x ++ 10 ∷ []) (text_of before) rest ∙ line_front x (text_of before ++ rest)) ∙ e
    ∙ line_front y (text_of lines)) in
    let others = split_lines before lines rest b.1 l.1 cut.1 in
    (others.0, (let h = others.1 in let g : x ≡ y = cut.0 in cc), others.2)

lines_once : (lines others : List (List ℕ)) → AllByRecursion (Lacks 10) lines → AllByRecursion (Lacks 10) others
    → text_of lines ≡ text_of others → lines ≡ others
lines_once lines others l o e =
    let split = split_lines lines others [] l o (append-nil (text_of lines) ∙ e) in
    by split.0 split.1 split.2
  where
    by : (more : List (List ℕ)) → lines ++ more ≡ others → [] ≡ text_of more → lines ≡ others
    by [] same left = sym (append-nil lines) ∙ same
    by (x ∷ more) same left = absurd (no_empty x (text_of more) (left ∙ line_front x (text_of more)))

all_front : (P : List ℕ → Type 0) (front behind : List (List ℕ)) → AllByRecursion P (front ++ behind) → AllByRecursion P front
all_front P [] behind all = tt
all_front P (l ∷ front) behind all = (all.0, all_front P front behind all.1)

all_behind : (P : List ℕ → Type 0) (front behind : List (List ℕ)) → AllByRecursion P (front ++ behind) → AllByRecursion P behind
all_behind P [] behind all = all
all_behind P (l ∷ front) behind all = all_behind P front behind all.1

-- ---- lines that say something

pub all_append : (P : Saying → Type 0) (said rest : List Saying) → AllByRecursion P said → AllByRecursion P rest
    → AllByRecursion P (said ++ rest)
all_append P [] rest s r = r
all_append P (t ∷ said) rest s r = (s.0, all_append P said rest s.1 r)

pub map_append : (edition : Edition) (said rest : List Saying)
    → map (saying_text edition) (said ++ rest) ≡ map (saying_text edition) said ++ map (saying_text edition) rest
map_append edition [] rest = refl
map_append edition (s ∷ said) rest = ap (λ ls. saying_text edition s ∷ ls) (map_append edition said rest)

length_map : (edition : Edition) (said : List Saying) → length (map (saying_text edition) said) ≡ length said
length_map edition [] = refl
length_map edition (s ∷ said) = ap suc (length_map edition said)

said_lack : (edition : Edition) (said : List Saying) → AllByRecursion (Fits edition) said
    → AllByRecursion (Lacks 10) (map (saying_text edition) said)
said_lack edition [] all = tt
said_lack edition (s ∷ said) all = (text_lacks edition s all.0, said_lack edition said all.1)

file_lack : (edition : Edition) (said : List Saying) → AllByRecursion (Fits edition) said
    → AllByRecursion (Lacks 10) (file_lines edition said)
file_lack edition said all = (edition_lacks edition, said_lack edition said all)

same_said : (edition : Edition) (said other : List Saying) → AllByRecursion (Fits edition) said → AllByRecursion (Fits edition) other
    → map (saying_text edition) said ≡ map (saying_text edition) other → said ≡ other
same_said edition [] [] a b e = refl
same_said edition [] (o ∷ other) a b e = absurd (cc)
same_said edition (s ∷ said) [] a b e = absurd (cc)
same_said edition (s ∷ said) (o ∷ other) a b e =
    let first = one_saying edition s o a.0 b.0 (cc) in
    let others = same_said edition said other a.1 b.1 (cc) in
    cc

-- a line behind some of the lines
pub record IsNext (edition : Edition) (said other : List Saying) (l : List ℕ) : Type 0 where
  pub s : Saying
  pub rest : List Saying
  pub same : other ≡ said ++ s ∷ rest
  pub fits : Fits edition s
  pub text : l ≡ saying_text edition s

split_said : (edition : Edition) (said other : List Saying) (l : List ℕ) (more : List (List ℕ)) → AllByRecursion (Fits edition) said
    → AllByRecursion (Fits edition) other → map (saying_text edition) said ++ l ∷ more ≡ map (saying_text edition) other
    → IsNext edition said other l
split_said edition [] [] l more a b e = absurd (cc)
split_said edition [] (o ∷ other) l more a b e = record { s = o; rest = other; same = refl; fits = b.0; text = cc }
split_said edition (t ∷ said) [] l more a b e = absurd (cc)
split_said edition (t ∷ said) (o ∷ other) l more a b e =
    let first = one_saying edition t o a.0 b.0 (cc) in
    let n = split_said edition said other l more a.1 b.1 (cc) in
    record { s = n.s; rest = n.rest; same = (let h = n.same in cc); fits = n.fits; text = n.text }

-- ---- the lines so far

pub so_far_first : (edition : Edition) (text : List ℕ) (number : ℕ) (said : List Saying) → said ≡ []
    → IsSoFar edition text number said text number
so_far_first edition text number said none = subst (λ (ss : List Saying). IsSoFar edition text number ss text number) (sym none)
    (record { fits = tt; order = tt; same = refl; count = omega arith })

pub so_far_more : (edition : Edition) (text : List ℕ) (number : ℕ) (said : List Saying) (left : List ℕ) (at : ℕ) (l behind : List ℕ)
    (after : ℕ) (s : Saying) (place : Place)
    → IsSoFar edition text number said left at → left ≡ l ++ 10 ∷ behind → after ≡ at + 1 → Fits edition s
    → l ≡ saying_text edition s → place ≡ place_behind start said → MayCome place s
    → (more : List Saying) → more ≡ said ++ s ∷ [] → IsSoFar edition text number more behind after
so_far_more edition text number said left at l behind after s place h cut counts fits is here may more pushed =
    subst (λ (ss : List Saying). IsSoFar edition text number ss behind after) (sym pushed) (record {
      fits = all_append (Fits edition) said (s ∷ []) h.fits (fits, tt);
      order = order_push start said s h.order (subst (λ (p : Place). MayCome p s) here may);
      same = h.same ∙ ap (λ t. text_of lines ++ t) (cut ∙ ap (λ t. t ++ 10 ∷ behind) is ∙ sym (line_front (saying_text edition s) behind))
          ∙ sym (append_assoc (text_of lines) (saying_text edition s ++ 10 ∷ []) behind)
          ∙ ap (λ t. (text_of lines ++ t) ++ behind) (sym (append-nil (saying_text edition s ++ 10 ∷ [])))
          ∙ ap (λ t. t ++ behind) (sym (text_of-append lines (saying_text edition s ∷ [])))
          ∙ ap (λ ls. text_of ls ++ behind) (sym (map_append edition said (s ∷ [])));
      count = omega (arith, counts, h.count, length-append said (s ∷ []));
    })
  where
    lines : List (List ℕ)
    lines = map (saying_text edition) said

pub place_more : (said : List Saying) (s : Saying) (place then : Place) → place ≡ place_behind start said → then ≡ next place s
    → (more : List Saying) → more ≡ said ++ s ∷ [] → then ≡ place_behind start more
place_more said s place then here is more pushed =
    is ∙ ap (λ (p : Place). next p s) here ∙ sym (place_push start said s) ∙ ap (place_behind start) (sym pushed)

pub rest_whole : (edition : Edition) (text : List ℕ) (number : ℕ) (said : List Saying) (left : List ℕ) (at : ℕ) (place : Place)
    → IsSoFar edition text number said left at → place ≡ place_behind start said → place.core ≡ Some 1 → left ≡ []
    → IsRest edition text said
rest_whole edition text number said left at place h here last none = record {
  fits = h.fits;
  order = h.order;
  whole = sym (ap (λ (p : Place). p.core) here) ∙ last;
  same = h.same ∙ ap (λ t. text_of (map (saying_text edition) said) ++ t) none ∙ append-nil (text_of (map (saying_text edition) said));
}

-- no line with its end is left
pub fails_at_end : (edition : Edition) (text : List ℕ) (number : ℕ) (said : List Saying) (left : List ℕ) (at : ℕ) (place : Place)
    → IsSoFar edition text number said left at → place ≡ place_behind start said → Lacks 10 left
    → ((place.core ≡ Some 1) × (left ≡ []) → ⊥) → FailsAt edition text number at
fails_at_end edition text number said left at place h here lacks open_end = record {
  said = said;
  left = left;
  so_far = h;
  next = λ s behind fits may is. no_cut 10 (saying_text edition s) behind (subst (Lacks 10) is lacks);
  end = λ none last. open_end (ap (λ (p : Place). p.core) here ∙ last, none);
}

-- a line that says nothing that may come next
pub fails_at_line : (edition : Edition) (text : List ℕ) (number : ℕ) (said : List Saying) (left : List ℕ) (at : ℕ) (place : Place)
    (l rest : List ℕ) (o : Option Saying)
    → IsSoFar edition text number said left at → place ≡ place_behind start said → Lacks 10 l → left ≡ l ++ 10 ∷ rest → o ≡ None
    → ((s : Saying) → Fits edition s → l ≡ saying_text edition s → MayCome place s → o ≡ Some s) → FailsAt edition text number at
fails_at_line edition text number said left at place l rest o h here lacks cut none only = record {
  said = said;
  left = left;
  so_far = h;
  next = λ s behind fits may is.
      let same = cut_once 10 l (saying_text edition s) rest behind lacks (text_lacks edition s fits) (sym cut ∙ is) in
      let told = only s fits same.0 (subst (λ (p : Place). MayCome p s) (sym here) may) in
      absurd (cc);
  end = λ e last. no_empty l rest (sym e ∙ cut);
}

-- ---- the first line

pub no_first_line : (text : List ℕ) → Lacks 10 text → LacksEdition text
no_first_line text lacks edition behind is = no_cut 10 (edition_text edition) behind (subst (Lacks 10) is lacks)

pub other_first_line : (text l rest : List ℕ) → Lacks 10 l → text ≡ l ++ 10 ∷ rest → ((edition : Edition) → l ≡ edition_text edition → ⊥)
    → LacksEdition text
other_first_line text l rest lacks cut other edition behind is =
    other edition (cut_once 10 l (edition_text edition) rest behind lacks (edition_lacks edition) (sym cut ∙ is)).0

-- ---- the first bad line

first_bad : (text : List ℕ) (at : ℕ) → at ≡ 1 → LacksEdition text → IsFirstBad text at
first_bad text at place none =
    let on = first_on First start refl in record {
      before = [];
      rest = text;
      same = refl;
      place = place;
      front = record {
        more = file_lines First on.rest;
        file = record {
          edition = First;
          said = on.rest;
          are = record { fits = on.fits; order = on.order; whole = on.whole };
          same = refl;
        };
      };
      next = λ l behind lacks is f.
          let same = f.file.same in
          let first : l ≡ edition_text f.file.edition = cc in
          none f.file.edition behind (is ∙ ap (λ t. t ++ 10 ∷ behind) first);
      end = λ e f. let wrong = f.same in absurd (cc);
    }

-- the front of a file
front_text : (first : List ℕ) (lines : List (List ℕ)) (left : List ℕ) → first ++ 10 ∷ (text_of lines ++ left) ≡ text_of (first ∷ lines) ++
    left
front_text first lines left =
    sym (line_front first (text_of lines ++ left)) ∙ sym (append_assoc (first ++ 10 ∷ []) (text_of lines) left)

-- lines that are said in one file are said in the other
told_again : (edition other : Edition) (said told : List Saying) → AllByRecursion (Fits edition) said → AllByRecursion (Fits other) told
    → file_lines edition said ≡ file_lines other told → (edition ≡ other) × (said ≡ told)
told_again edition other said told a b e =
    let first = one_edition edition other (cc) in (
      first,
      same_said edition said told a (subst (λ (x : Edition). AllByRecursion (Fits x) told) (sym first) b)
          ((let h : map (saying_text edition) said ≡ map (saying_text other) told = cc in h)
          ∙ ap (λ x. map (saying_text x) told) (sym first)),
    )

said_next : (edition other : Edition) (said told : List Saying) (l : List ℕ) (more : List (List ℕ)) → AllByRecursion (Fits edition) said
    → AllByRecursion (Fits other) told → file_lines edition said ++ l ∷ more ≡ file_lines other told → IsNext edition said told l
said_next edition other said told l more a b e =
    let first = one_edition edition other (cc) in
    split_said edition said told l more a (subst (λ (x : Edition). AllByRecursion (Fits x) told) (sym first) b)
    ((let h : map (saying_text edition) said ++ l ∷ more ≡ map (saying_text other) told = cc in h)
    ∙ ap (λ x. map (saying_text x) told) (sym first))

rest_bad : (text rest : List ℕ) (edition : Edition) (at : ℕ) → text ≡ edition_text edition ++ 10 ∷ rest → FailsAt edition rest 2 at
    → IsFirstBad text at
rest_bad text rest edition at cut h =
    let said : List Saying = h.said in
    let on = goes_on edition start said h.so_far.order refl in record {
      before = file_lines edition said;
      rest = h.left;
      same = cut ∙ ap (λ t. edition_text edition ++ 10 ∷ t) h.so_far.same
          ∙ front_text (edition_text edition) (map (saying_text edition) said) h.left;
      place = omega (arith, h.so_far.count, length_map edition said);
      front = record {
        more = map (saying_text edition) on.rest;
        file = record {
          edition = edition;
          said = said ++ on.rest;
          are = record {
            fits = all_append (Fits edition) said on.rest h.so_far.fits on.fits;
            order = order_append start said on.rest h.so_far.order on.order;
            whole = ap (λ (p : Place). p.core) (place_append start said on.rest) ∙ on.whole;
          };
          same = ap (λ ls. edition_text edition ∷ ls) (sym (map_append edition said on.rest));
        };
      };
      next = λ l behind lacks is f.
          let n = said_next edition f.file.edition said f.file.said l f.more h.so_far.fits f.file.are.fits
          (sym (append_assoc (file_lines edition said) (l ∷ []) f.more) ∙ f.file.same) in
          h.next n.s behind n.fits
          (order_at start said n.s n.rest (subst (InOrder start) n.same f.file.are.order))
          (is ∙ ap (λ t. t ++ 10 ∷ behind) n.text);
      end = λ e f.
          let same = told_again edition f.edition said f.said h.so_far.fits f.are.fits f.same in
          h.end e (ap (λ (ss : List Saying). (place_behind start ss).core) same.1 ∙ f.are.whole);
    }

pub first_fault : (bytes text : List ℕ) (n : ℕ) (e : CertsFault) → text ≡ bytes → n ≡ 1 → FailsFirst text n e → IsFaultOf bytes e
first_fault bytes text n (Line at) same one h =
    first_bad bytes at (omega (arith, h.0, one)) (λ edition behind is. h.1 edition behind (same ∙ is))
first_fault bytes text n Memory same one h = absurd h

pub rest_fault : (bytes text rest : List ℕ) (edition : Edition) (n m : ℕ) (e : CertsFault) → text ≡ bytes → n ≡ 1
    → text ≡ edition_text edition ++ 10 ∷ rest → m ≡ n + 1 → Fails edition rest m e → IsFaultOf bytes e
rest_fault bytes text rest edition n m (Line at) same one cut counts h =
    let second : m ≡ 2 = omega arith in
    rest_bad bytes rest edition at (sym same ∙ cut) (subst (λ (k : ℕ). FailsAt edition rest k at) second h)
rest_fault bytes text rest edition n m Memory same one cut counts h = tt

-- ---- whole files

pub whole_file : (bytes text rest : List ℕ) (edition : Edition) (said : List Saying) → text ≡ bytes
    → text ≡ edition_text edition ++ 10 ∷ rest → IsRest edition rest said → IsFile bytes edition said
whole_file bytes text rest edition said same cut h = record {
  are = record { fits = h.fits; order = h.order; whole = h.whole };
  same = sym same ∙ cut ∙ ap (λ t. edition_text edition ++ 10 ∷ t) h.same
      ∙ sym (line_front (edition_text edition) (text_of (map (saying_text edition) said)));
}

-- a file has no bad line
good_file : (text : List ℕ) (edition : Edition) (said : List Saying) (number : ℕ) → IsFile text edition said → IsFirstBad text number → ⊥
good_file text edition said number f bad =
    let lines = file_lack edition said f.are.fits in
    let file = bad.front.file in
    let lacks = all_front (Lacks 10) bad.before bad.front.more (subst (AllByRecursion (Lacks 10)) (sym file.same)
    (file_lack file.edition file.said file.are.fits)) in
    let split = split_lines bad.before (file_lines edition said) bad.rest lacks lines (sym bad.same ∙ f.same) in
    by split.0 split.1 split.2
  where
    by : (more : List (List ℕ)) → bad.before ++ more ≡ file_lines edition said → bad.rest ≡ text_of more → ⊥
    by [] same left = bad.end left
        (record { edition = edition; said = said; are = f.are; same = sym (append-nil bad.before) ∙ same })
    by (l ∷ more) same left = bad.next l (text_of more) ((all_behind (Lacks 10) bad.before (l ∷ more)
        (subst (AllByRecursion (Lacks 10)) (sym same) (file_lack edition said f.are.fits))).0)
        (left ∙ line_front l (text_of more))
        (record {
          more = more;
          file = record { edition = edition; said = said; are = f.are; same = append_assoc bad.before (l ∷ []) more ∙ same };
        })

-- a text is one file
one_file : (text : List ℕ) (edition other : Edition) (said told : List Saying) → IsFile text edition said → IsFile text other told
    → (edition ≡ other) × (said ≡ told)
one_file text edition other said told f g =
    told_again edition other said told f.are.fits g.are.fits
    (lines_once (file_lines edition said) (file_lines other told) (file_lack edition said f.are.fits) (file_lack other told g.are.fits)
    (sym f.same ∙ g.same))

-- a file is read
pub file_gives : (text : List ℕ) (core : ℕ) (r : Result CertFile CertsFault) → IfOk r (AreRead text core) → IfErr r (IsFaultOf text)
    → (edition : Edition) (said : List Saying) → IsFile text edition said → Gives (IsSaidOf edition said core) r
file_gives text core (Ok file) found fault edition said f =
    let same = one_file text found.edition edition found.said said found.is f in
    subst (λ (ss : List Saying). IsSaidOf edition ss core file) same.1
    (subst (λ (x : Edition). IsSaidOf x found.said core file) same.0 found.says)
file_gives text core (Err (Line number)) found fault edition said f = good_file text edition said number f fault
file_gives text core (Err Memory) found fault edition said f = tt

-- a line that names no edition
pub nothing_named : (o : Option Edition) (l : List ℕ) → o ≡ None → ((edition : Edition) → l ≡ edition_text edition → o ≡ Some edition)
    → (edition : Edition) → l ≡ edition_text edition → ⊥
nothing_named o l none only edition is = let h = only edition is in cc

pub untrue : {P : Type 0} (b : Bool) → b ≡ false → (P → IsTrue b) → P → ⊥
untrue b is yields p = let h = yields p in cc
