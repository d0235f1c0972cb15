-- Each source has one verdict: it writes, it breaks a rule, or it isn't built.
use Rattle.std.proofs.Common.{◌≡◌, ◌⊎◌, inl, inr, ℕ, ◌+◌, ◌≤◌, Bool, true, false, List, [], ◌∷◌, length}
use Rattle.std.proofs.Common.{Option, Some, None, refl, sym, ap, subst, ◌∙◌, arith}
use Rattle.std.specs.Prelude.{◌&&◌, nat_lt, if◌then◌else◌, is_some}
use Rattle.std.specs.Global.{Box}
use Rattle.std.specs.List.{AllByRecursion}
use Rattle.std.proofs.lemmas.Bool.{ltb-true}
use Rattle.csyn.specs.declared.token.Token.{Token}
use Rattle.csyn.specs.declared.span.Span.{Span}
use Rattle.csyn.specs.declared.cause.Cause.{Cause}
use Rattle.csyn.specs.declared.statement.Items as items
use Rattle.csyn.specs.declared.unit.Unit as unit
use Rattle.csyn.specs.declared.unit.UnitKind.{UnitKind}
use Rattle.csyn.specs.declared.unit.UnitKind.TheVariants as kind
use Rattle.csyn.specs.declared.unit.Units as units
use Rattle.csyn.specs.Tree.{Contents}
use Rattle.clex.specs.Text as text
use Rattle.cpre.specs.Expansion as expansion
use Rattle.cpre.specs.Line as line
use Rattle.creader.specs.Source.{EndsOnce}
use Rattle.cparse.specs.Parsed as parsed
use Rattle.prucc.specs.Form.{IsLoadable, write_of, halts, is_end, is_main, IsMain, IsMainAlone, BodyWrites}
use Rattle.prucc.specs.Form.{IsProgram, body_departure, unit_departure, units_departure, departure}
use Rattle.prucc.specs.Source.{IsExpandedTo, IsTreeOf, Writes, IsSourceFault, InTokens, InExpansion, InGrammar, IsUnbuilt}
use Rattle.prucc.proofs.BareForm.{same-program, same-departure}
use Rattle.prucc.proofs.Tokens.{written_ends, ends_once}
use Rattle.prucc.proofs.TreeForm.{write_is, same_program, program_stays}

-- ---- a tree that departs nowhere writes

record IsWritten (written : ℕ) (body : items.Items) : Type 0 where
  numbers : List ℕ
  writes : BodyWrites body numbers
  count : written + length numbers ≤ 2047
  each : AllByRecursion IsLoadable numbers

abbrev IsWrite : Option ℕ → Bool → Option Span → Type 0
IsWrite w room next = (k : ℕ) × (w ≡ Some k) × (room ≡ true) × (next ≡ None)

-- an item at which the body doesn't depart is a write, or the halt at its end
by-item : (w : Option ℕ) (room halt last : Bool) (next : Option Span) (span : Span)
    → (if is_some w && room then next else (if halt && last then None else Some span)) ≡ None
    → IsWrite w room next ⊎ ((halt ≡ true) × (last ≡ true))
by-item (Some k) true halt last next span e = inl (k, refl, refl, e)
by-item (Some k) false true true next span e = inr (refl, refl)
by-item (Some k) false true false next span e = absurd cc
by-item (Some k) false false last next span e = absurd cc
by-item None room true true next span e = inr (refl, refl)
by-item None room true false next span e = absurd cc
by-item None room false last next span e = absurd cc

body-written : (end : Span) (written : ℕ) (body : items.Items) → written ≤ 2047 → body_departure end written body ≡ None
    → IsWritten written body
unfolding body_departure BodyWrites
body-written end written items.End few e = absurd cc
body-written end written (items.Object' _ _ _) few e = absurd cc
body-written end written (items.Statement' _ m s _ rest) few e =
    elim (by-item (write_of s) (nat_lt written 2047) (halts s) (is_end rest) (body_departure end (written + 1) rest) m.span e) [
      | inl write ↦
          let less = ltb-true written 2047 write.2 in
          let others = body-written end (written + 1) rest (omega (arith, less)) write.3 in
          record {
            numbers = write.0 ∷ others.numbers;
            writes = (write.1, others.writes);
            count = (let c = others.count in omega (arith, c));
            each = (write_is s write.0 write.1, others.each);
          }
      | inr halt ↦ record { numbers = []; writes = halt; count = omega (arith, few); each = tt }
    ]

kind-written : (end begin : Span) (k : UnitKind) → unit_departure end begin k units.End ≡ None
    → (body : items.Items) × IsMain k body × (body_departure end 0 body ≡ None)
kind-written end begin (kind.Function head body) e = by (is_main head) refl e
  where
    by : (b : Bool) → is_main head ≡ b → (if b then body_departure end 0 body else Some begin) ≡ None
        → (inner : items.Items) × IsMain (kind.Function head body) inner × (body_departure end 0 inner ≡ None)
    by true is f = (body, (is, refl), f)
    by false is f = absurd cc
kind-written end begin (kind.Struct _ _) e = absurd cc
kind-written end begin kind.Register e = absurd cc
kind-written end begin (kind.Object _) e = absurd cc
kind-written end begin (kind.Prototype _) e = absurd cc

-- a second unit is a place to depart at, and so is a first one that isn't `void main(void)`
departs-twice : (b : Bool) (begin second : Span) → (if b then Some second else Some begin) ≡ None → ⊥
departs-twice true begin second e = cc
departs-twice false begin second e = cc

second-departs : (end begin : Span) (k : UnitKind) (v : Box unit.Unit) (q : Box (Unit {0})) (rest : units.Units)
    → unit_departure end begin k (units.More' v q rest) ≡ None → ⊥
second-departs end begin (kind.Function head body) v q rest e = departs-twice (is_main head) begin v.value.mark.span e
second-departs end begin (kind.Struct _ _) v q rest e = cc
second-departs end begin kind.Register v q rest e = cc
second-departs end begin (kind.Object _) v q rest e = cc
second-departs end begin (kind.Prototype _) v q rest e = cc

alone : (end : Span) (all : units.Units) → units_departure end all ≡ None
    → (body : items.Items) × IsMainAlone all body × (body_departure end 0 body ≡ None)
unfolding IsMainAlone units_departure
alone end units.End e = absurd cc
alone end (units.More' u _ units.End) e = kind-written end u.value.mark.span u.value.kind e
alone end (units.More' u _ (units.More' v q rest)) e = absurd (second-departs end u.value.mark.span u.value.kind v q rest e)

program-written : (tree : Contents) → departure tree ≡ None → (ks : List ℕ) × IsProgram tree.units ks
program-written tree e =
    let main = alone tree.end tree.units e in
    let written = body-written tree.end 0 main.0 (omega arith) main.2 in (
      written.numbers,
      record {
        body = main.0;
        main = main.1;
        writes = written.writes;
        are_writes = record { count = (let c = written.count in omega (arith, c)); each = written.each };
      },
    )

-- ---- the verdict

abbrev Broken : List ℕ → Type 0
Broken source = (span : Span) × (cause : Cause) × IsSourceFault source span cause

abbrev Unbuilt : List ℕ → Type 0
Unbuilt source = (span : Span) × IsUnbuilt source span

abbrev Verdict : List ℕ → Type 0
Verdict source = ((ks : List ℕ) × Writes source ks) ⊎ (Broken source ⊎ Unbuilt source)

by-form : (source : List ℕ) (tree : Contents) → IsTreeOf tree source → (o : Option Span) → departure tree ≡ o → Verdict source
by-form source tree of-source (Some span) e = inr (inr (span, record { tree = tree; of_source = of-source; departs = e }))
by-form source tree of-source None e =
    let program = program-written tree e in
    inl (program.0, record { tree = tree; of_source = of-source; program = program.1 })

by-grammar : (source : List ℕ) (tokens : List Token) → IsExpandedTo source tokens
    → ((tree : Contents) × parsed.Yields tree tokens) ⊎ ((span : Span) × (cause : Cause) × parsed.IsFault tokens span cause)
    → Verdict source
by-grammar source tokens expanded (inl read) =
    by-form source read.0 (record { tokens = tokens; expanded = expanded; yields = read.1 }) (departure read.0) refl
by-grammar source tokens expanded (inr fault) = inr (inl (fault.0, fault.1, InGrammar tokens expanded fault.2))

module _
    (expansion_or_fault : (written : List Token)
    → ((out : List Token) × expansion.Expands written out) ⊎ ((span : Span) × (cause : Cause) × expansion.IsFault written span cause))
    (expansion_ends : (written out : List Token) → expansion.Expands written out → line.EndsOnce written → line.EndsOnce out)
    (tree_or_fault : (tokens : List Token) → EndsOnce tokens
    → ((tree : Contents) × parsed.Yields tree tokens) ⊎ ((span : Span) × (cause : Cause) × parsed.IsFault tokens span cause)) where
  by-expansion : (source : List ℕ) (written : List Token) → text.Spells written source
      → ((out : List Token) × expansion.Expands written out) ⊎ ((span : Span) × (cause : Cause) × expansion.IsFault written span cause)
      → Verdict source
  by-expansion source written spelled (inl out) =
      by-grammar source out.0 (record { written = written; spelled = spelled; expands = out.1 })
      (tree_or_fault out.0 (ends_once out.0 (expansion_ends written out.0 out.1 (written_ends written source spelled))))
  by-expansion source written spelled (inr fault) = inr (inl (fault.0, fault.1, InExpansion written spelled fault.2))

  pub verdict : (source : List ℕ)
      → ((tokens : List Token) × text.Spells tokens source) ⊎ ((span : Span) × (cause : Cause) × text.IsFault source span cause)
      → Verdict source
  verdict source (inl read) = by-expansion source read.0 read.1 (expansion_or_fault read.0)
  verdict source (inr fault) = inr (inl (fault.0, fault.1, InTokens fault.2))

-- ---- one of them only

-- what is known of each of the three readings: one result, one fault, and not both
abbrev OneList : Type 0
OneList = (bytes : List ℕ) (ts us : List Token) → text.Spells ts bytes → text.Spells us bytes → ts ≡ us

abbrev OneFault : Type 0
OneFault = (bytes : List ℕ) (s t : Span) (c d : Cause) → text.IsFault bytes s c → text.IsFault bytes t d → (s ≡ t) × (c ≡ d)

abbrev NoList : Type 0
NoList = (bytes : List ℕ) (ts : List Token) (s : Span) (c : Cause) → text.Spells ts bytes → text.IsFault bytes s c → ⊥

abbrev OneExpansion : Type 0
OneExpansion = (ts us vs : List Token) → expansion.Expands ts us → expansion.Expands ts vs → us ≡ vs

abbrev OneMisuse : Type 0
OneMisuse = (ts : List Token) (s t : Span) (c d : Cause) → expansion.IsFault ts s c → expansion.IsFault ts t d → (s ≡ t) × (c ≡ d)

abbrev NoExpansion : Type 0
NoExpansion = (ts us : List Token) (s : Span) (c : Cause) → expansion.Expands ts us → expansion.IsFault ts s c → ⊥

abbrev OneTree : Type 0
OneTree = (ts : List Token) (a b : Contents) → parsed.Yields a ts → parsed.Yields b ts → parsed.Same a b

abbrev OneBreak : Type 0
OneBreak = (ts : List Token) (s t : Span) (c d : Cause) → parsed.IsFault ts s c → parsed.IsFault ts t d → (s ≡ t) × (c ≡ d)

abbrev NoTree : Type 0
NoTree = (ts : List Token) (tree : Contents) (s : Span) (c : Cause) → parsed.IsFault ts s c → parsed.Yields tree ts → ⊥

pub record IsOnce (source : List ℕ) : Type 0 where
  pub one_list : (ts us : List Token) → text.Spells ts source → text.Spells us source → ts ≡ us
  pub one_fault : (s t : Span) (c d : Cause) → text.IsFault source s c → text.IsFault source t d → (s ≡ t) × (c ≡ d)
  pub no_list : (ts : List Token) (s : Span) (c : Cause) → text.Spells ts source → text.IsFault source s c → ⊥
  pub one_expansion : OneExpansion
  pub one_misuse : OneMisuse
  pub no_expansion : NoExpansion
  pub one_tree : OneTree
  pub one_break : OneBreak
  pub no_tree : NoTree

pub once : (source : List ℕ) → OneList → OneFault → NoList → OneExpansion → OneMisuse → NoExpansion → OneTree → OneBreak → NoTree
    → IsOnce source
once source a b c d e f g h i =
    record {
      one_list = a source;
      one_fault = b source;
      no_list = c source;
      one_expansion = d;
      one_misuse = e;
      no_expansion = f;
      one_tree = g;
      one_break = h;
      no_tree = i;
    }

module _ (source : List ℕ) (only : IsOnce source) where
  same-tokens : (ts us : List Token) → IsExpandedTo source ts → IsExpandedTo source us → ts ≡ us
  same-tokens ts us first second =
      let written = only.one_list first.written second.written first.spelled second.spelled in
      only.one_expansion second.written ts us (subst (λ ws. expansion.Expands ws ts) written first.expands) second.expands

  unexpanded : (ts written : List Token) (s : Span) (c : Cause) → IsExpandedTo source ts → text.Spells written source
      → expansion.IsFault written s c → ⊥
  unexpanded ts written s c expanded spelled fault =
      let same = only.one_list expanded.written written expanded.spelled spelled in
      only.no_expansion written ts s c (subst (λ ws. expansion.Expands ws ts) same expanded.expands) fault

  -- a source has one tree, boxes aside
  same-tree : (a b : Contents) → IsTreeOf a source → IsTreeOf b source → parsed.Same a b
  same-tree a b first second =
      let same = same-tokens first.tokens second.tokens first.expanded second.expanded in
      only.one_tree second.tokens a b (subst (λ ts. parsed.Yields a ts) same first.yields) second.yields

  same-place : (a b : Contents) → IsTreeOf a source → IsTreeOf b source → departure a ≡ departure b
  same-place a b first second =
      let same = same-tree a b first second in
      ap (λ end. units_departure end a.units) same.end ∙ same-departure b.end a.units b.units same.units

  tree-unbroken : (tree : Contents) (span : Span) (cause : Cause) → IsTreeOf tree source → IsSourceFault source span cause → ⊥
  tree-unbroken tree span cause of-source (InTokens fault) =
      only.no_list of-source.expanded.written span cause of-source.expanded.spelled fault
  tree-unbroken tree span cause of-source (InExpansion written spelled fault) =
      unexpanded of-source.tokens written span cause of-source.expanded spelled fault
  tree-unbroken tree span cause of-source (InGrammar tokens expanded fault) =
      let same = same-tokens of-source.tokens tokens of-source.expanded expanded in
      only.no_tree tokens tree span cause fault (subst (λ ts. parsed.Yields tree ts) same of-source.yields)

  pub one-writes : (ks ls : List ℕ) → Writes source ks → Writes source ls → ks ≡ ls
  one-writes ks ls first second =
      same_program second.tree.units ks ls
      (same-program first.tree.units second.tree.units ks (same-tree first.tree second.tree first.of_source second.of_source).units
      first.program) second.program

  pub one-fault : (s t : Span) (c d : Cause) → IsSourceFault source s c → IsSourceFault source t d → (s ≡ t) × (c ≡ d)
  one-fault s t c d (InTokens a) (InTokens b) = only.one_fault s t c d a b
  one-fault s t c d (InTokens a) (InExpansion written spelled b) = absurd (only.no_list written s c spelled a)
  one-fault s t c d (InTokens a) (InGrammar tokens expanded b) = absurd (only.no_list expanded.written s c expanded.spelled a)
  one-fault s t c d (InExpansion written spelled a) (InTokens b) = absurd (only.no_list written t d spelled b)
  one-fault s t c d (InExpansion ts first a) (InExpansion us second b) =
      only.one_misuse us s t c d (subst (λ xs. expansion.IsFault xs s c) (only.one_list ts us first second) a) b
  one-fault s t c d (InExpansion written spelled a) (InGrammar tokens expanded b) =
      absurd (unexpanded tokens written s c expanded spelled a)
  one-fault s t c d (InGrammar tokens expanded a) (InTokens b) = absurd (only.no_list expanded.written t d expanded.spelled b)
  one-fault s t c d (InGrammar tokens expanded a) (InExpansion written spelled b) =
      absurd (unexpanded tokens written t d expanded spelled b)
  one-fault s t c d (InGrammar ts first a) (InGrammar us second b) =
      only.one_break us s t c d (subst (λ xs. parsed.IsFault xs s c) (same-tokens ts us first second) a) b

  pub one-place : (s t : Span) → IsUnbuilt source s → IsUnbuilt source t → s ≡ t
  one-place s t first second =
      let same : Some s ≡ Some t = sym first.departs ∙ same-place first.tree second.tree first.of_source second.of_source
      ∙ second.departs in cc

  pub writes-unbroken : (ks : List ℕ) (s : Span) (c : Cause) → Writes source ks → IsSourceFault source s c → ⊥
  writes-unbroken ks s c writes fault = tree-unbroken writes.tree s c writes.of_source fault

  pub writes-built : (ks : List ℕ) (s : Span) → Writes source ks → IsUnbuilt source s → ⊥
  writes-built ks s writes unbuilt =
      let none = sym unbuilt.departs ∙ same-place unbuilt.tree writes.tree unbuilt.of_source writes.of_source
      ∙ program_stays writes.tree ks writes.program in cc

  pub broken-built : (s t : Span) (c : Cause) → IsSourceFault source s c → IsUnbuilt source t → ⊥
  broken-built s t c fault unbuilt = tree-unbroken unbuilt.tree s c unbuilt.of_source fault
