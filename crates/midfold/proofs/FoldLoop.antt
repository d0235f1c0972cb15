-- Going over the operations, with what is known before each.
use Rattle.std.proofs.Common.{◌≡◌, ℕ, ◌+◌, ◌<◌, ◌≤◌, true, List, [], ◌∷◌, ◌++◌, ◌&&◌, length, reverse, replicate}
use Rattle.std.proofs.Common.{Option, Some, None, refl, sym, subst, ap, ◌∙◌, arith, append-nil, append_assoc}
use Rattle.std.specs.Prelude.{IfSome}
use Rattle.std.specs.List.{list_all}
use Rattle.std.proofs.lemmas.Bool.{and_parts}
use Rattle.std.proofs.lemmas.List.{map-append, reverse-append}
use Rattle.std.proofs.lemmas.List.Folds.{list_all-append}
use Rattle.linkarena.specs.Lists.{first_id}
use Rattle.midcode.specs.declared.op.Op.{Op}
use Rattle.midcode.specs.declared.op.OpKind.{OpKind}
use Rattle.midcode.specs.Operation.{is_value}
use Rattle.midcode.specs.Function.{Function, kinds, kinds_of, fits, IsValidFunction, IsNode, AtNode}
use Rattle.midcode.proofs.Valid.{valid-replaced}
use Rattle.midopt.specs.Better.{IsBetterFunction}
use Rattle.midopt.specs.Tidy.{is_plain_sum, IsFolded}
use Rattle.midopt.proofs.FoldedLemmas.{all_folded, folded-is, folded-more}
use Rattle.midopt.proofs.MarkLemmas.{first-some, first-none, empty-list}
use Rattle.midopt.proofs.Relation.{function-same, function-more}
use Rattle.midfold.specs.Folding.{improved, or_itself, improved_kind, noted}
use Rattle.midfold.proofs.Tracks.{Tracks, tracks-first, tracks-more, improved-folded}
use Rattle.midfold.proofs.Improved.{improved-fine}
use Rattle.midfold.proofs.Replaced.{replaced-function}

-- an operation of a valid function
pub fits-at : (f : Function) (front : List (ℕ × Op)) (node : ℕ) (o : Op) (back : List (ℕ × Op)) → f.nodes ≡ front ++ (node, o) ∷ back
    → IsValidFunction f → fits f.registers f.labels o.kind ≡ true
fits-at f front node o back at valid =
    let test = fits f.registers f.labels in
    let all = ap (list_all test) (sym (map-append (λ m. m.1.kind) front ((node, o) ∷ back))) ∙
    ap (λ ns. list_all test (kinds_of ns)) (sym at) ∙ valid.fit in
    let parts = and_parts (list_all test (kinds_of front)) (test o.kind && list_all test (kinds_of back))
    (sym (list_all-append test (kinds_of front) (o.kind ∷ kinds_of back)) ∙ all) in
    (and_parts (test o.kind) (list_all test (kinds_of back)) parts.1).0

-- what a replacement asks for
module _ (f : Function) (valid : IsValidFunction f) (held : List (Option ℕ)) (node : ℕ) (k : Op)
    (get : AtNode f.nodes node (λ _ o _. k ≡ o)) (j : OpKind) (made : improved f.registers held k.kind ≡ Some j) where
  pub was-value : AtNode f.nodes node (λ _ o _. is_value o.kind ≡ true)
  was-value front o back at =
      ap (λ i. is_value i.kind) (sym (get front o back at)) ∙ (improved-fine f.registers f.labels held k.kind j made).was

  pub now-value : is_value j ≡ true
  now-value = (improved-fine f.registers f.labels held k.kind j made).now

  pub now-fit : (node-is : IsNode f.nodes node) → fits f.registers f.labels j ≡ true
  now-fit n =
      (improved-fine f.registers f.labels held k.kind j made).fit
      (ap (λ i. fits f.registers f.labels i.kind) (get n.front n.op n.back n.at) ∙ fits-at f n.front node n.op n.back n.at valid)

-- the function with an operation improved
abbrev pub better-op : Function → List (Option ℕ) → Op → Op
better-op f held o = record o { kind = improved_kind f.registers held o.kind }

improved-function : (f : Function) (front back : List (ℕ × Op)) (node : ℕ) (o : Op) → f.nodes ≡ front ++ (node, o) ∷ back
    → (held : List (Option ℕ)) → Tracks f.registers (reverse (kinds_of front)) held
    → IsBetterFunction f (record f { nodes = front ++ (node, better-op f held o) ∷ back })
improved-function f front back node o at held tracks = by (improved f.registers held o.kind) refl
  where
    by : (z : Option OpKind) → improved f.registers held o.kind ≡ z
        → IsBetterFunction f (record f { nodes = front ++ (node, record o { kind = or_itself o.kind z }) ∷ back })
    by None made = subst (λ ns. IsBetterFunction f (record f { nodes = ns })) at (function-same f)
    by (Some j) made = replaced-function f front back node o (record o { kind = j }) at held tracks made

improved-valid : (f : Function) (front back : List (ℕ × Op)) (node : ℕ) (o : Op) → f.nodes ≡ front ++ (node, o) ∷ back
    → (held : List (Option ℕ)) → IsValidFunction f → IsValidFunction (record f { nodes = front ++ (node, better-op f held o) ∷ back })
improved-valid f front back node o at held valid = by (improved f.registers held o.kind) refl
  where
    by : (z : Option OpKind) → improved f.registers held o.kind ≡ z
        → IsValidFunction (record f { nodes = front ++ (node, record o { kind = or_itself o.kind z }) ∷ back })
    by None made = subst (λ ns. IsValidFunction (record f { nodes = ns })) at valid
    by (Some j) made =
        let fine = improved-fine f.registers f.labels held o.kind j made in
        valid-replaced f front back node o (record o { kind = j }) at valid fine.was fine.now
        (fine.fit (fits-at f front node o back at valid))

-- ---- the walk

-- before a node, with what was improved of the old function so far
pub record Folding (old now : Function) (held : List (Option ℕ)) (rounds : ℕ) (at : Option ℕ) (index : ℕ) : Type 0 where
  pub front : List (ℕ × Op)
  pub back : List (ℕ × Op)
  pub parts : now.nodes ≡ front ++ back
  pub come : at ≡ first_id back
  pub node : IfSome at (IsNode now.nodes)
  pub left : index + length back ≡ length old.nodes
  pub better : IsBetterFunction old now
  pub valid : IsValidFunction now
  pub tracks : Tracks now.registers (reverse (kinds_of front)) held
  pub folded : all_folded [] (kinds_of front) ≡ true
  pub few : rounds ≤ index

pub folding-first : (f : Function) (held : List (Option ℕ)) (rounds : ℕ) (at : Option ℕ) → at ≡ first_id f.nodes
    → IfSome at (IsNode f.nodes) → IsValidFunction f → held ≡ replicate (length f.registers) None → rounds ≡ 0
    → Folding f f held rounds at 0
folding-first f held rounds at is node valid none zero-so = record {
  front = [];
  back = f.nodes;
  parts = refl;
  come = is;
  node = node;
  left = omega arith;
  better = function-same f;
  valid = valid;
  tracks = subst (Tracks f.registers []) (sym none) (tracks-first f.registers);
  folded = refl;
  few = omega (arith, zero-so);
}

module _ (old now : Function) (held : List (Option ℕ)) (rounds node index : ℕ) (w : Folding old now held rounds (Some node) index) where
  abbrev o : Op
  o = (first-some w.back node w.come).0

  abbrev rest : List (ℕ × Op)
  rest = (first-some w.back node w.come).1

  stands : now.nodes ≡ w.front ++ (node, o) ∷ rest
  stands = w.parts ∙ ap (λ b. w.front ++ b) (first-some w.back node w.come).2

  pub here : IsNode now.nodes node
  here = record { front = w.front; op = o; back = rest; at = stands }

  pub again : (next : Function) → AtNode now.nodes node (λ front o back. next ≡ record now {
    nodes = front ++ (node, better-op now held o) ∷ back;
  })
      → IsNode next.nodes node
  again next is = record {
    front = w.front;
    op = better-op now held o;
    back = rest;
    at = ap (λ f. f.nodes) (is w.front o rest stands);
  }

  pub few-rounds : IsValidFunction old → rounds < 1048577
  few-rounds valid = omega (arith, w.few, w.left, valid.few)

  pub folding-next : (next : Function) → AtNode now.nodes node (λ front o back. next ≡ record now {
    nodes = front ++ (node, better-op now held o) ∷ back;
  })
      → (k : Op) → AtNode next.nodes node (λ _ o _. k ≡ o)
      → (more : List (Option ℕ)) (round : ℕ) → more ≡ noted next.registers k.kind held → round ≤ rounds + 1
      → (on : Option ℕ) → AtNode next.nodes node (λ _ _ back. on ≡ first_id back) → IfSome on (IsNode next.nodes)
      → Folding old next more round on (index + 1)
  folding-next next is k get more round held-so round-so on step there =
      let e = is w.front o rest stands in
      let at : next.nodes ≡ w.front ++ (node, better-op now held o) ∷ rest = ap (λ f. f.nodes) e in
      let same : k ≡ better-op now held o = get w.front (better-op now held o) rest at in
      let last = map-append (λ m. m.1.kind) w.front ((node, better-op now held o) ∷ []) in
      let turned : reverse (kinds_of (w.front ++ (node, better-op now held o) ∷ []))
      ≡ (better-op now held o).kind ∷ reverse (kinds_of w.front) =
      ap reverse last ∙ reverse-append (kinds_of w.front) ((better-op now held o).kind ∷ []) in
      let widths : next.registers ≡ now.registers = ap (λ f. f.registers) e in
      record {
        front = w.front ++ (node, better-op now held o) ∷ [];
        back = rest;
        parts = at ∙ sym (append_assoc w.front ((node, better-op now held o) ∷ []) rest);
        come = step w.front (better-op now held o) rest at;
        node = there;
        left = omega (arith, w.left, ap length (first-some w.back node w.come).2);
        better = function-more old now next w.better
            (subst (IsBetterFunction now) (sym e) (improved-function now w.front rest node o stands held w.tracks));
        valid = subst IsValidFunction (sym e) (improved-valid now w.front rest node o stands held w.valid);
        tracks =
            subst (λ ws. Tracks ws (reverse (kinds_of (w.front ++ (node, better-op now held o) ∷ []))) more) (sym widths)
            (subst (λ ks. Tracks now.registers ks more) (sym turned)
            (subst (Tracks now.registers ((better-op now held o).kind ∷ reverse (kinds_of w.front)))
            (sym (held-so ∙ ap (λ ws. noted ws k.kind held) widths ∙ ap (λ i. noted now.registers i.kind held) same))
            (tracks-more now.registers (reverse (kinds_of w.front)) held (better-op now held o).kind w.tracks)));
        folded = ap (all_folded []) last ∙
            folded-more [] (kinds_of w.front) (better-op now held o).kind w.folded
            (ap (λ b. is_plain_sum b (better-op now held o).kind) (append-nil (reverse (kinds_of w.front))) ∙
            improved-folded now.registers now.labels (reverse (kinds_of w.front)) held w.tracks o.kind
            (fits-at now w.front node o rest stands w.valid));
        few = omega (arith, w.few, round-so);
      }

folding-done : (old now : Function) (held : List (Option ℕ)) (rounds : ℕ) (at : Option ℕ) (index : ℕ)
    (w : Folding old now held rounds at index) → w.back ≡ [] → IsFolded (kinds now)
folding-done old now held rounds at index w none =
    folded-is (kinds now)
    (ap (λ ns. all_folded [] (kinds_of ns)) (w.parts ∙ ap (λ b. w.front ++ b) none ∙ append-nil w.front) ∙ w.folded)

pub folding-none : (old now : Function) (held : List (Option ℕ)) (rounds index : ℕ) → Folding old now held rounds None index
    → IsFolded (kinds now)
folding-none old now held rounds index w = folding-done old now held rounds None index w (first-none w.back w.come)

pub folding-end : (old now : Function) (held : List (Option ℕ)) (rounds : ℕ) (at : Option ℕ) (index : ℕ)
    → Folding old now held rounds at index → length old.nodes ≤ index → IsFolded (kinds now)
folding-end old now held rounds at index w over =
    folding-done old now held rounds at index w (empty-list w.back (omega (arith, w.left, over)))
