-- From node to node of a function.
use Rattle.std.proofs.Common.{◌≡◌, ℕ, ◌-◌, ◌<◌, List, [], ◌∷◌, ◌++◌, length, Option, Some, None, refl, sym, ap, ◌∙◌, arith}
use Rattle.std.proofs.Common.{length-append, append_assoc, append-nil}
use Rattle.std.specs.Prelude.{IfSome}
use Rattle.std.proofs.lemmas.List.{map-append, length-map}
use Rattle.std.proofs.lemmas.Option.{none-some, same_Some}
use Rattle.linkarena.specs.Lists.{first_id}
use Rattle.midcode.specs.declared.op.Op.{Op}
use Rattle.midcode.specs.declared.op.OpKind.{OpKind}
use Rattle.midcode.specs.Function.{IsNode, AtNode, kinds_of}

-- what stands before the node at hand is in the list
pub record Walk (nodes : List (ℕ × Op)) (ks : List OpKind) (at : Option ℕ) : Type 0 where
  pub front : List (ℕ × Op)
  pub back : List (ℕ × Op)
  pub split : nodes ≡ front ++ back
  pub done : ks ≡ kinds_of front
  pub next : at ≡ first_id back
  pub node : IfSome at (IsNode nodes)

pub walk-start : (nodes : List (ℕ × Op)) (at : Option ℕ) → at ≡ first_id nodes → IfSome at (IsNode nodes) → Walk nodes [] at
walk-start nodes at e node = record { front = []; back = nodes; split = refl; done = refl; next = e; node = node }

step : (front back nodes : List (ℕ × Op)) (ks : List OpKind) (node : ℕ) (op : Op) (next : Option ℕ) → nodes ≡ front ++ back
    → ks ≡ kinds_of front → Some node ≡ first_id back
    → AtNode nodes node (λ _ o _. op ≡ o) → AtNode nodes node (λ _ _ rest. next ≡ first_id rest) → IfSome next (IsNode nodes)
    → Walk nodes (ks ++ op.kind ∷ []) next
step front [] nodes ks node op next split done here is behind live = absurd (none-some node (sym here))
step front (x ∷ rest) nodes ks node op next split done here is behind live =
    let same : node ≡ x.0 = same_Some node x.0 here in
    let make : ℕ → ℕ × Op = λ n. (n, x.1) in
    let pair : (node, x.1) ≡ x = ap make same in
    let at : nodes ≡ front ++ (node, x.1) ∷ rest = split ∙ ap (λ y. front ++ y ∷ rest) (sym pair) in
    let op-is : op ≡ x.1 = is front x.1 rest at in
    record {
      front = front ++ x ∷ [];
      back = rest;
      split = split ∙ sym (append_assoc front (x ∷ []) rest);
      done =
          ap (λ ys. ys ++ op.kind ∷ []) done ∙ ap (λ (o : Op). kinds_of front ++ o.kind ∷ []) op-is ∙
          sym (map-append (λ (n : ℕ × Op). n.1.kind) front (x ∷ []));
      next = behind front x.1 rest at;
      node = live;
    }

pub walk-next : (nodes : List (ℕ × Op)) (ks : List OpKind) (at : Option ℕ) (node : ℕ) (op : Op) (next : Option ℕ)
    → Walk nodes ks at → at ≡ Some node
    → AtNode nodes node (λ _ o _. op ≡ o) → AtNode nodes node (λ _ _ rest. next ≡ first_id rest) → IfSome next (IsNode nodes)
    → Walk nodes (ks ++ op.kind ∷ []) next
walk-next nodes ks at node op next w here is behind live =
    step w.front w.back nodes ks node op next w.split w.done (sym here ∙ w.next) is behind live

ended : (front back nodes : List (ℕ × Op)) → nodes ≡ front ++ back → None ≡ first_id back → front ≡ nodes
ended front [] nodes split end = sym (split ∙ append-nil front)
ended front (x ∷ rest) nodes split end = absurd (none-some x.0 end)

pub walk-end : (nodes : List (ℕ × Op)) (ks : List OpKind) (at : Option ℕ) → Walk nodes ks at → at ≡ None → ks ≡ kinds_of nodes
walk-end nodes ks at w end = w.done ∙ ap kinds_of (ended w.front w.back nodes w.split (sym end ∙ w.next))

shorter : (front back nodes : List (ℕ × Op)) (node : ℕ) → nodes ≡ front ++ back → Some node ≡ first_id back → length front < length nodes
shorter front [] nodes node split here = absurd (none-some node (sym here))
shorter front (x ∷ rest) nodes node split here =
    omega (arith, ap length split, length-append front (x ∷ rest))

-- fewer are left after each step
pub walk-fewer : (nodes : List (ℕ × Op)) (ks : List OpKind) (at : Option ℕ) (node : ℕ) (k : OpKind) → Walk nodes ks at → at ≡ Some node
    → length nodes - length (ks ++ k ∷ []) < length nodes - length ks
walk-fewer nodes ks at node k w here =
    let less : length w.front < length nodes = shorter w.front w.back nodes node w.split (sym here ∙ w.next) in
    let same : length ks ≡ length w.front = ap length w.done ∙ length-map w.front (λ (n : ℕ × Op). n.1.kind) in
    omega (arith, less, same, length-append ks (k ∷ []))
