-- What keeps a function valid: another register, another label, another operation.
use Rattle.std.proofs.Common.{◌≡◌, ℕ, zero, suc, ◌+◌, ◌<◌, ◌⊎◌, inl, inr, Bool, true, false, not, ◌&&◌, ◌||◌, List, [], ◌∷◌, ◌++◌}
use Rattle.std.proofs.Common.{length, Option, Some, None, refl, sym, subst, ap, ◌∙◌, arith, nat_lt, nat_le, slice_set}
use Rattle.std.proofs.Common.{length-append, length-take, append-nil, append_assoc, lit<}
use Rattle.std.specs.Prelude.{slice_get, ◌==◌, IfSome}
use Rattle.std.specs.List.{list_all, list_any}
use Rattle.std.proofs.lemmas.Bool.{and_parts, and_from, ltb-true, lt-ltb, not-true, eqb-false, ne_eqb, eq-eqb}
use Rattle.std.proofs.lemmas.List.{map-append}
use Rattle.std.proofs.lemmas.List.Folds.{list_all-append}
use Rattle.linkarena.specs.Lists.{list_at, first_id}
use Rattle.prunum.specs.Width.{byte_count}
use Rattle.prunum.specs.declared.width.Width.{Width}
use Rattle.midcode.specs.declared.op.Op.{Op}
use Rattle.midcode.specs.declared.op.OpKind.{OpKind}
use Rattle.midcode.specs.declared.op.OpKind.TheVariants as op
use Rattle.midcode.specs.declared.register.Label.{Label}
use Rattle.midcode.specs.declared.register.VReg.{VReg}
use Rattle.midcode.specs.declared.signature.Signature.{Signature}
use Rattle.midcode.specs.Operation.{is_value, reads, writes, label_of, target_of, base_reads, volatile_reads, parameters}
use Rattle.midcode.specs.Function.{Function, IsValidFunction, IsNode, MayFollow, IsPushed, fits, is_sized, is_word, has, size_at}
use Rattle.midcode.specs.Function.{size_of, each_of, kinds, kinds_of, standing, stands, are_distinct, same_widths}

-- ---- another register

get-more : (rs : List Width) (w : Width) (n : ℕ) → nat_lt n (length rs) ≡ true → slice_get (rs ++ w ∷ []) n ≡ slice_get rs n
get-more [] w n within = absurd (omega (arith, ltb-true n 0 within))
get-more (v ∷ vs) w zero within = refl
get-more (v ∷ vs) w (suc n) within = get-more vs w n (lt-ltb n (length vs) (omega (arith, ltb-true (suc n) (suc (length vs)) within)))

size-more : (rs : List Width) (w : Width) (r : VReg) → has rs r ≡ true → size_at (rs ++ w ∷ []) r ≡ size_at rs r
size-more rs w r within = ap size_of (get-more rs w r.0 within)

has-more : (rs : List Width) (w : Width) (r : VReg) → has rs r ≡ true → has (rs ++ w ∷ []) r ≡ true
has-more rs w r within =
    let e : length (rs ++ w ∷ []) ≡ length rs + 1 = length-append rs (w ∷ []) in
    lt-ltb r.0 (length (rs ++ w ∷ [])) (omega (arith, e, ltb-true r.0 (length rs) within))

word-more : (rs : List Width) (w : Width) (r : VReg) → has rs r ≡ true → is_word (rs ++ w ∷ []) r ≡ is_word rs r
word-more rs w r within = ap (λ n. n == 4) (size-more rs w r within)

all-have-more : (rs : List Width) (w : Width) (l : List VReg) → list_all (has rs) l ≡ true → list_all (has (rs ++ w ∷ [])) l ≡ true
all-have-more rs w [] h = refl
all-have-more rs w (r ∷ l) h =
    let parts = and_parts (has rs r) (list_all (has rs) l) h in
    and_from (has (rs ++ w ∷ []) r) (list_all (has (rs ++ w ∷ [])) l) (has-more rs w r parts.0) (all-have-more rs w l parts.1)

each-has-more : (rs : List Width) (w : Width) (o : Option VReg) → each_of (has rs) o ≡ true → each_of (has (rs ++ w ∷ [])) o ≡ true
each-has-more rs w None h = refl
each-has-more rs w (Some r) h = has-more rs w r h

words-more : (rs : List Width) (w : Width) (l : List VReg) → list_all (has rs) l ≡ true
    → list_all (is_word (rs ++ w ∷ [])) l ≡ list_all (is_word rs) l
words-more rs w [] h = refl
words-more rs w (r ∷ l) h =
    let parts = and_parts (has rs r) (list_all (has rs) l) h in
    ap (λ b. b && list_all (is_word (rs ++ w ∷ [])) l) (word-more rs w r parts.0) ∙
    ap (λ b. is_word rs r && b) (words-more rs w l parts.1)

-- of registers, and one more behind them
split-last : (p : VReg → Bool) (l : List VReg) (r : VReg) → list_all p (l ++ r ∷ []) ≡ true → (list_all p l ≡ true) × (p r ≡ true)
split-last p l r h =
    let parts = and_parts (list_all p l) (list_all p (r ∷ [])) (sym (list_all-append p l (r ∷ [])) ∙ h) in
    (parts.0, (and_parts (p r) true parts.1).0)

stored-more : (rs : List Width) (w : Width) (l : List VReg) (from : VReg) (width : Width)
    → list_all (has rs) (l ++ from ∷ []) ≡ true
    → (list_all (is_word (rs ++ w ∷ [])) l && nat_le (byte_count width) (size_at (rs ++ w ∷ []) from))
    ≡ (list_all (is_word rs) l && nat_le (byte_count width) (size_at rs from))
stored-more rs w l from width h =
    let parts = split-last (has rs) l from h in
    ap (λ b. b && nat_le (byte_count width) (size_at (rs ++ w ∷ []) from)) (words-more rs w l parts.0) ∙
    ap (λ n. list_all (is_word rs) l && nat_le (byte_count width) n) (size-more rs w from parts.1)

first-of : (p : VReg → Bool) (r : VReg) → list_all p (r ∷ []) ≡ true → p r ≡ true
first-of p r h = (and_parts (p r) true h).0

sized-more : (rs : List Width) (w : Width) (k : OpKind) → list_all (has rs) (reads k) ≡ true → each_of (has rs) (writes k) ≡ true
    → is_sized (rs ++ w ∷ []) k ≡ is_sized rs k
sized-more rs w (op.Address to object offset) r t = word-more rs w to t
sized-more rs w (op.Widen to from) r t =
    ap (λ n. nat_lt n (size_at (rs ++ w ∷ []) to)) (size-more rs w from (first-of (has rs) from r)) ∙
    ap (λ n. nat_lt (size_at rs from) n) (size-more rs w to t)
sized-more rs w (op.Load to b offset) r t = words-more rs w (base_reads b) r
sized-more rs w (op.Store b offset from width) r t = stored-more rs w (base_reads b) from width r
sized-more rs w (op.Read to b offset own) r t = words-more rs w (volatile_reads b) r
sized-more rs w (op.Write b offset from width own) r t = stored-more rs w (volatile_reads b) from width r
sized-more rs w (op.ReadRegister to register) r t = word-more rs w to t
sized-more rs w (op.WriteRegister register from) r t = word-more rs w from (first-of (has rs) from r)
sized-more rs w (op.ReadPad to bank register) r t = ap (λ b. b && (nat_lt bank 3 && nat_lt register 30)) (word-more rs w to t)
sized-more rs w (op.WritePad bank register from) r t =
    ap (λ b. b && (nat_lt bank 3 && nat_lt register 30)) (word-more rs w from (first-of (has rs) from r))
sized-more rs w (op.Constant to n) r t = refl
sized-more rs w (op.Copy to from) r t = refl
sized-more rs w (op.Unary o to from) r t = refl
sized-more rs w (op.Binary o to left right) r t = refl
sized-more rs w (op.Zero object offset bytes) r t = refl
sized-more rs w (op.Call function arguments to) r t = refl
sized-more rs w (op.Return value) r t = refl
sized-more rs w (op.Label l) r t = refl
sized-more rs w (op.Jump l) r t = refl
sized-more rs w (op.Branch left test right to turns) r t = refl
sized-more rs w (op.Mark m) r t = refl
sized-more rs w (op.Delay n) r t = refl
sized-more rs w op.Halt r t = refl

-- the five parts of an operation's fit
pub record Parts (rs : List Width) (labels : ℕ) (k : OpKind) : Type 0 where
  pub reads_own : list_all (has rs) (reads k) ≡ true
  pub writes_own : each_of (has rs) (writes k) ≡ true
  pub label : each_of (λ l. nat_lt l.0 labels) (label_of k) ≡ true
  pub target : each_of (λ l. nat_lt l.0 labels) (target_of k) ≡ true
  pub sized : is_sized rs k ≡ true

pub parts-of : (rs : List Width) (labels : ℕ) (k : OpKind) → fits rs labels k ≡ true → Parts rs labels k
parts-of rs labels k h =
    let a = and_parts _ (is_sized rs k) h in
    let b = and_parts _ (each_of (λ l. nat_lt l.0 labels) (target_of k)) a.0 in
    let c = and_parts _ (each_of (λ l. nat_lt l.0 labels) (label_of k)) b.0 in
    let d = and_parts (list_all (has rs) (reads k)) (each_of (has rs) (writes k)) c.0 in
    record { reads_own = d.0; writes_own = d.1; label = c.1; target = b.1; sized = a.1 }

of-parts : (rs : List Width) (labels : ℕ) (k : OpKind) → Parts rs labels k → fits rs labels k ≡ true
of-parts rs labels k p =
    and_from _ (is_sized rs k)
    (and_from _ (each_of (λ l. nat_lt l.0 labels) (target_of k))
    (and_from _ (each_of (λ l. nat_lt l.0 labels) (label_of k))
    (and_from (list_all (has rs) (reads k)) (each_of (has rs) (writes k)) p.reads_own p.writes_own) p.label) p.target) p.sized

fits-more : (rs : List Width) (w : Width) (labels : ℕ) (k : OpKind) → fits rs labels k ≡ true → fits (rs ++ w ∷ []) labels k ≡ true
fits-more rs w labels k h =
    let p = parts-of rs labels k h in
    of-parts (rs ++ w ∷ []) labels k (record {
      reads_own = all-have-more rs w (reads k) p.reads_own;
      writes_own = each-has-more rs w (writes k) p.writes_own;
      label = p.label;
      target = p.target;
      sized = sized-more rs w k p.reads_own p.writes_own ∙ p.sized;
    })

all-fit-more : (rs : List Width) (w : Width) (labels : ℕ) (ks : List OpKind)
    → list_all (fits rs labels) ks ≡ true → list_all (fits (rs ++ w ∷ []) labels) ks ≡ true
all-fit-more rs w labels [] h = refl
all-fit-more rs w labels (k ∷ ks) h =
    let p = and_parts (fits rs labels k) (list_all (fits rs labels) ks) h in
    and_from (fits (rs ++ w ∷ []) labels k) (list_all (fits (rs ++ w ∷ []) labels) ks)
    (fits-more rs w labels k p.0) (all-fit-more rs w labels ks p.1)

widths-more : (ws rs : List Width) (w : Width) → same_widths ws rs ≡ true → same_widths ws (rs ++ w ∷ []) ≡ true
widths-more [] rs w h = refl
widths-more (v ∷ ws) [] w h = cc
widths-more (v ∷ ws) (r ∷ rs) w h =
    let p = and_parts (byte_count v == byte_count r) (same_widths ws rs) h in
    and_from (byte_count v == byte_count r) (same_widths ws (rs ++ w ∷ [])) p.0 (widths-more ws rs w p.1)

pub valid-register : (f : Function) (w : Width) → IsValidFunction f → length f.registers < 1048576
    → IsValidFunction (record f { registers = f.registers ++ w ∷ [] })
valid-register f w valid few = record {
  parameters = widths-more (parameters f.signature) f.registers w valid.parameters;
  fit = all-fit-more f.registers w f.labels (kinds f) valid.fit;
  once = valid.once;
  few = valid.few;
  few_registers = omega (arith, length-append f.registers (w ∷ []), few);
}

-- ---- another label

below-more : (labels : ℕ) (o : Option Label) → each_of (λ l. nat_lt l.0 labels) o ≡ true → each_of (λ l. nat_lt l.0 (labels + 1)) o ≡ true
below-more labels None h = refl
below-more labels (Some l) h = lt-ltb l.0 (labels + 1) (omega (arith, ltb-true l.0 labels h))

fits-label : (rs : List Width) (labels : ℕ) (k : OpKind) → fits rs labels k ≡ true → fits rs (labels + 1) k ≡ true
fits-label rs labels k h =
    let p = parts-of rs labels k h in
    of-parts rs (labels + 1) k (record {
      reads_own = p.reads_own;
      writes_own = p.writes_own;
      label = below-more labels (label_of k) p.label;
      target = below-more labels (target_of k) p.target;
      sized = p.sized;
    })

all-fit-label : (rs : List Width) (labels : ℕ) (ks : List OpKind)
    → list_all (fits rs labels) ks ≡ true → list_all (fits rs (labels + 1)) ks ≡ true
all-fit-label rs labels [] h = refl
all-fit-label rs labels (k ∷ ks) h =
    let p = and_parts (fits rs labels k) (list_all (fits rs labels) ks) h in
    and_from (fits rs (labels + 1) k) (list_all (fits rs (labels + 1)) ks) (fits-label rs labels k p.0) (all-fit-label rs labels ks p.1)

pub valid-label : (f : Function) → IsValidFunction f → IsValidFunction (record f { labels = f.labels + 1 })
valid-label f valid = record {
  parameters = valid.parameters;
  fit = all-fit-label f.registers f.labels (kinds f) valid.fit;
  once = valid.once;
  few = valid.few;
  few_registers = valid.few_registers;
}

-- ---- another operation

standing-append : (ks ls : List OpKind) → standing (ks ++ ls) ≡ standing ks ++ standing ls
standing-append [] ls = refl
standing-append (op.Label l ∷ ks) ls = ap (λ s. l.0 ∷ s) (standing-append ks ls)
standing-append (_ ∷ ks) ls = standing-append ks ls

-- a label, or none
standing-one : (k : OpKind) → (standing (k ∷ []) ≡ []) ⊎ ((l : Label) × (label_of k ≡ Some l) × (standing (k ∷ []) ≡ l.0 ∷ []))
standing-one (op.Label l) = inr (l, refl, refl)
standing-one _ = inl refl

or-parts : (x y : Bool) → (x || y) ≡ false → (x ≡ false) × (y ≡ false)
or-parts true y h = cc
or-parts false y h = (refl, h)

differ-swapped : (m l : ℕ) → (m == l) ≡ false → (l == m) ≡ false
differ-swapped m l h = ne_eqb l m (λ e. eqb-false m l h (sym e))

any-last : (p : ℕ → Bool) (ls : List ℕ) (l : ℕ) → list_any p ls ≡ false → p l ≡ false → list_any p (ls ++ l ∷ []) ≡ false
any-last p [] l h fresh = ap (λ b. b || false) fresh
any-last p (m ∷ ls) l h fresh =
    let parts = or-parts (p m) (list_any p ls) h in
    ap (λ b. b || list_any p (ls ++ l ∷ [])) parts.0 ∙ any-last p ls l parts.1 fresh

distinct-more : (ls : List ℕ) (l : ℕ) → are_distinct ls ≡ true → list_any (λ m. m == l) ls ≡ false → are_distinct (ls ++ l ∷ []) ≡ true
distinct-more [] l h fresh = refl
distinct-more (m ∷ ls) l h fresh =
    let here = and_parts (not (list_any (λ n. n == m) ls)) (are_distinct ls) h in
    let parts = or-parts (m == l) (list_any (λ n. n == l) ls) fresh in
    let apart : list_any (λ n. n == m) (ls ++ l ∷ []) ≡ false =
    any-last (λ n. n == m) ls l (not-true (list_any (λ n. n == m) ls) here.0) (differ-swapped m l parts.0) in
    and_from (not (list_any (λ n. n == m) (ls ++ l ∷ []))) (are_distinct (ls ++ l ∷ []))
    (ap not apart) (distinct-more ls l here.1 parts.1)

kinds-append : (ns ms : List (ℕ × Op)) → kinds_of (ns ++ ms) ≡ kinds_of ns ++ kinds_of ms
kinds-append ns ms = map-append (λ n. n.1.kind) ns ms

once-pushed : (ks : List OpKind) (k : OpKind) → are_distinct (standing ks) ≡ true
    → ((l : Label) → label_of k ≡ Some l → not (stands ks l.0) ≡ true)
    → are_distinct (standing (ks ++ k ∷ [])) ≡ true
once-pushed ks k once fresh = ap are_distinct (standing-append ks (k ∷ [])) ∙ at (standing-one k)
  where
    at : (standing (k ∷ []) ≡ []) ⊎ ((l : Label) × (label_of k ≡ Some l) × (standing (k ∷ []) ≡ l.0 ∷ []))
        → are_distinct (standing ks ++ standing (k ∷ [])) ≡ true
    at (inl none) = ap (λ s. are_distinct (standing ks ++ s)) none ∙ ap are_distinct (append-nil (standing ks)) ∙ once
    at (inr one) =
        ap (λ s. are_distinct (standing ks ++ s)) one.2 ∙
        distinct-more (standing ks) one.0.0 once (not-true (stands ks one.0.0) (fresh one.0 one.1))

-- no label that stands in a valid function has the number of its labels
free-among : (rs : List Width) (labels : ℕ) (ks : List OpKind) → list_all (fits rs labels) ks ≡ true
    → list_any (λ m. m == labels) (standing ks) ≡ false
free-among rs labels [] h = refl
free-among rs labels (k ∷ ks) h =
    let both = and_parts (fits rs labels k) (list_all (fits rs labels) ks) h in
    ap (list_any (λ m. m == labels)) (standing-append (k ∷ []) ks) ∙
    at both.0 (free-among rs labels ks both.1) (standing-one k)
  where
    below : fits rs labels k ≡ true → (l : Label) → label_of k ≡ Some l → nat_lt l.0 labels ≡ true
    below fit l is = ap (each_of (λ l. nat_lt l.0 labels)) (sym is) ∙ (parts-of rs labels k fit).label

    at : fits rs labels k ≡ true → list_any (λ m. m == labels) (standing ks) ≡ false
        → (standing (k ∷ []) ≡ []) ⊎ ((l : Label) × (label_of k ≡ Some l) × (standing (k ∷ []) ≡ l.0 ∷ []))
        → list_any (λ m. m == labels) (standing (k ∷ []) ++ standing ks) ≡ false
    at fit rest (inl none) = ap (λ s. list_any (λ m. m == labels) (s ++ standing ks)) none ∙ rest
    at fit rest (inr one) =
        let less = ltb-true one.0.0 labels (below fit one.0 one.1) in
        let apart : (one.0.0 == labels) ≡ false = ne_eqb one.0.0 labels (λ e. omega (arith, less, e)) in
        ap (λ s. list_any (λ m. m == labels) (s ++ standing ks)) one.2 ∙
        ap (λ b. b || list_any (λ m. m == labels) (standing ks)) apart ∙ rest

pub free-label : (f : Function) → IsValidFunction f → not (stands (kinds f) f.labels) ≡ true
free-label f valid = ap not (free-among f.registers f.labels (kinds f) valid.fit)

pub valid-pushed : (f : Function) (node : ℕ) (o : Op) → IsValidFunction f → MayFollow f o.kind → length f.nodes < 1048576
    → IsValidFunction (record f { nodes = f.nodes ++ (node, o) ∷ [] })
valid-pushed f node o valid follows few = record {
  parameters = valid.parameters;
  fit = ap (list_all (fits f.registers f.labels)) (kinds-append f.nodes ((node, o) ∷ [])) ∙
      list_all-append (fits f.registers f.labels) (kinds f) (o.kind ∷ []) ∙
      and_from (list_all (fits f.registers f.labels) (kinds f)) (fits f.registers f.labels o.kind && true) valid.fit
      (and_from (fits f.registers f.labels o.kind) true follows.fit refl);
  once = ap (λ ks. are_distinct (standing ks)) (kinds-append f.nodes ((node, o) ∷ [])) ∙
      once-pushed (kinds f) o.kind valid.once follows.once;
  few = omega (arith, length-append f.nodes ((node, o) ∷ []), few);
  few_registers = valid.few_registers;
}

-- ---- operations that only compute a value, exchanged and taken out

value-silent : (k : OpKind) (ks : List OpKind) → is_value k ≡ true → standing (k ∷ ks) ≡ standing ks
value-silent (op.Label l) ks h = cc
value-silent _ ks h = refl

standing-kept : (ks : List OpKind) (k : OpKind) (ls : List OpKind) → is_value k ≡ true
    → standing (ks ++ k ∷ ls) ≡ standing ks ++ standing ls
standing-kept ks k ls h = standing-append ks (k ∷ ls) ∙ ap (λ s. standing ks ++ s) (value-silent k ls h)

-- the facts of a function with these nodes
record Fitting (f : Function) (nodes : List (ℕ × Op)) : Type 0 where
  fit : list_all (fits f.registers f.labels) (kinds_of nodes) ≡ true
  once : are_distinct (standing (kinds_of nodes)) ≡ true

valid-with : (f : Function) (nodes : List (ℕ × Op)) → IsValidFunction f → Fitting f nodes → length nodes < 1048577
    → IsValidFunction (record f { nodes = nodes })
valid-with f nodes valid fitting few = record {
  parameters = valid.parameters;
  fit = fitting.fit;
  once = fitting.once;
  few = few;
  few_registers = valid.few_registers;
}

fitting-of : (f : Function) (nodes : List (ℕ × Op)) → f.nodes ≡ nodes → IsValidFunction f → Fitting f nodes
fitting-of f nodes e valid = record {
  fit = ap (λ ns. list_all (fits f.registers f.labels) (kinds_of ns)) (sym e) ∙ valid.fit;
  once = ap (λ ns. are_distinct (standing (kinds_of ns))) (sym e) ∙ valid.once;
}

-- the parts of a list of operations that all fit
around : (p : OpKind → Bool) (front back : List (ℕ × Op)) (node : ℕ) (o : Op) → list_all p (kinds_of (front ++ (node, o) ∷ back)) ≡ true
    → (list_all p (kinds_of front) ≡ true) × (list_all p (kinds_of back) ≡ true)
around p front back node o h =
    let e = list_all-append p (kinds_of front) (o.kind ∷ kinds_of back) in
    let parts = and_parts (list_all p (kinds_of front)) (p o.kind && list_all p (kinds_of back))
    (sym e ∙ ap (list_all p) (sym (kinds-append front ((node, o) ∷ back))) ∙ h) in
    (parts.0, (and_parts (p o.kind) (list_all p (kinds_of back)) parts.1).1)

fitting-replaced : (f : Function) (front back : List (ℕ × Op)) (node : ℕ) (old new : Op)
    → is_value old.kind ≡ true → is_value new.kind ≡ true → fits f.registers f.labels new.kind ≡ true
    → Fitting f (front ++ (node, old) ∷ back) → Fitting f (front ++ (node, new) ∷ back)
fitting-replaced f front back node old new was is fit h =
    let p = fits f.registers f.labels in
    let parts = around p front back node old h.fit in
    record {
      fit = ap (list_all p) (kinds-append front ((node, new) ∷ back)) ∙ list_all-append p (kinds_of front) (new.kind ∷ kinds_of back) ∙
          and_from (list_all p (kinds_of front)) (p new.kind && list_all p (kinds_of back)) parts.0
          (and_from (p new.kind) (list_all p (kinds_of back)) fit parts.1);
      once = ap (λ ks. are_distinct (standing ks)) (kinds-append front ((node, new) ∷ back)) ∙
          ap are_distinct (standing-kept (kinds_of front) new.kind (kinds_of back) is) ∙
          ap are_distinct (sym (standing-kept (kinds_of front) old.kind (kinds_of back) was)) ∙
          ap (λ ks. are_distinct (standing ks)) (sym (kinds-append front ((node, old) ∷ back))) ∙ h.once;
    }

fitting-removed : (f : Function) (front back : List (ℕ × Op)) (node : ℕ) (old : Op) → is_value old.kind ≡ true
    → Fitting f (front ++ (node, old) ∷ back) → Fitting f (front ++ back)
fitting-removed f front back node old was h =
    let p = fits f.registers f.labels in
    let parts = around p front back node old h.fit in
    record {
      fit = ap (list_all p) (kinds-append front back) ∙ list_all-append p (kinds_of front) (kinds_of back) ∙
          and_from (list_all p (kinds_of front)) (list_all p (kinds_of back)) parts.0 parts.1;
      once = ap (λ ks. are_distinct (standing ks)) (kinds-append front back) ∙
          ap are_distinct (standing-append (kinds_of front) (kinds_of back)) ∙
          ap are_distinct (sym (standing-kept (kinds_of front) old.kind (kinds_of back) was)) ∙
          ap (λ ks. are_distinct (standing ks)) (sym (kinds-append front ((node, old) ∷ back))) ∙ h.once;
    }

pub valid-replaced : (f : Function) (front back : List (ℕ × Op)) (node : ℕ) (old new : Op)
    → f.nodes ≡ front ++ (node, old) ∷ back → IsValidFunction f
    → is_value old.kind ≡ true → is_value new.kind ≡ true → fits f.registers f.labels new.kind ≡ true
    → IsValidFunction (record f { nodes = front ++ (node, new) ∷ back })
valid-replaced f front back node old new e valid was is fit =
    valid-with f (front ++ (node, new) ∷ back) valid
    (fitting-replaced f front back node old new was is fit (fitting-of f (front ++ (node, old) ∷ back) e valid))
    (omega (arith, length-append front ((node, new) ∷ back), length-append front ((node, old) ∷ back), ap length e, valid.few))

pub valid-removed : (f : Function) (front back : List (ℕ × Op)) (node : ℕ) (old : Op)
    → f.nodes ≡ front ++ (node, old) ∷ back → IsValidFunction f → is_value old.kind ≡ true
    → IsValidFunction (record f { nodes = front ++ back })
valid-removed f front back node old e valid was =
    valid-with f (front ++ back) valid
    (fitting-removed f front back node old was (fitting-of f (front ++ (node, old) ∷ back) e valid))
    (omega (arith, length-append front back, length-append front ((node, old) ∷ back), ap length e, valid.few))

-- ---- the one list of the arena

single : (x y : List (ℕ × Op)) (lists : List (List (ℕ × Op))) (list : ℕ) → lists ≡ x ∷ [] → list ≡ 0 → slice_set lists list y ≡ y ∷ []
single x y lists list is first = ap (λ ls. slice_set ls list y) is ∙ ap (λ n. slice_set (x ∷ []) n y) first

-- what a function's fields say of it, in the arena's lists
abbrev pub Inside : Signature → List Width → ℕ → List (List (ℕ × Op)) → ℕ → Type 0
Inside signature registers labels lists list =
    (lists ≡ list_at lists list ∷ []) × (list ≡ 0) × IsValidFunction (record {
      signature = signature;
      registers = registers;
      labels = labels;
      nodes = list_at lists list;
    })

-- the arena's lists after a change of the one list
pub record Changed (lists new : List (List (ℕ × Op))) (list : ℕ) (nodes : List (ℕ × Op)) : Type 0 where
  pub one : new ≡ list_at new list ∷ []
  pub at : list_at new list ≡ nodes

pub changed : (lists new : List (List (ℕ × Op))) (list : ℕ) (nodes : List (ℕ × Op))
    → lists ≡ list_at lists list ∷ [] → list ≡ 0 → new ≡ slice_set lists list nodes → Changed lists new list nodes
changed lists new list nodes one first set =
    let e : new ≡ nodes ∷ [] = set ∙ single (list_at lists list) nodes lists list one first in
    let at : list_at new list ≡ nodes = ap (λ n. list_at new n) first ∙ ap (λ ls. list_at ls 0) e in
    record { one = e ∙ ap (λ ns. ns ∷ []) (sym at); at = at }

-- ---- the facts of the fields after each call

module _ (signature : Signature) (registers : List Width) (labels : ℕ) (lists : List (List (ℕ × Op))) (list : ℕ)
    (inside : Inside signature registers labels lists list) where
  -- the function that is seen
  abbrev pub seen : Function
  seen = record { signature = signature; registers = registers; labels = labels; nodes = list_at lists list }

  pub inside-label : Inside signature registers (labels + 1) lists list
  inside-label = (inside.0, inside.1, valid-label seen inside.2)

  pub inside-register : (w : Width) (more : List Width) → length registers < 1048576 → more ≡ registers ++ w ∷ []
      → Inside signature more labels lists list
  inside-register w more few e =
      let P : List Width → Type 0 = λ rs. Inside signature rs labels lists list in
      subst P (sym e) (inside.0, inside.1, valid-register seen w inside.2 few)

  -- the one list is changed to these nodes, with which the function is valid
  inside-changed : (new : List (List (ℕ × Op))) (nodes : List (ℕ × Op)) → new ≡ slice_set lists list nodes
      → IsValidFunction (record seen { nodes = nodes }) → Inside signature registers labels new list
  inside-changed new nodes set valid =
      let c = changed lists new list nodes inside.0 inside.1 set in
      let P : List (ℕ × Op) → Type 0 = λ ns. IsValidFunction (record seen { nodes = ns }) in
      (c.one, inside.1, subst P (sym c.at) valid)

  pub inside-pushed : (new : List (List (ℕ × Op))) (node : ℕ) (o : Op) → MayFollow seen o.kind → length (list_at lists list) < 1048576
      → new ≡ slice_set lists list (list_at lists list ++ (node, o) ∷ []) → Inside signature registers labels new list
  inside-pushed new node o follows few set =
      inside-changed new (list_at lists list ++ (node, o) ∷ []) set (valid-pushed seen node o inside.2 follows few)

  pub pushed-view : (new : List (List (ℕ × Op))) (node : ℕ) (o : Op) → new ≡ slice_set lists list (list_at lists list ++ (node, o) ∷ [])
      → IsPushed seen (record seen { nodes = list_at new list }) o
  pushed-view new node o set =
      let c = changed lists new list (list_at lists list ++ (node, o) ∷ []) inside.0 inside.1 set in
      record { node = node; pushed = ap (λ ns. record seen { nodes = ns }) c.at }

  pub inside-replaced : (new : List (List (ℕ × Op))) (front back : List (ℕ × Op)) (node : ℕ) (was is : Op)
      → list_at lists list ≡ front ++ (node, was) ∷ back
      → is_value was.kind ≡ true → is_value is.kind ≡ true → fits registers labels is.kind ≡ true
      → new ≡ slice_set lists list (front ++ (node, is) ∷ back) → Inside signature registers labels new list
  inside-replaced new front back node was is at old value fit set =
      inside-changed new (front ++ (node, is) ∷ back) set (valid-replaced seen front back node was is at inside.2 old value fit)

  pub inside-removed : (new : List (List (ℕ × Op))) (front back : List (ℕ × Op)) (node : ℕ) (was : Op)
      → list_at lists list ≡ front ++ (node, was) ∷ back → is_value was.kind ≡ true
      → new ≡ slice_set lists list (front ++ back) → Inside signature registers labels new list
  inside-removed new front back node was at old set =
      inside-changed new (front ++ back) set (valid-removed seen front back node was at inside.2 old)

  pub seen-changed : (new : List (List (ℕ × Op))) (nodes : List (ℕ × Op)) → new ≡ slice_set lists list nodes
      → record seen { nodes = list_at new list } ≡ record seen { nodes = nodes }
  seen-changed new nodes set =
      ap (λ ns. record seen { nodes = ns }) (changed lists new list nodes inside.0 inside.1 set).at

  pub inside-same : (new : List (List (ℕ × Op))) → new ≡ lists → Inside signature registers labels new list
  inside-same new same =
      let P : List (List (ℕ × Op)) → Type 0 = λ ls. Inside signature registers labels ls list in
      subst P (sym same) inside

widths-same : (ws : List Width) → same_widths ws ws ≡ true
widths-same [] = refl
widths-same (w ∷ ws) =
    and_from (byte_count w == byte_count w) (same_widths ws ws) (eq-eqb (byte_count w) (byte_count w) refl) (widths-same ws)

valid-new : (s : Signature) → IsValidFunction (record { signature = s; registers = parameters s; labels = 0; nodes = [] })
valid-new s = record {
  parameters = widths-same (parameters s);
  fit = refl;
  once = refl;
  few = lit< tt;
  few_registers = omega (arith, length-take s.count s.params, s.few);
}

pub inside-new : (s : Signature) (registers : List Width) (lists : List (List (ℕ × Op))) (list : ℕ)
    → registers ≡ parameters s → lists ≡ [] ∷ [] → list ≡ 0 → Inside s registers 0 lists list
inside-new s registers lists list own one first =
    let P : List (List (ℕ × Op)) → Type 0 = λ ls. Inside s registers 0 ls list in
    let Q : ℕ → Type 0 = λ n. Inside s registers 0 ([] ∷ []) n in
    let R : List Width → Type 0 = λ rs. Inside s rs 0 ([] ∷ []) 0 in
    subst P (sym one) (subst Q (sym first) (subst R (sym own) (refl, refl, valid-new s)))

-- ---- walking

pub first-node : (nodes : List (ℕ × Op)) (o : Option ℕ) → o ≡ first_id nodes → IfSome o (IsNode nodes)
first-node nodes o is = let P : Option ℕ → Type 0 = λ p. IfSome p (IsNode nodes) in subst P (sym is) (here nodes)
  where
    here : (ns : List (ℕ × Op)) → IfSome (first_id ns) (IsNode ns)
    here [] = tt
    here (e ∷ es) = record { front = []; op = e.1; back = es; at = refl }

behind : (nodes front : List (ℕ × Op)) (node : ℕ) (o : Op) (back : List (ℕ × Op)) → nodes ≡ front ++ (node, o) ∷ back
    → IfSome (first_id back) (IsNode nodes)
behind nodes front node o [] at = tt
behind nodes front node o (e ∷ es) at =
    record { front = front ++ (node, o) ∷ []; op = e.1; back = es; at = at ∙ sym (append_assoc front ((node, o) ∷ []) (e ∷ es)) }

pub next-node : (nodes front : List (ℕ × Op)) (node : ℕ) (o : Op) (back : List (ℕ × Op)) (next : Option ℕ)
    → nodes ≡ front ++ (node, o) ∷ back → next ≡ first_id back → IfSome next (IsNode nodes)
next-node nodes front node o back next at is =
    let P : Option ℕ → Type 0 = λ p. IfSome p (IsNode nodes) in subst P (sym is) (behind nodes front node o back at)
