-- A program stays valid where a function's operations are changed in what only computes values.
use Rattle.std.proofs.Common.{◌≡◌, ℕ, zero, suc, ◌==◌, ◌&&◌, Bool, true, List, [], ◌∷◌, ◌++◌, map, Option, Some, None}
use Rattle.std.proofs.Common.{refl, sym, subst, ap, ◌∙◌, slice_get, slice_set, nat_lt}
use Rattle.std.specs.List.{list_all, list_any}
use Rattle.std.proofs.lemmas.Bool.{and_parts, and_from}
use Rattle.std.proofs.lemmas.List.{map-append}
use Rattle.std.proofs.lemmas.List.Elements.{All-set}
use Rattle.std.proofs.lemmas.Option.{slice_get_within, get_or_from_slice_get}
use Rattle.midcode.specs.declared.op.Op.{Op}
use Rattle.midcode.specs.declared.op.OpKind.{OpKind}
use Rattle.midcode.specs.declared.op.OpKind.TheVariants as op
use Rattle.midcode.specs.declared.signature.Signature.{Signature}
use Rattle.midcode.specs.Operation.{is_value, target_of, objects_of, region_of}
use Rattle.midcode.specs.Function.{Function, kinds, kinds_of, standing, stands, each_of, IsValidFunction}
use Rattle.midcode.specs.Structure.{skeleton, is_structured}
use Rattle.midcode.specs.Program.{Program, Outside, outside, is_called_well, is_linked, ends_well, is_function_of, skeletons}
use Rattle.midcode.specs.Program.{each_below, is_marked, is_main, is_whole, IsValidProgram}
use Rattle.midcode.proofs.Valid.{valid-removed}
use Rattle.midopt.specs.Better.{placed}
use Rattle.midopt.proofs.Lists.{standing-closed, skeleton-closed, all-closed, ends-closed}

module _ {A : Type 0} where
  abbrev value-of : A → Option A → A
  value-of d None = d
  value-of d (Some x) = x

  some-same : (x y : A) → Some x ≡ Some y → x ≡ y
  some-same x y same = ap (value-of x) same

  map-set : {B : Type 0} (h : A → B) (l : List A) (n : ℕ) (x y : A) → slice_get l n ≡ Some x → h y ≡ h x → map h (slice_set l n y) ≡ map h l
  map-set h [] n x y at same = refl
  map-set h (z ∷ l) zero x y at same = ap (λ v. v ∷ map h l) (same ∙ ap h (sym (some-same z x at)))
  map-set h (z ∷ l) (suc n) x y at same = ap (λ v. h z ∷ v) (map-set h l n x y at same)

  all-set : (test : A → Bool) (l : List A) (n : ℕ) (y : A) → list_all test l ≡ true → test y ≡ true → list_all test (slice_set l n y) ≡ true
  all-set test [] n y all one = refl
  all-set test (z ∷ l) zero y all one =
      and_from (test y) (list_all test l) one (and_parts (test z) (list_all test l) all).1
  all-set test (z ∷ l) (suc n) y all one =
      let parts = and_parts (test z) (list_all test l) all in
      and_from (test z) (list_all test (slice_set l n y)) parts.0 (all-set test l n y parts.1 one)

  all-get : (test : A → Bool) (l : List A) (n : ℕ) (x : A) → list_all test l ≡ true → slice_get l n ≡ Some x → test x ≡ true
  all-get test [] n x all at = cc
  all-get test (z ∷ l) zero x all at =
      subst (λ v. test v ≡ true) (some-same z x at) (and_parts (test z) (list_all test l) all).0
  all-get test (z ∷ l) (suc n) x all at = all-get test l n x (and_parts (test z) (list_all test l) all).1 at

  all-same : (test other : A → Bool) → ((x : A) → other x ≡ test x) → (l : List A) → list_all other l ≡ list_all test l
  all-same test other same [] = refl
  all-same test other same (x ∷ l) = ap (λ b. b && list_all other l) (same x) ∙ ap (λ b. test x && b) (all-same test other same l)

-- The function with other operations, of which labels and those that do more than compute a value are the same.
module _ (f : Function) (nodes : List (ℕ × Op)) (standing-same : standing (kinds_of nodes) ≡ standing (kinds f))
    (skeleton-same : skeleton (kinds_of nodes) ≡ skeleton (kinds f))
    (linked : (u : Outside) → list_all (is_linked u f) (kinds f) ≡ true → list_all (is_linked u f) (kinds_of nodes) ≡ true)
    (ends : ends_well (kinds f) ≡ true → ends_well (kinds_of nodes) ≡ true) where
  abbrev edited : Function
  edited = record f { nodes = nodes }

  called-same : (signatures : List Signature) (k : OpKind) → is_called_well signatures edited k ≡ is_called_well signatures f k
  called-same signatures (op.Call function arguments to) = refl
  called-same signatures (op.Return v) = refl
  called-same signatures _ = refl

  linked-same : (u : Outside) (k : OpKind) → is_linked u edited k ≡ is_linked u f k
  linked-same u k =
      ap (λ b. list_all (λ n. nat_lt n u.objects) (objects_of k) && each_of (λ r. nat_lt r u.regions) (region_of k) &&
      each_of (λ l. stands (kinds edited) l.0) (target_of k) && b) (called-same u.signatures k) ∙
      ap (λ ss. list_all (λ n. nat_lt n u.objects) (objects_of k) && each_of (λ r. nat_lt r u.regions) (region_of k) &&
      each_of (λ l. list_any (λ m. m == l.0) ss) (target_of k) && is_called_well u.signatures f k) standing-same

  function-of : (u : Outside) → is_function_of u f ≡ true → is_function_of u edited ≡ true
  function-of u was =
      let a = and_parts _ (is_structured (skeleton (kinds f))) was in
      let b = and_parts (list_all (is_linked u f) (kinds f)) (ends_well (kinds f)) a.0 in
      and_from _ (is_structured (skeleton (kinds edited)))
      (and_from (list_all (is_linked u edited) (kinds edited)) (ends_well (kinds edited))
      (all-same (is_linked u f) (is_linked u edited) (linked-same u) (kinds edited) ∙ linked u b.0)
      (ends b.1))
      (ap is_structured skeleton-same ∙ a.1)

  module _ (q : Program) (n : ℕ) (at : slice_get q.functions n ≡ Some f) where
    abbrev p : Program
    p = placed q n edited

    outside-same : outside p ≡ outside q
    outside-same =
        ap (λ ss. record (outside q) { signatures = ss }) (map-set (λ f. f.signature) q.functions n f edited at refl)

    skeletons-same : skeletons p ≡ skeletons q
    skeletons-same = map-set (λ f. skeleton (kinds f)) q.functions n f edited at skeleton-same

    pub whole-edited : is_whole q ≡ true → is_whole (placed q n (record f { nodes = nodes })) ≡ true
    whole-edited was =
        let a = and_parts _ (is_main (slice_get (outside q).signatures q.main)) was in
        let b = and_parts _ (each_below q.regions (is_marked (skeletons q))) a.0 in
        let c = and_parts (list_all (is_function_of (outside q)) q.functions) _ b.0 in
        and_from _ (is_main (slice_get (outside p).signatures p.main))
        (and_from _ (each_below p.regions (is_marked (skeletons p)))
        (and_from (list_all (is_function_of (outside p)) p.functions) _
        (ap (λ u. list_all (is_function_of u) p.functions) outside-same ∙
        all-set (is_function_of (outside q)) q.functions n edited c.0
        (function-of (outside q) (all-get (is_function_of (outside q)) q.functions n f c.0 at)))
        c.1)
        (ap (λ ss. each_below q.regions (is_marked ss)) skeletons-same ∙ b.1))
        (ap (λ u. is_main (slice_get u.signatures q.main)) outside-same ∙ a.1)

    was-valid : IsValidProgram q → IsValidFunction f
    was-valid valid =
        subst IsValidFunction (get_or_from_slice_get q.functions n f f at)
        (valid.each n f (slice_get_within q.functions n f at))

    pub valid-edited : (IsValidFunction f → IsValidFunction (record f { nodes = nodes })) → IsValidProgram q
        → IsValidProgram (placed q n (record f { nodes = nodes }))
    valid-edited still valid = record {
      each = All-set IsValidFunction q.functions n edited (still (was-valid valid)) valid.each;
      whole = whole-edited valid.whole;
    }

module _ (f : Function) (front back : List (ℕ × Op)) (node : ℕ) (o : Op) (whole : f.nodes ≡ front ++ (node, o) ∷ back)
    (value : is_value o.kind ≡ true) where
  abbrev before : List OpKind
  before = kinds_of front

  abbrev behind : List OpKind
  behind = kinds_of back

  old-kinds : kinds f ≡ before ++ o.kind ∷ behind
  old-kinds = ap kinds_of whole ∙ map-append (λ m. m.1.kind) front ((node, o) ∷ back)

  new-kinds : kinds_of (front ++ back) ≡ before ++ behind
  new-kinds = map-append (λ m. m.1.kind) front back

  standing-same : standing (kinds_of (front ++ back)) ≡ standing (kinds f)
  standing-same = ap standing new-kinds ∙ standing-closed o.kind value behind before ∙ ap standing (sym old-kinds)

  skeleton-same : skeleton (kinds_of (front ++ back)) ≡ skeleton (kinds f)
  skeleton-same = ap skeleton new-kinds ∙ skeleton-closed o.kind value behind before ∙ ap skeleton (sym old-kinds)

  linked : (u : Outside) → list_all (is_linked u f) (kinds f) ≡ true → list_all (is_linked u f) (kinds_of (front ++ back)) ≡ true
  linked u all =
      ap (list_all (is_linked u f)) new-kinds ∙
      all-closed o.kind value behind (is_linked u f) before (ap (list_all (is_linked u f)) (sym old-kinds) ∙ all)

  ends : ends_well (kinds f) ≡ true → ends_well (kinds_of (front ++ back)) ≡ true
  ends was = ap ends_well new-kinds ∙ ends-closed o.kind value behind before (ap ends_well (sym old-kinds) ∙ was)

  module _ (q : Program) (n : ℕ) (at : slice_get q.functions n ≡ Some f) where
    pub removed-whole : is_whole q ≡ true → is_whole (placed q n (record f { nodes = front ++ back })) ≡ true
    removed-whole was = whole-edited f (front ++ back) standing-same skeleton-same linked ends q n at was

    pub removed-valid : IsValidProgram q → IsValidProgram (placed q n (record f { nodes = front ++ back }))
    removed-valid valid =
        valid-edited f (front ++ back) standing-same skeleton-same linked ends q n at
        (λ own. valid-removed f front back node o whole own value) valid
