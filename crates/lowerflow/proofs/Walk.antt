-- Going through a code from its first operation to its end.
use Rattle.std.proofs.Common.{◌≡◌, ℕ, ◌+◌, ◌*◌, ◌^◌, ◌<◌, ◌≤◌, Bool, true, false, not, if◌then◌else◌, nat_lt, List, [], ◌∷◌, ◌++◌, length, take}
use Rattle.std.proofs.Common.{refl, sym, subst, ap, ◌∙◌, arith, Option, Some, None, slice_get, length-append}
use Rattle.std.specs.List.{AllByRecursion}
use Rattle.behaviour.specs.Ran.{Ran}
use Rattle.behaviour.proofs.SimulatesLemmas.{simulates-from}
use Rattle.prunum.specs.Number.{wrap}
use Rattle.prunum.specs.declared.width.Width.TheVariants.{B4}
use Rattle.csyn.specs.declared.specifiers.Sign.{Sign}
use Rattle.midcode.specs.declared.register.VReg.{VReg}
use Rattle.midcode.specs.declared.register.Label.{Label}
use Rattle.midcode.specs.declared.op.Test.{Test}
use Rattle.midcode.specs.declared.op.OpKind.{OpKind}
use Rattle.midcode.specs.declared.op.OpKind.TheVariants as op
use Rattle.midcode.specs.Function.{standing}
use Rattle.midcode.specs.Meaning.{standing_at, is_met, charged}
use Rattle.midcode.specs.Region.{is_before}
use Rattle.cmean.specs.declared.undefined.UndefinedStep.{UndefinedStep}
use Rattle.cmean.specs.Datum.{Datum, Number}
use Rattle.cmean.specs.State.{State}
use Rattle.lowerstate.specs.Held.{Meant, meant_width, Held}
use Rattle.lowerstate.specs.Counted.{Counted, counted, least_of}
use Rattle.lowerstate.specs.Related.{Fixed, Call, IsCall, Point, homes_with, Related}
use Rattle.lowerstate.specs.Stands.{Ends, Does}
use Rattle.lowerstate.specs.Piece.{StandsAt, word, register}
use Rattle.lowerstate.specs.PieceLaws.{owed_behind, Moved}
use Rattle.lowerstate.proofs.Agree.{wrap-small}
use Rattle.lowerstate.proofs.Laws.{wrote}
use Rattle.lowerstate.proofs.Numbers.{got}
use Rattle.lowerstate.proofs.Room.{held-below, stored-within}
use Rattle.lowerstate.proofs.Places.{stands-first, stands-left, stands-right}
use Rattle.lowerstate.proofs.Pieces.{adjust}
use Rattle.lowerstate.proofs.Jumps.{label-does, jump-does, branch-does}
use Rattle.lowerflow.proofs.Labels.{label-at, before-place}

-- ---- what is left of a code

-- a code by its parts: pieces, and operations between them
pub data Part : Type 0 where
  Piece : List OpKind → Part
  One : OpKind → Part

abbrev pub flat : List Part → List OpKind
flat [] = []
flat (Piece a ∷ parts) = a ++ flat parts
flat (One k ∷ parts) = k ∷ flat parts

-- the rest of a code stands here, and ends there
pub record Rest (all : List OpKind) (parts : List Part) (place end : ℕ) : Type 0 where
  pub stands : StandsAt all (flat parts) place
  pub last : place + length (flat parts) ≡ end

pub rest-of : (all : List OpKind) (parts : List Part) (place : ℕ) → StandsAt all (flat parts) place
    → Rest all parts place (place + length (flat parts))
rest-of all parts place stands = record { stands = stands; last = refl }

module _ {all : List OpKind} {rest : List Part} {place end : ℕ} where
  pub piece : {a : List OpKind} → Rest all (Piece a ∷ rest) place end → StandsAt all a place
  piece {a = a} r = stands-left all a (flat rest) place r.stands

  pub behind-piece : {a : List OpKind} → Rest all (Piece a ∷ rest) place end → Rest all rest (place + length a) end
  behind-piece {a = a} r = record {
    stands = stands-right all a (flat rest) place r.stands;
    last = let whole = r.last in let long = length-append a (flat rest) in omega (arith, whole, long);
  }

  pub operation : {k : OpKind} → Rest all (One k ∷ rest) place end → slice_get all place ≡ Some k
  operation {k = k} r = stands-first all (flat rest) place k r.stands

  pub behind-op : {k : OpKind} → Rest all (One k ∷ rest) place end → Rest all rest (place + 1) end
  behind-op {k = k} r = record {
    stands = stands-right all (k ∷ []) (flat rest) place r.stands;
    last = let whole = r.last in omega (arith, whole);
  }

pub at-end : {all : List OpKind} {place end : ℕ} → Rest all [] place end → place ≡ end
at-end {place = place} {end = end} r = let whole = r.last in omega (arith, whole)

-- ---- operations that only go somewhere

owed-less : (b : Bool) (n : ℕ) → (if b then 0 else n) ≤ n
owed-less true n = omega arith
owed-less false n = omega arith

owed-none : (b : Bool) (n : ℕ) → b ≡ true → (if b then 0 else n) ≤ 0
owed-none true n is = omega arith
owed-none false n is = absurd cc

solid-one : (b : Bool) → b ≡ true → nat_lt 0 (if b then 1 else 0) ≡ true
solid-one true is = refl
solid-one false is = absurd cc

module _ (r : Fixed) (c : Call) (call : IsCall r c) where
  -- a label of the function, by where it stands
  pub label-place : (l : Label) (place : ℕ) → slice_get c.ops place ≡ Some (op.Label l) → standing_at c.ops l.0 ≡ place
  label-place l place is = label-at c.ops place l call.once is

  module _ {A : Type 0} (D : A → State → Counted → Type 0) (run : Ran UndefinedStep State A) (x : Point) (s : State) (m : Counted)
      (few : x.owed ≤ r.most) (related : Related r c x s m) where
    abbrev is_least : OpKind → Bool
    is_least k = nat_lt 0 (least_of (standing (take x.place c.ops)) k)

    moved : (k : OpKind) (place hand : ℕ) → Moved r c x k place hand s m
        → ((m' : Counted) → Related r c (record x { place = place; hand = hand; owed = owed_behind c.ops x k }) s m' → Does r D run m')
        → Does r D run m
    moved k place hand to rest =
        simulates-from (counted r.program r.addresses) (Ends r) D run m to.0 to.1 (rest to.0 to.2)

    less-owed : (k : OpKind) (place hand owed : ℕ) → owed_behind c.ops x k ≤ owed → Moved r c x k place hand s m
        → ((m' : Counted) → Related r c (record x { place = place; hand = hand; owed = owed }) s m' → Does r D run m')
        → Does r D run m
    less-owed k place hand owed few to rest =
        moved k place hand to (λ m' at. rest m' (adjust r c (record x { place = place; hand = hand; owed = owed_behind c.ops x k })
        (record x { place = place; hand = hand; owed = owed }) s m' refl (omega arith) few (omega arith) at at.kept))

    pub go-label : (l : Label) → slice_get c.ops x.place ≡ Some (op.Label l)
        → ((m' : Counted) → Related r c (record x { place = x.place + 1 }) s m' → Does r D run m') → Does r D run m
    go-label l is rest =
        less-owed (op.Label l) (x.place + 1) x.hand x.owed (owed-less (is_least (op.Label l)) x.owed)
        (label-does r c call x s m x.hand few related l is (omega arith)) rest

    pub go-jump : (l : Label) (hand : ℕ) → slice_get c.ops x.place ≡ Some (op.Jump l) → 1 + hand ≤ x.hand
        → ((m' : Counted) → Related r c (record x { place = standing_at c.ops l.0; hand = hand }) s m' → Does r D run m') → Does r D run m
    go-jump l hand is paid rest =
        less-owed (op.Jump l) (standing_at c.ops l.0) hand x.owed (owed-less (is_least (op.Jump l)) x.owed)
        (jump-does r c call x s m hand few related l is paid) rest

    -- nothing is owed behind a jump back
    pub go-back : (l : Label) (at hand : ℕ) → slice_get c.ops x.place ≡ Some (op.Jump l) → slice_get c.ops at ≡ Some (op.Label l)
        → at < x.place → 1 + hand ≤ x.hand
        → ((m' : Counted) → Related r c (record x { place = standing_at c.ops l.0; hand = hand; owed = 0 }) s m' → Does r D run m')
        → Does r D run m
    go-back l at hand is label before paid rest =
        less-owed (op.Jump l) (standing_at c.ops l.0) hand 0
        (owed-none (is_least (op.Jump l)) x.owed
        (solid-one (is_before (standing (take x.place c.ops)) l.0) (before-place c.ops at x.place l before label)))
        (jump-does r c call x s m hand few related l is paid) rest

    pub go-branch : (left : VReg) (test : Test) (v : ℕ) (to : Label) (hand : ℕ) (b : Bool)
        → slice_get c.ops x.place ≡ Some (op.Branch left test 0 to None) → m.state.frame.registers left.0 ≡ Some v
        → is_met test v 0 ≡ b → 9 + hand ≤ x.hand
        → ((m' : Counted) → Related r c (record x { place = if b then standing_at c.ops to.0 else x.place + 1; hand = hand }) s m'
        → Does r D run m') → Does r D run m
    go-branch left test v to hand b is reg met paid rest =
        less-owed (op.Branch left test 0 to None) (if b then standing_at c.ops to.0 else x.place + 1) hand x.owed
        (owed-less (is_least (op.Branch left test 0 to None)) x.owed)
        (subst (λ b. Moved r c x (op.Branch left test 0 to None) (if b then standing_at c.ops to.0 else x.place + 1) hand s m) met
        (branch-does r c call x s m hand few related left test v 0 to is reg paid)) rest

    pub go-branch-back : (left : VReg) (test : Test) (v : ℕ) (to : Label) (at hand : ℕ) (b : Bool)
        → slice_get c.ops x.place ≡ Some (op.Branch left test 0 to None) → slice_get c.ops at ≡ Some (op.Label to) → at < x.place
        → m.state.frame.registers left.0 ≡ Some v → is_met test v 0 ≡ b → 9 + hand ≤ x.hand
        → ((m' : Counted) → Related r c (record x { place = if b then standing_at c.ops to.0 else x.place + 1; hand = hand; owed = 0 }) s m'
        → Does r D run m') → Does r D run m
    go-branch-back left test v to at hand b is label before reg met paid rest =
        less-owed (op.Branch left test 0 to None) (if b then standing_at c.ops to.0 else x.place + 1) hand 0
        (owed-none (is_least (op.Branch left test 0 to None)) x.owed
        (solid-one (is_before (standing (take x.place c.ops)) to.0) (before-place c.ops at x.place to before label)))
        (subst (λ b. Moved r c x (op.Branch left test 0 to None) (if b then standing_at c.ops to.0 else x.place + 1) hand s m) met
        (branch-does r c call x s m hand few related left test v 0 to is reg paid)) rest

-- ---- operations that write a value to a free register

module _ (r : Fixed) (c : Call) (call : IsCall r c) {A : Type 0} (D : A → State → Counted → Type 0) (run : Ran UndefinedStep State A)
    (x : Point) (s : State) (m : Counted) (q hand : ℕ) (free : c.variables ≤ q) (below : AllByRecursion (λ k. k.register < q) x.kept) where
  pub go-constant : (n : ℕ) (sign : Sign) → n < 2 ^ 32 → slice_get c.ops x.place ≡ Some (op.Constant (register q) n)
      → slice_get c.widths q ≡ Some B4 → 6 + hand ≤ x.hand → Related r c x s m
      → ((m' : Counted) → Related r c (record x {
        place = x.place + 1;
        kept = record { register = q; meant = word sign; datum = Number n } ∷ x.kept;
        hand = hand;
      }) s m' → Does r D run m') → Does r D run m
  go-constant n sign small is width paid related rest =
      let done = wrote r c call x s m (op.Constant (register q) n) (register q) B4 (word sign) (Number n) n hand x.kept related is width
      free below related.kept refl (wrap-small B4 n small, small) paid in
      simulates-from (counted r.program r.addresses) (Ends r) D run m done.0 done.1 (rest done.0 done.2)

  pub go-copy : (from : ℕ) (t : Meant) (d : Datum) → slice_get c.ops x.place ≡ Some (op.Copy (register q) (register from))
      → slice_get c.widths q ≡ Some (meant_width t) → 10 + hand ≤ x.hand
      → Related r c (record x { kept = record { register = from; meant = t; datum = d } ∷ x.kept }) s m
      → ((m' : Counted) → Related r c (record x {
        place = x.place + 1;
        kept = record { register = q; meant = t; datum = d } ∷ x.kept;
        hand = hand;
      }) s m' → Does r D run m') → Does r D run m
  go-copy from t d is width paid related rest =
      let y : Point = record x { kept = record { register = from; meant = t; datum = d } ∷ x.kept } in
      let k : OpKind = op.Copy (register q) (register from) in
      let old = related.kept.0 in
      let small = held-below r.layouts (homes_with c related.later) t d old.0 (stored-within r c y s m related) old.2 in
      let same : wrap (meant_width t) old.0 ≡ old.0 = wrap-small (meant_width t) old.0 small in
      let done = wrote r c call y s m k (register q) (meant_width t) t d old.0 hand x.kept related is width
      free below related.kept.1 (got (charged k m.state) (register from) old.0 _ old.1)
      (subst (λ v. Held r.layouts (homes_with c related.later) t d v) (sym same) old.2) paid in
      simulates-from (counted r.program r.addresses) (Ends r) D run m done.0 done.1 (rest done.0 done.2)
