-- Where the instructions of a body may go, by their places in it.
use Rattle.std.proofs.Common.{◌≡◌, ℕ, zero, suc, ◌+◌, ◌<◌, Bool, true, false, ◌&&◌, List, [], ◌∷◌, length, Option, Some, None}
use Rattle.std.proofs.Common.{refl, sym, ap, subst, ◌∙◌, arith, inl, inr}
use Rattle.std.specs.Prelude.{slice_get, option_map, option_and_then, unwrap_or}
use Rattle.std.specs.List.{list_all}
use Rattle.std.proofs.lemmas.Bool.{and_parts}
use Rattle.isa.specs.declared.control.Jump.{Jump}
use Rattle.isa.specs.declared.control.Jump.TheVariants as jump
use Rattle.isa.specs.declared.inst.Inst.{Inst}
use Rattle.isa.specs.declared.inst.Inst.TheVariants as inst
use Rattle.isa.specs.declared.program.Item.{Item}
use Rattle.corestep.specs.declared.table.Table.{Table}
use Rattle.corerun.specs.Code.{Code}
use Rattle.corerun.specs.Items.{Placed, placed, place_aimed, notes_of_placed}
use Rattle.corepath.specs.Flow.{Aims, aim_or, called}
use Rattle.corepath.specs.Path.{own_cost}
use Rattle.helpers.specs.Runs.{StandsAt, aim_in}

-- ---- a test of each place of a body

abbrev pub each_place : (ℕ → Placed → Bool) → ℕ → List Placed → Bool
each_place test p [] = true
each_place test p (x ∷ xs) = test p x && each_place test (p + 1) xs

each_from : (test : ℕ → Placed → Bool) (o p q : ℕ) (xs : List Placed) (x : Placed) → each_place test o xs ≡ true
    → slice_get xs p ≡ Some x → o + p ≡ q → test q x ≡ true
each_from test o p q [] x all is at = absurd (let wrong : ◌≡◌ {A = Option Placed} None (Some x) = is in cc)
each_from test o zero q (y ∷ xs) x all is at =
    let same : y ≡ x = cc in
    let here : o ≡ q = omega arith in
    subst (λ (n : ℕ). test n x ≡ true) here (ap (test o) (sym same) ∙ (and_parts (test o y) (each_place test (o + 1) xs) all).0)
each_from test o (suc p) q (y ∷ xs) x all is at =
    each_from test (o + 1) p q xs x (and_parts (test o y) (each_place test (o + 1) xs) all).1 is (omega arith)

pub each_at : (test : ℕ → Placed → Bool) (p : ℕ) (xs : List Placed) (x : Placed) → each_place test 0 xs ≡ true
    → slice_get xs p ≡ Some x → test p x ≡ true
each_at test p xs x all is = each_from test 0 p p xs x all is (omega arith)

pub there : (xs : List Placed) (p : ℕ) → p < length xs → (x : Placed) × (slice_get xs p ≡ Some x)
there [] p less = absurd (omega arith)
there (x ∷ xs) zero less = (x, refl)
there (x ∷ xs) (suc p) less = there xs p (omega arith)

-- ---- where an instruction goes

abbrev is_return : Jump → Bool
is_return (jump.Word n) = false
is_return (jump.Field f) = true

-- no access, no halt, no call, and no jump but a return
abbrev pub is_tame : Inst → Bool
is_tame (inst.Jmp to) = is_return to
is_tame (inst.Jal d to) = false
is_tame inst.Halt = false
is_tame (inst.Load a) = false
is_tame (inst.Store a) = false
is_tame _ = true

-- the place that it aims at
abbrev pub aim_of : List Item → Placed → Option ℕ
aim_of items x = option_and_then (place_aimed items) x.aim

abbrev pub moves_of : ℕ → Option ℕ → Inst → List ℕ
moves_of p to (inst.Branch condition offset a b) = unwrap_or to p ∷ (p + 1) ∷ []
moves_of p to (inst.Qba offset) = unwrap_or to p ∷ []
moves_of p to (inst.Jmp j) = []
moves_of p to (inst.Jal d j) = []
moves_of p to inst.Halt = []
moves_of p to _ = (p + 1) ∷ []

abbrev pub moves : List Item → ℕ → Placed → List ℕ
moves items p x = moves_of p (aim_of items x) x.inst

none_is : {A : Type 0} (a : A) → ◌≡◌ {A = Option A} None (Some a) → ⊥
none_is a wrong = cc

-- The place of a body at which it comes, of which a test holds that holds of all its moves.
pub record Lands (base : ℕ) (test : ℕ → Bool) (d : ℕ) : Type 0 where
  pub to : ℕ
  pub passes : test to ≡ true
  pub is : d ≡ base + to

module _ (code : Code) (base p : ℕ) (to : Option ℕ) (aim : code.target (base + p) ≡ option_map (λ q. base + q) to) (test : ℕ → Bool) where
  far_by : (o : Option ℕ) → unwrap_or (option_map (λ q. base + q) o) (base + p) ≡ base + unwrap_or o p
  far_by None = refl
  far_by (Some q) = refl

  far : aim_or code (base + p) (base + p) ≡ base + unwrap_or to p
  far = ap (λ (o : Option ℕ). unwrap_or o (base + p)) aim ∙ far_by to

  behind : (d : ℕ) → list_all test ((p + 1) ∷ []) ≡ true → d ≡ base + p + 1 → Lands base test d
  behind d all is = record { to = p + 1; passes = (and_parts (test (p + 1)) true all).0; is = omega (arith, is) }

  pub lands : (i : Inst) (d : ℕ) → is_tame i ≡ true → list_all test (moves_of p to i) ≡ true → Aims code (base + p) i d → Lands base test d
  lands (inst.Branch condition offset a b) d tame all aims =
      let both = and_parts (test (unwrap_or to p)) (list_all test ((p + 1) ∷ [])) all in
      elim aims [
        | inl is ↦ record { to = unwrap_or to p; passes = both.0; is = is ∙ far }
        | inr is ↦ behind d both.1 is
      ]
  lands (inst.Qba offset) d tame all aims =
      record { to = unwrap_or to p; passes = (and_parts (test (unwrap_or to p)) true all).0; is = aims ∙ far }
  lands (inst.Jmp (jump.Word n)) d tame all aims = absurd (let wrong : false ≡ true = tame in cc)
  lands (inst.Jmp (jump.Field f)) d tame all aims = absurd (none_is d aims)
  lands (inst.Jal field j) d tame all aims = absurd aims
  lands inst.Halt d tame all aims = absurd aims
  lands (inst.Alu op x a b) d tame all aims = behind d all aims
  lands (inst.Not x a) d tame all aims = behind d all aims
  lands (inst.Ldi x n) d tame all aims = behind d all aims
  lands (inst.Lmbd x a b) d tame all aims = behind d all aims
  lands (inst.Xin t) d tame all aims = behind d all aims
  lands (inst.Xout t) d tame all aims = behind d all aims
  lands (inst.Loop body) d tame all aims = behind d all aims
  lands (inst.Load a) d tame all aims = behind d all aims
  lands (inst.Store a) d tame all aims = behind d all aims

pub tame_cost : (table : Table) (i : Inst) → is_tame i ≡ true → own_cost table i ≡ 1
tame_cost table (inst.Branch condition offset a b) tame = refl
tame_cost table (inst.Qba offset) tame = refl
tame_cost table (inst.Jmp j) tame = refl
tame_cost table (inst.Jal field j) tame = refl
tame_cost table inst.Halt tame = refl
tame_cost table (inst.Alu op x a b) tame = refl
tame_cost table (inst.Not x a) tame = refl
tame_cost table (inst.Ldi x n) tame = refl
tame_cost table (inst.Lmbd x a b) tame = refl
tame_cost table (inst.Xin t) tame = refl
tame_cost table (inst.Xout t) tame = refl
tame_cost table (inst.Loop body) tame = refl
tame_cost table (inst.Load a) tame = absurd (let wrong : false ≡ true = tame in cc)
tame_cost table (inst.Store a) tame = absurd (let wrong : false ≡ true = tame in cc)

pub tame_calls : (code : Code) (w f : ℕ) (i : Inst) → is_tame i ≡ true → called code w i ≡ Some f → ⊥
tame_calls code w f (inst.Branch condition offset a b) tame is = none_is f is
tame_calls code w f (inst.Qba offset) tame is = none_is f is
tame_calls code w f (inst.Jmp j) tame is = none_is f is
tame_calls code w f (inst.Jal field j) tame is = let wrong : false ≡ true = tame in cc
tame_calls code w f inst.Halt tame is = none_is f is
tame_calls code w f (inst.Alu op x a b) tame is = none_is f is
tame_calls code w f (inst.Not x a) tame is = none_is f is
tame_calls code w f (inst.Ldi x n) tame is = none_is f is
tame_calls code w f (inst.Lmbd x a b) tame is = none_is f is
tame_calls code w f (inst.Xin t) tame is = none_is f is
tame_calls code w f (inst.Xout t) tame is = none_is f is
tame_calls code w f (inst.Loop body) tame is = none_is f is
tame_calls code w f (inst.Load a) tame is = none_is f is
tame_calls code w f (inst.Store a) tame is = none_is f is

-- ---- a place of a body that stands in a code

-- what stands there
pub record Stood (code : Code) (base : ℕ) (items : List Item) (p : ℕ) : Type 0 where
  pub x : Placed
  pub at : slice_get (placed [] items) p ≡ Some x
  pub inst : code.inst (base + p) ≡ Some x.inst
  pub notes : code.notes (base + p) ≡ x.notes
  pub aim : code.target (base + p) ≡ option_map (λ q. base + q) (aim_of items x)

pub stood : (code : Code) (base : ℕ) (items : List Item) (p : ℕ) → StandsAt code base items → p < length (placed [] items)
    → Stood code base items p
stood code base items p stands less =
    let here = there (placed [] items) p less in
    let at : slice_get (placed [] items) p ≡ Some here.0 = here.1 in
    record {
      x = here.0;
      at = at;
      inst = stands.inst p less ∙ ap (option_map (λ x. x.inst)) at;
      notes = stands.notes p less ∙ ap notes_of_placed at;
      aim = stands.target p less ∙ ap (aim_in items base) at;
    }
