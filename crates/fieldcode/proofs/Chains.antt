-- What chains of instructions do: each goes on with what the one before left in R1.
use Rattle.std.proofs.Common.{◌≡◌, ℕ, ◌+◌, ◌*◌, ◌%◌, ◌^◌, ◌<◌, ◌≤◌, Bool, true, false, List, [], ◌∷◌, ◌++◌, length, refl, sym, ap, ◌∙◌}
use Rattle.std.proofs.Common.{arith, inl, inr, ◌⊎◌, lit<, lit≤}
use Rattle.prunum.specs.Bytes.{little_number}
use Rattle.isa.specs.declared.field.Field.{Field}
use Rattle.isa.specs.declared.field.Operand.{Operand}
use Rattle.isa.specs.declared.field.Operand.TheVariants as operand
use Rattle.isa.specs.declared.inst.Inst.{Inst}
use Rattle.corestep.specs.Fields.{place_of, part_length}
use Rattle.fieldcode.specs.Homes.{AreApart, IsApartFrom, work_scratch, Keeps}
use Rattle.fieldcode.specs.Insts.{between}
use Rattle.fieldcode.specs.Runs.{Does, Straight, none, next}
use Rattle.fieldcode.specs.Works.{Action, Work, inst_of, chained, work_code}
use Rattle.fieldcode.proofs.Steps.{number_of, operand_number, put, IsLow, operand_in, acted, given_by, action_does}
use Rattle.fieldcode.proofs.Steps.{put_size, put_same, put_other, put_keeps, keeps_all, keeps_more, inner}

-- ---- instructions one behind the other

pub joined : (is js : List Inst) (a r b s c t : List ℕ) → Straight is a r b s → Straight js b s c t → Straight (is ++ js) a r c t
joined _ js _ _ _ _ c t (none b s) more = more
joined _ js _ _ _ _ c t (next i is a r m n b s does rest) more =
    next i (is ++ js) a r m n c t does (joined is js m n b s c t rest more)

-- ---- operands

-- in R0 to R29, and not in R1
abbrev pub IsFree : Operand → Type 0
IsFree (operand.Field f) = (f.reg < 30) × AreApart (place_of f) (part_length f.part) 4 4
IsFree (operand.Imm n) = Unit {0}

abbrev pub AllFree : List Action → Type 0
AllFree [] = Unit {0}
AllFree (x ∷ xs) = IsFree (operand_in x) × AllFree xs

pub low_of : (o : Operand) → IsFree o → IsLow o
low_of (operand.Field f) free = free.0
low_of (operand.Imm n) free = tt

same_operand : (n : ℕ) (registers : List ℕ) (o : Operand) → length registers ≡ 124 → IsFree o
    → operand_number (put between n registers) o ≡ operand_number registers o
same_operand n registers (operand.Field f) full free =
    ap (little_number (part_length f.part)) (put_other between n registers (lit< tt) full (place_of f) (part_length f.part) free.1)
same_operand n registers (operand.Imm m) full free = refl

-- ---- what a chain gives

-- of a number that it begins with
abbrev pub chain_value : List ℕ → ℕ → List Action → ℕ
chain_value registers x [] = x
chain_value registers x (c ∷ []) = acted c x (operand_number registers (operand_in c))
chain_value registers x (c ∷ d ∷ cs) = chain_value registers (acted c x (operand_number registers (operand_in c)) % 2 ^ 32) (d ∷ cs)

same_chain : (n : ℕ) (registers : List ℕ) (x : ℕ) (cs : List Action) → length registers ≡ 124 → AllFree cs
    → chain_value (put between n registers) x cs ≡ chain_value registers x cs
same_chain n registers x [] full free = refl
same_chain n registers x (c ∷ []) full free = ap (acted c x) (same_operand n registers (operand_in c) full free.0)
same_chain n registers x (c ∷ d ∷ cs) full free =
    let after : List ℕ = put between n registers in
    ap (λ y. chain_value after (acted c x y % 2 ^ 32) (d ∷ cs)) (same_operand n registers (operand_in c) full free.0)
    ∙ same_chain n registers (acted c x (operand_number registers (operand_in c)) % 2 ^ 32) (d ∷ cs) full free.1

-- ---- works

abbrev pub work_ranges : Field → List (ℕ × ℕ)
work_ranges d = (place_of d, part_length d.part) ∷ work_scratch

-- Some instructions leave a number in a field, cut to it, and change nothing else but the scratch of works.
pub record Worked (code : List Inst) (d : Field) (n : ℕ) (registers ram : List ℕ) : Type 0 where
  pub after : List ℕ
  pub straight : Straight code registers ram after ram
  pub value : number_of after d ≡ n % 2 ^ (8 * part_length d.part)
  pub kept : Keeps (work_ranges d) registers after

pub single : (i : Inst) (d : Field) (n : ℕ) (registers ram : List ℕ) → d.reg < 30 → length registers ≡ 124
    → Does i registers ram (put d n registers) ram → Worked (i ∷ []) d n registers ram
single i d n registers ram low full does = record {
  after = put d n registers;
  straight = next i [] registers ram (put d n registers) ram (put d n registers) ram does (none (put d n registers) ram);
  value = put_same d n registers low full;
  kept = put_keeps d n registers low full (work_ranges d) (λ at len from. from.0);
}

-- what is apart from R0 to R2 is apart from R1
apart_between : (d : Field) (at len : ℕ) → IsApartFrom at len (work_ranges d) → AreApart at len 4 4
apart_between d at len from = inner at len 0 12 4 4 (lit≤ tt) (lit≤ tt) from.1.0

pub chain_does : (d a : Field) (x : Action) (xs : List Action) (registers ram : List ℕ) → length registers ≡ 124 → d.reg < 30 → a.reg < 30
    → AllFree (x ∷ xs) → Worked (chained d a (x ∷ xs)) d (chain_value registers (number_of registers a) (x ∷ xs)) registers ram
chain_does d a x [] registers ram full low left free =
    single (inst_of x d a) d (given_by registers x a) registers ram low full
    (action_does x d a registers ram low left (low_of (operand_in x) free.0))
chain_does d a x (y ∷ ys) registers ram full low left free =
    let n : ℕ = given_by registers x a in
    let middle : List ℕ = put between n registers in
    let rest : Worked (chained d between (y ∷ ys)) d (chain_value middle (number_of middle between) (y ∷ ys)) middle ram =
    chain_does d between y ys middle ram (put_size between n registers (lit< tt) full) low (lit< tt) free.1 in
    let begun : number_of middle between ≡ n % 2 ^ 32 = put_same between n registers (lit< tt) full in
    record {
      after = rest.after;
      straight = next (inst_of x between a) (chained d between (y ∷ ys)) registers ram middle ram rest.after ram
          (action_does x between a registers ram (lit< tt) left (low_of (operand_in x) free.0)) rest.straight;
      value = rest.value ∙ ap (λ v. v % 2 ^ (8 * part_length d.part))
          (ap (λ v. chain_value middle v (y ∷ ys)) begun ∙ same_chain n registers (n % 2 ^ 32) (y ∷ ys) full free.1);
      kept = keeps_all (work_ranges d) registers middle rest.after
          (put_keeps between n registers (lit< tt) full (work_ranges d) (apart_between d)) rest.kept;
    }
