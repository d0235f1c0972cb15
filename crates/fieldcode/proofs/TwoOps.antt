-- Operations with two operands, from homes to homes.
use Rattle.std.proofs.Common.{◌≡◌, ℕ, ◌+◌, ◌-◌, ◌*◌, ◌/◌, ◌%◌, ◌^◌, ◌<◌, ◌≤◌, Bool, true, false, List, [], ◌∷◌, ◌++◌, length, refl, sym, ap}
use Rattle.std.proofs.Common.{◌∙◌, arith, inl, inr, ◌⊎◌, lit<, lit≤, subst}
use Rattle.std.specs.Prelude.{if◌then◌else◌, nat_le}
use Rattle.prunum.specs.Bytes.{little_number}
use Rattle.prunum.specs.declared.width.Width.{Width}
use Rattle.prunum.specs.Width.{byte_count}
use Rattle.isa.specs.declared.field.Field.{Field}
use Rattle.isa.specs.declared.field.Operand.{Operand}
use Rattle.isa.specs.declared.field.Operand.TheVariants as operand
use Rattle.isa.specs.declared.inst.Inst.{Inst}
use Rattle.midcode.specs.declared.op.BinaryOp.{BinaryOp}
use Rattle.midcode.specs.declared.op.BinaryOp.TheVariants as binary
use Rattle.midcode.specs.Value.{binary_value}
use Rattle.corestep.specs.Fields.{bytes_at, place_of, part_length}
use Rattle.subreg.specs.declared.home.Home.{Home}
use Rattle.subreg.specs.declared.home.Home.TheVariants as home
use Rattle.fieldcode.specs.Homes.{Holds, AreApart, IsApartFrom, Keeps, work_scratch, scratch, register_ranges}
use Rattle.fieldcode.specs.Insts.{whole, constant}
use Rattle.fieldcode.specs.Runs.{Straight, none}
use Rattle.fieldcode.specs.Works.{work_code, binary_work, is_direct}
use Rattle.fieldcode.specs.Values.{Place, Right, InPlace, Constant, sink, left_source, right_source, OperandSource, two_code, reduced}
use Rattle.fieldcode.specs.Effects.{HasRoom, IsPlace, IsRight, HasValue, HasRight, IsPut, Puts}
use Rattle.fieldcode.proofs.Steps.{number_of, operand_number, keeps_all, keeps_more, inner}
use Rattle.fieldcode.proofs.Chains.{joined, Worked, work_ranges}
use Rattle.fieldcode.proofs.Constants.{constant_does}
use Rattle.fieldcode.proofs.Setups.{IsClear}
use Rattle.fieldcode.proofs.Slots.{fetch_ranges}
use Rattle.fieldcode.proofs.Works.{AreReady, binary_does}
use Rattle.fieldcode.proofs.Ops.{fits_word, finish, sink_low, Got, got, still, fetch_scratch}
use Rattle.fieldcode.proofs.Shifts.{taken_modulo}

-- ---- the right operand

-- R27 and the scratch of works
abbrev right_ranges : List (ℕ × ℕ)
right_ranges = (108, 4) ∷ work_scratch

record GotRight (code : List Inst) (o : Operand) (v : ℕ) (registers ram : List ℕ) : Type 0 where
  after : List ℕ
  straight : Straight code registers ram after ram
  kept : Keeps right_ranges registers after
  clear : IsClear o
  value : operand_number after o ≡ v

abbrev imm_source : ℕ → OperandSource
imm_source n = record { fetch = []; operand = operand.Imm n }

abbrev loaded_source : ℕ → OperandSource
loaded_source n = record { fetch = constant (whole 27) n; operand = operand.Field (whole 27) }

number_by : (n v : ℕ) (registers ram : List ℕ) (l : Bool) → n ≡ v → v < 2 ^ 32 → length registers ≡ 124 → (s : OperandSource)
    → (if l then imm_source n else loaded_source n) ≡ s
    → GotRight s.fetch s.operand v registers ram
number_by n v registers ram true is fits full s same =
    subst (λ (s : OperandSource). GotRight s.fetch s.operand v registers ram) same (record {
      after = registers;
      straight = none registers ram;
      kept = record { size = refl; others = λ at len from. refl };
      clear = tt;
      value = is;
    })
number_by n v registers ram false is fits full s same =
    let few : n < 2 ^ 32 = omega (arith, is, fits) in
    let did : Worked (constant (whole 27) n) (whole 27) n registers ram = constant_does (whole 27) n registers ram (lit< tt) few full in
    subst (λ (s : OperandSource). GotRight s.fetch s.operand v registers ram) same (record {
      after = did.after;
      straight = did.straight;
      kept = did.kept;
      clear = (lit< tt, (inr (lit≤ tt), (inr (lit≤ tt), tt)));
      value = did.value ∙ (let e : n % 2 ^ 32 ≡ v = omega (arith, is, fits) in e);
    })

got_right : (slots spills : ℕ) (right : Right) (v : ℕ) (registers ram : List ℕ) → IsRight spills right → HasRoom slots spills registers ram
    → HasRight slots right registers ram v
    → GotRight (right_source slots right).fetch (right_source slots right).operand v registers ram
got_right slots spills (InPlace p) v registers ram lives core holds =
    let did = got slots spills p.width p.home 1 v registers ram lives core holds in
    record {
      after = did.after;
      straight = did.straight;
      kept = keeps_more (fetch_ranges 1) right_ranges registers did.after (λ at len from. (from.1.0, (from.0, tt))) did.kept;
      clear = did.clear;
      value = did.value;
    }
got_right slots spills (Constant n) v registers ram lives core holds =
    number_by n v registers ram (nat_le n 255) holds.0 holds.1 core.full (right_source slots (Constant n)) refl

still_right : (slots spills : ℕ) (right : Right) (v : ℕ) (registers after ram : List ℕ) → IsRight spills right
    → Keeps scratch registers after → HasRight slots right registers ram v → HasRight slots right after ram v
still_right slots spills (InPlace p) v registers after ram lives kept holds =
    still slots spills p.width p.home v registers after ram lives kept holds
still_right slots spills (Constant n) v registers after ram lives kept holds = holds

right_fits : (slots : ℕ) (right : Right) (v : ℕ) (registers ram : List ℕ) → HasRight slots right registers ram v → v < 2 ^ 32
right_fits slots (InPlace p) v registers ram holds = fits_word p.width v holds.fits
right_fits slots (Constant n) v registers ram holds = holds.1

-- ---- instructions before

scratch_of : (w : Width) (h : Home) (at len : ℕ) → IsApartFrom at len (register_ranges w h) → IsApartFrom at len scratch
scratch_of w (home.Field f) at len from = from.1
scratch_of w (home.Slot n) at len from = from

before : (slots : ℕ) (to : Place) (n : ℕ) (pre is : List Inst) (registers middle ram : List ℕ) → Straight pre registers ram middle ram
    → Keeps scratch registers middle → Puts slots to n is middle ram → Puts slots to n (pre ++ is) registers ram
before slots to n pre is registers middle ram straight kept did = record {
  after = did.after;
  left = did.left;
  straight = joined pre is registers ram middle ram did.after did.left straight did.straight;
  put = record {
    value = did.put.value;
    kept = keeps_all (register_ranges to.width to.home) registers middle did.after
        (keeps_more scratch (register_ranges to.width to.home) registers middle (scratch_of to.width to.home) kept) did.put.kept;
    ram_kept = did.put.ram_kept;
  };
}

-- ---- shifts by numbers

-- a right operand that gives the same
record Same (slots : ℕ) (o : BinaryOp) (x y : ℕ) (right : Right) (registers ram : List ℕ) (spills : ℕ) : Type 0 where
  number : ℕ
  has : HasRight slots right registers ram number
  lives : IsRight spills right
  gives : binary_value o x number ≡ binary_value o x y

modulo : (n y : ℕ) → n ≡ y → n % 32 % 32 ≡ y % 32
modulo n y is = omega (arith, is)

abbrev SameReduced : ℕ → BinaryOp → ℕ → ℕ → Right → List ℕ → List ℕ → ℕ → Type 0
SameReduced slots o x y right registers ram spills = Same slots o x y (reduced o right) registers ram spills

reduce : (slots spills : ℕ) (o : BinaryOp) (x y : ℕ) (right : Right) (registers ram : List ℕ) → IsRight spills right
    → HasRight slots right registers ram y → SameReduced slots o x y right registers ram spills
unfolding binary_value
reduce slots spills binary.ShiftLeft x y (InPlace p) registers ram lives holds =
    record { number = y; has = holds; lives = lives; gives = refl }
reduce slots spills binary.ShiftLeft x y (Constant n) registers ram lives holds = record {
  number = n % 32;
  has = (refl, (let e : n % 32 < 2 ^ 32 = omega arith in e));
  lives = tt;
  gives = ap (λ i. x * 2 ^ i % 2 ^ 32) (modulo n y holds.0);
}
reduce slots spills binary.ShiftRight x y (InPlace p) registers ram lives holds =
    record { number = y; has = holds; lives = lives; gives = refl }
reduce slots spills binary.ShiftRight x y (Constant n) registers ram lives holds = record {
  number = n % 32;
  has = (refl, (let e : n % 32 < 2 ^ 32 = omega arith in e));
  lives = tt;
  gives = ap (λ i. x / 2 ^ i) (modulo n y holds.0);
}
reduce slots spills binary.ShiftRightSigned x y (InPlace p) registers ram lives holds =
    record { number = y; has = holds; lives = lives; gives = refl }
reduce slots spills binary.ShiftRightSigned x y (Constant n) registers ram lives holds = record {
  number = n % 32;
  has = (refl, (let e : n % 32 < 2 ^ 32 = omega arith in e));
  lives = tt;
  gives = taken_modulo x n ∙ ap (binary_value binary.ShiftRightSigned x) holds.0;
}
reduce slots spills binary.Add x y right registers ram lives holds = record { number = y; has = holds; lives = lives; gives = refl }
reduce slots spills binary.Subtract x y right registers ram lives holds = record { number = y; has = holds; lives = lives; gives = refl }
reduce slots spills binary.And x y right registers ram lives holds = record { number = y; has = holds; lives = lives; gives = refl }
reduce slots spills binary.Or x y right registers ram lives holds = record { number = y; has = holds; lives = lives; gives = refl }
reduce slots spills binary.Xor x y right registers ram lives holds = record { number = y; has = holds; lives = lives; gives = refl }
reduce slots spills binary.Multiply x y right registers ram lives holds = record { number = y; has = holds; lives = lives; gives = refl }
reduce slots spills binary.Quotient x y right registers ram lives holds = record { number = y; has = holds; lives = lives; gives = refl }
reduce slots spills binary.QuotientSigned x y right registers ram lives holds =
    record { number = y; has = holds; lives = lives; gives = refl }
reduce slots spills binary.Remainder x y right registers ram lives holds = record { number = y; has = holds; lives = lives; gives = refl }
reduce slots spills binary.RemainderSigned x y right registers ram lives holds =
    record { number = y; has = holds; lives = lives; gives = refl }
reduce slots spills binary.Equal x y right registers ram lives holds = record { number = y; has = holds; lives = lives; gives = refl }
reduce slots spills binary.NotEqual x y right registers ram lives holds = record { number = y; has = holds; lives = lives; gives = refl }
reduce slots spills binary.Less x y right registers ram lives holds = record { number = y; has = holds; lives = lives; gives = refl }
reduce slots spills binary.LessSigned x y right registers ram lives holds = record { number = y; has = holds; lives = lives; gives = refl }
reduce slots spills binary.LessOrEqual x y right registers ram lives holds = record { number = y; has = holds; lives = lives; gives = refl }
reduce slots spills binary.LessOrEqualSigned x y right registers ram lives holds =
    record { number = y; has = holds; lives = lives; gives = refl }
reduce slots spills binary.LeftmostBit x y right registers ram lives holds = record { number = y; has = holds; lives = lives; gives = refl }

-- ---- operations

module _ (slots spills : ℕ) (o : BinaryOp) (to from : Place) (registers ram : List ℕ) (core : HasRoom slots spills registers ram)
    (direct : is_direct o ≡ true) (to_lives : IsPlace spills to) (from_lives : IsPlace spills from) (x : ℕ)
    (holds : HasValue slots from registers ram x) where
  direct_puts : (right : Right) (y : ℕ) → IsRight spills right → HasRight slots right registers ram y
      → Puts slots to (binary_value o x y) ((left_source slots from).fetch ++ ((right_source slots right).fetch
      ++ (work_code (binary_work o (left_source slots from).field (right_source slots right).operand) (sink slots to).field
      ++ (sink slots to).keep))) registers ram
  direct_puts right y right_lives right_holds =
      let d : Field = (sink slots to).field in
      let a : Field = (left_source slots from).field in
      let b : Operand = (right_source slots right).operand in
      let first : Got (left_source slots from).fetch 0 a x registers ram =
      got slots spills from.width from.home 0 x registers ram from_lives core holds in
      let kept : Keeps scratch registers first.after =
      keeps_more (fetch_ranges 0) scratch registers first.after (λ at len apart. fetch_scratch 0 at len (lit< tt) apart) first.kept in
      let room : HasRoom slots spills first.after ram =
      record { full = first.kept.size ∙ core.full; ram_full = core.ram_full; room = core.room } in
      let second : GotRight (right_source slots right).fetch b y first.after ram =
      got_right slots spills right y first.after ram right_lives room
      (still_right slots spills right y registers first.after ram right_lives kept right_holds) in
      let left_value : number_of second.after a ≡ x =
      ap (little_number (part_length a.part)) (second.kept.others (place_of a) (part_length a.part) (inl first.ends, first.clear.1))
      ∙ first.value in
      let ready : AreReady d a b second.after = record {
        full = second.kept.size ∙ room.full;
        low = sink_low slots spills to.width to.home to_lives;
        left = first.clear;
        right = second.clear;
        left_fits = subst (λ n. n < 2 ^ 32) (sym left_value) (fits_word from.width x holds.fits);
        right_fits = subst (λ n. n < 2 ^ 32) (sym second.value) (right_fits slots right y registers ram right_holds);
      } in
      let did : Worked (work_code (binary_work o a b) d) d (binary_value o (number_of second.after a) (operand_number second.after b))
      second.after ram = binary_does o d a b second.after ram direct ready in
      let worked : Worked (work_code (binary_work o a b) d) d (binary_value o x y) second.after ram =
      subst (λ n. Worked (work_code (binary_work o a b) d) d n second.after ram)
      (ap (λ i. binary_value o i (operand_number second.after b)) left_value ∙ ap (binary_value o x) second.value) did in
      before slots to (binary_value o x y) (left_source slots from).fetch ((right_source slots right).fetch
      ++ (work_code (binary_work o a b) d ++ (sink slots to).keep)) registers first.after ram first.straight kept
      (finish slots spills to (right_source slots right).fetch (work_code (binary_work o a b) d) (binary_value o x y) first.after ram
      second.after to_lives room second.straight
      (keeps_more right_ranges scratch first.after second.after
      (λ at len apart. (inner at len 104 16 108 4 (lit≤ tt) (lit≤ tt) apart.1.1.0, (apart.0, (apart.1.0, tt)))) second.kept) worked)

  pub two_puts : (right : Right) (y : ℕ) → IsRight spills right → HasRight slots right registers ram y
      → Puts slots to (binary_value o x y) (two_code slots o to from right) registers ram
  two_puts right y right_lives right_holds =
      let same = reduce slots spills o x y right registers ram right_lives right_holds in
      subst (λ n. Puts slots to n (two_code slots o to from right) registers ram) same.gives
      (direct_puts (reduced o right) same.number same.lives same.has)
