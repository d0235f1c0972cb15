-- Operations on values, from the homes of their operands to the home of their result.
use Rattle.std.proofs.Common.{◌≡◌, ℕ, ◌+◌, ◌-◌, ◌*◌, ◌/◌, ◌%◌, ◌^◌, ◌<◌, ◌≤◌, Bool, true, false, List, [], ◌∷◌, ◌++◌, length, refl, sym, ap}
use Rattle.std.proofs.Common.{◌∙◌, arith, inl, inr, ◌⊎◌, lit<, lit≤, subst}
use Rattle.std.specs.Prelude.{if◌then◌else◌, nat_le}
use Rattle.std.proofs.lemmas.Bool.{leb-true}
use Rattle.prunum.specs.Bytes.{little_number}
use Rattle.prunum.specs.Number.{bit_count, sext, wrap_signed}
use Rattle.prunum.specs.Width.{byte_count}
use Rattle.prunum.specs.declared.width.Width.{Width}
use Rattle.prunum.specs.declared.width.Width.TheVariants.{B1, B2, B4}
use Rattle.isa.specs.declared.field.Field.{Field}
use Rattle.isa.specs.declared.field.Operand.{Operand}
use Rattle.isa.specs.declared.field.Operand.TheVariants as operand
use Rattle.isa.specs.declared.inst.Inst.{Inst}
use Rattle.midcode.specs.declared.op.BinaryOp.{BinaryOp}
use Rattle.midcode.specs.declared.op.BinaryOp.TheVariants as binary
use Rattle.midcode.specs.declared.op.UnaryOp.{UnaryOp}
use Rattle.midcode.specs.Value.{binary_value, unary_value}
use Rattle.corestep.specs.Fields.{bytes_at, place_of, part_length}
use Rattle.callconv.specs.Places.{first_byte}
use Rattle.subreg.specs.declared.home.Home.{Home}
use Rattle.subreg.specs.declared.home.Home.TheVariants as home
use Rattle.subreg.specs.Allocation.{IsField, LivesWell}
use Rattle.fieldcode.specs.Homes.{number_at, slot_place, home_value, Holds, AreApart, IsApartFrom, Keeps, work_scratch, scratch}
use Rattle.fieldcode.specs.Homes.{register_ranges, ram_ranges}
use Rattle.fieldcode.specs.Insts.{low_part, low_field, whole, constant, from_slot, to_slot}
use Rattle.fieldcode.specs.Runs.{Straight, none}
use Rattle.fieldcode.specs.Works.{Work, work_code, binary_work, unary_work, copy_work, widen_work, is_direct}
use Rattle.fieldcode.specs.Values.{Place, Right, InPlace, Constant, source_in, sink_in, sink, left_source, right_source, number_source}
use Rattle.fieldcode.specs.Values.{OperandSource, put_by, one_code, two_code, constant_code, reduced}
use Rattle.fieldcode.specs.Effects.{HasRoom, IsPlace, IsRight, HasValue, HasRight, IsPut, Puts}
use Rattle.fieldcode.proofs.Steps.{number_of, operand_number, keeps_all, keeps_more, inner}
use Rattle.fieldcode.proofs.Chains.{joined, Worked, work_ranges}
use Rattle.fieldcode.proofs.Constants.{constant_does}
use Rattle.fieldcode.proofs.Setups.{IsClear}
use Rattle.fieldcode.proofs.Slots.{place_is, length_is, home_number, few_bytes, home_low, slot_first, fetch_ranges, Fetched, from_slot_does}
use Rattle.fieldcode.proofs.Slots.{Kept, to_slot_does}
use Rattle.fieldcode.proofs.Works.{AreReady, binary_does}
use Rattle.fieldcode.proofs.Ones.{IsReady, unary_does, copy_does, widen_does, IsNarrow}

-- ---- the lowest fields of registers

low_length : (w : Width) → part_length (low_part w) ≡ byte_count w
low_length B1 = refl
low_length B2 = refl
low_length B4 = refl

low_place : (r : ℕ) (w : Width) → place_of (low_field (26 + r % 3) w) ≡ slot_first r
low_place r B1 = omega arith
low_place r B2 = omega arith
low_place r B4 = omega arith

low_number : (r : ℕ) (w : Width) (registers : List ℕ)
    → number_of registers (low_field (26 + r % 3) w) ≡ number_at (slot_first r) (byte_count w) registers
low_number r w registers =
    ap (λ n. number_at n (part_length (low_part w)) registers) (low_place r w)
    ∙ ap (λ n. number_at (slot_first r) n registers) (low_length w)

low_reg : (r : ℕ) → (26 + r % 3) % 32 < 30
low_reg r = omega arith

pub fits_word : (w : Width) (v : ℕ) → v < 2 ^ bit_count w → v < 2 ^ 32
fits_word B1 v fits = omega arith
fits_word B2 v fits = omega arith
fits_word B4 v fits = fits

slot_room : (slots spills n : ℕ) (w : Width) → n < spills → slots + 4 * spills ≤ 0x1E00 → slot_place slots n + byte_count w ≤ 0x1E00
slot_room slots spills n w less room = omega (arith, less, room, few_bytes w)

-- ---- results

module _ (slots spills : ℕ) (w : Width) where
  finish_field : (f : Field) (pre body : List Inst) (n : ℕ) (registers ram middle : List ℕ) → IsField f w
      → Straight pre registers ram middle ram → Keeps scratch registers middle → Worked body f n middle ram
      → Puts slots (record { width = w; home = home.Field f }) n (pre ++ (body ++ [])) registers ram
  finish_field f pre body n registers ram middle lives before kept did =
      let long : byte_count w ≡ part_length f.part = length_is f w lives in
      let at_place : first_byte f ≡ place_of f = place_is f in
      record {
        after = did.after;
        left = ram;
        straight = joined pre (body ++ []) registers ram middle ram did.after ram before
            (joined body [] middle ram did.after ram did.after ram did.straight (none did.after ram));
        put = record {
          value = home_number f w did.after lives ∙ did.value ∙ ap (λ l. n % 2 ^ (8 * l)) (sym long);
          kept = keeps_all (register_ranges w (home.Field f)) registers middle did.after
              (keeps_more scratch (register_ranges w (home.Field f)) registers middle (λ at len from. from.1) kept)
              (keeps_more (work_ranges f) (register_ranges w (home.Field f)) middle did.after
              (λ at len from. (
                elim from.0 [
                  | inl less ↦ inl (omega (arith, less, at_place))
                  | inr more ↦ inr (omega (arith, more, at_place, long))
                ],
                (from.1.0, (from.1.1.0, tt)),
              )) did.kept);
          ram_kept = record { size = refl; others = λ at len from. refl };
        };
      }

  finish_slot : (m : ℕ) (pre body : List Inst) (n : ℕ) (registers ram middle : List ℕ) → m < spills
      → HasRoom slots spills registers ram → Straight pre registers ram middle ram → Keeps scratch registers middle
      → Worked body (low_field 28 w) n middle ram
      → Puts slots (record { width = w; home = home.Slot m }) n (pre ++ (body ++ to_slot (slot_place slots m) 2 w)) registers ram
  finish_slot m pre body n registers ram middle lives core before kept did =
      let d : Field = low_field 28 w in
      let at : ℕ = slot_place slots m in
      let size : length did.after ≡ 124 = did.kept.size ∙ kept.size ∙ core.full in
      let last : Kept (to_slot at 2 w) 2 at (byte_count w) did.after ram =
      to_slot_does did.after ram 2 at w size core.ram_full (slot_room slots spills m w lives core.room) in
      let d_place : place_of d ≡ 112 = low_place 2 w in
      let d_long : part_length d.part ≡ byte_count w = low_length w in
      record {
        after = last.after;
        left = last.left;
        straight = joined pre (body ++ to_slot at 2 w) registers ram middle ram last.after last.left before
            (joined body (to_slot at 2 w) middle ram did.after ram last.after last.left did.straight last.straight);
        put = record {
          value = last.value ∙ sym (low_number 2 w did.after) ∙ did.value ∙ ap (λ l. n % 2 ^ (8 * l)) d_long;
          kept = keeps_all scratch registers middle last.after kept
              (keeps_all scratch middle did.after last.after
              (keeps_more (work_ranges d) scratch middle did.after
              (λ a len from. (
                inner a len 104 16 (place_of d) (part_length d.part) (omega (arith, d_place))
                    (omega (arith, d_place, d_long, few_bytes w)) from.1.1.0,
                (from.0, (from.1.0, tt)),
              )) did.kept)
              (keeps_more ((0, 12) ∷ []) scratch did.after last.after (λ a len from. (from.0, tt)) last.kept));
          ram_kept = last.ram_kept;
        };
      }

finish_in : (slots spills : ℕ) (w : Width) (h : Home) (pre body : List Inst) (n : ℕ) (registers ram middle : List ℕ)
    → LivesWell spills w h → HasRoom slots spills registers ram → Straight pre registers ram middle ram → Keeps scratch registers middle
    → Worked body (sink_in slots w h).field n middle ram
    → Puts slots (record { width = w; home = h }) n (pre ++ (body ++ (sink_in slots w h).keep)) registers ram
finish_in slots spills w (home.Field f) pre body n registers ram middle lives core before kept did =
    finish_field slots spills w f pre body n registers ram middle lives before kept did
finish_in slots spills w (home.Slot m) pre body n registers ram middle lives core before kept did =
    finish_slot slots spills w m pre body n registers ram middle lives core before kept did

pub finish : (slots spills : ℕ) (to : Place) (pre body : List Inst) (n : ℕ) (registers ram middle : List ℕ) → IsPlace spills to
    → HasRoom slots spills registers ram → Straight pre registers ram middle ram → Keeps scratch registers middle
    → Worked body (sink slots to).field n middle ram → Puts slots to n (pre ++ (body ++ (sink slots to).keep)) registers ram
finish slots spills to pre body n registers ram middle lives core before kept did =
    finish_in slots spills to.width to.home pre body n registers ram middle lives core before kept did

pub sink_low : (slots spills : ℕ) (w : Width) (h : Home) → LivesWell spills w h → (sink_in slots w h).field.reg < 30
sink_low slots spills w (home.Field f) lives = home_low f w lives
sink_low slots spills w (home.Slot m) lives = lit< tt

-- ---- operands

-- an operand that was fetched by way of R26 or R27
pub record Got (code : List Inst) (r : ℕ) (f : Field) (v : ℕ) (registers ram : List ℕ) : Type 0 where
  pub after : List ℕ
  pub straight : Straight code registers ram after ram
  pub kept : Keeps (fetch_ranges r) registers after
  pub clear : IsClear (operand.Field f)
  pub value : number_of after f ≡ v
  pub ends : place_of f + part_length f.part ≤ 108 + 4 * (r % 3)

pub got : (slots spills : ℕ) (w : Width) (h : Home) (r v : ℕ) (registers ram : List ℕ) → LivesWell spills w h
    → HasRoom slots spills registers ram → Holds slots w h registers ram v
    → Got (source_in slots w h r).fetch r (source_in slots w h r).field v registers ram
got slots spills w (home.Field f) r v registers ram lives core holds =
    let at_place : first_byte f ≡ place_of f = place_is f in
    let long : byte_count w ≡ part_length f.part = length_is f w lives in
    let from = lives.from in
    let to = lives.to in
    let size = lives.size in
    let least : 20 ≤ place_of f = omega (arith, from, at_place) in
    record {
      after = registers;
      straight = none registers ram;
      kept = record { size = refl; others = λ at len from. refl };
      clear = (home_low f w lives, (inr (omega (arith, least)), (inr (omega (arith, least)), tt)));
      value = sym (home_number f w registers lives) ∙ holds.value;
      ends = omega (arith, to, size, at_place, long);
    }
got slots spills w (home.Slot m) r v registers ram lives core holds =
    let at : ℕ = slot_place slots m in
    let f : Field = low_field (26 + r % 3) w in
    let did : Fetched (from_slot at r w) r at (byte_count w) registers ram =
    from_slot_does registers ram r at w core.full core.ram_full (slot_room slots spills m w lives core.room) in
    let at_place : place_of f ≡ slot_first r = low_place r w in
    let long : part_length f.part ≡ byte_count w = low_length w in
    record {
      after = did.after;
      straight = did.straight;
      kept = did.kept;
      clear = (low_reg r, (inr (omega (arith, at_place)), (inr (omega (arith, at_place)), tt)));
      value = low_number r w did.after ∙ did.value ∙ holds.value;
      ends = omega (arith, at_place, long, few_bytes w);
    }

-- what stands in a home still does so behind changes of scratch
pub still : (slots spills : ℕ) (w : Width) (h : Home) (v : ℕ) (registers after ram : List ℕ) → LivesWell spills w h
    → Keeps scratch registers after → Holds slots w h registers ram v → Holds slots w h after ram v
still slots spills w (home.Field f) v registers after ram lives kept holds =
    let from = lives.from in
    let to = lives.to in
    let size = lives.size in
    record {
      value = ap (little_number (byte_count w)) (kept.others (first_byte f) (byte_count w)
          (inr (omega (arith, from)), (inr (omega (arith, from)), (inl (omega (arith, to, size)), tt)))) ∙ holds.value;
      fits = holds.fits;
    }
still slots spills w (home.Slot m) v registers after ram lives kept holds = record { value = holds.value; fits = holds.fits }

-- ---- operations with one operand

pub fetch_scratch : (r at len : ℕ) → r % 3 < 2 → IsApartFrom at len scratch → IsApartFrom at len (fetch_ranges r)
fetch_scratch r at len few from =
    (from.0, (inner at len 104 16 (slot_first r) 4 (omega arith) (omega (arith, few)) from.1.1.0, tt))

module _ (slots spills : ℕ) (to from : Place) (registers ram : List ℕ) (core : HasRoom slots spills registers ram)
    (to_lives : IsPlace spills to) (from_lives : IsPlace spills from) (x : ℕ) (holds : HasValue slots from registers ram x) where
  abbrev left : Got (left_source slots from).fetch 0 (left_source slots from).field x registers ram
  left = got slots spills from.width from.home 0 x registers ram from_lives core holds

  ready : IsReady (sink slots to).field (left_source slots from).field left.after
  ready = record {
    full = left.kept.size ∙ core.full;
    low = sink_low slots spills to.width to.home to_lives;
    left = left.clear;
    fits = subst (λ n. n < 2 ^ 32) (sym left.value) (fits_word from.width x holds.fits);
  }

  one_does : (work : Field → Work) (n : ℕ)
      → Worked (work_code (work (left_source slots from).field) (sink slots to).field) (sink slots to).field n left.after ram
      → Puts slots to n (one_code slots work to from) registers ram
  one_does work n did =
      finish slots spills to (left_source slots from).fetch (work_code (work (left_source slots from).field) (sink slots to).field) n
      registers ram left.after to_lives core left.straight
      (keeps_more (fetch_ranges 0) scratch registers left.after (λ at len from. fetch_scratch 0 at len (lit< tt) from) left.kept) did

  pub unary_puts : (o : UnaryOp) → Puts slots to (unary_value o x) (one_code slots (unary_work o) to from) registers ram
  unary_puts o =
      one_does (unary_work o) (unary_value o x)
      (subst (λ n. Worked (work_code (unary_work o (left_source slots from).field) (sink slots to).field) (sink slots to).field
      (unary_value o n) left.after ram) left.value
      (unary_does o (sink slots to).field (left_source slots from).field left.after ram ready))

  pub copy_puts : Puts slots to x (one_code slots copy_work to from) registers ram
  copy_puts =
      one_does copy_work x
      (subst (λ n. Worked (work_code (copy_work (left_source slots from).field) (sink slots to).field) (sink slots to).field
      n left.after ram) left.value
      (copy_does (sink slots to).field (left_source slots from).field left.after ram ready))

  pub widen_puts : (w : Width) → IsNarrow w x
      → Puts slots to (wrap_signed B4 (sext w x)) (one_code slots (widen_work w) to from) registers ram
  widen_puts w narrow =
      one_does (widen_work w) (wrap_signed B4 (sext w x))
      (subst (λ n. Worked (work_code (widen_work w (left_source slots from).field) (sink slots to).field) (sink slots to).field
      (wrap_signed B4 (sext w n)) left.after ram) left.value
      (widen_does w (sink slots to).field (left_source slots from).field left.after ram ready
      (subst (IsNarrow w) (sym left.value) narrow)))

pub constant_puts : (slots spills : ℕ) (to : Place) (n : ℕ) (registers ram : List ℕ) → HasRoom slots spills registers ram
    → IsPlace spills to → n < 2 ^ 32 → Puts slots to n (constant_code slots to n) registers ram
constant_puts slots spills to n registers ram core lives fits =
    finish slots spills to [] (constant (sink slots to).field n) n registers ram registers lives core (none registers ram)
    (record { size = refl; others = λ at len from. refl })
    (constant_does (sink slots to).field n registers ram (sink_low slots spills to.width to.home lives) fits core.full)
