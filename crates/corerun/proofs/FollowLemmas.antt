-- A core alone over the values that a word read does what the word did.
use Rattle.std.proofs.Common.{◌≡◌, ℕ, zero, suc, ◌+◌, ◌*◌, ◌%◌, ◌^◌, ◌<◌, ◌≤◌, Bool, true, false, cond, List, [], ◌∷◌, ◌++◌, length}
use Rattle.std.proofs.Common.{take, drop, map, Option, Some, None, refl, sym, ap, ◌∙◌, arith, append_assoc}
use Rattle.std.specs.Prelude.{if◌then◌else◌, nat_eq, slice_index}
use Rattle.std.specs.List.{AllByRecursion}
use Rattle.std.specs.Int.{w32, bit_not}
use Rattle.std.proofs.lemmas.List.{append-nil, length-take-le}
use Rattle.prunum.specs.Bytes.{little_number}
use Rattle.prutrace.specs.declared.event.Place.TheVariants.{Addr}
use Rattle.prutrace.specs.declared.event.Event.{Event}
use Rattle.isa.specs.declared.field.Field.{Field}
use Rattle.isa.specs.declared.inst.Inst.{Inst}
use Rattle.isa.specs.declared.inst.Inst.TheVariants as inst
use Rattle.corestep.specs.declared.goes.Goes.TheVariants.{Behind, Number, Target}
use Rattle.corestep.specs.declared.out.Input.{Input}
use Rattle.corestep.specs.Compute.{computed, leftmost, is_taken}
use Rattle.corestep.specs.Fields.{bytes_at, register, field_reads, operand_reads, field_writes, with_bytes}
use Rattle.corestep.specs.Memory.{address_of, is_private, ram_after}
use Rattle.corestep.specs.Pieces.{Piece, pieces, access_event, access_events, bank_number, pad_events}
use Rattle.corestep.specs.Effect.{Given, Effect, effect, shows, writes, stored, access_place, numbers_from}
use Rattle.corestep.specs.Given.{given_by, outer_of, outer_in, field_of, field_in}
use Rattle.corerun.specs.Values.{Taken, and_take, take_source, take_bytes, take_words, widths_of, taken_by, values_of}
use Rattle.corerun.specs.Fits.{InputFits}
use Rattle.corerun.proofs.ReadLemmas.{values_of-append, write_reads_nothing, load_taken, pads_taken}
use Rattle.corerun.proofs.SourceLemmas.{Sourced, field_sourced, operand_sourced, jump_sourced}

-- what the events of an instruction read is what it takes, and so it does the same
pub record Follows (behind : ℕ) (registers ram : List ℕ) (input : Input) (i : Inst) (values : List ℕ) : Type 0 where
  pub given : Given
  pub takes : taken_by registers i (values_of (effect behind registers ram (given_by registers input i) i).events ++ values)
      ≡ Some (given, values)
  pub same : effect behind registers ram given i ≡ effect behind registers ram (given_by registers input i) i

-- ---- two sources

abbrev pub sources : ℕ → ℕ → Given
sources a b = record { first = a; second = b; bytes = []; pads = [] }

two_taken : (f g : Option Field) (all after left : List ℕ) (a b : ℕ) → take_source f all ≡ Some (a, after)
    → take_source g after ≡ Some (b, left)
    → and_take (take_source f all) (λ x us. and_take (take_source g us) (λ y vs. Some (sources x y, vs))) ≡ Some (sources a b, left)
two_taken f g all after left a b first second =
    ap (λ (t : Taken ℕ). and_take t (λ x us. and_take (take_source g us) (λ y vs. Some (sources x y, vs)))) first
    ∙ ap (λ (t : Taken ℕ). and_take t (λ y vs. Some (sources a y, vs))) second

split_reads : (first second written : List Event) (values : List ℕ) → values_of written ≡ []
    → values_of ((first ++ second) ++ written) ++ values ≡ values_of first ++ (values_of second ++ values)
split_reads first second written values none =
    ap (λ (vs : List ℕ). vs ++ values)
    (values_of-append (first ++ second) written ∙ ap (λ (vs : List ℕ). values_of (first ++ second) ++ vs) none
    ∙ append-nil (values_of (first ++ second))
    ∙ values_of-append first second)
    ∙ append_assoc (values_of first) (values_of second) values

module _ (registers ram : List ℕ) where
  module _ (f g : Option Field) (ra rb : ℕ → List Event) (va vb : ℕ
      → ℕ) (oa ob : ℕ) (first : Sourced f ra va oa) (second : Sourced g rb vb ob) where
    -- the values for two sources whose events come first
    pub both_taken : (written : List Event) (values : List ℕ) → values_of written ≡ []
        → and_take (take_source f (values_of ((ra oa ++ rb ob) ++ written) ++ values))
        (λ x us. and_take (take_source g us) (λ y vs. Some (sources x y, vs)))
        ≡ Some (sources first.taken second.taken, values)
    both_taken written values none =
        ap (λ (all : List ℕ). and_take (take_source f all) (λ x us. and_take (take_source g us) (λ y vs. Some (sources x y, vs))))
        (split_reads (ra oa) (rb ob) written values none)
        ∙ two_taken f g _ _ values first.taken second.taken (first.takes (values_of (rb ob) ++ values)) (second.takes values)

    -- and any effect of them
    pub both_same : {A : Type 0} (did : List Event → List Event → ℕ → ℕ → A)
        → did (ra first.taken) (rb second.taken) (va first.taken) (vb second.taken) ≡ did (ra oa) (rb ob) (va oa) (vb ob)
    both_same did =
        ap (λ (es : List Event). did es (rb second.taken) (va first.taken) (vb second.taken)) first.same_reads
        ∙ ap (λ (es : List Event). did (ra oa) es (va first.taken) (vb second.taken)) second.same_reads
        ∙ ap (λ (n : ℕ). did (ra oa) (rb ob) n (vb second.taken)) first.same_value
        ∙ ap (λ (n : ℕ). did (ra oa) (rb ob) (va oa) n) second.same_value

-- ---- each instruction

take_length : (n : ℕ) (xs : List ℕ) → n ≤ length xs → length (take n xs) ≡ n
take_length n xs h = length-take-le n xs h

all_take : (P : ℕ → Type 0) (n : ℕ) (xs : List ℕ) → AllByRecursion P xs → AllByRecursion P (take n xs)
all_take P zero xs all = tt
all_take P (suc n) [] all = tt
all_take P (suc n) (x ∷ xs) all = (all.0, all_take P n xs all.1)

all_drop : (P : ℕ → Type 0) (n : ℕ) (xs : List ℕ) → AllByRecursion P xs → AllByRecursion P (drop n xs)
all_drop P zero xs all = all
all_drop P (suc n) [] all = tt
all_drop P (suc n) (x ∷ xs) all = all_drop P n xs all.1

index_small : (xs : List ℕ) (i : ℕ) → AllByRecursion (λ b. b < 256) xs → slice_index xs i < 256
index_small [] i all = omega arith
index_small (x ∷ xs) zero all = all.0
index_small (x ∷ xs) (suc i) all = index_small xs i all.1

four_small : (xs : List ℕ) → AllByRecursion (λ b. b < 256) xs → little_number 4 xs < 2 ^ 32
four_small xs all =
    let a = index_small xs 0 all in let b = index_small xs 1 all in let c = index_small xs 2 all in let d = index_small xs 3 all in
    omega arith

pub register_small : (registers : List ℕ) (r : ℕ) → AllByRecursion (λ b. b < 256) registers → register registers r < 2 ^ 32
register_small registers r all =
    four_small (take 4 (drop (4 * r) registers))
    (all_take (λ b. b < 256) 4 (drop (4 * r) registers) (all_drop (λ b. b < 256) (4 * r) registers all))

-- ---- words that read nothing of the values

one_split : (first written : List Event) (values : List ℕ) → values_of written ≡ []
    → values_of (first ++ written) ++ values ≡ values_of first ++ values
one_split first written values none =
    ap (λ (vs : List ℕ). vs ++ values) (values_of-append first written ∙ ap (λ (vs : List ℕ). values_of first ++ vs) none
    ∙ append-nil (values_of first))

module _ (f : Option Field) (ra : ℕ → List Event) (va : ℕ → ℕ) (oa : ℕ) (first : Sourced f ra va oa) where
  one_taken : (written : List Event) (values : List ℕ) → values_of written ≡ []
      → and_take (take_source f (values_of (ra oa ++ written) ++ values)) (λ x us. Some (sources x 0, us))
      ≡ Some (sources first.taken 0, values)
  one_taken written values none =
      ap (λ (all : List ℕ). and_take (take_source f all) (λ x us. Some (sources x 0, us))) (one_split (ra oa) written values none)
      ∙ ap (λ (t : Taken ℕ). and_take t (λ x us. Some (sources x 0, us))) (first.takes values)

  one_same : {A : Type 0} (did : List Event → ℕ → A) → did (ra first.taken) (va first.taken) ≡ did (ra oa) (va oa)
  one_same did = ap (λ (es : List Event). did es (va first.taken)) first.same_reads ∙ ap (λ (n : ℕ). did (ra oa) n) first.same_value

pads_read_nothing : (bank r : ℕ) (pads : List ℕ) → values_of (pad_events true bank r pads) ≡ []
pads_read_nothing bank r [] = refl
pads_read_nothing bank r (v ∷ pads) = pads_read_nothing bank (r + 1) pads

stores_read_nothing : (ps : List Piece) → values_of (map (λ p. access_event true (Addr p.addr) p.width p.value) ps) ≡ []
stores_read_nothing [] = refl
stores_read_nothing (p ∷ ps) = stores_read_nothing ps

store_reads_nothing : (b : Bool) (x y : Effect) → values_of x.events ≡ [] → values_of y.events ≡ [] → values_of (cond b x y).events ≡ []
store_reads_nothing true x y left right = left
store_reads_nothing false x y left right = right

stored_reads_nothing : (registers ram : List ℕ) (addr : ℕ) (bytes : List ℕ) → values_of (stored registers ram addr bytes).events ≡ []
stored_reads_nothing registers ram addr bytes =
    let outside : Effect =
    record {
      registers = registers;
      ram = ram_after ram addr bytes;
      events = access_events true addr bytes;
      at = addr;
      stored = bytes;
      goes = Behind;
    } in
    store_reads_nothing (is_private addr (length bytes)) (shows registers (with_bytes addr bytes ram) [] Behind) outside refl
    (stores_read_nothing (pieces addr bytes))

abbrev with_load : List ℕ → List ℕ → Taken Given
with_load bytes left = Some (record { first = 0; second = 0; bytes = bytes; pads = [] }, left)

abbrev with_pads : List ℕ → List ℕ → Taken Given
with_pads pads left = Some (record { first = 0; second = 0; bytes = []; pads = pads }, left)

module _ (behind : ℕ) (registers ram : List ℕ) (input : Input) (fits : InputFits registers input)
    (whole : register registers 30 < 2 ^ 32) where
  outer_small : (f : Field) → outer_of registers input.r31 f < 2 ^ 32
  outer_small f = elim (nat_eq f.reg 30) as (λ b. cond b (register registers 30) input.r31 < 2 ^ 32) [ true ↦ whole | false ↦ fits.r31 ]

  outer_in_small : (f : Option Field) → outer_in registers input.r31 f < 2 ^ 32
  outer_in_small None = omega arith
  outer_in_small (Some f) = outer_small f

  abbrev load_reads : Bool → ℕ → List ℕ → List ℕ → List ℕ → List ℕ
  load_reads b addr private other bytes =
      values_of (cond b (shows private ram [] Behind) (shows other ram (access_events false addr bytes) Behind)).events

  load_takes : (b : Bool) (addr n : ℕ) (private other bytes values : List ℕ) → length bytes ≡ n → AllByRecursion (λ v. v < 256) bytes
      → and_take (cond b (Some ([], load_reads b addr private other bytes ++ values))
      (take_bytes (widths_of n) (load_reads b addr private other bytes ++ values)))
      with_load
      ≡ with_load (cond b [] bytes) values
  load_takes true addr n private other bytes values long small = refl
  load_takes false addr n private other bytes values long small =
      ap (λ (m : ℕ). and_take (take_bytes (widths_of m) (values_of (access_events false addr bytes) ++ values)) with_load) (sym long)
      ∙ ap (λ (t : Taken (List ℕ)). and_take t with_load) (load_taken addr bytes values small)

  load_same : (b : Bool) (addr place : ℕ) (private bytes : List ℕ)
      → cond b (shows private ram [] Behind)
      (shows (with_bytes place (cond b [] bytes) registers) ram (access_events false addr (cond b [] bytes)) Behind)
      ≡ cond b (shows private ram [] Behind) (shows (with_bytes place bytes registers) ram (access_events false addr bytes) Behind)
  load_same true addr place private bytes = refl
  load_same false addr place private bytes = refl

  pub follows : (i : Inst) (values : List ℕ) → Follows behind registers ram input i values
  follows (inst.Alu op d a b) values =
      let first = field_sourced registers a _ (outer_small a) in
      let second = operand_sourced registers b _ (outer_in_small (field_of b)) in
      record {
        given = sources first.taken second.taken;
        takes = both_taken registers ram _ _ _ _ _ _ _ _ first second (field_writes d _ registers) values (write_reads_nothing _ _ _ _);
        same = both_same registers ram _ _ _ _ _ _ _ _ first second
            (λ ra rb va vb. writes registers ram (ra ++ rb) d (computed op va vb) Behind);
      }
  follows (inst.Not d a) values =
      let first = field_sourced registers a _ (outer_small a) in
      record {
        given = sources first.taken 0;
        takes = one_taken _ _ _ _ first (field_writes d _ registers) values (write_reads_nothing _ _ _ _);
        same = one_same _ _ _ _ first (λ ra va. writes registers ram ra d (bit_not w32 va) Behind);
      }
  follows (inst.Jmp to) values =
      let first = jump_sourced registers to _ (outer_in_small (field_in to)) in
      record {
        given = sources first.taken 0;
        takes = ap (λ (t : Taken ℕ). and_take t (λ x us. Some (sources x 0, us))) (first.takes values);
        same = one_same _ _ _ _ first (λ ra va. shows registers ram ra (Number va));
      }
  follows (inst.Jal d to) values =
      let first = jump_sourced registers to _ (outer_in_small (field_in to)) in
      record {
        given = sources first.taken 0;
        takes = one_taken _ _ _ _ first (field_writes d behind registers) values (write_reads_nothing _ _ _ _);
        same = one_same _ _ _ _ first (λ ra va. writes registers ram ra d behind (Number va));
      }
  follows (inst.Ldi d n) values =
      record {
        given = sources 0 0;
        takes = ap (λ (vs : List ℕ). Some (sources 0 0, vs ++ values)) (write_reads_nothing _ _ _ _);
        same = refl;
      }
  follows (inst.Lmbd d a b) values =
      let first = field_sourced registers a _ (outer_small a) in
      let second = operand_sourced registers b _ (outer_in_small (field_of b)) in
      record {
        given = sources first.taken second.taken;
        takes = both_taken registers ram _ _ _ _ _ _ _ _ first second (field_writes d _ registers) values (write_reads_nothing _ _ _ _);
        same = both_same registers ram _ _ _ _ _ _ _ _ first second
            (λ ra rb va vb. writes registers ram (ra ++ rb) d (leftmost va vb) Behind);
      }
  follows inst.Halt values = record { given = sources 0 0; takes = refl; same = refl }
  follows (inst.Xin t) values =
      let pads : List ℕ = take t.count input.pads in
      let long : length pads ≡ t.count = take_length t.count input.pads (omega (arith, fits.pads_size, t.at_most)) in
      let small = all_take (λ v. v < 2 ^ 32) t.count input.pads fits.pads in
      record {
        given = record { first = 0; second = 0; bytes = []; pads = pads };
        takes =
            ap (λ (n : ℕ). and_take (take_words n (values_of (pad_events false (bank_number t.bank) t.first pads) ++ values)) with_pads)
            (sym long)
            ∙ ap (λ (u : Taken (List ℕ)). and_take u with_pads) (pads_taken (bank_number t.bank) t.first pads values small);
        same = refl;
      }
  follows (inst.Xout t) values =
      record {
        given = sources 0 0;
        takes = ap (λ (vs : List ℕ). Some (sources 0 0, vs ++ values))
            (pads_read_nothing (bank_number t.bank) t.first (numbers_from registers t.first t.count));
        same = refl;
      }
  follows (inst.Loop body) values = record { given = sources 0 0; takes = refl; same = refl }
  follows (inst.Branch condition offset a b) values =
      let first = field_sourced registers a _ (outer_small a) in
      let second = operand_sourced registers b _ (outer_in_small (field_of b)) in
      record {
        given = sources first.taken second.taken;
        takes =
            ap (λ (es : List Event). and_take (take_source (Some a) (values_of es ++ values))
            (λ x us. and_take (take_source (field_of b) us) (λ y vs. Some (sources x y, vs))))
            (sym (append-nil (field_reads (outer_of registers input.r31 a) a
            ++ operand_reads (outer_in registers input.r31 (field_of b)) b)))
            ∙ both_taken registers ram _ _ _ _ _ _ _ _ first second [] values refl;
        same = both_same registers ram _ _ _ _ _ _ _ _ first second
            (λ ra rb va vb. shows registers ram (ra ++ rb) (if is_taken condition va vb then Target else Behind));
      }
  follows (inst.Qba offset) values = record { given = sources 0 0; takes = refl; same = refl }
  follows (inst.Load a) values =
      let addr : ℕ = address_of registers a in
      let bytes : List ℕ = take a.len input.bytes in
      let long : length bytes ≡ a.len = take_length a.len input.bytes (omega (arith, fits.bytes_size, a.below)) in
      let small = all_take (λ v. v < 256) a.len input.bytes fits.bytes in
      record {
        given = record { first = 0; second = 0; bytes = cond (is_private addr a.len) [] bytes; pads = [] };
        takes = load_takes (is_private addr a.len) addr a.len _ _ bytes values long small;
        same = load_same (is_private addr a.len) addr (access_place a) _ bytes;
      }
  follows (inst.Store a) values =
      let bytes : List ℕ = bytes_at (access_place a) a.len registers in
      record {
        given = sources 0 0;
        takes = ap (λ (vs : List ℕ). Some (sources 0 0, vs ++ values)) (stored_reads_nothing registers ram (address_of registers a) bytes);
        same = refl;
      }
