-- One step of a core whose registers R14 to R19 are given, an instruction at a time.
use Rattle.std.proofs.Common.{◌≡◌, ℕ, zero, suc, ◌+◌, ◌-◌, ◌*◌, ◌%◌, ◌^◌, ◌<◌, ◌≤◌, Bool, true, false, List, [], ◌++◌, length}
use Rattle.std.proofs.Common.{get_or, set, refl, ap, subst, ◌∙◌, arith, Option, Some, None, lit<, T, ltb}
use Rattle.std.specs.Prelude.{◌==◌, nat_lt, nat_le, slice_get, option_map, if◌then◌else◌, unwrap_or}
use Rattle.std.specs.Prelude.{◌&&◌}
use Rattle.std.proofs.lemmas.Bool.{ne_eqb, le-leb, lt-ltb}
use Rattle.std.proofs.lemmas.Bool.Decides.{nat_tests}
use Rattle.std.proofs.Math.Dec.{eqb-suc-zero}
use Rattle.prutrace.specs.declared.event.Event.{Event}
use Rattle.prunum.specs.Bytes.{little_bytes, little_number}
use Rattle.isa.specs.declared.control.Condition.{Condition}
use Rattle.isa.specs.declared.control.BranchOffset.{BranchOffset}
use Rattle.isa.specs.declared.control.LoopBody.{LoopBody}
use Rattle.isa.specs.declared.control.Jump.TheVariants as jump
use Rattle.isa.specs.declared.field.Operand.{Operand}
use Rattle.isa.specs.declared.field.Operand.TheVariants as operand
use Rattle.isa.specs.declared.inst.AluOp.{AluOp}
use Rattle.isa.specs.declared.inst.Inst.{Inst}
use Rattle.isa.specs.declared.inst.Inst.TheVariants as inst
use Rattle.isa.specs.declared.program.Item.{Item}
use Rattle.corestep.specs.declared.goes.Goes.{Goes}
use Rattle.corestep.specs.declared.goes.Goes.TheVariants.{Behind, Number, Target, Around}
use Rattle.corestep.specs.declared.onward.Onward.{Onward}
use Rattle.corestep.specs.declared.onward.Turning.{Turning}
use Rattle.corestep.specs.declared.out.Stop.{Stop}
use Rattle.corestep.specs.declared.out.Stop.TheVariants.{Going}
use Rattle.corestep.specs.Compute.{computed, is_taken}
use Rattle.corestep.specs.Core.{State, onward}
use Rattle.corestep.specs.Effect.{Given, effect, shows}
use Rattle.corestep.specs.Fields.{bytes_at, with_bytes, field_reads, field_writes, with_field, field_value, operand_value, operand_reads}
use Rattle.corestep.specs.Step.{Stepped, marks_before, marks_behind, stop_of}
use Rattle.corerun.specs.Code.{Code, step_by_code, after_effect_in, goes_on_in}
use Rattle.corerun.specs.Items.{Placed, placed, notes_of_placed}
use Rattle.helpers.specs.Bodies.{whole, register, return_field}
use Rattle.helpers.specs.Runs.{StandsAt, StepsTo, aim_in, return_number}
use Rattle.helpers.proofs.Laid.{Fours, laid, read_laid, with_laid, read_back}

-- ---- what stands at a place

pub record Here (code : Code) (p : ℕ) (i : Inst) (aim : Option ℕ) : Type 0 where
  pub inst : code.inst p ≡ Some i
  pub before : marks_before (code.notes p) ≡ []
  pub behind : marks_behind (code.notes p) ≡ []
  pub target : code.target p ≡ aim

pub at : (code : Code) (base : ℕ) (items : List Item) → StandsAt code base items → (k : ℕ) (x : Placed)
    → T (ltb k (length (placed [] items))) → slice_get (placed [] items) k ≡ Some x → marks_before x.notes ≡ [] → marks_behind x.notes ≡ []
    → Here code (base + k) x.inst (aim_in items base (Some x))
at code base items stands k x less is before behind =
    let notes : code.notes (base + k) ≡ x.notes = stands.notes k (lit< less) ∙ ap notes_of_placed is in
    record {
      inst = stands.inst k (lit< less) ∙ ap (option_map (λ x. x.inst)) is;
      before = ap marks_before notes ∙ before;
      behind = ap marks_behind notes ∙ behind;
      target = stands.target k (lit< less) ∙ ap (aim_in items base) is;
    }

pub first_here : (code : Code) (p : ℕ) (i : Inst) (aim : Option ℕ) → Here code (p + 0) i aim → Here code p i aim
first_here code p i aim it = subst (λ (n : ℕ). Here code n i aim) (let e : p + 0 ≡ p = omega arith in e) it

-- ---- where it goes on

pub straight : (p q : ℕ) → p ≡ q → onward p None ≡ record { pc = q; turning = None }
straight p q is = ap (λ (n : ℕ). record { pc = n; turning = None }) is

abbrev pub loop : ℕ → ℕ → ℕ → Option Turning
loop first end left = Some (record { first = first; end = end; left = left })

choice : (first end left n : ℕ) (is_end from before : Bool) → Onward
choice first end left n is_end from before =
    if is_end then
    (if left == 0 then record { pc = n; turning = None } else record { pc = first; turning = loop first end (left - 1) })
    else if from && before then record { pc = n; turning = loop first end left } else record { pc = n; turning = None }

pub inside : (first end left n m : ℕ) → n ≡ m → first ≤ m → m < end
    → onward n (loop first end left) ≡ record { pc = m; turning = loop first end left }
unfolding choice
inside first end left n m is lower upper =
    let not_end : (n == end) ≡ false = ne_eqb n end (λ e. omega arith) in
    let least : nat_le first n ≡ true = le-leb first n (omega arith) in
    let most : nat_lt n end ≡ true = lt-ltb n end (omega arith) in
    ap (λ (b : Bool). choice first end left n b (nat_le first n) (nat_lt n end)) not_end
    ∙ ap (λ (c : Bool). choice first end left n false c (nat_lt n end)) least
    ∙ ap (λ (d : Bool). choice first end left n false true d) most
    ∙ ap (λ (q : ℕ). record { pc = q; turning = loop first end left }) is

abbrev pub behind_turn : ℕ → ℕ → ℕ → Onward
behind_turn first end zero = record { pc = end; turning = None }
behind_turn first end (suc left) = record { pc = first; turning = loop first end left }

same : (n : ℕ) → (n == n) ≡ true
same n = grind (arith, nat_tests)

at_end : (first end left : ℕ) → onward end (loop first end left) ≡ choice first end left end true (nat_le first end) (nat_lt end end)
unfolding choice
at_end first end left = ap (λ (b : Bool). choice first end left end b (nat_le first end) (nat_lt end end)) (same end)

again : (first end left : ℕ) → choice first end left end true (nat_le first end) (nat_lt end end) ≡ behind_turn first end left
unfolding choice
again first end zero = refl
again first end (suc left) =
    let not_last : (suc left == 0) ≡ false = eqb-suc-zero left in
    ap (λ (b : Bool). if b then record { pc = end; turning = None } else record { pc = first; turning = loop first end (suc left - 1) })
    not_last ∙ ap (λ (n : ℕ). record { pc = first; turning = loop first end n }) (let e : suc left - 1 ≡ left = omega arith in e)

pub turned : (first end left n : ℕ) → n ≡ end → onward n (loop first end left) ≡ behind_turn first end left
turned first end left n is = ap (λ q. onward q (loop first end left)) is ∙ at_end first end left ∙ again first end left

-- ---- fields

six : (P : ℕ → Type 0) → P 0 → P 1 → P 2 → P 3 → P 4 → P 5 → (k : ℕ) → k < 6 → P k
six P a b c d e f zero h = a
six P a b c d e f (suc zero) h = b
six P a b c d e f (suc (suc zero)) h = c
six P a b c d e f (suc (suc (suc zero))) h = d
six P a b c d e f (suc (suc (suc (suc zero)))) h = e
six P a b c d e f (suc (suc (suc (suc (suc zero))))) h = f
six P a b c d e f (suc (suc (suc (suc (suc (suc k)))))) h = absurd (omega arith)

reads_nothing : (outer k : ℕ) → k < 6 → field_reads outer (whole (14 + k)) ≡ []
reads_nothing outer k h = six (λ k. field_reads outer (whole (14 + k)) ≡ []) refl refl refl refl refl refl k h

writes_nothing : (registers : List ℕ) (n k : ℕ) → k < 6 → field_writes (whole (14 + k)) n registers ≡ []
writes_nothing registers n k h = six (λ k. field_writes (whole (14 + k)) n registers ≡ []) refl refl refl refl refl refl k h

with_whole : (registers : List ℕ) (n k : ℕ) → k < 6
    → with_field (whole (14 + k)) n registers ≡ with_bytes (4 * (14 + k)) (little_bytes 4 n) registers
with_whole registers n k h =
    six (λ k. with_field (whole (14 + k)) n registers ≡ with_bytes (4 * (14 + k)) (little_bytes 4 n) registers)
    refl refl refl refl refl refl k h

whole_value : (registers : List ℕ) (outer k : ℕ) → k < 6
    → field_value registers outer (whole (14 + k)) ≡ little_number 4 (bytes_at (4 * (14 + k)) 4 registers)
whole_value registers outer k h =
    six (λ k. field_value registers outer (whole (14 + k)) ≡ little_number 4 (bytes_at (4 * (14 + k)) 4 registers))
    refl refl refl refl refl refl k h

-- ---- steps

does : (code : Code) (s : State) (i : Inst) (aim : Option ℕ) (registers : List ℕ) (goes : Goes) (next : Onward)
    → Here code s.pc i aim
    → ((g : Given) → effect (code.number (s.pc + 1)) s.registers s.ram g i ≡ shows registers s.ram [] goes)
    → goes_on_in code s.pc s.turning i goes ≡ next → stop_of goes ≡ Going
    → StepsTo code s (record { pc = next.pc; turning = next.turning; registers = registers; ram = s.ram })
does code s i aim registers goes next it acts goes_on stop =
    let made : Onward → List Event → List Event → Stop → Stepped = λ o before behind stop. record {
      core = record { pc = o.pc; turning = o.turning; registers = registers; ram = s.ram };
      out = record { events = before ++ ([] ++ behind); at = 0; stored = []; stop = stop };
    } in
    let before = marks_before (code.notes s.pc) in
    let behind = marks_behind (code.notes s.pc) in
    record {
      does = λ g. ap (step_by_code code s g) it.inst ∙ ap (after_effect_in code s i) (acts g)
          ∙ ap (λ (o : Onward). made o before behind (stop_of goes)) goes_on
          ∙ ap (λ (es : List Event). made next es behind (stop_of goes)) it.before
          ∙ ap (λ (es : List Event). made next [] es (stop_of goes)) it.behind
          ∙ ap (made next [] []) stop;
    }

-- six registers of four bytes
pub record Sized (v : List (List ℕ)) : Type 0 where
  pub count : length v ≡ 6
  pub fours : Fours v

module _ (code : Code) (front back ram : List ℕ) (size : length front ≡ 56) where
  abbrev pub registers : List (List ℕ) → List ℕ
  registers v = laid front back size v

  abbrev pub core : ℕ → Option Turning → List (List ℕ) → State
  core p t v = record { pc = p; turning = t; registers = registers v; ram = ram }

  -- R14 and so many more has a number
  pub record Is (v : List (List ℕ)) (k x : ℕ) : Type 0 where
    pub holds : get_or v k [] ≡ little_bytes 4 x
    pub fits : x < 2 ^ 32

  pub record Reads (v : List (List ℕ)) (o : Operand) (y : ℕ) : Type 0 where
    pub value : (outer : ℕ) → operand_value (registers v) outer o ≡ y
    pub silent : (outer : ℕ) → operand_reads outer o ≡ []

  value_is : (v : List (List ℕ)) (outer k x : ℕ) → Sized v → k < 6 → Is v k x → field_value (registers v) outer (whole (14 + k)) ≡ x
  value_is v outer k x sized less is =
      let count : length v ≡ 6 = sized.count in
      whole_value (registers v) outer k less
      ∙ ap (little_number 4) (read_laid front back size v k (4 * (14 + k)) refl (omega arith) sized.fours ∙ is.holds)
      ∙ read_back x is.fits

  pub imm : (v : List (List ℕ)) (m : ℕ) → Reads v (operand.Imm m) m
  imm v m = record { value = λ outer. refl; silent = λ outer. refl }

  pub reg : (v : List (List ℕ)) (k y : ℕ) → Sized v → T (ltb k 6) → Is v k y → Reads v (register (14 + k)) y
  reg v k y sized less is = record {
    value = λ outer. value_is v outer k y sized (lit< less) is;
    silent = λ outer. reads_nothing outer k (lit< less);
  }

  written : (v : List (List ℕ)) (k n : ℕ) → Sized v → k < 6
      → with_field (whole (14 + k)) n (registers v) ≡ registers (set v k (little_bytes 4 n))
  written v k n sized less =
      let count : length v ≡ 6 = sized.count in
      with_whole (registers v) n k less
      ∙ with_laid front back size v k (4 * (14 + k)) (little_bytes 4 n) refl (omega arith) sized.fours refl

  made : (v : List (List ℕ)) (es fs : List Event) (d m n : ℕ) → Sized v → d < 6 → es ≡ [] → fs ≡ [] → m ≡ n
      → shows (with_field (whole (14 + d)) m (registers v)) ram ((es ++ fs) ++ field_writes (whole (14 + d)) m (registers v)) Behind
      ≡ shows (registers (set v d (little_bytes 4 n))) ram [] Behind
  made v es fs d m n sized less e f is =
      ap (λ (r : List ℕ). shows r ram ((es ++ fs) ++ field_writes (whole (14 + d)) m (registers v)) Behind) (written v d m sized less)
      ∙ ap (λ (l : List Event). shows (registers (set v d (little_bytes 4 m))) ram l Behind)
      (ap (λ (l : List Event). (l ++ fs) ++ field_writes (whole (14 + d)) m (registers v)) e
      ∙ ap (λ (l : List Event). l ++ field_writes (whole (14 + d)) m (registers v)) f ∙ writes_nothing (registers v) m d less)
      ∙ ap (λ k. shows (registers (set v d (little_bytes 4 k))) ram [] Behind) is

  pub alu : (p q : ℕ) (t after : Option Turning) (v : List (List ℕ)) (op : AluOp) (d a : ℕ) (o : Operand) (x y n : ℕ) (aim : Option ℕ)
      → Here code p (inst.Alu op (whole (14 + d)) (whole (14 + a)) o) aim
      → Sized v → T (ltb d 6) → T (ltb a 6) → onward (p + 1) t ≡ record { pc = q; turning = after }
      → Is v a x → Reads v o y → computed op x y ≡ n
      → StepsTo code (core p t v) (core q after (set v d (little_bytes 4 n)))
  alu p q t after v op d a o x y n aim it sized hd ha next is reads gives =
      does code (core p t v) (inst.Alu op (whole (14 + d)) (whole (14 + a)) o) aim (registers (set v d (little_bytes 4 n))) Behind
      (record { pc = q; turning = after }) it
      (λ g. made v (field_reads g.first (whole (14 + a))) (operand_reads g.second o) d
      (computed op (field_value (registers v) g.first (whole (14 + a))) (operand_value (registers v) g.second o)) n sized (lit< hd)
      (reads_nothing g.first a (lit< ha)) (reads.silent g.second)
      (ap (λ m. computed op m (operand_value (registers v) g.second o)) (value_is v g.first a x sized (lit< ha) is)
      ∙ ap (computed op x) (reads.value g.second) ∙ gives)) next refl

  pub ldi : (p q : ℕ) (t after : Option Turning) (v : List (List ℕ)) (d n : ℕ) (aim : Option ℕ)
      → Here code p (inst.Ldi (whole (14 + d)) n) aim → Sized v → T (ltb d 6)
      → onward (p + 1) t ≡ record { pc = q; turning = after }
      → StepsTo code (core p t v) (core q after (set v d (little_bytes 4 n)))
  ldi p q t after v d n aim it sized hd next =
      does code (core p t v) (inst.Ldi (whole (14 + d)) n) aim (registers (set v d (little_bytes 4 n))) Behind
      (record { pc = q; turning = after }) it (λ g. made v [] [] d n n sized (lit< hd) refl refl refl) next refl

  compares : (v : List (List ℕ)) (g : Given) (c : Condition) (offset : BranchOffset) (a : ℕ) (o : Operand) (x y behind : ℕ) (b : Bool)
      → Sized v → a < 6 → Is v a x → Reads v o y → is_taken c x y ≡ b
      → effect behind (registers v) ram g (inst.Branch c offset (whole (14 + a)) o) ≡ shows (registers v) ram [] (if b then Target else
      Behind)
  compares v g c offset a o x y behind b sized less is reads told =
      let goes : Goes = if is_taken c (field_value (registers v) g.first (whole (14 + a))) (operand_value (registers v) g.second o) then
      Target
      else Behind in
      ap (λ (l : List Event). shows (registers v) ram (l ++ operand_reads g.second o) goes) (reads_nothing g.first a less)
      ∙ ap (λ (l : List Event). shows (registers v) ram l goes) (reads.silent g.second)
      ∙ ap (λ (b : Bool). shows (registers v) ram [] (if b then Target else Behind))
      (ap (λ m. is_taken c m (operand_value (registers v) g.second o)) (value_is v g.first a x sized less is)
      ∙ ap (is_taken c x) (reads.value g.second) ∙ told)

  pub branch_on : (p q : ℕ) (t after : Option Turning) (v : List (List ℕ)) (c : Condition) (offset : BranchOffset) (a : ℕ) (o : Operand)
      (x y : ℕ) (aim : Option ℕ)
      → Here code p (inst.Branch c offset (whole (14 + a)) o) aim → Sized v → T (ltb a 6)
      → onward (p + 1) t ≡ record { pc = q; turning = after } → Is v a x → Reads v o y → is_taken c x y ≡ false
      → StepsTo code (core p t v) (core q after v)
  branch_on p q t after v c offset a o x y aim it sized ha next is reads told =
      does code (core p t v) (inst.Branch c offset (whole (14 + a)) o) aim (registers v) Behind (record { pc = q; turning = after }) it
      (λ g. compares v g c offset a o x y (code.number (p + 1)) false sized (lit< ha) is reads told) next refl

  aimed_at : (p l q : ℕ) (t after : Option Turning) (i : Inst) → code.target p ≡ Some l → onward l t ≡ record { pc = q; turning = after }
      → goes_on_in code p t i Target ≡ record { pc = q; turning = after }
  aimed_at p l q t after i target next = ap (λ (o : Option ℕ). onward (unwrap_or o p) t) target ∙ next

  pub branch_to : (p q l : ℕ) (t after : Option Turning) (v : List (List ℕ)) (c : Condition) (offset : BranchOffset) (a : ℕ) (o : Operand)
      (x y : ℕ)
      → Here code p (inst.Branch c offset (whole (14 + a)) o) (Some l) → Sized v → T (ltb a 6)
      → onward l t ≡ record { pc = q; turning = after } → Is v a x → Reads v o y → is_taken c x y ≡ true
      → StepsTo code (core p t v) (core q after v)
  branch_to p q l t after v c offset a o x y it sized ha next is reads told =
      does code (core p t v) (inst.Branch c offset (whole (14 + a)) o) (Some l) (registers v) Target (record { pc = q; turning = after }) it
      (λ g. compares v g c offset a o x y (code.number (p + 1)) true sized (lit< ha) is reads told) (aimed_at p l q t after (inst.Branch c
      offset (whole (14 + a)) o) it.target next) refl

  pub skip : (p q l : ℕ) (t after : Option Turning) (v : List (List ℕ)) (offset : BranchOffset)
      → Here code p (inst.Qba offset) (Some l) → onward l t ≡ record { pc = q; turning = after }
      → StepsTo code (core p t v) (core q after v)
  skip p q l t after v offset it next =
      does code (core p t v) (inst.Qba offset) (Some l) (registers v) Target (record { pc = q; turning = after }) it
      (λ g. refl) (aimed_at p l q t after (inst.Qba offset) it.target next) refl

  pub begin_loop : (p first end : ℕ) (t : Option Turning) (v : List (List ℕ)) (body : LoopBody)
      → Here code p (inst.Loop body) (Some end) → p + 1 ≡ first
      → StepsTo code (core p t v) (core first (loop first end (body.count - 1)) v)
  begin_loop p first end t v body it is =
      does code (core p t v) (inst.Loop body) (Some end) (registers v) Around
      (record { pc = first; turning = loop first end (body.count - 1) }) it (λ g. refl)
      (ap (λ (o : Option ℕ). record { pc = p + 1; turning = loop (p + 1) (unwrap_or o (p + 1)) (body.count - 1) }) it.target
      ∙ ap (λ (n : ℕ). record { pc = n; turning = loop n end (body.count - 1) }) is) refl

  pub return : (p : ℕ) (v : List (List ℕ)) → Here code p (inst.Jmp (jump.Field return_field)) None
      → StepsTo code (core p None v) (core (code.place (return_number (registers v) % 2 ^ 16)) None v)
  return p v it =
      does code (core p None v) (inst.Jmp (jump.Field return_field)) None (registers v) (Number (return_number (registers v) % 2 ^ 16))
      (record { pc = code.place (return_number (registers v) % 2 ^ 16); turning = None }) it (λ g. refl)
      (ap (λ (o : Option ℕ). onward (unwrap_or o (code.place (return_number (registers v) % 2 ^ 16))) None) it.target) refl
