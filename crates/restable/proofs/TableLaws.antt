-- The two laws: what is read is what stands there, and a table is read.
use Rattle.std.proofs.Common.{◌≡◌, ℕ, zero, suc, ◌+◌, ◌-◌, ◌*◌, ◌^◌, ◌<◌, ◌≤◌, ◌==◌, List, [], ◌∷◌, ◌++◌, length, replicate}
use Rattle.std.proofs.Common.{Result, Ok, Err, refl, sym, ap, subst, ◌∙◌, append_assoc, arith, IfOk}
use Rattle.std.specs.Global.{Vec}
use Rattle.std.specs.Int.{w32, to_le_bytes}
use Rattle.std.specs.List.{flat_map, AllByRecursion}
use Rattle.std.proofs.lemmas.Bool.{eqb-true, and_parts, leb-true}
use Rattle.std.proofs.lemmas.List.{append-nil, nil_from_length, length-append, length-replicate}
use Rattle.restable.specs.declared.trace.Trace.{Trace}
use Rattle.restable.specs.declared.fault.TableFault.{TableFault}
use Rattle.restable.specs.Tables.{words, offsets, name_field, entry, table, IsTrace}
use Rattle.restable.specs.Reading.{◌>>=◌, Gives, word_at, fixed_at, name_at, entry_at, offsets_at, entries_at, table_in}
use Rattle.restable.proofs.FieldLaws.{IsBytes, bind_ok, guard_ended, ok_is, Takes, Takes-then, word_takes}
use Rattle.restable.proofs.FieldLaws.{word_again, fixed_takes, fixed_again, name_takes, name_again}

then_ok : {A B : Type 0} (r : Result A ℕ) (x : A) (f : A → Result B ℕ) → r ≡ Ok x → (r >>= f) ≡ f x
then_ok r x f e = ap (λ q. q >>= f) e

entry_takes : (at : ℕ) (bytes : List ℕ) (x : Trace × List ℕ) → IsBytes bytes → entry_at at bytes ≡ Ok x → Takes bytes (entry x.0) x.1
unfolding entry_at
entry_takes at bytes x fits e =
    let a = bind_ok (fixed_at 2 at bytes) _ x e in
    let b = bind_ok (word_at (at + 4) a.0) _ x a.2 in
    let c = bind_ok (word_at (at + 8) b.0.1) _ x b.2 in
    let d = bind_ok (fixed_at 0 (at + 12) c.0.1) _ x c.2 in
    let n = bind_ok (name_at (at + 16) d.0) _ x d.2 in
    let ta = fixed_takes 2 at bytes a.0 fits a.1 in
    let tb = word_takes (at + 4) a.0 b.0.0 b.0.1 ta.rest_fits b.1 in
    let tc = word_takes (at + 8) b.0.1 c.0.0 c.0.1 tb.0.rest_fits c.1 in
    let td = fixed_takes 0 (at + 12) c.0.1 d.0 tc.0.rest_fits d.1 in
    let tn = name_takes (at + 16) d.0 n.0.0 n.0.1 td.rest_fits n.1 in
    let last = Takes-then c.0.1 (to_le_bytes w32 0) d.0 (name_field n.0.0) n.0.1 td tn in
    let len = Takes-then b.0.1 (to_le_bytes w32 c.0.0) c.0.1 (to_le_bytes w32 0 ++ name_field n.0.0) n.0.1 tc.0 last in
    let addr = Takes-then a.0 (to_le_bytes w32 b.0.0) b.0.1 (to_le_bytes w32 c.0.0 ++ (to_le_bytes w32 0 ++ name_field n.0.0)) n.0.1
    tb.0 len in
    let all = Takes-then bytes (to_le_bytes w32 2) a.0 (to_le_bytes w32 b.0.0
    ++ (to_le_bytes w32 c.0.0 ++ (to_le_bytes w32 0 ++ name_field n.0.0))) n.0.1 ta addr in
    let made : Trace × List ℕ = (record { name = n.0.0; addr = b.0.0; len = c.0.0 }, n.0.1) in
    subst (λ (y : Trace × List ℕ). Takes bytes (entry y.0) y.1) (ok_is made x n.2) all

entry_again : (at : ℕ) (trace : Trace) (rest : List ℕ) → IsTrace trace → entry_at at (entry trace ++ rest) ≡ Ok (trace, rest)
unfolding entry_at
entry_again at trace rest h =
    let name = name_field trace.name ++ rest in
    let len = to_le_bytes w32 trace.len ++ (to_le_bytes w32 0 ++ name) in
    then_ok (fixed_at 2 at (to_le_bytes w32 2 ++ (to_le_bytes w32 trace.addr ++ len))) (to_le_bytes w32 trace.addr ++ len) _
    (fixed_again 2 at (to_le_bytes w32 trace.addr ++ len) (omega arith))
    ∙ then_ok (word_at (at + 4) (to_le_bytes w32 trace.addr ++ len)) (trace.addr, len) _ (word_again (at + 4) trace.addr len h.addr)
    ∙ then_ok (word_at (at + 8) len) (trace.len, to_le_bytes w32 0 ++ name) _
    (word_again (at + 8) trace.len (to_le_bytes w32 0 ++ name) h.len)
    ∙ then_ok (fixed_at 0 (at + 12) (to_le_bytes w32 0 ++ name)) name _ (fixed_again 0 (at + 12) name (omega arith))
    ∙ then_ok (name_at (at + 16) name) (trace.name, rest) _ (name_again (at + 16) trace.name rest h.name)

offsets_take : (count value at : ℕ) (bytes rest : List ℕ) → IsBytes bytes → offsets_at count value at bytes ≡ Ok rest
    → Takes bytes (words (offsets value count)) rest
unfolding offsets_at
offsets_take zero value at bytes rest fits e = subst (λ (r : List ℕ). Takes bytes [] r) (ok_is bytes rest e)
    (record { parts = refl; rest_fits = fits })
offsets_take (suc count) value at bytes rest fits e =
    let a = bind_ok (fixed_at value at bytes) (λ behind. offsets_at count (value + 48) (at + 4) behind) rest e in
    let first = fixed_takes value at bytes a.0 fits a.1 in
    let second = offsets_take count (value + 48) (at + 4) a.0 rest first.rest_fits a.2 in
    Takes-then bytes (to_le_bytes w32 value) a.0 (words (offsets (value + 48) count)) rest first second

offsets_again : (count value at : ℕ) (rest : List ℕ) → value + 48 * count < 2 ^ 32
    → offsets_at count value at (words (offsets value count) ++ rest) ≡ Ok rest
unfolding offsets_at
offsets_again zero value at rest small = refl
offsets_again (suc count) value at rest small =
    then_ok (fixed_at value at (to_le_bytes w32 value ++ (words (offsets (value + 48) count) ++ rest)))
    (words (offsets (value + 48) count) ++ rest) _
    (fixed_again value at (words (offsets (value + 48) count) ++ rest) (omega arith))
    ∙ offsets_again count (value + 48) (at + 4) rest (omega arith)

entries_take : (count at : ℕ) (bytes : List ℕ) (x : List Trace × List ℕ) → IsBytes bytes → entries_at count at bytes ≡ Ok x
    → Takes bytes (flat_map entry x.0) x.1 × (length x.0 ≡ count)
unfolding entries_at
entries_take zero at bytes x fits e =
    subst (λ (y : List Trace × List ℕ). Takes bytes (flat_map entry y.0) y.1 × (length y.0 ≡ 0)) (ok_is ([], bytes) x e)
    (record { parts = refl; rest_fits = fits }, refl)
entries_take (suc count) at bytes x fits e =
    let a = bind_ok (entry_at at bytes) (λ first. entries_at count (at + 48) first.1 >>= λ others. Ok (first.0 ∷ others.0, others.1)) x e in
    let b = bind_ok (entries_at count (at + 48) a.0.1) (λ others. Ok (a.0.0 ∷ others.0, others.1)) x a.2 in
    let first = entry_takes at bytes a.0 fits a.1 in
    let second = entries_take count (at + 48) a.0.1 b.0 first.rest_fits b.1 in
    let both = Takes-then bytes (entry a.0.0) a.0.1 (flat_map entry b.0.0) b.0.1 first second.0 in
    let made : List Trace × List ℕ = (a.0.0 ∷ b.0.0, b.0.1) in
    subst (λ (y : List Trace × List ℕ). Takes bytes (flat_map entry y.0) y.1 × (length y.0 ≡ suc count)) (ok_is made x b.2)
    (both, ap suc second.1)

entries_again : (traces : List Trace) (at : ℕ) (rest : List ℕ) → AllByRecursion IsTrace traces
    → entries_at (length traces) at (flat_map entry traces ++ rest) ≡ Ok (traces, rest)
unfolding entries_at
entries_again [] at rest h = refl
entries_again (trace ∷ traces) at rest h =
    ap (λ bytes. entry_at at bytes >>= λ first. entries_at (length traces) (at + 48) first.1 >>= λ others. Ok
    (first.0 ∷ others.0, others.1)) (append_assoc (entry trace) (flat_map entry traces) rest)
    ∙ then_ok (entry_at at (entry trace ++ (flat_map entry traces ++ rest))) (trace, flat_map entry traces ++ rest) _
    (entry_again at trace (flat_map entry traces ++ rest) h.0)
    ∙ then_ok (entries_at (length traces) (at + 48) (flat_map entry traces ++ rest)) (traces, rest) _
    (entries_again traces (at + 48) rest h.1)

pub table_takes : (bytes : List ℕ) (traces : List Trace) → IsBytes bytes → table_in bytes ≡ Ok traces → bytes ≡ table traces
unfolding table_in
table_takes bytes traces fits e =
    let a = bind_ok (fixed_at 1 0 bytes) _ traces e in
    let n = bind_ok (word_at 4 a.0) _ traces a.2 in
    let b = bind_ok (fixed_at 0 8 n.0.1) _ traces n.2 in
    let c = bind_ok (fixed_at 0 12 b.0) _ traces b.2 in
    let d = bind_ok (offsets_at n.0.0 (16 + 4 * n.0.0) 16 c.0) _ traces c.2 in
    let t = bind_ok (entries_at n.0.0 (16 + 4 * n.0.0) d.0) _ traces d.2 in
    let g = guard_ended (length t.0.1 == 0) (16 + 52 * n.0.0) t.0.0 traces t.2 in
    let ta = fixed_takes 1 0 bytes a.0 fits a.1 in
    let tn = word_takes 4 a.0 n.0.0 n.0.1 ta.rest_fits n.1 in
    let tb = fixed_takes 0 8 n.0.1 b.0 tn.0.rest_fits b.1 in
    let tc = fixed_takes 0 12 b.0 c.0 tb.rest_fits c.1 in
    let td = offsets_take n.0.0 (16 + 4 * n.0.0) 16 c.0 d.0 tc.rest_fits d.1 in
    let tt' = entries_take n.0.0 (16 + 4 * n.0.0) d.0 t.0 td.rest_fits t.1 in
    let nothing : t.0.1 ≡ [] = nil_from_length t.0.1 (eqb-true _ _ g.0) in
    let w = words (offsets (16 + 4 * n.0.0) n.0.0) in
    let entries : d.0 ≡ flat_map entry t.0.0 = tt'.0.parts ∙ ap (λ r. flat_map entry t.0.0 ++ r) nothing
    ∙ append-nil (flat_map entry t.0.0) in
    let whole : bytes ≡ to_le_bytes w32 1 ++ (to_le_bytes w32 n.0.0
    ++ (to_le_bytes w32 0 ++ (to_le_bytes w32 0 ++ (w ++ flat_map entry t.0.0)))) =
    ta.parts ∙ ap (λ r. to_le_bytes w32 1 ++ r) (tn.0.parts ∙ ap (λ r. to_le_bytes w32 n.0.0 ++ r)
    (tb.parts ∙ ap (λ r. to_le_bytes w32 0 ++ r) (tc.parts
    ∙ ap (λ r. to_le_bytes w32 0 ++ r) (td.parts ∙ ap (λ r. w ++ r) entries)))) in
    let counted : bytes ≡ table t.0.0 = whole ∙ ap (λ k. (words (1 ∷ k ∷ 0 ∷ 0 ∷ []) ++ words (offsets (16 + 4 * k) k))
    ++ flat_map entry t.0.0) (sym tt'.1) in
    subst (λ (v : List Trace). bytes ≡ table v) g.1 counted

length-offsets : (count value : ℕ) → length (words (offsets value count)) ≡ 4 * count
length-offsets zero value = refl
length-offsets (suc count) value = omega (arith, length-offsets count (value + 48))

length-entries : (traces : List Trace) → AllByRecursion IsTrace traces → length (flat_map entry traces) ≡ 48 * length traces
length-entries [] h = refl
length-entries (trace ∷ traces) h =
    let short : length trace.name ≤ 32 = leb-true _ 32 (and_parts _ _ h.0.name).0 in
    omega (
      arith,
      length-entries traces h.1,
      length-append (entry trace) (flat_map entry traces),
      length-append trace.name
          (replicate (32 - length trace.name) 0),
      length-replicate {A = ℕ} (32 - length trace.name) 0,
    )

pub table_again : (traces : List Trace) → AllByRecursion IsTrace traces → length (table traces) < 2 ^ 31
    → table_in (table traces) ≡ Ok traces
unfolding table_in
table_again traces h small =
    let n = length traces in
    let w = words (offsets (16 + 4 * n) n) in
    let e = flat_map entry traces in
    let size : 16 + 52 * n < 2 ^ 31 = omega (arith, small, length-offsets n (16 + 4 * n), length-entries traces h, length-append w e) in
    let back : entries_at n (16 + 4 * n) e ≡ Ok (traces, []) =
    ap (entries_at n (16 + 4 * n)) (sym (append-nil e)) ∙ entries_again traces (16 + 4 * n) [] h in
    then_ok (fixed_at 1 0 (to_le_bytes w32 1 ++ (to_le_bytes w32 n ++ (to_le_bytes w32 0 ++ (to_le_bytes w32 0 ++ (w ++ e))))))
    (to_le_bytes w32 n ++ (to_le_bytes w32 0 ++ (to_le_bytes w32 0 ++ (w ++ e)))) _ (fixed_again 1 0 _ (omega arith))
    ∙ then_ok (word_at 4 (to_le_bytes w32 n ++ (to_le_bytes w32 0 ++ (to_le_bytes w32 0 ++ (w ++ e)))))
    (n, to_le_bytes w32 0 ++ (to_le_bytes w32 0 ++ (w ++ e))) _ (word_again 4 n _ (omega (arith, size)))
    ∙ then_ok (fixed_at 0 8 (to_le_bytes w32 0 ++ (to_le_bytes w32 0 ++ (w ++ e)))) (to_le_bytes w32 0 ++ (w ++ e)) _
    (fixed_again 0 8 _ (omega arith))
    ∙ then_ok (fixed_at 0 12 (to_le_bytes w32 0 ++ (w ++ e))) (w ++ e) _ (fixed_again 0 12 _ (omega arith))
    ∙ then_ok (offsets_at n (16 + 4 * n) 16 (w ++ e)) e _ (offsets_again n (16 + 4 * n) 16 e (omega (arith, size)))
    ∙ then_ok (entries_at n (16 + 4 * n) e) (traces, []) _ back

pub is_found : (bytes : List ℕ) (r : Result (Vec Trace) TableFault) → IsBytes bytes → Gives (λ v. v.items) r (table_in bytes)
    → IfOk r (λ v. bytes ≡ table v.items)
is_found bytes (Ok v) fits given = table_takes bytes v.items fits given
is_found bytes (Err e) fits given = tt
