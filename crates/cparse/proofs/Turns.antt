-- One turn of the builder's loop.
use Rattle.std.proofs.Common.{◌≡◌, ◌+◌, ◌<◌, ◌≤◌, ℕ, zero, suc, Bool, true, false, List, [], ◌∷◌, ◌++◌, drop, get_or}
use Rattle.std.proofs.Common.{length, Option, Some, None, sym, ap, subst, refl, ◌∙◌, cond, arith}
use Rattle.std.specs.Option.{option_map, option_and_then, option_to_list}
use Rattle.std.specs.Prelude.{MatchOption}
use Rattle.std.specs.LinkedList.{linked_list_len}
use Rattle.std.proofs.lemmas.List.{drop_all}
use Rattle.std.proofs.Math.Seq.{drop-cons}
use Rattle.std.proofs.Math.Numerals.{add-one}
use Rattle.csyn.specs.declared.token.Token.{Token}
use Rattle.cgrammar.specs.Text.{Written, IsText}
use Rattle.cgrammar.specs.Grammar.{is_node}
use Rattle.creader.specs.declared.reader.Entry.{Entry}
use Rattle.creader.specs.Entries.{entries}
use Rattle.cparts.specs.declared.value.Value.{Value}
use Rattle.cparse.specs.Nodes.{nodes}
use Rattle.cparse.specs.Tree.{value}
use Rattle.cparse.specs.Build.{Built, built, build, build_one, with_value}
use Rattle.cparts.specs.Value.{bare_value, bare_values}
use Rattle.cparse.proofs.Built.{whole-built}
use Rattle.cparse.proofs.Within.{Lies, lies-at}

-- what stands in a list is read with any default
pub same-at : (es : List Entry) (i : ℕ) (d e : Entry) → i < length es → get_or es i d ≡ get_or es i e
same-at [] i d e h = absurd (omega arith)
same-at (x ∷ es) zero d e h = refl
same-at (x ∷ es) (suc i) d e h = same-at es i d e (omega arith)

-- the entries from a place on
next-entry : (es : List Entry) (i : ℕ) (e : Entry) → e ≡ get_or es i e → i < length es → drop i es ≡ e ∷ drop (i + 1) es
next-entry es i e is within = rw (add-one, drop-cons es i e) (ap (λ x. x ∷ drop (suc i) es) (sym is))

pub turn : (tokens : List Token) (es : List Entry) (i : ℕ) (e : Entry) (before after : Built) (whole : Option Built)
    → e ≡ get_or es i e → i < length es
    → build_one tokens before e ≡ Some after → build tokens (drop i es) before ≡ whole → build tokens (drop (i + 1) es) after ≡ whole
turn tokens es i e before after whole is within one same =
    sym (ap (λ o. option_and_then (build tokens (drop (i + 1) es)) o) one)
    ∙ sym (ap (λ xs. build tokens xs before) (next-entry es i e is within)) ∙ same

nodes-by : (made : Option Value) (before after : Built) (e : Entry) (own : Bool) → is_node e.production ≡ own
    → with_value made before e ≡ Some after
    → after.nodes ≤ before.nodes + 1
nodes-by None before after e own node h = absurd (cc)
nodes-by (Some v) before after e true node h =
    let count : after.nodes ≡ before.nodes + cond (is_node e.production) 1 0 = cc in
    omega (arith, count, ap (λ b. before.nodes + cond b 1 0) node)
nodes-by (Some v) before after e false node h =
    let count : after.nodes ≡ before.nodes + cond (is_node e.production) 1 0 = cc in
    omega (arith, count, ap (λ b. before.nodes + cond b 1 0) node)

pub turn-nodes : (tokens : List Token) (before after : Built) (e : Entry) → build_one tokens before e ≡ Some after
    → after.nodes ≤ before.nodes + 1
turn-nodes tokens before after e h = nodes-by _ before after e (is_node e.production) refl h

-- a production that makes nothing would leave the whole without a value
pub never-stuck : (tokens : List Token) (es : List Entry) (i : ℕ) (e : Entry) (before : Built) (written : Written) (v : Value)
    → e ≡ get_or es i e
    → i < length es → build_one tokens before e ≡ None → build tokens (drop i es) before ≡ build tokens es (built [] 0)
    → IsText written tokens
    → es ≡ entries 0 written → value 0 written ≡ Some v → ⊥
never-stuck tokens es i e before written v is within one same text all has =
    let none : build tokens (drop i es) before ≡ None =
    ap (λ xs. build tokens xs before) (next-entry es i e is within) ∙ ap (λ o. option_and_then (build tokens (drop (i + 1) es)) o) one in
    let some : build tokens es (built [] 0) ≡ Some (built (v ∷ []) (nodes written)) =
    ap (λ xs. build tokens xs (built [] 0)) all ∙ whole-built tokens written v text has in
    let other : None ≡ Some (built (v ∷ []) (nodes written)) = sym none ∙ same ∙ some in
    absurd (cc)

-- at the end there is one value
pub at-end : (tokens : List Token) (es : List Entry) (i : ℕ) (last : Built) (written : Written) (v : Value) → length es ≤ i
    → build tokens (drop i es) last ≡ build tokens es (built [] 0) → IsText written tokens → es ≡ entries 0 written
    → value 0 written ≡ Some v
    → last ≡ built (v ∷ []) (nodes written)
at-end tokens es i last written v over same text all has =
    let done : build tokens (drop i es) last ≡ Some last = ap (λ xs. build tokens xs last) (drop_all i es over) in
    let some : build tokens es (built [] 0) ≡ Some (built (v ∷ []) (nodes written)) =
    ap (λ xs. build tokens xs (built [] 0)) all ∙ whole-built tokens written v text has in
    let same' : Some last ≡ Some (built (v ∷ []) (nodes written)) = sym done ∙ same ∙ some in
    cc

-- each production lies within the source
pub lies : (tokens : List Token) (es : List Entry) (i : ℕ) (e : Entry) (written : Written) → e ≡ get_or es i e → i < length es
    → IsText written tokens
    → es ≡ entries 0 written → Lies (length tokens) e
lies tokens es i e written is within text all =
    let here : i < length (entries 0 written) = omega (arith, ap length all) in
    let found = lies-at written i e here in
    let same : get_or (entries 0 written) i e ≡ e = ap (λ xs. get_or xs i e) (sym all) ∙ sym is in
    subst (λ x. Lies (length tokens) x) same (subst (λ n. Lies n (get_or (entries 0 written) i e)) (ap length text.spelled) found)

-- the first of one value
pub popped : (all rest : List Value) (first : Option Value) (v : Value) → bare_values all ≡ v ∷ [] → all ≡ option_to_list first ++ rest
    → MatchOption first ((all ≡ []) × (rest ≡ [])) (λ _. linked_list_len rest + 1 ≡ linked_list_len all)
    → option_map bare_value first ≡ Some v
popped all rest None v one split cases = let none : [] ≡ v ∷ [] = ap bare_values (sym cases.0) ∙ one in absurd (cc)
popped all rest (Some x) v one split cases =
    let both : bare_value x ∷ bare_values rest ≡ v ∷ [] = ap bare_values (sym split) ∙ one in
    let same : bare_value x ≡ v = cc in
    ap Some same
