-- Symbols written one after the other, as a loop does.
use Rattle.std.proofs.Common.{◌≡◌, ℕ, ◌+◌, ◌<◌, ◌≤◌, List, [], ◌∷◌, ◌++◌, length, get_or, drop, take, replicate, sym, ap}
use Rattle.std.proofs.Common.{◌∙◌, append_assoc, arith}
use Rattle.std.specs.Prelude.{OnOk, Result, Ok, Err}
use Rattle.std.specs.List.{flat_map}
use Rattle.std.proofs.lemmas.List.{append-nil, drop_more, drop_all, length-append, take_more}
use Rattle.std.proofs.lemmas.List.Concat.{flat_map-append}
use Rattle.pruelf.specs.declared.symbol.Sym.{Sym}
use Rattle.isa.specs.Image.{Contents}
use Rattle.pruelf.specs.declared.form.Form.{Form}
use Rattle.pruelf.specs.declared.plan.Plan.{Plan}
use Rattle.elfwrite.specs.Written.{Besides, executable, filled, front_bytes, name_bytes, parts_bytes, plan_of, section_bytes, sections}
use Rattle.elfwrite.specs.Written.{sections_bytes, symbol_bytes, symbols_bytes}

pub symbol_written : (symbols : List Sym) (i name : ℕ) (s : Sym) (out more before : List ℕ) → i < length symbols → s
    ≡ get_or symbols i s → more ≡ out ++ symbol_bytes name s
    → out ++ symbols_bytes name (drop i symbols) ≡ before → more ++ symbols_bytes (name + (length s.name + 1)) (drop (i + 1) symbols)
    ≡ before
unfolding symbols_bytes
symbol_written symbols i name s out more before lt is e so_far =
    let rest = drop (i + 1) symbols in
    let d : drop i symbols ≡ s ∷ rest = drop_more symbols i s lt ∙ ap (λ x. x ∷ rest) (sym is) in
    ap (λ xs. xs ++ symbols_bytes (name + (length s.name + 1)) rest) e
    ∙ append_assoc out (symbol_bytes name s) (symbols_bytes (name + (length s.name + 1)) rest)
    ∙ ap (λ ss. out ++ symbols_bytes name ss) (sym d) ∙ so_far

pub names_left : (symbols : List Sym) (i : ℕ) (s : Sym) → i < length symbols → s ≡ get_or symbols i s
    → length (flat_map name_bytes (drop i symbols)) ≡ length s.name + 1 + length (flat_map name_bytes (drop (i + 1) symbols))
names_left symbols i s lt is =
    let rest = drop (i + 1) symbols in
    let d : drop i symbols ≡ s ∷ rest = drop_more symbols i s lt ∙ ap (λ x. x ∷ rest) (sym is) in
    let whole : length (flat_map name_bytes (drop i symbols)) ≡ length (name_bytes s ++ flat_map name_bytes rest) =
    ap (λ ss. length (flat_map name_bytes ss)) d in
    omega (arith, whole, length-append (name_bytes s) (flat_map name_bytes rest), length-append s.name (0 ∷ []))

pub symbols_written : (symbols : List Sym) (i name : ℕ) (out before : List ℕ) → length symbols ≤ i
    → out ++ symbols_bytes name (drop i symbols) ≡ before → out ≡ before
unfolding symbols_bytes
symbols_written symbols i name out before le so_far =
    sym (append-nil out) ∙ ap (λ ss. out ++ symbols_bytes name ss) (sym (drop_all i symbols le)) ∙ so_far

-- ---- one part behind the other

pub on_ok : {A E : Type 0} (r : Result A E) (P Q : Type 0) → (P → Q) → OnOk r P → OnOk r Q
on_ok (Ok x) P Q f h = f h
on_ok (Err e) P Q f h = tt

pub strings_written : (names bytes out middle last new : List ℕ) → names ≡ bytes → middle ≡ out ++ filled names → new ≡ middle ++ last
    → new ≡ out ++ (filled bytes ++ last)
strings_written names bytes out middle last new is first second =
    second ∙ ap (λ xs. xs ++ last) first ∙ append_assoc out (filled names) last ∙ ap (λ xs. out ++ (filled xs ++ last)) is

pub all_written : (i : Contents) (x : Besides) (p : Plan) (start front parts whole : List ℕ) → p ≡ plan_of i x → start ≡ [] → front
    ≡ start ++ front_bytes p
    → parts ≡ front ++ parts_bytes i x → whole ≡ parts ++ sections_bytes p → whole ≡ executable i x
all_written i x p start front parts whole is a b c d =
    d ∙ ap (λ o. o ++ sections_bytes p) (c ∙ ap (λ o. o ++ parts_bytes i x) (b ∙ ap (λ o. o ++ front_bytes p) a))
    ∙ ap (λ q. front_bytes q ++ parts_bytes i x ++ sections_bytes q) is

pub headers_written : (p : Plan) (all : List (Form × ℕ)) (out middle new : List ℕ) → all ≡ sections p → middle ≡ out ++ replicate 40 0
    → new ≡ middle ++ flat_map (λ x. section_bytes x.0 x.1) all → new ≡ out ++ sections_bytes p
unfolding sections_bytes
headers_written p all out middle new is first second =
    let bytes = λ (xs : List (Form × ℕ)). flat_map (λ (x : Form × ℕ). section_bytes x.0 x.1) xs in
    second ∙ ap (λ xs. xs ++ bytes all) first ∙ append_assoc out (replicate 40 0) (bytes all)
    ∙ ap (λ xs. out ++ (replicate 40 0 ++ bytes xs)) is

pub names_more : (symbols : List Sym) (i : ℕ) (s : Sym) → i < length symbols → s ≡ get_or symbols i s
    → length (flat_map name_bytes (take (i + 1) symbols)) ≡ length (flat_map name_bytes (take i symbols)) + length s.name + 1
names_more symbols i s lt is =
    let t : take (i + 1) symbols ≡ take i symbols ++ s ∷ [] = take_more symbols i s lt ∙ ap (λ x. take i symbols ++ x ∷ []) (sym is) in
    let whole : length (flat_map name_bytes (take (i + 1) symbols))
    ≡ length (flat_map name_bytes (take i symbols) ++ flat_map name_bytes (s ∷ [])) =
    ap (λ ss. length (flat_map name_bytes ss)) t ∙ ap (λ (b : List ℕ). length b)
    (flat_map-append name_bytes (take i symbols) (s ∷ [])) in
    omega (
      arith,
      whole,
      length-append (flat_map name_bytes (take i symbols)) (flat_map name_bytes (s ∷ [])),
      length-append (name_bytes s) [],
      length-append s.name (0 ∷ []),
    )
