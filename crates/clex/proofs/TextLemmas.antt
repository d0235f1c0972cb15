-- A text is cut into pieces in one way at most, and the loop that reads it.
use Rattle.std.proofs.Common.{◌≡◌, ℕ, ◌<◌, List, [], ◌∷◌, ◌++◌, length, Option, Ok, Err, Result, refl, sym, ap, ◌∙◌, subst, arith}
use Rattle.std.proofs.lemmas.List.{append_cancel_right}
use Rattle.csyn.specs.declared.token.Token.{Token}
use Rattle.csyn.specs.declared.token.TokenKind.{TokenKind}
use Rattle.csyn.specs.declared.token.TokenKind.TheVariants.{End}
use Rattle.csyn.specs.declared.span.Span.{Span}
use Rattle.csyn.specs.declared.cause.Cause.{Cause}
use Rattle.csyn.specs.declared.cause.Cause.TheVariants.{L1, L2, L3, L4}
use Rattle.clex.specs.Pieces.{Piece, Stands, Tells}
use Rattle.clex.specs.Reading.{Front, piece_at}
use Rattle.clex.specs.Text.{start, token_of, tokens_from, place_after, IsCut, Spells, IsFault, IsFaultOf, Answers}
use Rattle.std.specs.Prelude.{IfOk, IfErr}
use Rattle.csyn.specs.declared.fault.SourceFault.{SourceFault}
use Rattle.csyn.specs.declared.fault.SourceFault.TheVariants.{Broken, Memory}
use Rattle.clex.proofs.Dispatch.{piece_again}
use Rattle.clex.proofs.Causes.{tells_same}

-- ---- one way at most

-- no piece stands at the front of the text
abbrev NoneStands : List ℕ → Type 0
NoneStands text = (piece : Piece) (left : List ℕ) → text ≡ piece.bytes ++ left → Stands piece left → ⊥

reads : (piece : Piece) (text left : List ℕ) → text ≡ piece.bytes ++ left → Stands piece left → piece_at text ≡ Ok (piece.kind, left)
reads piece text left parts stands = ap piece_at parts ∙ piece_again piece.kind piece.bytes left stands

none_at_end : NoneStands []
unfolding piece_at
none_at_end piece left parts stands = let read : piece_at [] ≡ Ok (piece.kind, left) = reads piece [] left parts stands in cc

abbrev pub found : Option TokenKind × List ℕ → Front
found x = Ok x

pub same_found : (x y : Option TokenKind × List ℕ) → found x ≡ found y → x ≡ y
same_found x y e = cc

same_piece : (p q : Piece) (text l m : List ℕ) → text ≡ p.bytes ++ l → text ≡ q.bytes ++ m → Stands p l → Stands q m → (p ≡ q) × (l ≡ m)
same_piece p q text l m p_parts q_parts p_stands q_stands =
    let p_read = reads p text l p_parts p_stands in
    let q_read = reads q text m q_parts q_stands in
    let same = same_found (p.kind, l) (q.kind, m) (sym p_read ∙ q_read) in
    let kinds : p.kind ≡ q.kind = ap (λ (x : Option TokenKind × List ℕ). x.0) same in
    let lefts : l ≡ m = ap (λ (x : Option TokenKind × List ℕ). x.1) same in
    let whole : p.bytes ++ l ≡ q.bytes ++ l = sym p_parts ∙ q_parts ∙ ap (λ (t : List ℕ). q.bytes ++ t) (sym lefts) in
    let bytes = append_cancel_right p.bytes q.bytes l whole in
    (λ i. record { kind = kinds i; bytes = bytes i }, lefts)

same_cut : (ps qs : List Piece) (text l m : List ℕ) → IsCut ps text l → IsCut qs text m → NoneStands l → NoneStands m → (ps ≡ qs) × (l ≡ m)
same_cut [] [] text l m p q p_ends q_ends = (refl, sym p ∙ q)
same_cut [] (b ∷ qs) text l m p q p_ends q_ends = absurd (p_ends b q.0 (sym p ∙ q.1) q.2)
same_cut (a ∷ ps) [] text l m p q p_ends q_ends = absurd (q_ends a p.0 (sym q ∙ p.1) p.2)
same_cut (a ∷ ps) (b ∷ qs) text l m p q p_ends q_ends =
    let first = same_piece a b text p.0 q.0 p.1 q.1 p.2 q.2 in
    let rest = same_cut ps qs p.0 l m p.3 (subst (λ (t : List ℕ). IsCut qs t m) (sym first.1) q.3) p_ends q_ends in
    (λ i. first.0 i ∷ rest.0 i, rest.1)

pub one_list : (text : List ℕ) (ts us : List Token) → Spells ts text → Spells us text → ts ≡ us
one_list text ts us t u =
    let same = same_cut t.0 u.0 text [] [] t.1 u.1 none_at_end none_at_end in
    t.2 ∙ ap (λ (ps : List Piece). tokens_from start ps ++ token_of (place_after start ps) End ∷ []) same.0 ∙ sym u.2

pub one_fault : (text : List ℕ) (s t : Span) (c d : Cause) → IsFault text s c → IsFault text t d → (s ≡ t) × (c ≡ d)
one_fault text s t c d p q =
    let same = same_cut p.0 q.0 text p.1 q.1 p.2 q.2 p.4.nothing q.4.nothing in (
      p.3 ∙ ap (λ (ps : List Piece). (place_after start ps).span) same.0 ∙ sym q.3,
      tells_same c d q.1 (subst (Tells c) same.1 p.4.tells) q.4.tells,
    )

-- nothing is told of an empty text
tells_some : (c : Cause) (text : List ℕ) → Tells c text → 0 < length text
tells_some c (b ∷ text) h = omega arith
tells_some L1 [] h = absurd h
tells_some L2 [] h = let opens = h.1 in absurd cc
tells_some L3 [] h = absurd h
tells_some L4 [] h = absurd h
tells_some _ [] h = absurd h

pub not_both : (text : List ℕ) (ts : List Token) (s : Span) (c : Cause) → Spells ts text → IsFault text s c → ⊥
not_both text ts s c t p =
    let same = same_cut t.0 p.0 text [] p.1 t.1 p.2 none_at_end p.4.nothing in
    let some = tells_some c p.1 p.4.tells in
    omega (arith, some, ap length same.1)

-- ---- what is spelled is read, and the first fault is named

pub read_again : {A : Type 0} (view : A → List Token) (text : List ℕ) (r : Result A SourceFault)
    → IfOk r (λ x. Spells (view x) text) → IfErr r (IsFaultOf text)
    → (ts : List Token) → Spells ts text → Answers view r (Ok ts)
read_again view text (Ok x) spelled broken ts spells = ap (λ (t : List Token). Ok t) (one_list text ts (view x) spells spelled)
read_again view text (Err (Broken span cause)) spelled broken ts spells = absurd (not_both text ts span cause spells broken)
read_again view text (Err Memory) spelled broken ts spells = tt

pub named_again : {A : Type 0} (view : A → List Token) (text : List ℕ) (r : Result A SourceFault)
    → IfOk r (λ x. Spells (view x) text) → IfErr r (IsFaultOf text)
    → (span : Span) (cause : Cause) → IsFault text span cause → Answers view r (Err (Broken span cause))
named_again view text (Ok x) spelled broken span cause fault = absurd (not_both text (view x) span cause spelled fault)
named_again view text (Err (Broken s c)) spelled broken span cause fault =
    let same = one_fault text span s cause c fault broken in
    λ i. Err (Broken (same.0 i) (same.1 i))
named_again view text (Err Memory) spelled broken span cause fault = tt
