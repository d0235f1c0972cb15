-- Lists of symbols are compared by computing. Only the symbols by which expressions are read are told apart.
use Rattle.std.proofs.Common.{◌≡◌, ℕ, Bool, true, false, ◌&&◌, nat_eq, nat_le, List, [], ◌∷◌}
use Rattle.std.proofs.Common.{get_or, Some, refl, sym, ◌∙◌, ap, ap₂, true≢false}
use Rattle.std.proofs.lemmas.Bool.{and_parts, eqb-true}
use Rattle.csyn.specs.declared.punctuator.Punctuator.TheVariants as punctuator
use Rattle.cgrammar.specs.declared.production.Production.{Production}
use Rattle.cgrammar.specs.declared.production.Level.TheVariants as chain
use Rattle.cgrammar.specs.declared.terminal.Terminal.TheVariants as terminal
use Rattle.creader.specs.declared.part.Part.TheVariants as part
use Rattle.creader.specs.declared.part.Symbol.{Symbol}
use Rattle.creader.specs.declared.part.Symbol.TheVariants as symbol
use Rattle.creader.proofs.Complete.Kinds.{entry}
use Rattle.creader.proofs.Complete.Productions.{productions, production_number, production-entry}

unfoldable pub known_symbols : List Symbol
known_symbols =
    (symbol.Take (terminal.Punctuator punctuator.RightParenthesis)) ∷
    (symbol.Take (terminal.Punctuator punctuator.RightBracket)) ∷
    (symbol.Take (terminal.Punctuator punctuator.Colon)) ∷ (symbol.Take terminal.Name) ∷
    (symbol.Read part.Expression) ∷ (symbol.Read part.Assignment) ∷ (symbol.Read part.Conditional) ∷
    (symbol.Read part.Operand) ∷ (symbol.Read part.Unary) ∷ (symbol.Read part.TypeName) ∷
    (symbol.Read part.Arguments) ∷ (symbol.Read part.AfterName) ∷ (symbol.Read part.SizeofOperand) ∷
    (symbol.Read part.SizeofParenthesis) ∷ (symbol.Read part.AssignmentParenthesis) ∷
    (symbol.Read part.OperandParenthesis) ∷ (symbol.Read part.CommaTail) ∷ (symbol.Read part.AssignmentTail) ∷
    (symbol.Read part.ConditionalTail) ∷ (symbol.Read part.NameTail) ∷ (symbol.Read part.PostfixTail) ∷
    (symbol.Read (part.Chain chain.Or)) ∷ (symbol.Read (part.Chain chain.And)) ∷
    (symbol.Read (part.Chain chain.BitOr)) ∷ (symbol.Read (part.Chain chain.BitXor)) ∷
    (symbol.Read (part.Chain chain.BitAnd)) ∷ (symbol.Read (part.Chain chain.Equality)) ∷
    (symbol.Read (part.Chain chain.Relation)) ∷ (symbol.Read (part.Chain chain.Shift)) ∷
    (symbol.Read (part.Chain chain.Sum)) ∷ (symbol.Read (part.Chain chain.Product)) ∷
    (symbol.Read (part.ChainTail chain.Or)) ∷ (symbol.Read (part.ChainTail chain.And)) ∷
    (symbol.Read (part.ChainTail chain.BitOr)) ∷ (symbol.Read (part.ChainTail chain.BitXor)) ∷
    (symbol.Read (part.ChainTail chain.BitAnd)) ∷ (symbol.Read (part.ChainTail chain.Equality)) ∷
    (symbol.Read (part.ChainTail chain.Relation)) ∷ (symbol.Read (part.ChainTail chain.Shift)) ∷
    (symbol.Read (part.ChainTail chain.Sum)) ∷ (symbol.Read (part.ChainTail chain.Product)) ∷
    []

unfoldable pub symbol_number : Symbol → ℕ
symbol_number (symbol.Take (terminal.Punctuator punctuator.RightParenthesis)) = 0
symbol_number (symbol.Take (terminal.Punctuator punctuator.RightBracket)) = 1
symbol_number (symbol.Take (terminal.Punctuator punctuator.Colon)) = 2
symbol_number (symbol.Take terminal.Name) = 3
symbol_number (symbol.Read part.Expression) = 4
symbol_number (symbol.Read part.Assignment) = 5
symbol_number (symbol.Read part.Conditional) = 6
symbol_number (symbol.Read part.Operand) = 7
symbol_number (symbol.Read part.Unary) = 8
symbol_number (symbol.Read part.TypeName) = 9
symbol_number (symbol.Read part.Arguments) = 10
symbol_number (symbol.Read part.AfterName) = 11
symbol_number (symbol.Read part.SizeofOperand) = 12
symbol_number (symbol.Read part.SizeofParenthesis) = 13
symbol_number (symbol.Read part.AssignmentParenthesis) = 14
symbol_number (symbol.Read part.OperandParenthesis) = 15
symbol_number (symbol.Read part.CommaTail) = 16
symbol_number (symbol.Read part.AssignmentTail) = 17
symbol_number (symbol.Read part.ConditionalTail) = 18
symbol_number (symbol.Read part.NameTail) = 19
symbol_number (symbol.Read part.PostfixTail) = 20
symbol_number (symbol.Read (part.Chain chain.Or)) = 21
symbol_number (symbol.Read (part.Chain chain.And)) = 22
symbol_number (symbol.Read (part.Chain chain.BitOr)) = 23
symbol_number (symbol.Read (part.Chain chain.BitXor)) = 24
symbol_number (symbol.Read (part.Chain chain.BitAnd)) = 25
symbol_number (symbol.Read (part.Chain chain.Equality)) = 26
symbol_number (symbol.Read (part.Chain chain.Relation)) = 27
symbol_number (symbol.Read (part.Chain chain.Shift)) = 28
symbol_number (symbol.Read (part.Chain chain.Sum)) = 29
symbol_number (symbol.Read (part.Chain chain.Product)) = 30
symbol_number (symbol.Read (part.ChainTail chain.Or)) = 31
symbol_number (symbol.Read (part.ChainTail chain.And)) = 32
symbol_number (symbol.Read (part.ChainTail chain.BitOr)) = 33
symbol_number (symbol.Read (part.ChainTail chain.BitXor)) = 34
symbol_number (symbol.Read (part.ChainTail chain.BitAnd)) = 35
symbol_number (symbol.Read (part.ChainTail chain.Equality)) = 36
symbol_number (symbol.Read (part.ChainTail chain.Relation)) = 37
symbol_number (symbol.Read (part.ChainTail chain.Shift)) = 38
symbol_number (symbol.Read (part.ChainTail chain.Sum)) = 39
symbol_number (symbol.Read (part.ChainTail chain.Product)) = 40
symbol_number _ = 999

symbol-at : (s : Symbol) → nat_le (symbol_number s) 40 ≡ true → get_or known_symbols (symbol_number s) (symbol.Take terminal.Any) ≡ s
unfolding known_symbols symbol_number
symbol-at (symbol.Take (terminal.Punctuator punctuator.RightParenthesis)) h = refl
symbol-at (symbol.Take (terminal.Punctuator punctuator.RightBracket)) h = refl
symbol-at (symbol.Take (terminal.Punctuator punctuator.Colon)) h = refl
symbol-at (symbol.Take terminal.Name) h = refl
symbol-at (symbol.Read part.Expression) h = refl
symbol-at (symbol.Read part.Assignment) h = refl
symbol-at (symbol.Read part.Conditional) h = refl
symbol-at (symbol.Read part.Operand) h = refl
symbol-at (symbol.Read part.Unary) h = refl
symbol-at (symbol.Read part.TypeName) h = refl
symbol-at (symbol.Read part.Arguments) h = refl
symbol-at (symbol.Read part.AfterName) h = refl
symbol-at (symbol.Read part.SizeofOperand) h = refl
symbol-at (symbol.Read part.SizeofParenthesis) h = refl
symbol-at (symbol.Read part.AssignmentParenthesis) h = refl
symbol-at (symbol.Read part.OperandParenthesis) h = refl
symbol-at (symbol.Read part.CommaTail) h = refl
symbol-at (symbol.Read part.AssignmentTail) h = refl
symbol-at (symbol.Read part.ConditionalTail) h = refl
symbol-at (symbol.Read part.NameTail) h = refl
symbol-at (symbol.Read part.PostfixTail) h = refl
symbol-at (symbol.Read (part.Chain chain.Or)) h = refl
symbol-at (symbol.Read (part.Chain chain.And)) h = refl
symbol-at (symbol.Read (part.Chain chain.BitOr)) h = refl
symbol-at (symbol.Read (part.Chain chain.BitXor)) h = refl
symbol-at (symbol.Read (part.Chain chain.BitAnd)) h = refl
symbol-at (symbol.Read (part.Chain chain.Equality)) h = refl
symbol-at (symbol.Read (part.Chain chain.Relation)) h = refl
symbol-at (symbol.Read (part.Chain chain.Shift)) h = refl
symbol-at (symbol.Read (part.Chain chain.Sum)) h = refl
symbol-at (symbol.Read (part.Chain chain.Product)) h = refl
symbol-at (symbol.Read (part.ChainTail chain.Or)) h = refl
symbol-at (symbol.Read (part.ChainTail chain.And)) h = refl
symbol-at (symbol.Read (part.ChainTail chain.BitOr)) h = refl
symbol-at (symbol.Read (part.ChainTail chain.BitXor)) h = refl
symbol-at (symbol.Read (part.ChainTail chain.BitAnd)) h = refl
symbol-at (symbol.Read (part.ChainTail chain.Equality)) h = refl
symbol-at (symbol.Read (part.ChainTail chain.Relation)) h = refl
symbol-at (symbol.Read (part.ChainTail chain.Shift)) h = refl
symbol-at (symbol.Read (part.ChainTail chain.Sum)) h = refl
symbol-at (symbol.Read (part.ChainTail chain.Product)) h = refl
symbol-at _ h = absurd (true≢false (sym h))

-- productions are told apart by their numbers
Some_path : (p q : Production) → Some p ≡ Some q → p ≡ q
Some_path p q e = cc

same_production : (p q : Production) → nat_eq (production_number p) (production_number q) ≡ true → p ≡ q
same_production p q h =
    let e = ap (λ n. entry n productions) (eqb-true (production_number p) (production_number q) h) in
    Some_path p q (sym (production-entry p) ∙ (e ∙ production-entry q))

unfoldable pub same_symbol : Symbol → Symbol → Bool
same_symbol (symbol.Reduce p) (symbol.Reduce q) = nat_eq (production_number p) (production_number q)
same_symbol a b = nat_eq (symbol_number a) (symbol_number b) && (nat_le (symbol_number a) 40 && nat_le (symbol_number b) 40)

by_number : (a b : Symbol) → (nat_eq (symbol_number a) (symbol_number b) &&
    (nat_le (symbol_number a) 40 && nat_le (symbol_number b) 40)) ≡ true
    → a ≡ b
by_number a b h =
    let one = and_parts (nat_eq (symbol_number a) (symbol_number b)) _ h in
    let two = and_parts (nat_le (symbol_number a) 40) (nat_le (symbol_number b) 40) one.1 in
    sym (symbol-at a two.0) ∙ (ap (λ n. get_or known_symbols n (symbol.Take terminal.Any)) (eqb-true _ _ one.0) ∙ symbol-at b two.1)

same_symbol-path : (a b : Symbol) → same_symbol a b ≡ true → a ≡ b
unfolding same_symbol
same_symbol-path (symbol.Reduce p) (symbol.Reduce q) h = ap symbol.Reduce (same_production p q h)
same_symbol-path a b h = by_number a b h

unfoldable pub same : List Symbol → List Symbol → Bool
same [] [] = true
same (a ∷ s) (b ∷ t) = same_symbol a b && same s t
same _ _ = false

pub same-path : (s t : List Symbol) → same s t ≡ true → s ≡ t
unfolding same
same-path [] [] h = refl
same-path (a ∷ s) (b ∷ t) h =
    let both = and_parts (same_symbol a b) (same s t) h in
    ap₂ (λ x y. x ∷ y) (same_symbol-path a b both.0) (same-path s t both.1)
same-path _ _ h = absurd (true≢false (sym h))
