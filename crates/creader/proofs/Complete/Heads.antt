-- How expressions are read. An expression of level m that is read where one of level n ≤ m is wanted leaves symbols behind it, by which
-- the reader goes on to a longer expression or drops them: so an operator behind it is read by what is left.
use Rattle.std.specs.Prelude.{◌≡◌, ℕ, ◌+◌, Bool, true, false, not, ◌&&◌, nat_le, nat_eq, List, [], ◌∷◌}
use Rattle.std.specs.Prelude.{◌++◌, map, filter, Option, Some, None, if◌then◌else◌}
use Rattle.csyn.specs.declared.token.Token.{Token}
use Rattle.csyn.specs.declared.punctuator.Punctuator.TheVariants as punctuator
use Rattle.cgrammar.specs.declared.kind.Kind.{Kind}
use Rattle.cgrammar.specs.declared.production.Production.{Production}
use Rattle.cgrammar.specs.declared.production.Production.TheVariants as make
use Rattle.cgrammar.specs.declared.production.Level.TheVariants as chain
use Rattle.cgrammar.specs.declared.terminal.Terminal.{Terminal}
use Rattle.creader.specs.declared.part.Part.TheVariants as part
use Rattle.creader.specs.declared.part.Symbol.{Symbol}
use Rattle.creader.specs.declared.part.Symbol.TheVariants as symbol
use Rattle.cgrammar.specs.Kind.{kind_of}
use Rattle.cgrammar.specs.Terminal.{accepts}
use Rattle.creader.specs.Rules.{Rule, rules, choose, any_accepts}
use Rattle.cgrammar.specs.Grammar as class
use Rattle.cgrammar.specs.Grammar.{Class, under, home, operator_level, comparison_level, logical_level}
use Rattle.cgrammar.specs.Text.{Written, leaf, node, Forest, none, more, spell}
use Rattle.creader.specs.Machine.{at, Reaches}
use Rattle.creader.proofs.Complete.Firsts.{Begins, firsts, sign}
use Rattle.creader.proofs.Complete.Reading.{Reads, level_reader, has_reader, extenders}

-- the level of an expression's class
unfoldable pub level_of : Class → ℕ
level_of (class.level n) = n
level_of class.callee = 15
level_of _ = 99

unfoldable pub is_level : Class → Bool
is_level (class.level n) = true
is_level class.callee = true
is_level _ = false

unfoldable pub is_expression : Production → Bool
is_expression p = is_level (home p)

unfoldable pub is_bare_name : Production → Bool
is_bare_name make.Name = true
is_bare_name _ = false

-- the level of an expression
unfoldable pub levels_of : Written → ℕ
levels_of (leaf _) = 99
levels_of (node p _) = level_of (home p)

unfoldable pub is_name_node : Written → Bool
is_name_node (leaf _) = false
is_name_node (node p _) = is_bare_name p

-- What goes on with an expression, by number: 3 to 12 an operator of that level, 2 a question mark, 1 an assignment, 0 a comma, 14 what may
-- stand behind a name, 15 what may stand behind another expression of level 15.
unfoldable pub tail_symbol : ℕ → Symbol
tail_symbol n = if nat_eq n 0 then symbol.Read part.CommaTail else (if nat_eq n 1 then symbol.Read part.AssignmentTail
    else (if nat_eq n 2 then symbol.Read part.ConditionalTail else (if nat_eq n 14 then symbol.Read part.NameTail
    else (if nat_eq n 3 then symbol.Read (part.ChainTail chain.Or) else (if nat_eq n 4 then symbol.Read (part.ChainTail chain.And)
    else (if nat_eq n 5 then symbol.Read (part.ChainTail chain.BitOr) else (if nat_eq n 6 then symbol.Read (part.ChainTail chain.BitXor)
    else (if nat_eq n 7 then symbol.Read (part.ChainTail chain.BitAnd) else (if nat_eq n 8 then symbol.Read (part.ChainTail chain.Equality)
    else (if nat_eq n 9 then symbol.Read (part.ChainTail chain.Relation) else (if nat_eq n 10 then symbol.Read (part.ChainTail chain.Shift)
    else (if nat_eq n 11 then symbol.Read (part.ChainTail chain.Sum) else (if nat_eq n 12 then symbol.Read (part.ChainTail chain.Product)
    else symbol.Read part.PostfixTail)))))))))))))

-- the operators of the levels from the one up to the other, the tightest first
unfoldable pub chain_numbers : ℕ → ℕ → List ℕ
chain_numbers low high = filter (λ l. nat_le low l && nat_le l high) (12 ∷ 11 ∷ 10 ∷ 9 ∷ 8 ∷ 7 ∷ 6 ∷ 5 ∷ 4 ∷ 3 ∷ [])

-- behind an expression of level 15
unfoldable pub postfix_numbers : ℕ → Bool → List ℕ
postfix_numbers m name = if nat_eq m 15 then (if name then 14 ∷ [] else 15 ∷ []) else []

-- behind an expression of level m, where one of level n is wanted
unfoldable pub after_numbers : ℕ → ℕ → List ℕ
after_numbers n m =
    (if nat_le n 1 && nat_le 14 m then 1 ∷ [] else chain_numbers n m ++ (if nat_le n 2 && nat_le 3 m then 2 ∷ [] else []))
    ++ (if nat_eq n 0 then 0 ∷ [] else [])

unfoldable pub left_numbers : ℕ → ℕ → Bool → List ℕ
left_numbers n m name = postfix_numbers m name ++ after_numbers n m

-- the symbols that are left when this one has been read where one of level n is wanted
unfoldable pub left : ℕ → Written → List Symbol
left n w = map tail_symbol (left_numbers n (levels_of w) (is_name_node w))

-- those of them that are for expressions of level 15
unfoldable pub tail_of : Written → List Symbol
tail_of w = map tail_symbol (postfix_numbers (levels_of w) (is_name_node w))

-- the tokens that would go on with the last part of an expression
unfoldable pub barred : Production → List Terminal
barred make.Name = sign punctuator.LeftParenthesis ∷ []
barred make.PreIncrement = extenders 14
barred make.PreDecrement = extenders 14
barred make.SizeofExpression = extenders 14
barred make.Prefix = extenders 13
barred make.Cast = extenders 13
barred (make.Binary o) = extenders (operator_level o + 1)
barred (make.Comparison o) = extenders (comparison_level o + 1)
barred (make.Logical o) = extenders (logical_level o + 1)
barred make.Conditional = extenders 2
barred make.Assign = extenders 1
barred (make.AssignWith _) = extenders 1
barred make.Comma = extenders 1
barred _ = []

unfoldable pub barred_of : Written → List Terminal
barred_of (leaf _) = []
barred_of (node p _) = barred p

-- the token doesn't go on with its last part
abbrev pub may_end : Production → Kind → Bool
may_end p kind = not (any_accepts (barred p) kind)

abbrev pub Ends : Written → Kind → Type 0
Ends w kind = not (any_accepts (barred_of w) kind) ≡ true

-- what an expression begins with
unfoldable pub starts_expression : Kind → Bool
starts_expression kind = any_accepts (firsts (class.level 0)) kind

unfoldable pub symbols_of : Option Rule → List Symbol
symbols_of None = []
symbols_of (Some rule) = rule.symbols

-- what is still to be read of a unary expression behind its first token
unfoldable pub inner : Kind → List Symbol
inner kind = symbols_of (choose (rules part.Unary) kind)

-- It is read from behind its first token on, as a unary expression; and if that is a parenthesis, an expression stands behind it.
pub record Behind (w : Written) : Type 0 where
  pub first : Token
  pub rest : List Token
  pub spelled : spell w ≡ first ∷ rest
  pub inside : accepts (sign punctuator.LeftParenthesis) (kind_of first) ≡ true → (next : Token) (tokens : List Token)
      → Begins starts_expression (rest ++ next ∷ tokens)
  pub reads : (symbols : List Symbol) (values : List Written) (next : Token) (tokens : List Token) → Ends w (kind_of next)
      → Reaches (at (inner (kind_of first) ++ symbols) (leaf first ∷ values) (rest ++ next ∷ tokens))
      (at (tail_of w ++ symbols) (w ∷ values)
      (next ∷ tokens))

-- What is known of an expression: that it is read where one of its level or a looser one is wanted, with what is left then.
pub record Heads (w : Written) : Type 0 where
  pub behind : nat_le 14 (levels_of w) ≡ true → Behind w
  pub heads : (n : ℕ) → nat_le n (levels_of w) ≡ true → nat_le n 14 ≡ true
      → (symbols : List Symbol) (values : List Written) (next : Token) (tokens : List Token) → Ends w (kind_of next)
      → Reaches (at (level_reader n ++ symbols) values (spell w ++ next ∷ tokens)) (at (left n w ++ symbols) (w ∷ values) (next ∷ tokens))

-- what is known of a tree, when the larger ones are proved
unfoldable pub known_as : Bool → Production → Written → Type 0
known_as true p w = Heads w
known_as false p w = (c : Class) → under (home p) c ≡ true → has_reader c ≡ true → Reads c w

unfoldable pub Known : Written → Type 0
Known (leaf _) = Unit {0}
Known (node p f) = known_as (is_expression p) p (node p f)

unfoldable pub AllKnown : Forest → Type 0
AllKnown none = Unit {0}
AllKnown (more w f) = Known w × AllKnown f
