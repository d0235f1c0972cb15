-- What reading costs: each step is paid out of what the symbols weigh, and each token that is taken brings more.
use Rattle.std.specs.Prelude.{◌≡◌, ℕ, ◌+◌, ◌<◌, ◌≤◌, max, Bool, true, false, not, ◌||◌, ◌&&◌, nat_le}
use Rattle.std.specs.Prelude.{if◌then◌else◌, List, [], ◌∷◌, ◌++◌, Some, refl, cond}
use Rattle.std.proofs.Common.{arith, ap, subst, leb-true}
use Rattle.std.specs.Cmp.{first_so, second_so}
use Rattle.cgrammar.specs.declared.kind.Kind.{Kind}
use Rattle.cgrammar.specs.declared.production.Production.{Production}
use Rattle.cgrammar.specs.declared.terminal.Terminal.{Terminal}
use Rattle.creader.specs.declared.part.Part.{Part}
use Rattle.creader.specs.declared.part.Part.TheVariants as part
use Rattle.creader.specs.declared.part.Move.{Move}
use Rattle.creader.specs.declared.part.Move.TheVariants as move
use Rattle.creader.specs.declared.part.Symbol.{Symbol}
use Rattle.creader.specs.declared.part.Symbol.TheVariants as symbol
use Rattle.cgrammar.specs.declared.production.Level.TheVariants as level
use Rattle.cgrammar.specs.declared.production.Words.TheVariants as words
use Rattle.creader.specs.Machine.{each_token}
use Rattle.creader.specs.Rules.{Rule, rules, chain_rules, chain_tail_rules, words_rules, choose}
use Rattle.creader.proofs.Fault.Completion.{every_chosen}
use Rattle.creader.proofs.Fault.Kinds.{every}

pub data Cost : Type 0 where
  -- It takes a token, whatever stands there, after at most so many steps.
  sure : ℕ → Cost
  -- It may end without a token, after at most so many steps, the first number, or begin what takes one, after so many more.
  optional : ℕ → ℕ → Cost

unfoldable pub cost : Part → Cost
cost part.Expression = sure 15
cost part.CommaTail = optional 1 0
cost part.Assignment = sure 13
cost part.AssignmentTail = optional 12 0
cost part.AssignmentParenthesis = sure 30
cost part.Conditional = sure 23
cost part.ConditionalTail = optional 1 0
cost (part.Chain level.Or) = sure 21
cost (part.ChainTail level.Or) = optional 1 0
cost (part.Chain level.And) = sure 19
cost (part.ChainTail level.And) = optional 1 0
cost (part.Chain level.BitOr) = sure 17
cost (part.ChainTail level.BitOr) = optional 1 0
cost (part.Chain level.BitXor) = sure 15
cost (part.ChainTail level.BitXor) = optional 1 0
cost (part.Chain level.BitAnd) = sure 13
cost (part.ChainTail level.BitAnd) = optional 1 0
cost (part.Chain level.Equality) = sure 11
cost (part.ChainTail level.Equality) = optional 1 0
cost (part.Chain level.Relation) = sure 9
cost (part.ChainTail level.Relation) = optional 1 0
cost (part.Chain level.Shift) = sure 7
cost (part.ChainTail level.Shift) = optional 1 0
cost (part.Chain level.Sum) = sure 5
cost (part.ChainTail level.Sum) = optional 1 0
cost (part.Chain level.Product) = sure 3
cost (part.ChainTail level.Product) = optional 1 0
cost part.Operand = sure 1
cost part.OperandParenthesis = sure 18
cost part.Unary = sure 0
cost part.SizeofOperand = sure 2
cost part.SizeofParenthesis = sure 19
cost part.AfterName = optional 3 0
cost part.NameTail = optional 1 0
cost part.PostfixTail = optional 1 0
cost part.Arguments = optional 2 15
cost part.MoreArguments = optional 2 0
cost part.OptionalExpression = optional 2 15
cost part.TypeName = sure 9
cost part.Type = sure 4
cost part.Base = sure 0
cost (part.Words words.Sign) = optional 1 0
cost (part.Words words.Char) = optional 1 0
cost (part.Words words.Length) = optional 1 0
cost (part.Words words.Int) = optional 1 0
cost (part.Words words.SignChar) = optional 1 0
cost (part.Words words.SignLength) = optional 1 0
cost (part.Words words.SignInt) = optional 1 0
cost (part.Words words.LengthInt) = optional 1 0
cost (part.Words words.SignLengthInt) = optional 1 0
cost part.Qualifiers = optional 2 0
cost part.Pointers = optional 3 0
cost part.StarsTail = optional 1 0
cost part.AfterStar = optional 3 0
cost part.PointersTail = optional 1 0
cost part.AfterNextStar = optional 3 0
cost part.Lengths = optional 2 0
cost part.Declarator = sure 8
cost part.MoreDeclarators = optional 2 0
cost part.StructMember = sure 8
cost part.MoreMembers = optional 2 10
cost part.Location = optional 2 0
cost part.Initial = optional 2 0
cost part.Init = sure 15
cost part.MoreInits = optional 2 0
cost part.AfterInitComma = optional 2 17
cost part.InitDeclarator = sure 14
cost part.MoreInitDeclarators = optional 2 0
cost part.Object = sure 8
cost part.Statement = sure 19
cost part.OptionalElse = optional 2 0
cost part.ForFirst = sure 19
cost part.SwitchItems = optional 2 2
cost part.Label = sure 0
cost part.MoreSwitchItems = optional 2 21
cost part.Items = optional 2 21
cost part.Units = optional 2 12
cost part.Unit = sure 10
cost part.AfterVolatile = sure 11
cost part.RegisterType = sure 0
cost part.AfterTag = sure 10
cost part.ExternalRest = sure 10
cost part.FunctionEnd = sure 0
cost part.Parameters = optional 2 8
cost part.AfterVoid = optional 2 7
cost part.Parameter = sure 6
cost part.ParameterTail = sure 0
cost part.ParameterAfterStar = sure 2
cost part.ParameterEnd = optional 3 0
cost part.ParameterLength = sure 20
cost part.MoreParameters = optional 2 0

unfoldable pub is_sure : Cost → Bool
is_sure (sure _) = true
is_sure (optional _ _) = false

-- the steps without a token
unfoldable pub skipped : Cost → ℕ
skipped (sure _) = 0
skipped (optional steps _) = steps

-- the steps before the token
unfoldable pub begun : Cost → ℕ
begun (sure steps) = steps
begun (optional _ steps) = steps

unfoldable pub symbol_cost : Symbol → Cost
symbol_cost (symbol.Take _) = sure 0
symbol_cost (symbol.Read part) = cost part
symbol_cost (symbol.Reduce _) = optional 1 0

-- the steps of all that may end without a token
unfoldable pub kept : List Symbol → ℕ
kept [] = 0
kept (symbol ∷ symbols) = skipped (symbol_cost symbol) + kept symbols

-- the steps before the next token, at most: some symbol begins it, up to the first that surely takes one
unfoldable pub ahead : List Symbol → ℕ
ahead [] = 0
ahead (symbol ∷ symbols) = if is_sure (symbol_cost symbol) then begun (symbol_cost symbol) else max (begun (symbol_cost symbol))
    (ahead symbols)

unfoldable pub weigh : List Symbol → ℕ
weigh symbols = kept symbols + ahead symbols

-- some symbol surely takes a token
unfoldable stops : List Symbol → Bool
stops [] = false
stops (symbol ∷ symbols) = is_sure (symbol_cost symbol) || stops symbols

-- the most steps before a token, for any symbols
abbrev most_ahead : ℕ
most_ahead = 30

-- the part pays for a step into these symbols, with what the token brings where the step takes one
unfoldable pays : Cost → Move → List Symbol → Bool
pays part move.Take symbols = nat_le (1 + kept symbols + most_ahead) (skipped part + begun part + each_token)
pays part move.Stay symbols =
    if stops symbols then nat_le (1 + kept symbols + ahead symbols) (skipped part + begun part)
    else not (is_sure part) && (nat_le (1 + kept symbols) (skipped part) && nat_le (ahead symbols) (begun part))

unfoldable is_paid : Cost → Rule → Bool
is_paid part rule = pays part rule.move rule.symbols

-- no part has more steps before a token than any, and each of its rules is paid
unfoldable is_light : Part → Bool
is_light part = nat_le (begun (cost part)) most_ahead && every (is_paid (cost part)) (rules part)

-- by computing
all_light : (part : Part) → is_light part ≡ true
unfolding cost is_sure skipped begun symbol_cost kept ahead stops pays is_paid is_light rules chain_rules chain_tail_rules words_rules
all_light part.Expression = refl
all_light part.CommaTail = refl
all_light part.Assignment = refl
all_light part.AssignmentTail = refl
all_light part.AssignmentParenthesis = refl
all_light part.Conditional = refl
all_light part.ConditionalTail = refl
all_light (part.Chain level.Or) = refl
all_light (part.ChainTail level.Or) = refl
all_light (part.Chain level.And) = refl
all_light (part.ChainTail level.And) = refl
all_light (part.Chain level.BitOr) = refl
all_light (part.ChainTail level.BitOr) = refl
all_light (part.Chain level.BitXor) = refl
all_light (part.ChainTail level.BitXor) = refl
all_light (part.Chain level.BitAnd) = refl
all_light (part.ChainTail level.BitAnd) = refl
all_light (part.Chain level.Equality) = refl
all_light (part.ChainTail level.Equality) = refl
all_light (part.Chain level.Relation) = refl
all_light (part.ChainTail level.Relation) = refl
all_light (part.Chain level.Shift) = refl
all_light (part.ChainTail level.Shift) = refl
all_light (part.Chain level.Sum) = refl
all_light (part.ChainTail level.Sum) = refl
all_light (part.Chain level.Product) = refl
all_light (part.ChainTail level.Product) = refl
all_light part.Operand = refl
all_light part.OperandParenthesis = refl
all_light part.Unary = refl
all_light part.SizeofOperand = refl
all_light part.SizeofParenthesis = refl
all_light part.AfterName = refl
all_light part.NameTail = refl
all_light part.PostfixTail = refl
all_light part.Arguments = refl
all_light part.MoreArguments = refl
all_light part.OptionalExpression = refl
all_light part.TypeName = refl
all_light part.Type = refl
all_light part.Base = refl
all_light (part.Words words.Sign) = refl
all_light (part.Words words.Char) = refl
all_light (part.Words words.Length) = refl
all_light (part.Words words.Int) = refl
all_light (part.Words words.SignChar) = refl
all_light (part.Words words.SignLength) = refl
all_light (part.Words words.SignInt) = refl
all_light (part.Words words.LengthInt) = refl
all_light (part.Words words.SignLengthInt) = refl
all_light part.Qualifiers = refl
all_light part.Pointers = refl
all_light part.StarsTail = refl
all_light part.AfterStar = refl
all_light part.PointersTail = refl
all_light part.AfterNextStar = refl
all_light part.Lengths = refl
all_light part.Declarator = refl
all_light part.MoreDeclarators = refl
all_light part.StructMember = refl
all_light part.MoreMembers = refl
all_light part.Location = refl
all_light part.Initial = refl
all_light part.Init = refl
all_light part.MoreInits = refl
all_light part.AfterInitComma = refl
all_light part.InitDeclarator = refl
all_light part.MoreInitDeclarators = refl
all_light part.Object = refl
all_light part.Statement = refl
all_light part.OptionalElse = refl
all_light part.ForFirst = refl
all_light part.SwitchItems = refl
all_light part.Label = refl
all_light part.MoreSwitchItems = refl
all_light part.Items = refl
all_light part.Units = refl
all_light part.Unit = refl
all_light part.AfterVolatile = refl
all_light part.RegisterType = refl
all_light part.AfterTag = refl
all_light part.ExternalRest = refl
all_light part.FunctionEnd = refl
all_light part.Parameters = refl
all_light part.AfterVoid = refl
all_light part.Parameter = refl
all_light part.ParameterTail = refl
all_light part.ParameterAfterStar = refl
all_light part.ParameterEnd = refl
all_light part.ParameterLength = refl
all_light part.MoreParameters = refl

-- what symbols in front of others weigh
kept_append : (front symbols : List Symbol) → kept (front ++ symbols) ≡ kept front + kept symbols
unfolding kept
kept_append [] symbols = omega arith
kept_append (symbol ∷ front) symbols = omega (arith, kept_append front symbols)

ahead_append_by : (sure stop : Bool) (first front all rest : ℕ) → all ≡ cond stop front (max front rest)
    → cond sure first (max first all) ≡ cond (sure || stop) (cond sure first (max first front))
    (max (cond sure first (max first front)) rest)
ahead_append_by true stop first front all rest h = refl
ahead_append_by false true first front all rest h = ap (λ n. max first n) h
ahead_append_by false false first front all rest h = omega (arith, h)

ahead_append : (front symbols : List Symbol) → ahead (front ++ symbols)
    ≡ cond (stops front) (ahead front) (max (ahead front) (ahead symbols))
unfolding ahead stops
ahead_append [] symbols = omega arith
ahead_append (symbol ∷ front) symbols =
    ahead_append_by (is_sure (symbol_cost symbol)) (stops front) (begun (symbol_cost symbol)) (ahead front)
    (ahead (front ++ symbols)) (ahead symbols)
    (ahead_append front symbols)

-- no symbol has more steps before a token than any
begun_most : (s : Symbol) → begun (symbol_cost s) ≤ most_ahead
unfolding symbol_cost begun is_light
begun_most (symbol.Take _) = omega arith
begun_most (symbol.Read part) = leb-true _ _ (first_so _ _ (all_light part))
begun_most (symbol.Reduce _) = omega arith

ahead_most_by : (sure : Bool) (first rest : ℕ) → first ≤ most_ahead → rest ≤ most_ahead → cond sure first (max first rest) ≤ most_ahead
ahead_most_by true first rest h k = h
ahead_most_by false first rest h k = omega arith

ahead_most : (symbols : List Symbol) → ahead symbols ≤ most_ahead
unfolding ahead
ahead_most [] = omega arith
ahead_most (symbol ∷ symbols) = ahead_most_by (is_sure (symbol_cost symbol)) (begun (symbol_cost symbol)) (ahead symbols)
    (begun_most symbol) (ahead_most symbols)

stay_by : (sure stop : Bool) (skip begin new front rest behind : ℕ)
    → cond stop (nat_le (1 + new + front) (skip + begin)) (not sure && (nat_le (1 + new) skip && nat_le front begin)) ≡ true
    → new + rest + cond stop front (max front behind) < skip + rest + cond sure begin (max begin behind)
stay_by true true skip begin new front rest behind h =
    let paid : 1 + new + front ≤ skip + begin = leb-true (1 + new + front) (skip + begin) h in omega arith
stay_by false true skip begin new front rest behind h =
    let paid : 1 + new + front ≤ skip + begin = leb-true (1 + new + front) (skip + begin) h in omega arith
stay_by true false skip begin new front rest behind h = absurd (cc)
stay_by false false skip begin new front rest behind h =
    let steps : 1 + new ≤ skip = leb-true (1 + new) skip (first_so (nat_le (1 + new) skip) (nat_le front begin) h) in
    let first : front ≤ begin = leb-true front begin (second_so (nat_le (1 + new) skip) (nat_le front begin) h) in
    omega (arith, steps, first)

-- each step into what a rule says is paid
paid : (part : Part) (kind : Kind) (rule : Rule) (m : Move) → choose (rules part) kind ≡ Some rule → rule.move ≡ m
    → pays (cost part) m rule.symbols ≡ true
unfolding is_light is_paid
paid part kind rule m chosen same =
    subst (λ m. pays (cost part) m rule.symbols ≡ true) same
    (every_chosen (is_paid (cost part)) (rules part) kind rule (second_so _ _ (all_light part)) chosen)

-- a step that takes no token leaves less
pub lighter : (part : Part) (kind : Kind) (rule : Rule) (symbols : List Symbol) → choose (rules part) kind ≡ Some rule
    → rule.move ≡ move.Stay
    → weigh (rule.symbols ++ symbols) < weigh (symbol.Read part ∷ symbols)
unfolding weigh kept ahead symbol_cost pays
lighter part kind rule symbols chosen stay =
    rw (kept_append rule.symbols symbols, ahead_append rule.symbols symbols)
    (stay_by (is_sure (cost part)) (stops rule.symbols) (skipped (cost part)) (begun (cost part)) (kept rule.symbols)
    (ahead rule.symbols) (kept symbols)
    (ahead symbols) (paid part kind rule move.Stay chosen stay))

more_ahead : (sure : Bool) (begin behind : ℕ) → begin ≤ cond sure begin (max begin behind)
more_ahead true begin behind = omega arith
more_ahead false begin behind = omega arith

-- a step that takes a token is paid with what the token brings
pub rule_paid : (part : Part) (kind : Kind) (rule : Rule) (symbols : List Symbol) → choose (rules part) kind ≡ Some rule
    → rule.move ≡ move.Take
    → weigh (rule.symbols ++ symbols) < weigh (symbol.Read part ∷ symbols) + each_token
unfolding weigh kept ahead symbol_cost pays
rule_paid part kind rule symbols chosen take =
    let steps : 1 + kept rule.symbols + most_ahead ≤ skipped (cost part) + begun (cost part) + each_token =
    leb-true _ _ (paid part kind rule move.Take chosen take) in
    omega (
      arith,
      steps,
      kept_append rule.symbols symbols,
      ahead_most (rule.symbols ++ symbols),
      more_ahead (is_sure (cost part))
          (begun (cost part)) (ahead symbols),
    )

pub take_paid : (t : Terminal) (symbols : List Symbol) → weigh symbols < weigh (symbol.Take t ∷ symbols) + each_token
unfolding weigh kept ahead symbol_cost is_sure skipped begun
take_paid t symbols = omega (arith, ahead_most symbols)

pub made_paid : (p : Production) (symbols : List Symbol) → weigh symbols < weigh (symbol.Reduce p ∷ symbols)
unfolding weigh kept ahead symbol_cost is_sure skipped begun
made_paid p symbols = omega arith
