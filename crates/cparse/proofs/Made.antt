-- Each production makes a value of its kind of parts that are of theirs.
use Rattle.std.proofs.Common.{◌≡◌, ℕ, ◌-◌, Bool, true, false, ◌||◌, if◌then◌else◌, codes, List, []}
use Rattle.std.proofs.Common.{◌∷◌, length, Option, Some, slice_get, sym, subst}
use Rattle.std.specs.Option.{option_map}
use Rattle.csyn.specs.declared.mark.Mark.{Mark}
use Rattle.csyn.specs.declared.token.Token.{Token}
use Rattle.csyn.specs.declared.token.TokenKind.{TokenKind}
use Rattle.csyn.specs.declared.token.TokenKind.TheVariants as token
use Rattle.csyn.specs.declared.keyword.Keyword.TheVariants as keyword
use Rattle.csyn.specs.declared.punctuator.Punctuator.TheVariants as punctuator
use Rattle.csyn.specs.declared.specifiers.StandardInteger.TheVariants as integer
use Rattle.csyn.specs.declared.specifiers.Specifiers.{Specifiers}
use Rattle.csyn.specs.declared.specifiers.IntegerWords.{IntegerWords}
use Rattle.csyn.specs.declared.specifiers.Pointer.{Pointer}
use Rattle.std.specs.Global.{Box}
use Rattle.csyn.specs.Bare.{at_null}
use Rattle.csyn.specs.declared.expression.Expr.{Expr}
use Rattle.cgrammar.specs.declared.terminal.Terminal.{Terminal}
use Rattle.cgrammar.specs.declared.terminal.Terminal.TheVariants as terminal
use Rattle.cgrammar.specs.declared.production.Word.{Word}
use Rattle.cgrammar.specs.declared.production.Word.TheVariants as word
use Rattle.cgrammar.specs.declared.production.Words.{Words}
use Rattle.cgrammar.specs.declared.production.Words.TheVariants as every
use Rattle.cgrammar.specs.declared.production.Production.{Production}
use Rattle.cgrammar.specs.declared.production.Production.TheVariants as production
use Rattle.std.specs.Str.{bytes_eq}
use Rattle.cgrammar.specs.declared.kind.Kind.{Kind}
use Rattle.cgrammar.specs.declared.kind.Kind.TheVariants as kind
use Rattle.cgrammar.specs.Kind.{kind_of, token_kind, name_kind}
use Rattle.cgrammar.specs.Terminal.{accepts, keyword_number, punctuator_number}
use Rattle.cgrammar.specs.Grammar.{home, template, joined, before, alone, word_token}
use Rattle.cparts.specs.declared.value.Value.{Value}
use Rattle.cparts.specs.declared.value.Value.TheVariants as value
use Rattle.cparts.specs.Parts as taken
use Rattle.cparts.specs.Parts.{pick, perhaps, one, two, three, four}
use Rattle.caction.specs.Make.{table, identifier, literal, number, character, prefixed, standard, specified, qualified, worded, no_words}
use Rattle.cparse.proofs.Shape.{text, expr, base, specifiers, words, qualifiers, shape, shapes, Fits, end, and, Made, made, unused}
use Rattle.cparse.proofs.Shape.{is_base, is_specifiers, is_declarator, is_declarators, is_expr, is_exprs, is_external_rest}
use Rattle.cparse.proofs.Shape.{is_for_first, is_function_end, is_init, is_init_declarator, is_init_declarators, is_inits, is_items}
use Rattle.cparse.proofs.Shape.{is_label, is_member, is_members, is_object, is_optional_expr, is_optional_init, is_optional_stmt}
use Rattle.cparse.proofs.Shape.{is_parameter, is_parameter_list, is_parameters, is_pointers, is_qualifiers, is_register_type}
use Rattle.cparse.proofs.Shape.{is_stmt, is_switch_items, is_text, is_type_name, is_unit, is_units, is_words}

-- a token that the terminal accepts
pub record Accepted (wanted : Terminal) (o : Option Token) : Type 0 where
  pub token : Token
  pub is : o ≡ Some token
  pub accepted : accepts wanted (kind_of token) ≡ true

-- the first token, and the last one, is accepted
abbrev pub Begins : Terminal → List Token → Type 0
Begins wanted tokens = Accepted wanted (slice_get tokens 0)

abbrev pub Ends : Terminal → List Token → Type 0
Ends wanted tokens = Accepted wanted (slice_get tokens (length tokens - 1))

-- what the productions whose value depends on a token need of their tokens
unfoldable pub OwnTokens : Production → List Token → Type 0
OwnTokens production.Identifier tokens = Begins terminal.Name tokens
OwnTokens production.Number tokens = Begins terminal.Number tokens
OwnTokens production.Character tokens = Begins terminal.Character tokens
OwnTokens production.Prefix tokens = Begins terminal.Prefix tokens
OwnTokens production.Specified tokens = Begins terminal.Specifier tokens
OwnTokens production.Qualified tokens = Begins terminal.Qualifier tokens
OwnTokens production.StandardBase tokens = Begins terminal.Standard tokens
OwnTokens (production.FirstWord w) tokens = Begins (word_token w) tokens
OwnTokens (production.NextWord _ w) tokens = Ends (word_token w) tokens
OwnTokens production.RegionName tokens = Begins terminal.Literal tokens
OwnTokens _ _ = Unit {0}

-- what holds of each token that is accepted holds of this one
by-token : (wanted : Terminal) (P : Option TokenKind → Type 0) (o : Option Token) → Accepted wanted o
    → ((k : TokenKind) → accepts wanted (token_kind k) ≡ true → P (Some k)) → P (option_map (λ t. t.kind) o)
by-token wanted P o a each = subst (λ x. P (option_map (λ t. t.kind) x)) (sym a.is) (each a.token.kind a.accepted)

no : false ≡ true → ⊥
no h = absurd (cc)

-- the kinds of names are three
name-kinds : (P : Kind → Type 0) → P kind.RegisterName → P kind.LocationName → P kind.Name → (n : List ℕ) → P (name_kind n)
unfolding name_kind
name-kinds P r l n name = go (bytes_eq name (codes "__R30") || bytes_eq name (codes "__R31")) (bytes_eq name (codes "location"))
  where
    go : (b c : Bool) → P (if b then kind.RegisterName else (if c then kind.LocationName else kind.Name))
    go true c = r
    go false true = l
    go false false = n

-- what the accepted token's value is
named : (k : TokenKind) → accepts terminal.Name (token_kind k) ≡ true → Made text (identifier (Some k))
unfolding accepts keyword_number punctuator_number
named (token.Identifier n) h = made (is_text n)
named (token.Standard integer.Uint32) h = absurd (cc)
named _ h = absurd (cc)

quoted : (k : TokenKind) → accepts terminal.Literal (token_kind k) ≡ true → Made text (literal (Some k))
unfolding accepts keyword_number punctuator_number
quoted (token.Literal n) h = made (is_text n)
quoted (token.Identifier n) h = absurd (name-kinds (λ k. accepts terminal.Literal k ≡ true → ⊥) no no no n h)
quoted (token.Standard integer.Uint32) h = absurd (cc)
quoted _ h = absurd (cc)

numbered : (mark : Mark) → (k : TokenKind) → accepts terminal.Number (token_kind k) ≡ true → Made expr (number mark (Some k))
unfolding accepts keyword_number punctuator_number
numbered mark (token.Number n) h = made (is_expr _)
numbered mark (token.Identifier n) h = absurd (name-kinds (λ k. accepts terminal.Number k ≡ true → ⊥) no no no n h)
numbered mark (token.Standard integer.Uint32) h = absurd (cc)
numbered mark _ h = absurd (cc)

lettered : (mark : Mark) → (k : TokenKind) → accepts terminal.Character (token_kind k) ≡ true → Made expr (character mark (Some k))
unfolding accepts keyword_number punctuator_number
lettered mark (token.Character n) h = made (is_expr _)
lettered mark (token.Identifier n) h = absurd (name-kinds (λ k. accepts terminal.Character k ≡ true → ⊥) no no no n h)
lettered mark (token.Standard integer.Uint32) h = absurd (cc)
lettered mark _ h = absurd (cc)

prefixes : (mark : Mark) (e : Box Expr) → (k : TokenKind) → accepts terminal.Prefix (token_kind k) ≡ true
    → Made expr (prefixed mark (Some k) e)
unfolding accepts keyword_number punctuator_number
prefixes mark e (token.Punctuator punctuator.Plus) h = made (is_expr _)
prefixes mark e (token.Punctuator punctuator.Minus) h = made (is_expr _)
prefixes mark e (token.Punctuator punctuator.Exclamation) h = made (is_expr _)
prefixes mark e (token.Punctuator punctuator.Tilde) h = made (is_expr _)
prefixes mark e (token.Punctuator punctuator.Star) h = made (is_expr _)
prefixes mark e (token.Punctuator punctuator.Ampersand) h = made (is_expr _)
prefixes mark e (token.Identifier n) h = absurd (name-kinds (λ k. accepts terminal.Prefix k ≡ true → ⊥) no no no n h)
prefixes mark e (token.Standard integer.Uint32) h = absurd (cc)
prefixes mark e _ h = absurd (cc)

specifies : (t : Specifiers) → (k : TokenKind) → accepts terminal.Specifier (token_kind k) ≡ true
    → Made specifiers (option_map (λ s. value.Specifiers s) (specified t (Some k)))
unfolding accepts keyword_number punctuator_number
specifies t (token.Keyword keyword.Static) h = made (is_specifiers _)
specifies t (token.Keyword keyword.Inline) h = made (is_specifiers _)
specifies t (token.Keyword keyword.Const) h = made (is_specifiers _)
specifies t (token.Keyword keyword.Volatile) h = made (is_specifiers _)
specifies t (token.Identifier n) h = absurd (name-kinds (λ k. accepts terminal.Specifier k ≡ true → ⊥) no no no n h)
specifies t (token.Standard integer.Uint32) h = absurd (cc)
specifies t _ h = absurd (cc)

qualifies : (q : Pointer) → (k : TokenKind) → accepts terminal.Qualifier (token_kind k) ≡ true
    → Made qualifiers (option_map (λ r. value.Qualifiers r) (qualified q (Some k)))
unfolding accepts keyword_number punctuator_number
qualifies q (token.Keyword keyword.Const) h = made (is_qualifiers _)
qualifies q (token.Keyword keyword.Volatile) h = made (is_qualifiers _)
qualifies q (token.Identifier n) h = absurd (name-kinds (λ k. accepts terminal.Qualifier k ≡ true → ⊥) no no no n h)
qualifies q (token.Standard integer.Uint32) h = absurd (cc)
qualifies q _ h = absurd (cc)

standing : (k : TokenKind) → accepts terminal.Standard (token_kind k) ≡ true → Made base (standard (Some k))
unfolding accepts keyword_number punctuator_number
standing (token.Standard n) h = made (is_base _)
standing (token.Identifier n) h = absurd (name-kinds (λ k. accepts terminal.Standard k ≡ true → ⊥) no no no n h)
standing _ h = absurd (cc)

signs : (w : IntegerWords) → (k : TokenKind) → accepts terminal.Sign (token_kind k) ≡ true
    → Made words (option_map (λ v. value.Words v) (worded w (Some k)))
unfolding accepts keyword_number punctuator_number
signs w (token.Keyword keyword.Signed) h = made (is_words _)
signs w (token.Keyword keyword.Unsigned) h = made (is_words _)
signs w (token.Identifier n) h = absurd (name-kinds (λ k. accepts terminal.Sign k ≡ true → ⊥) no no no n h)
signs w (token.Standard integer.Uint32) h = absurd (cc)
signs w _ h = absurd (cc)

chars : (w : IntegerWords) → (k : TokenKind) → accepts (terminal.Keyword keyword.Char) (token_kind k) ≡ true
    → Made words (option_map (λ v. value.Words v) (worded w (Some k)))
unfolding accepts keyword_number punctuator_number
chars w (token.Keyword keyword.Char) h = made (is_words _)
chars w (token.Identifier n) h = absurd (name-kinds (λ k. accepts (terminal.Keyword keyword.Char) k ≡ true → ⊥) no no no n h)
chars w (token.Standard integer.Uint32) h = absurd (cc)
chars w _ h = absurd (cc)

sizes : (w : IntegerWords) → (k : TokenKind) → accepts terminal.Length (token_kind k) ≡ true
    → Made words (option_map (λ v. value.Words v) (worded w (Some k)))
unfolding accepts keyword_number punctuator_number
sizes w (token.Keyword keyword.Short) h = made (is_words _)
sizes w (token.Keyword keyword.Long) h = made (is_words _)
sizes w (token.Identifier n) h = absurd (name-kinds (λ k. accepts terminal.Length k ≡ true → ⊥) no no no n h)
sizes w (token.Standard integer.Uint32) h = absurd (cc)
sizes w _ h = absurd (cc)

ints : (w : IntegerWords) → (k : TokenKind) → accepts (terminal.Keyword keyword.Int) (token_kind k) ≡ true
    → Made words (option_map (λ v. value.Words v) (worded w (Some k)))
unfolding accepts keyword_number punctuator_number
ints w (token.Keyword keyword.Int) h = made (is_words _)
ints w (token.Identifier n) h = absurd (name-kinds (λ k. accepts (terminal.Keyword keyword.Int) k ≡ true → ⊥) no no no n h)
ints w (token.Standard integer.Uint32) h = absurd (cc)
ints w _ h = absurd (cc)

one-more : (word : Word) (w : IntegerWords) (k : TokenKind) → accepts (word_token word) (token_kind k) ≡ true
    → Made words (option_map (λ v. value.Words v) (worded w (Some k)))
unfolding word_token
one-more word.Sign = signs
one-more word.Char = chars
one-more word.Length = sizes
one-more word.Int = ints

-- the words that go together, with the last of them
next-word : (all : Words) (w : Word) (mark : Mark) (tokens : List Token) {vs : List Value} → Fits (shape (before all w) ∷ []) vs
    → Ends (word_token w) tokens
    → Made (shape (joined all w)) (table (production.NextWord all w) mark tokens vs)
unfolding shape before joined table pick perhaps
next-word every.SignChar word.Char mark tokens (and (is_words x) end) own =
    by-token (word_token word.Char) (λ k. Made words (option_map (λ v. value.Words v) (worded x k))) _ own (one-more word.Char x)
next-word every.SignLength word.Length mark tokens (and (is_words x) end) own =
    by-token (word_token word.Length) (λ k. Made words (option_map (λ v. value.Words v) (worded x k))) _ own (one-more word.Length x)
next-word every.SignInt word.Int mark tokens (and (is_words x) end) own =
    by-token (word_token word.Int) (λ k. Made words (option_map (λ v. value.Words v) (worded x k))) _ own (one-more word.Int x)
next-word every.SignChar word.Sign mark tokens (and (is_words x) end) own =
    by-token (word_token word.Sign) (λ k. Made words (option_map (λ v. value.Words v) (worded x k))) _ own (one-more word.Sign x)
next-word every.SignLength word.Sign mark tokens (and (is_words x) end) own =
    by-token (word_token word.Sign) (λ k. Made words (option_map (λ v. value.Words v) (worded x k))) _ own (one-more word.Sign x)
next-word every.LengthInt word.Int mark tokens (and (is_words x) end) own =
    by-token (word_token word.Int) (λ k. Made words (option_map (λ v. value.Words v) (worded x k))) _ own (one-more word.Int x)
next-word every.SignInt word.Sign mark tokens (and (is_words x) end) own =
    by-token (word_token word.Sign) (λ k. Made words (option_map (λ v. value.Words v) (worded x k))) _ own (one-more word.Sign x)
next-word every.LengthInt word.Length mark tokens (and (is_words x) end) own =
    by-token (word_token word.Length) (λ k. Made words (option_map (λ v. value.Words v) (worded x k))) _ own (one-more word.Length x)
next-word every.SignLengthInt word.Int mark tokens (and (is_words x) end) own =
    by-token (word_token word.Int) (λ k. Made words (option_map (λ v. value.Words v) (worded x k))) _ own (one-more word.Int x)
next-word every.SignLengthInt word.Length mark tokens (and (is_words x) end) own =
    by-token (word_token word.Length) (λ k. Made words (option_map (λ v. value.Words v) (worded x k))) _ own (one-more word.Length x)
next-word every.SignLengthInt word.Sign mark tokens (and (is_words x) end) own =
    by-token (word_token word.Sign) (λ k. Made words (option_map (λ v. value.Words v) (worded x k))) _ own (one-more word.Sign x)
next-word _ _ mark tokens fits own = unused

-- of parts of their kinds and tokens that are accepted a production makes a value of its kind
pub makes : (p : Production) (mark : Mark) (tokens : List Token) {vs : List Value} → Fits (shapes (template p)) vs → OwnTokens p tokens
    → Made (shape (home p)) (table p mark tokens vs)
unfolding shape shapes template home alone table pick perhaps one two three four taken.none OwnTokens
makes production.Identifier mark tokens end own = by-token terminal.Name (λ k. Made text (identifier k)) _ own named
makes production.Name mark tokens (and (is_text a) end) own = made (is_expr _)
makes production.Number mark tokens end own = by-token terminal.Number (λ k. Made expr (number mark k)) _ own (numbered mark)
makes production.Character mark tokens end own = by-token terminal.Character (λ k. Made expr (character mark k)) _ own (lettered mark)
makes production.Parenthesised mark tokens (and (is_expr a) end) own = made (is_expr _)
makes production.Index mark tokens (and (is_expr a) (and (is_expr b) end)) own = made (is_expr _)
makes production.CallFunction mark tokens (and (is_text a) (and (is_exprs b) end)) own = made (is_expr _)
makes production.Call mark tokens (and (is_expr a) (and (is_exprs b) end)) own = made (is_expr _)
makes production.Member mark tokens (and (is_expr a) (and (is_text b) end)) own = made (is_expr _)
makes production.Arrow mark tokens (and (is_expr a) (and (is_text b) end)) own = made (is_expr _)
makes production.PostIncrement mark tokens (and (is_expr a) end) own = made (is_expr _)
makes production.PostDecrement mark tokens (and (is_expr a) end) own = made (is_expr _)
makes production.PreIncrement mark tokens (and (is_expr a) end) own = made (is_expr _)
makes production.PreDecrement mark tokens (and (is_expr a) end) own = made (is_expr _)
makes production.Prefix mark tokens (and (is_expr a) end) own =
    by-token terminal.Prefix (λ k. Made expr (prefixed mark k (at_null a))) _ own (prefixes mark (at_null a))
makes production.SizeofExpression mark tokens (and (is_expr a) end) own = made (is_expr _)
makes production.SizeofType mark tokens (and (is_type_name a) end) own = made (is_expr _)
makes production.Cast mark tokens (and (is_type_name a) (and (is_expr b) end)) own = made (is_expr _)
makes (production.Binary o) mark tokens (and (is_expr a) (and (is_expr b) end)) own = made (is_expr _)
makes (production.Comparison o) mark tokens (and (is_expr a) (and (is_expr b) end)) own = made (is_expr _)
makes (production.Logical o) mark tokens (and (is_expr a) (and (is_expr b) end)) own = made (is_expr _)
makes production.Conditional mark tokens (and (is_expr a) (and (is_expr b) (and (is_expr c) end))) own = made (is_expr _)
makes production.Assign mark tokens (and (is_expr a) (and (is_expr b) end)) own = made (is_expr _)
makes (production.AssignWith o) mark tokens (and (is_expr a) (and (is_expr b) end)) own = made (is_expr _)
makes production.Comma mark tokens (and (is_expr a) (and (is_expr b) end)) own = made (is_expr _)
makes production.NoArguments mark tokens end own = made (is_exprs _)
makes production.SomeArguments mark tokens (and (is_expr a) (and (is_exprs b) end)) own = made (is_exprs _)
makes production.EndArguments mark tokens end own = made (is_exprs _)
makes production.NextArgument mark tokens (and (is_expr a) (and (is_exprs b) end)) own = made (is_exprs _)
makes production.NoExpression mark tokens end own = made (is_optional_expr _)
makes production.SomeExpression mark tokens (and (is_expr a) end) own = made (is_optional_expr _)
makes production.TypeName mark tokens (and (is_specifiers a) (and (is_pointers b) end)) own = made (is_type_name _)
makes production.Specified mark tokens (and (is_specifiers a) end) own =
    by-token terminal.Specifier (λ k. Made specifiers (option_map (λ s. value.Specifiers s) (specified a k))) _ own (specifies a)
makes production.Based mark tokens (and (is_base a) (and (is_qualifiers b) end)) own = made (is_specifiers _)
makes production.NoQualifiers mark tokens end own = made (is_qualifiers _)
makes production.Qualified mark tokens (and (is_qualifiers a) end) own =
    by-token terminal.Qualifier (λ k. Made qualifiers (option_map (λ r. value.Qualifiers r) (qualified a k))) _ own (qualifies a)
makes production.VoidBase mark tokens end own = made (is_base _)
makes production.StructBase mark tokens (and (is_text a) end) own = made (is_base _)
makes production.StandardBase mark tokens end own = by-token terminal.Standard (λ k. Made base (standard k)) _ own standing
makes production.IntegerBase mark tokens (and (is_words a) end) own = made (is_base _)
makes (production.FirstWord w) mark tokens end own = by-token (word_token w)
    (λ k. Made words (option_map (λ v. value.Words v) (worded no_words k))) _ own (one-more w no_words)
makes (production.NextWord all w) mark tokens fits own = next-word all w mark tokens fits own
makes production.NoPointers mark tokens end own = made (is_pointers _)
makes production.Star mark tokens (and (is_pointers a) end) own = made (is_pointers _)
makes production.QualifiedPointer mark tokens (and (is_pointers a) (and (is_qualifiers b) end)) own = made (is_pointers _)
makes production.NextPointer mark tokens (and (is_pointers a) end) own = made (is_pointers _)
makes production.NoLengths mark tokens end own = made (is_exprs _)
makes production.Length mark tokens (and (is_expr a) (and (is_exprs b) end)) own = made (is_exprs _)
makes production.Declarator mark tokens (and (is_pointers a) (and (is_text b) (and (is_exprs c) end))) own = made (is_declarator _)
makes production.EndDeclarators mark tokens end own = made (is_declarators _)
makes production.NextDeclarator mark tokens (and (is_declarator a) (and (is_declarators b) end)) own = made (is_declarators _)
makes production.StructMember mark tokens (and (is_specifiers a) (and (is_declarator b) (and (is_declarators c) end))) own =
    made (is_member _)
makes production.EndMembers mark tokens end own = made (is_members _)
makes production.NextMember mark tokens (and (is_member a) (and (is_members b) end)) own = made (is_members _)
makes production.NoLocation mark tokens end own = made (is_optional_expr _)
makes production.Location mark tokens (and (is_expr a) end) own = made (is_optional_expr _)
makes production.NoInitial mark tokens end own = made (is_optional_init _)
makes production.Initial mark tokens (and (is_init a) end) own = made (is_optional_init _)
makes production.InitialExpression mark tokens (and (is_expr a) end) own = made (is_init _)
makes production.Braced mark tokens (and (is_init a) (and (is_inits b) end)) own = made (is_init _)
makes production.EndInits mark tokens end own = made (is_inits _)
makes production.CommaInits mark tokens (and (is_inits a) end) own = made (is_inits _)
makes production.TrailingComma mark tokens end own = made (is_inits _)
makes production.NextInit mark tokens (and (is_init a) (and (is_inits b) end)) own = made (is_inits _)
makes production.InitDeclarator mark tokens (and (is_declarator a) (and (is_optional_expr b) (and (is_optional_init c) end))) own =
    made (is_init_declarator _)
makes production.EndInitDeclarators mark tokens end own = made (is_init_declarators _)
makes production.NextInitDeclarator mark tokens (and (is_init_declarator a) (and (is_init_declarators b) end)) own =
    made (is_init_declarators _)
makes production.LocalObject mark tokens (and (is_specifiers a) (and (is_init_declarator b) (and (is_init_declarators c) end))) own
    = made (is_object _)
makes production.Block mark tokens (and (is_items a) end) own = made (is_stmt _)
makes production.ExpressionStatement mark tokens (and (is_optional_expr a) end) own = made (is_stmt _)
makes production.If mark tokens (and (is_expr a) (and (is_stmt b) (and (is_optional_stmt c) end))) own = made (is_stmt _)
makes production.NoElse mark tokens end own = made (is_optional_stmt _)
makes production.Else mark tokens (and (is_stmt a) end) own = made (is_optional_stmt _)
makes production.While mark tokens (and (is_expr a) (and (is_stmt b) end)) own = made (is_stmt _)
makes production.Do mark tokens (and (is_stmt a) (and (is_expr b) end)) own = made (is_stmt _)
makes production.ForObject mark tokens (and (is_object a) end) own = made (is_for_first _)
makes production.ForExpression mark tokens (and (is_optional_expr a) end) own = made (is_for_first _)
makes production.For mark tokens (and (is_for_first a) (and (is_optional_expr b) (and (is_optional_expr c) (and (is_stmt d) end))))
    own = made (is_stmt _)
makes production.Switch mark tokens (and (is_expr a) (and (is_switch_items b) end)) own = made (is_stmt _)
makes production.NoSwitchItems mark tokens end own = made (is_switch_items _)
makes production.FirstLabel mark tokens (and (is_label a) (and (is_switch_items b) end)) own = made (is_switch_items _)
makes production.EndSwitchItems mark tokens end own = made (is_switch_items _)
makes production.NextLabel mark tokens (and (is_label a) (and (is_switch_items b) end)) own = made (is_switch_items _)
makes production.NextSwitchStatement mark tokens (and (is_stmt a) (and (is_switch_items b) end)) own = made (is_switch_items _)
makes production.CaseLabel mark tokens (and (is_expr a) end) own = made (is_label _)
makes production.DefaultLabel mark tokens end own = made (is_label _)
makes production.Break mark tokens end own = made (is_stmt _)
makes production.Continue mark tokens end own = made (is_stmt _)
makes production.Return mark tokens (and (is_optional_expr a) end) own = made (is_stmt _)
makes production.RegionName mark tokens end own = by-token terminal.Literal (λ k. Made text (literal k)) _ own quoted
makes production.Region mark tokens (and (is_text a) (and (is_items b) end)) own = made (is_stmt _)
makes production.EndItems mark tokens end own = made (is_items _)
makes production.NextObject mark tokens (and (is_object a) (and (is_items b) end)) own = made (is_items _)
makes production.NextStatement mark tokens (and (is_stmt a) (and (is_items b) end)) own = made (is_items _)
makes production.StructUnit mark tokens (and (is_text a) (and (is_member b) (and (is_members c) end))) own = made (is_unit _)
makes production.RegisterUnit mark tokens (and is_register_type end) own = made (is_unit _)
makes production.UnsignedInt mark tokens end own = made is_register_type
makes production.RegisterUint32 mark tokens end own = made is_register_type
makes production.External mark tokens (and (is_specifiers a) (and (is_pointers b) (and (is_text c) (and (is_external_rest d) end))))
    own = made (is_unit _)
makes production.ObjectRest mark tokens (and (is_exprs a) (and (is_optional_expr b)
    (and (is_optional_init c) (and (is_init_declarators d) end)))) own = made (is_external_rest _)
makes production.FunctionRest mark tokens (and (is_parameters a) (and (is_function_end b) end)) own = made (is_external_rest _)
makes production.PrototypeEnd mark tokens end own = made (is_function_end _)
makes production.FunctionBody mark tokens (and (is_items a) end) own = made (is_function_end _)
makes production.NoParameters mark tokens end own = made (is_parameters _)
makes production.VoidParameters mark tokens end own = made (is_parameters _)
makes production.SomeParameters mark tokens (and (is_parameter a) (and (is_parameter_list b) end)) own = made (is_parameters _)
makes production.Parameter mark tokens (and (is_specifiers a) (and (is_pointers b) (and (is_text c) (and (is_exprs d) end)))) own =
    made (is_parameter _)
makes production.ArrayParameter mark tokens (and (is_specifiers a) (and (is_pointers b) (and (is_text c) end))) own = made (is_parameter _)
makes production.EndParameters mark tokens end own = made (is_parameter_list _)
makes production.NextParameter mark tokens (and (is_parameter a) (and (is_parameter_list b) end)) own = made (is_parameter_list _)
makes production.EndUnits mark tokens end own = made (is_units _)
makes production.NextUnit mark tokens (and (is_unit a) (and (is_units b) end)) own = made (is_units _)
makes production.Source mark tokens (and (is_units a) end) own = made (is_units _)
