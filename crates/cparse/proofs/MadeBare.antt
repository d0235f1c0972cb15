-- What the productions make has no pointers: a production makes of values without their pointers what it makes of them, without its
-- pointers.
use Rattle.std.proofs.Common.{◌≡◌, List, [], ◌∷◌, Option, Some, None, refl, ap}
use Rattle.std.specs.Option.{option_map}
use Rattle.csyn.specs.declared.mark.Mark.{Mark}
use Rattle.csyn.specs.declared.token.Token.{Token}
use Rattle.csyn.specs.declared.token.TokenKind.{TokenKind}
use Rattle.csyn.specs.declared.token.TokenKind.TheVariants as token
use Rattle.csyn.specs.declared.operator.PrefixOperator.{PrefixOperator}
use Rattle.csyn.specs.declared.expression.Expr.{Expr}
use Rattle.csyn.specs.declared.expression.ExprKind as expression
use Rattle.csyn.specs.Bare.{at_null, bare_expr}
use Rattle.cgrammar.specs.declared.production.Production.{Production}
use Rattle.cgrammar.specs.declared.production.Production.TheVariants as production
use Rattle.cgrammar.specs.Grammar.{home, template, alone}
use Rattle.cparts.specs.declared.value.ExternalRest.TheVariants as rest
use Rattle.cparts.specs.declared.value.Value.{Value}
use Rattle.cparts.specs.declared.value.Value.TheVariants as value
use Rattle.cparts.specs.Value.{bare_value, bare_values}
use Rattle.cparts.specs.Parts as taken
use Rattle.cparts.specs.Parts.{pick, perhaps, one, two, three, four, words}
use Rattle.caction.specs.Make.{table, first, last, identifier, literal, number, character, prefix_of}
use Rattle.caction.specs.Make.{expression_at, standard, specified, qualified, worded, no_words}
use Rattle.cparse.proofs.Shape.{shape, shapes, Fits, end, and, is_base, is_specifiers, is_declarator, is_declarators, is_expr}
use Rattle.cparse.proofs.Shape.{is_exprs, is_external_rest, is_for_first, is_function_end, is_init, is_init_declarator}
use Rattle.cparse.proofs.Shape.{is_init_declarators, is_inits, is_items, is_label, is_member, is_members, is_object}
use Rattle.cparse.proofs.Shape.{is_optional_expr, is_optional_init, is_optional_stmt, is_parameter, is_parameter_list}
use Rattle.cparse.proofs.Shape.{is_parameters, is_pointers, is_qualifiers, is_register_type, is_stmt, is_switch_items, is_text}
use Rattle.cparse.proofs.Shape.{is_type_name, is_unit, is_units, is_words}

-- the values of tokens
identifier-bare : (o : Option TokenKind) → option_map bare_value (identifier o) ≡ identifier o
identifier-bare None = refl
identifier-bare (Some (token.Identifier n)) = refl
identifier-bare (Some _) = refl

literal-bare : (o : Option TokenKind) → option_map bare_value (literal o) ≡ literal o
literal-bare None = refl
literal-bare (Some (token.Literal n)) = refl
literal-bare (Some _) = refl

number-bare : (mark : Mark) (o : Option TokenKind) → option_map bare_value (number mark o) ≡ number mark o
number-bare mark None = refl
number-bare mark (Some (token.Number n)) = refl
number-bare mark (Some _) = refl

character-bare : (mark : Mark) (o : Option TokenKind) → option_map bare_value (character mark o) ≡ character mark o
character-bare mark None = refl
character-bare mark (Some (token.Character n)) = refl
character-bare mark (Some _) = refl

standard-bare : (o : Option TokenKind) → option_map bare_value (standard o) ≡ standard o
standard-bare None = refl
standard-bare (Some (token.Standard n)) = refl
standard-bare (Some _) = refl

prefixed-bare : (mark : Mark) (e : Expr) (o : Option PrefixOperator)
    → option_map bare_value (option_map (λ x. expression_at mark (expression.Prefix x (at_null e))) o)
    ≡ option_map (λ x. expression_at mark (expression.Prefix x (at_null (bare_expr e)))) o
prefixed-bare mark e None = refl
prefixed-bare mark e (Some x) = refl

-- what has no pointers
plain-bare : {A : Type 0} (wrap : A → Value) → ((x : A) → bare_value (wrap x) ≡ wrap x) → (o : Option A)
    → option_map bare_value (option_map wrap o) ≡ option_map wrap o
plain-bare wrap plain None = refl
plain-bare wrap plain (Some x) = ap Some (plain x)

next-word : (vs : List Value) (o : Option TokenKind)
    → option_map bare_value (perhaps words (λ w. option_map (λ v. value.Words v) (worded w o)) vs)
    ≡ perhaps words (λ w. option_map (λ v. value.Words v) (worded w o)) (bare_values vs)
unfolding pick perhaps
next-word [] o = refl
next-word (value.Words x ∷ []) o = plain-bare value.Words (λ x. refl) (worded x o)
next-word (value.Words x ∷ _ ∷ _) o = refl
next-word (_ ∷ _) o = refl

pub natural : (p : Production) (mark : Mark) (tokens : List Token) {vs : List Value} → Fits (shapes (template p)) vs
    → option_map bare_value (table p mark tokens vs) ≡ table p mark tokens (bare_values vs)
unfolding shape shapes template home alone table pick perhaps one two three four taken.none
natural production.Identifier mark tokens end = identifier-bare (first tokens)
natural production.Name mark tokens (and (is_text a) end) = refl
natural production.Number mark tokens end = number-bare mark (first tokens)
natural production.Character mark tokens end = character-bare mark (first tokens)
natural production.Parenthesised mark tokens (and (is_expr a) end) = refl
natural production.Index mark tokens (and (is_expr a) (and (is_expr b) end)) = refl
natural production.CallFunction mark tokens (and (is_text a) (and (is_exprs b) end)) = refl
natural production.Call mark tokens (and (is_expr a) (and (is_exprs b) end)) = refl
natural production.Member mark tokens (and (is_expr a) (and (is_text b) end)) = refl
natural production.Arrow mark tokens (and (is_expr a) (and (is_text b) end)) = refl
natural production.PostIncrement mark tokens (and (is_expr a) end) = refl
natural production.PostDecrement mark tokens (and (is_expr a) end) = refl
natural production.PreIncrement mark tokens (and (is_expr a) end) = refl
natural production.PreDecrement mark tokens (and (is_expr a) end) = refl
natural production.Prefix mark tokens (and (is_expr a) end) = prefixed-bare mark a (prefix_of (first tokens))
natural production.SizeofExpression mark tokens (and (is_expr a) end) = refl
natural production.SizeofType mark tokens (and (is_type_name a) end) = refl
natural production.Cast mark tokens (and (is_type_name a) (and (is_expr b) end)) = refl
natural (production.Binary o) mark tokens (and (is_expr a) (and (is_expr b) end)) = refl
natural (production.Comparison o) mark tokens (and (is_expr a) (and (is_expr b) end)) = refl
natural (production.Logical o) mark tokens (and (is_expr a) (and (is_expr b) end)) = refl
natural production.Conditional mark tokens (and (is_expr a) (and (is_expr b) (and (is_expr c) end))) = refl
natural production.Assign mark tokens (and (is_expr a) (and (is_expr b) end)) = refl
natural (production.AssignWith o) mark tokens (and (is_expr a) (and (is_expr b) end)) = refl
natural production.Comma mark tokens (and (is_expr a) (and (is_expr b) end)) = refl
natural production.NoArguments mark tokens end = refl
natural production.SomeArguments mark tokens (and (is_expr a) (and (is_exprs b) end)) = refl
natural production.EndArguments mark tokens end = refl
natural production.NextArgument mark tokens (and (is_expr a) (and (is_exprs b) end)) = refl
natural production.NoExpression mark tokens end = refl
natural production.SomeExpression mark tokens (and (is_expr a) end) = refl
natural production.TypeName mark tokens (and (is_specifiers a) (and (is_pointers b) end)) = refl
natural production.Specified mark tokens (and (is_specifiers a) end) = plain-bare value.Specifiers (λ x. refl) (specified a (first tokens))
natural production.Based mark tokens (and (is_base a) (and (is_qualifiers b) end)) = refl
natural production.NoQualifiers mark tokens end = refl
natural production.Qualified mark tokens (and (is_qualifiers a) end) = plain-bare value.Qualifiers (λ x. refl) (qualified a (first tokens))
natural production.VoidBase mark tokens end = refl
natural production.StructBase mark tokens (and (is_text a) end) = refl
natural production.StandardBase mark tokens end = standard-bare (first tokens)
natural production.IntegerBase mark tokens (and (is_words a) end) = refl
natural (production.FirstWord w) mark tokens end = plain-bare value.Words (λ x. refl) (worded no_words (first tokens))
natural (production.NextWord all w) mark tokens {vs} fits = next-word vs (last tokens)
natural production.NoPointers mark tokens end = refl
natural production.Star mark tokens (and (is_pointers a) end) = refl
natural production.QualifiedPointer mark tokens (and (is_pointers a) (and (is_qualifiers b) end)) = refl
natural production.NextPointer mark tokens (and (is_pointers a) end) = refl
natural production.NoLengths mark tokens end = refl
natural production.Length mark tokens (and (is_expr a) (and (is_exprs b) end)) = refl
natural production.Declarator mark tokens (and (is_pointers a) (and (is_text b) (and (is_exprs c) end))) = refl
natural production.EndDeclarators mark tokens end = refl
natural production.NextDeclarator mark tokens (and (is_declarator a) (and (is_declarators b) end)) = refl
natural production.StructMember mark tokens (and (is_specifiers a) (and (is_declarator b) (and (is_declarators c) end))) = refl
natural production.EndMembers mark tokens end = refl
natural production.NextMember mark tokens (and (is_member a) (and (is_members b) end)) = refl
natural production.NoLocation mark tokens end = refl
natural production.Location mark tokens (and (is_expr a) end) = refl
natural production.NoInitial mark tokens end = refl
natural production.Initial mark tokens (and (is_init a) end) = refl
natural production.InitialExpression mark tokens (and (is_expr a) end) = refl
natural production.Braced mark tokens (and (is_init a) (and (is_inits b) end)) = refl
natural production.EndInits mark tokens end = refl
natural production.CommaInits mark tokens (and (is_inits a) end) = refl
natural production.TrailingComma mark tokens end = refl
natural production.NextInit mark tokens (and (is_init a) (and (is_inits b) end)) = refl
natural production.InitDeclarator mark tokens (and (is_declarator a) (and (is_optional_expr b) (and (is_optional_init c) end))) = refl
natural production.EndInitDeclarators mark tokens end = refl
natural production.NextInitDeclarator mark tokens (and (is_init_declarator a) (and (is_init_declarators b) end)) = refl
natural production.LocalObject mark tokens (and (is_specifiers a) (and (is_init_declarator b) (and (is_init_declarators c) end))) = refl
natural production.Block mark tokens (and (is_items a) end) = refl
natural production.ExpressionStatement mark tokens (and (is_optional_expr a) end) = refl
natural production.If mark tokens (and (is_expr a) (and (is_stmt b) (and (is_optional_stmt None) end))) = refl
natural production.If mark tokens (and (is_expr a) (and (is_stmt b) (and (is_optional_stmt (Some c)) end))) = refl
natural production.NoElse mark tokens end = refl
natural production.Else mark tokens (and (is_stmt a) end) = refl
natural production.While mark tokens (and (is_expr a) (and (is_stmt b) end)) = refl
natural production.Do mark tokens (and (is_stmt a) (and (is_expr b) end)) = refl
natural production.ForObject mark tokens (and (is_object a) end) = refl
natural production.ForExpression mark tokens (and (is_optional_expr a) end) = refl
natural production.For mark tokens (and (is_for_first a) (and (is_optional_expr b) (and (is_optional_expr c) (and (is_stmt d) end)))) = refl
natural production.Switch mark tokens (and (is_expr a) (and (is_switch_items b) end)) = refl
natural production.NoSwitchItems mark tokens end = refl
natural production.FirstLabel mark tokens (and (is_label a) (and (is_switch_items b) end)) = refl
natural production.EndSwitchItems mark tokens end = refl
natural production.NextLabel mark tokens (and (is_label a) (and (is_switch_items b) end)) = refl
natural production.NextSwitchStatement mark tokens (and (is_stmt a) (and (is_switch_items b) end)) = refl
natural production.CaseLabel mark tokens (and (is_expr a) end) = refl
natural production.DefaultLabel mark tokens end = refl
natural production.Break mark tokens end = refl
natural production.Continue mark tokens end = refl
natural production.Return mark tokens (and (is_optional_expr a) end) = refl
natural production.RegionName mark tokens end = literal-bare (first tokens)
natural production.Region mark tokens (and (is_text a) (and (is_items b) end)) = refl
natural production.EndItems mark tokens end = refl
natural production.NextObject mark tokens (and (is_object a) (and (is_items b) end)) = refl
natural production.NextStatement mark tokens (and (is_stmt a) (and (is_items b) end)) = refl
natural production.StructUnit mark tokens (and (is_text a) (and (is_member b) (and (is_members c) end))) = refl
natural production.RegisterUnit mark tokens (and is_register_type end) = refl
natural production.UnsignedInt mark tokens end = refl
natural production.RegisterUint32 mark tokens end = refl
natural production.External mark tokens (and (is_specifiers a)
    (and (is_pointers b) (and (is_text c) (and (is_external_rest (rest.Object o)) end)))) = refl
natural production.External mark tokens (and (is_specifiers a)
    (and (is_pointers b) (and (is_text c) (and (is_external_rest (rest.Function ps None)) end)))) = refl
natural production.External mark tokens (and (is_specifiers a)
    (and (is_pointers b) (and (is_text c) (and (is_external_rest (rest.Function ps (Some body))) end)))) = refl
natural production.ObjectRest mark tokens (and (is_exprs a) (and (is_optional_expr b)
    (and (is_optional_init c) (and (is_init_declarators d) end)))) = refl
natural production.FunctionRest mark tokens (and (is_parameters a) (and (is_function_end b) end)) = refl
natural production.PrototypeEnd mark tokens end = refl
natural production.FunctionBody mark tokens (and (is_items a) end) = refl
natural production.NoParameters mark tokens end = refl
natural production.VoidParameters mark tokens end = refl
natural production.SomeParameters mark tokens (and (is_parameter a) (and (is_parameter_list b) end)) = refl
natural production.Parameter mark tokens (and (is_specifiers a) (and (is_pointers b) (and (is_text c) (and (is_exprs d) end)))) = refl
natural production.ArrayParameter mark tokens (and (is_specifiers a) (and (is_pointers b) (and (is_text c) end))) = refl
natural production.EndParameters mark tokens end = refl
natural production.NextParameter mark tokens (and (is_parameter a) (and (is_parameter_list b) end)) = refl
natural production.EndUnits mark tokens end = refl
natural production.NextUnit mark tokens (and (is_unit a) (and (is_units b) end)) = refl
natural production.Source mark tokens (and (is_units a) end) = refl
