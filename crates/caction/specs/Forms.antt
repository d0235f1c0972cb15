-- The productions of each form.
use Rattle.cgrammar.specs.declared.production.Production.{Production}
use Rattle.cgrammar.specs.declared.production.Production.TheVariants as production
use Rattle.caction.specs.declared.expression.Pair.{Pair}
use Rattle.caction.specs.declared.expression.Pair.TheVariants as pair_form
use Rattle.caction.specs.declared.expression.Operand.{Operand}
use Rattle.caction.specs.declared.expression.Operand.TheVariants as operand_form
use Rattle.caction.specs.declared.expression.Expression.{Expression}
use Rattle.caction.specs.declared.expression.Expression.TheVariants as expression_form
use Rattle.caction.specs.declared.types.TypePart.{TypePart}
use Rattle.caction.specs.declared.types.TypePart.TheVariants as types_form
use Rattle.caction.specs.declared.declaration.Declaration.{Declaration}
use Rattle.caction.specs.declared.declaration.Declaration.TheVariants as declaration_form
use Rattle.caction.specs.declared.list.More.{More}
use Rattle.caction.specs.declared.list.More.TheVariants as more_form
use Rattle.caction.specs.declared.statement.Statement.{Statement}
use Rattle.caction.specs.declared.statement.Statement.TheVariants as statement_form
use Rattle.caction.specs.declared.unit.Definition.{Definition}
use Rattle.caction.specs.declared.unit.Definition.TheVariants as definition_form
use Rattle.caction.specs.declared.empty.Empty.{Empty}
use Rattle.caction.specs.declared.empty.Empty.TheVariants as empty_form

abbrev pub pair : Pair → Production
pair pair_form.Index = production.Index
pair (pair_form.Binary o) = production.Binary o
pair (pair_form.Comparison o) = production.Comparison o
pair (pair_form.Logical o) = production.Logical o
pair pair_form.Assign = production.Assign
pair (pair_form.AssignWith o) = production.AssignWith o
pair pair_form.Comma = production.Comma

abbrev pub operand : Operand → Production
operand operand_form.PostIncrement = production.PostIncrement
operand operand_form.PostDecrement = production.PostDecrement
operand operand_form.PreIncrement = production.PreIncrement
operand operand_form.PreDecrement = production.PreDecrement
operand operand_form.SizeofExpression = production.SizeofExpression
operand operand_form.SomeExpression = production.SomeExpression
operand operand_form.Location = production.Location
operand operand_form.InitialExpression = production.InitialExpression
operand operand_form.CaseLabel = production.CaseLabel

abbrev pub expression : Expression → Production
expression expression_form.Name = production.Name
expression expression_form.Parenthesised = production.Parenthesised
expression expression_form.CallFunction = production.CallFunction
expression expression_form.Call = production.Call
expression expression_form.Member = production.Member
expression expression_form.Arrow = production.Arrow
expression expression_form.SizeofType = production.SizeofType
expression expression_form.Cast = production.Cast
expression expression_form.Conditional = production.Conditional

abbrev pub types : TypePart → Production
types types_form.TypeName = production.TypeName
types types_form.Based = production.Based
types types_form.StructBase = production.StructBase
types types_form.IntegerBase = production.IntegerBase
types types_form.Star = production.Star
types types_form.NextPointer = production.NextPointer
types types_form.QualifiedPointer = production.QualifiedPointer

abbrev pub declaration : Declaration → Production
declaration declaration_form.Declarator = production.Declarator
declaration declaration_form.StructMember = production.StructMember
declaration declaration_form.Initial = production.Initial
declaration declaration_form.Braced = production.Braced
declaration declaration_form.InitDeclarator = production.InitDeclarator
declaration declaration_form.LocalObject = production.LocalObject
declaration declaration_form.Parameter = production.Parameter
declaration declaration_form.ArrayParameter = production.ArrayParameter

abbrev pub more : More → Production
more more_form.SomeArguments = production.SomeArguments
more more_form.NextArgument = production.NextArgument
more more_form.Length = production.Length
more more_form.NextDeclarator = production.NextDeclarator
more more_form.NextMember = production.NextMember
more more_form.NextInit = production.NextInit
more more_form.CommaInits = production.CommaInits
more more_form.NextInitDeclarator = production.NextInitDeclarator
more more_form.FirstLabel = production.FirstLabel
more more_form.NextLabel = production.NextLabel
more more_form.NextSwitchStatement = production.NextSwitchStatement
more more_form.NextObject = production.NextObject
more more_form.NextStatement = production.NextStatement
more more_form.SomeParameters = production.SomeParameters
more more_form.NextParameter = production.NextParameter
more more_form.NextUnit = production.NextUnit
more more_form.Source = production.Source

abbrev pub statement : Statement → Production
statement statement_form.Block = production.Block
statement statement_form.ExpressionStatement = production.ExpressionStatement
statement statement_form.Else = production.Else
statement statement_form.While = production.While
statement statement_form.Do = production.Do
statement statement_form.ForObject = production.ForObject
statement statement_form.ForExpression = production.ForExpression
statement statement_form.For = production.For
statement statement_form.Switch = production.Switch
statement statement_form.Return = production.Return
statement statement_form.Region = production.Region

abbrev pub definition : Definition → Production
definition definition_form.StructUnit = production.StructUnit
definition definition_form.RegisterUnit = production.RegisterUnit
definition definition_form.ObjectRest = production.ObjectRest
definition definition_form.FunctionRest = production.FunctionRest
definition definition_form.FunctionBody = production.FunctionBody

abbrev pub empty : Empty → Production
empty empty_form.NoArguments = production.NoArguments
empty empty_form.EndArguments = production.EndArguments
empty empty_form.NoExpression = production.NoExpression
empty empty_form.NoQualifiers = production.NoQualifiers
empty empty_form.VoidBase = production.VoidBase
empty empty_form.NoPointers = production.NoPointers
empty empty_form.NoLengths = production.NoLengths
empty empty_form.EndDeclarators = production.EndDeclarators
empty empty_form.EndMembers = production.EndMembers
empty empty_form.NoLocation = production.NoLocation
empty empty_form.NoInitial = production.NoInitial
empty empty_form.EndInits = production.EndInits
empty empty_form.TrailingComma = production.TrailingComma
empty empty_form.EndInitDeclarators = production.EndInitDeclarators
empty empty_form.NoElse = production.NoElse
empty empty_form.NoSwitchItems = production.NoSwitchItems
empty empty_form.EndSwitchItems = production.EndSwitchItems
empty empty_form.DefaultLabel = production.DefaultLabel
empty empty_form.Break = production.Break
empty empty_form.Continue = production.Continue
empty empty_form.EndItems = production.EndItems
empty empty_form.UnsignedInt = production.UnsignedInt
empty empty_form.RegisterUint32 = production.RegisterUint32
empty empty_form.PrototypeEnd = production.PrototypeEnd
empty empty_form.NoParameters = production.NoParameters
empty empty_form.VoidParameters = production.VoidParameters
empty empty_form.EndParameters = production.EndParameters
empty empty_form.EndUnits = production.EndUnits
