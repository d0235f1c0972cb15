-- Values without their pointers.
use Rattle.std.specs.Prelude.{List, map}
use Rattle.std.specs.Option.{option_map}
use Rattle.csyn.specs.Bare.{option_bare, bare_pointers, bare_type_name, bare_expr, bare_exprs, bare_declarator, bare_declarators}
use Rattle.csyn.specs.Bare.{bare_member, bare_members, bare_init, bare_inits, bare_init_declarator, bare_init_declarators}
use Rattle.csyn.specs.Bare.{bare_local, bare_parameter, bare_parameter_list, bare_parameters, bare_for_first, bare_stmt, bare_items}
use Rattle.csyn.specs.Bare.{bare_label, bare_switch_items, bare_unit, bare_units}
use Rattle.cparts.specs.declared.value.ExternalRest.{ExternalRest}
use Rattle.cparts.specs.declared.value.ExternalRest.TheVariants as rest
use Rattle.cparts.specs.declared.value.Value.{Value}
use Rattle.cparts.specs.declared.value.Value.TheVariants as value

abbrev pub bare_rest : ExternalRest → ExternalRest
bare_rest (rest.Object o) = rest.Object (record {
  lengths = bare_exprs o.lengths;
  location = option_bare bare_expr o.location;
  init = option_bare bare_init o.init;
  others = bare_init_declarators o.others;
})
bare_rest (rest.Function p body) = rest.Function (bare_parameters p) (option_map bare_items body)

abbrev pub bare_value : Value → Value
bare_value (value.Text t) = value.Text t
bare_value (value.Expr e) = value.Expr (bare_expr e)
bare_value (value.Exprs all) = value.Exprs (bare_exprs all)
bare_value (value.OptionalExpr e) = value.OptionalExpr (option_bare bare_expr e)
bare_value (value.TypeName t) = value.TypeName (bare_type_name t)
bare_value (value.Specifiers s) = value.Specifiers s
bare_value (value.Base b) = value.Base b
bare_value (value.Words w) = value.Words w
bare_value (value.Qualifiers q) = value.Qualifiers q
bare_value (value.Pointers p) = value.Pointers (bare_pointers p)
bare_value (value.Declarator d) = value.Declarator (bare_declarator d)
bare_value (value.Declarators all) = value.Declarators (bare_declarators all)
bare_value (value.Member m) = value.Member (bare_member m)
bare_value (value.Members all) = value.Members (bare_members all)
bare_value (value.Init i) = value.Init (bare_init i)
bare_value (value.OptionalInit i) = value.OptionalInit (option_bare bare_init i)
bare_value (value.Inits all) = value.Inits (bare_inits all)
bare_value (value.InitDeclarator d) = value.InitDeclarator (bare_init_declarator d)
bare_value (value.InitDeclarators all) = value.InitDeclarators (bare_init_declarators all)
bare_value (value.Object o) = value.Object (bare_local o)
bare_value (value.Stmt s) = value.Stmt (bare_stmt s)
bare_value (value.OptionalStmt s) = value.OptionalStmt (option_bare bare_stmt s)
bare_value (value.ForFirst f) = value.ForFirst (bare_for_first f)
bare_value (value.Items all) = value.Items (bare_items all)
bare_value (value.Label l) = value.Label (bare_label l)
bare_value (value.SwitchItems all) = value.SwitchItems (bare_switch_items all)
bare_value value.RegisterType = value.RegisterType
bare_value (value.ExternalRest r) = value.ExternalRest (bare_rest r)
bare_value (value.FunctionEnd body) = value.FunctionEnd (option_map bare_items body)
bare_value (value.Parameters p) = value.Parameters (bare_parameters p)
bare_value (value.Parameter p) = value.Parameter (bare_parameter p)
bare_value (value.ParameterList all) = value.ParameterList (bare_parameter_list all)
bare_value (value.Unit u) = value.Unit (bare_unit u)
bare_value (value.Units all) = value.Units (bare_units all)

abbrev pub bare_values : List Value → List Value
bare_values = map bare_value
