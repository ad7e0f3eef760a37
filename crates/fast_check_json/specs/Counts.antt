-- How often each field of each form stands, by its name. From this follows what a missing member of an object stands for. It was taken from
-- the page of forms once, was read through beside the list of swc's forms, and is not written from the page: a later change of that has no proof
-- unless this one changes too.
use Prim.Native.String.{String}
use Rattle.std.specs.Prelude.{◌≡◌, ℕ, List, [], ◌∷◌, ◌||◌, Bool, if◌then◌else◌, map, codes}
use Rattle.std.specs.List.{list_any}
use Rattle.std.specs.Str.{bytes_eq}
use Rattle.fast_check_tree_syntax.specs.declared.kind.Kind.{Kind}
use Rattle.fast_check_tree_syntax.specs.declared.kind.Kind.TheVariants as kinds
use Rattle.fast_check_read.specs.declared.schema.form.Count.{Count}
use Rattle.fast_check_read.specs.declared.schema.form.Count.TheVariants as counts
use Rattle.fast_check_read.specs.schema.Schema.{fields_of}

-- the names of the fields that stand so often in all forms that have them
abbrev pub in_all : Count → List String
in_all counts.Option = "accessibility" ∷ "constraint" ∷ "cooked" ∷ "default" ∷ "finalizer" ∷ "handler" ∷ "imported" ∷
    "init" ∷ "name_type" ∷ "qualifier" ∷ "return_type" ∷ "shebang" ∷ "spread" ∷ "super_class" ∷ "super_type_params" ∷
    "type_params" ∷ "update" ∷ "with" ∷ []
in_all counts.List = "cases" ∷ "decls" ∷ "decorators" ∷ "elem_types" ∷ "exprs" ∷ "extends" ∷ "implements" ∷ "members" ∷
    "params" ∷ "props" ∷ "quasis" ∷ "specifiers" ∷ "stmts" ∷ "types" ∷ []
in_all counts.ListOfOptions = "elems" ∷ []
in_all _ = []

-- and those that stand so often in this form
abbrev pub in_form : Kind → Count → List String
in_form kinds.BindingIdent counts.Option = "type_ann" ∷ []
in_form kinds.Str counts.Option = "raw" ∷ []
in_form kinds.Module counts.List = "body" ∷ []
in_form kinds.Script counts.List = "body" ∷ []
in_form kinds.NamedExport counts.Option = "src" ∷ []
in_form kinds.ExportNamedSpecifier counts.Option = "exported" ∷ []
in_form kinds.ReturnStmt counts.Option = "arg" ∷ []
in_form kinds.BreakStmt counts.Option = "label" ∷ []
in_form kinds.ContinueStmt counts.Option = "label" ∷ []
in_form kinds.IfStmt counts.Option = "alt" ∷ []
in_form kinds.SwitchCase counts.Option = "test" ∷ []
in_form kinds.SwitchCase counts.List = "cons" ∷ []
in_form kinds.CatchClause counts.Option = "param" ∷ []
in_form kinds.ForStmt counts.Option = "test" ∷ []
in_form kinds.TsExprWithTypeArgs counts.Option = "type_args" ∷ []
in_form kinds.TsInterfaceBody counts.List = "body" ∷ []
in_form kinds.TsModuleDecl counts.Option = "body" ∷ []
in_form kinds.TsModuleBlock counts.List = "body" ∷ []
in_form kinds.FnExpr counts.Option = "ident" ∷ []
in_form kinds.CallExpr counts.Option = "type_args" ∷ []
in_form kinds.CallExpr counts.List = "args" ∷ []
in_form kinds.NewExpr counts.Option = "type_args" ∷ []
in_form kinds.NewExpr counts.OptionOfList = "args" ∷ []
in_form kinds.ClassExpr counts.Option = "ident" ∷ []
in_form kinds.YieldExpr counts.Option = "arg" ∷ []
in_form kinds.OptCall counts.Option = "type_args" ∷ []
in_form kinds.OptCall counts.List = "args" ∷ []
in_form kinds.GetterProp counts.Option = "type_ann" ∷ "body" ∷ []
in_form kinds.SetterProp counts.Option = "body" ∷ []
in_form kinds.ArrayPat counts.Option = "type_ann" ∷ []
in_form kinds.RestPat counts.Option = "type_ann" ∷ []
in_form kinds.ObjectPat counts.Option = "type_ann" ∷ []
in_form kinds.AssignPatProp counts.Option = "value" ∷ []
in_form kinds.Function counts.Option = "body" ∷ []
in_form kinds.Class counts.List = "body" ∷ []
in_form kinds.Constructor counts.Option = "body" ∷ []
in_form kinds.ClassProp counts.Option = "value" ∷ "type_ann" ∷ []
in_form kinds.PrivateProp counts.Option = "value" ∷ "type_ann" ∷ []
in_form kinds.TsIndexSignature counts.Option = "type_ann" ∷ []
in_form kinds.AutoAccessor counts.Option = "value" ∷ "type_ann" ∷ []
in_form kinds.TsTypeQuery counts.Option = "type_args" ∷ []
in_form kinds.TsTupleElement counts.Option = "label" ∷ []
in_form kinds.TsMappedType counts.Option = "readonly" ∷ "optional" ∷ "type_ann" ∷ []
in_form kinds.TsTypePredicate counts.Option = "type_ann" ∷ []
in_form kinds.TsImportType counts.Option = "type_args" ∷ []
in_form kinds.TsCallSignatureDecl counts.Option = "type_ann" ∷ []
in_form kinds.TsConstructSignatureDecl counts.Option = "type_ann" ∷ []
in_form kinds.TsPropertySignature counts.Option = "type_ann" ∷ []
in_form kinds.TsGetterSignature counts.Option = "type_ann" ∷ []
in_form kinds.TsMethodSignature counts.Option = "type_ann" ∷ []
in_form _ _ = []

abbrev pub is_among : List ℕ → List String → Bool
is_among name names = list_any (λ text. bytes_eq (codes text) name) names

abbrev pub is_counted : Kind → List ℕ → Count → Bool
is_counted kind name count =
    is_among name (in_all count) || is_among name (in_form kind count)

-- how often the field of a name stands: once, unless it is named above
abbrev pub count_of : Kind → List ℕ → Count
count_of kind name =
    if is_counted kind name counts.Option then counts.Option else
    if is_counted kind name counts.List then counts.List else
    if is_counted kind name counts.ListOfOptions then counts.ListOfOptions else
    if is_counted kind name counts.OptionOfList then counts.OptionOfList else counts.One

abbrev pub FieldsAreCounted : Type 0
FieldsAreCounted = (kind : Kind) → map (λ field. field.count) (fields_of kind) ≡ map (λ field. count_of kind field.name) (fields_of kind)
