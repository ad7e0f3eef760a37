-- What is seen of a class: its superclass by its form, and of its members what tells their types.
use Rattle.std.specs.Prelude.{Bool, true, false, ◌&&◌, Some, List, [], ◌∷◌, ◌++◌, map, unwrap_or, if◌then◌else◌}
use Rattle.std.specs.List.{filter, flat_map}
use Rattle.fast_check_tree_syntax.specs.declared.kind.Kind.{Kind}
use Rattle.fast_check_tree_syntax.specs.declared.kind.Kind.TheVariants as kinds
use Rattle.fast_check_tree_syntax.specs.declared.kind.Word.TheVariants as words
use Rattle.fast_check_tree_syntax.specs.declared.source.SourceRange.{SourceRange}
use Rattle.fast_check_tree_syntax.specs.declared.source.SyntaxContext.{SyntaxContext}
use Rattle.fast_check_tree_syntax.specs.declared.tree.Tree.{Tree, Absent}
use Rattle.fast_check_tree_syntax.specs.Shape.{◌is◌, kind_of, parts, is_absent, has_word, list}
use Rattle.fast_check_tree_syntax.specs.Descent.{by_descent}
use Rattle.fast_check_tree_forms_classes.specs.Classes.{Class-span, Class-ctxt, Class-decorators, Class-body}
use Rattle.fast_check_tree_forms_classes.specs.Classes.{Class-super_class, Class-is_abstract, Class-type_params}
use Rattle.fast_check_tree_forms_classes.specs.Classes.{Class-super_type_params, Class-implements, class as class_node}
use Rattle.fast_check_tree_forms_classes.specs.Classes.{Constructor-span, Constructor-ctxt, Constructor-key}
use Rattle.fast_check_tree_forms_classes.specs.Classes.{Constructor-params, Constructor-body, Constructor-accessibility}
use Rattle.fast_check_tree_forms_classes.specs.Classes.{Constructor-is_optional, TsParamProp-span, TsParamProp-accessibility}
use Rattle.fast_check_tree_forms_classes.specs.Classes.{TsParamProp-readonly, TsParamProp-param}
use Rattle.fast_check_tree_forms_classes.specs.Fields.{ClassProp-span, ClassProp-key, ClassProp-value, ClassProp-type_ann}
use Rattle.fast_check_tree_forms_classes.specs.Fields.{ClassProp-is_static, ClassProp-accessibility, ClassProp-is_abstract}
use Rattle.fast_check_tree_forms_classes.specs.Fields.{ClassProp-is_optional, ClassProp-is_override, ClassProp-readonly}
use Rattle.fast_check_tree_forms_classes.specs.Fields.{AutoAccessor-span, AutoAccessor-key, AutoAccessor-value}
use Rattle.fast_check_tree_forms_classes.specs.Fields.{AutoAccessor-type_ann, AutoAccessor-is_static}
use Rattle.fast_check_tree_forms_classes.specs.Fields.{AutoAccessor-accessibility}
use Rattle.fast_check_tree_forms_classes.specs.Functions.{Param-pat, param}
use Rattle.fast_check_tree_forms_classes.specs.Methods.{ClassMethod-span, ClassMethod-key, ClassMethod-function}
use Rattle.fast_check_tree_forms_classes.specs.Methods.{ClassMethod-kind, ClassMethod-is_static, ClassMethod-accessibility}
use Rattle.fast_check_tree_forms_classes.specs.Methods.{ClassMethod-is_abstract, ClassMethod-is_optional}
use Rattle.fast_check_tree_forms_classes.specs.Methods.{ClassMethod-is_override}
use Rattle.fast_check_tree_forms_expressions.specs.Calls.{MemberExpr-obj, MemberExpr-prop, CallExpr-span, CallExpr-ctxt}
use Rattle.fast_check_tree_forms_expressions.specs.Calls.{CallExpr-callee, CallExpr-args, CallExpr-type_args, call_expr}
use Rattle.fast_check_tree_forms_expressions.specs.Expressions.{ExprOrSpread-spread, expr_or_spread}
use Rattle.fast_check_tree_forms_expressions.specs.Patterns.{AssignPat-left, AssignPat-right}
use Rattle.fast_check_tree_forms_expressions.specs.Properties.{ComputedPropName-expr}
use Rattle.fast_check_tree_forms_programs.specs.Names.{Ident-span, Ident-sym, Ident-optional, BindingIdent-id}
use Rattle.fast_check_tree_forms_programs.specs.Names.{BindingIdent-type_ann}
use Rattle.fast_check_tree_helpers.specs.ranges.Ranges.{range_of_node}
use Rattle.fast_check_tree_forms_statements.specs.Statements.{BlockStmt-stmts, ExprStmt-span, ExprStmt-expr}
use Rattle.fast_check_tree_helpers.specs.declared.literal_type.DeclMutabilityKind.{DeclMutabilityKind}
use Rattle.fast_check_tree_helpers.specs.declared.literal_type.DeclMutabilityKind.TheVariants.{Const, Mutable}
use Rattle.fast_check_tree_helpers.specs.Builders.{any_type_ann, never_value}
use Rattle.fast_check_meaning_signatures.specs.declared.fault.FaultKind.TheVariants.{MissingExplicitType}
use Rattle.fast_check_meaning_signatures.specs.declared.fault.FaultKind.TheVariants.{UnsupportedDestructuring}
use Rattle.fast_check_meaning_signatures.specs.declared.fault.FaultKind.TheVariants.{UnsupportedSuperClassExpr}
use Rattle.fast_check_meaning_signatures.specs.declared.function_kind.FunctionKind.{FunctionKind}
use Rattle.fast_check_meaning_signatures.specs.declared.function_kind.FunctionKind.TheVariants.{DeclarationLike, Getter, Setter}
use Rattle.fast_check_meaning_signatures.specs.Bindings.{Bindings}
use Rattle.fast_check_meaning_signatures.specs.Seen.{ClassHead, PropertyHead, Seen, written, range, scope, flag, round, listed}
use Rattle.fast_check_meaning_signatures.specs.Seen.{class, property, faulty, refused, seens}
use Rattle.fast_check_meaning_signatures.specs.NewNodes.{never_array_in_parens, expr_stmt, ident_name, new_block}
use Rattle.fast_check_meaning_signatures.specs.Functions.{function_seen, implementation_seen, any_params_from, params_seen}
use Rattle.fast_check_meaning_signatures.specs.Parameters.{pats_seen}
use Rattle.fast_check_meaning_signatures.specs.Expressions.{expr_seen}
use Rattle.fast_check_meaning_signatures.specs.Answers.{declared_property}
use Rattle.fast_check_meaning_signatures.specs.Typing.{Typing, type_of, seen_by}
use Rattle.fast_check_meaning_signatures.specs.Members.{is_private, hash_mark, kept_members, ambient_members}

-- ---- superclasses

-- the property of a member: plain, or computed by an expression of this form
abbrev pub property_of_kind : Kind → Tree → (Tree → Bool) → Bool
property_of_kind kinds.IdentName prop look = true
property_of_kind kinds.ComputedPropName prop look = look (ComputedPropName-expr prop)
property_of_kind _ prop look = false

abbrev pub reference_of_kind : Kind → Tree → (Tree → Bool) → Bool
reference_of_kind kinds.Ident t look = true
reference_of_kind kinds.MemberExpr t look = look (MemberExpr-obj t) &&
    property_of_kind (kind_of (MemberExpr-prop t)) (MemberExpr-prop t) look
reference_of_kind _ t look = false

abbrev pub reference_form : Tree → (Tree → Bool) → Bool
reference_form t look = reference_of_kind (kind_of t) t look

-- whether an expression is an identifier, or a chain of members on one, each plain or computed by such an expression
-- again
unfoldable pub is_reference : Tree → Bool
is_reference = by_descent false reference_form

-- the superclass, if there is one
abbrev pub superclass_seen : Tree → Seen
superclass_seen superclass =
    if is_absent superclass then written Absent
    else (if is_reference superclass then written superclass else faulty UnsupportedSuperClassExpr
    (range_of_node superclass))

-- ---- properties

-- a property of this type, which may be private and of any type
abbrev pub typed_property : PropertyHead → Tree → Seen
typed_property p type = written (declared_property p type)

-- a `readonly` property keeps its value
abbrev pub mutability_of_property : Bool → DeclMutabilityKind
mutability_of_property readonly = if readonly then Const else Mutable

abbrev pub property_head : Tree → PropertyHead
property_head m = record {
  span = ClassProp-span m;
  key = ClassProp-key m;
  is_static = ClassProp-is_static m;
  accessibility = ClassProp-accessibility m;
  is_abstract = ClassProp-is_abstract m;
  is_optional = ClassProp-is_optional m;
  is_override = ClassProp-is_override m;
  readonly = ClassProp-readonly m;
}

-- an accessor becomes a property that keeps `static` and the accessibility alone
abbrev pub accessor_head : Tree → PropertyHead
accessor_head m = record {
  span = AutoAccessor-span m;
  key = AutoAccessor-key m;
  is_static = AutoAccessor-is_static m;
  accessibility = AutoAccessor-accessibility m;
  is_abstract = false;
  is_optional = false;
  is_override = false;
  readonly = false;
}

-- so does a private method, which keeps `abstract` and `?` too
abbrev pub private_method_head : Tree → PropertyHead
private_method_head m = record {
  span = ClassMethod-span m;
  key = ClassMethod-key m;
  is_static = ClassMethod-is_static m;
  accessibility = ClassMethod-accessibility m;
  is_abstract = ClassMethod-is_abstract m;
  is_optional = ClassMethod-is_optional m;
  is_override = false;
  readonly = false;
}

-- ---- parameters of constructors

abbrev pub is_param_property : Tree → Bool
is_param_property p = kind_of p is kinds.TsParamProp

-- a parameter, without the modifiers that make it a property too
abbrev pub plain_param : Tree → Tree
plain_param p = if is_param_property p then param (TsParamProp-span p) (list []) (TsParamProp-param p) else p

-- what a parameter property names, its default aside: an identifier with its type
abbrev pub param_target : Tree → Tree
param_target p = let pat = TsParamProp-param p in if kind_of pat is kinds.AssignPat then AssignPat-left pat else pat

-- whether it is a pattern, which can't be a property
abbrev pub takes_apart : Tree → Bool
takes_apart p = if kind_of (param_target p) is kinds.BindingIdent then false else true

-- the parameter properties of a constructor
abbrev pub param_properties : Tree → List Tree
param_properties m = filter is_param_property (parts (Constructor-params m))

-- those of them that are patterns
abbrev pub patterns_among : List Tree → List Tree
patterns_among properties = filter takes_apart properties

-- what there is where there are none of these
abbrev pub unless_any : List Tree → List Tree → List Tree
unless_any [] made = made
unless_any (p ∷ ps) made = []

-- the accessibility of a property; `public` goes
abbrev pub shown_accessibility : Tree → Tree
shown_accessibility accessibility = if has_word words.Public accessibility then Absent else accessibility

-- a parameter property as a property: it keeps `readonly`, private or protected, and the `?` of an identifier
abbrev pub param_property_head : Tree → PropertyHead
param_property_head p =
    let id = BindingIdent-id (param_target p) in record {
      span = TsParamProp-span p;
      key = ident_name (Ident-span id) (Ident-sym id);
      is_static = false;
      accessibility = shown_accessibility (TsParamProp-accessibility p);
      is_abstract = false;
      is_optional = (kind_of (TsParamProp-param p) is kinds.BindingIdent) && Ident-optional id;
      is_override = false;
      readonly = TsParamProp-readonly p;
    }

-- ---- bodies of constructors

-- `super(..);`
abbrev pub is_super_call : Tree → Bool
is_super_call stmt =
    (kind_of stmt is kinds.ExprStmt) &&
    ((kind_of (ExprStmt-expr stmt) is kinds.CallExpr) &&
    (kind_of (CallExpr-callee (ExprStmt-expr stmt)) is kinds.Super))

-- an argument of it: `{} as never`, or `...([] as never[])`
abbrev pub never_argument : Tree → Tree
never_argument arg =
    let spread = ExprOrSpread-spread arg in expr_or_spread spread
    (if is_absent spread then never_value else never_array_in_parens)

abbrev pub super_call : Tree → Tree
super_call stmt =
    let call = ExprStmt-expr stmt in
    expr_stmt (ExprStmt-span stmt) (call_expr (CallExpr-span call) (CallExpr-ctxt call) (CallExpr-callee call)
    (list (map never_argument (parts (CallExpr-args call)))) (CallExpr-type_args call))

-- the calls of the constructor of the superclass at the top of a body
abbrev pub super_calls : Tree → List Tree
super_calls body = map super_call (filter is_super_call (parts (BlockStmt-stmts body)))

-- the body of a constructor, if there is one
abbrev pub constructor_body : Tree → Tree
constructor_body body = if is_absent body then Absent else new_block (super_calls body)

-- a constructor of these parameters
abbrev pub constructor_of : Tree → List Seen → Seen
constructor_of m params =
    round kinds.Constructor
    (seens (range (Constructor-span m) ∷ scope (Constructor-ctxt m) ∷ written (Constructor-key m) ∷
    listed (seens params) ∷
    written (constructor_body (Constructor-body m)) ∷ written (Constructor-accessibility m) ∷
    flag (Constructor-is_optional m) ∷ []))

-- a constructor whose parameter properties are given that are patterns: at the first of them it is at fault, and
-- nowhere else
abbrev pub unless_taken_apart : List Tree → Seen → Seen
unless_taken_apart [] constructor = constructor
unless_taken_apart (p ∷ ps) constructor = faulty UnsupportedDestructuring (range_of_node (param_target p))

-- ---- members

-- what a method is, by the word for its kind
abbrev pub method_kind : Tree → FunctionKind
method_kind kind = if has_word words.Setter kind then Setter else
    (if has_word words.Getter kind then Getter else DeclarationLike)

-- a method over what is seen of its function
abbrev pub method_of : Tree → Seen → Seen
method_of m signature =
    round kinds.ClassMethod
    (seens (range (ClassMethod-span m) ∷ written (ClassMethod-key m) ∷ signature ∷ written (ClassMethod-kind m) ∷
    flag (ClassMethod-is_static m) ∷ written (ClassMethod-accessibility m) ∷ flag (ClassMethod-is_abstract m) ∷
    flag (ClassMethod-is_optional m) ∷
    flag (ClassMethod-is_override m) ∷ []))

-- a class, but for its superclass and its members
abbrev pub class_head : Tree → ClassHead
class_head t = record {
  span = Class-span t;
  ctxt = Class-ctxt t;
  is_abstract = Class-is_abstract t;
  type_params = Class-type_params t;
  super_type_params = Class-super_type_params t;
  implements = Class-implements t;
}

-- ---- the types of members

abbrev pub property_typing : Tree → Typing
property_typing m = record {
  is_private = is_private (ClassProp-accessibility m);
  type = ClassProp-type_ann m;
  value = ClassProp-value m;
  mutability = mutability_of_property (ClassProp-readonly m);
}

-- an accessor is taken for one that changes
abbrev pub accessor_typing : Tree → Typing
accessor_typing m = record {
  is_private = is_private (AutoAccessor-accessibility m);
  type = AutoAccessor-type_ann m;
  value = AutoAccessor-value m;
  mutability = Mutable;
}

-- a parameter property has its default for a value, if it has one
abbrev pub param_typing : Tree → Typing
param_typing p =
    let pat = TsParamProp-param p in record {
      is_private = is_private (TsParamProp-accessibility p);
      type = BindingIdent-type_ann (param_target p);
      value = if kind_of pat is kinds.AssignPat then AssignPat-right pat else Absent;
      mutability = mutability_of_property (TsParamProp-readonly p);
    }

-- ---- properties that parameters declare; `unresolved` is the scope number of the names that nothing in the module
-- binds

module _ (unresolved : SyntaxContext) where
  -- `declare name: type;` for a parameter property; where nothing gives its type it has none
  abbrev pub param_property : Tree → Tree
  param_property p = declared_property (param_property_head p) (unwrap_or (type_of unresolved (param_typing p)) Absent)

  -- the properties that a constructor declares by its parameters, if it is not at fault, and no other member
  abbrev pub declared_by_params : Tree → List Tree
  declared_by_params m =
      if kind_of m is kinds.Constructor then unless_any (patterns_among (param_properties m))
      (map param_property (param_properties m)) else []

-- ---- what is seen of members

-- `is_implementation` says of the range of a member whether it is an implementation behind overloads
module _ (bindings : Bindings) (is_implementation : SourceRange → Bool) where
  -- a value that is to give a type, and the place of the key that names it; where there is none, nothing gives the type
  abbrev pub member_value_seen : SourceRange → Tree → Seen
  member_value_seen place value = if is_absent value then refused else expr_seen bindings value (Some place)

  -- a property, with its type, or else with its value as it may stay
  abbrev pub property_seen : Tree → Seen
  property_seen m =
      let p = property_head m in
      seen_by (type_of bindings.unresolved (property_typing m)) (typed_property p)
      (property p (member_value_seen (range_of_node p.key) (ClassProp-value m)))

  -- an accessor with a public key, with its type: its value can't stay
  abbrev pub accessor_seen : Tree → Seen
  accessor_seen m =
      let p = accessor_head m in
      seen_by (type_of bindings.unresolved (accessor_typing m)) (typed_property p)
      (faulty MissingExplicitType (range_of_node p.key))

  -- the function of a method, a getter or a setter, by its signature; what is wrong with its return type is wrong at
  -- the key
  abbrev pub method_function_seen : Tree → Seen
  method_function_seen m =
      if is_implementation (ClassMethod-span m) then implementation_seen (ClassMethod-function m)
      else function_seen bindings (expr_seen bindings) (method_kind (ClassMethod-kind m))
      (range_of_node (ClassMethod-key m)) (ClassMethod-function m)

  -- a method, a getter or a setter; a private one becomes a property of any type
  abbrev pub method_seen : Tree → Seen
  method_seen m =
      if is_private (ClassMethod-accessibility m) then typed_property (private_method_head m) any_type_ann
      else method_of m (method_function_seen m)

  -- the parameters of a constructor, by `plain_param` of each: those of a private one go
  abbrev pub plain_params_seen : List Tree → List Seen
  plain_params_seen ps = params_seen ps (pats_seen bindings (expr_seen bindings) (map (λ p. Param-pat p) ps))

  abbrev pub constructor_params_seen : Tree → List Seen
  constructor_params_seen m =
      let ps = map plain_param (parts (Constructor-params m)) in
      if is_private (Constructor-accessibility m) then []
      else (if is_implementation (Constructor-span m) then any_params_from 0 ps else plain_params_seen ps)

  -- a constructor
  abbrev pub constructor_seen : Tree → Seen
  constructor_seen m = unless_taken_apart (patterns_among (param_properties m))
      (constructor_of m (constructor_params_seen m))

  -- a member that stays, by its kind; an index signature stands as it is written
  abbrev pub member_of_kind : Kind → Tree → Seen
  member_of_kind kinds.Constructor m = constructor_seen m
  member_of_kind kinds.ClassMethod m = method_seen m
  member_of_kind kinds.ClassProp m = property_seen m
  member_of_kind kinds.AutoAccessor m = accessor_seen m
  member_of_kind _ m = written m

  abbrev pub member_seen : Tree → Seen
  member_seen m = member_of_kind (kind_of m) m

  -- the members of a class: the mark for hash names, the properties that are declared by parameters, and what stays of
  -- the others
  abbrev pub members_seen : List Tree → List Seen
  members_seen members =
      let kept =
      kept_members members in map written
      (hash_mark members ++ flat_map (declared_by_params bindings.unresolved) kept) ++ map member_seen kept

  -- a class that is not ambient
  abbrev pub plain_class_seen : Tree → Seen
  plain_class_seen t = class (class_head t) (superclass_seen (Class-super_class t))
      (seens (members_seen (parts (Class-body t))))

-- an ambient class loses private members with computed keys, and no more
abbrev pub ambient_class : Tree → Tree
ambient_class t =
    class_node (Class-span t) (Class-ctxt t) (Class-decorators t) (list (ambient_members (parts (Class-body t))))
    (Class-super_class t) (Class-is_abstract t)
    (Class-type_params t) (Class-super_type_params t) (Class-implements t)
