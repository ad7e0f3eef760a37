-- The grammar of classes in a skeleton: what a type checker finds there, whatever the source was.
use Rattle.std.specs.Prelude.{◌≡◌, Bool, true, false, not, List, [], ◌⊎◌, if◌then◌else◌}
use Rattle.std.specs.List.{list_all}
use Rattle.fast_check_tree_syntax.specs.declared.kind.Kind.TheVariants.{Function, Class, Constructor, ClassMethod, ClassProp}
use Rattle.fast_check_tree_syntax.specs.declared.kind.Kind.TheVariants.{TsIndexSignature}
use Rattle.fast_check_tree_syntax.specs.declared.kind.Word.TheVariants.{Setter}
use Rattle.fast_check_tree_syntax.specs.declared.tree.Tree.{Tree}
use Rattle.fast_check_tree_syntax.specs.Shape.{kind_of, parts, is_absent, has_word, list, OfAll}
use Rattle.fast_check_tree_forms_classes.specs.Classes.{Class-decorators, Class-body, Class-super_class, Constructor-params}
use Rattle.fast_check_tree_forms_classes.specs.Classes.{Constructor-body, Constructor-accessibility}
use Rattle.fast_check_tree_forms_classes.specs.Fields.{ClassProp-decorators, ClassProp-value, ClassProp-type_ann}
use Rattle.fast_check_tree_forms_classes.specs.Fields.{ClassProp-declare, ClassProp-definite}
use Rattle.fast_check_tree_forms_classes.specs.Functions.{Function-params, Function-decorators, Function-body}
use Rattle.fast_check_tree_forms_classes.specs.Functions.{Function-is_generator, Function-is_async, Function-return_type}
use Rattle.fast_check_tree_forms_classes.specs.Methods.{ClassMethod-function, ClassMethod-kind, ClassMethod-accessibility}
use Rattle.fast_check_tree_forms_expressions.specs.Calls.{CallExpr-args}
use Rattle.fast_check_tree_forms_expressions.specs.Expressions.{ExprOrSpread-spread, ExprOrSpread-expr}
use Rattle.fast_check_tree_forms_statements.specs.Statements.{ExprStmt-expr}
use Rattle.fast_check_tree_helpers.specs.Builders.{never_value}
use Rattle.fast_check_meaning_signatures.specs.Bindings.{Bindings}
use Rattle.fast_check_meaning_signatures.specs.NewNodes.{never_array_in_parens, new_block, hash_private, function_body}
use Rattle.fast_check_meaning_signatures.specs.Members.{is_private, is_private_computed}
use Rattle.fast_check_meaning_signatures.specs.Classes.{is_reference, is_super_call}
use Rattle.fast_check_meaning_skeleton.specs.TypedGrammar.{IsLeavable, IsTypedFunction, AllTypedParams}

-- an argument of `super`: `{} as never`, or `...([] as never[])`
abbrev pub IsNeverArgument : Tree → Type 0
IsNeverArgument arg = ExprOrSpread-expr arg
    ≡ (if is_absent (ExprOrSpread-spread arg) then never_value else never_array_in_parens)

-- `super(..);` of such arguments
pub record IsNeverSuper (stmt : Tree) : Type 0 where
  pub call : is_super_call stmt ≡ true
  pub arguments : OfAll IsNeverArgument (parts (CallExpr-args (ExprStmt-expr stmt)))

-- a body of nothing but such calls
pub record IsSuperBody (body : Tree) : Type 0 where
  pub stmts : List Tree
  pub block : body ≡ new_block stmts
  pub calls : OfAll IsNeverSuper stmts

-- an ambient class stands as it was written, without private methods, properties and accessors of computed keys
abbrev pub IsAmbientClass : Tree → Type 0
IsAmbientClass t = list_all (λ m. not (is_private_computed m)) (parts (Class-body t)) ≡ true

-- `bindings` is what is known of the names of the module
module _ (bindings : Bindings) where
  -- the function of a setter, which has no return type
  pub record IsTypedSetter (t : Tree) : Type 0 where
    pub kind : kind_of t ≡ Function
    pub decorators : Function-decorators t ≡ list []
    pub is_async : Function-is_async t ≡ false
    pub is_generator : Function-is_generator t ≡ false
    pub body : (is_absent (Function-body t) ≡ true) ⊎ (Function-body t ≡ function_body (Function-return_type t))
    pub params : AllTypedParams bindings (parts (Function-params t))

  -- a member of a class
  pub data IsTypedMember : Tree → Type 0 where
    -- `#private!: unknown`
    mark : {t : Tree} → t ≡ hash_private → IsTypedMember t
    -- `declare key: type`; the type may be missing where a parameter declares the property
    declared : {t : Tree} → kind_of t ≡ ClassProp → ClassProp-decorators t ≡ list [] →
        is_absent (ClassProp-value t) ≡ true → ClassProp-declare t ≡ true →
        ClassProp-definite t ≡ false → IsTypedMember t
    -- `key = value`
    valued : {t : Tree} → kind_of t ≡ ClassProp → ClassProp-decorators t ≡ list [] →
        is_absent (ClassProp-type_ann t) ≡ true →
        is_absent (ClassProp-value t) ≡ false → IsLeavable bindings (ClassProp-value t) → ClassProp-declare t ≡ false →
        ClassProp-definite t ≡ false →
        IsTypedMember t
    -- a method, a getter or a setter that is not private
    method : {t : Tree} → kind_of t ≡ ClassMethod → is_private (ClassMethod-accessibility t) ≡ false →
        IsTypedFunction bindings (ClassMethod-function t) ⊎
        ((has_word Setter (ClassMethod-kind t) ≡ true) × IsTypedSetter (ClassMethod-function t)) →
        IsTypedMember t
    constructor : {t : Tree} → kind_of t ≡ Constructor → (is_absent (Constructor-body t) ≡ true) ⊎
        IsSuperBody (Constructor-body t) →
        AllTypedParams bindings (parts (Constructor-params t)) → IsTypedMember t
    -- an index signature stands as it was written
    index_signature : {t : Tree} → kind_of t ≡ TsIndexSignature → IsTypedMember t

  -- a class that is not ambient
  pub record IsTypedClass (t : Tree) : Type 0 where
    pub kind : kind_of t ≡ Class
    pub decorators : Class-decorators t ≡ list []
    pub superclass : (is_absent (Class-super_class t) ≡ true) ⊎ (is_reference (Class-super_class t) ≡ true)
    pub members : OfAll IsTypedMember (parts (Class-body t))
