-- The grammar of values, functions and parameters in a skeleton: what a type checker finds there, whatever the source
-- was.
use Rattle.std.specs.Prelude.{◌≡◌, true, false, List, [], ◌∷◌, ◌⊎◌, codes}
use Rattle.fast_check_tree_syntax.specs.declared.kind.Kind.TheVariants.{AssignPat, ArrayPat, ObjectPat, RestPat}
use Rattle.fast_check_tree_syntax.specs.declared.kind.Kind.TheVariants.{BindingIdent, Param, Function, CallExpr}
use Rattle.fast_check_tree_syntax.specs.declared.kind.Kind.TheVariants.{TsSatisfiesExpr, TsAsExpr, TsTypeAssertion, FnExpr}
use Rattle.fast_check_tree_syntax.specs.declared.kind.Kind.TheVariants.{ArrowExpr}
use Rattle.fast_check_tree_syntax.specs.declared.tree.Tree.{Tree}
use Rattle.fast_check_tree_syntax.specs.Shape.{kind_of, parts, is_absent, list}
use Rattle.fast_check_tree_forms_classes.specs.Functions.{Function-params, Function-decorators, Function-body}
use Rattle.fast_check_tree_forms_classes.specs.Functions.{Function-is_generator, Function-is_async, Function-return_type}
use Rattle.fast_check_tree_forms_classes.specs.Functions.{Param-decorators, Param-pat}
use Rattle.fast_check_tree_forms_expressions.specs.Assertions.{TsAsExpr-expr, TsTypeAssertion-expr, TsSatisfiesExpr-expr}
use Rattle.fast_check_tree_forms_expressions.specs.Calls.{CallExpr-callee, CallExpr-args, NewExpr-args}
use Rattle.fast_check_tree_forms_expressions.specs.Expressions.{ArrowExpr-params, ArrowExpr-body, ArrowExpr-is_async}
use Rattle.fast_check_tree_forms_expressions.specs.Expressions.{ArrowExpr-return_type, FnExpr-function}
use Rattle.fast_check_tree_forms_expressions.specs.Patterns.{ArrayPat-elems, ArrayPat-type_ann, ObjectPat-props}
use Rattle.fast_check_tree_forms_expressions.specs.Patterns.{ObjectPat-type_ann, RestPat-arg, RestPat-type_ann}
use Rattle.fast_check_tree_forms_expressions.specs.Patterns.{AssignPat-left, AssignPat-right}
use Rattle.fast_check_tree_forms_programs.specs.Names.{BindingIdent-type_ann}
use Rattle.fast_check_tree_helpers.specs.Builders.{never_value}
use Rattle.fast_check_tree_helpers.specs.GlobalCalls.{is_global_member}
use Rattle.fast_check_meaning_signatures.specs.Bindings.{Bindings}
use Rattle.fast_check_meaning_signatures.specs.Expressions.{is_plain, is_compound, is_made}
use Rattle.fast_check_meaning_signatures.specs.NewNodes.{never_array, never_in_parens, function_body, arrow_body}
use Rattle.fast_check_meaning_signatures.specs.Parameters.{rest_arg}

-- an array pattern of nothing, with a written type or without
pub record IsEmptiedArray (t : Tree) : Type 0 where
  pub kind : kind_of t ≡ ArrayPat
  pub elems : ArrayPat-elems t ≡ list []

pub record IsEmptiedObject (t : Tree) : Type 0 where
  pub kind : kind_of t ≡ ObjectPat
  pub props : ObjectPat-props t ≡ list []

-- `bindings` is what is known of the names of the module
module _ (bindings : Bindings) where
  mutual
    -- an expression that gives its type by itself
    pub data IsLeavable : Tree → Type 0 where
      plain : {t : Tree} → is_plain (kind_of t) ≡ true → IsLeavable t
      -- with each of its parts
      compound : {t : Tree} → is_compound (kind_of t) ≡ true → AllLeavable (parts t) → IsLeavable t
      satisfies : {t : Tree} → kind_of t ≡ TsSatisfiesExpr → IsLeavable (TsSatisfiesExpr-expr t) → IsLeavable t
      -- `({} as never) as T`
      as_type : {t : Tree} → kind_of t ≡ TsAsExpr → TsAsExpr-expr t ≡ never_in_parens → IsLeavable t
      assertion : {t : Tree} → kind_of t ≡ TsTypeAssertion → TsTypeAssertion-expr t ≡ never_in_parens → IsLeavable t
      -- `Object.freeze(x)`
      frozen : {t : Tree} → kind_of t ≡ CallExpr → is_global_member (codes "Object")
          (codes "freeze") bindings.unresolved (CallExpr-callee t) ≡ true →
          IsLeavable (CallExpr-args t) → IsLeavable t
      -- `new C(x)` of a class C without type parameters
      made : {t : Tree} → is_made bindings t ≡ true → IsLeavable (NewExpr-args t) → IsLeavable t
      function : {t : Tree} → kind_of t ≡ FnExpr → IsTypedFunction (FnExpr-function t) → IsLeavable t
      -- an arrow of a written return type
      typed_arrow : {t : Tree} → kind_of t ≡ ArrowExpr → AllTypedPats (parts (ArrowExpr-params t)) →
          ArrowExpr-is_async t ≡ false →
          is_absent (ArrowExpr-return_type t) ≡ false → ArrowExpr-body t ≡ arrow_body (ArrowExpr-return_type t) →
          IsLeavable t
      -- an arrow whose value gives its type
      valued_arrow : {t : Tree} → kind_of t ≡ ArrowExpr → AllTypedPats (parts (ArrowExpr-params t)) →
          IsLeavable (ArrowExpr-body t) → IsLeavable t

    pub data AllLeavable : List Tree → Type 0 where
      none_leavable : AllLeavable []
      next_leavable : {t : Tree} {ts : List Tree} → IsLeavable t → AllLeavable ts → AllLeavable (t ∷ ts)

    -- a function without a body, or with a written return type and the body of one that has no decorators and is
    -- neither async nor a generator
    pub data IsTypedFunction : Tree → Type 0 where
      typed_function : {t : Tree} → kind_of t ≡ Function → Function-decorators t ≡ list [] →
          Function-is_async t ≡ false → Function-is_generator t ≡ false →
          ((is_absent (Function-body t) ≡ true) ⊎
          ((is_absent (Function-return_type t) ≡ false) ×
          (Function-body t ≡ function_body (Function-return_type t)))) →
          AllTypedParams (parts (Function-params t)) → IsTypedFunction t

    pub data AllTypedParams : List Tree → Type 0 where
      no_params : AllTypedParams []
      next_param : {t : Tree} {ts : List Tree} → kind_of t ≡ Param → Param-decorators t ≡ list [] →
          IsTypedPat (Param-pat t) → AllTypedParams ts →
          AllTypedParams (t ∷ ts)

    pub data AllTypedPats : List Tree → Type 0 where
      no_pats : AllTypedPats []
      next_pat : {t : Tree} {ts : List Tree} → IsTypedPat t → AllTypedPats ts → AllTypedPats (t ∷ ts)

    -- a parameter with a written type, or with a default that gives it
    pub data IsTypedPat : Tree → Type 0 where
      ident : {t : Tree} → kind_of t ≡ BindingIdent → is_absent (BindingIdent-type_ann t) ≡ false → IsTypedPat t
      array : {t : Tree} → IsEmptiedArray t → is_absent (ArrayPat-type_ann t) ≡ false → IsTypedPat t
      object : {t : Tree} → IsEmptiedObject t → is_absent (ObjectPat-type_ann t) ≡ false → IsTypedPat t
      -- what it is gathered in is emptied
      rest : {t : Tree} → kind_of t ≡ RestPat → RestPat-arg t ≡ rest_arg (RestPat-arg t) →
          is_absent (RestPat-type_ann t) ≡ false → IsTypedPat t
      ident_default : {t : Tree} → kind_of t ≡ AssignPat → kind_of (AssignPat-left t) ≡ BindingIdent →
          IsLeavable (AssignPat-right t) → IsTypedPat t
      array_default : {t : Tree} → kind_of t ≡ AssignPat → IsEmptiedArray (AssignPat-left t) →
          IsLeavable (AssignPat-right t) → IsTypedPat t
      object_default : {t : Tree} → kind_of t ≡ AssignPat → IsEmptiedObject (AssignPat-left t) →
          IsLeavable (AssignPat-right t) → IsTypedPat t
      -- behind a written type, `never` stands for the default
      array_never : {t : Tree} → kind_of t ≡ AssignPat → IsEmptiedArray (AssignPat-left t) →
          is_absent (ArrayPat-type_ann (AssignPat-left t)) ≡ false →
          AssignPat-right t ≡ never_array → IsTypedPat t
      object_never : {t : Tree} → kind_of t ≡ AssignPat → IsEmptiedObject (AssignPat-left t) →
          is_absent (ObjectPat-type_ann (AssignPat-left t)) ≡ false →
          AssignPat-right t ≡ never_value → IsTypedPat t
