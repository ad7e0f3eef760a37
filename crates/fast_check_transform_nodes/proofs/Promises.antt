-- Whether a type is a promise, test by test.
use Rattle.std.specs.Prelude.{◌≡◌, Bool, true, false, ◌&&◌, codes}
use Rattle.std.proofs.Common.{ap, sym}
use Rattle.fast_check_tree_syntax.specs.declared.kind.Kind.TheVariants.{TsTypeRef}
use Rattle.fast_check_tree_syntax.specs.declared.source.SyntaxContext.{SyntaxContext}
use Rattle.fast_check_tree_syntax.specs.declared.tree.Tree.{Tree}
use Rattle.fast_check_tree_syntax.specs.Shape.{◌is◌, kind_of, parts}
use Rattle.fast_check_tree_forms_types.specs.Types.{TsTypeRef-type_name, TsTypeRef-type_params}
use Rattle.fast_check_tree_forms_types.specs.TypeParams.{TsTypeParamInstantiation-params}
use Rattle.fast_check_tree_helpers.specs.GlobalCalls.{is_global}
use Rattle.fast_check_meaning_signatures.specs.NewNodes.{is_one, is_promise}

module _ (u : SyntaxContext) (t : Tree) where
  abbrev pub has_one : Bool
  has_one = is_one (parts (TsTypeParamInstantiation-params (TsTypeRef-type_params t)))

  abbrev promise_if : Bool → Bool → Bool
  promise_if reference global = reference && (global && has_one)

  pub no_reference : kind_of t is TsTypeRef ≡ false → false ≡ is_promise u t
  no_reference e = sym (ap (λ b. promise_if b (is_global (codes "Promise") u (TsTypeRef-type_name t))) e)

  pub not_global : kind_of t is TsTypeRef ≡ true → is_global (codes "Promise") u (TsTypeRef-type_name t) ≡ false → false ≡ is_promise u t
  not_global e g = sym (λ i. promise_if (e i) (g i))

  pub by_arguments : kind_of t is TsTypeRef ≡ true → is_global (codes "Promise") u (TsTypeRef-type_name t) ≡ true → has_one ≡ is_promise u t
  by_arguments e g = sym (λ i. promise_if (e i) (g i))
