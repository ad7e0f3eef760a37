-- Inner: no contract of a public call cites what stands here.
-- Lists of parameters, and the return type of an arrow where it is known.
use Rattle.std.specs.Prelude.{◌≡◌, ℕ, ◌<◌, ◌^◌, drop, length, Option, Some, None, List, map, option_map, if◌then◌else◌}
use Rattle.std.specs.List.{list_all}
use Rattle.fast_check_tree_syntax.specs.declared.kind.Kind.TheVariants.{BlockStmt}
use Rattle.fast_check_tree_syntax.specs.declared.source.SourceRange.{SourceRange}
use Rattle.fast_check_tree_syntax.specs.declared.source.SyntaxContext.{SyntaxContext}
use Rattle.fast_check_tree_syntax.specs.declared.tree.Tree.{Tree}
use Rattle.fast_check_tree_syntax.specs.Shape.{◌is◌, kind_of, is_absent}
use Rattle.fast_check_tree_forms_classes.specs.Functions.{Param-pat}
use Rattle.fast_check_tree_forms_expressions.specs.Expressions.{ArrowExpr-body, ArrowExpr-is_async, ArrowExpr-is_generator}
use Rattle.fast_check_tree_forms_expressions.specs.Expressions.{ArrowExpr-return_type}
use Rattle.fast_check_tree_helpers.specs.declared.literal_type.DeclMutabilityKind.TheVariants.{Mutable}
use Rattle.fast_check_tree_helpers.specs.Builders.{type_ann}
use Rattle.fast_check_tree_helpers.specs.InferredType.{inferred_type}
use Rattle.fast_check_tree_helpers.specs.OptionalParams.{is_optional_param, is_from}
use Rattle.fast_check_meaning_signatures.specs.declared.function_kind.FunctionKind.TheVariants.{ExpressionLike}
use Rattle.fast_check_meaning_signatures.specs.Bindings.{Bindings}
use Rattle.fast_check_meaning_signatures.specs.Seen.{Seen, written}
use Rattle.fast_check_meaning_signatures.specs.NewNodes.{promised}
use Rattle.fast_check_meaning_signatures.specs.Parameters.{pats_seen}
use Rattle.fast_check_meaning_signatures.specs.Functions.{body_seen, params_seen}
use Rattle.fast_check_meaning_signatures.specs.Expressions.{expr_seen}
use Rattle.fast_check_meaning_signatures.specs.Answers.{Answer, answer_to, faultless, made, settled}

-- the patterns of parameters
abbrev pub patterns : List Tree → List Tree
patterns params = map (λ p. Param-pat p) params

-- a start says of the place of each parameter whether all from there on may be left out
abbrev pub IsStartOfParams : Option ℕ → List Tree → Type 0
IsStartOfParams start params = (place : ℕ) → place < 2 ^ 64 → place < length params →
    is_from start place ≡ list_all is_optional_param (patterns (drop place params))

-- what is seen of the parameters of a function
abbrev pub params_looked : Bindings → List Tree → List Seen
params_looked bindings params = params_seen params (pats_seen bindings (expr_seen bindings) (patterns params))

-- the return type of an arrow where it is known: written, or shown by its body; none where its value is to give it
abbrev pub known_type : SyntaxContext → SourceRange → Tree → Option Seen
known_type unresolved place t =
    let body = ArrowExpr-body t in
    if is_absent (ArrowExpr-return_type t) then
    (if kind_of body is BlockStmt then Some
    (body_seen unresolved ExpressionLike (ArrowExpr-is_async t) (ArrowExpr-is_generator t) place body)
    else option_map (λ type. written (type_ann (promised unresolved (ArrowExpr-is_async t) type)))
    (inferred_type Mutable unresolved body))
    else Some (written (ArrowExpr-return_type t))

abbrev pub known_answer : Option Seen → Answer (Option Tree)
known_answer (Some type) = made Some (settled (answer_to type))
known_answer None = faultless None
