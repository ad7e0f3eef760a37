-- What stays of an expression that is there is there too.
use Rattle.std.specs.Prelude.{◌≡◌, false, Option, Some, None, List, IfSome, map, option_map}
use Rattle.std.proofs.Common.{sym, subst}
use Rattle.fast_check_tree_syntax.specs.declared.kind.Kind.{Kind}
use Rattle.fast_check_tree_syntax.specs.declared.kind.Kind.TheVariants as kinds
use Rattle.fast_check_tree_syntax.specs.declared.source.SourceRange.{SourceRange}
use Rattle.fast_check_tree_syntax.specs.declared.tree.Tree.{Tree}
use Rattle.fast_check_tree_syntax.specs.Shape.{◌is◌, kind_of, parts, is_absent, node}
use Rattle.fast_check_tree_syntax.proofs.Made.{is_absent_node}
use Rattle.fast_check_tree_forms_expressions.specs.Expressions.{ArrowExpr-body, ArrowExpr-return_type, ArrowExpr-params, ArrowExpr-span}
use Rattle.fast_check_tree_helpers.specs.declared.literal_type.DeclMutabilityKind.TheVariants.{Mutable}
use Rattle.fast_check_tree_helpers.specs.InferredType.{inferred_type}
use Rattle.fast_check_meaning_signatures.specs.Bindings.{Bindings}
use Rattle.fast_check_meaning_signatures.specs.Seen.{Seen, seens}
use Rattle.fast_check_meaning_signatures.specs.Answers.{answer_to, parts_answer}
use Rattle.fast_check_meaning_signatures.specs.Parameters.{Look, pats_seen}
use Rattle.fast_check_meaning_signatures.specs.Functions.{or_own, by_value, arrow_by_type}
use Rattle.fast_check_meaning_signatures.specs.Expressions.{Rule, whole, parted, slotted, arrow, not_at_all, expr_rule, slots_seen, by_rule}
use Rattle.fast_check_meaning_signatures.specs.Expressions.{expr_seen}
use Rattle.fast_check_meaning_signatures.proofs.Choices.{of_choice}
use Rattle.fast_check_meaning_signatures.proofs.Looks.{expr_seen_is}

-- the tree that stays is there
abbrev There : Seen → Type 0
There s = IfSome (answer_to s).stays (λ u. is_absent u ≡ false)

round_there : (kind : Kind) (o : Option (List Tree)) → IfSome (option_map (node kind) o) (λ u. is_absent u ≡ false)
round_there kind None = tt
round_there kind (Some ts) = is_absent_node kind ts

module _ (bindings : Bindings) (look : Look) (t : Tree) (there : is_absent t ≡ false) (place : Option SourceRange) where
  by_value_there : (pats : List Seen) (own : SourceRange) (o : Option Tree) → There (by_value bindings look t own pats o)
  by_value_there pats own (Some type) = is_absent_node kinds.ArrowExpr _
  by_value_there pats own None = is_absent_node kinds.ArrowExpr _

  arrow_there : (pats : List Seen) (own : SourceRange) → There (arrow_by_type bindings look t own pats)
  arrow_there pats own =
      of_choice There (is_absent (ArrowExpr-return_type t)) _ _
      (λ e. of_choice There (kind_of (ArrowExpr-body t) is kinds.BlockStmt) _ _ (λ f. is_absent_node kinds.ArrowExpr _)
      (λ f. by_value_there pats own (inferred_type Mutable bindings.unresolved (ArrowExpr-body t))))
      (λ e. is_absent_node kinds.ArrowExpr _)

  rule_there : (r : Rule) (kind : Kind) → There (by_rule bindings r kind t look place)
  rule_there whole kind = there
  rule_there parted kind = round_there kind (parts_answer (seens (map (λ p. look p None) (parts t)))).stays
  rule_there (slotted row) kind = round_there kind (parts_answer (seens (slots_seen bindings row 0 t look place))).stays
  rule_there arrow kind = arrow_there (pats_seen bindings look (parts (ArrowExpr-params t))) (or_own place (ArrowExpr-span t))
  rule_there not_at_all kind = tt

pub stays_there : (bindings : Bindings) (t : Tree) (place : Option SourceRange) → is_absent t ≡ false → There (expr_seen bindings t place)
stays_there bindings t place n =
    subst There (sym (expr_seen_is bindings t place))
    (rule_there bindings (expr_seen bindings) t n place (expr_rule bindings t) (kind_of t))
