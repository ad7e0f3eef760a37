-- When two assignments that are statements agree.
use Rattle.std.specs.Prelude.{◌≡◌, ℕ, true, false, List, map}
use Rattle.fast_check_tree_syntax.specs.declared.kind.Kind.TheVariants.{ExprStmt, AssignExpr}
use Rattle.fast_check_tree_syntax.specs.declared.tree.Tree.{Tree}
use Rattle.fast_check_tree_syntax.specs.Moves.{Renaming}
use Rattle.fast_check_tree_syntax.specs.Same.{SameTree, SameRange}
use Rattle.fast_check_tree_forms_expressions.specs.Operators.{AssignExpr-span, AssignExpr-left, AssignExpr-right}
use Rattle.fast_check_tree_helpers.specs.ranges.Ranges.{range_of_node}
use Rattle.fast_check_tree_forms_statements.specs.Statements.{ExprStmt-expr}
use Rattle.fast_check_meaning_skeleton.specs.SameValues.{Both, SameExpr}
use Rattle.fast_check_tables_modules.specs.Expandos.{is_expando_assignment}
use Rattle.fast_check_meaning_expandos.specs.Assignments.{is_declared, mentioned_by}
use Rattle.fast_check_meaning_expandos.specs.Expandos.{object_of}
use Rattle.fast_check_meaning_skeleton.specs.ModuleFacts.{ModuleFacts}

module _ (r : Renaming) (a b : ModuleFacts) where
  -- what is known of the objects of two targets, as `f` in `f.a`: both export the property or neither does, and both
  -- stand behind the keyword `export` or neither does
  pub record SameObject (t u : Tree) : Type 0 where
    pub is_declared : is_declared a.objects t ≡ is_declared b.objects u
    pub has_export_keyword : a.objects.has_export_keyword (object_of t) ≡ b.objects.has_export_keyword (object_of u)

  -- of these names both objects export the same
  abbrev pub SameExported : List (List ℕ) → Tree → Tree → Type 0
  SameExported names t u = map (a.objects.exports (object_of t)) names ≡ map (b.objects.exports (object_of u)) names

  -- two assignments of expando form, as `f.a = value`. Of the names that their objects export those count that the
  -- value, as it stays, mentions in the scope of its object.
  pub record SameExpando (t u : Tree) : Type 0 where
    pub forms : (is_expando_assignment t ≡ true) × (is_expando_assignment u ≡ true)
    pub span : SameRange r (AssignExpr-span t) (AssignExpr-span u)
    pub target : SameTree r (AssignExpr-left t) (AssignExpr-left u)
    pub object : SameObject (AssignExpr-left t) (AssignExpr-left u)
    pub exported : SameExported (mentioned_by a.bindings t) (AssignExpr-left t) (AssignExpr-left u)

  pub data SameForm (t u : Tree) : Type 0 where
    expando : SameExpando t u → SameForm t u
    -- of another form, whatever their operators and targets
    other : is_expando_assignment t ≡ false → is_expando_assignment u ≡ false → SameForm t u

  -- two assignments, with right sides that agree, at places that agree
  pub record SameAssignment (t u : Tree) : Type 0 where
    pub kinds : Both AssignExpr t u
    pub is_public : a.is_public (AssignExpr-span t) ≡ b.is_public (AssignExpr-span u)
    pub form : SameForm t u
    pub right : SameExpr r a.bindings b.bindings (AssignExpr-right t) (AssignExpr-right u)
    pub right_range : SameRange r (range_of_node (AssignExpr-right t)) (range_of_node (AssignExpr-right u))

  -- two statements of them
  pub record SameAssigned (t u : Tree) : Type 0 where
    pub kinds : Both ExprStmt t u
    pub range : SameRange r (range_of_node t) (range_of_node u)
    pub assignments : SameAssignment (ExprStmt-expr t) (ExprStmt-expr u)
