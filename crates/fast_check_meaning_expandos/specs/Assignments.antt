-- Assignments that are statements. None stays: its right side is tested where it is public, and one of expando form,
-- `object.name = value`, declares a property.
use Rattle.std.specs.Prelude.{ℕ, Bool, not, ◌&&◌, Option, Some, None, List, [], ◌∷◌, if◌then◌else◌}
use Rattle.fast_check_tree_syntax.specs.declared.source.SourceRange.{SourceRange}
use Rattle.fast_check_tree_syntax.specs.declared.source.SyntaxContext.{SyntaxContext}
use Rattle.fast_check_tree_syntax.specs.declared.tree.Tree.{Tree}
use Rattle.fast_check_tree_syntax.specs.Shape.{is_absent}
use Rattle.fast_check_tree_forms_expressions.specs.Calls.{MemberExpr-span}
use Rattle.fast_check_tree_forms_expressions.specs.Operators.{AssignExpr-span, AssignExpr-left, AssignExpr-right}
use Rattle.fast_check_tree_helpers.specs.ranges.Ranges.{range_of_node}
use Rattle.fast_check_tables_modules.specs.Expandos.{is_expando_assignment}
use Rattle.fast_check_meaning_signatures.specs.Answers.{answer_to}
use Rattle.fast_check_meaning_signatures.specs.Bindings.{Bindings}
use Rattle.fast_check_meaning_signatures.specs.Expressions.{expr_seen}
use Rattle.fast_check_meaning_signatures.specs.Seen.{Seen, tested, refused}
use Rattle.fast_check_meaning_expandos.specs.declared.properties.ExpandoProperty.{ExpandoProperty}
use Rattle.fast_check_meaning_expandos.specs.Expandos.{object_of, property_name, property_of}
use Rattle.fast_check_meaning_expandos.specs.Objects.{Objects}
use Rattle.fast_check_meaning_expandos.specs.References.{mentioned}

-- the right side, if there is one; what is wrong inside of it stands at its place
abbrev pub right_seen : Bindings → Tree → Seen
right_seen bindings assignment =
    if is_absent (AssignExpr-right assignment) then refused
    else expr_seen bindings (AssignExpr-right assignment) (Some (range_of_node (AssignExpr-right assignment)))

-- a property of the target that its object exports is declared elsewhere
abbrev pub is_declared : Objects → Tree → Bool
is_declared objects target = objects.exports (object_of target) (property_name target)

-- where the type is missing if the right side may not stay: at the target of an expando that is not declared elsewhere
abbrev pub missing_place : Objects → Tree → Option SourceRange
missing_place objects assignment =
    if is_expando_assignment assignment && not (is_declared objects (AssignExpr-left assignment)) then Some
    (MemberExpr-span (AssignExpr-left assignment))
    else None

-- an assignment, which is public by its own range, and not by that of its statement
abbrev pub assignment_seen : (SourceRange → Bool) → Bindings → Objects → Tree → List Seen
assignment_seen is_public bindings objects assignment =
    if is_public (AssignExpr-span assignment) then tested (missing_place objects assignment)
    (right_seen bindings assignment) ∷ [] else []

-- the property of a value that stays
abbrev pub kept_property : Objects → SourceRange → Tree → Option Tree → List ExpandoProperty
kept_property objects place target None = []
kept_property objects place target (Some value) =
    property_of (objects.exports (object_of target))
    (objects.has_export_keyword (object_of target)) place target value ∷ []

-- what an assignment declares: of expando form, a property if the right side may stay
abbrev pub declared_properties : (SourceRange → Bool) → Bindings → Objects → Tree → List ExpandoProperty
declared_properties is_public bindings objects assignment =
    if is_public (AssignExpr-span assignment) && is_expando_assignment assignment then
    kept_property objects (AssignExpr-span assignment) (AssignExpr-left assignment)
    (answer_to (right_seen bindings assignment)).stays
    else []

-- the names that the right side mentions, as it stays, in the scope of the object of the target
abbrev pub mentioned_in : SyntaxContext → Option Tree → List (List ℕ)
mentioned_in scope None = []
mentioned_in scope (Some value) = mentioned scope value

abbrev pub mentioned_by : Bindings → Tree → List (List ℕ)
mentioned_by bindings assignment =
    mentioned_in (object_of (AssignExpr-left assignment)).1 (answer_to (right_seen bindings assignment)).stays
