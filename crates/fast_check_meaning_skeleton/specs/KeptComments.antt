-- Which comments stay with a skeleton: directives for the type checker and documentation, but for those before an item
-- that goes, and before a member that goes of a class that stays and is not ambient. The items of a namespace that
-- stays are looked at as those of a module.
use Rattle.std.specs.Prelude.{not, ◌&&◌, List, [], ◌∷◌, ◌++◌, map, if◌then◌else◌}
use Rattle.std.specs.List.{flat_map}
use Rattle.fast_check_tree_syntax.specs.declared.source.SourcePos.{SourcePos}
use Rattle.fast_check_tree_syntax.specs.declared.source.SourceRange.{SourceRange}
use Rattle.fast_check_tree_syntax.specs.declared.tree.Tree.{Tree}
use Rattle.fast_check_tree_syntax.specs.Shape.{parts}
use Rattle.fast_check_tree_syntax.specs.Descent.{by_descent}
use Rattle.fast_check_tree_comments.specs.declared.comments.Comments.{Comments}
use Rattle.fast_check_tree_comments.specs.Kept.{kept, without_leading}
use Rattle.fast_check_tree_helpers.specs.ranges.Ranges.{range_of_node}
use Rattle.fast_check_tree_forms_classes.specs.Classes.{Class-body}
use Rattle.fast_check_tree_forms_expressions.specs.Expressions.{ClassExpr-class}
use Rattle.fast_check_tree_forms_expressions.specs.Operators.{AssignExpr-span}
use Rattle.fast_check_tree_forms_statements.specs.Statements.{ExprStmt-expr}
use Rattle.fast_check_tree_forms_programs.specs.ModuleDecls.{ExportDecl-span, ExportDecl-decl, ExportDefaultDecl-span}
use Rattle.fast_check_tree_forms_programs.specs.ModuleDecls.{ExportDefaultDecl-decl}
use Rattle.fast_check_tree_forms_statements.specs.Declarations.{ClassDecl-class}
use Rattle.fast_check_meaning_signatures.specs.Members.{removed_members}
use Rattle.fast_check_meaning_signatures.specs.Seen.{Seen}
use Rattle.fast_check_meaning_skeleton.specs.Namespaces.{is_namespace, items_inside}
use Rattle.fast_check_meaning_skeleton.specs.ModuleFacts.{ModuleFacts, inside}
use Rattle.fast_check_meaning_skeleton.specs.declared.rules.DeclRule.{DeclRule}
use Rattle.fast_check_meaning_skeleton.specs.declared.rules.DeclRule.TheVariants.{Class, Namespace}
use Rattle.fast_check_meaning_skeleton.specs.declared.rules.ItemRule.{ItemRule}
use Rattle.fast_check_meaning_skeleton.specs.declared.rules.ItemRule.TheVariants.{Declared, Exported, Default, Assigned}
use Rattle.fast_check_meaning_skeleton.specs.declared.rules.DefaultRule.{DefaultRule}
use Rattle.fast_check_meaning_skeleton.specs.declared.rules.DefaultRule.TheVariants as defaults
use Rattle.fast_check_meaning_skeleton.specs.Rules.{item_rule}
use Rattle.fast_check_meaning_skeleton.specs.Visible.{is_ambient_class, item_seen, items_of}

-- the start of an item, if nothing of it is seen
abbrev pub start_of_unseen : Tree → List Seen → List SourcePos
start_of_unseen item [] = (range_of_node item).start ∷ []
start_of_unseen item (_ ∷ _) = []

-- the starts of the members of a class that go
abbrev pub starts_of_removed : Tree → List SourcePos
starts_of_removed class = map (λ m. (range_of_node m).start) (removed_members (parts (Class-body class)))

-- of those of a class declaration, which is public by `place`: none where it goes itself, or is ambient
abbrev pub starts_in_class : ModuleFacts → SourceRange → Tree → List SourcePos
starts_in_class facts place decl =
    if facts.is_public place && not (is_ambient_class facts decl) then
    starts_of_removed (ClassDecl-class decl)
    else []

-- the starts of what goes inside of a declaration that stays, by what is done with it
abbrev pub starts_in_decl : ModuleFacts → SourceRange → Tree → DeclRule → List SourcePos
starts_in_decl facts place decl Class = starts_in_class facts place decl
starts_in_decl facts place decl _ = []

-- of those of a class that is exported by default, which is never ambient: none where it goes itself
abbrev pub starts_in_default : ModuleFacts → Tree → DefaultRule → List SourcePos
starts_in_default facts item defaults.Class =
    if facts.is_public (ExportDefaultDecl-span item) then
    starts_of_removed (ClassExpr-class (ExportDefaultDecl-decl item))
    else []
starts_in_default facts item _ = []

-- the start of an assignment that is tested: nothing stays of it
abbrev pub start_of_tested : ModuleFacts → Tree → Tree → List SourcePos
start_of_tested facts item assignment = if facts.is_public (AssignExpr-span assignment) then
    (range_of_node item).start ∷ [] else []

-- inside of an item
abbrev pub starts_inside : ModuleFacts → Tree → ItemRule → List SourcePos
starts_inside facts item (Declared rule) = starts_in_decl facts (range_of_node item) item rule
starts_inside facts item (Exported rule) = starts_in_decl facts (ExportDecl-span item) (ExportDecl-decl item) rule
starts_inside facts item (Default rule) = starts_in_default facts item rule
starts_inside facts item Assigned = start_of_tested facts item (ExprStmt-expr item)
starts_inside facts item _ = []

-- what goes of a lower item inside of an item, by facts
abbrev pub StartLook : Type 0
StartLook = Tree → ModuleFacts → List SourcePos

-- what goes of the items of a namespace, which is public by `place`
abbrev pub starts_in_namespace : StartLook → ModuleFacts → SourceRange → Tree → List SourcePos
starts_in_namespace look facts place decl =
    if is_namespace decl && facts.is_public place then flat_map (λ item. look item (inside facts decl))
    (items_inside decl) else []

abbrev pub starts_in_body : StartLook → ModuleFacts → SourceRange → Tree → DeclRule → List SourcePos
starts_in_body look facts place decl Namespace = starts_in_namespace look facts place decl
starts_in_body look facts place decl _ = []

abbrev pub starts_below : StartLook → ModuleFacts → Tree → ItemRule → List SourcePos
starts_below look facts item (Declared rule) = starts_in_body look facts (range_of_node item) item rule
starts_below look facts item (Exported rule) = starts_in_body look facts (ExportDecl-span item)
    (ExportDecl-decl item) rule
starts_below look facts item _ = []

-- of an item: what goes of the items of a namespace, the start of the item itself if it goes, and those of the members
-- of a class
abbrev pub start_form : Tree → StartLook → ModuleFacts → List SourcePos
start_form item look facts =
    starts_below look facts item
    (item_rule item) ++ (start_of_unseen item (item_seen facts item) ++ starts_inside facts item (item_rule item))

unfoldable pub start_look : StartLook
start_look = by_descent (λ facts. []) start_form

-- the starts of what goes of an item
abbrev pub removed_start : ModuleFacts → Tree → List SourcePos
removed_start facts item = start_look item facts

-- and of the items of a body
abbrev pub removed_from : ModuleFacts → List Tree → List SourcePos
removed_from facts items = flat_map (λ item. start_look item facts) items

-- the starts of all that goes of a module
abbrev pub removed_starts : ModuleFacts → Tree → List SourcePos
removed_starts facts program = removed_from facts (items_of program)

-- the comments without those before the tokens at some positions
abbrev pub without_all_leading : List SourcePos → Comments → Comments
without_all_leading [] comments = comments
without_all_leading (start ∷ starts) comments = without_all_leading starts (without_leading start comments)

-- the comments that stay of a module
abbrev pub kept_comments : ModuleFacts → Tree → Comments → Comments
kept_comments facts program comments = without_all_leading (removed_starts facts program) (kept comments)
