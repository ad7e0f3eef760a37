-- Inner: no contract of a public call cites what stands here.
-- The parts of classes: what is answered to properties and accessors, and the nodes of members.
use Rattle.std.specs.Prelude.{Bool, false, Option, Some, None, List, [], ◌∷◌, map}
use Rattle.std.specs.List.{filter}
use Rattle.fast_check_tree_syntax.specs.declared.source.SourceRange.{SourceRange}
use Rattle.fast_check_tree_syntax.specs.declared.source.SyntaxContext.{SyntaxContext}
use Rattle.fast_check_tree_syntax.specs.declared.tree.Tree.{Tree}
use Rattle.fast_check_tree_syntax.specs.Shape.{list}
use Rattle.fast_check_tree_forms_classes.specs.Classes.{Constructor-span, Constructor-ctxt, Constructor-key, Constructor-body}
use Rattle.fast_check_tree_forms_classes.specs.Classes.{Constructor-accessibility, Constructor-is_optional, constructor}
use Rattle.fast_check_tree_forms_classes.specs.Fields.{ClassProp-key, ClassProp-value}
use Rattle.fast_check_tree_forms_classes.specs.Methods.{ClassMethod-span, ClassMethod-key, ClassMethod-kind}
use Rattle.fast_check_tree_forms_classes.specs.Methods.{ClassMethod-is_static, ClassMethod-accessibility}
use Rattle.fast_check_tree_forms_classes.specs.Methods.{ClassMethod-is_abstract, ClassMethod-is_optional}
use Rattle.fast_check_tree_forms_classes.specs.Methods.{ClassMethod-is_override, class_method}
use Rattle.fast_check_tree_helpers.specs.ranges.Ranges.{range_of_node}
use Rattle.fast_check_meaning_signatures.specs.declared.fault.FaultKind.TheVariants.{MissingExplicitType}
use Rattle.fast_check_meaning_signatures.specs.Answers.{Answer, fault_at, demanded, answer_to, answer_of}
use Rattle.fast_check_meaning_signatures.specs.Bindings.{Bindings}
use Rattle.fast_check_meaning_signatures.specs.Classes as classes

-- no implementations are asked of properties and accessors
abbrev pub no_implementations : SourceRange → Bool
no_implementations place = false

-- to the value of a property, which is to give its type
unfoldable pub value_answer : Bindings → Tree → Answer Tree
value_answer bindings m =
    let place = range_of_node (ClassProp-key m) in
    demanded (fault_at MissingExplicitType place)
    (answer_to (classes.member_value_seen bindings no_implementations place (ClassProp-value m)))

-- to a property
unfoldable pub property_answer : Bindings → Tree → Answer (Option Tree)
property_answer bindings m = answer_to (classes.property_seen bindings no_implementations m)

-- to an accessor
unfoldable pub accessor_answer : Bindings → Tree → Answer (Option Tree)
accessor_answer bindings m = answer_to (classes.accessor_seen bindings no_implementations m)

-- ---- constructors

-- the place of the first of some patterns
abbrev pub first_of : List Tree → Option SourceRange
first_of [] = None
first_of (p ∷ ps) = Some (range_of_node (classes.param_target p))

-- that of the first parameter property that takes its value apart
abbrev pub first_pattern : List Tree → Option SourceRange
first_pattern params = first_of (classes.patterns_among (filter (λ p. classes.is_param_property p) params))

-- a constructor of these parameters
abbrev pub signed_constructor : Tree → List Tree → Tree
signed_constructor m params =
    constructor (Constructor-span m) (Constructor-ctxt m) (Constructor-key m) (list params)
    (classes.constructor_body (Constructor-body m))
    (Constructor-accessibility m) (Constructor-is_optional m)

-- ---- methods

-- a method of this function
abbrev pub signed_method : Tree → Tree → Tree
signed_method m function =
    class_method (ClassMethod-span m) (ClassMethod-key m) function (ClassMethod-kind m) (ClassMethod-is_static m)
    (ClassMethod-accessibility m)
    (ClassMethod-is_abstract m) (ClassMethod-is_optional m) (ClassMethod-is_override m)

-- ---- members

-- the properties that parameters declare
abbrev pub declared_params : SyntaxContext → List Tree → List Tree
declared_params unresolved params =
    map (λ p. classes.param_property unresolved p) (filter (λ p. classes.is_param_property p) params)

-- to members that stay
abbrev pub kept_answer : Bindings → (SourceRange → Bool) → List Tree → Answer (List Tree)
kept_answer bindings is_implementation ms = answer_of (map (λ m. classes.member_seen bindings is_implementation m) ms)
