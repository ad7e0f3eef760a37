-- What becomes of what is seen: what stays of it, and the faults, by cases on what is seen. Nothing is asked outside,
-- and nothing that is hidden is there to be read.
use Rattle.std.specs.Prelude.{◌≡◌, Bool, true, false, Option, Some, None, List, [], ◌∷◌, ◌++◌, is_some, unwrap_or}
use Rattle.std.specs.Prelude.{option_map, if◌then◌else◌}
use Rattle.fast_check_tree_syntax.specs.declared.kind.Kind.{Kind}
use Rattle.fast_check_tree_syntax.specs.declared.source.SourceRange.{SourceRange}
use Rattle.fast_check_tree_syntax.specs.declared.tree.Tree.{Tree, Absent}
use Rattle.fast_check_tree_syntax.specs.Shape.{node, list}
use Rattle.fast_check_tree_forms_classes.specs.Classes.{class as class_node}
use Rattle.fast_check_tree_forms_classes.specs.Fields.{class_prop}
use Rattle.fast_check_tree_forms_classes.specs.Functions.{function as function_node}
use Rattle.fast_check_tree_forms_expressions.specs.Expressions.{arrow_expr}
use Rattle.fast_check_tree_forms_expressions.specs.Patterns.{assign_pat}
use Rattle.fast_check_tree_forms_programs.specs.ModuleDecls.{export_default_expr}
use Rattle.fast_check_tree_forms_programs.specs.Names.{Ident-span, binding_ident}
use Rattle.fast_check_tree_helpers.specs.ranges.Ranges.{range_of_node}
use Rattle.fast_check_tree_forms_statements.specs.Declarations.{var_declarator}
use Rattle.fast_check_meaning_signatures.specs.declared.fault.Fault.{Fault}
use Rattle.fast_check_meaning_signatures.specs.declared.fault.FaultKind.{FaultKind}
use Rattle.fast_check_meaning_signatures.specs.declared.fault.FaultKind.TheVariants.{MissingExplicitType}
use Rattle.fast_check_meaning_signatures.specs.declared.fault.FaultKind.TheVariants.{UnsupportedDefaultExportExpr}
use Rattle.fast_check_meaning_signatures.specs.NewNodes.{function_body, arrow_body}
use Rattle.fast_check_meaning_signatures.specs.Functions.{return_type_missing}
use Rattle.fast_check_meaning_signatures.specs.Seen.{DeclaratorHead, DefaultHead, FunctionHead, ArrowHead, ClassHead}
use Rattle.fast_check_meaning_signatures.specs.Seen.{PropertyHead, Seen, written, round, listed, declarator, default, function}
use Rattle.fast_check_meaning_signatures.specs.Seen.{typed_arrow, valued_arrow, class, property, default_export, tested, faulty}
use Rattle.fast_check_meaning_signatures.specs.Seen.{refused, Seens, end, also, seens}

-- ---- answers

-- What stays, and the faults in reading order. Of an expression an optional tree stays, none where it may not; of what
-- always stays a tree.
pub record Answer (A : Type 0) : Type 0 where
  pub stays : A
  pub faults : List Fault

-- What a call gives stays, and with the faults that it adds behind the old ones it is the answer.
pub record Adds {A : Type 0} (answer : Answer A) (given : A) (old new : List Fault) : Type 0 where
  pub added : List Fault
  pub is : answer ≡ record { stays = given; faults = added }
  pub faults : new ≡ old ++ added

abbrev pub fault_at : FaultKind → SourceRange → Fault
fault_at kind place = record { kind = kind; range = place }

-- what stays as it is, with nothing wrong
abbrev pub faultless : {A : Type 0} → A → Answer A
faultless given = record { stays = given; faults = [] }

-- what is made of an answer, with its faults
abbrev pub made : {A B : Type 0} → (A → B) → Answer A → Answer B
made f a = record { stays = f a.stays; faults = a.faults }

-- what is made of two answers in reading order
abbrev pub joined : {A B C : Type 0} → (A → B → C) → Answer A → Answer B → Answer C
joined f a b = record { stays = f a.stays b.stays; faults = a.faults ++ b.faults }

-- the tree of what always stays, or an empty option
abbrev pub settled : Answer (Option Tree) → Answer Tree
settled = made (λ o. unwrap_or o Absent)

-- what is wrong besides where that may not stay which has to
abbrev pub unless_stays : Option Tree → Fault → List Fault
unless_stays o fault = if is_some o then [] else fault ∷ []

-- the tree of what has to stay, or an empty option, and this fault
abbrev pub demanded : Fault → Answer (Option Tree) → Answer Tree
demanded fault a = record { stays = unwrap_or a.stays Absent; faults = a.faults ++ unless_stays a.stays fault }

-- a part before others, which are visited only where it may stay
abbrev pub before : Option Tree → List Fault → Answer (Option (List Tree)) → Answer (Option (List Tree))
before None faults rest = record { stays = None; faults = faults }
before (Some t) faults rest = record { stays = option_map (λ ts. t ∷ ts) rest.stays; faults = faults ++ rest.faults }

abbrev pub visited : Answer (Option Tree) → Answer (Option (List Tree)) → Answer (Option (List Tree))
visited a rest = before a.stays a.faults rest

-- a tree among others, if there is one
abbrev pub with_tree : Option Tree → List Tree → List Tree
with_tree None ts = ts
with_tree (Some t) ts = t ∷ ts

-- ---- nodes

-- a declarator without type, which its value gives
abbrev pub valued_declarator : DeclaratorHead → Tree → Tree
valued_declarator d value = var_declarator d.span (binding_ident d.ident Absent) value d.definite

-- a function of this return type and these parameters, with a body that stands for its own
abbrev pub signed_function : FunctionHead → Tree → List Tree → Tree
signed_function f type params =
    function_node f.span (list params) (list []) f.ctxt
    (if f.lacks_body then Absent else function_body type) false false f.type_params type

-- an arrow of this return type and these parameters, with a body that stands for its own
abbrev pub signed_arrow : ArrowHead → Tree → List Tree → Tree
signed_arrow a type params = arrow_expr a.span a.ctxt (list params)
    (arrow_body type) false a.is_generator a.type_params type

-- an arrow with this value, which gives its return type
abbrev pub kept_arrow : ArrowHead → Bool → Tree → List Tree → Tree
kept_arrow a is_async value params = arrow_expr a.span a.ctxt
    (list params) value is_async a.is_generator a.type_params Absent

-- a class of this superclass and these members, without decorators
abbrev pub class_of : ClassHead → Tree → List Tree → Tree
class_of c superclass members =
    class_node c.span c.ctxt (list [])
    (list members) superclass c.is_abstract c.type_params c.super_type_params c.implements

-- `declare key: type;`: a property of this type, without a value
abbrev pub declared_property : PropertyHead → Tree → Tree
declared_property p type =
    class_prop p.span p.key Absent type p.is_static
    (list []) p.accessibility p.is_abstract p.is_optional false p.readonly true false

-- `key = value;`: a property without type, which its value gives
abbrev pub valued_property : PropertyHead → Tree → Tree
valued_property p value =
    class_prop p.span p.key value Absent p.is_static
    (list []) p.accessibility p.is_abstract p.is_optional p.is_override p.readonly false false

-- ---- what is answered to what is seen

-- a node round its parts
abbrev pub round_answer : Kind → Answer (Option (List Tree)) → Answer (Option Tree)
round_answer kind = made (option_map (node kind))

-- a list of items
abbrev pub list_answer : Answer (List Tree) → Answer (Option Tree)
list_answer = made (λ ts. Some (list ts))

abbrev pub declarator_answer : DeclaratorHead → Answer (Option Tree) → Answer (Option Tree)
declarator_answer d value = made (λ v. Some (valued_declarator d v))
    (demanded (fault_at MissingExplicitType (Ident-span d.ident)) value)

abbrev pub default_answer : DefaultHead → Answer (Option Tree) → Answer (Option Tree)
default_answer d value = made (λ v. Some (assign_pat d.span d.left v))
    (demanded (fault_at MissingExplicitType d.place) value)

-- what is wrong with a return type comes before what is wrong with the parameters
abbrev pub function_answer : FunctionHead → Answer (Option Tree) → Answer (List Tree) → Answer (Option Tree)
function_answer f type params = joined (λ t ps. Some (signed_function f t ps)) (settled type) params

abbrev pub typed_arrow_answer : ArrowHead → Answer (Option Tree) → Answer (List Tree) → Answer (Option Tree)
typed_arrow_answer a type params = joined (λ t ps. Some (signed_arrow a t ps)) (settled type) params

abbrev pub valued_arrow_answer : ArrowHead → Bool → SourceRange → Answer (Option Tree) → Answer (List Tree) →
    Answer (Option Tree)
valued_arrow_answer a is_async place value params =
    joined (λ v ps. Some (kept_arrow a is_async v ps))
    (demanded (fault_at (return_type_missing false is_async) place) value) params

-- what is wrong with a superclass comes before what is wrong with the members
abbrev pub class_answer : ClassHead → Answer (Option Tree) → Answer (List Tree) → Answer (Option Tree)
class_answer c superclass members = joined (λ s ms. Some (class_of c s ms)) (settled superclass) members

abbrev pub property_answer : PropertyHead → Answer (Option Tree) → Answer (Option Tree)
property_answer p value = made (λ v. Some (valued_property p v))
    (demanded (fault_at MissingExplicitType (range_of_node p.key)) value)

abbrev pub default_export_answer : SourceRange → Answer (Option Tree) → Answer (Option Tree)
default_export_answer span value = made (λ v. Some (export_default_expr span v))
    (demanded (fault_at UnsupportedDefaultExportExpr span) value)

-- nothing stays of what is tested alone
abbrev pub tested_answer : Option SourceRange → Answer (Option Tree) → Answer (Option Tree)
tested_answer None value = made (λ v. None) value
tested_answer (Some place) value = made (λ v. None) (demanded (fault_at MissingExplicitType place) value)

abbrev mutual
  pub answer_to : Seen → Answer (Option Tree)
  answer_to (written t) = faultless (Some t)
  answer_to (round kind ss) = round_answer kind (parts_answer ss)
  answer_to (listed ss) = list_answer (items_answer ss)
  answer_to (declarator d value) = declarator_answer d (answer_to value)
  answer_to (default d value) = default_answer d (answer_to value)
  answer_to (function f type params) = function_answer f (answer_to type) (items_answer params)
  answer_to (typed_arrow a type params) = typed_arrow_answer a (answer_to type) (items_answer params)
  answer_to (valued_arrow a is_async place value params) =
      valued_arrow_answer a is_async place (answer_to value) (items_answer params)
  answer_to (class c superclass members) = class_answer c (answer_to superclass) (items_answer members)
  answer_to (property p value) = property_answer p (answer_to value)
  answer_to (default_export span value) = default_export_answer span (answer_to value)
  answer_to (tested place value) = tested_answer place (answer_to value)
  answer_to (faulty kind place) = record { stays = Some Absent; faults = fault_at kind place ∷ [] }
  answer_to refused = faultless None

  -- parts of a node, up to the first that may not stay, where none of them does
  pub parts_answer : Seens → Answer (Option (List Tree))
  parts_answer end = faultless (Some [])
  parts_answer (also s ss) = visited (answer_to s) (parts_answer ss)

  -- parameters, and items of a module, each for itself
  pub items_answer : Seens → Answer (List Tree)
  items_answer end = faultless []
  items_answer (also s ss) = joined with_tree (answer_to s) (items_answer ss)

-- the answer to what is seen, item by item
abbrev pub answer_of : List Seen → Answer (List Tree)
answer_of ss = items_answer (seens ss)
