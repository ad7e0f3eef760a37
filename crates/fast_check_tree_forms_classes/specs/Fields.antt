-- Written by forms/write.py from forms/forms.txt.
-- Properties and accessors of a class.
-- Each form has its fields by their names, what it holds once it reads a node, and the node of its fields.
use Rattle.std.specs.Prelude.{◌≡◌, Bool, [], ◌∷◌}
use Rattle.fast_check_tree_syntax.specs.declared.kind.Kind.TheVariants as kinds
use Rattle.fast_check_tree_syntax.specs.declared.part.Part.{Part}
use Rattle.fast_check_tree_syntax.specs.declared.source.SourceRange.{SourceRange}
use Rattle.fast_check_tree_syntax.specs.declared.source.SyntaxContext.{SyntaxContext}
use Rattle.fast_check_tree_syntax.specs.declared.tree.Tree.{Tree, Range, Flag, Context}
use Rattle.fast_check_tree_syntax.specs.Part.{seen}
use Rattle.fast_check_tree_syntax.specs.Shape.{node, part, range_of, flag_of, context_of}
use Rattle.fast_check_tree_forms_classes.specs.declared.fields.ClassProp.{ClassProp}
use Rattle.fast_check_tree_forms_classes.specs.declared.fields.PrivateProp.{PrivateProp}
use Rattle.fast_check_tree_forms_classes.specs.declared.fields.AutoAccessor.{AutoAccessor}

-- `key: type_ann = value;`, behind its modifiers.
abbrev pub ClassProp-span : Tree → SourceRange
ClassProp-span t = range_of (part 0 t)

abbrev pub ClassProp-key : Tree → Tree
ClassProp-key t = part 1 t

abbrev pub ClassProp-value : Tree → Tree
ClassProp-value t = part 2 t

abbrev pub ClassProp-type_ann : Tree → Tree
ClassProp-type_ann t = part 3 t

abbrev pub ClassProp-is_static : Tree → Bool
ClassProp-is_static t = flag_of (part 4 t)

abbrev pub ClassProp-decorators : Tree → Tree
ClassProp-decorators t = part 5 t

abbrev pub ClassProp-accessibility : Tree → Tree
ClassProp-accessibility t = part 6 t

abbrev pub ClassProp-is_abstract : Tree → Bool
ClassProp-is_abstract t = flag_of (part 7 t)

abbrev pub ClassProp-is_optional : Tree → Bool
ClassProp-is_optional t = flag_of (part 8 t)

abbrev pub ClassProp-is_override : Tree → Bool
ClassProp-is_override t = flag_of (part 9 t)

abbrev pub ClassProp-readonly : Tree → Bool
ClassProp-readonly t = flag_of (part 10 t)

abbrev pub ClassProp-declare : Tree → Bool
ClassProp-declare t = flag_of (part 11 t)

abbrev pub ClassProp-definite : Tree → Bool
ClassProp-definite t = flag_of (part 12 t)

pub record ReadsClassProp (form : ClassProp Part) (t : Tree) : Type 0 where
  pub span : form.span ≡ ClassProp-span t
  pub key : seen form.key ≡ ClassProp-key t
  pub value : seen form.value ≡ ClassProp-value t
  pub type_ann : seen form.type_ann ≡ ClassProp-type_ann t
  pub is_static : form.is_static ≡ ClassProp-is_static t
  pub decorators : seen form.decorators ≡ ClassProp-decorators t
  pub accessibility : seen form.accessibility ≡ ClassProp-accessibility t
  pub is_abstract : form.is_abstract ≡ ClassProp-is_abstract t
  pub is_optional : form.is_optional ≡ ClassProp-is_optional t
  pub is_override : form.is_override ≡ ClassProp-is_override t
  pub readonly : form.readonly ≡ ClassProp-readonly t
  pub declare : form.declare ≡ ClassProp-declare t
  pub definite : form.definite ≡ ClassProp-definite t

abbrev pub class_prop : SourceRange → Tree → Tree → Tree → Bool → Tree → Tree → Bool → Bool → Bool → Bool → Bool →
    Bool → Tree
class_prop span key value type_ann is_static decorators accessibility is_abstract is_optional is_override readonly
    declare definite =
    node kinds.ClassProp (Range span ∷ key ∷ value ∷ type_ann ∷ Flag is_static ∷ decorators ∷ accessibility ∷
    Flag is_abstract ∷ Flag is_optional ∷ Flag is_override ∷ Flag readonly ∷ Flag declare ∷
    Flag definite ∷ [])

-- `#key: type_ann = value;`, behind its modifiers.
abbrev pub PrivateProp-span : Tree → SourceRange
PrivateProp-span t = range_of (part 0 t)

abbrev pub PrivateProp-ctxt : Tree → SyntaxContext
PrivateProp-ctxt t = context_of (part 1 t)

abbrev pub PrivateProp-key : Tree → Tree
PrivateProp-key t = part 2 t

abbrev pub PrivateProp-value : Tree → Tree
PrivateProp-value t = part 3 t

abbrev pub PrivateProp-type_ann : Tree → Tree
PrivateProp-type_ann t = part 4 t

abbrev pub PrivateProp-is_static : Tree → Bool
PrivateProp-is_static t = flag_of (part 5 t)

abbrev pub PrivateProp-decorators : Tree → Tree
PrivateProp-decorators t = part 6 t

abbrev pub PrivateProp-accessibility : Tree → Tree
PrivateProp-accessibility t = part 7 t

abbrev pub PrivateProp-is_optional : Tree → Bool
PrivateProp-is_optional t = flag_of (part 8 t)

abbrev pub PrivateProp-is_override : Tree → Bool
PrivateProp-is_override t = flag_of (part 9 t)

abbrev pub PrivateProp-readonly : Tree → Bool
PrivateProp-readonly t = flag_of (part 10 t)

abbrev pub PrivateProp-definite : Tree → Bool
PrivateProp-definite t = flag_of (part 11 t)

pub record ReadsPrivateProp (form : PrivateProp Part) (t : Tree) : Type 0 where
  pub span : form.span ≡ PrivateProp-span t
  pub ctxt : form.ctxt ≡ PrivateProp-ctxt t
  pub key : seen form.key ≡ PrivateProp-key t
  pub value : seen form.value ≡ PrivateProp-value t
  pub type_ann : seen form.type_ann ≡ PrivateProp-type_ann t
  pub is_static : form.is_static ≡ PrivateProp-is_static t
  pub decorators : seen form.decorators ≡ PrivateProp-decorators t
  pub accessibility : seen form.accessibility ≡ PrivateProp-accessibility t
  pub is_optional : form.is_optional ≡ PrivateProp-is_optional t
  pub is_override : form.is_override ≡ PrivateProp-is_override t
  pub readonly : form.readonly ≡ PrivateProp-readonly t
  pub definite : form.definite ≡ PrivateProp-definite t

abbrev pub private_prop : SourceRange → SyntaxContext → Tree → Tree → Tree → Bool → Tree → Tree → Bool → Bool → Bool →
    Bool → Tree
private_prop span ctxt key value type_ann is_static decorators accessibility is_optional is_override readonly definite =
    node kinds.PrivateProp (Range span ∷ Context ctxt ∷ key ∷ value ∷ type_ann ∷ Flag is_static ∷
    decorators ∷ accessibility ∷ Flag is_optional ∷ Flag is_override ∷ Flag readonly ∷ Flag definite ∷ [])

-- `accessor key: type_ann = value;`, behind its modifiers.
abbrev pub AutoAccessor-span : Tree → SourceRange
AutoAccessor-span t = range_of (part 0 t)

abbrev pub AutoAccessor-key : Tree → Tree
AutoAccessor-key t = part 1 t

abbrev pub AutoAccessor-value : Tree → Tree
AutoAccessor-value t = part 2 t

abbrev pub AutoAccessor-type_ann : Tree → Tree
AutoAccessor-type_ann t = part 3 t

abbrev pub AutoAccessor-is_static : Tree → Bool
AutoAccessor-is_static t = flag_of (part 4 t)

abbrev pub AutoAccessor-decorators : Tree → Tree
AutoAccessor-decorators t = part 5 t

abbrev pub AutoAccessor-accessibility : Tree → Tree
AutoAccessor-accessibility t = part 6 t

abbrev pub AutoAccessor-is_abstract : Tree → Bool
AutoAccessor-is_abstract t = flag_of (part 7 t)

abbrev pub AutoAccessor-is_override : Tree → Bool
AutoAccessor-is_override t = flag_of (part 8 t)

abbrev pub AutoAccessor-definite : Tree → Bool
AutoAccessor-definite t = flag_of (part 9 t)

pub record ReadsAutoAccessor (form : AutoAccessor Part) (t : Tree) : Type 0 where
  pub span : form.span ≡ AutoAccessor-span t
  pub key : seen form.key ≡ AutoAccessor-key t
  pub value : seen form.value ≡ AutoAccessor-value t
  pub type_ann : seen form.type_ann ≡ AutoAccessor-type_ann t
  pub is_static : form.is_static ≡ AutoAccessor-is_static t
  pub decorators : seen form.decorators ≡ AutoAccessor-decorators t
  pub accessibility : seen form.accessibility ≡ AutoAccessor-accessibility t
  pub is_abstract : form.is_abstract ≡ AutoAccessor-is_abstract t
  pub is_override : form.is_override ≡ AutoAccessor-is_override t
  pub definite : form.definite ≡ AutoAccessor-definite t

abbrev pub auto_accessor : SourceRange → Tree → Tree → Tree → Bool → Tree → Tree → Bool → Bool → Bool → Tree
auto_accessor span key value type_ann is_static decorators accessibility is_abstract is_override definite =
    node kinds.AutoAccessor (Range span ∷ key ∷ value ∷ type_ann ∷ Flag is_static ∷ decorators ∷
    accessibility ∷ Flag is_abstract ∷ Flag is_override ∷ Flag definite ∷ [])
