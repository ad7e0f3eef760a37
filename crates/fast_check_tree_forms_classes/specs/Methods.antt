-- Written by forms/write.py from forms/forms.txt.
-- Methods of a class.
-- Each form has its fields by their names, what it holds once it reads a node, and the node of its fields.
use Rattle.std.specs.Prelude.{◌≡◌, Bool, [], ◌∷◌}
use Rattle.fast_check_tree_syntax.specs.declared.kind.Kind.TheVariants as kinds
use Rattle.fast_check_tree_syntax.specs.declared.part.Part.{Part}
use Rattle.fast_check_tree_syntax.specs.declared.source.SourceRange.{SourceRange}
use Rattle.fast_check_tree_syntax.specs.declared.tree.Tree.{Tree, Range, Flag}
use Rattle.fast_check_tree_syntax.specs.Part.{seen}
use Rattle.fast_check_tree_syntax.specs.Shape.{node, part, range_of, flag_of}
use Rattle.fast_check_tree_forms_classes.specs.declared.methods.ClassMethod.{ClassMethod}
use Rattle.fast_check_tree_forms_classes.specs.declared.methods.PrivateMethod.{PrivateMethod}

-- `key(..) ..`, with the rest in `function`.
abbrev pub ClassMethod-span : Tree → SourceRange
ClassMethod-span t = range_of (part 0 t)

abbrev pub ClassMethod-key : Tree → Tree
ClassMethod-key t = part 1 t

abbrev pub ClassMethod-function : Tree → Tree
ClassMethod-function t = part 2 t

abbrev pub ClassMethod-kind : Tree → Tree
ClassMethod-kind t = part 3 t

abbrev pub ClassMethod-is_static : Tree → Bool
ClassMethod-is_static t = flag_of (part 4 t)

abbrev pub ClassMethod-accessibility : Tree → Tree
ClassMethod-accessibility t = part 5 t

abbrev pub ClassMethod-is_abstract : Tree → Bool
ClassMethod-is_abstract t = flag_of (part 6 t)

abbrev pub ClassMethod-is_optional : Tree → Bool
ClassMethod-is_optional t = flag_of (part 7 t)

abbrev pub ClassMethod-is_override : Tree → Bool
ClassMethod-is_override t = flag_of (part 8 t)

pub record ReadsClassMethod (form : ClassMethod Part) (t : Tree) : Type 0 where
  pub span : form.span ≡ ClassMethod-span t
  pub key : seen form.key ≡ ClassMethod-key t
  pub function : seen form.function ≡ ClassMethod-function t
  pub kind : seen form.kind ≡ ClassMethod-kind t
  pub is_static : form.is_static ≡ ClassMethod-is_static t
  pub accessibility : seen form.accessibility ≡ ClassMethod-accessibility t
  pub is_abstract : form.is_abstract ≡ ClassMethod-is_abstract t
  pub is_optional : form.is_optional ≡ ClassMethod-is_optional t
  pub is_override : form.is_override ≡ ClassMethod-is_override t

abbrev pub class_method : SourceRange → Tree → Tree → Tree → Bool → Tree → Bool → Bool → Bool → Tree
class_method span key function kind is_static accessibility is_abstract is_optional is_override =
    node kinds.ClassMethod (Range span ∷ key ∷ function ∷ kind ∷ Flag is_static ∷ accessibility ∷
    Flag is_abstract ∷ Flag is_optional ∷ Flag is_override ∷ [])

-- `#key(..) ..`, with the rest in `function`.
abbrev pub PrivateMethod-span : Tree → SourceRange
PrivateMethod-span t = range_of (part 0 t)

abbrev pub PrivateMethod-key : Tree → Tree
PrivateMethod-key t = part 1 t

abbrev pub PrivateMethod-function : Tree → Tree
PrivateMethod-function t = part 2 t

abbrev pub PrivateMethod-kind : Tree → Tree
PrivateMethod-kind t = part 3 t

abbrev pub PrivateMethod-is_static : Tree → Bool
PrivateMethod-is_static t = flag_of (part 4 t)

abbrev pub PrivateMethod-accessibility : Tree → Tree
PrivateMethod-accessibility t = part 5 t

abbrev pub PrivateMethod-is_abstract : Tree → Bool
PrivateMethod-is_abstract t = flag_of (part 6 t)

abbrev pub PrivateMethod-is_optional : Tree → Bool
PrivateMethod-is_optional t = flag_of (part 7 t)

abbrev pub PrivateMethod-is_override : Tree → Bool
PrivateMethod-is_override t = flag_of (part 8 t)

pub record ReadsPrivateMethod (form : PrivateMethod Part) (t : Tree) : Type 0 where
  pub span : form.span ≡ PrivateMethod-span t
  pub key : seen form.key ≡ PrivateMethod-key t
  pub function : seen form.function ≡ PrivateMethod-function t
  pub kind : seen form.kind ≡ PrivateMethod-kind t
  pub is_static : form.is_static ≡ PrivateMethod-is_static t
  pub accessibility : seen form.accessibility ≡ PrivateMethod-accessibility t
  pub is_abstract : form.is_abstract ≡ PrivateMethod-is_abstract t
  pub is_optional : form.is_optional ≡ PrivateMethod-is_optional t
  pub is_override : form.is_override ≡ PrivateMethod-is_override t

abbrev pub private_method : SourceRange → Tree → Tree → Tree → Bool → Tree → Bool → Bool → Bool → Tree
private_method span key function kind is_static accessibility is_abstract is_optional is_override =
    node kinds.PrivateMethod (Range span ∷ key ∷ function ∷ kind ∷ Flag is_static ∷ accessibility ∷
    Flag is_abstract ∷ Flag is_optional ∷ Flag is_override ∷ [])
