-- The members of a class that is not ambient: which of them stay, by what stands before them, and what they leave. One
-- that goes leaves no word.
use Rattle.std.specs.Prelude.{ℕ, Bool, true, false, not, ◌&&◌, List, [], ◌∷◌, ◌++◌}
use Rattle.std.specs.Prelude.{if◌then◌else◌}
use Rattle.std.specs.List.{list_any, filter}
use Rattle.std.specs.Str.{bytes_eq}
use Rattle.fast_check_tree_syntax.specs.declared.kind.Kind.{Kind}
use Rattle.fast_check_tree_syntax.specs.declared.kind.Kind.TheVariants as kinds
use Rattle.fast_check_tree_syntax.specs.declared.kind.Word.TheVariants.{Private}
use Rattle.fast_check_tree_syntax.specs.declared.tree.Tree.{Tree}
use Rattle.fast_check_tree_syntax.specs.Shape.{◌is◌, kind_of, is_absent, has_word}
use Rattle.fast_check_tree_forms_classes.specs.Classes.{Constructor-body, Constructor-accessibility}
use Rattle.fast_check_tree_forms_classes.specs.Fields.{ClassProp-key, ClassProp-accessibility, AutoAccessor-key}
use Rattle.fast_check_tree_forms_classes.specs.Fields.{AutoAccessor-accessibility}
use Rattle.fast_check_tree_forms_classes.specs.Methods.{ClassMethod-key, ClassMethod-accessibility}
use Rattle.fast_check_tree_forms_programs.specs.Literals.{Str-value, Number-raw, BigInt-raw}
use Rattle.fast_check_tree_forms_programs.specs.Names.{IdentName-sym}
use Rattle.fast_check_meaning_signatures.specs.NewNodes.{hash_private}

-- whether a member is declared `private`, by its accessibility
abbrev pub is_private : Tree → Bool
is_private accessibility = has_word Private accessibility

-- whether a key is computed, as `[key]`
abbrev pub is_computed : Tree → Bool
is_computed key = kind_of key is kinds.ComputedPropName

-- the text of a key: a name, the value of a text, or a number as it is written
abbrev pub text_of_key_kind : Kind → Tree → List ℕ
text_of_key_kind kinds.IdentName key = IdentName-sym key
text_of_key_kind kinds.Str key = Str-value key
text_of_key_kind kinds.Number key = Number-raw key
text_of_key_kind kinds.BigInt key = BigInt-raw key
text_of_key_kind _ key = []

abbrev pub key_text : Tree → List ℕ
key_text key = text_of_key_kind (kind_of key) key

-- ---- members with a hash name

abbrev pub is_hash_named_kind : Kind → Tree → Bool
is_hash_named_kind kinds.PrivateMethod member = true
is_hash_named_kind kinds.PrivateProp member = true
is_hash_named_kind kinds.AutoAccessor member = kind_of (AutoAccessor-key member) is kinds.PrivateName
is_hash_named_kind _ member = false

-- a method, a property or an accessor with a hash name
abbrev pub is_hash_named : Tree → Bool
is_hash_named member = is_hash_named_kind (kind_of member) member

-- `#private!: unknown`, where a member has a hash name: it says that the class takes no other for its own
abbrev pub hash_mark : List Tree → List Tree
hash_mark members = if list_any is_hash_named members then hash_private ∷ [] else []

-- ---- members that stay

-- a private method of this name, getters and setters too, static or not
abbrev pub is_private_method_of : List ℕ → Tree → Bool
is_private_method_of name member =
    (kind_of member is kinds.ClassMethod) && (is_private (ClassMethod-accessibility member) &&
    (not (is_computed (ClassMethod-key member)) && bytes_eq (key_text (ClassMethod-key member)) name))

-- a private constructor that is no overload
abbrev pub is_private_implementation : Tree → Bool
is_private_implementation member =
    (kind_of member is kinds.Constructor) &&
    (is_private (Constructor-accessibility member) && not (is_absent (Constructor-body member)))

-- of the private methods of a name the first stays
abbrev pub is_first_of_name : List Tree → Tree → Bool
is_first_of_name earlier method =
    not (is_computed (ClassMethod-key method)) &&
    not (list_any (is_private_method_of (key_text (ClassMethod-key method))) earlier)

-- of the private constructors the first with a body
abbrev pub is_first_implementation : List Tree → Tree → Bool
is_first_implementation earlier constructor = not (is_absent (Constructor-body constructor)) &&
    not (list_any is_private_implementation earlier)

-- Whether a member stays behind the earlier ones. Hash-named members, static blocks, empty members, and private ones
-- with computed keys go.
abbrev pub stays_by_kind : Kind → List Tree → Tree → Bool
stays_by_kind kinds.Constructor earlier m = if is_private
    (Constructor-accessibility m) then is_first_implementation earlier m else true
stays_by_kind kinds.ClassMethod earlier m = if is_private
    (ClassMethod-accessibility m) then is_first_of_name earlier m else true
stays_by_kind kinds.ClassProp earlier m = not (is_private (ClassProp-accessibility m) && is_computed (ClassProp-key m))
stays_by_kind kinds.AutoAccessor earlier m =
    not (kind_of (AutoAccessor-key m) is kinds.PrivateName) &&
    not (is_private (AutoAccessor-accessibility m) && is_computed (AutoAccessor-key m))
stays_by_kind kinds.TsIndexSignature earlier m = true
stays_by_kind _ earlier m = false

abbrev pub stays_behind : List Tree → Tree → Bool
stays_behind earlier member = stays_by_kind (kind_of member) earlier member

-- what each member gives, where the earlier ones are given too, the last of them first
abbrev pub each_behind : {A : Type 0} → (List Tree → Tree → List A) → List Tree → List Tree → List A
each_behind f earlier [] = []
each_behind f earlier (m ∷ ms) = f earlier m ++ each_behind f (m ∷ earlier) ms

abbrev pub if_kept : List Tree → Tree → List Tree
if_kept earlier member = if stays_behind earlier member then member ∷ [] else []

abbrev pub if_removed : List Tree → Tree → List Tree
if_removed earlier member = if stays_behind earlier member then [] else member ∷ []

-- the members that stay, in order
abbrev pub kept_members : List Tree → List Tree
kept_members = each_behind if_kept []

-- the members that go
abbrev pub removed_members : List Tree → List Tree
removed_members = each_behind if_removed []

-- ---- ambient classes

-- a private method, property or accessor with a computed key
abbrev pub is_private_computed_kind : Kind → Tree → Bool
is_private_computed_kind kinds.ClassMethod m = is_private (ClassMethod-accessibility m) &&
    is_computed (ClassMethod-key m)
is_private_computed_kind kinds.ClassProp m = is_private (ClassProp-accessibility m) && is_computed (ClassProp-key m)
is_private_computed_kind kinds.AutoAccessor m = is_private (AutoAccessor-accessibility m) &&
    is_computed (AutoAccessor-key m)
is_private_computed_kind _ m = false

abbrev pub is_private_computed : Tree → Bool
is_private_computed member = is_private_computed_kind (kind_of member) member

-- the members of an ambient class that stay, as they are written
abbrev pub ambient_members : List Tree → List Tree
ambient_members = filter (λ m. not (is_private_computed m))
