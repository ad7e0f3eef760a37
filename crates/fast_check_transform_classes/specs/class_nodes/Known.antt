-- Inner: no contract of a public call cites what stands here.
-- What the members of a class so far tell of the next.
use Rattle.std.specs.Prelude.{◌≡◌, ℕ, Bool, not, ◌&&◌, List, ◌∷◌}
use Rattle.std.specs.List.{list_any}
use Rattle.std.specs.BTreeSet.{contains_by}
use Rattle.std.specs.Cmp.Lexicographic.{slice_cmp}
use Rattle.std.specs.Ordering.{nat_cmp}
use Rattle.fast_check_tree_syntax.specs.declared.kind.Kind.TheVariants as kinds
use Rattle.fast_check_tree_syntax.specs.declared.tree.Tree.{Tree}
use Rattle.fast_check_tree_syntax.specs.Shape.{◌is◌, kind_of}
use Rattle.fast_check_tree_forms_classes.specs.Fields.{ClassProp-key, ClassProp-accessibility, AutoAccessor-key}
use Rattle.fast_check_tree_forms_classes.specs.Fields.{AutoAccessor-accessibility}
use Rattle.fast_check_meaning_signatures.specs.Members.{is_private, is_computed, is_private_method_of}
use Rattle.fast_check_meaning_signatures.specs.Members.{is_private_implementation, stays_behind}
use Rattle.fast_check_transform_classes.specs.declared.class_nodes.earlier.Earlier.{Earlier}

abbrev pub IsConstructor : Tree → Type 0
IsConstructor member = kind_of member ≡ kinds.Constructor

abbrev pub IsMethod : Tree → Type 0
IsMethod member = kind_of member ≡ kinds.ClassMethod

-- a property, and an accessor, that stays whatever stands before it
abbrev pub property_stays : Tree → Bool
property_stays m = not (is_private (ClassProp-accessibility m) && is_computed (ClassProp-key m))

abbrev pub accessor_stays : Tree → Bool
accessor_stays m =
    not (kind_of (AutoAccessor-key m) is kinds.PrivateName) &&
    not (is_private (AutoAccessor-accessibility m) && is_computed (AutoAccessor-key m))

-- what is known of the earlier members: which names private methods have, and whether a private constructor has a body
pub record Knows (known : Earlier) (earlier : List Tree) : Type 0 where
  pub names : (name : List ℕ) → contains_by (λ k. slice_cmp nat_cmp name k.now) known.private_methods ≡ list_any
      (is_private_method_of name) earlier
  pub implementation : known.has_private_implementation ≡ list_any is_private_implementation earlier

-- whether a member stays behind the earlier ones, and what is known of it and them
pub record Next (new : Earlier) (earlier : List Tree) (member : Tree) (stays : Bool) : Type 0 where
  pub stays_is : stays ≡ stays_behind earlier member
  pub knows : Knows new (member ∷ earlier)

-- that, whatever the earlier members are that are known
abbrev pub IsNext : Earlier → Earlier → Tree → Bool → Type 0
IsNext old new member stays = (earlier : List Tree) → Knows old earlier → Next new earlier member stays
