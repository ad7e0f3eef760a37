-- Whether what a statement declares keeps its value.
use Rattle.std.specs.Prelude.{if◌then◌else◌}
use Rattle.fast_check_tree_syntax.specs.declared.kind.Word.TheVariants.{Const as ConstWord}
use Rattle.fast_check_tree_syntax.specs.declared.tree.Tree.{Tree}
use Rattle.fast_check_tree_syntax.specs.Shape.{has_word}
use Rattle.fast_check_tree_helpers.specs.declared.literal_type.DeclMutabilityKind.{DeclMutabilityKind}
use Rattle.fast_check_tree_helpers.specs.declared.literal_type.DeclMutabilityKind.TheVariants.{Const, Mutable}

-- what a `const` statement declares keeps its value; what `let` and `var` declare does not
abbrev pub mutability_of : Tree → DeclMutabilityKind
mutability_of kind = if has_word ConstWord kind then Const else Mutable
