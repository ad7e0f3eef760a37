-- What a call's argument is read as.
use Rattle.std.specs.Prelude.{◌≡◌, Option, Some, None, is_some, refl}
use Rattle.fast_check_tree_syntax.specs.declared.part.Part as part
use Rattle.fast_check_tree_syntax.specs.declared.tree.Tree.{Tree}
use Rattle.fast_check_tree_forms_expressions.specs.declared.expressions.ExprOrSpread.{ExprOrSpread}
use Rattle.fast_check_tree_helpers.specs.GlobalCalls.{ReadsArgument}

pub reads_some : (read : Option (ExprOrSpread part.Part)) (arg : Option Tree) → ReadsArgument read arg → is_some read ≡ is_some arg
reads_some (Some r) (Some a) reads = refl
reads_some (Some r) None reads = absurd reads
reads_some None (Some a) reads = absurd reads
reads_some None None reads = refl
