-- What a `Part` reads.
use Rattle.std.specs.Prelude.{unwrap_or}
use Rattle.std.specs.Option.{option_copied}
use Rattle.fast_check_tree_syntax.specs.declared.tree.Tree.{Tree, Absent}
use Rattle.fast_check_tree_syntax.specs.declared.part.Part.{Part}

-- a part that is not there reads as an empty option
abbrev pub seen : Part → Tree
seen p = unwrap_or (option_copied p.tree) Absent
