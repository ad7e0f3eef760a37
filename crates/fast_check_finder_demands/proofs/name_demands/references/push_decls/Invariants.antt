use Rattle.std.proofs.Common.{◌≡◌, ◌++◌, take}
use Rattle.std.specs.List.{flat_map}
use Rattle.fast_check_finder_demands.specs.name_demands.Files.{decl_files}
use Rattle.fast_check_finder_demands.proofs.name_demands.references.push_decls.Given as goal

abbrev pub invariant-loop-decl : goal.invariant-loop-decl
invariant-loop-decl l = l.out ≡ l.initial.out ++ flat_map (decl_files l.namespaces) (take l.decl-index l.decls)
