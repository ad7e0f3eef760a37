use Rattle.std.proofs.Common.{◌≡◌, ◌++◌, take}
use Rattle.std.specs.List.{flat_map}
use Rattle.fast_check_finder_lattice.specs.Names.{path_of}
use Rattle.fast_check_finder_demands.specs.name_demands.Files.{alias_files}
use Rattle.fast_check_finder_demands.proofs.name_demands.references.push_aliases.Given as goal

abbrev pub invariant-loop-decl : goal.invariant-loop-decl
invariant-loop-decl l = l.out ≡ l.initial.out ++ flat_map (λ d. alias_files (path_of l.names) l.extent d.kind) (take l.decl-index l.decls)
