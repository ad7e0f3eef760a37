use Rattle.std.proofs.Common.{◌∙◌, sym}
use Rattle.fast_check_finder_lattice.specs.Names.{path_of}
use Rattle.fast_check_finder_demands.proofs.Adds.{nothing_more}
use Rattle.fast_check_finder_demands.proofs.name_demands.Unaliased.{no_files}
use Rattle.fast_check_finder_demands.proofs.name_demands.references.push_path.Goals as goal

pub returns : goal.returns
returns c = nothing_more c.args.out.now _
    (no_files (path_of c.args.names.now) c.args.extent c.args.decls.now.items (sym c.has_alias.ensures ∙ c.if-has_alias.false))
