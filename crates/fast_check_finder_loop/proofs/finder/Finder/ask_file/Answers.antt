use Rattle.std.proofs.Common.{◌∙◌, sym, ap, option_map}
use Rattle.url.specs.Parts.{serialize}
use Rattle.fast_check_tables_packages.specs.Package.{nv_of}
use Rattle.fast_check_finder_demands.specs.name_demands.Files.{names_of}
use Rattle.fast_check_finder_demands.specs.asked.Demands.{asked_by}
use Rattle.fast_check_finder_loop.proofs.Owners.{file_none}
use Rattle.fast_check_finder_loop.proofs.finder.Finder.ask_file.Goals as goal

pub returns-in-None : goal.returns-in-None
returns-in-None g c sound =
    file_none _ _ (nv_of c.args.nv.now) (serialize c.args.url.now) (asked_by (names_of c.args.names)) _ c.args.self.now sound
    (sym c.in_ok-owner_of.ensures ∙ ap (option_map nv_of) c.in-None.is)
