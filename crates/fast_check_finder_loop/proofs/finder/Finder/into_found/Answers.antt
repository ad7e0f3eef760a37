use Rattle.std.proofs.Common.{map}
use Rattle.std.specs.List.{flat_map}
use Rattle.fast_check_finder_loop.specs.Finder.{depends, followed_yields, untyped_yields_of}
use Rattle.fast_check_finder_loop.proofs.Collected.{all_found}
use Rattle.fast_check_finder_loop.proofs.finder.Finder.into_found.Goals as goal

pub returns : goal.returns
returns c = λ apart.
    let self = c.args.self in
    all_found self.entrances.items (map depends self.dependencies.keys) (flat_map followed_yields self.modules.entries)
    (flat_map untyped_yields_of self.untyped.items) c.in_ok-found.found.entries c.add_dependencies.new.found.entries
    c.add_modules.new.found.entries c.add_all_untyped.new.found.entries (c.in_ok-found.ensures apart) c.in_ok-add_dependencies.ensures
    c.in_ok-add_modules.ensures c.in_ok-add_all_untyped.ensures
