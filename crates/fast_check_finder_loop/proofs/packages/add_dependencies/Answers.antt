use Rattle.fast_check_finder_loop.specs.Finder.{depends}
use Rattle.fast_check_finder_loop.proofs.Collected.{adds_none, adds_push}
use Rattle.fast_check_finder_loop.proofs.packages.add_dependencies.Goals as goal

pub loop-dependency-init : goal.loop-dependency-init
loop-dependency-init c = adds_none c.args.found.now.entries

pub loop-dependency-preserved : goal.loop-dependency-preserved
loop-dependency-preserved c = adds_push depends c.loop-dependency.yielded c.in-Some.dependency c.args.found.now.entries
    c.loop-dependency.found.entries c.add_dependency.new.found.entries c.loop-dependency.invariant c.in_ok-add_dependency.ensures
