use Rattle.std.proofs.lemmas.Result.{on_ok_weaker}
use Rattle.fast_check_tables_packages.specs.Package.{nv_of}
use Rattle.fast_check_finder_loop.proofs.Waits.{package_goes, package_enters}
use Rattle.fast_check_finder_loop.proofs.finder.Finder.ask_package.Goals as goal

pub returns : goal.returns
returns c = on_ok_weaker c.add.result
    (λ adds. record {
      goes = λ g r sound. package_goes g r c.args.self.now c.add.new.self (nv_of c.args.nv.now) sound adds;
      enters = λ nv can. package_enters c.args.self.now c.add.new.self (nv_of c.args.nv.now) adds nv can;
    })
    c.add.ensures.added
