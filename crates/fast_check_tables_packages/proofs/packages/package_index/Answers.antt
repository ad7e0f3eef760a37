use Rattle.std.proofs.Common.{rules, ◌≡◌}
use Rattle.std.specs.BTreeMap.{get}
use Rattle.fast_check_tables_packages.specs.Package.{nv_of}
use Rattle.fast_check_tables_packages.specs.Packages.{package_cmp}
use Rattle.fast_check_tables_packages.proofs.Rows.{places_more}
use Rattle.fast_check_tables_packages.proofs.packages.package_index.Goals as goal

pub loop-place-preserved : goal.loop-place-preserved
loop-place-preserved c =
    let row = c.index-rows-place.result in
    let same : nv_of c.in_ok-clone.field-0 ≡ nv_of row.0 = search rules in
    places_more c.args.rows.now c.loop-place.place row c.in_ok-clone.field-0 (get package_cmp c.loop-place.places)
    (get package_cmp c.insert.new.self) c.loop-place-test.true c.index-rows-place.is same c.in_ok-insert.ensures.updates.0
    c.loop-place.invariant
