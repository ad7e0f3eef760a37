use Rattle.std.proofs.Common.{◌∙◌, subst, List}
use Rattle.std.specs.Slice.{IsItemAt}
use Rattle.url.specs.Parts.{serialize}
use Rattle.fast_check_tables_packages.specs.Listed.{Row}
use Rattle.fast_check_tables_packages.specs.Packages.{texts_of}
use Rattle.fast_check_tables_packages.proofs.Rows.{row_none, row_some}
use Rattle.fast_check_tables_packages.proofs.packages.IndexedPackages.row_at.Goals as goal

pub returns-in_err-place : goal.returns-in_err-place
returns-in_err-place c =
    let rows = c.self.inside.listed.packages.items in
    rw (c.from_residual.ensures, ← c.self.view_is)
    (row_none rows c.as_bytes.result.now (serialize c.args.url.now) c.first_within.result
    (c.as_bytes.ensures.value ∙ c.as_str.ensures.value)
    (c.first_within.ensures (texts_of rows) c.self.invariant.urls) c.in_err-place.was)

pub returns : goal.returns
returns c =
    let rows = c.self.inside.listed.packages.items in
    rw (← c.self.view_is)
    (row_some rows c.as_bytes.result.now (serialize c.args.url.now) c.first_within.result c.in_ok-place.place c.get.result
    (c.as_bytes.ensures.value ∙ c.as_str.ensures.value) (c.first_within.ensures (texts_of rows) c.self.invariant.urls) c.in_ok-place.was
    (subst (λ (xs : List Row). IsItemAt xs c.in_ok-place.place c.get.result) c.deref.ensures.value c.get.ensures.lookup))
