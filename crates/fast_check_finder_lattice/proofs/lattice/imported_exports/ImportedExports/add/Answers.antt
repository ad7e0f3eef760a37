use Rattle.std.proofs.Common.{◌∙◌, sym, subst, ap}
use Rattle.std.specs.Result.{IfOk}
use Rattle.fast_check_finder_lattice.specs.declared.lattice.imported_exports.ImportedExports.TheVariants.{Subset}
use Rattle.fast_check_finder_lattice.specs.declared.lattice.named_subset.NamedSubset.{NamedSubset}
use Rattle.fast_check_finder_lattice.specs.Imports.{IsAdded}
use Rattle.fast_check_finder_lattice.proofs.Puts.{on_err_from}
use Rattle.fast_check_finder_lattice.proofs.Added.{added_to_star, added_default, added_all}
use Rattle.fast_check_finder_lattice.proofs.lattice.imported_exports.ImportedExports.add.Goals as goal

pub returns-then-not-names_default-clause-added : goal.returns-then-not-names_default-clause-added
returns-then-not-names_default-clause-added c =
    rw c.in-Star.is (added_to_star c.args.exports_to_trace (sym c.names_default.ensures ∙ c.if-not-names_default.true))

pub returns-in_ok-default-in-Star-clause-added : goal.returns-in_ok-default-in-Star-clause-added
returns-in_ok-default-in-Star-clause-added c =
    rw c.in-Star.is (added_default c.args.exports_to_trace c.in_ok-default-in-Star.default
    (sym c.names_default.ensures ∙ c.if-not-names_default.false) c.in_ok-default-in-Star.ensures)

pub returns-in-Subset-exports_to_trace-clause-added : goal.returns-in-Subset-exports_to_trace-clause-added
returns-in-Subset-exports_to_trace-clause-added c =
    rw (c.in-Subset.is, c.in-Subset-exports_to_trace.is)
    (subst (λ (o : NamedSubset). IfOk c.add_names.result
    (λ answer. IsAdded (Subset o) (Subset c.in-Subset-exports_to_trace.new_subset) answer (Subset c.add_names.new.names)))
    c.in-Subset.names-is c.add_names.ensures.added)

pub returns-in-Subset-exports_to_trace-clause-err : goal.returns-in-Subset-exports_to_trace-clause-err
returns-in-Subset-exports_to_trace-clause-err c =
    rw c.in-Subset.is (on_err_from c.add_names.result (λ same. ap Subset (same ∙ c.in-Subset.names-is)) c.add_names.ensures.err)

pub returns-in-StarWithDefault-exports_to_trace-clause-added : goal.returns-in-StarWithDefault-exports_to_trace-clause-added
returns-in-StarWithDefault-exports_to_trace-clause-added c = rw (c.in-Subset.is, c.in-StarWithDefault-exports_to_trace.is)
    (added_all c.in-Subset.names)
