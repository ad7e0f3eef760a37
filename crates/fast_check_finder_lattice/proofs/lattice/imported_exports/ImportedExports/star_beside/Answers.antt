use Rattle.std.proofs.Common.{◌∙◌, sym}
use Rattle.fast_check_finder_lattice.proofs.Added.{added_star, added_star_to_part, added_star_to_whole}
use Rattle.fast_check_finder_lattice.proofs.lattice.imported_exports.ImportedExports.star_beside.Goals as goal

pub returns-then-not-contains_name : goal.returns-then-not-contains_name
returns-then-not-contains_name c = added_star c.args.names.now (sym c.contains_name.ensures ∙ c.if-not-contains_name.true)

pub returns-then-has_part_of : goal.returns-then-has_part_of
returns-then-has_part_of c = added_star_to_part c.args.names.now (sym c.contains_name.ensures ∙ c.if-not-contains_name.false)
    (sym c.has_part_of.ensures ∙ c.if-has_part_of.true)

pub returns : goal.returns
returns c = added_star_to_whole c.args.names.now (sym c.contains_name.ensures ∙ c.if-not-contains_name.false)
    (sym c.has_part_of.ensures ∙ c.if-has_part_of.false)
