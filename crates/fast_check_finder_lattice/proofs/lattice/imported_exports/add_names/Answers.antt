use Rattle.fast_check_finder_lattice.proofs.Added.{added_names, added_no_names}
use Rattle.fast_check_finder_lattice.proofs.lattice.imported_exports.add_names.Goals as goal

pub returns-then-is_empty-clause-added : goal.returns-then-is_empty-clause-added
returns-then-is_empty-clause-added c =
    added_no_names c.args.names.now c.args.new_subset c.extend.new.self c.in_ok-rest.rest c.in_ok-rest.ensures.joined
    c.in_ok-rest.ensures.difference (c.is_empty.ensures.none c.if-is_empty.true)

pub returns-clause-added : goal.returns-clause-added
returns-clause-added c =
    let some = c.is_empty.ensures.some c.if-is_empty.false in
    added_names c.args.names.now c.args.new_subset c.extend.new.self c.in_ok-rest.rest c.in_ok-rest.ensures.joined
    c.in_ok-rest.ensures.difference some.0 some.1
