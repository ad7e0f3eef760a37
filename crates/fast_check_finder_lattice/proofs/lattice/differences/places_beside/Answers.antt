use Rattle.std.proofs.Common.{◌∙◌, length}
use Rattle.fast_check_finder_lattice.specs.Graph.{entry}
use Rattle.fast_check_finder_lattice.proofs.Beside.{one_noted}
use Rattle.fast_check_finder_lattice.proofs.lattice.differences.places_beside.Goals as goal

pub loop-at-preserved : goal.loop-at-preserved
loop-at-preserved c = record {
  len = c.note_listed.ensures.len ∙ c.loop-at.invariant.len;
  noting = one_noted (entry c.args.old.now) (entry c.args.nodes.now) (length c.args.nodes.now) c.loop-at.at c.loop-at.places.items
      c.note_listed.new.places.items c.requires c.loop-at.invariant.noting c.note_listed.ensures.listed c.note_listed.ensures.others;
}
