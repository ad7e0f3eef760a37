use Rattle.std.proofs.Common.{rules, arith, ◌≡◌, ◌<◌, ap, length, string_bytes}
use Rattle.fast_check_finder_lattice.specs.Order.{Entry, found}
use Rattle.fast_check_finder_lattice.specs.Graph.{entry}
use Rattle.fast_check_finder_lattice.proofs.Made.{none_listed, first_listed, second_listed}
use Rattle.fast_check_finder_lattice.proofs.lattice.joins.joined_names.Goals as goal

pub names-init : goal.names-init
names-init c = record {
  i_within = omega arith;
  j_within = omega arith;
  listed = none_listed (length c.args.old.nodes.now) (length c.args.new.nodes.now) c.names_of-first.result.now c.names_of-second.result.now
      (entry c.args.new.nodes.now c.args.new.no) c.args.queue.now.items c.in_ok-names.names.items c.in_ok-names.ensures.items;
}

pub names-preserved-then-i-first-2 : goal.names-preserved-then-i-first-2
names-preserved-then-i-first-2 c =
    let es = c.names_of-first.result.now in
    let e : Entry = c.index-first-i.result in
    let within : c.names.i < length es = search rules in
    record {
      i_within = omega (arith, within);
      j_within = c.names.invariant.j_within;
      listed = first_listed (length c.args.old.nodes.now) (length c.args.new.nodes.now) es c.names_of-second.result.now
          (entry c.args.new.nodes.now c.args.new.no) c.names_of-first.ensures.once c.names_of-second.ensures.once c.args.queue.now.items
          c.names.queue.items c.push_joined.new.queue.items c.names.names.items c.push_joined.new.names.items c.names.i c.names.j
          c.names.invariant.listed e within c.index-first-i.is c.in_ok-push_joined.ensures;
    }

pub names-preserved : goal.names-preserved
names-preserved c =
    let es = c.names_of-first.result.now in
    let fs = c.names_of-second.result.now in
    let e : Entry = c.index-second-j.result in
    let within : c.names.j < length fs = search rules in
    let held : found es (string_bytes e.0) ≡ entry c.args.old.nodes.now c.args.old.no (string_bytes e.0) =
    ap (λ xs. found xs (string_bytes e.0)) c.names_of-first.ensures.names in
    record {
      i_within = c.names.invariant.i_within;
      j_within = omega (arith, within);
      listed = second_listed (length c.args.old.nodes.now) (length c.args.new.nodes.now) es fs
          (entry c.args.new.nodes.now c.args.new.no) c.names_of-first.ensures.once c.names_of-second.ensures.once c.args.queue.now.items
          c.names.queue.items c.push_absent.new.queue.items c.names.names.items c.push_absent.new.names.items c.names.i c.names.j
          c.names.invariant.listed c.if-i-first-2.false e within c.index-second-j.is
          (entry c.args.old.nodes.now c.args.old.no (string_bytes e.0)) held c.in_ok-push_absent.ensures;
    }
