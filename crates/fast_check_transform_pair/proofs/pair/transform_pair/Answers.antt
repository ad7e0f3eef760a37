use Rattle.fast_check_transform_pair.proofs.Apart.{compares}
use Rattle.fast_check_transform_pair.proofs.Examples.{private_classes, silent_assignments, all_changes, parsed_changes}
use Rattle.fast_check_transform_pair.proofs.Pairs.{keeps_hidden}
use Rattle.fast_check_transform_pair.proofs.pair.transform_pair.Goals as goal

pub returns-clause-two_worlds : goal.returns-clause-two_worlds
returns-clause-two_worlds c =
    let a = c.args in
    let first = c.in_ok-first.ensures in
    let second = c.in_ok-second.ensures in
    keeps_hidden a.graph.now a.a.now a.ranges_a.now a.b.now a.ranges_b.now a.options.now.should_error_on_first_diagnostic
    c.in_ok-first.first c.in_ok-second.second
    (record {
      ok = first.ok;
      skeleton = first.skeleton;
      grammar = first.grammar;
      comments = first.comments;
      sources = first.sources;
      faults = first.faults;
    })
    (record {
      ok = second.ok;
      skeleton = second.skeleton;
      grammar = second.grammar;
      comments = second.comments;
      sources = second.sources;
      faults = second.faults;
    })

pub returns-clause-compared : goal.returns-clause-compared
returns-clause-compared c = compares

pub returns-clause-of_private_classes : goal.returns-clause-of_private_classes
returns-clause-of_private_classes c = private_classes

pub returns-clause-of_silent_assignments : goal.returns-clause-of_silent_assignments
returns-clause-of_silent_assignments c = silent_assignments

pub returns-clause-of_all_changes : goal.returns-clause-of_all_changes
returns-clause-of_all_changes c = all_changes

pub returns-in_err-first-clause-of_private_classes : goal.returns-in_err-first-clause-of_private_classes
returns-in_err-first-clause-of_private_classes c = private_classes

pub returns-in_err-first-clause-of_silent_assignments : goal.returns-in_err-first-clause-of_silent_assignments
returns-in_err-first-clause-of_silent_assignments c = silent_assignments

pub returns-in_err-first-clause-of_all_changes : goal.returns-in_err-first-clause-of_all_changes
returns-in_err-first-clause-of_all_changes c = all_changes

pub returns-in_err-second-clause-of_private_classes : goal.returns-in_err-second-clause-of_private_classes
returns-in_err-second-clause-of_private_classes c = private_classes

pub returns-in_err-second-clause-of_silent_assignments : goal.returns-in_err-second-clause-of_silent_assignments
returns-in_err-second-clause-of_silent_assignments c = silent_assignments

pub returns-in_err-second-clause-of_all_changes : goal.returns-in_err-second-clause-of_all_changes
returns-in_err-second-clause-of_all_changes c = all_changes

pub returns-clause-of_parsed_changes : goal.returns-clause-of_parsed_changes
returns-clause-of_parsed_changes c = parsed_changes

pub returns-in_err-first-clause-of_parsed_changes : goal.returns-in_err-first-clause-of_parsed_changes
returns-in_err-first-clause-of_parsed_changes c = parsed_changes

pub returns-in_err-second-clause-of_parsed_changes : goal.returns-in_err-second-clause-of_parsed_changes
returns-in_err-second-clause-of_parsed_changes c = parsed_changes
