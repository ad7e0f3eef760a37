use Rattle.fast_check_meaning_skeleton.proofs.CommentsAlike.{two_worlds}
use Rattle.fast_check_meaning_skeleton.proofs.Example.{example}
use Rattle.fast_check_meaning_skeleton.proofs.ClassExample.{class_example}
use Rattle.fast_check_meaning_skeleton.proofs.ModuleExample.{module_example}
use Rattle.fast_check_meaning_skeleton.proofs.NamespaceExample.{namespace_example}
use Rattle.fast_check_meaning_skeleton.proofs.ExpandoExample.{expando_example}
use Rattle.fast_check_meaning_skeleton.proofs.PrivateClassExample.{private_class_example}
use Rattle.fast_check_meaning_skeleton.proofs.SilentAssignmentExample.{silent_assignment_example}
use Rattle.fast_check_meaning_skeleton.proofs.HiddenChangesExample.{hidden_changes_example}
use Rattle.fast_check_meaning_skeleton.proofs.worlds.two_worlds.Goals as goal

pub returns : goal.returns
returns c = record {
  law = λ a comments_a b comments_b. two_worlds a c.args.first.now comments_a b c.args.second.now comments_b;
  not_empty = example;
  of_classes = class_example;
  of_modules = module_example;
  of_namespaces = namespace_example;
  of_expandos = expando_example;
  of_private_classes = private_class_example;
  of_silent_assignments = silent_assignment_example;
  of_all_changes = hidden_changes_example;
}
