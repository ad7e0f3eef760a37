-- Written by forms/write.py from forms/forms.txt.
use Rattle.std.proofs.Common.{rules}
use Rattle.fast_check_tree_forms_classes.proofs.fields.ClassProp+Part.of.Goals as goal

pub returns : goal.returns
returns c = search rules
