-- Written by forms/write.py from forms/forms.txt.
use Rattle.std.proofs.Common.{rules}
use Rattle.fast_check_tree_forms_expressions.proofs.operators.CondExpr+Part.of.Goals as goal

pub returns : goal.returns
returns c = search rules
