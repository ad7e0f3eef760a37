-- Inner: no contract of a public call cites what stands here.
-- The return class of the statements so far, after one more return statement.
use Rattle.std.specs.Prelude.{Bool, true, false}
use Rattle.fast_check_tree_helpers.specs.declared.return_class.ReturnStatementAnalysis.{ReturnStatementAnalysis}
use Rattle.fast_check_tree_helpers.specs.declared.return_class.ReturnStatementAnalysis.TheVariants as class

-- after statements of which none has an argument
abbrev pub first_argument : Bool → ReturnStatementAnalysis
first_argument true = class.Single
first_argument false = class.Void

abbrev pub after_return : ReturnStatementAnalysis → Bool → ReturnStatementAnalysis
after_return class.None has_argument = first_argument has_argument
after_return class.Void has_argument = first_argument has_argument
after_return class.Single has_argument = class.Multiple
after_return class.Multiple has_argument = class.Multiple
