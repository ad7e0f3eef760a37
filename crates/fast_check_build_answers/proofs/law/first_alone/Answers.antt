use Rattle.fast_check_build_answers.proofs.Fronts.{front_alone}
use Rattle.fast_check_build_answers.proofs.law.first_alone.Goals as goal

pub returns : goal.returns
returns c = record { law = front_alone c.args.graph.now c.args.root_symbol.now c.args.package_ranges.now.module_ranges.entries }
