use Rattle.fast_check_finder_unique.proofs.OneAnswer.{list_the_same}
use Rattle.fast_check_finder_unique.proofs.law.one_answer.Goals as goal

pub returns : goal.returns
returns c = record { law = λ k roots picks ranges settled. list_the_same k roots picks ranges settled }
