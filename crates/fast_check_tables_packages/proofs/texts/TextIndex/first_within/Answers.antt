use Rattle.std.proofs.Common.{◌∙◌}
use Rattle.fast_check_tables_packages.proofs.Found.{found_longest, none_more}
use Rattle.fast_check_tables_packages.proofs.texts.TextIndex.first_within.Goals as goal

pub returns : goal.returns
returns c = λ texts h.
    c.first_at.ensures
    ∙ (found_longest texts c.args.self.now.entries.items c.args.text.now c.longest_of.result h.are_firsts
    (c.longest_of.ensures h.are_firsts.ascending h.are_firsts.noted)
    ∙ none_more texts c.args.self.now c.args.text.now h)
