use Rattle.std.proofs.Common.{◌++◌, ap, ◌∙◌}
use Rattle.json.specs.Print.{print}
use Rattle.serde_json.proofs.Texts.{print-outline}
use Rattle.fast_check_print.specs.Writing.{tokens_of}
use Rattle.fast_check_program_requests.specs.Refusal.{line_end}
use Rattle.fast_check_program_commands.specs.pair_command.Line.{answers_data}
use Rattle.fast_check_program_commands.proofs.pair_command.answer.line_of_answers.Goals as goal

pub returns : goal.returns
returns c =
    let value = answers_data c.args.first.now c.args.second.now in
    let written = c.in_ok-write_both.ensures in
    let before = written.before ∙ (c.new-out.ensures.before ∙ c.new.ensures.items) in
    let tokens = written.tokens_now ∙ ap (λ ts. ts ++ tokens_of value) c.new-out.ensures.tokens in
    c.in_ok-push.ensures.items
    ∙ ap (λ text. text ++ line_end)
    (c.into_inner-line.ensures.items ∙
    (ap (λ text. text ++ print c.write_both.new.out.tokens) before ∙ (ap print tokens ∙ print-outline value)))
