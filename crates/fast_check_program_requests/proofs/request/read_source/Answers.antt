use Rattle.std.proofs.Common.{ℕ, List, Some, ap, sym, ◌∙◌}
use Rattle.fast_check_json_tables.proofs.graph.Given.{given_some}
use Rattle.fast_check_program_requests.specs.Request.{Source}
use Rattle.fast_check_program_requests.proofs.request.read_source.Goals as goal

abbrev with_text : Source → List ℕ → Source
with_text s text = record {
  media_type = s.media_type;
  text = text;
  program = s.program;
  comments = s.comments;
  unresolved_context = s.unresolved_context;
}

pub returns : goal.returns
returns c =
    let read : Source = record {
      media_type = c.in_ok-media_type.media_type;
      text = c.in_ok-text.text.now;
      program = c.in_ok-program.program;
      comments = c.in_ok-comments.comments;
      unresolved_context = c.in_ok-unresolved_context.unresolved_context;
    } in
    given_some _ c.in_ok-media_type.ensures
    ∙ (given_some _ (given_some _ (sym c.in_ok-member.ensures.member) ∙ sym c.in_ok-text.ensures.text)
    ∙ (given_some _ c.in_ok-program.ensures
    ∙ (given_some _ c.in_ok-comments.ensures
    ∙ (given_some _ c.in_ok-unresolved_context.ensures ∙ ap (λ text. Some (with_text read text)) (sym c.in_ok-from_str.ensures.ok)))))
