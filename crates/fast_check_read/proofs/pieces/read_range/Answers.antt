use Rattle.std.proofs.Common.{◌∙◌, Some, ap, sym}
use Rattle.std.specs.Option.{ok_or}
use Rattle.fast_check_read.specs.declared.error.ReadError.TheVariants.{BadForm}
use Rattle.fast_check_read.specs.Pieces.{range_of_ends, u32_of}
use Rattle.serde_json.specs.View.{view}
use Rattle.fast_check_read.proofs.Each.{some_of_ok, none_of_err, bad_of_err, refused, then_none, then_some}
use Rattle.fast_check_read.proofs.pieces.read_range.Goals as goal

pub returns-in_err-start : goal.returns-in_err-start
returns-in_err-start c =
    refused _ _ _ c.from_residual.ensures.1 c.in_err-start.ensures.err (then_none _ (sym c.in_err-start.ensures.pair))

pub returns-in_err-read_u32 : goal.returns-in_err-read_u32
returns-in_err-read_u32 c =
    let none = none_of_err _ _ _ c.in_err-read_u32.ensures in
    let end = u32_of (view c.in_ok-start.end.now) in
    refused _ _ _ c.from_residual-in_err-read_u32.ensures.1 (bad_of_err _ _ _ c.in_err-read_u32.ensures)
    (then_some _ (sym c.in_ok-start.ensures.pair) ∙ ap (λ start. range_of_ends start end) none)

pub returns-in_err-read_u32-2 : goal.returns-in_err-read_u32-2
returns-in_err-read_u32-2 c =
    let start = some_of_ok _ _ _ c.in_ok-read_u32.ensures in
    let none = none_of_err _ _ _ c.in_err-read_u32-2.ensures in
    let end = u32_of (view c.in_ok-start.end.now) in
    refused _ _ _ c.from_residual-in_err-read_u32-2.ensures.1 (bad_of_err _ _ _ c.in_err-read_u32-2.ensures)
    (then_some _ (sym c.in_ok-start.ensures.pair)
    ∙ (ap (λ start. range_of_ends start end) start ∙ ap (range_of_ends (Some c.in_ok-read_u32.field-0)) none))

pub returns : goal.returns
returns c =
    let start = some_of_ok _ _ _ c.in_ok-read_u32.ensures in
    let end = some_of_ok _ _ _ c.in_ok-read_u32-2.ensures in
    ap (λ range. ok_or range BadForm) (sym (then_some _ (sym c.in_ok-start.ensures.pair)
    ∙ (ap (λ start. range_of_ends start (u32_of (view c.in_ok-start.end.now))) start ∙
    ap (range_of_ends (Some c.in_ok-read_u32.field-0)) end)))
