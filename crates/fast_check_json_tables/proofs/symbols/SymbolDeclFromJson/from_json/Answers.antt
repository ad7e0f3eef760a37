use Rattle.std.proofs.Common.{◌≡◌, ◌∙◌, None, ap, option_map}
use Rattle.serde_json.specs.View.{view}
use Rattle.fast_check_json_tables.specs.Symbols.{decl_of}
use Rattle.fast_check_json_tables.proofs.graph.Gathering.{reads_passed}
use Rattle.fast_check_read.proofs.Each.{some_of_ok, none_of_err}
use Rattle.fast_check_json_tables.proofs.graph.Given.{given_some, given_none, map_some, reads_none}
use Rattle.fast_check_json_tables.proofs.symbols.SymbolDeclFromJson.from_json.Goals as goal

pub returns-in_err-read_member_or : goal.returns-in_err-read_member_or
returns-in_err-read_member_or c =
    reads_passed _ _ _ c.in_err-read_member_or.field-0.0 c.from_residual.ensures.1 (λ bad. given_none _ (c.in_err-read_member_or.ensures bad))

pub returns-in_err-read_flag : goal.returns-in_err-read_flag
returns-in_err-read_flag c =
    let none : decl_of (view c.args.value.now) ≡ None =
    given_some _ c.in_ok-read_member_or.ensures
    ∙ given_none _ (none_of_err _ _ _ c.in_err-read_flag.ensures) in
    reads_none _ _ _ none c.from_residual-in_err-read_flag.ensures.0

pub returns-in_err-read_flag-2 : goal.returns-in_err-read_flag-2
returns-in_err-read_flag-2 c =
    let none : decl_of (view c.args.value.now) ≡ None =
    given_some _ c.in_ok-read_member_or.ensures
    ∙ (given_some _ (some_of_ok _ _ _ c.in_ok-read_flag.ensures)
    ∙ given_none _ (none_of_err _ _ _ c.in_err-read_flag-2.ensures)) in
    reads_none _ _ _ none c.from_residual-in_err-read_flag-2.ensures.0

pub returns-in_err-read_flag-3 : goal.returns-in_err-read_flag-3
returns-in_err-read_flag-3 c =
    let none : decl_of (view c.args.value.now) ≡ None =
    given_some _ c.in_ok-read_member_or.ensures
    ∙ (given_some _ (some_of_ok _ _ _ c.in_ok-read_flag.ensures)
    ∙ (given_some _ (some_of_ok _ _ _ c.in_ok-read_flag-2.ensures)
    ∙ given_none _ (none_of_err _ _ _ c.in_err-read_flag-3.ensures))) in
    reads_none _ _ _ none c.from_residual-in_err-read_flag-3.ensures.0

pub returns-in_err-read_flag-4 : goal.returns-in_err-read_flag-4
returns-in_err-read_flag-4 c =
    let none : decl_of (view c.args.value.now) ≡ None =
    given_some _ c.in_ok-read_member_or.ensures
    ∙ (given_some _ (some_of_ok _ _ _ c.in_ok-read_flag.ensures)
    ∙ (given_some _ (some_of_ok _ _ _ c.in_ok-read_flag-2.ensures)
    ∙ (given_some _ (some_of_ok _ _ _ c.in_ok-read_flag-3.ensures)
    ∙ given_none _ (none_of_err _ _ _ c.in_err-read_flag-4.ensures)))) in
    reads_none _ _ _ none c.from_residual-in_err-read_flag-4.ensures.0

pub returns-in_err-read_member : goal.returns-in_err-read_member
returns-in_err-read_member c =
    reads_passed _ _ _ c.in_err-read_member.field-0.0 c.from_residual-in_err-read_member.ensures.1 (λ bad.
    given_some _ c.in_ok-read_member_or.ensures
    ∙ (given_some _ (some_of_ok _ _ _ c.in_ok-read_flag.ensures)
    ∙ (given_some _ (some_of_ok _ _ _ c.in_ok-read_flag-2.ensures)
    ∙ (given_some _ (some_of_ok _ _ _ c.in_ok-read_flag-3.ensures)
    ∙ (given_some _ (some_of_ok _ _ _ c.in_ok-read_flag-4.ensures)
    ∙ ap (option_map _) (c.in_err-read_member.ensures bad))))))

pub returns : goal.returns
returns c =
    given_some _ c.in_ok-read_member_or.ensures
    ∙ (given_some _ (some_of_ok _ _ _ c.in_ok-read_flag.ensures)
    ∙ (given_some _ (some_of_ok _ _ _ c.in_ok-read_flag-2.ensures)
    ∙ (given_some _ (some_of_ok _ _ _ c.in_ok-read_flag-3.ensures)
    ∙ (given_some _ (some_of_ok _ _ _ c.in_ok-read_flag-4.ensures)
    ∙ map_some _ c.in_ok-read_member.ensures))))
