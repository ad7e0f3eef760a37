use Rattle.std.proofs.Common.{◌≡◌, ◌∙◌, None}
use Rattle.serde_json.specs.View.{view}
use Rattle.fast_check_json_tables.specs.Symbols.{node_of}
use Rattle.fast_check_json_tables.proofs.graph.Gathering.{reads_passed}
use Rattle.fast_check_read.proofs.Each.{some_of_ok, none_of_err}
use Rattle.fast_check_json_tables.proofs.graph.Given.{members_there, given_some, given_none, reads_none}
use Rattle.fast_check_json_tables.proofs.symbols.SymbolNodeFromJson.from_json.Goals as goal

pub returns-in_err-read_members : goal.returns-in_err-read_members
returns-in_err-read_members c =
    let none : node_of (view c.args.value.now) ≡ None = given_none _ c.in_err-read_members.ensures.err.1 in
    reads_none _ _ _ none c.from_residual.ensures.0

pub returns-in_err-read_flag : goal.returns-in_err-read_flag
returns-in_err-read_flag c =
    let none : node_of (view c.args.value.now) ≡ None =
    given_some _ (members_there _ _ c.in_ok-read_members.ensures.ok)
    ∙ given_none _ (none_of_err _ _ _ c.in_err-read_flag.ensures) in
    reads_none _ _ _ none c.from_residual-in_err-read_flag.ensures.0

pub returns-in_err-read_flag-2 : goal.returns-in_err-read_flag-2
returns-in_err-read_flag-2 c =
    let none : node_of (view c.args.value.now) ≡ None =
    given_some _ (members_there _ _ c.in_ok-read_members.ensures.ok)
    ∙ (given_some _ (some_of_ok _ _ _ c.in_ok-read_flag.ensures)
    ∙ given_none _ (none_of_err _ _ _ c.in_err-read_flag-2.ensures)) in
    reads_none _ _ _ none c.from_residual-in_err-read_flag-2.ensures.0

pub returns-in_err-read_flag-3 : goal.returns-in_err-read_flag-3
returns-in_err-read_flag-3 c =
    let none : node_of (view c.args.value.now) ≡ None =
    given_some _ (members_there _ _ c.in_ok-read_members.ensures.ok)
    ∙ (given_some _ (some_of_ok _ _ _ c.in_ok-read_flag.ensures)
    ∙ (given_some _ (some_of_ok _ _ _ c.in_ok-read_flag-2.ensures)
    ∙ given_none _ (none_of_err _ _ _ c.in_err-read_flag-3.ensures))) in
    reads_none _ _ _ none c.from_residual-in_err-read_flag-3.ensures.0

pub returns-in_err-read_flag-4 : goal.returns-in_err-read_flag-4
returns-in_err-read_flag-4 c =
    let none : node_of (view c.args.value.now) ≡ None =
    given_some _ (members_there _ _ c.in_ok-read_members.ensures.ok)
    ∙ (given_some _ (some_of_ok _ _ _ c.in_ok-read_flag.ensures)
    ∙ (given_some _ (some_of_ok _ _ _ c.in_ok-read_flag-2.ensures)
    ∙ (given_some _ (some_of_ok _ _ _ c.in_ok-read_flag-3.ensures)
    ∙ given_none _ (none_of_err _ _ _ c.in_err-read_flag-4.ensures)))) in
    reads_none _ _ _ none c.from_residual-in_err-read_flag-4.ensures.0

pub returns-in_err-read_flag-5 : goal.returns-in_err-read_flag-5
returns-in_err-read_flag-5 c =
    let none : node_of (view c.args.value.now) ≡ None =
    given_some _ (members_there _ _ c.in_ok-read_members.ensures.ok)
    ∙ (given_some _ (some_of_ok _ _ _ c.in_ok-read_flag.ensures)
    ∙ (given_some _ (some_of_ok _ _ _ c.in_ok-read_flag-2.ensures)
    ∙ (given_some _ (some_of_ok _ _ _ c.in_ok-read_flag-3.ensures)
    ∙ (given_some _ (some_of_ok _ _ _ c.in_ok-read_flag-4.ensures)
    ∙ given_none _ (none_of_err _ _ _ c.in_err-read_flag-5.ensures))))) in
    reads_none _ _ _ none c.from_residual-in_err-read_flag-5.ensures.0

pub returns-in_err-read_flag-6 : goal.returns-in_err-read_flag-6
returns-in_err-read_flag-6 c =
    let none : node_of (view c.args.value.now) ≡ None =
    given_some _ (members_there _ _ c.in_ok-read_members.ensures.ok)
    ∙ (given_some _ (some_of_ok _ _ _ c.in_ok-read_flag.ensures)
    ∙ (given_some _ (some_of_ok _ _ _ c.in_ok-read_flag-2.ensures)
    ∙ (given_some _ (some_of_ok _ _ _ c.in_ok-read_flag-3.ensures)
    ∙ (given_some _ (some_of_ok _ _ _ c.in_ok-read_flag-4.ensures)
    ∙ (given_some _ (some_of_ok _ _ _ c.in_ok-read_flag-5.ensures)
    ∙ given_none _ (none_of_err _ _ _ c.in_err-read_flag-6.ensures)))))) in
    reads_none _ _ _ none c.from_residual-in_err-read_flag-6.ensures.0

pub returns-in_err-read_flag-7 : goal.returns-in_err-read_flag-7
returns-in_err-read_flag-7 c =
    let none : node_of (view c.args.value.now) ≡ None =
    given_some _ (members_there _ _ c.in_ok-read_members.ensures.ok)
    ∙ (given_some _ (some_of_ok _ _ _ c.in_ok-read_flag.ensures)
    ∙ (given_some _ (some_of_ok _ _ _ c.in_ok-read_flag-2.ensures)
    ∙ (given_some _ (some_of_ok _ _ _ c.in_ok-read_flag-3.ensures)
    ∙ (given_some _ (some_of_ok _ _ _ c.in_ok-read_flag-4.ensures)
    ∙ (given_some _ (some_of_ok _ _ _ c.in_ok-read_flag-5.ensures)
    ∙ (given_some _ (some_of_ok _ _ _ c.in_ok-read_flag-6.ensures)
    ∙ given_none _ (none_of_err _ _ _ c.in_err-read_flag-7.ensures))))))) in
    reads_none _ _ _ none c.from_residual-in_err-read_flag-7.ensures.0

pub returns-in_err-read_list : goal.returns-in_err-read_list
returns-in_err-read_list c =
    reads_passed _ _ _ c.in_err-read_list.field-0.0 c.from_residual-in_err-read_list.ensures.1 (λ bad.
    given_some _ (members_there _ _ c.in_ok-read_members.ensures.ok)
    ∙ (given_some _ (some_of_ok _ _ _ c.in_ok-read_flag.ensures)
    ∙ (given_some _ (some_of_ok _ _ _ c.in_ok-read_flag-2.ensures)
    ∙ (given_some _ (some_of_ok _ _ _ c.in_ok-read_flag-3.ensures)
    ∙ (given_some _ (some_of_ok _ _ _ c.in_ok-read_flag-4.ensures)
    ∙ (given_some _ (some_of_ok _ _ _ c.in_ok-read_flag-5.ensures)
    ∙ (given_some _ (some_of_ok _ _ _ c.in_ok-read_flag-6.ensures)
    ∙ (given_some _ (some_of_ok _ _ _ c.in_ok-read_flag-7.ensures)
    ∙ given_none _ (c.in_err-read_list.ensures bad)))))))))

pub returns : goal.returns
returns c =
    given_some _ (members_there _ _ c.in_ok-read_members.ensures.ok)
    ∙ (given_some _ (some_of_ok _ _ _ c.in_ok-read_flag.ensures)
    ∙ (given_some _ (some_of_ok _ _ _ c.in_ok-read_flag-2.ensures)
    ∙ (given_some _ (some_of_ok _ _ _ c.in_ok-read_flag-3.ensures)
    ∙ (given_some _ (some_of_ok _ _ _ c.in_ok-read_flag-4.ensures)
    ∙ (given_some _ (some_of_ok _ _ _ c.in_ok-read_flag-5.ensures)
    ∙ (given_some _ (some_of_ok _ _ _ c.in_ok-read_flag-6.ensures)
    ∙ (given_some _ (some_of_ok _ _ _ c.in_ok-read_flag-7.ensures)
    ∙ given_some _ c.in_ok-read_list.ensures)))))))
