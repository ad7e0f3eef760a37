use Rattle.std.proofs.Common.{◌∙◌, ap, sym, option_map}
use Rattle.serde_json.specs.View.{view}
use Rattle.fast_check_json_tables.proofs.graph.Gathering.{both_reads, given_three, reads_passed}
use Rattle.fast_check_json_tables.proofs.graph.Given.{given_none, given_some, map_some, reads_none}
use Rattle.fast_check_json_tables.proofs.graph.from_json.Tuple3FromJson.from_json.Goals as goal

abbrev triple : {A B C : Type 0} → A → B → C → A × B × C
triple x y z = (x, y, z)

pub returns-in_err-first : goal.returns-in_err-first
returns-in_err-first g c = reads_none _ _ _ (given_none _ (sym c.in_err-first.ensures.items)) c.from_residual.ensures.0

pub returns-in_err-first-2 : goal.returns-in_err-first-2
returns-in_err-first-2 g c =
    let first = g.A.FromJson.read_of (view c.in_ok-first.first.now) in
    let second = g.B.FromJson.read_of (view c.in_ok-first.second.now) in
    let third = g.C.FromJson.read_of (view c.in_ok-first.third.now) in
    let first_two = both_reads _ _ _ _ _ _ _ c.both-first_two.ensures c.from_json.ensures c.from_json-2.ensures in
    let none = both_reads _ _ _ _ _ _ _ c.in_err-first-2.ensures first_two c.from_json-3.ensures in
    reads_passed _ _ _ c.in_err-first-2.field-0.0 c.from_residual-in_err-first-2.ensures.1 (λ bad.
    given_some _ (sym c.in_ok-first.ensures.items) ∙ (given_three first second third triple ∙ ap (option_map _) (none bad)))

pub returns : goal.returns
returns g c =
    let first = g.A.FromJson.read_of (view c.in_ok-first.first.now) in
    let second = g.B.FromJson.read_of (view c.in_ok-first.second.now) in
    let third = g.C.FromJson.read_of (view c.in_ok-first.third.now) in
    let first_two = both_reads _ _ _ _ _ _ _ c.both-first_two.ensures c.from_json.ensures c.from_json-2.ensures in
    given_some _ (sym c.in_ok-first.ensures.items)
    ∙ (given_three first second third triple ∙
    map_some _ (both_reads _ _ _ _ _ _ _ c.in_ok-first-2.ensures first_two c.from_json-3.ensures))
