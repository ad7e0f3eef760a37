use Rattle.std.proofs.Common.{◌∙◌, ap, map, List}
use Rattle.fast_check_tables_symbols.specs.declared.symbol.Symbol.{Symbol}
use Rattle.fast_check_tables_symbols.specs.Members.{namesake}
use Rattle.fast_check_tables_symbols.proofs.Namesakes.{members_are}
use Rattle.fast_check_tables_symbols.proofs.members.MemberIndexes.of.Goals as goal

pub returns : goal.returns
returns c =
    let names = c.in_ok-names.names in
    members_are c.args.symbols.now c.as_slice-2.result.now c.as_slice-4.result.now
    (record { names = names; by_symbol = c.in_ok-by_symbol.by_symbol })
    (c.as_slice-2.ensures.value ∙ (c.in_ok-ids.ensures ∙ ap (λ (ss : List Symbol). map (λ s. s.id) ss) c.as_slice.ensures))
    c.in_ok-names.ensures
    (c.as_slice-4.ensures.value
    ∙ (c.in_ok-namesakes.ensures ∙ ap (λ (ss : List Symbol). map (namesake names) ss) c.as_slice-3.ensures))
    c.in_ok-by_symbol.ensures
