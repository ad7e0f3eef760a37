use Rattle.std.proofs.Common.{◌∙◌, sym, ap, cond, get_or, Option, Some, None}
use Rattle.std.specs.BTreeMap.{get}
use Rattle.std.specs.Option.{option_or}
use Rattle.std.specs.Ordering.{nat_cmp}
use Rattle.std.proofs.lemmas.Option.{get_or_from_slice_get, slice_get-get_or}
use Rattle.fast_check_tables_symbols.specs.declared.symbol_id.SymbolId.{SymbolId}
use Rattle.fast_check_tables_symbols.specs.Members.{is_number}
use Rattle.fast_check_tables_symbols.proofs.Namesakes.{number_more}
use Rattle.fast_check_tables_symbols.proofs.members.number_index.Goals as goal

pub loop-member-preserved : goal.loop-member-preserved
loop-member-preserved c =
    let ids = c.args.members.now in
    let i = c.loop-member.member-index in
    let id = get_or ids i (record { 0 = 0 }) in
    number_more c.args.symbols.now c.args.namesakes.now ids i id c.loop-member.index c.put_first_by.new.index c.loop-member-test.true
    (sym (get_or_from_slice_get ids i id id (slice_get-get_or ids i (record { 0 = 0 }) c.loop-member-test.true)))
    (λ number. c.in_ok-put_first_by.ensures number
    ∙ ap (λ (o : Option SymbolId). option_or (get nat_cmp c.loop-member.index number)
    (cond (is_number number o) (Some id) None)) c.namesake_of.ensures)
    c.loop-member.invariant
