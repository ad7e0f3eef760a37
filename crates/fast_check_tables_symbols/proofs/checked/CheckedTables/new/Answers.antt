use Rattle.std.proofs.Common.{◌∙◌, sym, refl}
use Rattle.fast_check_tables_symbols.proofs.Alike.{made_ids, made_names}
use Rattle.fast_check_tables_symbols.proofs.TableFaults.{misses, misses_none, misses_is, lacks, lacks_none, lacks_is}
use Rattle.fast_check_tables_symbols.proofs.checked.CheckedTables.new.Goals as goal

pub returns-then-misses_symbol-clause-fault : goal.returns-then-misses_symbol-clause-fault
returns-then-misses_symbol-clause-fault c =
    misses c.args.tables c.in_ok-swc_ids.swc_ids c.in_ok-swc_ids.ensures.ordered c.in_ok-swc_ids.ensures.got
    (sym (misses_is c.args.tables _ c.in_ok-swc_ids.swc_ids _ c.in_ok-symbols.ensures c.misses_symbol.ensures) ∙ c.if-misses_symbol.true)

pub returns-then-lacks_declaration-clause-fault : goal.returns-then-lacks_declaration-clause-fault
returns-then-lacks_declaration-clause-fault c = (
  misses_none c.args.tables c.in_ok-swc_ids.swc_ids c.in_ok-swc_ids.ensures.ordered c.in_ok-swc_ids.ensures.got
      (sym (misses_is c.args.tables _ c.in_ok-swc_ids.swc_ids _ c.in_ok-symbols.ensures c.misses_symbol.ensures) ∙ c.if-misses_symbol.false),
  lacks c.args.tables (sym (lacks_is c.args.tables _ _ (c.as_slice.ensures ∙ c.in_ok-symbols.ensures) c.lacks_declaration.ensures)
      ∙ c.if-lacks_declaration.true),
)

pub returns-clause-made : goal.returns-clause-made
returns-clause-made c = record {
  symbols = c.in_ok-symbols.ensures;
  module_symbol = refl;
  swc_ids = made_ids c.in_ok-swc_ids.swc_ids c.args.tables.swc_ids.items c.in_ok-swc_ids.ensures.got;
  re_exports = refl;
  resolved = made_names c.in_ok-resolved_exports.resolved_exports c.args.tables.resolved_exports.items
      c.in_ok-resolved_exports.ensures.got;
}

pub returns-clause-well_formed : goal.returns-clause-well_formed
returns-clause-well_formed c = record {
  mentioned_have_symbols =
      misses_none c.args.tables c.in_ok-swc_ids.swc_ids c.in_ok-swc_ids.ensures.ordered c.in_ok-swc_ids.ensures.got
      (sym (misses_is c.args.tables _ c.in_ok-swc_ids.swc_ids _ c.in_ok-symbols.ensures c.misses_symbol.ensures) ∙ c.if-misses_symbol.false);
  symbols_have_declarations =
      lacks_none c.args.tables
      (sym (lacks_is c.args.tables _ _ (c.as_slice.ensures ∙ c.in_ok-symbols.ensures) c.lacks_declaration.ensures) ∙
      c.if-lacks_declaration.false);
}
