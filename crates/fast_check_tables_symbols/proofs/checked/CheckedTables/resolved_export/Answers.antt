use Rattle.std.proofs.Common.{◌∙◌, sym, string_bytes}
use Rattle.std.specs.Cmp.Lexicographic.{texts_ties}
use Rattle.fast_check_tables_symbols.proofs.Alike.{lookup_alike, lookup_seen}
use Rattle.fast_check_tables_symbols.proofs.checked.CheckedTables.resolved_export.Goals as goal

pub returns : goal.returns
returns c =
    let es = c.self.inside.resolved_exports.entries in
    rw (← c.self.view_is) (c.get.ensures.value
    ∙ (lookup_alike _ _ es (λ k. sym (texts_ties c.args.name.now (string_bytes k))) ∙ sym (lookup_seen c.args.name.now es)))
