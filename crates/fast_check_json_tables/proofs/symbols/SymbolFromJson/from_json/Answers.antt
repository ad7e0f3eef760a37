use Rattle.std.proofs.Common.{◌∙◌, [], ap, sym, refl, Bool, ℕ, List, codes, Option, Some, option_map, Vec, Global}
use Rattle.serde_json.specs.Find.{as_str}
use Rattle.serde_json.specs.View.{view}
use Rattle.fast_check_tables_symbols.specs.declared.symbol_id.SymbolId.{SymbolId}
use Rattle.fast_check_json_tables.specs.graph.Reads.{member_or, optional, listed, symbol_id_of}
use Rattle.fast_check_json_tables.specs.Seen.{Decl, SeenSymbol}
use Rattle.fast_check_json_tables.specs.Symbols.{exports_of, decl_of}
use Rattle.fast_check_json_tables.proofs.graph.Gathering.{both_reads, given_five, reads_as, reads_passed, reads_seen}
use Rattle.fast_check_read.proofs.Each.{some_of_ok}
use Rattle.fast_check_json_tables.proofs.graph.Given.{given_some, map_some, map_same, option_same}
use Rattle.fast_check_json_tables.proofs.symbols.SymbolFromJson.from_json.Goals as goal

abbrev made : SymbolId → Option SymbolId → Bool → Option (List ℕ) → Option (List ℕ) → List (List ℕ × SymbolId) → List SymbolId → List Decl →
    SeenSymbol
made id parent_id is_private_member maybe_name qualified_name exports members decls = record {
  id = id;
  parent_id = parent_id;
  is_private_member = is_private_member;
  maybe_name = maybe_name;
  qualified_name = qualified_name;
  exports = exports;
  members = members;
  decls = decls;
}

pub returns-in_err-names : goal.returns-in_err-names
returns-in_err-names c =
    let value = view c.args.value.now in
    let names = both_reads _ _ _ _ _ _ _ c.both-names.ensures c.read_option-2.ensures c.read_option-3.ensures in
    let none = ap (λ empty. member_or empty exports_of (codes "exports") value) (sym c.new.ensures) in
    let exports = reads_as _ _ _ _ none c.read_member_or-exports.ensures in
    let members = reads_seen _ (λ (v : Vec SymbolId Global). v.items) _ _ (λ v. map_same _ v.items (λ _. refl)) c.read_list.ensures in
    let lists = both_reads _ _ _ _ _ _ _ c.both-lists.ensures members c.read_list-2.ensures in
    let rest = both_reads _ _ _ _ _ _ _ c.both.ensures exports lists in
    let failed = both_reads _ _ _ _ _ _ _ c.in_err-names.ensures names rest in
    reads_passed _ _ _ c.in_err-names.field-0.0 c.from_residual-in_err-names.ensures.1 (λ bad.
    given_some _ c.in_ok-id.ensures
    ∙ (given_some _ (c.in_ok-parent_id.ensures ∙ ap Some (option_same c.in_ok-parent_id.parent_id))
    ∙ (given_some _ (some_of_ok _ _ _ c.in_ok-is_private_member.ensures)
    ∙ (given_five (optional as_str (codes "maybe_name") value) (optional as_str (codes "qualified_name") value)
    (member_or [] exports_of (codes "exports") value) (listed symbol_id_of (codes "members") value)
    (listed decl_of (codes "decls") value)
    (made c.in_ok-id.id c.in_ok-parent_id.parent_id c.in_ok-is_private_member.is_private_member)
    ∙ ap (option_map _) (failed bad)))))

pub returns : goal.returns
returns c =
    let value = view c.args.value.now in
    let names = both_reads _ _ _ _ _ _ _ c.both-names.ensures c.read_option-2.ensures c.read_option-3.ensures in
    let none = ap (λ empty. member_or empty exports_of (codes "exports") value) (sym c.new.ensures) in
    let exports = reads_as _ _ _ _ none c.read_member_or-exports.ensures in
    let members = reads_seen _ (λ (v : Vec SymbolId Global). v.items) _ _ (λ v. map_same _ v.items (λ _. refl)) c.read_list.ensures in
    let lists = both_reads _ _ _ _ _ _ _ c.both-lists.ensures members c.read_list-2.ensures in
    let rest = both_reads _ _ _ _ _ _ _ c.both.ensures exports lists in
    rw c.in_ok-decls.ensures (given_some _ c.in_ok-id.ensures
    ∙ (given_some _ (c.in_ok-parent_id.ensures ∙ ap Some (option_same c.in_ok-parent_id.parent_id))
    ∙ (given_some _ (some_of_ok _ _ _ c.in_ok-is_private_member.ensures)
    ∙ (given_five (optional as_str (codes "maybe_name") value) (optional as_str (codes "qualified_name") value)
    (member_or [] exports_of (codes "exports") value) (listed symbol_id_of (codes "members") value)
    (listed decl_of (codes "decls") value)
    (made c.in_ok-id.id c.in_ok-parent_id.parent_id c.in_ok-is_private_member.is_private_member)
    ∙ map_some _ (both_reads _ _ _ _ _ _ _ c.in_ok-names.ensures names rest)))))
