use Rattle.std.proofs.Common.{◌∙◌, sym, ap, option_map}
use Rattle.fast_check_json_tables.specs.Seen as seen
use Rattle.fast_check_json_tables.specs.Symbols.{decl_kind_named}
use Rattle.fast_check_json_tables.proofs.graph.Gathering.{reads_as, reads_passed}
use Rattle.fast_check_json_tables.proofs.graph.Given.{chosen, given_none, map_some, reads_none}
use Rattle.fast_check_json_tables.proofs.symbols.SymbolDeclKindFromJson.from_json.Goals as goal

pub returns-in_err-name : goal.returns-in_err-name
returns-in_err-name c = reads_none _ _ _ (given_none _ (sym c.in_err-name.ensures.variant)) c.from_residual.ensures.0

pub returns-in_err-from_json-in-Target : goal.returns-in_err-from_json-in-Target
returns-in_err-from_json-in-Target c =
    reads_passed _ _ _ c.in_err-from_json-in-Target.field-0.0 c.from_residual-in_err-from_json-in-Target.ensures.1 (λ bad.
    chosen decl_kind_named _ _ _ _ c.in_ok-name.ensures.variant c.in-Target.is ∙
    ap (option_map seen.Target) (c.in_err-from_json-in-Target.ensures bad))

pub returns-in_ok-from_json-in-Target : goal.returns-in_ok-from_json-in-Target
returns-in_ok-from_json-in-Target c =
    chosen decl_kind_named _ _ _ _ c.in_ok-name.ensures.variant c.in-Target.is ∙ map_some seen.Target c.in_ok-from_json-in-Target.ensures

pub returns-in_err-id-in-QualifiedTarget : goal.returns-in_err-id-in-QualifiedTarget
returns-in_err-id-in-QualifiedTarget c =
    reads_passed _ _ _ c.in_err-id-in-QualifiedTarget.field-0.0 c.from_residual-in_err-id-in-QualifiedTarget.ensures.1 (λ bad.
    chosen decl_kind_named _ _ _ _ c.in_ok-name.ensures.variant c.in-QualifiedTarget.is
    ∙ ap (option_map (λ p. seen.QualifiedTarget p.0 p.1)) (c.in_err-id-in-QualifiedTarget.ensures bad))

pub returns-in_ok-id-in-QualifiedTarget : goal.returns-in_ok-id-in-QualifiedTarget
returns-in_ok-id-in-QualifiedTarget c =
    chosen decl_kind_named _ _ _ _ c.in_ok-name.ensures.variant c.in-QualifiedTarget.is
    ∙ map_some (λ p. seen.QualifiedTarget p.0 p.1) c.in_ok-id-in-QualifiedTarget.ensures

pub returns-in-FileRef : goal.returns-in-FileRef
returns-in-FileRef c =
    reads_as _ _ _ _ (chosen decl_kind_named _ _ _ _ c.in_ok-name.ensures.variant c.in-FileRef.is) c.read_file_ref.ensures

pub returns-in_err-from_json-in-Definition : goal.returns-in_err-from_json-in-Definition
returns-in_err-from_json-in-Definition c =
    reads_passed _ _ _ c.in_err-from_json-in-Definition.field-0.0 c.from_residual-in_err-from_json-in-Definition.ensures.1
    (λ bad.
    chosen decl_kind_named _ _ _ _ c.in_ok-name.ensures.variant c.in-Definition.is
    ∙ ap (option_map seen.Definition) (c.in_err-from_json-in-Definition.ensures bad))

pub returns-in_ok-from_json-in-Definition : goal.returns-in_ok-from_json-in-Definition
returns-in_ok-from_json-in-Definition c =
    chosen decl_kind_named _ _ _ _ c.in_ok-name.ensures.variant c.in-Definition.is ∙
    map_some seen.Definition c.in_ok-from_json-in-Definition.ensures
