use Rattle.std.proofs.Common.{◌∙◌, sym, ap, option_map}
use Rattle.fast_check_json_tables.specs.Seen as seen
use Rattle.fast_check_json_tables.specs.Symbols.{dep_named}
use Rattle.fast_check_json_tables.proofs.graph.Gathering.{reads_passed}
use Rattle.fast_check_json_tables.proofs.graph.Given.{chosen, given_none, map_some, reads_none}
use Rattle.fast_check_json_tables.proofs.symbols.read_dep.Goals as goal

pub returns-in_err-name : goal.returns-in_err-name
returns-in_err-name c = reads_none _ _ _ (given_none _ (sym c.in_err-name.ensures.variant)) c.from_residual.ensures.0

pub returns-in_err-from_json-in-Id : goal.returns-in_err-from_json-in-Id
returns-in_err-from_json-in-Id c =
    reads_passed _ _ _ c.in_err-from_json-in-Id.field-0.0 c.from_residual-in_err-from_json-in-Id.ensures.1 (λ bad.
    chosen dep_named _ _ _ _ c.in_ok-name.ensures.variant c.in-Id.is ∙ ap (option_map seen.DepId) (c.in_err-from_json-in-Id.ensures bad))

pub returns-in_ok-from_json-in-Id : goal.returns-in_ok-from_json-in-Id
returns-in_ok-from_json-in-Id c =
    chosen dep_named _ _ _ _ c.in_ok-name.ensures.variant c.in-Id.is ∙ map_some seen.DepId c.in_ok-from_json-in-Id.ensures

pub returns-in_err-id-in-QualifiedId : goal.returns-in_err-id-in-QualifiedId
returns-in_err-id-in-QualifiedId c =
    reads_passed _ _ _ c.in_err-id-in-QualifiedId.field-0.0 c.from_residual-in_err-id-in-QualifiedId.ensures.1 (λ bad.
    chosen dep_named _ _ _ _ c.in_ok-name.ensures.variant c.in-QualifiedId.is
    ∙ ap (option_map (λ p. seen.QualifiedId p.0 p.1)) (c.in_err-id-in-QualifiedId.ensures bad))

pub returns-in_ok-id-in-QualifiedId : goal.returns-in_ok-id-in-QualifiedId
returns-in_ok-id-in-QualifiedId c =
    chosen dep_named _ _ _ _ c.in_ok-name.ensures.variant c.in-QualifiedId.is ∙
    map_some (λ p. seen.QualifiedId p.0 p.1) c.in_ok-id-in-QualifiedId.ensures

pub returns-in_err-specifier-in-ImportType : goal.returns-in_err-specifier-in-ImportType
returns-in_err-specifier-in-ImportType c =
    reads_passed _ _ _ c.in_err-specifier-in-ImportType.field-0.0 c.from_residual-in_err-specifier-in-ImportType.ensures.1 (λ bad.
    chosen dep_named _ _ _ _ c.in_ok-name.ensures.variant c.in-ImportType.is
    ∙ ap (option_map (λ p. seen.ImportType p.0 p.1)) (c.in_err-specifier-in-ImportType.ensures bad))

pub returns-in_ok-specifier-in-ImportType : goal.returns-in_ok-specifier-in-ImportType
returns-in_ok-specifier-in-ImportType c =
    chosen dep_named _ _ _ _ c.in_ok-name.ensures.variant c.in-ImportType.is
    ∙ map_some (λ p. seen.ImportType p.0 p.1) c.in_ok-specifier-in-ImportType.ensures
