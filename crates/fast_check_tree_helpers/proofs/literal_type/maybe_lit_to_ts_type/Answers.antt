use Rattle.std.proofs.Common.{rules, ap, ◌∙◌}
use Rattle.fast_check_tree_syntax.specs.Part.{seen}
use Rattle.fast_check_tree_helpers.specs.LiteralType.{literal_by_kind}
use Rattle.fast_check_tree_helpers.proofs.Literals.{no_literal}
use Rattle.fast_check_tree_helpers.proofs.literal_type.maybe_lit_to_ts_type.Goals as goal

pub returns-in_err-into_tree-in-Null : goal.returns-in_err-into_tree-in-Null
returns-in_err-into_tree-in-Null c = search rules

pub returns-in-Null : goal.returns-in-Null
returns-in-Null c = search rules

pub returns-in_err-regex_type-in-Regex : goal.returns-in_err-regex_type-in-Regex
returns-in_err-regex_type-in-Regex c = search rules

pub returns-in-Regex : goal.returns-in-Regex
returns-in-Regex c = search rules

pub returns-in_err-literal_or_keyword : goal.returns-in_err-literal_or_keyword
returns-in_err-literal_or_keyword c = search rules

pub returns : goal.returns
returns c = search rules

pub returns-in_default : goal.returns-in_default
returns-in_default c =
    let d = c.in_default in
    no_literal c.kind.result c.args.mutability (seen c.args.lit) d.not-Str d.not-Bool d.not-Number d.not-BigInt d.not-Null d.not-Regex
    ∙ ap (λ k. literal_by_kind k c.args.mutability (seen c.args.lit)) c.kind.ensures
