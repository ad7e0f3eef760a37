use Rattle.std.proofs.Common.{rules}
use Rattle.fast_check_transform_imports.proofs.Kept.{kept_more}
use Rattle.fast_check_transform_imports.proofs.relative.RelativeSources.keep.Goals as goal

pub returns : goal.returns
returns c = λ facts is kept.
    kept_more c.args.self.now (record { by_text = c.insert.new.self }) c.in_ok-text.text c.args.other (search rules)
    c.in_ok-insert.ensures.updates facts is kept
