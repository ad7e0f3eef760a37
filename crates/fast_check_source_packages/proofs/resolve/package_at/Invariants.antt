use Rattle.std.proofs.Common.{IfSome, string_bytes}
use Rattle.fast_check_source_packages.specs.Folders.{LiesIn}
use Rattle.fast_check_source_packages.proofs.resolve.package_at.Given as goal

abbrev pub invariant-loop-package : goal.invariant-loop-package
invariant-loop-package l = IfSome l.best (λ found. LiesIn (string_bytes found.now.folder) l.path)
