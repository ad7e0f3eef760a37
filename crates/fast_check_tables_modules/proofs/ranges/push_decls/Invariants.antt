use Rattle.std.proofs.Common.{◌≡◌, ◌++◌, take, map}
use Rattle.fast_check_tables_modules.proofs.ranges.push_decls.Given as goal

abbrev pub invariant-loop-decl : goal.invariant-loop-decl
invariant-loop-decl l = l.out.items ≡ l.initial.out.items ++ map (λ d. d.range) (take l.decl-index l.decls)
