use Rattle.std.proofs.Common.{◌≡◌, map, take}
use Rattle.std.specs.String.{string_bytes}
use Rattle.fast_check_tables_diagnostics.proofs.diagnostics.shown.lines.Given as goal

-- the lines so far are the texts so far
abbrev pub invariant-loop-text : goal.invariant-loop-text
invariant-loop-text l = map string_bytes l.lines.items ≡ map (λ text. text.now) (take l.text-index l.texts)
