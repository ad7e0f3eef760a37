-- A function value that parses each rule to a depth.
use Rattle.std.specs.Prelude.{ℕ}
use Rattle.std.specs.declared.alloc.Global.{Global}
use denote.Ref.{MutBor}
use Rattle.fast_check_source_grammar.specs.declared.tokens.Tokens.{Tokens}
use Rattle.fast_check_source_grammar.specs.declared.grammar.Rule.{Rule}

pub record Nests (depth : ℕ) (pre : Global → MutBor Tokens → ℕ → Rule → Type 0) : Type 0 where
  pub callable : (alloc : Global) (old : MutBor Tokens) (rule : Rule) → pre alloc old depth rule
