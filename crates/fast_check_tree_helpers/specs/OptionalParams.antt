-- Parameters that a call may leave out.
use Rattle.std.specs.Prelude.{◌≡◌, ℕ, ◌<◌, ◌≤◌, ◌^◌, Bool, true, false, leb, List, drop, length, Option, Some, None, IfSome}
use Rattle.std.specs.List.{list_all}
use Rattle.fast_check_tree_syntax.specs.declared.kind.Kind.{Kind}
use Rattle.fast_check_tree_syntax.specs.declared.kind.Kind.TheVariants as kinds
use Rattle.fast_check_tree_syntax.specs.declared.tree.Tree.{Tree}
use Rattle.fast_check_tree_syntax.specs.Shape.{kind_of}
use Rattle.fast_check_tree_forms_programs.specs.Names.{BindingIdent-id, Ident-optional}
use Rattle.fast_check_tree_forms_expressions.specs.Patterns.{ArrayPat-optional, ObjectPat-optional}

-- an identifier or a pattern with `?`, one with a default, or a rest
abbrev pub optional_by_kind : Kind → Tree → Bool
optional_by_kind kinds.BindingIdent pat = Ident-optional (BindingIdent-id pat)
optional_by_kind kinds.ArrayPat pat = ArrayPat-optional pat
optional_by_kind kinds.ObjectPat pat = ObjectPat-optional pat
optional_by_kind kinds.AssignPat pat = true
optional_by_kind kinds.RestPat pat = true
optional_by_kind _ pat = false

abbrev pub is_optional_param : Tree → Bool
is_optional_param pat = optional_by_kind (kind_of pat) pat

-- whether every parameter from a place on is optional
abbrev pub is_optional_from : ℕ → List Tree → Bool
is_optional_from place pats = list_all is_optional_param (drop place pats)

-- whether a place is not before the start, if there is one
abbrev pub is_from : Option ℕ → ℕ → Bool
is_from (Some start) place = leb start place
is_from None place = false

-- the start of the optional parameters, if there is one, is the place of a parameter; and of each place that a `usize`
-- names it says whether all are optional from there on
pub record IsOptionalStart (start : Option ℕ) (pats : List Tree) : Type 0 where
  pub place : IfSome start (λ s. s < length pats)
  pub says : (place : ℕ) → place < 2 ^ 64 → place < length pats → is_from start place ≡ is_optional_from place pats

-- Inner: a place that a `usize` names, or none past these
abbrev pub IsPlace : Option ℕ → ℕ → Type 0
IsPlace (Some place) n = place ≡ n
IsPlace None n = 2 ^ 64 ≤ n

-- the start, once the parameter at a place is read too
abbrev pub next_start : Option ℕ → Option ℕ → Bool → Option ℕ
next_start start place false = None
next_start (Some start) place true = Some start
next_start None place true = place
