-- What the value of an expando property mentions of the names that its object exports.
use Rattle.std.specs.Prelude.{true, ℕ, Bool, ◌&&◌, ◌==◌, List, [], ◌∷◌, ◌++◌, map, if◌then◌else◌}
use Rattle.std.specs.List.{flat_map}
use Rattle.std.specs.Str.{bytes_eq}
use Rattle.fast_check_tree_syntax.specs.declared.kind.Kind.TheVariants as kinds
use Rattle.fast_check_tree_syntax.specs.declared.source.SourceRange.{SourceRange}
use Rattle.fast_check_tree_syntax.specs.declared.source.SyntaxContext.{SyntaxContext}
use Rattle.fast_check_tree_syntax.specs.declared.tree.Tree.{Tree}
use Rattle.fast_check_tree_syntax.specs.Shape.{◌is◌, kind_of, none_range}
use Rattle.fast_check_tree_syntax.specs.Recursion.{by_form}
use Rattle.fast_check_tree_forms_programs.specs.Names.{Ident-span, Ident-ctxt, Ident-sym}
use Rattle.fast_check_meaning_expandos.specs.declared.references.Reference.{Reference}
use Rattle.fast_check_meaning_expandos.specs.Groups.{grouped}

-- `scope` is the scope number of the object, and `exported` says which names its symbol exports
module _ (scope : SyntaxContext) (exported : List ℕ → Bool) where
  -- an identifier of the object's scope, by a name that the object exports
  abbrev pub is_reference : Tree → Bool
  is_reference t = (kind_of t is kinds.Ident) && (((Ident-ctxt t).0 == scope.0) && exported (Ident-sym t))

  -- what a tree is itself, if it is one
  abbrev pub own_reference : Tree → List Reference
  own_reference t = if is_reference t then record { name = Ident-sym t; range = Ident-span t } ∷ [] else []

  -- those of a tree: itself, if it is one, and those of its parts, in order
  abbrev pub references_form : Tree → (ℕ → List Reference) → List (List Reference) → List Reference
  references_form t inside each = own_reference t ++ flat_map (λ found. found) each

  unfoldable pub references : Tree → List Reference
  references = by_form [] references_form

-- the range of the last
abbrev pub last_range : List Reference → SourceRange
last_range [] = none_range
last_range (r ∷ []) = r.range
last_range (r ∷ s ∷ rs) = last_range (s ∷ rs)

-- the names, in the order in which they come first, each with the range of its last
abbrev pub last_ranges : List Reference → List (List ℕ × SourceRange)
last_ranges rs = map (λ g. (g.0, last_range g.1)) (grouped bytes_eq (λ r. r.name) rs)

-- references once a name
abbrev pub once_a_name : List Reference → List Reference
once_a_name rs = map (λ e. record { name = e.0; range = e.1 }) (last_ranges rs)

-- what conflicts of a value
abbrev pub conflicts : SyntaxContext → (List ℕ → Bool) → Tree → List Reference
conflicts scope exported value = once_a_name (references scope exported value)

-- the names of an object's scope that a value mentions, whatever the object exports
abbrev pub mentioned : SyntaxContext → Tree → List (List ℕ)
mentioned scope value = map (λ r. r.name) (references scope (λ name. true) value)
