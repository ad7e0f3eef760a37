-- The type that a literal shows by itself.
use Rattle.std.specs.Prelude.{Option, Some, None}
use Rattle.fast_check_tree_syntax.specs.declared.kind.Kind.{Kind}
use Rattle.fast_check_tree_syntax.specs.declared.kind.Kind.TheVariants as kinds
use Rattle.fast_check_tree_syntax.specs.declared.kind.Word.{Word}
use Rattle.fast_check_tree_syntax.specs.declared.kind.Word.TheVariants.{TsStringKeyword, TsBooleanKeyword, TsNumberKeyword}
use Rattle.fast_check_tree_syntax.specs.declared.kind.Word.TheVariants.{TsBigIntKeyword, TsNullKeyword}
use Rattle.fast_check_tree_syntax.specs.declared.tree.Tree.{Tree}
use Rattle.fast_check_tree_syntax.specs.Shape.{kind_of}
use Rattle.fast_check_tree_helpers.specs.declared.literal_type.DeclMutabilityKind.{DeclMutabilityKind}
use Rattle.fast_check_tree_helpers.specs.declared.literal_type.DeclMutabilityKind.TheVariants.{Const, Mutable}
use Rattle.fast_check_tree_helpers.specs.Builders.{ts_keyword_type, ts_lit_type, regex_type}

-- the literal's own type where it is constant, else the keyword's
abbrev pub literal_or_keyword : DeclMutabilityKind → Word → Tree → Tree
literal_or_keyword Const keyword literal = ts_lit_type literal
literal_or_keyword Mutable keyword literal = ts_keyword_type keyword

-- a JSX text shows no type, nor does what is no literal
abbrev pub literal_by_kind : Kind → DeclMutabilityKind → Tree → Option Tree
literal_by_kind kinds.Str mutability literal = Some (literal_or_keyword mutability TsStringKeyword literal)
literal_by_kind kinds.Bool mutability literal = Some (literal_or_keyword mutability TsBooleanKeyword literal)
literal_by_kind kinds.Number mutability literal = Some (literal_or_keyword mutability TsNumberKeyword literal)
literal_by_kind kinds.BigInt mutability literal = Some (literal_or_keyword mutability TsBigIntKeyword literal)
literal_by_kind kinds.Null mutability literal = Some (ts_keyword_type TsNullKeyword)
literal_by_kind kinds.Regex mutability literal = Some regex_type
literal_by_kind _ mutability literal = None

abbrev pub type_of_literal : DeclMutabilityKind → Tree → Option Tree
type_of_literal mutability literal = literal_by_kind (kind_of literal) mutability literal
