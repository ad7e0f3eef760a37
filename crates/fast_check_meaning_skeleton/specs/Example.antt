-- Two modules that agree but for what is hidden, so that the law of two worlds speaks of something:
-- `/** x */ export const x: string = "a";`, and behind a hidden function and with another value
-- `/** g */ function g() {} /** x */ export const x: string = y;`.
use Rattle.std.specs.Prelude.{◌≡◌, ℕ, ◌+◌, ◌==◌, false, None, List, [], ◌∷◌}
use Rattle.fast_check_tree_syntax.specs.declared.kind.Word.TheVariants as words
use Rattle.fast_check_tree_syntax.specs.declared.source.SourcePos.{SourcePos}
use Rattle.fast_check_tree_syntax.specs.declared.source.SourceRange.{SourceRange}
use Rattle.fast_check_tree_syntax.specs.declared.source.SyntaxContext.{SyntaxContext}
use Rattle.fast_check_tree_syntax.specs.declared.tree.Tree as tree
use Rattle.fast_check_tree_syntax.specs.declared.tree.Tree.{Tree, Absent}
use Rattle.fast_check_tree_syntax.specs.Shape.{list}
use Rattle.fast_check_tree_syntax.specs.Moves.{Renaming, IsRenaming}
use Rattle.fast_check_tree_comments.specs.declared.comment.Comment.{Comment}
use Rattle.fast_check_tree_comments.specs.declared.comment.CommentKind.TheVariants.{Block}
use Rattle.fast_check_tree_comments.specs.declared.comments.Comments.{Comments}
use Rattle.fast_check_tree_comments.specs.Kept.{kept}
use Rattle.fast_check_tree_forms_classes.specs.Functions.{function}
use Rattle.fast_check_tree_forms_programs.specs.Literals.{str}
use Rattle.fast_check_tree_forms_programs.specs.ModuleDecls.{export_decl}
use Rattle.fast_check_tree_forms_programs.specs.Names.{ident, binding_ident}
use Rattle.fast_check_tree_forms_programs.specs.Programs.{module'}
use Rattle.fast_check_tree_forms_statements.specs.Declarations.{fn_decl, var_decl, var_declarator}
use Rattle.fast_check_tree_forms_statements.specs.Statements.{block_stmt}
use Rattle.fast_check_tree_forms_types.specs.Types.{ts_keyword_type}
use Rattle.fast_check_tree_forms_types.specs.TypeParams.{ts_type_ann}
use Rattle.fast_check_tree_helpers.specs.Builders.{never_value}
use Rattle.fast_check_meaning_expandos.specs.Objects.{no_objects}
use Rattle.fast_check_meaning_skeleton.specs.ModuleFacts.{ModuleFacts}
use Rattle.fast_check_meaning_skeleton.specs.KeptComments.{kept_comments}
use Rattle.fast_check_meaning_skeleton.specs.SameComments.{SameComments}
use Rattle.fast_check_meaning_skeleton.specs.Hidden.{AgreeHidden}
use Rattle.fast_check_meaning_skeleton.specs.Skeleton.{skeleton_of}
use Rattle.fast_check_meaning_skeleton.specs.Worlds.{SameAnswers}

-- from one place to another
abbrev pub at : ℕ → ℕ → SourceRange
at start end = record { start = record { 0 = start }; end = record { 0 = end } }

abbrev pub scope : ℕ → SyntaxContext
scope number = record { 0 = number }

-- `x` at a place, in a scope
abbrev pub name : ℕ → ℕ → Tree
name start number = ident (at start (start + 1)) (scope number) (120 ∷ []) false

-- `: string` behind it
abbrev pub annotation : ℕ → Tree
annotation start = ts_type_ann (at (start + 1) (start + 9))
    (ts_keyword_type (at (start + 3) (start + 9)) (tree.Word words.TsStringKeyword))

-- `x: string = value`, with its first byte at a place, x in a scope, and the place past the value
abbrev pub declarator : ℕ → ℕ → Tree → ℕ → Tree
declarator start number value end = var_declarator (at start end)
    (binding_ident (name start number) (annotation start)) value false

-- `const x: string = value;`
abbrev pub statement : ℕ → ℕ → Tree → ℕ → Tree
statement start number value end = var_decl (at start (end + 1)) (scope 0) (tree.Word words.Const) false
    (list (declarator (start + 6) number value end ∷ []))

-- `export const x: string = value;`
abbrev pub exported : ℕ → ℕ → Tree → ℕ → Tree
exported start number value end = export_decl (at start (end + 1)) (statement (start + 7) number value end)

-- `/** x */` at a place, or another letter in place of x, before what begins 9 bytes further
abbrev pub documented : ℕ → ℕ → SourcePos × List Comment
documented letter start = (
  record { 0 = start + 9 },
  record { kind = Block; span = at start (start + 8); text = 42 ∷ 32 ∷ letter ∷ 32 ∷ [] } ∷
      [],
)

abbrev pub before_tokens : List (SourcePos × List Comment) → Comments
before_tokens places = record { leading = places; trailing = [] }

-- `/** x */ export const x: string = "a"; /** z */`
abbrev pub with_trailing : Comments
with_trailing = record {
  leading = documented 120 1 ∷ [];
  trailing = (record { 0 = 39 }, record { kind = Block; span = at 40 48; text = 42 ∷ 32 ∷ 122 ∷ 32 ∷ [] } ∷ []) ∷ [];
}

-- `"a"` at 35
abbrev pub text_value : Tree
text_value = str (at 35 38) (97 ∷ []) Absent

abbrev pub first : Tree
first = module' (at 10 39) (list (exported 10 2 text_value 38 ∷ [])) Absent

abbrev pub first_comments : Comments
first_comments = before_tokens (documented 120 1 ∷ [])

-- `function g() {}` at 10
abbrev pub hidden_function : Tree
hidden_function =
    fn_decl (ident (at 19 20) (scope 3) (103 ∷ []) false) false
    (function (at 10 25) (list []) (list []) (scope 4)
    (block_stmt (at 23 25) (scope 4) (list [])) false false Absent Absent)

-- `y` at 60
abbrev pub name_value : Tree
name_value = ident (at 60 61) (scope 1) (121 ∷ []) false

abbrev pub second : Tree
second = module' (at 10 62) (list (hidden_function ∷ exported 35 3 name_value 61 ∷ [])) Absent

abbrev pub second_comments : Comments
second_comments = before_tokens (documented 103 1 ∷ documented 120 26 ∷ [])

-- the places and the scope number of what is not hidden
abbrev pub renaming : Renaming
renaming = record {
  starts = (0, 0) ∷ (1, 26) ∷ (10, 35) ∷ (17, 42) ∷ (23, 48) ∷ (24, 49) ∷ (26, 51) ∷ [];
  ends = (0, 0) ∷ (9, 34) ∷ (24, 49) ∷ (32, 57) ∷ (38, 61) ∷ (39, 62) ∷ [];
  scopes = (0, 0) ∷ (1, 1) ∷ (2, 3) ∷ [];
}

-- the declarator that begins at a place is public, and nothing else
abbrev pub facts : ℕ → ModuleFacts
facts place = record {
  is_public = λ r. r.start.0 == place;
  is_implementation = λ r. false;
  bindings = record { unresolved = scope 1; is_plain_class = λ id. false };
  is_ambient = false;
  relative = λ text. None;
  objects = no_objects;
}

-- They agree, and so the law says that their answers are the same: the first is `/** x */ export const x: string = {}
-- as never;`. What documents the hidden function goes.
pub record Example : Type 0 where
  pub one_to_one : IsRenaming renaming
  pub agree : AgreeHidden renaming (facts 23) (facts 48) first second
  pub agree_comments : SameComments renaming (kept first_comments) (kept second_comments)
  -- another text would not agree, nor a comment behind the first statement alone
  pub other_text : SameComments renaming (kept first_comments) (kept (before_tokens (documented 122 26 ∷ []))) → ⊥
  pub other_trailing : SameComments renaming (kept with_trailing) (kept second_comments) → ⊥
  pub answers : SameAnswers renaming (facts 23) first first_comments (facts 48) second second_comments
  pub skeleton : skeleton_of (facts 23) first ≡ module' (at 10 39) (list (exported 10 2 never_value 38 ∷ [])) Absent
  pub first_stay : kept_comments (facts 23) first first_comments ≡ before_tokens (documented 120 1 ∷ [])
  pub second_stay : kept_comments (facts 48) second second_comments ≡ before_tokens (documented 120 26 ∷ [])
