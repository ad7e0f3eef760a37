-- The words of JSON, and the word of the tree that each is read as and printed from. They are written by hand, beside the tables of the
-- code, which are written from a page of forms.
use Prim.Native.String.{String}
use Rattle.std.specs.Prelude.{◌≡◌, List, [], ◌∷◌, codes}
use Rattle.fast_check_tree_syntax.specs.declared.kind.Word.{Word}
use Rattle.fast_check_tree_syntax.specs.declared.kind.Word.TheVariants as words
use Rattle.fast_check_read.specs.declared.schema.form.Words.TheVariants as lists
use Rattle.fast_check_read.specs.schema.Rows.{WordRow}
use Rattle.fast_check_read.specs.schema.Schema.{words_of}

abbrev pub named : String → Word → WordRow
named text word = record { name = codes text; word = word }

-- what declares variables, what a method is, who may use a member, types of one word, and what stands before a type
pub record WordsAreNamed : Type 0 where
  pub variables : words_of lists.VarDeclKind ≡ named "Var" words.Var ∷ named "Let" words.Let ∷ named "Const" words.Const ∷ []
  pub methods : words_of lists.MethodKind ≡
      named "Method" words.Method ∷ named "Getter" words.Getter ∷ named "Setter" words.Setter ∷ []
  pub accessibility : words_of lists.Accessibility ≡
      named "Public" words.Public ∷ named "Protected" words.Protected ∷ named "Private" words.Private ∷ []
  pub keywords : words_of lists.TsKeywordTypeKind ≡
      named "TsAnyKeyword" words.TsAnyKeyword ∷ named "TsUnknownKeyword" words.TsUnknownKeyword ∷
      named "TsNumberKeyword" words.TsNumberKeyword ∷ named "TsObjectKeyword" words.TsObjectKeyword ∷
      named "TsBooleanKeyword" words.TsBooleanKeyword ∷ named "TsBigIntKeyword" words.TsBigIntKeyword ∷
      named "TsStringKeyword" words.TsStringKeyword ∷ named "TsSymbolKeyword" words.TsSymbolKeyword ∷
      named "TsVoidKeyword" words.TsVoidKeyword ∷ named "TsUndefinedKeyword" words.TsUndefinedKeyword ∷
      named "TsNullKeyword" words.TsNullKeyword ∷ named "TsNeverKeyword" words.TsNeverKeyword ∷
      named "TsIntrinsicKeyword" words.TsIntrinsicKeyword ∷ []
  pub operators : words_of lists.TsTypeOperatorOp ≡
      named "KeyOf" words.KeyOf ∷ named "Unique" words.Unique ∷ named "ReadOnly" words.ReadOnly ∷ []
