-- The words of the keywords that are types.
use Rattle.fast_check_tree_syntax.specs.declared.kind.Word.{Word}
use Rattle.fast_check_tree_syntax.specs.declared.kind.Word.TheVariants as word
use Rattle.fast_check_tree_helpers.specs.declared.keywords.TsKeywordTypeKind.{TsKeywordTypeKind}
use Rattle.fast_check_tree_helpers.specs.declared.keywords.TsKeywordTypeKind.TheVariants as keyword

abbrev pub word_of : TsKeywordTypeKind → Word
word_of keyword.TsAnyKeyword = word.TsAnyKeyword
word_of keyword.TsUnknownKeyword = word.TsUnknownKeyword
word_of keyword.TsNumberKeyword = word.TsNumberKeyword
word_of keyword.TsObjectKeyword = word.TsObjectKeyword
word_of keyword.TsBooleanKeyword = word.TsBooleanKeyword
word_of keyword.TsBigIntKeyword = word.TsBigIntKeyword
word_of keyword.TsStringKeyword = word.TsStringKeyword
word_of keyword.TsSymbolKeyword = word.TsSymbolKeyword
word_of keyword.TsVoidKeyword = word.TsVoidKeyword
word_of keyword.TsUndefinedKeyword = word.TsUndefinedKeyword
word_of keyword.TsNullKeyword = word.TsNullKeyword
word_of keyword.TsNeverKeyword = word.TsNeverKeyword
word_of keyword.TsIntrinsicKeyword = word.TsIntrinsicKeyword
