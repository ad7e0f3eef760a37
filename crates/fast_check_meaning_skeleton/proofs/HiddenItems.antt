-- Parts of a module that are not public go without a word, whatever stands in them.
use Rattle.fast_check_tree_syntax.specs.declared.source.SourceRange.{SourceRange}
use Rattle.fast_check_tree_syntax.specs.declared.tree.Tree.{Tree}
use Rattle.fast_check_tree_syntax.specs.Moves.{Renaming}
use Rattle.fast_check_meaning_skeleton.specs.Hidden as h
use Rattle.fast_check_meaning_skeleton.specs.SameDefaults as defaults
use Rattle.fast_check_meaning_skeleton.specs.SameImportsExports as imports_exports
use Rattle.fast_check_meaning_skeleton.specs.HiddenItems.{SilentDecls, SilentItems, UnseenItems, HidesItems}
use Rattle.fast_check_meaning_skeleton.specs.ModuleFacts.{ModuleFacts}

silent_decls : (facts : ModuleFacts) (place : SourceRange) (t : Tree) → SilentDecls facts place t
silent_decls facts place t = record {
  variables = λ k e. h.IsSilentDecl.variable k e;
  standing = λ s e. h.IsSilentDecl.standing s e;
  functions = λ k e. h.IsSilentDecl.function k e;
  classes = λ k e. h.IsSilentDecl.class k e;
  namespaces = λ k n e. h.IsSilentDecl.namespace k n e;
  usings = λ k e. h.IsSilentDecl.using k e;
}

silent_items : (facts : ModuleFacts) (t : Tree) → SilentItems facts t
silent_items facts t = record {
  decls = λ s. h.IsSilent.decl s;
  exported = λ k s. h.IsSilent.exported k s;
  statements = λ s. h.IsSilent.statement s;
  assignments = λ k n e. h.IsSilent.assigned k n e;
  imports = λ k e. h.IsSilent.import_export (imports_exports.IsSilentImportExport.import k e);
  exports = λ k e. h.IsSilent.import_export (imports_exports.IsSilentImportExport.export k e);
  stars = λ k e. h.IsSilent.import_export (imports_exports.IsSilentImportExport.all k e);
  aliases = λ k n e. h.IsSilent.import_export (imports_exports.IsSilentImportExport.alias k n e);
  values = λ k e. h.IsSilent.default (defaults.IsSilentDefault.value k e);
  defaults = λ k d e. h.IsSilent.default (defaults.IsSilentDefault.decl k d e);
}

unseen_items : (r : Renaming) (a b : ModuleFacts) → UnseenItems r a b
unseen_items r a b = record {
  left = λ t s alone. h.SameItems.left s alone h.SameItems.end;
  right = λ u s alone. h.SameItems.right s alone h.SameItems.end;
  left_names = λ p q t e. imports_exports.SamePublic.left e imports_exports.SamePublic.end;
  right_names = λ p q u e. imports_exports.SamePublic.right e imports_exports.SamePublic.end;
  values = λ mutability t u head types. h.SameDeclarator.given head types;
}

pub hides_items : HidesItems
hides_items r a b = record { decls = silent_decls; items = silent_items; unseen = unseen_items r a b }
