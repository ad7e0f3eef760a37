-- Imports and exports of names that agree are seen alike.
use Rattle.std.specs.Prelude.{◌≡◌, ℕ, Bool, true, false, Option, Some, None, unwrap_or, List, [], ◌∷◌, map, refl, if◌then◌else◌}
use Rattle.std.specs.List.{filter}
use Rattle.std.proofs.Common.{ap, ap₂, ◌∙◌, sym, subst₂, cond}
use Rattle.fast_check_tree_syntax.specs.declared.kind.Kind.TheVariants as kinds
use Rattle.fast_check_tree_syntax.specs.declared.source.SourceRange.{SourceRange}
use Rattle.fast_check_tree_syntax.specs.declared.tree.Tree as tree
use Rattle.fast_check_tree_syntax.specs.declared.tree.Tree.{Tree, Absent}
use Rattle.fast_check_tree_syntax.specs.Shape.{parts, is_absent, list}
use Rattle.fast_check_tree_syntax.specs.Moves.{Renaming, IsRenaming, partners, twice, moved}
use Rattle.fast_check_tree_syntax.specs.Same.{SameTree, SameRange}
use Rattle.fast_check_tree_syntax.proofs.Moved.{absent_moved, text_moved}
use Rattle.fast_check_tree_syntax.proofs.Same.{tree_to, range_to}
use Rattle.fast_check_tree_forms_programs.specs.Literals.{Str-span, Str-value}
use Rattle.fast_check_tree_forms_programs.specs.ModuleDecls.{ImportDecl-span, ImportDecl-specifiers, ImportDecl-src, ImportDecl-type_only}
use Rattle.fast_check_tree_forms_programs.specs.ModuleDecls.{ImportDecl-with, ImportDecl-phase, NamedExport-span, NamedExport-specifiers}
use Rattle.fast_check_tree_forms_programs.specs.ModuleDecls.{NamedExport-src, NamedExport-type_only, NamedExport-with, ExportAll-span}
use Rattle.fast_check_tree_forms_programs.specs.ModuleDecls.{ExportAll-src, ExportAll-type_only, ExportAll-with, TsImportEqualsDecl-span}
use Rattle.fast_check_tree_helpers.specs.ranges.Ranges.{range_of_node}
use Rattle.fast_check_meaning_signatures.specs.Seen.{written}
use Rattle.fast_check_meaning_skeleton.proofs.AlikeTrees.{TreeAlike, new_alike, absent_alike, range_leaf_alike, flag_leaf_alike, node_alike}
use Rattle.fast_check_meaning_skeleton.proofs.AlikeTrees.{range_field_alike}
use Rattle.fast_check_meaning_skeleton.proofs.AlikeSeen.{AllAlike, same_written, written_alike, all_alike_if}
use Rattle.fast_check_meaning_skeleton.specs.declared.rules.ItemRule.TheVariants.{ImportExport}
use Rattle.fast_check_meaning_skeleton.specs.declared.rules.ImportExportRule.{ImportExportRule}
use Rattle.fast_check_meaning_skeleton.specs.declared.rules.ImportExportRule.TheVariants.{Import, Export, All, Alias}
use Rattle.fast_check_meaning_skeleton.specs.ImportsExports.{is_public_specifier, public_specifiers, source_of, answered_source, with_specifiers}
use Rattle.fast_check_meaning_skeleton.specs.ImportsExports.{import_with, export_with, all_exported, import_export_seen}
use Rattle.fast_check_meaning_skeleton.specs.Rules.{item_rule}
use Rattle.fast_check_meaning_skeleton.specs.SameImportsExports.{IsSilentImportExport, SamePublic, SameSource, SameImport, SameNamedExport}
use Rattle.fast_check_meaning_skeleton.specs.SameImportsExports.{SameExportAll, SameImportExport}
use Rattle.fast_check_meaning_skeleton.specs.SameImportsExports as s
use Rattle.fast_check_meaning_skeleton.specs.ModuleFacts.{ModuleFacts}
use Rattle.fast_check_meaning_skeleton.proofs.Ruled.{rule_by_kind, alias_rule}
use Rattle.fast_check_meaning_skeleton.proofs.ItemRanges.{range_of_import, range_of_names, range_of_all, range_alike}

-- one that is silent is not seen
pub record IsUnseenImportExport (facts : ModuleFacts) (t : Tree) : Type 0 where
  pub rule : ImportExportRule
  pub is : item_rule t ≡ ImportExport rule
  pub unseen : import_export_seen facts t rule ≡ []

pub silent_import_export : (facts : ModuleFacts) (t : Tree) → IsSilentImportExport facts t → IsUnseenImportExport facts t
silent_import_export facts t (s.IsSilentImportExport.import k e) =
    record { rule = Import; is = rule_by_kind t kinds.ImportDecl k; unseen = ap (with_specifiers (import_with facts t)) e }
silent_import_export facts t (s.IsSilentImportExport.export k e) =
    record { rule = Export; is = rule_by_kind t kinds.NamedExport k; unseen = ap (with_specifiers (export_with facts t)) e }
silent_import_export facts t (s.IsSilentImportExport.all k e) =
    record {
      rule = All;
      is = rule_by_kind t kinds.ExportAll k;
      unseen =
          ap (λ b. if b then written (all_exported facts t) ∷ [] else []) e;
    }
silent_import_export facts t (s.IsSilentImportExport.alias k n e) =
    record { rule = Alias; is = alias_rule t k n; unseen = ap (λ b. if b then written t ∷ [] else []) e }

-- ---- what agrees is seen alike

module _ (r : Renaming) (ok : IsRenaming r) where
  abbrev TreesAlike : List Tree → List Tree → Type 0
  TreesAlike ts us = map (moved (partners r)) ts ≡ map (moved twice) us

  -- what is public of two lists
  public_alike : (p q : Tree → Bool) (ts us : List Tree) → SamePublic p q (SameTree r) ts us → TreesAlike (filter p ts) (filter q us)
  public_alike p q [] [] s.SamePublic.end = refl
  public_alike p q (t ∷ ts) us (s.SamePublic.left e rest) =
      ap (λ b. map (moved (partners r)) (cond b (t ∷ filter p ts) (filter p ts))) e ∙ public_alike p q ts us rest
  public_alike p q ts (u ∷ us) (s.SamePublic.right e rest) =
      public_alike p q ts us rest ∙ sym (ap (λ b. map (moved twice) (cond b (u ∷ filter q us) (filter q us))) e)
  public_alike p q (t ∷ ts) (u ∷ us) (s.SamePublic.next e x rest) = go (p t) (q u) e (public_alike p q ts us rest)
    where
      go : (m n : Bool) → m ≡ n → TreesAlike (filter p ts) (filter q us) →
          TreesAlike (cond m (t ∷ filter p ts) (filter p ts)) (cond n (u ∷ filter q us) (filter q us))
      go true true e f = ap₂ (λ y ys. y ∷ ys) (tree_to r ok x) f
      go false false e f = f
      go true false e f = cc
      go false true e f = cc

  with_alike : (make make' : List Tree → Tree) → ((ts us : List Tree) → TreesAlike ts us → TreeAlike r ok (make ts) (make' us)) →
      (ts us : List Tree) → TreesAlike ts us → AllAlike r ok (with_specifiers make ts) (with_specifiers make' us)
  with_alike make make' f [] [] e = refl
  with_alike make make' f (t ∷ ts) (u ∷ us) e = ap (λ x. written x ∷ []) (f (t ∷ ts) (u ∷ us) e)
  with_alike make make' f [] (u ∷ us) e = cc
  with_alike make make' f (t ∷ ts) [] e = cc

  span_alike : (x y : SourceRange) → SameRange r x y → TreeAlike r ok (tree.Range x) (tree.Range y)
  span_alike x y d = range_leaf_alike r ok x y (range_to r ok x y d)

  text_alike : (x y : List ℕ) → x ≡ y → TreeAlike r ok (tree.Text x) (tree.Text y)
  text_alike x y e = text_moved (partners r) x ∙ (ap tree.Text e ∙ sym (text_moved twice y))

  list_alike : (ts us : List Tree) → TreesAlike ts us → TreeAlike r ok (list ts) (list us)
  list_alike ts us e = node_alike r ok kinds.List ts us e

  module _ (a b : ModuleFacts) where
    -- the text that stands for two sources
    written_source : (t u : Tree) (o o' : Option (List ℕ)) → o ≡ o' → SameTree r t u → TreeAlike r ok (source_of t o) (source_of u o')
    written_source t u None None e d = tree_to r ok d
    written_source t u (Some x) (Some y) e d = node_alike r ok kinds.Str (tree.Range (Str-span t) ∷ tree.Text x ∷ Absent ∷ [])
        (tree.Range (Str-span u) ∷ tree.Text y ∷ Absent ∷ [])
        (λ i. range_leaf_alike r ok (Str-span t) (Str-span u) (range_field_alike r ok Str-span _ (λ t. refl) t u (tree_to r ok d)) i ∷
        text_alike x y (ap (λ o. unwrap_or o y) e) i ∷ new_alike r ok Absent (λ m keeps. absent_moved m) i ∷ [])
    written_source t u None (Some y) e d = cc
    written_source t u (Some x) None e d = cc

    source_alike : (t u : Tree) → SameSource r a b t u → TreeAlike r ok (answered_source a t) (answered_source b u)
    source_alike t u d =
        go (is_absent t) (is_absent u) (absent_alike r ok t u (tree_to r ok d.tree)) (tree_to r ok d.tree)
        (λ e. written_source t u (a.relative (Str-value t)) (b.relative (Str-value u)) (d.relative e) d.tree)
      where
        go : (m n : Bool) → m ≡ n → TreeAlike r ok t u →
            (m ≡ false → TreeAlike r ok (source_of t (a.relative (Str-value t))) (source_of u (b.relative (Str-value u)))) →
            TreeAlike r ok (if m then t else source_of t (a.relative (Str-value t)))
            (if n then u else source_of u (b.relative (Str-value u)))
        go true true e f g = f
        go false false e f g = g refl
        go true false e f g = cc
        go false true e f g = cc

    import_alike : (t u : Tree) → SameImport r a b t u → AllAlike r ok (import_export_seen a t Import) (import_export_seen b u Import)
    import_alike t u d = with_alike (import_with a t) (import_with b u) go (public_specifiers a (ImportDecl-specifiers t))
        (public_specifiers b (ImportDecl-specifiers u))
        (public_alike (is_public_specifier a) (is_public_specifier b) (parts (ImportDecl-specifiers t))
        (parts (ImportDecl-specifiers u)) d.specifiers)
      where
        parts_of : ModuleFacts → Tree → List Tree → List Tree
        parts_of facts v specifiers = tree.Range (ImportDecl-span v) ∷ list specifiers ∷ answered_source facts (ImportDecl-src v) ∷
            tree.Flag (ImportDecl-type_only v) ∷ ImportDecl-with v ∷ tree.Text (ImportDecl-phase v) ∷ []

        go : (ts us : List Tree) → TreesAlike ts us → TreeAlike r ok (import_with a t ts) (import_with b u us)
        go ts us e = node_alike r ok kinds.ImportDecl (parts_of a t ts) (parts_of b u us)
            (λ i. span_alike (ImportDecl-span t) (ImportDecl-span u) d.span i ∷
            list_alike ts us e i ∷ source_alike (ImportDecl-src t) (ImportDecl-src u) d.src i ∷
            flag_leaf_alike r ok (ImportDecl-type_only t) (ImportDecl-type_only u) d.type_only i ∷ tree_to r ok d.with i ∷
            text_alike (ImportDecl-phase t) (ImportDecl-phase u) d.phase i ∷ [])

    export_alike : (t u : Tree) → SameNamedExport r a b t u →
        AllAlike r ok (import_export_seen a t Export) (import_export_seen b u Export)
    export_alike t u d = with_alike (export_with a t) (export_with b u) go (public_specifiers a (NamedExport-specifiers t))
        (public_specifiers b (NamedExport-specifiers u))
        (public_alike (is_public_specifier a) (is_public_specifier b) (parts (NamedExport-specifiers t))
        (parts (NamedExport-specifiers u)) d.specifiers)
      where
        parts_of : ModuleFacts → Tree → List Tree → List Tree
        parts_of facts v specifiers = tree.Range (NamedExport-span v) ∷ list specifiers ∷ answered_source facts (NamedExport-src v) ∷
            tree.Flag (NamedExport-type_only v) ∷ NamedExport-with v ∷ []

        go : (ts us : List Tree) → TreesAlike ts us → TreeAlike r ok (export_with a t ts) (export_with b u us)
        go ts us e = node_alike r ok kinds.NamedExport (parts_of a t ts) (parts_of b u us)
            (λ i. span_alike (NamedExport-span t) (NamedExport-span u) d.span i ∷ list_alike ts us e i ∷
            source_alike (NamedExport-src t) (NamedExport-src u) d.src i ∷
            flag_leaf_alike r ok (NamedExport-type_only t) (NamedExport-type_only u) d.type_only i ∷ tree_to r ok d.with i ∷ [])

    all_alike : (t u : Tree) → SameExportAll r a b t u → AllAlike r ok (import_export_seen a t All) (import_export_seen b u All)
    all_alike t u d = all_alike_if r ok (a.is_public (ExportAll-span t)) (b.is_public (ExportAll-span u)) (written (all_exported a t))
        (written (all_exported b u)) d.is_public (written_alike r ok _ _ (node_alike r ok kinds.ExportAll (parts_of a t) (parts_of b u)
        (λ i. span_alike (ExportAll-span t) (ExportAll-span u) d.span i ∷ source_alike (ExportAll-src t) (ExportAll-src u) d.src i ∷
        flag_leaf_alike r ok (ExportAll-type_only t) (ExportAll-type_only u) d.type_only i ∷ tree_to r ok d.with i ∷ [])))
      where
        parts_of : ModuleFacts → Tree → List Tree
        parts_of facts v = tree.Range (ExportAll-span v) ∷ answered_source facts (ExportAll-src v) ∷ tree.Flag (ExportAll-type_only v) ∷
            ExportAll-with v ∷ []

    -- the same is done with both, what is seen is alike, and they begin at partners
    pub record ImportsExportsAlike (t u : Tree) : Type 0 where
      pub rule : ImportExportRule
      pub left : item_rule t ≡ ImportExport rule
      pub right : item_rule u ≡ ImportExport rule
      pub alike : AllAlike r ok (import_export_seen a t rule) (import_export_seen b u rule)
      pub begins : SameRange r (range_of_node t) (range_of_node u)

    pub imports_exports_alike : (t u : Tree) → SameImportExport r a b t u → ImportsExportsAlike t u
    imports_exports_alike t u (s.SameImportExport.import d) = record {
      rule = Import;
      left = rule_by_kind t kinds.ImportDecl d.kinds.left;
      right = rule_by_kind u kinds.ImportDecl d.kinds.right;
      alike = import_alike t u d;
      begins = subst₂ (SameRange r) (sym (range_of_import t d.kinds.left)) (sym (range_of_import u d.kinds.right)) d.span;
    }
    imports_exports_alike t u (s.SameImportExport.export d) = record {
      rule = Export;
      left = rule_by_kind t kinds.NamedExport d.kinds.left;
      right = rule_by_kind u kinds.NamedExport d.kinds.right;
      alike = export_alike t u d;
      begins = subst₂ (SameRange r) (sym (range_of_names t d.kinds.left)) (sym (range_of_names u d.kinds.right)) d.span;
    }
    imports_exports_alike t u (s.SameImportExport.all d) = record {
      rule = All;
      left = rule_by_kind t kinds.ExportAll d.kinds.left;
      right = rule_by_kind u kinds.ExportAll d.kinds.right;
      alike = all_alike t u d;
      begins = subst₂ (SameRange r) (sym (range_of_all t d.kinds.left)) (sym (range_of_all u d.kinds.right)) d.span;
    }
    imports_exports_alike t u (s.SameImportExport.alias k n m e d) = record {
      rule = Alias;
      left = alias_rule t k.left n;
      right = alias_rule u k.right m;
      alike = all_alike_if r ok (a.is_public (TsImportEqualsDecl-span t)) (b.is_public (TsImportEqualsDecl-span u)) (written t)
          (written u) e
          (same_written r ok d);
      begins = range_alike r ok t u d;
    }
