-- Skeletons of the same items depend on the same sources.
use Rattle.std.specs.Prelude.{◌≡◌, ℕ, Bool, true, false, List, [], ◌∷◌, ◌++◌, flat_map, if◌then◌else◌, refl}
use Rattle.std.proofs.Common.{ap, ◌∙◌, sym, subst, true≢false}
use Rattle.fast_check_transform_imports.specs.StaticSources.{source_of, source_by_kind, item_source, static_sources}
use Rattle.fast_check_tables_diagnostics.specs.declared.parsed_source.tables.fast_check_module.StaticSource.{StaticSource}
use Rattle.fast_check_tree_forms_programs.specs.ModuleDecls.{ImportDecl-src, NamedExport-src}
use Rattle.fast_check_tree_forms_programs.specs.ModuleDecls.{ExportAll-src}
use Rattle.fast_check_meaning_skeleton.specs.Worlds.{SameSkeleton}
use Rattle.fast_check_tree_syntax.specs.declared.kind.Kind.{Kind}
use Rattle.fast_check_tree_syntax.specs.declared.kind.Kind.TheVariants as kinds
use Rattle.fast_check_tree_syntax.specs.declared.tree.Tree.{Tree}
use Rattle.fast_check_tree_syntax.specs.Moves.{Renaming, IsRenaming, partners, twice}
use Rattle.fast_check_tree_syntax.specs.Same.{SameTree, SameTrees, SameRange, Each}
use Rattle.fast_check_tree_syntax.specs.Same as s
use Rattle.fast_check_tree_syntax.specs.Shape.{kind_of, parts, part, is_absent, text_of, flag_of, range_of}
use Rattle.fast_check_tree_syntax.proofs.Moved.{part_moved, parts_moved, kind_of_moved, is_absent_moved, text_of_moved, flag_of_moved}
use Rattle.fast_check_tree_syntax.proofs.Moved.{range_of_moved}
use Rattle.fast_check_tree_syntax.proofs.Partners.{partners-keep, twice-keeps}
use Rattle.fast_check_tree_syntax.proofs.Same.{tree_to, tree_from, trees_from, range_from}
use Rattle.fast_check_transform_pair.specs.Compared.{SameStaticSource}

-- two lists one by one, behind two others
each_append : {A : Type 0} (R : A → A → Type 0) (xs ys zs ws : List A) → Each R xs ys → Each R zs ws → Each R (xs ++ zs) (ys ++ ws)
each_append R [] [] zs ws h k = k
each_append R (x ∷ xs) (y ∷ ys) zs ws h k = (h.0, each_append R xs ys zs ws h.1 k)
each_append R [] (y ∷ ys) zs ws h k = absurd h
each_append R (x ∷ xs) [] zs ws h k = absurd h

module _ (r : Renaming) (ok : IsRenaming r) where
  -- what two trees that are the same read as
  field_same : (field : Tree → Tree) (n : ℕ) → ((t : Tree) → field t ≡ part n t) → {t u : Tree} → SameTree r t u →
      SameTree r (field t) (field u)
  field_same field n is {t = t} {u = u} h =
      let parts_are : part n t ≡ field t = sym (is t) in
      subst (λ x. SameTree r x (field u)) parts_are
      (subst (SameTree r (part n t)) (sym (is u))
      (tree_from r ok (part n t) (part n u) (sym (part_moved (partners r) n t) ∙ (ap (part n) (tree_to r ok h) ∙ part_moved twice n u))))

  flag_same : {t u : Tree} → SameTree r t u → flag_of t ≡ flag_of u
  flag_same {t = t} {u = u} h = sym (flag_of_moved (partners r) t) ∙ (ap flag_of (tree_to r ok h) ∙ flag_of_moved twice u)

  text_same : {t u : Tree} → SameTree r t u → text_of t ≡ text_of u
  text_same {t = t} {u = u} h = sym (text_of_moved (partners r) t) ∙ (ap text_of (tree_to r ok h) ∙ text_of_moved twice u)

  absent_same : {t u : Tree} → SameTree r t u → is_absent t ≡ is_absent u
  absent_same {t = t} {u = u} h = sym (is_absent_moved (partners r) t) ∙ (ap is_absent (tree_to r ok h) ∙ is_absent_moved twice u)

  kind_same : {t u : Tree} → SameTree r t u → kind_of t ≡ kind_of u
  kind_same {t = t} {u = u} h = sym (kind_of_moved (partners r) t) ∙ (ap kind_of (tree_to r ok h) ∙ kind_of_moved twice u)

  range_same : {t u : Tree} → SameTree r t u → SameRange r (range_of t) (range_of u)
  range_same {t = t} {u = u} h =
      range_from r ok (range_of t) (range_of u)
      (sym (range_of_moved (partners r) (partners-keep r ok) t) ∙ (ap range_of (tree_to r ok h) ∙ range_of_moved twice twice-keeps u))

  parts_same : {t u : Tree} → SameTree r t u → SameTrees r (parts t) (parts u)
  parts_same {t = t} {u = u} h =
      trees_from r ok (parts t) (parts u) (sym (parts_moved (partners r) t) ∙ (ap parts (tree_to r ok h) ∙ parts_moved twice u))

  -- a literal stands in both or in neither
  of_both : (b c : Bool) {x y : StaticSource} → b ≡ c → SameStaticSource r x y →
      Each (SameStaticSource r) (if b then [] else x ∷ []) (if c then [] else y ∷ [])
  of_both true true e h = tt
  of_both false false e h = (h, tt)
  of_both true false e h = absurd (true≢false e)
  of_both false true e h = absurd (true≢false (sym e))

  source_same : (is_export : Bool) {x y : Bool} {t u : Tree} → x ≡ y → SameTree r t u →
      Each (SameStaticSource r) (source_of is_export x t) (source_of is_export y u)
  source_same is_export {t = t} {u = u} e h =
      of_both (is_absent t) (is_absent u) (absent_same h)
      (record {
        specifier = text_same (field_same (part 1) 1 (λ t. refl) h);
        range = range_same (field_same (part 0) 0 (λ t. refl) h);
        is_export = refl;
        type_only = e;
      })

  by_kind : (kind : Kind) {t u : Tree} → SameTree r t u → Each (SameStaticSource r) (source_by_kind kind t) (source_by_kind kind u)
  by_kind kinds.ImportDecl h = source_same false (flag_same (field_same (part 3) 3 (λ t. refl) h))
      (field_same ImportDecl-src 2 (λ t. refl) h)
  by_kind kinds.NamedExport h = source_same true (flag_same (field_same (part 3) 3 (λ t. refl) h))
      (field_same NamedExport-src 2 (λ t. refl) h)
  by_kind kinds.ExportAll h = source_same true (flag_same (field_same (part 2) 2 (λ t. refl) h)) (field_same ExportAll-src 1 (λ t. refl) h)
  by_kind _ h = tt

  item_same : {t u : Tree} → SameTree r t u → Each (SameStaticSource r) (item_source t) (item_source u)
  item_same {t = t} {u = u} h =
      subst (λ kind. Each (SameStaticSource r) (item_source t) (source_by_kind kind u)) (kind_same h) (by_kind (kind_of t) h)

  all_same : {ts us : List Tree} → SameTrees r ts us → Each (SameStaticSource r) (flat_map item_source ts) (flat_map item_source us)
  all_same s.SameTrees.end = tt
  all_same (s.SameTrees.next {t = t} {u = u} {ts = ts} {us = us} h hs) =
      each_append (SameStaticSource r) (item_source t) (item_source u) (flat_map item_source ts) (flat_map item_source us) (item_same h)
      (all_same hs)

  pub sources_same : {t u : Tree} → SameSkeleton r t u → Each (SameStaticSource r) (static_sources t) (static_sources u)
  sources_same h = all_same (parts_same h.body)
