-- What is answered to imports and exports, case by case.
use Rattle.std.specs.Prelude.{◌≡◌, ℕ, ◌+◌, ◌<◌, ◌≤◌, Bool, true, false, cond, Option, List, [], ◌∷◌, ◌++◌, length, take, refl}
use Rattle.std.specs.Prelude.{if◌then◌else◌}
use Rattle.std.specs.List.{filter}
use lib.ListN.{get_or}
use Rattle.std.proofs.Common.{ap, ◌∙◌, sym, append-nil}
use Rattle.std.proofs.lemmas.List.{take_all}
use Rattle.std.proofs.lemmas.List.Elements.{filter_more}
use Rattle.fast_check_tree_syntax.specs.declared.tree.Tree.{Tree}
use Rattle.fast_check_tree_syntax.specs.Shape.{is_absent, parts}
use Rattle.fast_check_tree_forms_programs.specs.Literals.{Str-value}
use Rattle.fast_check_tree_forms_programs.specs.ModuleDecls.{ImportDecl-specifiers, NamedExport-specifiers, ExportAll-span}
use Rattle.fast_check_tree_forms_programs.specs.ModuleDecls.{TsImportEqualsDecl-span}
use Rattle.fast_check_meaning_signatures.specs.Answers.{faultless, answer_of}
use Rattle.fast_check_meaning_signatures.specs.Seen.{Seen, written}
use Rattle.fast_check_meaning_skeleton.specs.declared.rules.ImportExportRule.TheVariants.{Import, Export, All, Alias}
use Rattle.fast_check_meaning_skeleton.specs.ImportsExports.{is_public_specifier, public_specifiers, source_of, answered_source}
use Rattle.fast_check_meaning_skeleton.specs.ImportsExports.{with_specifiers, import_with, export_with, all_exported}
use Rattle.fast_check_meaning_skeleton.specs.ModuleFacts.{ModuleFacts}
use Rattle.fast_check_transform_imports.specs.ImportsExports.{import_export_answer}

-- ---- sources

module _ (facts : ModuleFacts) (src : Tree) where
  abbrev source_if : Bool → Option (List ℕ) → Tree
  source_if absent text = if absent then src else source_of src text

  pub own_source : is_absent src ≡ true → src ≡ answered_source facts src
  own_source e = ap (λ b. source_if b (facts.relative (Str-value src))) (sym e)

  pub present_source : is_absent src ≡ false → {value : List ℕ} {text : Option (List ℕ)} → text ≡ facts.relative value →
      value ≡ Str-value src →
      source_of src text ≡ answered_source facts src
  present_source e p q = λ i. source_if (sym e i) ((p ∙ ap facts.relative q) i)

-- ---- specifiers

module _ (facts : ModuleFacts) (ts : List Tree) (i : ℕ) (t : Tree) (h : i < length ts) (e : t ≡ get_or ts i t) where
  abbrev more_if : Bool → List Tree
  more_if b = filter (is_public_specifier facts) (take i ts) ++ cond b (t ∷ []) []

  more_is : filter (is_public_specifier facts) (take (i + 1) ts) ≡ more_if (is_public_specifier facts t)
  more_is =
      filter_more (is_public_specifier facts) ts i t h
      ∙ ap (λ u. filter (is_public_specifier facts) (take i ts) ++ cond (is_public_specifier facts u) (u ∷ []) []) (sym e)

  pub public_more : is_public_specifier facts t ≡ true → {xs ys : List Tree} → xs ≡ filter (is_public_specifier facts) (take i ts) →
      ys ≡ xs ++ t ∷ [] → ys ≡ filter (is_public_specifier facts) (take (i + 1) ts)
  public_more p q r = r ∙ (ap (λ xs. xs ++ t ∷ []) q ∙ sym (more_is ∙ ap more_if p))

  pub private_more : is_public_specifier facts t ≡ false → {xs : List Tree} → xs ≡ filter (is_public_specifier facts) (take i ts) →
      xs ≡ filter (is_public_specifier facts) (take (i + 1) ts)
  private_more p q = q ∙ sym (more_is ∙ (ap more_if p ∙ append-nil (filter (is_public_specifier facts) (take i ts))))

pub all_specifiers : (facts : ModuleFacts) (ts : List Tree) (i : ℕ) → length ts ≤ i → (specifiers : Tree) → ts ≡ parts specifiers →
    {xs : List Tree} → xs ≡ filter (is_public_specifier facts) (take i ts) → xs ≡ public_specifiers facts specifiers
all_specifiers facts ts i h specifiers p q = q ∙ ap (filter (is_public_specifier facts)) (take_all i ts h ∙ p)

-- ---- imports and exports

none_left : (make : List Tree → Tree) {xs ys : List Tree} → xs ≡ ys → xs ≡ [] → answer_of (with_specifiers make ys) ≡ faultless []
none_left make p e = ap (λ zs. answer_of (with_specifiers make zs)) (sym p ∙ e)

one_made : (make : List Tree → Tree) (xs : List Tree) → (xs ≡ [] → ⊥) → answer_of (with_specifiers make xs) ≡ faultless (make xs ∷ [])
one_made make [] n = absurd (n refl)
one_made make (x ∷ xs) n = refl

some_left : (make : List Tree → Tree) {xs ys : List Tree} → xs ≡ ys → (xs ≡ [] → ⊥) → {t : Tree} → t ≡ make xs →
    answer_of (with_specifiers make ys) ≡ faultless (t ∷ [])
some_left make {xs = xs} p n q = ap (λ zs. answer_of (with_specifiers make zs)) (sym p) ∙
    (one_made make xs n ∙ ap (λ u. faultless (u ∷ [])) (sym q))

module _ (facts : ModuleFacts) (t : Tree) where
  pub no_import : {xs : List Tree} {specifiers : Tree} → xs ≡ public_specifiers facts specifiers → specifiers ≡ ImportDecl-specifiers t →
      xs ≡ [] →
      import_export_answer facts t Import ≡ faultless []
  unfolding import_export_answer
  no_import p q e = none_left (import_with facts t) (p ∙ ap (public_specifiers facts) q) e

  pub made_import : {xs : List Tree} {specifiers : Tree} → xs ≡ public_specifiers facts specifiers → specifiers ≡ ImportDecl-specifiers t →
      (xs ≡ [] → ⊥) → {made : Tree} → made ≡ import_with facts t xs → import_export_answer facts t Import ≡ faultless (made ∷ [])
  unfolding import_export_answer
  made_import p q n r = some_left (import_with facts t) (p ∙ ap (public_specifiers facts) q) n r

  pub no_export : {xs : List Tree} {specifiers : Tree} → xs ≡ public_specifiers facts specifiers → specifiers ≡ NamedExport-specifiers t →
      xs ≡ [] →
      import_export_answer facts t Export ≡ faultless []
  unfolding import_export_answer
  no_export p q e = none_left (export_with facts t) (p ∙ ap (public_specifiers facts) q) e

  pub made_export : {xs : List Tree} {specifiers : Tree} → xs ≡ public_specifiers facts specifiers →
      specifiers ≡ NamedExport-specifiers t →
      (xs ≡ [] → ⊥) → {made : Tree} → made ≡ export_with facts t xs → import_export_answer facts t Export ≡ faultless (made ∷ [])
  unfolding import_export_answer
  made_export p q n r = some_left (export_with facts t) (p ∙ ap (public_specifiers facts) q) n r

  abbrev one_if : Bool → Tree → List Seen
  one_if p made = if p then written made ∷ [] else []

  pub no_all : facts.is_public (ExportAll-span t) ≡ false → import_export_answer facts t All ≡ faultless []
  unfolding import_export_answer
  no_all e = ap (λ p. answer_of (one_if p (all_exported facts t))) e

  pub made_all : facts.is_public (ExportAll-span t) ≡ true → {made : Tree} → made ≡ all_exported facts t →
      import_export_answer facts t All ≡ faultless (made ∷ [])
  unfolding import_export_answer
  made_all e r = (λ i. answer_of (one_if (e i) (sym r i)))

  pub no_alias : facts.is_public (TsImportEqualsDecl-span t) ≡ false → import_export_answer facts t Alias ≡ faultless []
  unfolding import_export_answer
  no_alias e = ap (λ p. answer_of (one_if p t)) e

  pub made_alias : facts.is_public (TsImportEqualsDecl-span t) ≡ true → {made : Tree} → made ≡ t →
      import_export_answer facts t Alias ≡ faultless (made ∷ [])
  unfolding import_export_answer
  made_alias e r = (λ i. answer_of (one_if (e i) (sym r i)))
