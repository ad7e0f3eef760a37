-- Declarations of which none is an alias ask for nothing by a path.
use Rattle.std.proofs.Common.{◌≡◌, ◌∙◌, sym, ap, refl, Bool, true, false, ◌||◌, List, [], ◌∷◌, ◌++◌}
use Rattle.std.specs.List.{flat_map}
use Rattle.std.proofs.lemmas.Bool.{false≢true}
use Rattle.fast_check_finder_lattice.specs.Names.{Path}
use Rattle.fast_check_tables_symbols.specs.declared.decl.SymbolDecl.{SymbolDecl}
use Rattle.fast_check_tables_symbols.specs.declared.decl.SymbolDeclKind.{SymbolDeclKind}
use Rattle.fast_check_tables_symbols.specs.declared.decl.SymbolDeclKind.TheVariants.{Target, QualifiedTarget, FileRef, Definition}
use Rattle.fast_check_finder_demands.specs.declared.symbol_demands.demand.Extent.{Extent}
use Rattle.fast_check_finder_demands.specs.symbol_demands.Decls.{is_alias, has_alias}
use Rattle.fast_check_finder_demands.specs.name_demands.Files.{FileDemand, alias_files}

module _ (p : Path) (x : Extent) where
  no_file : (k : SymbolDeclKind) → is_alias k ≡ false → alias_files p x k ≡ []
  no_file (Target id) e = refl
  no_file (QualifiedTarget id parts) e = refl
  no_file (FileRef specifier name) e = absurd (false≢true (sym e))
  no_file (Definition _) e = refl

  pub no_files : (decls : List SymbolDecl) → has_alias decls ≡ false → flat_map (λ d. alias_files p x d.kind) decls ≡ []
  no_files [] e = refl
  no_files (d ∷ ds) e = by (is_alias d.kind) refl e (no_files ds)
    where
      by : (b : Bool) → is_alias d.kind ≡ b → (b || has_alias ds) ≡ false → (has_alias ds ≡ false → flat_map (λ d. alias_files p x d.kind) ds ≡ []) →
          flat_map (λ d. alias_files p x d.kind) (d ∷ ds) ≡ []
      by true h e below = absurd (false≢true (sym e))
      by false h e below = ap (λ (fs : List FileDemand). fs ++ flat_map (λ d. alias_files p x d.kind) ds) (no_file d.kind h) ∙ below e
