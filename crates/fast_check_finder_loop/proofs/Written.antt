-- What the tables of a module write can be demanded, with what follows from it within the module.
use Rattle.std.proofs.Common.{◌≡◌, ◌∙◌, sym, ap, refl, subst, ℕ, suc, ◌≤◌, Bool, true, false, cond, ◌&&◌, ◌||◌, not, List, [], ◌∷◌, ◌++◌}
use Rattle.std.proofs.Common.{length, Option, Some, None, ⊎_elim, ◌⊎◌, inl, inr, arith, string_bytes}
use Rattle.std.specs.Prelude.{option_to_list}
use Rattle.std.specs.List.{Contains, flat_map}
use Rattle.std.specs.Map.{lookup, values_of}
use Rattle.std.specs.Str.{bytes_eq}
use Rattle.std.specs.Option.{option_and_then, option_or}
use Rattle.std.proofs.lemmas.Bool.{cases_Bool}
use Rattle.std.proofs.lemmas.List.Elements.{Contains-append_left, Contains-append_right}
use Rattle.std.proofs.lemmas.Option.{none-some}
use Rattle.url.specs.Parts.{Parts, serialize}
use Rattle.fast_check_finder_lattice.specs.Names.{Name, Path, path_of}
use Rattle.fast_check_finder_lattice.specs.Imports.{default_name, NameDemand, names_but_default, each_name, subset_at, whole_at}
use Rattle.fast_check_tables_symbols.specs.declared.file_dep_name.FileDepName.TheVariants.{Star, Name as Named}
use Rattle.fast_check_tables_symbols.specs.declared.symbol_id.SymbolId.{SymbolId}
use Rattle.fast_check_tables_symbols.specs.declared.symbol.Symbol.{Symbol}
use Rattle.fast_check_tables_symbols.specs.declared.decl.SymbolDecl.{SymbolDecl}
use Rattle.fast_check_tables_symbols.specs.declared.decl.SymbolDeclKind.{SymbolDeclKind}
use Rattle.fast_check_tables_symbols.specs.declared.decl.SymbolDeclKind.TheVariants.{Target, QualifiedTarget, FileRef, Definition}
use Rattle.fast_check_tables_symbols.specs.declared.node.SymbolDep.{SymbolDep}
use Rattle.fast_check_tables_symbols.specs.declared.node.SymbolDep.TheVariants as deps
use Rattle.fast_check_tables_symbols.specs.declared.node.SymbolNodeDep.{SymbolNodeDep}
use Rattle.fast_check_tables_symbols.specs.Symbols.{symbol_of, has_id, mentioned_by}
use Rattle.fast_check_tables_symbols.specs.Exports.{export_named}
use Rattle.fast_check_tables_symbols.specs.Tables.{Tables}
use Rattle.fast_check_tables_symbols.proofs.TableFaults.{value_found as looked_inside}
use Rattle.fast_check_tables_graph.specs.declared.root_symbol.AnyModuleInfo.{AnyModuleInfo}
use Rattle.fast_check_tables_graph.specs.Modules.{is_typed_module}
use Rattle.fast_check_tables_graph.specs.Graph.{is_specifier}
use Rattle.fast_check_tables_graph.specs.Root.{specifier_of, module_named}
use Rattle.fast_check_finder_demands.specs.declared.symbol_demands.demand.Namespaces.{Namespaces}
use Rattle.fast_check_finder_demands.specs.declared.symbol_demands.demand.Extent.{Extent}
use Rattle.fast_check_finder_demands.specs.declared.symbol_demands.demand.Extent.TheVariants.{Touched, Whole}
use Rattle.fast_check_finder_demands.specs.symbol_demands.Demands.{Demand, Asked, by_reference, as_child, by_path}
use Rattle.fast_check_finder_demands.specs.symbol_demands.Decls.{binds, is_implementation}
use Rattle.fast_check_finder_demands.specs.symbol_demands.Rules.{names, reference, qualified}
use Rattle.fast_check_finder_demands.proofs.Elements.{later, in_map, in_flat}
use Rattle.fast_check_finder_demands.proofs.Each.{Each, each_nil, each_one, each_flat, each_cond, each_each_of}
use Rattle.fast_check_finder_demands.specs.name_demands.Files.{FileDemand, file_demand, path_demand, import_demand, dep_files, kind_files}
use Rattle.fast_check_finder_demands.specs.name_demands.Files.{decl_files, symbol_files, alias_files, asked_files, files}
use Rattle.fast_check_finder_demands.specs.re_exports.Modules.{tables_in, own_export}
use Rattle.fast_check_finder_demands.specs.re_exports.Roots.{roots, exported_in, export_whole, star_export, star_roots}
use Rattle.fast_check_finder_demands.specs.re_exports.Roots.{path_roots}
use Rattle.fast_check_finder_demands.specs.asked.Demands.{Text}
use Rattle.fast_check_finder_demands.proofs.asked.Maps.{first_in, found_in}
use Rattle.fast_check_finder_demands.specs.facts.GraphFacts.{Known, is_text, node_at, named_at, typed_info, info_at}
use Rattle.fast_check_finder_demands.proofs.Own.{last_inside}
use Rattle.fast_check_finder_loop.specs.Measure.{IsWithin}
use Rattle.fast_check_finder_loop.specs.Universe.{symbol_ids, table_ids, IsAskedAmong, IsAmong}
use Rattle.fast_check_finder_loop.specs.Reach.{dep_names, kind_names, symbol_names, table_names, all_names, paths_up_to, symbol_paths}
use Rattle.fast_check_finder_loop.specs.Reach.{all_ids, own_texts}
use Rattle.fast_check_finder_loop.proofs.Paths.{flat_longer, Fits, fits_in, in_fits, fits_empty, fits_more, fits_longer, fits_tail}
use Rattle.fast_check_finder_loop.proofs.Paths.{fits_name, fits_rest, empty_in}
use Rattle.fast_check_finder_loop.proofs.Named.{dep_paths, kind_paths, in_names}

-- what is looked up in what was found
pub then_some : {X Y : Type 0} (f : X → Option Y) (o : Option X) (y : Y) → option_and_then f o ≡ Some y → (x : X) × (o ≡ Some x) ×
    (f x ≡ Some y)
then_some f None y e = absurd (none-some y e)
then_some f (Some x) y e = (x, refl, e)

or_some : {X : Type 0} (o p : Option X) (x : X) → option_or o p ≡ Some x → (o ≡ Some x) ⊎ (p ≡ Some x)
or_some None p x e = inr e
or_some (Some y) p x e = inl e

module _ (k : Known) where
  abbrev A : List Name
  A = all_names k

  abbrev L : ℕ
  L = length (all_names k)

  abbrev Within : NameDemand → Type 0
  Within = IsWithin (paths_up_to (suc L) A)

  abbrev pub IsInfo : AnyModuleInfo → Type 0
  IsInfo info = (key : Parts) × Contains k.root_symbol.modules.entries (key, info)

  pub named_info : (t : Text) (info : AnyModuleInfo) → named_at k.root_symbol t ≡ Some info → IsInfo info
  named_info t info e =
      ⊎_elim (λ h. let f = found_in (is_text t) k.root_symbol.modules.entries info h in (f.0, f.1))
      (λ h.
      let a = then_some (module_named k.root_symbol.modules.entries) (lookup (is_text t) k.root_symbol.aliases.entries) info h in
      let f = found_in (is_specifier a.0) k.root_symbol.modules.entries info a.2 in (f.0, f.1))
      (or_some (lookup (is_text t) k.root_symbol.modules.entries) (option_and_then (module_named k.root_symbol.modules.entries)
      (lookup (is_text t) k.root_symbol.aliases.entries)) info e)

  pub info_in : (t : Text) (info : AnyModuleInfo) → info_at k.graph k.root_symbol t ≡ Some info → IsInfo info
  info_in t info e =
      let n = then_some (typed_info k.root_symbol t) (node_at k.graph t) info e in
      ⊎_elim (λ h. named_info t info (sym (ap (λ (b : Bool). cond b (named_at k.root_symbol t) None) h) ∙ n.2))
      (λ h. absurd (none-some info (sym (ap (λ (b : Bool). cond b (named_at k.root_symbol t) None) h) ∙ n.2)))
      (cases_Bool (is_typed_module n.0))

  module _ (info : AnyModuleInfo) (is : IsInfo info) where
    abbrev T : Tables
    T = tables_in info

    -- ids, and the module's own name

    table_id : Each (Contains (all_ids k)) (table_ids T)
    table_id x c = in_flat (λ e. table_ids (tables_in e.1)) k.root_symbol.modules.entries (is.0, info) x is.1 c

    module_id : Contains (all_ids k) T.module_symbol
    module_id = table_id T.module_symbol (first_in T.module_symbol (flat_map symbol_ids T.symbols))

    symbol_id : (s : Symbol) → Contains T.symbols s → Each (Contains (all_ids k)) (symbol_ids s)
    symbol_id s c x h = table_id x (later T.module_symbol (flat_map symbol_ids T.symbols) x (in_flat symbol_ids T.symbols s x c h))

    export_id : (s : Symbol) → Contains T.symbols s → Each (Contains (all_ids k)) (values_of s.exports)
    export_id s c x h = symbol_id s c x (later s.id (mentioned_by s) x
        (Contains-append_right (option_to_list s.parent_id) (values_of s.exports ++ s.members.items) x
        (Contains-append_left (values_of s.exports) s.members.items x h)))

    pub own_text_in : Contains (own_texts k) (serialize (specifier_of info))
    own_text_in = in_map (λ e. serialize (specifier_of e.1)) k.root_symbol.modules.entries (is.0, info) is.1

    -- names

    name_written : (n : Name) → Contains (table_names T) n → Contains A n
    name_written n c = later default_name _ n
        (in_flat (λ e. table_names (tables_in e.1)) k.root_symbol.modules.entries (is.0, info) n is.1 c)

    table_longer : suc (length (table_names T)) ≤ L
    table_longer = let h = flat_longer (λ e. table_names (tables_in e.1)) k.root_symbol.modules.entries (is.0, info) is.1 in omega
        (arith, h)

    module _ (s : Symbol) (c : Contains T.symbols s) where
      -- what a declaration of the symbol writes
      module _ (x : SymbolDecl) (i : Contains s.decls.items x) where
        kind_written : (n : Name) → Contains (kind_names x.kind) n → Contains A n
        kind_written n h =
            name_written n
            (in_flat symbol_names T.symbols s n c (in_flat (λ y. kind_names y.kind) s.decls.items x n i h))

        kind_longer : suc (length (kind_names x.kind)) ≤ L
        kind_longer =
            let a = flat_longer symbol_names T.symbols s c in
            let b = flat_longer (λ y. kind_names y.kind) s.decls.items x i in
            let d = table_longer in
            omega (arith, a, b, d)

      -- a path that is written fits
      written : (p : Path) (x : SymbolDecl) → Contains s.decls.items x → length p ≤ length (kind_names x.kind) →
          Each (λ n. Contains (kind_names x.kind) n) p
          → Fits A L p
      written p x i le h = record { short = (let a = kind_longer x i in omega (arith, a, le)); named = λ n j. kind_written x i n (h n j) }

      fits_target : (p : Path) (x : SymbolDecl) → Contains s.decls.items x → kind_names x.kind ≡ p → Fits A L p
      fits_target p x i e = written p x i (omega (arith, ap length e)) (λ n j. subst (λ (q : Path). Contains q n) (sym e) j)

      fits_dep : (p : Path) (x : SymbolDecl) (ys : List SymbolNodeDep) (y : SymbolNodeDep) → Contains s.decls.items x →
          kind_names x.kind ≡ flat_map
          (λ z. dep_names z.dep) ys → Contains ys y → dep_names y.dep ≡ p → Fits A L p
      fits_dep p x ys y i e j d =
          let le = flat_longer (λ z. dep_names z.dep) ys y j in
          written p x i (omega (arith, le, ap length d, ap length e))
          (λ n h. subst (λ (q : Path). Contains q n) (sym e)
          (in_flat (λ z. dep_names z.dep) ys y n j (subst (λ (q : Path). Contains q n) (sym d) h)))

      -- the paths of its symbols
      counted : (x : SymbolDecl) → Contains s.decls.items x → Each (Fits A L) (kind_paths x.kind)
      counted x i = of_kind x.kind refl
        where
          of_dep : (ys : List SymbolNodeDep) → kind_names x.kind ≡ flat_map (λ z. dep_names z.dep) ys → (y : SymbolNodeDep) →
              Contains ys y → (d : SymbolDep) → y.dep ≡ d → Each (Fits A L) (dep_paths d)
          of_dep ys e y j (deps.Id id) d = each_nil (Fits A L)
          of_dep ys e y j (deps.QualifiedId id parts) d = each_one (Fits A L) (path_of parts.items)
              (fits_dep (path_of parts.items) x ys y i e j (ap dep_names d))
          of_dep ys e y j (deps.ImportType specifier parts) d = each_nil (Fits A L)

          of_kind : (kind : SymbolDeclKind) → x.kind ≡ kind → Each (Fits A L) (kind_paths kind)
          of_kind (Target id) e = each_nil (Fits A L)
          of_kind (QualifiedTarget id parts) e = each_one (Fits A L) (path_of parts.items)
              (fits_target (path_of parts.items) x i (ap kind_names e))
          of_kind (FileRef specifier name) e = each_nil (Fits A L)
          of_kind (Definition None) e = each_nil (Fits A L)
          of_kind (Definition (Some node)) e = each_flat (Fits A L) (λ y. dep_paths y.dep) node.deps.items
              (λ y j. of_dep node.deps.items (ap kind_names e) y j y.dep refl)

      abbrev FileWithin : FileDemand → Type 0
      FileWithin f = Within f.names

      path_within : (p : Path) (e : Extent) → Fits A (suc L) p → Within (path_demand p e)
      path_within [] e f = empty_in A (suc L)
      path_within (n ∷ p) Touched f = fits_in A (suc L) (n ∷ p) f
      path_within (n ∷ p) Whole f = fits_in A (suc L) (n ∷ p) f

      import_within : (p : Path) → Fits A L p → Within (import_demand p)
      import_within [] f = tt
      import_within (n ∷ p) f = fits_in A (suc L) (n ∷ p) (fits_longer A L (n ∷ p) f)

      name_fits : (x : SymbolDecl) (specifier : _) (name : _) → Contains s.decls.items x → x.kind ≡ FileRef specifier (Named name) →
          Contains A
          (string_bytes name)
      name_fits x specifier name i e = kind_written x i (string_bytes name) (subst (λ (kind : SymbolDeclKind). Contains (kind_names kind)
          (string_bytes name)) (sym e) (first_in (string_bytes name) []))

      kind_within : (x : SymbolDecl) → Contains s.decls.items x → (kind : SymbolDeclKind) → x.kind ≡ kind →
          Each FileWithin (kind_files kind)
      kind_within x i (Target id) e = each_nil FileWithin
      kind_within x i (QualifiedTarget id parts) e = each_nil FileWithin
      kind_within x i (FileRef specifier Star) e = each_one FileWithin (file_demand (string_bytes specifier) names_but_default) tt
      kind_within x i (FileRef specifier (Named name)) e =
          each_one FileWithin (file_demand (string_bytes specifier) (whole_at (string_bytes name ∷ [])))
          (fits_in A (suc L) (string_bytes name ∷ [])
          (fits_more A (string_bytes name) L [] (name_fits x specifier name i e) (fits_empty A L)))
      kind_within x i (Definition None) e = each_nil FileWithin
      kind_within x i (Definition (Some node)) e = each_flat FileWithin (λ y. dep_files y.dep) node.deps.items
          (λ y j. of_dep y j y.dep refl)
        where
          of_dep : (y : SymbolNodeDep) → Contains node.deps.items y → (d : SymbolDep) → y.dep ≡ d → Each FileWithin (dep_files d)
          of_dep y j (deps.Id id) d = each_nil FileWithin
          of_dep y j (deps.QualifiedId id parts) d = each_nil FileWithin
          of_dep y j (deps.ImportType specifier parts) d =
              each_one FileWithin (file_demand (string_bytes specifier) (import_demand (path_of parts.items)))
              (import_within (path_of parts.items)
              (fits_dep (path_of parts.items) x node.deps.items y i (ap kind_names e) j (ap dep_names d)))

      alias_within : (p : Path) (extent : Extent) → Fits A L p → (x : SymbolDecl) → Contains s.decls.items x → (kind : SymbolDeclKind) →
          x.kind ≡ kind →
          Each FileWithin (alias_files p extent kind)
      alias_within p extent f x i (Target id) e = each_nil FileWithin
      alias_within p extent f x i (QualifiedTarget id parts) e = each_nil FileWithin
      alias_within p extent f x i (FileRef specifier Star) e = each_one FileWithin (file_demand (string_bytes specifier) (path_demand p extent))
          (path_within p extent (fits_longer A L p f))
      alias_within p extent f x i (FileRef specifier (Named name)) e =
          each_one FileWithin (file_demand (string_bytes specifier) (path_demand (string_bytes name ∷ p) extent))
          (path_within (string_bytes name ∷ p) extent (fits_more A (string_bytes name) L p (name_fits x specifier name i e) f))
      alias_within p extent f x i (Definition _) e = each_nil FileWithin

      symbol_within : (n : Namespaces) → Each FileWithin (symbol_files n s)
      symbol_within n = each_cond FileWithin s.is_private_member [] (flat_map (decl_files n) s.decls.items) (each_nil FileWithin)
          (each_flat FileWithin (decl_files n) s.decls.items
          (λ x i. each_cond FileWithin (binds x n && not (is_implementation x)) (kind_files x.kind) []
          (kind_within x i x.kind refl) (each_nil FileWithin)))

      asked_files_within : (a : Asked) → IsAskedAmong (symbol_paths k) a → Each FileWithin (asked_files a s)
      asked_files_within (by_reference n) h = symbol_within n
      asked_files_within (as_child n) h = symbol_within n
      asked_files_within (by_path p x) h = each_flat FileWithin (λ d. alias_files p x d.kind) s.decls.items
          (λ d i. alias_within p x (in_fits A L p h) d i d.kind refl)

    pub files_within : (d : Demand) → IsAskedAmong (symbol_paths k) d.asked → Each (λ f. Within f.names) (files T d)
    files_within d h = each_each_of (λ f. Within f.names) (asked_files d.asked) (symbol_of d.symbol T.symbols)
        (λ s e. asked_files_within s (last_inside (has_id d.symbol) T.symbols s e) d.asked h)

    abbrev SymbolIn : Demand → Type 0
    SymbolIn = IsAmong (all_ids k) (symbol_paths k)

    -- what a demand of a symbol names in the module
    pub names_in : (d : Demand) → SymbolIn d → Each SymbolIn (names T d)
    names_in d h = in_names T (all_ids k) (symbol_paths k) symbol_id
        (λ s c x i p j. fits_in A L p (counted s c x i p j))
        (λ p n c j. fits_in A L (n ∷ []) (fits_name A L p n (in_fits A L p c) j))
        (λ n p c. fits_in A L p (fits_rest A L n p (in_fits A L (n ∷ p) c)))
        d h

    -- what names of the module ask of its symbols

    abbrev IsId : SymbolId → Type 0
    IsId = Contains (all_ids k)

    reference_in : (s : SymbolId) (n : Namespaces) → IsId s → SymbolIn (reference s n T.module_symbol)
    reference_in s n h = record { symbol = h; referrer = module_id; asked = tt }

    whole_in : (x : SymbolId) → IsId x → Each SymbolIn (export_whole T x ∷ [])
    whole_in x h = each_one SymbolIn (export_whole T x) (reference_in x (exported_in (symbol_of x T.symbols)) h)

    module_symbol_in : (s : Symbol) → symbol_of T.module_symbol T.symbols ≡ Some s → Contains T.symbols s
    module_symbol_in s e = last_inside (has_id T.module_symbol) T.symbols s e

    star_in : (b : Bool) → Each SymbolIn (star_roots T b)
    star_in b = each_each_of SymbolIn (λ s. flat_map (star_export T b) s.exports) (symbol_of T.module_symbol T.symbols)
        (λ s e. each_flat SymbolIn (star_export T b) s.exports
        (λ x i. each_cond SymbolIn (b || not (bytes_eq x.0 default_name)) (export_whole T x.1 ∷ []) []
        (whole_in x.1 (export_id s (module_symbol_in s e) x.1 (in_map (λ y. y.1) s.exports x i))) (each_nil SymbolIn)))

    own_export_in : (n : Name) (x : SymbolId) → own_export T n ≡ Some x → IsId x
    own_export_in n x e =
        let o = then_some (λ s. export_named n s.exports) (symbol_of T.module_symbol T.symbols) x e in
        export_id o.0 (module_symbol_in o.0 o.1) x (looked_inside (bytes_eq n) o.0.exports x o.2)

    path_in : (x : SymbolId) (p : Path) (e : Extent) → IsId x → Fits A L p → Each SymbolIn (path_roots T x p e)
    path_in x [] Whole h f = whole_in x h
    path_in x [] Touched h f = each_one SymbolIn (qualified x [] Touched T.module_symbol)
        (record { symbol = h; referrer = module_id; asked = fits_in A L [] f })
    path_in x (n ∷ p) e h f = each_one SymbolIn (qualified x (n ∷ p) e T.module_symbol)
        (record { symbol = h; referrer = module_id; asked = fits_in A L (n ∷ p) f })

    path_roots_in : (n : Name) (p : Path) (e : Extent) → Contains (paths_up_to (suc L) A) (n ∷ p) →
        ((x : SymbolId) → own_export T n ≡ Some x → Each SymbolIn (path_roots T x p e))
    path_roots_in n p e c x is_own = path_in x p e (own_export_in n x is_own) (fits_tail A L n p (in_fits A (suc L) (n ∷ p) c))

    pub roots_within : (d : NameDemand) → Within d → Each SymbolIn (roots T d)
    roots_within names_but_default h = star_in false
    roots_within each_name h = star_in true
    roots_within (subset_at []) h = each_nil SymbolIn
    roots_within (subset_at (n ∷ p)) h = each_each_of SymbolIn (λ x. path_roots T x p Touched) (own_export T n)
        (path_roots_in n p Touched h)
    roots_within (whole_at []) h = each_nil SymbolIn
    roots_within (whole_at (n ∷ p)) h = each_each_of SymbolIn (λ x. path_roots T x p Whole) (own_export T n)
        (path_roots_in n p Whole h)
