-- What a demand of a symbol names is made of the ids and paths of which it is made, and of those that the tables write.
use Rattle.std.proofs.Common.{◌≡◌, sym, refl, subst, Bool, true, false, cond, ◌&&◌, not, List, [], ◌∷◌, ◌++◌, Option, Some, None, ◌⊎◌, inl, inr}
use Rattle.std.proofs.Common.{string_bytes}
use Rattle.std.specs.Prelude.{option_to_list}
use Rattle.std.specs.Option.{option_or, option_and_then}
use Rattle.std.specs.Str.{bytes_eq}
use Rattle.std.specs.Map.{values_of}
use Rattle.std.specs.List.{Contains, flat_map}
use Rattle.std.proofs.lemmas.List.Elements.{Contains-append_left, Contains-append_right}
use Rattle.std.proofs.lemmas.Option.{none-some}
use Rattle.fast_check_finder_lattice.specs.Names.{Name, Path, path_of}
use Rattle.fast_check_tree_syntax.specs.declared.atom.Id.{Id}
use Rattle.fast_check_tables_symbols.specs.declared.symbol_id.SymbolId.{SymbolId}
use Rattle.fast_check_tables_symbols.specs.declared.symbol.Symbol.{Symbol}
use Rattle.fast_check_tables_symbols.specs.declared.decl.SymbolDecl.{SymbolDecl}
use Rattle.fast_check_tables_symbols.specs.declared.decl.SymbolDeclKind.{SymbolDeclKind}
use Rattle.fast_check_tables_symbols.specs.declared.decl.SymbolDeclKind.TheVariants.{Target, QualifiedTarget, FileRef, Definition}
use Rattle.fast_check_tables_symbols.specs.declared.node.ReferenceNamespace.{ReferenceNamespace}
use Rattle.fast_check_tables_symbols.specs.declared.node.SymbolDep.{SymbolDep}
use Rattle.fast_check_tables_symbols.specs.declared.node.SymbolDep.TheVariants as deps
use Rattle.fast_check_tables_symbols.specs.Symbols.{symbol_of, has_id, mentioned_by}
use Rattle.fast_check_tables_symbols.specs.Exports.{export_named}
use Rattle.fast_check_tables_symbols.specs.Tables.{Tables, symbol_of_swc, symbol_id_of}
use Rattle.fast_check_tables_symbols.proofs.TableFaults.{value_found as looked_inside}
use Rattle.fast_check_finder_demands.specs.declared.symbol_demands.demand.Namespaces.{Namespaces}
use Rattle.fast_check_finder_demands.specs.declared.symbol_demands.demand.Namespaces.TheVariants.{Both}
use Rattle.fast_check_finder_demands.specs.declared.symbol_demands.demand.Extent.{Extent}
use Rattle.fast_check_finder_demands.specs.declared.symbol_demands.demand.Extent.TheVariants.{Touched, Whole}
use Rattle.fast_check_finder_demands.specs.symbol_demands.Demands.{Demand, Asked, by_reference, as_child, by_path, same_symbol}
use Rattle.fast_check_finder_demands.specs.symbol_demands.Decls.{binds, is_implementation, has_alias, is_closed}
use Rattle.fast_check_finder_demands.specs.symbol_demands.Rules.{reference, child, qualified, namespaces_of, named, each_of}
use Rattle.fast_check_finder_demands.specs.symbol_demands.Rules.{bound, parent_at, parent_names, dep_names, deps_names, kind_names, decl_names}
use Rattle.fast_check_finder_demands.specs.symbol_demands.Rules.{exports_names, members_names, symbol_names, parts_names, alias_names, member_named}
use Rattle.fast_check_finder_demands.specs.symbol_demands.Rules.{symbol_is_named, member_names, whole_names, prototype_names, export_part_names, export_names}
use Rattle.fast_check_finder_demands.specs.symbol_demands.Rules.{is_prototype, first_names, path_names, asked_names, names}
use Rattle.fast_check_finder_demands.proofs.Elements.{later, in_map, in_flat}
use Rattle.fast_check_finder_demands.proofs.Each.{Each, each_nil, each_one, each_append, each_cons, each_map, each_flat, each_cond, each_each_of}
use Rattle.fast_check_finder_demands.proofs.asked.Maps.{some_is, first_in}
use Rattle.fast_check_finder_demands.proofs.Own.{last_inside}
use Rattle.fast_check_finder_demands.proofs.re_exports.OwnRanges.{found_inside}
use Rattle.fast_check_finder_loop.specs.Universe.{symbol_ids, IsAskedAmong, IsAmong}
use Rattle.fast_check_finder_loop.proofs.Lists.{mapped_some}

last_or_this : {X : Type 0} (o : Option X) (b : Bool) (y x : X) → option_or o (cond b (Some y) None) ≡ Some x → (o ≡ Some x) ⊎ (y ≡ x)
last_or_this None true y x e = inr (some_is y x e)
last_or_this None false y x e = inl e
last_or_this (Some z) b y x e = inl e

-- the paths that a declaration writes for symbols of its own module

abbrev pub dep_paths : SymbolDep → List Path
dep_paths (deps.Id id) = []
dep_paths (deps.QualifiedId id parts) = path_of parts.items ∷ []
dep_paths (deps.ImportType specifier parts) = []

abbrev pub kind_paths : SymbolDeclKind → List Path
kind_paths (Target id) = []
kind_paths (QualifiedTarget id parts) = path_of parts.items ∷ []
kind_paths (FileRef specifier name) = []
kind_paths (Definition None) = []
kind_paths (Definition (Some node)) = flat_map (λ x. dep_paths x.dep) node.deps.items

-- with a path each of its names is among the paths, and what is left of it
module _ (t : Tables) (I : List SymbolId) (P : List Path)
    (table_id : (s : Symbol) → Contains t.symbols s → Each (Contains I) (symbol_ids s))
    (table_path : (s : Symbol) → Contains t.symbols s → (x : SymbolDecl) → Contains s.decls.items x → Each (Contains P) (kind_paths x.kind))
    (name_inside : (p : Path) (n : Name) → Contains P p → Contains p n → Contains P (n ∷ []))
    (rest_inside : (n : Name) (p : Path) → Contains P (n ∷ p) → Contains P p) where
  abbrev Q : Demand → Type 0
  Q = IsAmong I P

  bound_id : (id : Id) (x : SymbolId) → bound t id ≡ Some x → Contains I x
  bound_id id x e = go (symbol_id_of t id) (mapped_some (λ s. s.id) (symbol_of_swc t id) x e)
    where
      at : (o : Option SymbolId) (s : Symbol) → option_and_then (λ k. symbol_of k t.symbols) o ≡ Some s → Contains t.symbols s
      at None s h = absurd (none-some s h)
      at (Some k) s h = last_inside (has_id k) t.symbols s h

      go : (o : Option SymbolId) → (s : Symbol) × (option_and_then (λ k. symbol_of k t.symbols) o ≡ Some s) × (s.id ≡ x) → Contains I x
      go o h = subst (λ (z : SymbolId). Contains I z) h.2 (table_id h.0 (at o h.0 h.1) h.0.id (first_in h.0.id (mentioned_by h.0)))

  in_reference : (x : SymbolId) (n : Namespaces) (r : SymbolId) → Contains I x → Contains I r → Q (reference x n r)
  in_reference x n r h g = record { symbol = h; referrer = g; asked = tt }

  in_whole_reference : (x r : SymbolId) → Contains I x → Contains I r → Each Q (reference x Both r ∷ [])
  in_whole_reference x r h g = each_one Q (reference x Both r) (in_reference x Both r h g)

  in_child : (x r : SymbolId) → Contains I x → Contains I r → Q (child x r)
  in_child x r h g = record { symbol = h; referrer = g; asked = tt }

  in_qualified : (x : SymbolId) (p : Path) (e : Extent) (r : SymbolId) → Contains I x → Contains I r → Contains P p → Q (qualified x p e r)
  in_qualified x p e r h g k = record { symbol = h; referrer = g; asked = k }

  in_named : (x : SymbolId) (p : Path) (r : SymbolId) → Contains I x → Contains I r → Contains P p → Q (named x p r)
  in_named x [] r h g k = in_qualified x [] Touched r h g k
  in_named x (n ∷ p) r h g k = in_qualified x (n ∷ p) Whole r h g k

  in_named_at : (id : Id) (p : Path) (r : SymbolId) → Contains I r → Contains P p → Each Q (each_of (λ x. named x p r ∷ []) (bound t id))
  in_named_at id p r g k = each_each_of Q (λ x. named x p r ∷ []) (bound t id)
      (λ x e. each_one Q (named x p r) (in_named x p r (bound_id id x e) g k))

  module _ (d : Demand) (i : Q d) where
    in_parent_at : (o : Option SymbolId) → ((x : SymbolId) → o ≡ Some x → Contains I x) → Each Q (parent_at d o)
    in_parent_at None h = each_nil Q
    in_parent_at (Some x) h = each_cond Q (same_symbol x d.referrer) [] (reference x Both d.symbol ∷ []) (each_nil Q)
        (in_whole_reference x d.symbol (h x refl) i.symbol)

    in_dep : (n : ReferenceNamespace) (dep : SymbolDep) → ((p : Path) → Contains (dep_paths dep) p → Contains P p) →
        Each Q (dep_names t d.symbol n dep)
    in_dep n (deps.Id id) h = each_each_of Q (λ x. reference x (namespaces_of n) d.symbol ∷ []) (bound t id)
        (λ x e. each_one Q (reference x (namespaces_of n) d.symbol) (in_reference x (namespaces_of n) d.symbol (bound_id id x e) i.symbol))
    in_dep n (deps.QualifiedId id parts) h = in_named_at id (path_of parts.items) d.symbol i.symbol
        (h (path_of parts.items) (first_in (path_of parts.items) []))
    in_dep n (deps.ImportType specifier parts) h = each_nil Q

    in_kind : (n : Namespaces) (parent : Option SymbolId) (k : SymbolDeclKind) → ((x : SymbolId) → parent ≡ Some x → Contains I x) →
        ((p : Path) → Contains (kind_paths k) p → Contains P p) → Each Q (kind_names t d n parent k)
    in_kind n parent (Target id) f h = each_each_of Q (λ x. reference x n d.symbol ∷ []) (bound t id)
        (λ x e. each_one Q (reference x n d.symbol) (in_reference x n d.symbol (bound_id id x e) i.symbol))
    in_kind n parent (QualifiedTarget id parts) f h = in_named_at id (path_of parts.items) d.symbol i.symbol
        (h (path_of parts.items) (first_in (path_of parts.items) []))
    in_kind n parent (FileRef specifier name) f h = each_nil Q
    in_kind n parent (Definition None) f h = each_nil Q
    in_kind n parent (Definition (Some node)) f h = each_append Q (parent_names d node.is_member parent)
        (deps_names t d.symbol node.deps.items)
        (each_cond Q node.is_member (parent_at d parent) [] (in_parent_at parent f) (each_nil Q))
        (each_flat Q (λ x. dep_names t d.symbol x.namespace x.dep) node.deps.items
        (λ x g. in_dep x.namespace x.dep (λ p k. h p (in_flat (λ y. dep_paths y.dep) node.deps.items x p g k))))

    in_alias : (p : Path) (e : Extent) (k : SymbolDeclKind) → Contains P p →
        ((q : Path) → Contains (kind_paths k) q → Contains P q) → Each Q (alias_names t d p e k)
    in_alias p e (Target id) a h = each_each_of Q (λ x. qualified x p e d.referrer ∷ []) (bound t id)
        (λ x u. each_one Q (qualified x p e d.referrer) (in_qualified x p e d.referrer (bound_id id x u) i.referrer a))
    in_alias p e (QualifiedTarget id parts) a h = each_each_of Q (λ x. qualified x p e d.referrer ∷ parts_names d x parts.items)
        (bound t id)
        (λ x u. each_cons Q (qualified x p e d.referrer) (parts_names d x parts.items)
        (in_qualified x p e d.referrer (bound_id id x u) i.referrer a)
        (each_map Q (λ part. qualified x (string_bytes part ∷ []) Whole d.referrer) parts.items
        (λ part g. in_qualified x (string_bytes part ∷ []) Whole d.referrer (bound_id id x u) i.referrer
        (name_inside (path_of parts.items) (string_bytes part) (h (path_of parts.items) (first_in (path_of parts.items) []))
        (in_map string_bytes parts.items part g)))))
    in_alias p e (FileRef specifier name) a h = each_nil Q
    in_alias p e (Definition _) a h = each_nil Q

    module _ (s : Symbol) (here : Contains t.symbols s) where
      mentioned_id : (x : SymbolId) → Contains (mentioned_by s) x → Contains I x
      mentioned_id x h = table_id s here x (later s.id (mentioned_by s) x h)

      parent_id : (x : SymbolId) → s.parent_id ≡ Some x → Contains I x
      parent_id x e = mentioned_id x (Contains-append_left (option_to_list s.parent_id) (values_of s.exports ++ s.members.items) x
          (subst (λ (o : Option SymbolId). Contains (option_to_list o) x) (sym e) (first_in x [])))

      export_id : (x : SymbolId) → Contains (values_of s.exports) x → Contains I x
      export_id x h = mentioned_id x (Contains-append_right (option_to_list s.parent_id) (values_of s.exports ++ s.members.items) x
          (Contains-append_left (values_of s.exports) s.members.items x h))

      member_id : (x : SymbolId) → Contains s.members.items x → Contains I x
      member_id x h = mentioned_id x (Contains-append_right (option_to_list s.parent_id) (values_of s.exports ++ s.members.items) x
          (Contains-append_right (values_of s.exports) s.members.items x h))

      in_exports : Each Q (exports_names d s.exports)
      in_exports = each_map Q (λ e. child e.1 d.symbol) s.exports
          (λ e g. in_child e.1 d.symbol (export_id e.1 (in_map (λ y. y.1) s.exports e g)) i.symbol)

      in_symbol : (n : Namespaces) → Each Q (symbol_names t d n s)
      in_symbol n =
          each_cond Q s.is_private_member [] (flat_map (decl_names t d n s.parent_id) s.decls.items ++ exports_names d s.exports ++
          members_names d s.members.items)
          (each_nil Q)
          (each_append Q (flat_map (decl_names t d n s.parent_id) s.decls.items ++ exports_names d s.exports)
          (members_names d s.members.items)
          (each_append Q (flat_map (decl_names t d n s.parent_id) s.decls.items) (exports_names d s.exports)
          (each_flat Q (decl_names t d n s.parent_id) s.decls.items
          (λ x g. each_cond Q (binds x n && not (is_implementation x)) (kind_names t d n s.parent_id x.kind) []
          (in_kind n s.parent_id x.kind parent_id (table_path s here x g)) (each_nil Q)))
          in_exports)
          (each_map Q (λ m. child m d.symbol) s.members.items (λ m g. in_child m d.symbol (member_id m g) i.symbol)))

      in_member : (below : Path) (e : Extent) (o : Option SymbolId) → ((x : SymbolId) → o ≡ Some x → Contains I x) →
          Each Q (member_names d below e o)
      in_member [] Whole None h = each_nil Q
      in_member [] Whole (Some x) h = in_whole_reference x d.referrer (h x refl) i.referrer
      in_member [] Touched o h = each_nil Q
      in_member (n ∷ p) e o h = each_nil Q

      in_whole : (e : Extent) → Each Q (whole_names d e)
      in_whole Touched = each_nil Q
      in_whole Whole = in_whole_reference d.symbol d.referrer i.symbol i.referrer

      in_prototype : (below : Path) (e : Extent) → Each Q (prototype_names t d below e s)
      in_prototype [] e = in_whole e
      in_prototype (n ∷ below) e = in_member below e (member_named t n s.members.items)
          (λ x h. member_id x (found_inside (λ m. symbol_is_named n (symbol_of m t.symbols)) s.members.items x h))

      in_part : (below : Path) (e : Extent) (x : SymbolId) → Contains P below → Contains I x → Each Q (export_part_names d below e x)
      in_part [] Whole x a h = in_whole_reference x d.referrer h i.referrer
      in_part [] Touched x a h = each_one Q (qualified x [] Touched d.referrer) (in_qualified x [] Touched d.referrer h i.referrer a)
      in_part (n ∷ below) e x a h = each_one Q (qualified x (n ∷ below) e d.referrer)
          (in_qualified x (n ∷ below) e d.referrer h i.referrer a)

      in_export : (below : Path) (e : Extent) (closed : Bool) (o : Option SymbolId) → Contains P below →
          ((x : SymbolId) → o ≡ Some x → Contains I x) → Each Q (export_names d below e closed o)
      in_export below e closed None a h = each_cond Q closed [] (reference d.symbol Both d.referrer ∷ []) (each_nil Q)
          (in_whole_reference d.symbol d.referrer i.symbol i.referrer)
      in_export below e closed (Some x) a h = in_part below e x a (h x refl)

      in_first : (p : Path) (e : Extent) → Contains P p → Each Q (first_names t d p e s)
      in_first [] e a = each_nil Q
      in_first (n ∷ below) e a = each_cond Q (is_prototype n s.decls.items) (prototype_names t d below e s)
          (export_names d below e (is_closed s.decls.items) (export_named n s.exports))
          (in_prototype below e)
          (in_export below e (is_closed s.decls.items) (export_named n s.exports) (rest_inside n below a)
          (λ x h. export_id x (looked_inside (bytes_eq n) s.exports x h)))

      in_path : (p : Path) (e : Extent) → Contains P p → Each Q (path_names t d p e s)
      in_path p e a = each_cond Q (has_alias s.decls.items) (flat_map (λ x. alias_names t d p e x.kind) s.decls.items)
          (first_names t d p e s)
          (each_flat Q (λ x. alias_names t d p e x.kind) s.decls.items (λ x g. in_alias p e x.kind a (table_path s here x g)))
          (in_first p e a)

      in_asked : (a : Asked) → IsAskedAmong P a → Each Q (asked_names t d a s)
      in_asked (by_reference n) h = in_symbol n
      in_asked (as_child n) h = in_symbol n
      in_asked (by_path p e) h = in_path p e h

    pub in_names : Each Q (names t d)
    in_names = each_each_of Q (asked_names t d d.asked) (symbol_of d.symbol t.symbols)
        (λ s e. in_asked s (last_inside (has_id d.symbol) t.symbols s e) d.asked i.asked)
