-- Entries of a graph, as they are seen through the maps that hold them.
use Rattle.std.proofs.Common.{◌≡◌, ◌∙◌, sym, ap, refl, ℕ, Bool, true, false, cond, ◌&&◌, List, [], ◌∷◌, map, string_bytes, Option, Some}
use Rattle.std.proofs.Common.{None, option_map}
use Rattle.std.proofs.lemmas.Map.Text.{btree_map_updates_text}
use Rattle.std.specs.Prelude.{String, option_and_then, unwrap_or}
use Rattle.std.specs.BTreeMap.{BTreeMap, get, Updates, is_at}
use Rattle.std.specs.Map.{lookup}
use Rattle.std.specs.Option.{option_or}
use Rattle.std.specs.Ordering.{nat_cmp, is_eq, eq_by_cmp}
use Rattle.std.specs.Cmp.Lexicographic.{slice_cmp, texts_ties, nat_list_eq_equiv}
use Rattle.std.specs.Str.{bytes_eq}
use Rattle.std.specs.String.{string_eq, string_cmp}
use Rattle.std.specs.declared.alloc.Global.{Global}
use Rattle.std.specs.declared.cmp.Ordering.{Ordering}
use Rattle.indexmap.specs.IndexMap.{IndexMap, insert_entry}
use Rattle.url.specs.Parts.{Parts, serialize}
use Rattle.fast_check_tables_symbols.specs.Entries.{last_value}
use Rattle.fast_check_tables_packages.specs.declared.package.PackageNv.{PackageNv}
use Rattle.fast_check_tables_packages.specs.Package.{nv_of, nv_cmp}
use Rattle.fast_check_tables_modules.proofs.symbol_proofs.Alike.{lookup_alike, last_alike}
use Rattle.fast_check_tables_graph.specs.declared.graph.ModuleGraph.{ModuleGraph}
use Rattle.fast_check_tables_graph.specs.declared.module.Module.{Module}
use Rattle.fast_check_tables_graph.specs.Graph.{is_specifier, is_package, IsGraphOf}
use Rattle.fast_check_tables_graph.specs.Resolutions.{text_resolved}
use Rattle.fast_check_tables_graph.proofs.Tied.{at_specifier, at_text}
use Rattle.fast_check_json_tables.specs.graph.Graph as seen
use Rattle.fast_check_json_tables.specs.graph.Graph.{Resolutions, seen_exports, seen_resolutions, resolved_also}

abbrev pub Texts : Type 0
Texts = String Global × String Global

-- ---- exports

put_seen : (k v : String Global) (e : Texts) (es : List Texts) (b : Bool)
    → seen_exports (insert_entry string_eq es k v) ≡ insert_entry bytes_eq (seen_exports es) (string_bytes k) (string_bytes v)
    → seen_exports (cond b ((e.0, v) ∷ es) (e ∷ insert_entry string_eq es k v))
    ≡ cond b ((string_bytes e.0, string_bytes v) ∷ seen_exports es)
    ((string_bytes e.0, string_bytes e.1) ∷ insert_entry bytes_eq (seen_exports es) (string_bytes k) (string_bytes v))
put_seen k v e es true h = refl
put_seen k v e es false h = ap (λ rest. (string_bytes e.0, string_bytes e.1) ∷ rest) h

pub inserted_seen : (k v : String Global) (es : List Texts)
    → seen_exports (insert_entry string_eq es k v) ≡ insert_entry bytes_eq (seen_exports es) (string_bytes k) (string_bytes v)
inserted_seen k v [] = refl
inserted_seen k v (e ∷ es) = put_seen k v e es (bytes_eq (string_bytes k) (string_bytes e.0)) (inserted_seen k v es)

-- ---- the last value of a key

or_map : {X Y : Type 0} (g : X → Y) (o : Option X) (b : Bool) (x : X)
    → option_or (option_map g o) (cond b (Some (g x)) None) ≡ option_map g (option_or o (cond b (Some x) None))
or_map g None true x = refl
or_map g None false x = refl
or_map g (Some y) b x = refl

-- among entries that are seen otherwise
pub last_value-map : {K L X Y : Type 0} (test : L → Bool) (f : K → L) (g : X → Y) (es : List (K × X))
    → last_value test (map (λ e. (f e.0, g e.1)) es) ≡ option_map g (last_value (λ k. test (f k)) es)
last_value-map test f g [] = refl
last_value-map test f g (e ∷ es) =
    ap (λ o. option_or o (cond (test (f e.0)) (Some (g e.1)) None)) (last_value-map test f g es)
    ∙ or_map g (last_value (λ k. test (f k)) es) (test (f e.0)) e.1

-- ---- resolutions

abbrev Texts_of : Type 0
Texts_of = BTreeMap (String Global) Parts

abbrev url_cmp : Parts → Parts → Ordering
url_cmp a b = slice_cmp nat_cmp (serialize a) (serialize b)

-- what is resolved by these entries
abbrev pub resolved_in : List (Parts × Texts_of) → Resolutions
resolved_in es = λ text referrer. option_and_then (text_resolved text) (lookup (is_specifier referrer) es)

-- a text more
texts_more : (bs : List ℕ) (text : String Global) (url : Parts) (t more : Texts_of) → Updates string_cmp t more text (Some url)
    → text_resolved bs more ≡ cond (bytes_eq bs (string_bytes text)) (Some url) (text_resolved bs t)
texts_more bs text url t more u =
    sym (at_text bs more.entries)
    ∙ (btree_map_updates_text (string_bytes text) t more (Some url) u bs
    ∙ (λ i. cond (nat_list_eq_equiv.symm (string_bytes text) bs i) (Some url) (at_text bs t.entries i)))

-- the texts of a referrer, which may have none
or_empty : (bs : List ℕ) (o : Option Texts_of) (empty : Texts_of) → empty.entries ≡ []
    → text_resolved bs (unwrap_or o empty) ≡ option_and_then (text_resolved bs) o
or_empty bs None empty e = ap (λ es. lookup (λ k. bytes_eq bs (string_bytes k)) es) e
or_empty bs (Some t) empty e = refl

-- a referrer whose texts grow by one
module _ (referrer url : Parts) (text : String Global) (m n : BTreeMap Parts Texts_of) (t empty more : Texts_of)
    (old : t ≡ unwrap_or (get url_cmp m referrer) empty) (none : empty.entries ≡ [])
    (grown : Updates string_cmp t more text (Some url)) (put : Updates url_cmp m n referrer (Some more)) where
  at_referrer : (u : Parts) → is_at (url_cmp referrer) u ≡ is_specifier u referrer
  at_referrer u = sym (texts_ties (serialize referrer) (serialize u)) ∙ nat_list_eq_equiv.symm (serialize referrer) (serialize u)

  found : (u : Parts) → lookup (is_specifier u) n.entries ≡ cond (is_specifier u referrer) (Some more) (lookup (is_specifier u) m.entries)
  found u = sym (at_specifier u n.entries) ∙ (put.0 u ∙ (λ i. cond (at_referrer u i) (Some more) (at_specifier u m.entries i)))

  same_referrer : (u : Parts) → is_specifier u referrer ≡ true →
      lookup (is_specifier referrer) m.entries ≡ lookup (is_specifier u) m.entries
  same_referrer u e =
      lookup_alike (is_specifier referrer) (is_specifier u) m.entries
      (λ k. sym (nat_list_eq_equiv.congr (serialize u) (serialize referrer) (serialize k) e))

  resolved : (bs : List ℕ) (u : Parts) (b : Bool) → is_specifier u referrer ≡ b
      → option_and_then (text_resolved bs) (cond b (Some more) (lookup (is_specifier u) m.entries))
      ≡ cond (b && bytes_eq bs (string_bytes text)) (Some url) (option_and_then (text_resolved bs) (lookup (is_specifier u) m.entries))
  resolved bs u true e =
      texts_more bs text url t more grown
      ∙ ap (λ o. cond (bytes_eq bs (string_bytes text)) (Some url) o)
      (ap (text_resolved bs) old
      ∙ (or_empty bs (get url_cmp m referrer) empty none
      ∙ ap (λ (o : Option Texts_of). option_and_then (text_resolved bs) o) (at_specifier referrer m.entries ∙ same_referrer u e)))
  resolved bs u false e = refl

  pub put_resolved : seen_resolutions n ≡ resolved_also (seen_resolutions m) (referrer, string_bytes text, url)
  put_resolved = λ i bs u.
      (ap (λ (o : Option Texts_of). option_and_then (text_resolved bs) o) (found u) ∙ resolved bs u (is_specifier u referrer) refl) i

-- no texts
pub no_texts : (m : BTreeMap Parts Texts_of) → m.entries ≡ [] → seen_resolutions m ≡ seen.no_resolutions
no_texts m e = λ i text referrer. option_and_then (text_resolved text) (lookup (is_specifier referrer) (e i))

-- ---- graphs

abbrev Packages : Type 0 → Type 0
Packages S = BTreeMap PackageNv (IndexMap (String Global) (String Global) S)

map_twice : {X Y Z : Type 0} (f : X → Y) (g : Y → Z) (o : Option X) → option_map g (option_map f o) ≡ option_map (λ x. g (f x)) o
map_twice f g None = refl
map_twice f g (Some x) = refl

-- a graph is seen by its parts
pub graph_of_parts : {S : Type 0} (modules : BTreeMap Parts Module) (resolutions : BTreeMap Parts Texts_of) (packages : Packages S)
    (g : ModuleGraph)
    → IsGraphOf modules resolutions packages g → seen.graph g ≡ record {
      modules = λ specifier. lookup (is_specifier specifier) modules.entries;
      resolutions = seen_resolutions resolutions;
      packages = λ nv. option_map (λ m. seen_exports m.entries) (lookup (is_package (nv_of nv)) packages.entries);
    }
graph_of_parts modules resolutions packages g h = λ i. record {
  modules = λ specifier. h.has_modules specifier i;
  resolutions = λ text referrer. ap (λ (o : Option Texts_of). option_and_then (text_resolved text) o) (h.has_resolutions referrer) i;
  packages = λ nv. (ap (option_map seen_exports) (h.has_packages (nv_of nv))
      ∙ map_twice (λ m. m.entries) seen_exports (lookup (is_package (nv_of nv)) packages.entries)) i;
}

-- that of maps of the last entries
pub graph_of_entries : {S : Type 0} (ms : List (Parts × Module)) (ps : List (PackageNv × IndexMap (String Global) (String Global) S))
    (modules : BTreeMap Parts Module) (resolutions : BTreeMap Parts Texts_of) (packages : Packages S) (g : ModuleGraph)
    → ((key : Parts) → get url_cmp modules key ≡ last_value (λ k. eq_by_cmp url_cmp k key) ms)
    → ((key : PackageNv) → get (λ a b. nv_cmp (nv_of a) (nv_of b)) packages key ≡ last_value
    (λ k. eq_by_cmp (λ a b. nv_cmp (nv_of a) (nv_of b)) k key) ps)
    → IsGraphOf modules resolutions packages g
    → seen.graph g ≡ seen.graph_by ms (seen_resolutions resolutions) (map (λ p. (nv_of p.0, seen_exports p.1.entries)) ps)
graph_of_entries ms ps modules resolutions packages g hm hp h = graph_of_parts modules resolutions packages g h ∙ (λ i. record {
  modules = λ specifier. (sym (at_specifier specifier modules.entries) ∙ (hm specifier
      ∙ last_alike (λ k. eq_by_cmp url_cmp k specifier) (is_specifier specifier) ms
      (λ k. sym (texts_ties (serialize k) (serialize specifier)) ∙ nat_list_eq_equiv.symm (serialize k) (serialize specifier)))) i;
  resolutions = seen_resolutions resolutions;
  packages = λ nv. (ap (option_map (λ m. seen_exports m.entries)) (hp nv)
      ∙ sym (last_value-map (λ k. is_eq (nv_cmp k (nv_of nv))) nv_of (λ m. seen_exports m.entries) ps)) i;
})
