-- Names behind URLs, each of which is read once.
use Rattle.std.proofs.Common.{◌≡◌, ◌∙◌, sym, ap, refl, subst, ℕ, Bool, true, false, cond, is_some, List, Option, Some, None, option_map, bytes_eq}
use Rattle.std.proofs.Common.{true≢false}
use Rattle.std.specs.Borrow.{Bor}
use Rattle.std.specs.BTreeMap.{BTreeMap}
use Rattle.std.specs.BTreeSet.{BTreeSet, contains_by}
use Rattle.std.specs.Cmp.Lexicographic.{slice_cmp, texts_ties}
use Rattle.std.specs.Map.{lookup}
use Rattle.std.specs.Option.{option_or, option_and_then}
use Rattle.std.specs.Ordering.{is_eq, nat_cmp}
use Rattle.std.proofs.lemmas.Slice.Eq.{bytes_eq-Decides}
use Rattle.url.specs.Parts.{Parts, serialize}
use Rattle.fast_check_finder_lattice.specs.Names.{Name}
use Rattle.fast_check_tables_modules.specs.symbols.declared.tables.ReExportAllNode.{ReExportAllNode}
use Rattle.fast_check_tables_modules.specs.symbols.Tables.{resolved_export}
use Rattle.fast_check_tables_graph.specs.declared.root_symbol.AnyModuleInfo.{AnyModuleInfo}
use Rattle.fast_check_tables_graph.specs.Root.{module_named, found_module}
use Rattle.fast_check_finder_demands.specs.declared.re_exports.modules.GraphModule.{GraphModule}
use Rattle.fast_check_finder_demands.specs.declared.re_exports.origins.Origin.{Origin}
use Rattle.fast_check_finder_demands.specs.re_exports.Modules.{tables_in}
use Rattle.fast_check_finder_demands.specs.re_exports.Origins.{Answered, indexed, module_answer, is_met, AreFound, Puts}

abbrev Index : Type 0
Index = BTreeMap (Bor (List ℕ)) Origin

abbrev Met : Type 0
Met = BTreeSet (Bor (List ℕ))

-- a module is told by the text of its name
abbrev module_text : GraphModule → Name → List ℕ → Option Parts
module_text m name text =
    option_and_then (λ other. resolved_export (tables_in other) name)
    (option_or (lookup (λ k. bytes_eq text (serialize k)) m.root_symbol.now.modules.entries)
    (option_and_then (module_named m.root_symbol.now.modules.entries)
    (lookup (λ k. bytes_eq text (serialize k)) m.root_symbol.now.aliases.entries)))

-- behind one URL
module _ (m : GraphModule) (x : ReExportAllNode) (url : Parts) where
  abbrev behind : Name → Option Answered
  behind name = option_map (λ answer. (x, answer)) (module_answer m name url)

  kept : (o : Option Answered) (p : Option Parts) → (is_some p ≡ true → is_some o ≡ true) → o ≡ option_or o (option_map (λ answer. (x, answer)) p)
  kept None None h = refl
  kept None (Some u) h = absurd (true≢false (sym (h refl)))
  kept (Some a) p h = refl

  some_or : (o : Option Answered) (p : Option Parts) → is_some p ≡ true → is_some (option_or o (option_map (λ answer. (x, answer)) p)) ≡ true
  some_or None (Some u) h = refl
  some_or None None h = h
  some_or (Some a) p h = refl

  stays_some : (o p : Option Answered) → is_some o ≡ true → is_some (option_or o p) ≡ true
  stays_some None p h = absurd (true≢false (sym h))
  stays_some (Some a) p h = refl

  -- that was met
  pub met_before : (met : Met) (names : Index) → is_met url met ≡ true → AreFound m met names → Puts m behind met names names
  met_before met names r h = record {
    adds = λ name. kept (indexed name names) (module_answer m name url) (h url name r);
    found = h;
  }

  -- behind the module that was found there
  abbrev behind_found : Option AnyModuleInfo → Name → Option Answered
  behind_found found name =
      option_map (λ answer. (x, answer)) (option_and_then (λ other. resolved_export (tables_in other) name) found)

  -- that is met now
  pub met_now : (was met : Met) (old new : Index) (key : List ℕ) → key ≡ serialize url →
      ((q : Bor (List ℕ)) → contains_by (λ k. slice_cmp nat_cmp q.now k.now) met
      ≡ cond (is_eq (slice_cmp nat_cmp key q.now)) true (contains_by (λ k. slice_cmp nat_cmp q.now k.now) was)) →
      AreFound m was old → (found : Option AnyModuleInfo) → found ≡ found_module m.root_symbol.now url →
      ((name : Name) → indexed name new ≡ option_or (indexed name old) (behind_found found name)) → Puts m behind met old new
  met_now was met old new key is updates h found there put = record {
    adds = more;
    found = λ other name r a.
        subst (λ (o : Option Answered). is_some o ≡ true) (sym (more name))
        (by_url other name a (is_eq (slice_cmp nat_cmp key (serialize other))) refl
        (sym (updates (record { ref_ptr = (0, 0); now = serialize other })) ∙ r));
  }
    where
      more : (name : Name) → indexed name new ≡ option_or (indexed name old) (behind name)
      more name = put name ∙ ap (λ o. option_or (indexed name old) (behind_found o name)) there

      by_url : (other : Parts) (name : Name) → is_some (module_answer m name other) ≡ true → (b : Bool) →
          is_eq (slice_cmp nat_cmp key (serialize other)) ≡ b → cond b true (is_met other was) ≡ true →
          is_some (option_or (indexed name old) (behind name)) ≡ true
      by_url other name a true t r = some_or (indexed name old) (module_answer m name url)
          (subst (λ (text : List ℕ). is_some (module_text m name text) ≡ true)
          (sym (sym is ∙ (bytes_eq-Decides key (serialize other)).0 (texts_ties key (serialize other) ∙ t))) a)
      by_url other name a false t r = stays_some (indexed name old) (behind name) (h other name r a)
