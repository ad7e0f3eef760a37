-- The names of an alias's own path are asked for once by each symbol that asks for a path of the alias.
use Rattle.std.proofs.Common.{◌≡◌, ◌∙◌, sym, ap, refl, subst, ℕ, Bool, true, false, not, ◌&&◌, ◌==◌, List, [], ◌∷◌, ◌++◌, Option, Some, None, map, ⊎_elim, inl, inr}
use Rattle.std.specs.List.{list_any, Contains}
use Rattle.std.specs.BTreeSet.{BTreeSet, contains, insert_key}
use Rattle.std.specs.BTreeMap.{is_at}
use Rattle.std.specs.Ordering.{is_eq, nat_cmp}
use Rattle.std.proofs.lemmas.Bool.{false≢true, and_parts, eqb-true}
use Rattle.std.proofs.lemmas.List.Elements.{Contains-append_left, Contains-append_right, Contains-append_cases}
use Rattle.fast_check_tables_symbols.specs.Tables.{Tables}
use Rattle.fast_check_tables_symbols.proofs.Witness.{witness as any_some}
use Rattle.fast_check_tables_graph.specs.declared.root_symbol.AnyModuleInfo.{AnyModuleInfo}
use Rattle.fast_check_finder_demands.specs.symbol_demands.Demands.{Demand as SymbolDemand}
use Rattle.fast_check_finder_demands.specs.symbol_demands.Rules.{names}
use Rattle.fast_check_finder_demands.specs.symbol_demands.Passed.{own_names, passed, asked_own}
use Rattle.fast_check_finder_demands.specs.Account.{parts}
use Rattle.fast_check_finder_demands.specs.re_exports.Modules.{tables_in}
use Rattle.fast_check_finder_demands.proofs.Aliased.{names_parted, names_joined}
use Rattle.fast_check_finder_demands.proofs.asked.Maps.{none_in, first_in, rest_in, split_in}
use Rattle.fast_check_finder_loop.specs.contracts.asked.AskedAliasOrd.TheImpl as order
use Rattle.fast_check_finder_loop.specs.declared.asked.AskedAlias.{AskedAlias}
use Rattle.fast_check_finder_loop.specs.declared.demand.SymbolAt.{SymbolAt}
use Rattle.fast_check_finder_loop.specs.declared.finder.FollowedModule.{FollowedModule}
use Rattle.fast_check_finder_loop.specs.Asked.{covers, AddsDemand}
use Rattle.fast_check_finder_loop.specs.Finder.{seen_at, put_at, AsksEach, AreAliasesAsked}
use Rattle.fast_check_finder_loop.specs.Turn.{AreSame}
use Rattle.fast_check_finder_loop.proofs.Compared.{then_equal, numbers_compare, key_only}
use Rattle.fast_check_finder_loop.proofs.Lists.{any_more}

-- what is asked one behind another

adds_kept : (d : SymbolDemand) (fresh : Option SymbolDemand) (a b : List SymbolDemand) → AddsDemand d fresh a b → (x : SymbolDemand) →
    Contains a x → Contains b x
adds_kept d None a b w x c = subst (λ (xs : List SymbolDemand). Contains xs x) (sym w.1) c
adds_kept d (Some e) a b w x c = w.kept x c

adds_met : (d : SymbolDemand) (fresh : Option SymbolDemand) (a b : List SymbolDemand) → AddsDemand d fresh a b → (x : SymbolDemand) →
    Contains (parts d) x → list_any (covers x) b ≡ true
adds_met d None a b w x c = subst (λ (xs : List SymbolDemand). list_any (covers x) xs ≡ true) (sym w.1) (w.0 x c)
adds_met d (Some e) a b w x c = w.now x c

module _ (place : ℕ) where
  pub each_kept : (ds a b : List SymbolDemand) (old new : List SymbolAt) → AsksEach place ds a b old new → (x : SymbolDemand) → Contains a x →
      Contains b x
  each_kept [] a b old new w x c = subst (λ (xs : List SymbolDemand). Contains xs x) (sym w.0) c
  each_kept (d ∷ ds) a b old new w x c = each_kept ds w.0 b w.1 new w.3 x (adds_kept d w.2.0 a w.0 w.2.1 x c)

  pub each_met : (ds a b : List SymbolDemand) (old new : List SymbolAt) → AsksEach place ds a b old new → (d : SymbolDemand) → Contains ds d →
      (x : SymbolDemand) → Contains (parts d) x → list_any (covers x) b ≡ true
  each_met [] a b old new w d c x h = absurd (none_in d c)
  each_met (e ∷ ds) a b old new w d c x h = ⊎_elim
      (λ same. any_more (covers x) w.0 b (each_kept ds w.0 b w.1 new w.3)
      (adds_met e w.2.0 a w.0 w.2.1 x (subst (λ (y : SymbolDemand). Contains (parts y) x) (sym same) h)))
      (λ rest. each_met ds w.0 b w.1 new w.3 d rest x h)
      (split_in e d ds c)

  -- these were asked before
  pub each_covered : (ds a : List SymbolDemand) (items : List SymbolAt) →
      ((d : SymbolDemand) → Contains ds d → (x : SymbolDemand) → Contains (parts d) x → list_any (covers x) a ≡ true) →
      AsksEach place ds a a items items
  each_covered [] a items h = (refl, refl)
  each_covered (d ∷ ds) a items h = (
    a,
    items,
    (None, (h d (first_in d ds), refl), refl),
    each_covered ds a items (λ e c. h e (rest_in d e ds c)),
  )

  each_from : (ds a b : List SymbolDemand) (old mid new : List SymbolAt) → map seen_at mid ≡ map seen_at old → AsksEach place ds a b mid new →
      AsksEach place ds a b old new
  each_from [] a b old mid new e w = (w.0, w.1 ∙ e)
  each_from (d ∷ ds) a b old mid new e w = (
    w.0,
    w.1,
    (w.2.0, w.2.1, w.2.2 ∙ ap (put_at place w.2.0) e),
    w.3,
  )

  pub each_append : (ds es a b c : List SymbolDemand) (old mid new : List SymbolAt) → AsksEach place ds a b old mid → AsksEach place es b c mid new →
      AsksEach place (ds ++ es) a c old new
  each_append [] es a b c old mid new v w =
      each_from es a c old mid new v.1 (subst (λ (xs : List SymbolDemand). AsksEach place es xs c mid new) v.0 w)
  each_append (d ∷ ds) es a b c old mid new v w = (v.0, v.1, v.2, each_append ds es v.0 b c v.1 mid new v.3 w)

-- a demand names what is passed on, and the names of an alias's own path
pub all_names : (t : Tables) (d : SymbolDemand) (ds os : List SymbolDemand) → AreSame ds (passed t d) → AreSame os (asked_own t d d.asked) →
    AreSame (ds ++ os) (names t d)
all_names t d ds os v w = record {
  sound = λ x c. names_joined t d x (⊎_elim (λ l. inl (v.sound x l)) (λ r. inr (w.sound x r)) (Contains-append_cases ds os x c));
  complete = λ x c. ⊎_elim (λ l. Contains-append_left ds os x (v.complete x l)) (λ r. Contains-append_right ds os x (w.complete x r))
      (names_parted t d x c);
}

-- aliases

abbrev alias_with : ℕ → ℕ → AskedAlias
alias_with s r = record { symbol = record { 0 = s }; referrer = record { 0 = r } }

tie : (a b : AskedAlias) → is_eq (order.cmp-value.it a b) ≡ true → a ≡ b
tie a b h =
    let e = and_parts (a.symbol.0 == b.symbol.0) (a.referrer.0 == b.referrer.0)
    (sym (then_equal (nat_cmp a.symbol.0 b.symbol.0) (nat_cmp a.referrer.0 b.referrer.0) ∙ both) ∙ h) in
    made a.symbol.0 b.symbol.0 a.referrer.0 b.referrer.0 (eqb-true a.symbol.0 b.symbol.0 e.0) (eqb-true a.referrer.0 b.referrer.0 e.1)
  where
    both : (is_eq (nat_cmp a.symbol.0 b.symbol.0) && is_eq (nat_cmp a.referrer.0 b.referrer.0)) ≡
        ((a.symbol.0 == b.symbol.0) && (a.referrer.0 == b.referrer.0))
    both = ap (λ (x : Bool). x && is_eq (nat_cmp a.referrer.0 b.referrer.0)) (numbers_compare a.symbol.0 b.symbol.0) ∙
        ap (λ (x : Bool). (a.symbol.0 == b.symbol.0) && x) (numbers_compare a.referrer.0 b.referrer.0)

    made : (s t r u : ℕ) → s ≡ t → r ≡ u → alias_with s r ≡ alias_with t u
    made s t r u e f = cc

pub not_added : (added there : Bool) → added ≡ not there → added ≡ false → there ≡ true
not_added true there e f = absurd (false≢true (sym f))
not_added false true e f = refl
not_added false false e f = absurd (false≢true e)

-- one that is there already
pub known_alias : (set : BTreeSet AskedAlias) (a : AskedAlias) → contains order.cmp-value.it set a ≡ true → Contains set.keys a
known_alias set a h =
    let s = any_some (is_at (order.cmp-value.it a)) set.keys h in
    subst (λ (x : AskedAlias). Contains set.keys x) (sym (tie a s.0 s.2)) s.1

module _ (m n : FollowedModule) (info : n.found.info.now ≡ m.found.info.now)
    (kept : (x : SymbolDemand) → Contains m.asked x → Contains n.asked x) (was : AreAliasesAsked m) where
  -- what was asked stays so
  still_asked : (a : AskedAlias) → Contains m.aliases.keys a → (d : SymbolDemand) →
      Contains (own_names (tables_in n.found.info.now) a.symbol a.referrer) d → (x : SymbolDemand) → Contains (parts d) x →
      list_any (covers x) n.asked ≡ true
  still_asked a c d h x p = any_more (covers x) m.asked n.asked kept
      (was a c d (subst (λ (i : AnyModuleInfo). Contains (own_names (tables_in i) a.symbol a.referrer) d) info h) x p)

  pub same_aliases : n.aliases ≡ m.aliases → AreAliasesAsked n
  same_aliases e a c = still_asked a (subst (λ (s : BTreeSet AskedAlias). Contains s.keys a) e c)

  -- and one more was
  pub more_aliases : (k : AskedAlias) → n.aliases.keys ≡ insert_key order.cmp-value.it m.aliases.keys k →
      ((d : SymbolDemand) → Contains (own_names (tables_in n.found.info.now) k.symbol k.referrer) d → (x : SymbolDemand) → Contains (parts d) x →
      list_any (covers x) n.asked ≡ true) → AreAliasesAsked n
  more_aliases k e own a c d h x p = ⊎_elim
      (λ old. still_asked a old d h x p)
      (λ same. own d (subst (λ (y : AskedAlias). Contains (own_names (tables_in n.found.info.now) y.symbol y.referrer) d) (sym same) h) x p)
      (key_only order.cmp-value.it m.aliases.keys k a (subst (λ (ks : List AskedAlias). Contains ks a) e c))
