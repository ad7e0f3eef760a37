-- A turn: a demand that waits is taken and followed, of symbols the first, of names the last.
use Rattle.std.proofs.Common.{◌≡◌, ◌∙◌, ◌<◌, sym, ap, subst, Bool, true, List, [], ◌∷◌, ◌++◌, Some, map, slice_get}
use Rattle.std.specs.List.{Contains}
use Rattle.std.proofs.lemmas.List.{append-nil, map-append}
use Rattle.std.proofs.lemmas.List.Elements.{Contains-append_right}
use Rattle.fast_check_tables_packages.specs.Package.{Nv, nv_of}
use Rattle.fast_check_tables_packages.proofs.Longest.{item as get_some}
use Rattle.fast_check_finder_lattice.specs.Traces.{handled}
use Rattle.fast_check_finder_demands.specs.symbol_demands.Demands.{demand_of}
use Rattle.fast_check_finder_demands.proofs.asked.Maps.{first_in}
use Rattle.fast_check_finder_demands.specs.asked.Demands.{Demand, of_symbol}
use Rattle.fast_check_finder_demands.specs.facts.GraphFacts.{Known}
use Rattle.fast_check_finder_loop.specs.declared.demand.NamesAt.{NamesAt}
use Rattle.fast_check_finder_loop.specs.declared.demand.SymbolAt.{SymbolAt}
use Rattle.fast_check_finder_loop.specs.declared.finder.Finder.{Finder}
use Rattle.fast_check_finder_loop.specs.Finder.{Followed, place_nv, place_text, names_seen, seen_at, search_in, search_of, IsSound, Goes, Turns, TurnsTo}
use Rattle.fast_check_finder_loop.specs.Measure.{left}
use Rattle.fast_check_finder_loop.specs.Reach.{reach}
use Rattle.fast_check_finder_loop.specs.Rules.{followers}
use Rattle.fast_check_finder_loop.specs.Search.{IsTaken}
use Rattle.fast_check_finder_loop.specs.Yields.{demand_yields}
use Rattle.fast_check_finder_loop.specs.Finder.{yields_in}
use Rattle.fast_check_finder_loop.proofs.Loop.{IsOn, on_turned, on_falls}
use Rattle.fast_check_finder_loop.proofs.Reach.{HasDependencies, universe}
use Rattle.fast_check_finder_loop.proofs.Taken.{symbol_taken, names_taken, turns_from, turns_by}

module _ (k : Known) (f mid b : Finder) (sound : IsSound k.graph k.root_symbol f) where
  -- a symbol waits
  module _ (same : mid ≡ record f { symbols = mid.symbols }) (at : SymbolAt) (items : f.symbols.items ≡ at ∷ mid.symbols.items) where
    pub sound_popped : IsSound k.graph k.root_symbol mid
    sound_popped = subst (IsSound k.graph k.root_symbol) (sym same) (record {
      modules = sound.modules;
      symbols = λ x h. sound.symbols x (subst (λ (xs : List SymbolAt). Contains xs x) (sym items) (Contains-append_right (at ∷ []) mid.symbols.items x h));
      once = sound.once;
    })

    pub turn_of_symbol :
        ((e : Followed) → slice_get mid.modules.entries at.place ≡ Some e → IsSound k.graph k.root_symbol mid →
        let d = of_symbol (place_nv e) (place_text e) (demand_of at.demand) in Goes k.graph k.root_symbol (followers k d) (demand_yields k d) mid b) →
        Turns k f b
    turn_of_symbol follows =
        let rest = mid.symbols.items in
        let s = get_some f.modules.entries at.place
        (sound.symbols at (subst (λ (xs : List SymbolAt). Contains xs at) (sym items) (first_in at rest))) in
        let d = of_symbol (place_nv s.0) (place_text s.0) (demand_of at.demand) in
        turns_by k d f mid b
        (subst (λ (x : Finder). IsTaken d (search_of f) (search_of x)) (sym same)
        (symbol_taken (map nv_of f.packages) f.entered (handled f.handled) f.modules.entries (map names_seen f.names.items)
        (map seen_at f.symbols.items) (map seen_at rest) at.place (demand_of at.demand) s.0 s.1
        (ap (map seen_at) items)))
        (ap yields_in same)
        (follows s.0 (subst (λ (x : Finder). slice_get x.modules.entries at.place ≡ Some s.0) (sym same) s.1) sound_popped)

-- names wait
pub turn_of_names : (k : Known) (f mid b : Finder) → mid ≡ record f { names = mid.names } → (at : NamesAt) →
    f.names.items ≡ mid.names.items ++ at ∷ [] → Goes k.graph k.root_symbol (followers k (names_seen at)) (demand_yields k (names_seen at)) mid b →
    Turns k f b
turn_of_names k f mid b same at items follows =
    let rest = mid.names.items in
    turns_by k (names_seen at) f mid b
    (subst (λ (x : Finder). IsTaken (names_seen at) (search_of f) (search_of x)) (sym same)
    (names_taken (map nv_of f.packages) f.entered (handled f.handled) f.modules.entries (map names_seen f.names.items) (map names_seen rest)
    (map seen_at f.symbols.items) (names_seen at) (ap (map names_seen) items ∙ map-append names_seen rest (at ∷ []))))
    (ap yields_in same) follows

-- no symbol waits, or no name
pub past_symbols : (k : Known) (f mid b : Finder) → mid ≡ record f { symbols = mid.symbols } → f.symbols.items ≡ mid.symbols.items →
    (more : Bool) → TurnsTo k more mid b → TurnsTo k more f b
past_symbols k f mid b same items more t = turns_from k f mid b
    (ap search_of same ∙ ap (λ (xs : List SymbolAt). search_in (map nv_of f.packages) f.entered (handled f.handled) (map names_seen f.names.items)
    f.modules.entries (map seen_at xs)) (sym items)) (ap yields_in same) more t

pub past_names : (k : Known) (f mid b : Finder) → mid ≡ record f { names = mid.names } → f.names.items ≡ mid.names.items ++ [] →
    (more : Bool) → TurnsTo k more mid b → TurnsTo k more f b
past_names k f mid b same items more t = turns_from k f mid b
    (ap search_of same ∙ ap (λ (xs : List NamesAt). search_in (map nv_of f.packages) f.entered (handled f.handled) (map names_seen xs)
    f.modules.entries (map seen_at f.symbols.items)) (sym (items ∙ append-nil mid.names.items))) (ap yields_in same) more t

-- the same while the loop goes on
module _ {k : Known} {roots : List Nv} {done : List Demand} {f : Finder} (on : IsOn k roots done f) where
  pub after_symbol : (mid b : Finder) → mid ≡ record f { symbols = mid.symbols } → (at : SymbolAt) → f.symbols.items ≡ at ∷ mid.symbols.items →
      ((e : Followed) → slice_get mid.modules.entries at.place ≡ Some e → IsSound k.graph k.root_symbol mid →
      let d = of_symbol (place_nv e) (place_text e) (demand_of at.demand) in Goes k.graph k.root_symbol (followers k d) (demand_yields k d) mid b) → Turns k f b
  after_symbol mid b same at items follows = turn_of_symbol k f mid b on.sound same at items follows

  -- no symbol waits
  module _ (one two b : Finder) (first : one ≡ record f { symbols = one.symbols }) (none : f.symbols.items ≡ one.symbols.items)
      (second : two ≡ record one { names = two.names }) where
    pub after_names : (at : NamesAt) → one.names.items ≡ two.names.items ++ at ∷ [] →
        Goes k.graph k.root_symbol (followers k (names_seen at)) (demand_yields k (names_seen at)) two b → Turns k f b
    after_names at items follows = past_symbols k f one b first none true (turn_of_names k one two b second at items follows)

    -- and no name
    pub after_package : one.names.items ≡ two.names.items ++ [] → (more : Bool) → TurnsTo k more two b → TurnsTo k more f b
    after_package items more t = past_symbols k f one b first none more (past_names k one two b second items more t)

  module _ {b : Finder} (t : Turns k f b) where
    pub turned_on : IsOn k roots (done ++ t.turn.demand ∷ []) b
    turned_on = on_turned k roots done f b on t

    pub less_left : (stored : List Nv) → HasDependencies k.used stored →
        left (reach k stored roots) (search_of b) < left (reach k stored roots) (search_of f)
    less_left stored has = on_falls k roots (reach k stored roots) (universe k stored roots has) done f b on t
