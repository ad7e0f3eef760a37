-- The first re-export of all that has a name, and the module that answers it.
use Rattle.std.proofs.Common.{◌≡◌, ◌∙◌, sym, ap, refl, ℕ, ◌+◌, ◌<◌, cond, is_some, List, [], ◌∷◌, ◌++◌, length, take, get_or}
use Rattle.std.proofs.Common.{Option, Some, None, option_map}
use Rattle.std.specs.Option.{option_or, option_and_then}
use Rattle.std.proofs.lemmas.List.{take_more}
use Rattle.url.specs.Parts.{Parts}
use Rattle.fast_check_finder_lattice.specs.Names.{Name}
use Rattle.fast_check_tables_modules.specs.symbols.declared.tables.ReExportAllNode.{ReExportAllNode}
use Rattle.fast_check_finder_demands.specs.declared.re_exports.modules.GraphModule.{GraphModule}
use Rattle.fast_check_finder_demands.specs.re_exports.Modules.{answer_of, first_with}
use Rattle.fast_check_finder_demands.specs.re_exports.Origins.{Answered, first_some, first_origin}
use Rattle.fast_check_tables_symbols.proofs.Last.{or_none, or_or as or_assoc}

module _ {X Y : Type 0} (f : X → Option Y) where
  pub first_some_more : (xs : List X) (x : X) → first_some f (xs ++ x ∷ []) ≡ option_or (first_some f xs) (f x)
  first_some_more [] x = or_none (f x)
  first_some_more (y ∷ ys) x = ap (λ o. option_or (f y) o) (first_some_more ys x) ∙ sym (or_assoc (f y) (first_some f ys) (f x))

  -- a turn of a loop over a list
  pub first_some_turn : (xs : List X) (i : ℕ) (x : X) → i < length xs → x ≡ get_or xs i x →
      first_some f (take (i + 1) xs) ≡ option_or (first_some f (take i xs)) (f x)
  first_some_turn xs i x lt is =
      ap (first_some f) (take_more xs i x lt ∙ ap (λ (y : X). take i xs ++ y ∷ []) (sym is)) ∙ first_some_more (take i xs) x

module _ (m : GraphModule) (name : Name) where
  pub first_node : (nodes : List ReExportAllNode) → option_map (λ a. a.0) (first_origin m name nodes) ≡ first_with m name nodes
  first_node [] = refl
  first_node (x ∷ xs) = go (answer_of m name x) (first_node xs)
    where
      go : (o : Option Parts) → option_map (λ (a : Answered). a.0) (first_origin m name xs) ≡ first_with m name xs →
          option_map (λ (a : Answered). a.0) (option_or (option_map (λ url. (x, url)) o) (first_origin m name xs))
          ≡ cond (is_some o) (Some x) (first_with m name xs)
      go None h = h
      go (Some u) h = refl

  pub first_answer : (nodes : List ReExportAllNode) →
      option_map (λ a. a.1) (first_origin m name nodes) ≡ option_and_then (answer_of m name) (first_with m name nodes)
  first_answer [] = refl
  first_answer (x ∷ xs) = go (answer_of m name x) refl (first_answer xs)
    where
      go : (o : Option Parts) → answer_of m name x ≡ o →
          option_map (λ (a : Answered). a.1) (first_origin m name xs) ≡ option_and_then (answer_of m name) (first_with m name xs) →
          option_map (λ (a : Answered). a.1) (option_or (option_map (λ url. (x, url)) o) (first_origin m name xs))
          ≡ option_and_then (answer_of m name) (cond (is_some o) (Some x) (first_with m name xs))
      go None e h = h
      go (Some u) e h = sym e
