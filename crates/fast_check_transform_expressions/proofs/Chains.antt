-- What a mapped slice gives, to a call that takes all of it.
use Rattle.std.proofs.Common.{◌≡◌, ℕ, ◌<◌, Iter, Option, List, map, refl, sym, ap, ◌∙◌, subst}
use Rattle.std.proofs.iter.Yields.{gives_Drains, fronts}
use Rattle.std.proofs.lemmas.Iterator.{YieldsList-from_slice, YieldsList-from_map_by, maps}
use Rattle.std.specs.Fn.{Called}
use Rattle.std.specs.Iterator.{Drains}
use Rattle.std.specs.Iterator.Adapters.{map_source, map_callee}
use Rattle.std.specs.Slice.Iter.{iter_rest}
use Rattle.std.specs.declared.iter.Map.{Map}
use Rattle.std.specs.List.{list_all}
use Rattle.std.proofs.lemmas.List.{drop-map, length-map}
use Rattle.fast_check_tree_syntax.specs.declared.tree.Tree.{Tree}
use Rattle.fast_check_tree_forms_classes.specs.Functions.{Param-pat}
use Rattle.fast_check_tree_helpers.specs.OptionalParams.{is_optional_param, IsOptionalStart}
use Rattle.fast_check_transform_expressions.specs.Looked.{patterns, IsStartOfParams}
use denote.Param.Members.{Mut}
use denote.Ref.{Bor}

pub mapped_slice : {A F R C : Type 0} {g : Mut F (Bor A × Unit {0}) R} (s : Map (Iter A) F) (items : List R) →
    Drains (maps fronts g) s items →
    (w : R → C) (h : A → C) (xs : List A) → iter_rest (map_source s) ≡ xs →
    ((x : Bor A) (r : R) (q : F) → Called g (map_callee s) (x, tt) r q → (q ≡ map_callee s) × (w r ≡ h x.now)) →
    map w items ≡ map h xs
mapped_slice {g = g} s items drains w h xs rest calls =
    gives_Drains (maps fronts g) w items _ s (YieldsList-from_map_by g w h (YieldsList-from_slice xs rest) refl calls).runs drains

-- the start of the optional patterns, said of the parameters that have them
pub start_of_params : (start : Option ℕ) (params : List Tree) → IsOptionalStart start (patterns params) → IsStartOfParams start params
start_of_params start params start_is place r h =
    start_is.says place r (subst (λ n. place < n) (sym (length-map params (λ p. Param-pat p))) h) ∙ ap (list_all is_optional_param)
    (drop-map (λ p. Param-pat p) place params)
