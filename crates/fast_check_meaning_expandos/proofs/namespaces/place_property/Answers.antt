use Rattle.std.proofs.Common.{◌≡◌, ◌∙◌, sym, ap, subst, slice_set, List, [], ◌∷◌, ◌++◌}
use Rattle.std.proofs.lemmas.Result.{on_ok_weaker}
use Rattle.fast_check_tables_symbols.proofs.Alike.{ids_tie, same_id_equiv}
use Rattle.fast_check_tables_symbols.proofs.Seen.{absent as no_place}
use Rattle.fast_check_tree_syntax.specs.contracts.atom.IdOrd.TheImpl as order
use Rattle.fast_check_tree_syntax.specs.declared.atom.Id.{Id}
use Rattle.fast_check_tables_modules.specs.symbols.Tables.{same_id}
use Rattle.fast_check_meaning_expandos.specs.declared.namespaces.Namespace.{Namespace}
use Rattle.fast_check_meaning_expandos.specs.declared.properties.ExpandoProperty.{ExpandoProperty}
use Rattle.fast_check_meaning_expandos.specs.FirstPlaces.{HasObjects}
use Rattle.fast_check_meaning_expandos.specs.Merged.{merged, with_property, placed_property}
use Rattle.fast_check_meaning_expandos.proofs.FirstPlaces.{place_is, inside, put_there, put_last}
use Rattle.fast_check_meaning_expandos.proofs.Placed.{merged_one, same_placed}
use Rattle.fast_check_meaning_expandos.proofs.SameIds.{one_id}
use Rattle.fast_check_meaning_expandos.proofs.namespaces.place_property.Goals as goal

abbrev object_of : ExpandoProperty → Id
object_of p = p.object

pub index_mut-requires : goal.index_mut-requires
index_mut-requires c =
    let at = place_is c.args.property.object c.requires c.get.ensures.value c.copied.ensures ∙ c.in-Some.is in
    rw c.args.namespaces.now.ok.0 (inside same_id object_of merged with_property c.args.property.object c.args.namespaces.now.items
    c.in-Some.place at)

-- the namespaces with another one at the place of the object
abbrev with_other : goal.After-namespaces-1 → Namespace → List (Id × Namespace)
with_other c n = slice_set c.args.namespaces.now.items c.in-Some.place (c.index_mut.result.now.0, n)

abbrev IsPlaced : goal.After-namespaces-1 → Namespace → Type 0
IsPlaced c n =
    HasObjects c.args.places.now (with_other c n)
    × (with_other c n ≡ placed_property c.args.property c.args.namespaces.now.items)

there : (c : goal.After-namespaces-1) → c.push_property.new.namespace ≡ with_property c.index_mut.result.now.1 c.args.property →
    IsPlaced c c.push_property.new.namespace
there c e =
    subst (IsPlaced c) (sym e) (put_there same_id object_of merged with_property order.cmp-value.it placed_property same_placed
    c.args.property c.args.namespaces.now.items c.in-Some.place c.index_mut.result.now c.args.places.now
    (place_is c.args.property.object c.requires c.get.ensures.value c.copied.ensures ∙ c.in-Some.is) c.index_mut.ensures.value c.requires)

pub returns-in-Some-clause-places : goal.returns-in-Some-clause-places
returns-in-Some-clause-places c = on_ok_weaker c.push_property.result (λ e. (there c e).0) c.push_property.ensures

pub returns-in-Some-clause-namespaces : goal.returns-in-Some-clause-namespaces
returns-in-Some-clause-namespaces c = on_ok_weaker c.push_property.result (λ e. (there c e).1) c.push_property.ensures

pushed : (c : goal.In_ok-push-2) → c.push-2.new.self.items ≡
    c.args.namespaces.now.items ++ (c.args.property.object, merged (c.args.property ∷ [])) ∷ []
pushed c =
    c.in_ok-push-2.ensures.items
    ∙ ap (λ (n : Namespace). c.args.namespaces.now.items ++ (c.args.property.object, n) ∷ [])
    (merged_one c.args.property c.push.new.self
    (c.in_ok-push.ensures.ok ∙ ap (λ ds. ds ++ c.args.property.declarator ∷ []) c.new-declarators.ensures))

last : (c : goal.In_ok-push-2) → HasObjects c.insert.new.self c.push-2.new.self.items × (c.push-2.new.self.items ≡
    placed_property c.args.property c.args.namespaces.now.items)
last c =
    put_last same_id object_of merged with_property order.cmp-value.it placed_property same_placed ids_tie one_id same_id_equiv.symm
    c.args.property c.args.namespaces.now.items c.push-2.new.self.items c.in_ok-clone.field-0 c.len.result c.args.places.now
    c.insert.new.self
    (place_is c.args.property.object c.requires c.get.ensures.value c.copied.ensures ∙
    no_place c.copied.result (λ i e. c.in_default.not-Some i e))
    (pushed c) c.in_ok-clone.ensures.cases (c.len.ensures ∙ c.args.namespaces.now.ok.0) c.in_ok-insert.ensures.updates c.requires

pub returns-clause-places : goal.returns-clause-places
returns-clause-places c = (last c).0

pub returns-clause-namespaces : goal.returns-clause-namespaces
returns-clause-namespaces c = (last c).1
