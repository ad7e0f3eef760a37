use Rattle.std.proofs.Common.{◌≡◌, ◌∙◌, sym, ap, map, List, None, ◌++◌, ◌∷◌, [], string_bytes, subst}
use Rattle.fast_check_tables_symbols.proofs.Seen.{Entry, seen, placed, absent, inside, same_places, written, one_more_place, one_more}
use Rattle.fast_check_tables_symbols.specs.NamePlaces.{place_named, HasPlaces}
use Rattle.fast_check_tables_symbols.proofs.exports.SymbolExports.put.Goals as goal

pub index_mut-requires : goal.index_mut-requires
index_mut-requires c =
    let at = placed c.as_str.ensures.value c.self.invariant c.get.ensures.value c.copied.ensures ∙ c.in-Some.is in
    rw c.self.inside.entries.ok.0 (inside (string_bytes c.args.name) c.self.inside.entries.items c.in-Some.place at)

pub invariant_of-self : goal.invariant_of-self
invariant_of-self c =
    same_places (string_bytes c.args.name) c.args.id c.self.inside.entries.items c.in-Some.place c.index_mut.result.now c.self.inside.places
    (placed c.as_str.ensures.value c.self.invariant c.get.ensures.value c.copied.ensures ∙ c.in-Some.is)
    c.index_mut.ensures.value c.self.invariant

pub returns-in-Some-clause-put : goal.returns-in-Some-clause-put
returns-in-Some-clause-put c =
    rw (← c.self.view_is) (written (string_bytes c.args.name) c.args.id c.self.inside.entries.items c.in-Some.place c.index_mut.result.now
    (placed c.as_str.ensures.value c.self.invariant c.get.ensures.value c.copied.ensures ∙ c.in-Some.is)
    c.index_mut.ensures.value)

no_place : (c : goal.In_ok-push) → place_named (string_bytes c.args.name) (map seen c.self.inside.entries.items) ≡ None
no_place c =
    placed c.as_str.ensures.value c.self.invariant c.get.ensures.value c.copied.ensures
    ∙ absent c.copied.result (λ i e. c.in_default.not-Some i e)

pushed : (c : goal.In_ok-push) → c.push.new.self.items ≡ c.self.inside.entries.items ++ (c.args.name, c.args.id) ∷ []
pushed c = c.in_ok-push.ensures.items ∙ ap (λ (xs : List Entry). xs ++ (c.args.name, c.args.id) ∷ []) c.in_ok-reserve.ensures.items

pub invariant_of-self-2 : goal.invariant_of-self-2
invariant_of-self-2 c =
    subst (λ (xs : List Entry). HasPlaces xs c.insert.new.self) (sym (pushed c))
    (one_more_place c.args.name c.in_ok-clone.field-0 c.args.id c.self.inside.entries.items c.len.result c.self.inside.places
    c.insert.new.self (no_place c) c.in_ok-clone.ensures.cases
    (c.len.ensures ∙ (c.in_ok-reserve.ensures.len ∙ c.self.inside.entries.ok.0)) c.in_ok-insert.ensures.updates c.self.invariant)

pub returns-clause-put : goal.returns-clause-put
returns-clause-put c =
    rw (← c.self.view_is) (ap (map seen) (pushed c) ∙ one_more c.args.name c.args.id c.self.inside.entries.items (no_place c))
