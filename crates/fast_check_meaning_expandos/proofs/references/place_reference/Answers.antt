use Rattle.std.proofs.Common.{◌≡◌, ◌∙◌, List, ℕ, slice_set}
use Rattle.std.specs.Cmp.Lexicographic.{slice_cmp, texts_ties, nat_list_eq_equiv}
use Rattle.std.specs.Ordering.{nat_cmp}
use Rattle.std.specs.Str.{bytes_eq}
use Rattle.fast_check_tree_syntax.specs.declared.source.SourceRange.{SourceRange}
use Rattle.fast_check_meaning_expandos.specs.declared.references.Reference.{Reference}
use Rattle.fast_check_meaning_expandos.specs.FirstPlaces.{HasNames, placed_reference}
use Rattle.fast_check_meaning_expandos.specs.References.{last_range}
use Rattle.fast_check_meaning_expandos.proofs.FirstPlaces.{place_is, inside, put_there, put_last}
use Rattle.fast_check_meaning_expandos.proofs.LastRanges.{one_text, same_placed}
use Rattle.fast_check_meaning_expandos.proofs.references.place_reference.Goals as goal
use Rattle.fast_check_tables_symbols.proofs.Seen.{absent as no_place}

abbrev name_of : Reference → List ℕ
name_of r = r.name

pub index_mut-requires : goal.index_mut-requires
index_mut-requires c =
    let at = place_is c.args.reference.name c.requires c.get.ensures.value c.copied.ensures ∙ c.in-Some.is in
    rw c.args.ranges.now.ok.0 (inside bytes_eq name_of last_range (λ range r. r.range) c.args.reference.name c.args.ranges.now.items
    c.in-Some.place at)

-- the ranges with that of the reference at the place of its name
abbrev with_range : goal.After-drop-name-inside → List (List ℕ × SourceRange)
with_range c = slice_set c.args.ranges.now.items c.in-Some.place (c.index_mut.result.now.0, c.args.reference.range)

there : (c : goal.After-drop-name-inside) → HasNames c.args.places.now (with_range c)
    × (with_range c ≡ placed_reference c.args.reference c.args.ranges.now.items)
there c =
    put_there bytes_eq name_of last_range (λ range r. r.range) (slice_cmp nat_cmp) placed_reference same_placed
    c.args.reference c.args.ranges.now.items c.in-Some.place c.index_mut.result.now c.args.places.now
    (place_is c.args.reference.name c.requires c.get.ensures.value c.copied.ensures ∙ c.in-Some.is) c.index_mut.ensures.value c.requires

pub returns-in-Some-clause-places : goal.returns-in-Some-clause-places
returns-in-Some-clause-places c = (there c).0

pub returns-in-Some-clause-ranges : goal.returns-in-Some-clause-ranges
returns-in-Some-clause-ranges c = (there c).1

last : (c : goal.In_ok-push) → HasNames c.insert.new.self c.push.new.self.items × (c.push.new.self.items ≡
    placed_reference c.args.reference c.args.ranges.now.items)
last c =
    put_last bytes_eq name_of last_range (λ range r. r.range) (slice_cmp nat_cmp) placed_reference same_placed
    texts_ties one_text nat_list_eq_equiv.symm c.args.reference c.args.ranges.now.items c.push.new.self.items c.in_ok-clone.field-0
    c.len.result c.args.places.now c.insert.new.self
    (place_is c.args.reference.name c.requires c.get.ensures.value c.copied.ensures ∙
    no_place c.copied.result (λ i e. c.in_default.not-Some i e))
    c.in_ok-push.ensures.items c.in_ok-clone.ensures.cases (c.len.ensures ∙ c.args.ranges.now.ok.0) c.in_ok-insert.ensures.updates
    c.requires

pub returns-clause-places : goal.returns-clause-places
returns-clause-places c = (last c).0

pub returns-clause-ranges : goal.returns-clause-ranges
returns-clause-ranges c = (last c).1
