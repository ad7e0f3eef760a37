use Rattle.std.proofs.Common.{◌∙◌, sym, ap, refl, [], ◌∷◌, ◌++◌, inl, inr, is_some}
use Rattle.std.specs.Prelude.{slice_get}
use Rattle.url.specs.Parts.{serialize}
use Rattle.indexmap.proofs.CallerLemmas.{insert_entry-new}
use Rattle.fast_check_finder_ranges.proofs.findings.Lists.{none_found}
use Rattle.fast_check_finder_loop.specs.declared.demand.Place.{Place}
use Rattle.fast_check_finder_loop.specs.contracts.demand.PlacePartialEq.TheImpl as place_eq
use Rattle.fast_check_finder_loop.specs.Finder.{Modules}
use Rattle.fast_check_finder_loop.proofs.Followed.{place_is}
use Rattle.fast_check_finder_loop.proofs.PlaceKeys.{tells_places, found_place}
use Rattle.fast_check_finder_loop.proofs.finder.place_of.Goals as goal
use Rattle.fast_check_tables_packages.proofs.Rows.{last_got as get_last}

pub returns-in-Some : goal.returns-in-Some
returns-in-Some c =
    let key : Place = record { «package» = c.args.owner; specifier = c.specifier.result } in
    let es = c.args.modules.now.entries in
    let f = found_place (place_eq.eq-value.it key) es c.in-Some.number (sym c.get_index_of.ensures.index ∙ c.in-Some.is) in
    let same = place_is place_eq.eq-value.it tells_places key f.0.0 f.2 in
    record {
      followed = f.0;
      here = f.1;
      nv_is = sym same.0;
      text_is = sym same.1 ∙ ap serialize c.specifier.ensures;
      by = inl refl;
    }

pub returns : goal.returns
returns c =
    let key : Place = record { «package» = c.args.owner; specifier = c.specifier.result } in
    let es = c.args.modules.now.entries in
    let value = c.new.result in
    let none = none_found _ (sym c.get_index_of.ensures.found ∙ ap is_some c.in_default.is) in
    let all = c.in_ok-insert.ensures.entries ∙ insert_entry-new place_eq.eq-value.it c.args.modules.now key value none in
    record {
      followed = (key, value);
      here = ap (λ (ms : Modules). slice_get ms c.len-number.result) all ∙
          (ap (slice_get (es ++ (key, value) ∷ [])) c.len-number.ensures.len ∙ get_last es (key, value));
      nv_is = refl;
      text_is = ap serialize c.specifier.ensures;
      by = inr (all, c.new.ensures);
    }
