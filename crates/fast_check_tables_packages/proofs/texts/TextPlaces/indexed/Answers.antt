use Rattle.std.proofs.Common.{◌≡◌, ◌∙◌, ◌++◌, ◌∷◌, sym, ap, subst, List, ℕ, Some, All, Vec, Global}
use Rattle.std.specs.Map.{keys_of}
use Rattle.std.specs.Cmp.{on_total}
use Rattle.std.specs.Cmp.Lexicographic.{nat_list_cmp_total}
use Rattle.std.proofs.lemmas.List.Elements.{All-head, All-tail}
use Rattle.std.proofs.lemmas.Map.Views.{All-found}
use Rattle.fast_check_tables_packages.specs.declared.texts.Entry.{Entry}
use Rattle.fast_check_tables_packages.specs.Texts.{AreFirsts, keys_in, place_of}
use Rattle.fast_check_tables_packages.proofs.Found.{firsts_none, is_appended, keys_over, keys_done, all_indexed}
use Rattle.fast_check_tables_packages.proofs.texts.TextPlaces.indexed.Goals as goal

abbrev Row : Type 0
Row = Vec ℕ Global × ℕ

pub loop-text-init : goal.loop-text-init
loop-text-init c =
    let gives = c.into_iter-text-iterator.ensures.into_iter_gives in
    let places = c.args.self.places in (
      ap (λ (es : List Entry). keys_in es ++ keys_of c.into_iter-text-iterator.result) c.new.ensures.items
          ∙ ap (λ (es : List Row). keys_of es) gives.0,
      subst (λ (es : List Row). All (λ e. place_of e.0.items places ≡ Some e.1) es) (sym gives.0)
          (All-found (on_total (λ (v : Vec ℕ Global). v.items) nat_list_cmp_total) places gives.5),
      λ texts h. subst (λ (es : List Entry). AreFirsts texts es) (sym c.new.ensures.items) (firsts_none texts),
    )

pub loop-text-preserved : goal.loop-text-preserved
loop-text-preserved c =
    let gives = c.into_iter-text-iterator.ensures.into_iter_gives in
    let places = c.args.self.places in
    let old = c.loop-text.index.entries.items in
    let rest = c.next.new.self in
    let text = c.in-Some.text in
    let inv = c.loop-text.invariant in
    let steps = c.in-Some.ensures.steps in
    let whole : keys_in old ++ text ∷ keys_of rest ≡ keys_of places.entries = sym
    (ap (λ (es : List Row). keys_in old ++ keys_of es) steps) ∙ inv.0 in
    let found = subst (λ (es : List Row). All (λ e. place_of e.0.items places ≡ Some e.1) es) steps inv.1 in (
      ap (λ (ks : List (Vec ℕ Global)). ks ++ keys_of rest) c.in_ok-append.ensures.keys
          ∙ (keys_over (keys_in old) text (keys_of rest) ∙ whole),
      All-tail (λ (e : Row). place_of e.0.items places ≡ Some e.1) (text, c.in-Some.place) rest found,
      λ texts h. c.in_ok-append.ensures.firsts texts
          (sym (h text.items) ∙ All-head (λ (e : Row). place_of e.0.items places ≡ Some e.1) (text, c.in-Some.place) rest found)
          (is_appended old text (keys_of rest) (keys_of places.entries) gives.5 whole) (inv.2 texts h),
    )

pub returns : goal.returns
returns c = λ texts h.
    let old = c.loop-text.index.entries.items in
    let inv = c.loop-text.invariant in
    all_indexed texts c.args.self c.loop-text.index h
    (sym (keys_done (keys_in old))
    ∙ (ap (λ (es : List Row). keys_in old ++ keys_of es) (sym (c.in-None.ensures.steps).0) ∙ inv.0)) (inv.2 texts h)
