use Rattle.std.proofs.Common.{◌≡◌, ◌∙◌, sym, ap, subst, List, ℕ, Some, Option, unwrap_or}
use Rattle.fast_check_tables_packages.specs.First.{earlier}
use Rattle.fast_check_tables_packages.specs.declared.texts.Entry.{Entry}
use Rattle.fast_check_tables_packages.specs.Texts.{AreFirsts, IsLongestOf, first_among, keys_in}
use Rattle.fast_check_tables_packages.proofs.Found.{keys_more, firsts_more, found_longest, some_earlier}
use Rattle.fast_check_tables_packages.proofs.texts.TextIndex.append.Goals as goal

pub returns-clause-keys : goal.returns-clause-keys
returns-clause-keys c =
    ap (λ (es : List Entry). keys_in es) c.in_ok-push.ensures.items
    ∙ keys_more c.args.self.now.entries.items
    (record { text = c.args.text; first = c.unwrap_or-first.result; longest_before = c.longest_of-longest_before.result })

pub returns-clause-firsts : goal.returns-clause-firsts
returns-clause-firsts c = λ texts own above are.
    let es = c.args.self.now.entries.items in
    let text = c.args.text.items in
    let place = c.args.place in
    let entry : Entry =
    record { text = c.args.text; first = c.unwrap_or-first.result; longest_before = c.longest_of-longest_before.result } in
    let longest : IsLongestOf text es c.longest_of-longest_before.result =
    subst (λ (t : List ℕ). IsLongestOf t es c.longest_of-longest_before.result) c.as_slice.ensures.value
    (c.longest_of-longest_before.ensures are.ascending are.noted) in
    let first : c.first_at.result ≡ first_among es text texts = c.first_at.ensures
    ∙ found_longest texts es text c.longest_of-longest_before.result are longest in
    subst (λ (xs : List Entry). AreFirsts texts xs) (sym c.in_ok-push.ensures.items)
    (firsts_more texts es entry place own above are longest
    (some_earlier (first_among es text texts) place
    ∙ ap Some (sym (c.unwrap_or-first.ensures
    ∙ ap (λ (o : Option ℕ). unwrap_or o place) (c.earlier.ensures ∙ ap (λ (o : Option ℕ). earlier o (Some place)) first)))))
