use Rattle.std.proofs.Common.{◌∙◌, ap, sym, ◌++◌, ◌∷◌, [], List, ℕ, map, append_assoc, append-nil}
use Rattle.std.proofs.lemmas.List.{nil_from_length}
use Rattle.fast_check_tree_syntax.specs.declared.source.SourceRange.{SourceRange}
use Rattle.fast_check_meaning_expandos.specs.declared.references.Reference.{Reference}
use Rattle.fast_check_meaning_expandos.proofs.references.once_a_name.Goals as goal

abbrev of_entry : List ℕ × SourceRange → Reference
of_entry e = record { name = e.0; range = e.1 }

pub loop-name-init : goal.loop-name-init
loop-name-init c =
    λ i. c.new-once.ensures i ++ map of_entry ((c.into_iter-name-iterator.ensures.into_iter_gives.0 ∙ c.in_ok-items.ensures) i)

pub loop-name-preserved : goal.loop-name-preserved
loop-name-preserved c =
    let done = c.loop-name.once in
    let rest = map of_entry c.next.new.self.rest.items in
    ap (λ (rs : List Reference). rs ++ rest) c.in_ok-push.ensures.ok
    ∙ (append_assoc done (of_entry (c.in-Some.name, c.in-Some.range) ∷ []) rest
    ∙ (ap (λ es. done ++ map of_entry es) (sym c.in-Some.ensures.steps.0) ∙ c.loop-name.invariant))

pub returns : goal.returns
returns c =
    let none = nil_from_length _ (sym c.loop-name.name-iterator.rest.ok.0 ∙ c.in-None.ensures.steps.0) in
    sym (append-nil c.loop-name.once)
    ∙ (ap (λ es. c.loop-name.once ++ map of_entry es) (sym none) ∙ c.loop-name.invariant)
