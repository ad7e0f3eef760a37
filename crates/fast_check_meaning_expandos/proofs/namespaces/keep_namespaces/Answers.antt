use Rattle.std.proofs.Common.{◌≡◌, ◌∙◌, sym, ap, ◌++◌, append-nil}
use Rattle.std.proofs.lemmas.List.{nil_from_length}
use Rattle.std.specs.List.{flat_map}
use Rattle.fast_check_meaning_signatures.specs.Answers.{answer_of}
use Rattle.fast_check_meaning_expandos.specs.Expandos.{namespaces_seen}
use Rattle.fast_check_meaning_expandos.specs.Merged.{merged_seen}
use Rattle.fast_check_meaning_expandos.proofs.Extended.{rest_extends, all_merged_seen}
use Rattle.fast_check_meaning_expandos.proofs.namespaces.keep_namespaces.Goals as goal

pub loop-object-init : goal.loop-object-init
loop-object-init c =
    let all = ap (flat_map merged_seen) (c.into_iter-object-iterator.ensures.into_iter_gives.0 ∙ c.in_ok-items.ensures)
    ∙ all_merged_seen c.args.properties.items in record {
      items = λ i. c.new-items.ensures i ++ (answer_of (all i)).stays;
      faults = λ i. c.args.faults.now.items ++ (answer_of (all i)).faults;
    }

pub loop-object-preserved : goal.loop-object-preserved
loop-object-preserved c =
    let before = c.loop-object in
    let steps = sym c.in-Some.ensures.steps.0 in
    let both = rest_extends (merged_seen (c.in-Some.object, c.in-Some.namespace))
    (flat_map merged_seen c.next.new.self.rest.items) c.in_ok-push_namespace.ensures
    (ap (λ es. before.items ++ (answer_of (flat_map merged_seen es)).stays) steps ∙ before.invariant.items)
    (ap (λ es. before.faults.items ++ (answer_of (flat_map merged_seen es)).faults) steps ∙ before.invariant.faults) in
    record { items = both.0; faults = both.1 }

pub returns : goal.returns
returns c =
    let none = nil_from_length _ (sym c.loop-object.object-iterator.rest.ok.0 ∙ c.in-None.ensures.steps.0) in
    let items = c.loop-object.items in
    let faults = c.loop-object.faults.items in
    let all = answer_of (namespaces_seen c.args.properties.items) in
    let kept : items ≡ all.stays = sym (append-nil items)
    ∙ (ap (λ es. items ++ (answer_of (flat_map merged_seen es)).stays) (sym none) ∙ c.loop-object.invariant.items) in record {
      added = all.faults;
      is = λ i. record { stays = sym kept i; faults = all.faults };
      faults = sym (append-nil faults) ∙ (ap (λ es. faults ++ (answer_of (flat_map merged_seen es)).faults) (sym none)
          ∙ c.loop-object.invariant.faults);
    }
