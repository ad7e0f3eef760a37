use Rattle.std.proofs.Common.{ap, ◌∙◌, sym, ◌++◌, List, map}
use Rattle.std.specs.Prelude.{flat_map}
use Rattle.std.proofs.lemmas.Result.{IfOk-weaker}
use Rattle.fast_check_transform_expressions.specs.nodes.Bindings.{names_of}
use Rattle.fast_check_tree_syntax.specs.Part.{seen}
use Rattle.fast_check_tables_modules.specs.diagnostics.PublicRanges.{is_implementation}
use Rattle.fast_check_tree_syntax.specs.declared.tree.Tree.{Tree}
use Rattle.fast_check_meaning_signatures.specs.Answers.{answer_of}
use Rattle.fast_check_meaning_signatures.specs.Classes.{declared_by_params, members_seen}
use Rattle.fast_check_meaning_signatures.specs.Members.{hash_mark}
use Rattle.fast_check_meaning_signatures.proofs.Adding.{adds_same}
use Rattle.fast_check_transform_classes.proofs.MembersKept.{all_members}
use Rattle.fast_check_transform_classes.proofs.members.transform_members.Goals as goal

pub returns : goal.returns
returns c =
    let slice = ap (map seen) c.as_slice.ensures.value in
    let slice-2 = ap (map seen) c.as_slice-2.ensures.value in
    let made = c.in_ok-items.ensures ∙
    (λ i. hash_mark c.parts-members.result.now ++ flat_map (λ m. declared_by_params c.args.bindings.unresolved m)
    ((slice ∙ sym slice-2) i)) in
    IfOk-weaker c.transform_kept.result _ _
    (λ all h. adds_same
    (ap (λ (ms : List Tree). answer_of (members_seen (names_of c.args.bindings) (is_implementation c.args.public_ranges.now) ms))
    (sym c.parts-members.ensures))
    (all_members (names_of c.args.bindings) (is_implementation c.args.public_ranges.now) c.parts-members.result.now h
    (slice-2 ∙ c.in_ok-kept.ensures) made))
    c.transform_kept.ensures
