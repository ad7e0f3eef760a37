use Rattle.std.proofs.Common.{ap, ◌∙◌, sym, append-nil, ◌++◌, List, map}
use Rattle.std.specs.Prelude.{flat_map}
use Rattle.fast_check_tree_syntax.specs.Part.{seen}
use Rattle.fast_check_tree_syntax.specs.declared.tree.Tree.{Tree}
use Rattle.fast_check_meaning_signatures.specs.Classes.{declared_by_params}
use Rattle.fast_check_transform_classes.proofs.MembersKept.{declared_more, declared_all}
use Rattle.fast_check_transform_classes.proofs.members.made_members.Goals as goal

pub loop-member-init : goal.loop-member-init
loop-member-init c = sym (append-nil c.in_ok-items.items)

pub loop-member-preserved : goal.loop-member-preserved
loop-member-preserved c =
    declared_more (λ m. declared_by_params c.args.unresolved m) c.args.kept.now c.loop-member.member-index c.member-item.result
    c.loop-member-test.true c.member-item.is c.in_ok-items.items c.loop-member.invariant c.in_ok-declare_by_params.ensures

pub returns : goal.returns
returns c =
    declared_all
    (λ m. declared_by_params c.args.unresolved m) c.args.kept.now c.loop-member.member-index c.loop-member-test.false c.in_ok-items.items
    c.loop-member.invariant
    ∙ ap (λ (xs : List Tree). xs ++ flat_map (λ m. declared_by_params c.args.unresolved m) (map seen c.args.kept.now)) c.in_ok-items.ensures
