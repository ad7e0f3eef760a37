use Rattle.std.specs.Prelude.{Vec}
use Rattle.std.specs.declared.alloc.Global.{Global}
use Rattle.std.proofs.Common.{rules, refl, sym, ap, ◌∙◌, ◌++◌, List, map, drop, [], ◌∷◌}
use Rattle.fast_check_tree_syntax.specs.declared.part.Part.{Part}
use Rattle.fast_check_tree_syntax.specs.Part.{seen}
use Rattle.fast_check_meaning_signatures.specs.Members.{each_behind, if_kept, kept_members}
use Rattle.fast_check_transform_classes.proofs.class_nodes.Kept.{kept_more, kept_same, kept_all}
use Rattle.fast_check_transform_classes.proofs.class_nodes.earlier.kept_members.Goals as goal
use Rattle.fast_check_transform_classes.proofs.class_nodes.earlier.kept_members.Goals.{then-branch+in_ok-push, else-branch}

pub loop-member-init : goal.loop-member-init
loop-member-init c =
    ([], (c.new-earlier.ensures, ap (λ (xs : List Part). map seen xs ++ kept_members c.args.members.now) (sym c.new-kept.ensures.items)))

pub loop-member-preserved : goal.loop-member-preserved
loop-member-preserved c =
    let m = seen c.read-member.result in
    let before = c.loop-member.invariant.0 in
    let next = c.in_ok-stays.ensures before c.loop-member.invariant.1.0 in
    let items = λ (v : Vec Part Global). v.items in
    elim c.if-branch.branch [
      | then-branch+in_ok-push w ↦ (
        m ∷ before,
        (
          next.knows,
          kept_more c.args.members.now c.loop-member.member-index m c.loop-member-test.true (search rules) before
              w.if-branch.true next.stays_is c.loop-member.kept.items c.read-member.result c.loop-member.invariant.1.1 refl
              (ap items w.kept-is ∙ w.in_ok-push.ensures.items),
        ),
      )
      | else-branch w ↦ (
        m ∷ before,
        (
          next.knows,
          kept_same c.args.members.now c.loop-member.member-index m c.loop-member-test.true (search rules) before
              w.if-branch.false next.stays_is (map seen c.if-branch.kept.items)
              (c.loop-member.invariant.1.1 ∙
              ap (λ xs. map seen xs ++ each_behind if_kept before (drop c.loop-member.member-index c.args.members.now))
              (ap items (sym w.kept-is))),
        ),
      )
    ]

pub returns : goal.returns
returns c =
    kept_all c.args.members.now c.loop-member.member-index c.loop-member-test.false c.loop-member.invariant.0
    (map seen c.loop-member.kept.items)
    c.loop-member.invariant.1.1
