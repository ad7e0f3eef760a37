use Rattle.std.proofs.Common.{ap, ◌∙◌, sym, refl}
use Rattle.fast_check_transform_expressions.specs.nodes.Bindings.{names_of}
use Rattle.fast_check_tree_syntax.specs.Part.{seen}
use Rattle.fast_check_tables_modules.specs.diagnostics.PublicRanges.{is_implementation}
use Rattle.fast_check_tree_syntax.specs.Shape.{parts}
use Rattle.fast_check_meaning_signatures.specs.Answers.{answer_to, answer_of, class_of}
use Rattle.fast_check_meaning_signatures.specs.Classes.{class_head, superclass_seen, members_seen}
use Rattle.fast_check_meaning_signatures.proofs.Adding.{adds_same, adds_joined, adds_settled, some_of}
use Rattle.std.proofs.Common.{Some}
use Rattle.fast_check_tree_syntax.specs.declared.tree.Tree.{Tree}
use Rattle.fast_check_transform_classes.proofs.classes.transform_class.Goals as goal

pub returns : goal.returns
returns c =
    let u = names_of c.args.bindings in
    let asked = is_implementation c.args.public_ranges.now in
    let superclass =
    adds_settled
    (adds_same (ap (λ (t : Tree). answer_to (superclass_seen t)) (sym c.of.ensures.super_class)) c.in_ok-super_class.ensures) in
    let members =
    adds_same (ap (λ (t : Tree). answer_of (members_seen u asked (parts t))) (sym c.of.ensures.body)) c.in_ok-members.ensures in
    some_of c.class_of.result c.class_of.ensures
    (adds_joined (λ s ms. Some (class_of (class_head (seen c.args.class)) s ms)) superclass members) refl
