use Rattle.std.proofs.Common.{ap, ◌∙◌, sym, refl}
use Rattle.fast_check_tree_syntax.specs.Part.{seen}
use Rattle.fast_check_meaning_signatures.specs.Members.{is_private, is_computed, key_text}
use Rattle.fast_check_transform_classes.proofs.class_nodes.Telling.{next_method}
use Rattle.fast_check_transform_classes.proofs.class_nodes.earlier.Earlier.method_stays.Goals as goal

pub returns : goal.returns
returns c = λ m earlier known.
    next_method (seen c.args.member) m
    (ap is_private (sym c.of.ensures.accessibility) ∙ (sym c.is_private.ensures ∙ c.if-not-is_private.false))
    (ap is_computed (sym c.of.ensures.key) ∙ (sym c.is_computed.ensures ∙ c.if-is_computed.false))
    c.args.self.now
    (record { private_methods = c.insert.new.self; has_private_implementation = c.args.self.now.has_private_implementation })
    c.key_text.result c.in_ok-insert.field-0 (c.key_text.ensures ∙ ap key_text c.of.ensures.key) refl c.in_ok-insert.ensures.added
    c.in_ok-insert.ensures.updates.0 earlier known
