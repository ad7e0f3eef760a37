use Rattle.std.proofs.Common.{◌∙◌, ap, sym, ◌==◌}
use Rattle.std.specs.Option.{option_copied}
use Rattle.fast_check_tree_syntax.specs.declared.kind.Kind.{Kind}
use Rattle.fast_check_tree_syntax.specs.declared.kind.Kind.TheVariants.{Ident}
use Rattle.fast_check_tree_syntax.specs.declared.source.SyntaxContext.{SyntaxContext}
use Rattle.fast_check_tree_syntax.specs.Shape.{◌is◌}
use Rattle.std.proofs.lemmas.Bool.{not-true, not-false}
use Rattle.fast_check_tree_syntax.proofs.Tests.{and_fails, and_holds}
use Rattle.fast_check_meaning_expandos.specs.Objects.{exports_name}
use Rattle.fast_check_meaning_expandos.proofs.references.is_reference.Goals as goal

pub returns-then-ne : goal.returns-then-ne
returns-then-ne c = and_fails _ _ (sym (ap (λ (k : Kind). k is Ident) c.kind.ensures) ∙ not-true _ (sym c.ne.ensures ∙ c.if-ne.true))

pub returns-then-eq : goal.returns-then-eq
returns-then-eq c =
    let ident = sym (ap (λ (k : Kind). k is Ident) c.kind.ensures) ∙ not-false _ (sym c.ne.ensures ∙ c.if-ne.false) in
    let scope = c.eq.ensures ∙ ap (λ (s : SyntaxContext). s.0 == c.args.scope.0) c.of.ensures.ctxt in
    and_holds _ _ ident (and_holds _ _ (sym scope ∙ c.if-eq.true)
    (c.exports_name.ensures ∙ ap (exports_name (option_copied c.args.symbol)) c.of.ensures.sym))

pub returns-else-eq : goal.returns-else-eq
returns-else-eq c =
    let ident = sym (ap (λ (k : Kind). k is Ident) c.kind.ensures) ∙ not-false _ (sym c.ne.ensures ∙ c.if-ne.false) in
    let scope = c.eq.ensures ∙ ap (λ (s : SyntaxContext). s.0 == c.args.scope.0) c.of.ensures.ctxt in
    and_holds _ _ ident (c.if-eq.false ∙ and_fails _ _ (sym scope ∙ c.if-eq.false))
