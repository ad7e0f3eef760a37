use Rattle.std.proofs.Common.{◌∙◌, ap, sym, ℕ, List, ◌==◌}
use Rattle.std.specs.Str.{bytes_eq}
use Rattle.fast_check_tree_syntax.specs.declared.kind.Kind.{Kind}
use Rattle.fast_check_tree_syntax.specs.declared.kind.Kind.TheVariants.{Ident}
use Rattle.fast_check_tree_syntax.specs.declared.source.SyntaxContext.{SyntaxContext}
use Rattle.fast_check_tree_syntax.specs.Shape.{◌is◌}
use Rattle.std.proofs.lemmas.Bool.{not-true, not-false}
use Rattle.fast_check_tree_syntax.proofs.Tests.{and_fails, and_holds}
use Rattle.fast_check_tree_helpers.proofs.global_calls.is_global.Goals as goal

pub returns-then-ne : goal.returns-then-ne
returns-then-ne c = and_fails _ _ (sym (ap (λ (k : Kind). k is Ident) c.kind.ensures) ∙ not-true _ (sym c.ne.ensures ∙ c.if-ne.true))

pub returns-then-eq : goal.returns-then-eq
returns-then-eq c =
    let of = c.of-ident.ensures in
    let ident = sym (ap (λ (k : Kind). k is Ident) c.kind.ensures) ∙ not-false _ (sym c.ne.ensures ∙ c.if-ne.false) in
    let text = c.eq.ensures ∙ ap (λ (text : List ℕ). bytes_eq text c.args.name.now) of.sym in
    and_holds _ _ ident (and_holds _ _ (sym text ∙ c.if-eq.true) (ap (λ (x : SyntaxContext). x.0 == c.args.unresolved.0) of.ctxt))

pub returns-else-eq : goal.returns-else-eq
returns-else-eq c =
    let ident = sym (ap (λ (k : Kind). k is Ident) c.kind.ensures) ∙ not-false _ (sym c.ne.ensures ∙ c.if-ne.false) in
    let text = c.eq.ensures ∙ ap (λ (text : List ℕ). bytes_eq text c.args.name.now) c.of-ident.ensures.sym in
    and_holds _ _ ident (c.if-eq.false ∙ and_fails _ _ (sym text ∙ c.if-eq.false))
