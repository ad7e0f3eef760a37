use Rattle.std.proofs.Common.{◌∙◌, ap, sym, ◌++◌, append_assoc, List}
use Rattle.std.proofs.lemmas.Result.{on_ok_weaker}
use Rattle.std.specs.List.{flat_map}
use Rattle.fast_check_tree_syntax.specs.declared.tree.Tree.{Tree}
use Rattle.fast_check_tree_syntax.specs.Part.{seen}
use Rattle.fast_check_tree_syntax.specs.Shape.{parts}
use Rattle.fast_check_tables_modules.specs.declared.expandos.Expando.{Expando}
use Rattle.fast_check_tables_modules.specs.Expandos.{expandos, own_expando}
use Rattle.fast_check_tables_modules.proofs.ExpandosOut.{expandos_out, item_lower}
use Rattle.fast_check_tables_symbols.proofs.Pushed.{each_more, each_all}
use Rattle.fast_check_tables_modules.proofs.expandos.+expandos.Goals as goal

pub push_expandos-returns : goal.push_expandos-returns
push_expandos-returns t c =
    let part = seen c.args.part in
    let old = c.args.out.now.items in
    on_ok_weaker c.push_each.result
    (λ h. h ∙ (ap (λ (es : List Expando). es ++ flat_map expandos (parts part)) c.in_ok-push_own.ensures
    ∙ (append_assoc old (own_expando part) (flat_map expandos (parts part)) ∙
    ap (λ (es : List Expando). old ++ es) (sym (expandos_out part)))))
    c.push_each.ensures

pub push_each-push_expandos-requires : goal.push_each-push_expandos-requires
push_each-push_expandos-requires t c = (
  item_lower (seen c.args.part) c.inner-item.result c.loop-inner.inner-index c.decreases c.loop-inner-test.true c.parts-inner-items.ensures
      c.inner-item.is c.read.ensures,
  tt,
)

pub push_each-loop-inner-preserved : goal.push_each-loop-inner-preserved
push_each-loop-inner-preserved t c =
    each_more expandos c.parts-inner-items.result.now c.loop-inner.inner-index c.inner-item.result c.args.out.now.items
    c.loop-inner-test.true c.inner-item.is c.loop-inner.invariant
    (c.in_ok-push_expandos.ensures ∙ ap (λ (u : Tree). c.loop-inner.out.items ++ expandos u) c.read.ensures)

pub push_each-returns : goal.push_each-returns
push_each-returns t c =
    each_all expandos c.parts-inner-items.result.now c.loop-inner.inner-index c.args.out.now.items c.loop-inner-test.false
    c.loop-inner.invariant
    ∙ ap (λ (ts : List Tree). c.args.out.now.items ++ flat_map expandos ts) c.parts-inner-items.ensures
