use Rattle.std.proofs.Common.{◌∙◌, ap, sym, ◌++◌, append_assoc, List}
use Rattle.std.proofs.lemmas.Result.{on_ok_weaker}
use Rattle.std.specs.List.{flat_map}
use Rattle.std.specs.Option.{option_copied}
use Rattle.fast_check_tree_syntax.specs.declared.tree.Tree.{Tree}
use Rattle.fast_check_tree_syntax.specs.Part.{seen}
use Rattle.fast_check_tree_syntax.specs.Shape.{parts}
use Rattle.fast_check_tables_modules.proofs.ExpandosOut.{item_lower}
use Rattle.fast_check_tables_modules.proofs.symbol_proofs.Pushed.{each_more, each_all}
use Rattle.fast_check_meaning_expandos.specs.declared.references.Reference.{Reference}
use Rattle.fast_check_meaning_expandos.specs.Objects.{exports_name}
use Rattle.fast_check_meaning_expandos.specs.References.{references, own_reference}
use Rattle.fast_check_meaning_expandos.proofs.ReferencesOut.{references_out}
use Rattle.fast_check_meaning_expandos.proofs.references.+references.Goals as goal

pub push_references-returns : goal.push_references-returns
push_references-returns t c =
    let exported = exports_name (option_copied c.args.symbol) in
    let part = seen c.args.part in
    let old = c.args.out.now.items in
    let own = own_reference c.args.scope exported part in
    let inner = flat_map (references c.args.scope exported) (parts part) in
    on_ok_weaker c.push_each.result
    (λ h. h ∙ (ap (λ (rs : List Reference). rs ++ inner) c.in_ok-push_own.ensures
    ∙ (append_assoc old own inner ∙ ap (λ (rs : List Reference). old ++ rs) (sym (references_out c.args.scope exported part)))))
    c.push_each.ensures

pub push_each-push_references-requires : goal.push_each-push_references-requires
push_each-push_references-requires t c = (
  item_lower (seen c.args.part) c.inner-item.result c.loop-inner.inner-index c.decreases c.loop-inner-test.true c.parts-inner-items.ensures
      c.inner-item.is c.read.ensures,
  tt,
)

pub push_each-loop-inner-preserved : goal.push_each-loop-inner-preserved
push_each-loop-inner-preserved t c =
    let found = references c.args.scope (exports_name (option_copied c.args.symbol)) in
    each_more found c.parts-inner-items.result.now c.loop-inner.inner-index c.inner-item.result c.args.out.now.items c.loop-inner-test.true
    c.inner-item.is c.loop-inner.invariant
    (c.in_ok-push_references.ensures ∙ ap (λ (u : Tree). c.loop-inner.out.items ++ found u) c.read.ensures)

pub push_each-returns : goal.push_each-returns
push_each-returns t c =
    let found = references c.args.scope (exports_name (option_copied c.args.symbol)) in
    each_all found c.parts-inner-items.result.now c.loop-inner.inner-index c.args.out.now.items c.loop-inner-test.false
    c.loop-inner.invariant
    ∙ ap (λ (ts : List Tree). c.args.out.now.items ++ flat_map found ts) c.parts-inner-items.ensures
