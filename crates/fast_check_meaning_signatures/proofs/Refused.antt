-- An expression that may not stay by the words of its definition has the rule that says so.
use Rattle.std.specs.Prelude.{◌≡◌, Bool, true, false, not, ◌||◌, refl}
use Rattle.std.proofs.Common.{◌∙◌}
use Rattle.fast_check_tree_syntax.specs.declared.kind.Kind.{Kind}
use Rattle.fast_check_tree_syntax.specs.declared.kind.Kind.TheVariants as kinds
use Rattle.fast_check_tree_syntax.specs.declared.tree.Tree.{Tree}
use Rattle.fast_check_tree_syntax.specs.Shape.{kind_of}
use Rattle.fast_check_meaning_signatures.specs.Bindings.{Bindings}
use Rattle.fast_check_meaning_signatures.specs.Expressions.{is_among, is_plain, is_compound, freezes, makes_plain, known_by_kind, other_kinds}
use Rattle.fast_check_meaning_signatures.specs.Expressions.{is_refused, Rule, not_at_all, rule, expr_rule}

abbrev refuses : Rule → Bool
refuses not_at_all = true
refuses _ = false

-- of each kind it is the one or the other
module _ (bindings : Bindings) (t : Tree) where
  by_kind : (k : Kind) → let known = known_by_kind k bindings t in
      refuses (rule k known) ≡ not (is_plain k || (is_compound k || (is_among other_kinds k || known)))
  by_kind kinds.CallExpr = known (freezes bindings t)
    where
      known : (b : Bool) → refuses (rule kinds.CallExpr b) ≡ not b
      known true = refl
      known false = refl
  by_kind kinds.NewExpr = known (makes_plain bindings t)
    where
      known : (b : Bool) → refuses (rule kinds.NewExpr b) ≡ not b
      known true = refl
      known false = refl
  by_kind _ = refl

is_it : (x : Rule) → refuses x ≡ true → x ≡ not_at_all
is_it not_at_all e = refl
is_it _ e = cc

pub refused_rule : (bindings : Bindings) (t : Tree) → is_refused bindings t ≡ true → expr_rule bindings t ≡ not_at_all
refused_rule bindings t e = is_it (expr_rule bindings t) (by_kind bindings t (kind_of t) ∙ e)
