use Rattle.std.proofs.Common.{◌≡◌, ℕ, ◌+◌, ◌-◌, ◌∷◌, length, arith, option_map, sym, ap, ◌∙◌, subst}
use Rattle.fast_check_read.specs.schema.Rows.{variant_row}
use Rattle.fast_check_print.specs.Trees.{variant_names, names_from}
use Rattle.fast_check_print.specs.Writing.{Adds, opening}
use Rattle.fast_check_print.proofs.Adding.{adds-then, adds-token_ok}
use Rattle.fast_check_print.proofs.VariantNames.{variant_names-choice}
use Rattle.fast_check_print.proofs.variants.+open_variants.Goals as goal

-- where the choice has a variant for the kind
names-found : (t : ℕ) (c : goal.In_ok-open_variants-in-Some t)
    → variant_names c.args.levels c.args.kind c.args.form ≡ c.in-Some.variant.0.now ∷
    variant_names (c.args.levels - 1) c.args.kind c.in-Some.variant.1
names-found t c =
    ap (variant_names c.args.levels c.args.kind) c.in-Choice.is
    ∙ (variant_names-choice c.args.levels c.args.kind c.in-Choice.choice c.if-levels-gt0.true
    ∙ ap (λ found. names_from found (variant_names (c.args.levels - 1) c.args.kind))
    (sym c.variant_of.ensures ∙ ap (option_map variant_row) c.in-Some.is))

pub returns-in_ok-open_variants-in-Some-clause-tokens : goal.returns-in_ok-open_variants-in-Some-clause-tokens
returns-in_ok-open_variants-in-Some-clause-tokens t c =
    let brace = adds-token_ok _ _ _ _ _ c.in_ok-begin_object-in-Some.was c.begin_object.ensures in
    let name = adds-then _ _ _ _ _ brace (adds-token_ok _ _ _ _ _ c.in_ok-key-in-Some.was c.key.ensures) in
    let all = adds-then _ _ _ _ _ name c.in_ok-open_variants-in-Some.ensures.tokens in
    subst (λ names. Adds (opening names) c.args.out.now c.open_variants.new.out) (sym (names-found t c)) all

pub returns-in_ok-open_variants-in-Some-clause-count : goal.returns-in_ok-open_variants-in-Some-clause-count
returns-in_ok-open_variants-in-Some-clause-count t c =
    let inner = c.in_ok-open_variants-in-Some.ensures.count in
    let some = c.if-levels-gt0.true in
    let count : length (variant_names c.args.levels c.args.kind c.args.form) ≡ 1 + length
    (variant_names (c.args.levels - 1) c.args.kind c.in-Some.variant.1) = ap length (names-found t c) ∙ omega arith in
    (ap (λ n. 1 + n) inner.0 ∙ sym count, omega (arith, inner.1, some))
