use Rattle.std.proofs.Common.{sym, ap, ◌∙◌}
use Rattle.std.specs.Prelude.{option_map}
use Rattle.std.specs.Str.{bytes_eq}
use Rattle.fast_check_read.specs.schema.Lookup.{word_by_text}
use Rattle.fast_check_read.specs.schema.Rows.{word_row, WordRow}
use Rattle.fast_check_read.proofs.schema.Scan.{found, passed_over, none_left}
use Rattle.fast_check_read.proofs.schema.lookup.word_named.Goals as goal

pub returns-then-eq : goal.returns-then-eq
returns-then-eq c =
    ap (option_map (λ (row : WordRow). row.word))
    (sym (found (λ w. bytes_eq w.name c.args.text.now) word_row _ _ _
    c.loop-named.invariant c.loop-named-test.true (sym c.eq.ensures ∙ c.if-eq.true)) ∙
    ap (word_by_text c.args.text.now) c.words-named-items.ensures)

pub loop-named-preserved : goal.loop-named-preserved
loop-named-preserved c =
    passed_over (λ w. bytes_eq w.name c.args.text.now) word_row _ _ _
    c.loop-named.invariant c.loop-named-test.true (sym c.eq.ensures ∙ c.if-eq.false)

pub returns : goal.returns
returns c =
    ap (option_map (λ (row : WordRow). row.word))
    (sym (none_left (λ w. bytes_eq w.name c.args.text.now) word_row _ _ c.loop-named.invariant c.loop-named-test.false) ∙
    ap (word_by_text c.args.text.now) c.words-named-items.ensures)
