use Rattle.std.proofs.Common.{sym, ap, ◌∙◌}
use Rattle.std.specs.Prelude.{option_map}
use denote.Enum.Bare.{sameb}
use Rattle.fast_check_tree_syntax.specs.contracts.kind.Word.{the_type as word_type}
use Rattle.fast_check_read.specs.schema.Lookup.{row_of_word}
use Rattle.fast_check_read.specs.schema.Rows.{word_row, WordRow}
use Rattle.fast_check_read.proofs.schema.Scan.{found, passed_over, none_left}
use Rattle.fast_check_read.proofs.schema.lookup.word_text.Goals as goal

pub returns-then-eq : goal.returns-then-eq
returns-then-eq c =
    ap (option_map (λ (row : WordRow). row.name))
    (sym (found (λ w. sameb word_type w.word c.args.word) word_row _ _ _
    c.loop-named.invariant c.loop-named-test.true (sym c.eq.ensures ∙ c.if-eq.true)) ∙
    ap (row_of_word c.args.word) c.words-named-items.ensures)

pub loop-named-preserved : goal.loop-named-preserved
loop-named-preserved c =
    passed_over (λ w. sameb word_type w.word c.args.word) word_row _ _ _
    c.loop-named.invariant c.loop-named-test.true (sym c.eq.ensures ∙ c.if-eq.false)

pub returns : goal.returns
returns c =
    ap (option_map (λ (row : WordRow). row.name))
    (sym (none_left (λ w. sameb word_type w.word c.args.word) word_row _ _ c.loop-named.invariant c.loop-named-test.false) ∙
    ap (row_of_word c.args.word) c.words-named-items.ensures)
