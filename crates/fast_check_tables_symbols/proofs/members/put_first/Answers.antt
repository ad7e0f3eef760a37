use Rattle.std.proofs.Common.{rules, ◌≡◌, ◌∙◌, ap, true, false, List, ℕ, string_bytes}
use Rattle.std.specs.Prelude.{is_some}
use Rattle.std.proofs.lemmas.Result.{IfOk-weaker}
use Rattle.fast_check_tables_symbols.specs.Exports.{export_named, put_export}
use Rattle.fast_check_tables_symbols.proofs.Named.{Index, kept, put_new}
use Rattle.fast_check_tables_symbols.proofs.members.put_first.Goals as goal

pub returns-then-is_some : goal.returns-then-is_some
returns-then-is_some c = λ asked.
    let is : is_some (export_named (string_bytes c.args.name.now) c.args.index.now) ≡ true = cc in
    kept (string_bytes c.args.name.now) asked c.args.id c.args.index.now is

pub returns : goal.returns
returns c =
    let is : is_some (export_named (string_bytes c.args.name.now) c.args.index.now) ≡ false = cc in
    let text : string_bytes c.in_ok-clone.field-0 ≡ string_bytes c.args.name.now = search rules in
    IfOk-weaker c.put.result (λ _. c.put.new.self ≡ put_export (string_bytes c.in_ok-clone.field-0) c.args.id c.args.index.now) _
    (λ _ h asked.
    ap (λ (es : Index). export_named asked es) (h ∙ ap (λ (n : List ℕ). put_export n c.args.id c.args.index.now) text)
    ∙ put_new (string_bytes c.args.name.now) asked c.args.id c.args.index.now is)
    c.put.ensures.put
