use Rattle.fast_check_print.proofs.Adding.{adds-token, adds-then, adds-last, adds-token_ok}
use Rattle.fast_check_print.proofs.answer.print_static_source.Goals as goal

pub returns : goal.returns
returns c =
    let opened = adds-token_ok _ _ _ _ _ c.in_ok-begin_object.was c.begin_object.ensures in
    let export = adds-then _ _ _ _ _ opened (adds-token_ok _ _ _ _ _ c.in_ok-key.was c.key.ensures) in
    let is_export = adds-then _ _ _ _ _ export (adds-token_ok _ _ _ _ _ c.in_ok-boolean.was c.boolean.ensures) in
    let range = adds-then _ _ _ _ _ is_export (adds-token_ok _ _ _ _ _ c.in_ok-key-2.was c.key-2.ensures) in
    let span = adds-then _ _ _ _ _ range c.in_ok-print_range.ensures in
    let specifier = adds-then _ _ _ _ _ span (adds-token_ok _ _ _ _ _ c.in_ok-key-3.was c.key-3.ensures) in
    let text = adds-then _ _ _ _ _ specifier (adds-token_ok _ _ _ _ _ c.in_ok-string.was c.string.ensures) in
    let only = adds-then _ _ _ _ _ text (adds-token_ok _ _ _ _ _ c.in_ok-key-4.was c.key-4.ensures) in
    let all = adds-then _ _ _ _ _ only (adds-token_ok _ _ _ _ _ c.in_ok-boolean-2.was c.boolean-2.ensures) in
    rw (← c.as_str.ensures) (adds-last c.end_object.result _ _ _ _ _ all (adds-token _ _ _ _ c.end_object.ensures))
