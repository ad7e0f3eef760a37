use Rattle.std.proofs.Common.{[], ◌∷◌, OnOk, sym, subst}
use Rattle.json.specs.Token.{end_object}
use Rattle.fast_check_print.specs.Writing.{Adds, WritesData}
use Rattle.fast_check_print.proofs.Adding.{adds-token, adds-last, adds-token_ok}
use Rattle.fast_check_print.specs.Answer.{answer_data, diagnostics_data}
use Rattle.fast_check_print.proofs.answer.print_answer.Goals as goal
use Rattle.fast_check_print.proofs.answer.print_answer.Goals.{in-Ok+in_ok-key-in-Ok+in_ok-print_module-in-Ok}
use Rattle.fast_check_print.proofs.answer.print_answer.Goals.{in-Err+in_ok-key-in-Err+in_ok-print_diagnostics-in-Err}

pub returns : goal.returns
returns c =
    let closed = adds-token c.end_object.result _ _ _ c.end_object.ensures in
    let opened = adds-token_ok _ _ _ _ _ c.in_ok-begin_object.was c.begin_object.ensures in
    elim c.match-answer.branch [
      | in-Ok+in_ok-key-in-Ok+in_ok-print_module-in-Ok w ↦
          let last = subst (λ out. OnOk c.end_object.result (Adds (end_object ∷ []) out c.end_object.new.self)) w.out-is closed in
          let made = adds-last _ _ _ _ _ _ w.in_ok-print_module-in-Ok.ensures last in
          let named = adds-last _ _ _ _ _ _ (adds-token_ok _ _ _ _ _ w.in_ok-key-in-Ok.was w.key.ensures) made in
          subst (λ a. OnOk c.end_object.result (WritesData (answer_data a) c.args.out.now c.end_object.new.self)) (sym w.in-Ok.is)
          (adds-last _ _ _ _ _ _ opened named)
      | in-Err+in_ok-key-in-Err+in_ok-print_diagnostics-in-Err w ↦
          let last = subst (λ out. OnOk c.end_object.result (Adds (end_object ∷ []) out c.end_object.new.self)) w.out-is closed in
          let made = adds-last _ _ _ _ _ _ w.in_ok-print_diagnostics-in-Err.ensures last in
          let named = adds-last _ _ _ _ _ _ (adds-token_ok _ _ _ _ _ w.in_ok-key-in-Err.was w.key-in-Err.ensures) made in
          let listed = subst (λ ds. OnOk c.end_object.result (WritesData (diagnostics_data ds) c.args.out.now c.end_object.new.self))
          w.as_slice.ensures.value (adds-last _ _ _ _ _ _ opened named) in
          subst (λ a. OnOk c.end_object.result (WritesData (answer_data a) c.args.out.now c.end_object.new.self)) (sym w.in-Err.is) listed
    ]
