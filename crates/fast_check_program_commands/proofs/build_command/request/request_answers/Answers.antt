use Rattle.std.proofs.Common.{map, subst}
use Rattle.std.proofs.lemmas.Result.{err_from_is_err_and}
use Rattle.fast_check_tables_packages.specs.declared.listed.ListedPackages.{ListedPackages}
use Rattle.fast_check_tables_packages.specs.Package.{nv_of}
use Rattle.fast_check_build.specs.Build.{IsBuilt}
use Rattle.fast_check_program_commands.specs.build_command.Build.{known_by}
use Rattle.fast_check_program_commands.proofs.build_command.Refused.{export_refused_of}
use Rattle.fast_check_program_commands.proofs.build_command.request.request_answers.Goals as goal

pub returns-in_err-answers-clause-refusal : goal.returns-in_err-answers-clause-refusal
returns-in_err-answers-clause-refusal c =
    let asked = c.args.request in
    let root = c.in_ok-root_symbol in
    let p = err_from_is_err_and c.from_residual-in_err-answers.result c.from_residual-in_err-answers.ensures.1 in
    rw (p.1, p.2)
    (export_refused_of _ asked root.root_symbol c.in_ok-provider.provider c.in_ok-provider.ensures
    (record { of_parts = root.ensures.made; own_names = root.ensures.own_names }) c.in_err-answers.ensures.refused)

pub returns-clause-built : goal.returns-clause-built
returns-clause-built c =
    let asked = c.args.request in
    let root = c.in_ok-root_symbol in
    record {
      root = root.root_symbol;
      is_root = record { of_parts = root.ensures.made; own_names = root.ensures.own_names };
      built =
          subst (λ (listed : ListedPackages). IsBuilt (known_by asked.graph root.root_symbol asked.workspace_members.items listed)
          (map nv_of asked.pending.items) asked.should_error_on_first_diagnostic c.in_ok-answers.answers.items) c.in_ok-provider.ensures
          c.in_ok-answers.ensures.built;
    }
