use Rattle.std.proofs.Common.{map}
use Rattle.fast_check_tables_packages.specs.Package.{nv_of}
use Rattle.fast_check_build.specs.Found.{known_of}
use Rattle.fast_check_build.proofs.Built.{all_owned}
use Rattle.fast_check_build.proofs.type_graph.build_packages.Goals as goal

pub answer_all_once-requires : goal.answer_all_once-requires
answer_all_once-requires g c =
    let m = goal.JsrUrlProvider-dyn g c.args.jsr_url_provider.now in
    all_owned
    (known_of c.args.graph.now c.args.root_symbol.now c.args.options.now.workspace_members.items
    (m.url_of c.args.jsr_url_provider.now.1)
    (m.nv_at c.args.jsr_url_provider.now.1)) (map nv_of c.args.pending_nvs.items) c.in_ok-ranges.ranges
    (rw c.as_slice-members.ensures.value at c.in_ok-ranges.ensures) c.len.ensures.ordered
