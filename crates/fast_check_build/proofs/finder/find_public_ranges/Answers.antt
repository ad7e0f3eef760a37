use Rattle.std.proofs.Common.{◌∙◌, sym, subst, List, map}
use Rattle.std.proofs.lemmas.Result.{err_from_is_err_and}
use Rattle.fast_check_tables_packages.specs.Package.{nv_of}
use Rattle.fast_check_tables_packages.specs.declared.package.PackageNv.{PackageNv}
use Rattle.fast_check_tables_packages.specs.declared.package.WorkspaceMember.{WorkspaceMember}
use Rattle.fast_check_tables_packages.specs.MembersIn.{members_in}
use Rattle.fast_check_tables_cache.specs.CachedPackages.{used_item}
use Rattle.fast_check_finder_loop.specs.Lent.{used_of}
use Rattle.fast_check_finder_loop.specs.demands.facts.GraphFacts.{Known, with_used}
use Rattle.fast_check_finder_loop.specs.Refusals.{IsRefusal}
use Rattle.fast_check_build.specs.Found.{known_of, IsFound, Finds}
use Rattle.fast_check_build.proofs.Said.{found_public, with_lent}
use Rattle.fast_check_build.proofs.finder.find_public_ranges.Goals as goal

pub returns : goal.returns
returns g c =
    let m = goal.JsrUrlProvider-dyn g c.args.jsr_url_provider.now in
    let by_members : List WorkspaceMember → Known = λ ms. known_of c.args.graph.now c.args.root_symbol.now ms
    (m.url_of c.args.jsr_url_provider.now.1) (m.nv_at c.args.jsr_url_provider.now.1) in
    let used = used_of c.args.cache (λ x. let n = goal.FastCheckCache-dyn g x.now in
    used_item (n.hash_of x.now.1 c.seed_of-seed.result.now) (n.stored x.now.1) c.args.graph.now) in
    let k = with_used used (by_members (members_in c.in_ok-members.members)) in
    with_lent c.args.cache (λ x. (goal.FastCheckCache-dyn g x.now).seed_text x.now.1)
    (λ x seed. let n = goal.FastCheckCache-dyn g x.now in used_item (n.hash_of x.now.1 seed) (n.stored x.now.1) c.args.graph.now)
    c.seed_of-seed.result.now (by_members c.args.workspace_members.now)
    (λ j. IsFound j (map nv_of c.args.pending_nvs.items) c.in_ok-answers.answers) c.seed_of-seed.ensures
    (subst (λ (ms : List WorkspaceMember). IsFound (with_used used (by_members ms)) (map nv_of c.args.pending_nvs.items) c.in_ok-answers.answers)
    c.in_ok-members.ensures
    (subst (λ (ps : List PackageNv). IsFound k (map nv_of ps) c.in_ok-answers.answers)
    (c.as_slice.ensures.value ∙ c.into_vec-roots.ensures.items)
    (found_public k (map nv_of c.as_slice.result.now) c.in_ok-found.found.entries c.in_ok-answers.answers c.in_ok-found.ensures
    c.in_ok-answers.ensures c.own_names_find.ensures)))

pub returns-in_err-found : goal.returns-in_err-found
returns-in_err-found g c =
    let m = goal.JsrUrlProvider-dyn g c.args.jsr_url_provider.now in
    let by_members : List WorkspaceMember → Known = λ ms. known_of c.args.graph.now c.args.root_symbol.now ms
    (m.url_of c.args.jsr_url_provider.now.1) (m.nv_at c.args.jsr_url_provider.now.1) in
    let used = used_of c.args.cache (λ x. let n = goal.FastCheckCache-dyn g x.now in
    used_item (n.hash_of x.now.1 c.seed_of-seed.result.now) (n.stored x.now.1) c.args.graph.now) in
    let k = with_used used (by_members (members_in c.in_ok-members.members)) in
    let e = err_from_is_err_and c.from_residual-in_err-found.result c.from_residual-in_err-found.ensures.1 in
    with_lent c.args.cache (λ x. (goal.FastCheckCache-dyn g x.now).seed_text x.now.1)
    (λ x seed. let n = goal.FastCheckCache-dyn g x.now in used_item (n.hash_of x.now.1 seed) (n.stored x.now.1) c.args.graph.now)
    c.seed_of-seed.result.now (by_members c.args.workspace_members.now)
    (λ j. Finds j (map nv_of c.args.pending_nvs.items) c.from_residual-in_err-found.result) c.seed_of-seed.ensures
    (subst (λ (ms : List WorkspaceMember). Finds (with_used used (by_members ms)) (map nv_of c.args.pending_nvs.items) c.from_residual-in_err-found.result)
    c.in_ok-members.ensures
    (rw e.1 (subst (IsRefusal k (map nv_of c.args.pending_nvs.items)) (sym e.2)
    (subst (λ (ps : List PackageNv). IsRefusal k (map nv_of ps) c.in_err-found.field-0.0) (c.as_slice.ensures.value ∙ c.into_vec-roots.ensures.items)
    c.in_err-found.ensures))))
