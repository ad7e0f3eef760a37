use Rattle.std.proofs.Common.{◌∙◌, sym, ap, ℕ, Bool, List, cond, option_map, nat_eq, codes}
use Rattle.std.specs.List.{starts_with}
use Rattle.std.proofs.lemmas.Result.{IfOk-weaker}
use Rattle.url.specs.Parts.{serialize}
use Rattle.fast_check_tables_packages.specs.Members.{member_nv, member_of}
use Rattle.fast_check_tables_packages.specs.MembersIn.{members_in}
use Rattle.fast_check_finder_demands.proofs.facts.owner.owner_of.Goals as goal

pub returns-then-starts_with : goal.returns-then-starts_with
returns-then-starts_with g c =
    let m = goal.JsrUrlProvider-dyn g c.args.provider.now in
    let members = members_in c.args.facts.workspace_members.now in
    let nv_at = m.nv_at c.args.provider.now.1 in
    let text = serialize c.args.url.now in
    let test = ap (λ (t : List ℕ). starts_with nat_eq t (codes "file:")) (c.as_bytes.ensures.value ∙ c.as_str-text.ensures.value) in
    IfOk-weaker c.member_owner.result _ _
    (λ owner e. e ∙ (ap (λ (t : List ℕ). option_map member_nv (member_of members t)) c.as_str-text.ensures.value
    ∙ ap (λ (b : Bool). cond b (option_map member_nv (member_of members text)) (nv_at text))
    (sym (sym test ∙ (sym c.starts_with.ensures.value ∙ c.if-starts_with.true)))))
    c.member_owner.ensures

pub returns : goal.returns
returns g c =
    let m = goal.JsrUrlProvider-dyn g c.args.provider.now in
    let members = members_in c.args.facts.workspace_members.now in
    let nv_at = m.nv_at c.args.provider.now.1 in
    let text = serialize c.args.url.now in
    let test = ap (λ (t : List ℕ). starts_with nat_eq t (codes "file:")) (c.as_bytes.ensures.value ∙ c.as_str-text.ensures.value) in
    IfOk-weaker c.package_url_to_nv.result _ _
    (λ owner e. e
    ∙ ap (λ (b : Bool). cond b (option_map member_nv (member_of members text)) (nv_at text))
    (sym (sym test ∙ (sym c.starts_with.ensures.value ∙ c.if-starts_with.false))))
    c.package_url_to_nv.ensures
