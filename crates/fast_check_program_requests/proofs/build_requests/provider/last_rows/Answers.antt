use Rattle.std.proofs.Common.{rules, ◌≡◌, ◌∙◌, sym, ap, map, List, not}
use Rattle.std.specs.List.{list_any}
use Rattle.std.specs.Ordering.{is_eq}
use Rattle.fast_check_tables_packages.specs.declared.package.PackageNv.{PackageNv}
use Rattle.fast_check_tables_packages.specs.Package.{nv_of, nv_cmp}
use Rattle.fast_check_tables_symbols.proofs.Unreplaced.{at_first, one_kept, one_replaced, nothing_left, at_last}
use Rattle.fast_check_program_requests.proofs.build_requests.LastRows.{Row, are_alike, seen_unreplaced, noted, noted_self}
use Rattle.fast_check_program_requests.proofs.build_requests.provider.last_rows.Goals as goal

pub loop-row-init : goal.loop-row-init
loop-row-init c = at_first are_alike c.args.rows.items c.new-last.result.items _ c.new-last.ensures.items
    (λ x. ap (λ (ks : List PackageNv). list_any (λ k. is_eq (nv_cmp (nv_of x.0) (nv_of k))) ks) c.new-packages.ensures.empty)

pub loop-row-preserved-in_ok-push : goal.loop-row-preserved-in_ok-push
loop-row-preserved-in_ok-push c =
    let same : nv_of c.in_ok-clone.field-0 ≡ nv_of c.in-Some.row.0 = search rules in
    one_kept are_alike c.args.rows.items c.loop-row.rows.items c.pop.new.self.items c.loop-row.last.items
    c.in-Some.row c.in-Some.ensures.items _ _ c.loop-row.invariant
    (noted c.loop-row.packages c.insert.new.self c.in-Some.row c.in_ok-clone.field-0 same c.in_ok-insert.ensures.updates.0)
    c.push.new.self.items c.in_ok-push.ensures.items
    (ap not (sym (noted_self c.loop-row.packages c.in-Some.row c.in_ok-clone.field-0 same))
    ∙ (sym c.in_ok-insert.ensures.added ∙ c.if-branch.true))

pub loop-row-preserved : goal.loop-row-preserved
loop-row-preserved c =
    let same : nv_of c.in_ok-clone.field-0 ≡ nv_of c.in-Some.row.0 = search rules in
    one_replaced are_alike c.args.rows.items c.loop-row.rows.items c.pop.new.self.items c.loop-row.last.items
    c.in-Some.row c.in-Some.ensures.items _ _ c.loop-row.invariant
    (noted c.loop-row.packages c.insert.new.self c.in-Some.row c.in_ok-clone.field-0 same c.in_ok-insert.ensures.updates.0)
    (ap not (sym (noted_self c.loop-row.packages c.in-Some.row c.in_ok-clone.field-0 same))
    ∙ (sym c.in_ok-insert.ensures.added ∙ c.if-branch.false))

pub returns : goal.returns
returns c =
    ap (λ (rows : List Row). map (λ e. (nv_of e.0, e.1)) rows)
    (at_last are_alike c.args.rows.items c.loop-row.rows.items c.loop-row.last.items c.reverse.new.self.items _ c.loop-row.invariant
    (nothing_left c.loop-row.rows.items _ c.pop.result _ c.loop-row.rows.ok.0 c.pop.ensures.value c.in_default.not-Some)
    c.reverse.ensures.items)
    ∙ seen_unreplaced (λ e. (nv_of e.0, e.1)) (λ a b. is_eq (nv_cmp a.0 b.0)) c.args.rows.items
