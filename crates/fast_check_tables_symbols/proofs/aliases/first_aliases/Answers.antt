use Rattle.std.proofs.Common.{◌∙◌, sym, ap, subst, ℕ, ◌+◌}
use Rattle.std.specs.Prelude.{Vec, option_map}
use Rattle.std.specs.BTreeMap.{is_at}
use Rattle.std.specs.BTreeSet.{contains}
use Rattle.std.specs.List.{list_any}
use Rattle.std.specs.declared.alloc.Global.{Global}
use Rattle.std.proofs.lemmas.Bool.{not-false, not-true}
use Rattle.fast_check_tables_symbols.specs.contracts.aliases.AliasOrd.TheImpl as order
use Rattle.fast_check_tables_symbols.specs.AliasKeys.{alias_seen, AreMet}
use Rattle.fast_check_tables_symbols.proofs.Aliased.{met_none, noted_none, noted_before, noted_new, noted_all}
use Rattle.fast_check_tables_symbols.proofs.aliases.first_aliases.Goals as goal
use Rattle.fast_check_tables_symbols.proofs.aliases.first_aliases.Goals.{in-Some+in_ok-insert+then-branch+in_ok-push}
use Rattle.fast_check_tables_symbols.proofs.aliases.first_aliases.Goals.{in-Some+in_ok-insert+else-branch, in_default}

pub loop-place-init : goal.loop-place-init
loop-place-init c = met_none c.args.decls.now c.new-met.result c.new-places.result.items
    (λ k. ap (list_any (is_at (order.cmp-value.it k))) c.new-met.ensures.empty) c.new-places.ensures.items

pub loop-place-preserved : goal.loop-place-preserved
loop-place-preserved c =
    let decls = c.args.decls.now in
    let i = c.loop-place.place in
    let x = c.index-decls-place.result in
    let lt = c.loop-place-test.true in
    let read = c.index-decls-place.is in
    let met = c.loop-place.met in
    let places = c.loop-place.places.items in
    let items = λ (v : Vec ℕ Global). v.items in
    elim c.match-alias_of.branch [
      | in-Some+in_ok-insert+then-branch+in_ok-push w ↦
          subst (λ m. AreMet decls (i + 1) m c.match-alias_of.places.items) (sym w.met-is)
          (noted_new decls i x lt read met places c.loop-place.invariant w.in-Some.alias
          (ap (option_map alias_seen) (sym w.in-Some.is) ∙ c.alias_of.ensures)
          w.insert.new.self c.match-alias_of.places.items
          (not-true (contains order.cmp-value.it met w.in-Some.alias) (sym w.in_ok-insert.ensures.added ∙ w.if-branch.true))
          w.in_ok-insert.ensures.updates
          (ap items w.places-is ∙ w.in_ok-push.ensures.items))
      | in-Some+in_ok-insert+else-branch w ↦
          subst (λ m. AreMet decls (i + 1) m c.match-alias_of.places.items) (sym w.met-is)
          (subst (λ ps. AreMet decls (i + 1) w.insert.new.self ps) (ap items (sym w.places-is))
          (noted_before decls i x lt read met places c.loop-place.invariant w.in-Some.alias
          (ap (option_map alias_seen) (sym w.in-Some.is) ∙ c.alias_of.ensures)
          w.insert.new.self
          (not-false (contains order.cmp-value.it met w.in-Some.alias) (sym w.in_ok-insert.ensures.added ∙ w.if-branch.false))
          (rw w.if-branch.false at w.in_ok-insert.ensures.unchanged)))
      | in_default w ↦
          subst (λ m. AreMet decls (i + 1) m c.match-alias_of.places.items) (sym w.met-is)
          (subst (λ ps. AreMet decls (i + 1) met ps) (ap items (sym w.places-is))
          (noted_none decls i x lt read met places c.loop-place.invariant
          (sym c.alias_of.ensures ∙ ap (option_map alias_seen) w.in_default.is)))
    ]

pub returns : goal.returns
returns c = noted_all c.args.decls.now c.loop-place.place c.loop-place.met c.loop-place.places.items c.loop-place-test.false
    c.loop-place.invariant
