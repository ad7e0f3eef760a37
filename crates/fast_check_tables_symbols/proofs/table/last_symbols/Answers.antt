use Rattle.std.proofs.Common.{◌≡◌, ◌∙◌, sym, ap, true, false, cond, ◌||◌, ◌==◌, ℕ, List}
use Rattle.std.specs.BTreeSet.{BTreeSet, contains}
use Rattle.std.specs.List.{list_any}
use Rattle.std.specs.Ordering.{nat_cmp, eq_by_cmp}
use Rattle.fast_check_tables_symbols.specs.declared.symbol.Symbol.{Symbol}
use Rattle.fast_check_tables_symbols.specs.Symbols.{has_id}
use Rattle.fast_check_tables_symbols.proofs.Indexed.{same_number}
use Rattle.fast_check_tables_symbols.proofs.Unreplaced.{at_first, or_cond, one_kept, one_replaced, nothing_left, at_last}
use Rattle.fast_check_tables_symbols.proofs.table.last_symbols.Goals as goal

-- one id more
noted : (old new : BTreeSet ℕ) (s : Symbol)
    → ((n : ℕ) → contains nat_cmp new n ≡ cond (eq_by_cmp nat_cmp s.id.0 n) true (contains nat_cmp old n))
    → (x : Symbol) → contains nat_cmp new x.id.0 ≡ (has_id x.id s || contains nat_cmp old x.id.0)
noted old new s u x =
    u x.id.0 ∙ (ap (λ b. cond b true (contains nat_cmp old x.id.0)) (same_number s.id.0 x.id.0)
    ∙ or_cond (x.id.0 == s.id.0) (contains nat_cmp old x.id.0))

pub loop-symbol-init : goal.loop-symbol-init
loop-symbol-init c = at_first (λ s. has_id s.id) c.args.symbols.items c.new-last.result.items _ c.new-last.ensures.items
    (λ s. ap (λ (ks : List ℕ). list_any (λ k. eq_by_cmp nat_cmp s.id.0 k) ks) c.new-ids.ensures.empty)

pub loop-symbol-preserved-in-Continue-branch-2 : goal.loop-symbol-preserved-in-Continue-branch-2
loop-symbol-preserved-in-Continue-branch-2 c =
    one_kept (λ s. has_id s.id) c.args.symbols.items c.loop-symbol.symbols.items c.pop.new.self.items c.loop-symbol.last.items
    c.in-Some.symbol c.in-Some.ensures.items _ _ c.loop-symbol.invariant
    (noted c.loop-symbol.ids c.insert.new.self c.in-Some.symbol c.in_ok-insert.ensures.updates.0)
    c.push.new.self.items c.in_ok-push.ensures.items (sym c.in_ok-insert.ensures.added ∙ c.if-branch.true)

pub loop-symbol-preserved : goal.loop-symbol-preserved
loop-symbol-preserved c =
    one_replaced (λ s. has_id s.id) c.args.symbols.items c.loop-symbol.symbols.items c.pop.new.self.items c.loop-symbol.last.items
    c.in-Some.symbol c.in-Some.ensures.items _ _ c.loop-symbol.invariant
    (noted c.loop-symbol.ids c.insert.new.self c.in-Some.symbol c.in_ok-insert.ensures.updates.0)
    (sym c.in_ok-insert.ensures.added ∙ c.if-branch.false)

pub returns : goal.returns
returns c =
    at_last (λ s. has_id s.id) c.args.symbols.items c.loop-symbol.symbols.items c.loop-symbol.last.items c.reverse.new.self.items _
    c.loop-symbol.invariant
    (nothing_left c.loop-symbol.symbols.items _ c.pop.result _ c.loop-symbol.symbols.ok.0 c.pop.ensures.value c.in_default.not-Some)
    c.reverse.ensures.items
