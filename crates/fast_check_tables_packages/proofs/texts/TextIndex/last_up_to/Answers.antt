use Rattle.std.proofs.Common.{rules, ◌≡◌, sym, subst, List, ◌≤◌, true, false, length}
use Rattle.std.specs.List.Sorted.{IsPartitionPoint, IsPartitionedBy}
use Rattle.std.proofs.lemmas.List.Sorted.{IsPartitionPoint-from_clause}
use Rattle.fast_check_tables_packages.specs.declared.texts.Entry.{Entry}
use Rattle.fast_check_tables_packages.specs.Texts.{is_up_to}
use Rattle.fast_check_tables_packages.proofs.Found.{last_place, parted}
use Rattle.fast_check_tables_packages.proofs.texts.TextIndex.last_up_to.Goals as goal

pub returns : goal.returns
returns c = λ s.
    let es = c.args.self.now.entries.items in
    let text = c.args.text.now in
    let point = IsPartitionPoint-from_clause (λ (e : Entry). is_up_to e.text.items text) c.deref.result.now c.partition_point.result
    c.partition_point.ensures.partitioned
    (subst (λ (xs : List Entry). IsPartitionedBy (λ e. is_up_to e.text.items text) xs) (sym c.deref.ensures.value) (parted es text s))
    (λ a r q k. search rules) in
    last_place es text c.partition_point.result c.checked_sub.result s
    (subst (λ (xs : List Entry). c.partition_point.result ≤ length xs) c.deref.ensures.value c.partition_point.ensures.bound)
    (subst (λ (xs : List Entry). IsPartitionPoint (λ e. is_up_to e.text.items text ≡ true) (λ e. is_up_to e.text.items text ≡ false) xs
    c.partition_point.result) c.deref.ensures.value point)
    c.checked_sub.ensures
