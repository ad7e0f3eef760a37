-- Faults that compare alike are reported as one.
use Rattle.std.proofs.Common.{◌≡◌, refl, ℕ, ◌≤◌, true, false, ◌==◌, List}
use Rattle.std.specs.Cmp.{both_tied, unsigned_ties, unsigned_Decides}
use Rattle.std.specs.Cmp.Lexicographic.{slice_cmp, texts_ties, nat_list_eq_equiv}
use Rattle.std.specs.Str.{bytes_eq}
use Rattle.std.specs.Ordering.{is_eq, is_gt, nat_cmp, ordering_then}
use Rattle.std.specs.declared.cmp.Ordering.{Ordering}
use Rattle.std.specs.declared.cmp.Ordering.TheVariants.{Less, Equal, Greater}
use Rattle.std.specs.Prelude.{string_bytes}
use Rattle.std.proofs.lemmas.Bool.{and_from}
use Rattle.std.proofs.lemmas.Map.Keys.{le_from_not_gt}
use Rattle.url.specs.Parts.{serialize}
use Rattle.fast_check_tree_syntax.specs.declared.source.SourceRange.{SourceRange}
use Rattle.fast_check_tree_syntax.specs.contracts.source.SourceRangeOrd.TheImpl as range_order
use Rattle.fast_check_finder_demands.specs.contracts.fault.DemandFaultKindOrd.TheImpl as kind_order
use Rattle.fast_check_finder_demands.specs.declared.fault.DemandFaultKind.{DemandFaultKind}
use Rattle.fast_check_finder_demands.specs.declared.fault.DemandFaultKind.TheVariants.{PrivateMember, NotFound, TooComplex}
use Rattle.fast_check_tables_diagnostics.specs.PublicRanges.{same_range}
use Rattle.fast_check_finder_ranges.specs.findings.Diagnostics.{same_kind}
use Rattle.fast_check_finder_ranges.specs.findings.Faults.{PlacedFault}
use Rattle.fast_check_finder_ranges.specs.contracts.findings.demand_fault.DemandFaultOrd.TheImpl as order
use Rattle.fast_check_finder_ranges.specs.declared.findings.demand_fault.DemandFault.{DemandFault}
use Rattle.fast_check_finder_ranges.specs.findings.Diagnostics.{same_fault}
use Rattle.fast_check_finder_ranges.specs.findings.Faults.{placed_with}

kinds_tie : (a b : DemandFaultKind) → same_kind a b ≡ is_eq (kind_order.cmp-value.it a b)
kinds_tie PrivateMember PrivateMember = refl
kinds_tie PrivateMember NotFound = refl
kinds_tie PrivateMember TooComplex = refl
kinds_tie NotFound PrivateMember = refl
kinds_tie NotFound NotFound = refl
kinds_tie NotFound TooComplex = refl
kinds_tie TooComplex PrivateMember = refl
kinds_tie TooComplex NotFound = refl
kinds_tie TooComplex TooComplex = refl

ranges_tie : (a b : SourceRange) → same_range a b ≡ is_eq (range_order.cmp-value.it a b)
ranges_tie a b = both_tied _ _ (nat_cmp a.start.0 b.start.0) (nat_cmp a.end.0 b.end.0) (unsigned_ties a.start.0 b.start.0)
    (unsigned_ties a.end.0 b.end.0)

pub compares : (a b : DemandFault) (t u : List ℕ) → same_fault (placed_with a t) (placed_with b u) ≡ is_eq (order.cmp-value.it a b)
compares a b t u = both_tied _ _ (range_order.cmp-value.it a.range b.range) _ (ranges_tie a.range b.range)
    (both_tied _ _ (kind_order.cmp-value.it a.kind b.kind) _ (kinds_tie a.kind b.kind)
    (both_tied _ _ (slice_cmp nat_cmp (string_bytes a.name) (string_bytes b.name)) _
    (texts_ties (string_bytes a.name) (string_bytes b.name))
    (both_tied _ _ (slice_cmp nat_cmp (string_bytes a.referrer) (string_bytes b.referrer))
    (slice_cmp nat_cmp (serialize a.specifier) (serialize b.specifier))
    (texts_ties (string_bytes a.referrer) (string_bytes b.referrer)) (texts_ties (serialize a.specifier) (serialize b.specifier)))))

-- a fault is one with itself

same_number : (n : ℕ) → (n == n) ≡ true
same_number n = (unsigned_Decides n n).1 refl

kind_itself : (k : DemandFaultKind) → same_kind k k ≡ true
kind_itself PrivateMember = refl
kind_itself NotFound = refl
kind_itself TooComplex = refl

range_itself : (r : SourceRange) → same_range r r ≡ true
range_itself r = and_from (r.start.0 == r.start.0) (r.end.0 == r.end.0) (same_number r.start.0) (same_number r.end.0)

pub same_itself : (r : PlacedFault) → same_fault r r ≡ true
same_itself r = and_from (same_range r.range r.range) _ (range_itself r.range)
    (and_from (same_kind r.kind r.kind) _ (kind_itself r.kind)
    (and_from (bytes_eq r.name r.name) _ (nat_list_eq_equiv.refl r.name)
    (and_from (bytes_eq r.referrer r.referrer) (bytes_eq (serialize r.specifier) (serialize r.specifier))
    (nat_list_eq_equiv.refl r.referrer)
    (nat_list_eq_equiv.refl (serialize r.specifier)))))

-- a fault that comes before another starts no later

first_less : (x y : Ordering) → ordering_then x y ≡ Less → is_gt x ≡ false
first_less Less y e = refl
first_less Equal y e = refl
first_less Greater y e = cc

first_not_greater : (x y : Ordering) → is_gt (ordering_then x y) ≡ false → is_gt x ≡ false
first_not_greater Less y e = refl
first_not_greater Equal y e = refl
first_not_greater Greater y e = cc

pub starts_before : (a b : DemandFault) → order.cmp-value.it a b ≡ Less → a.range.start.0 ≤ b.range.start.0
starts_before a b e =
    le_from_not_gt a.range.start.0 b.range.start.0
    (first_not_greater (nat_cmp a.range.start.0 b.range.start.0) (nat_cmp a.range.end.0 b.range.end.0)
    (first_less (range_order.cmp-value.it a.range b.range) _ e))
