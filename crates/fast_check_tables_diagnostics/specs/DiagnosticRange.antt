-- A part of a module's source text.
use Rattle.std.specs.Prelude.{◌≡◌, Bool, ◌&&◌, ◌++◌, bytes_eq}
use Rattle.std.specs.Cmp.{IsEquivalence, and_equiv, on_equiv, nat_eq_equiv}
use Rattle.std.specs.Cmp.Lexicographic.{nat_list_eq_equiv}
use Rattle.std.specs.Hash as fed
use Rattle.std.specs.Hash.{HashWrites}
use Rattle.std.specs.Rc.{rc_str_bytes}
use Rattle.url.specs.Parts.{serialize}
use Rattle.fast_check_tables_diagnostics.specs.declared.diagnostics.range.FastCheckDiagnosticRange.{FastCheckDiagnosticRange}
use Rattle.fast_check_tables_diagnostics.specs.PublicRanges.{same_range}

-- two parts are one: module, start and end are the same. The source text isn't compared.
abbrev pub same_place : FastCheckDiagnosticRange → FastCheckDiagnosticRange → Bool
same_place a b = bytes_eq (serialize a.specifier) (serialize b.specifier) && same_range a.range b.range

-- each is one with itself, and of two that are one either stands for the other
pub same_place-equiv : IsEquivalence same_place
same_place-equiv = and_equiv (on_equiv (λ a. serialize a.specifier) nat_list_eq_equiv)
    (and_equiv (on_equiv (λ a. a.range.start.0) nat_eq_equiv) (on_equiv (λ a. a.range.end.0) nat_eq_equiv))

-- what is hashed of a part: the module's text, the start and the end
abbrev pub place_writes : FastCheckDiagnosticRange → HashWrites
place_writes a = fed.str (serialize a.specifier) ++ fed.u32 a.range.start.0 ++ fed.u32 a.range.end.0

-- a copy has the same module, the same range and the same text
abbrev pub IsCopy : FastCheckDiagnosticRange → FastCheckDiagnosticRange → Type 0
IsCopy a copy = (copy.specifier ≡ a.specifier) × (copy.range ≡ a.range) ×
    (rc_str_bytes copy.text_info ≡ rc_str_bytes a.text_info)
