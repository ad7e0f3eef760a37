-- Keys of maps, as they are known by their texts.
use Rattle.std.proofs.Common.{◌≡◌, sym, ℕ, List, string_bytes}
use Rattle.std.specs.Prelude.{String}
use Rattle.std.specs.Str.{bytes_eq}
use Rattle.std.specs.Map.{lookup}
use Rattle.std.specs.Ordering.{nat_cmp, is_eq}
use Rattle.std.specs.Cmp.Lexicographic.{slice_cmp, texts_ties}
use Rattle.std.specs.declared.alloc.Global.{Global}
use Rattle.url.specs.Parts.{Parts, serialize}
use Rattle.fast_check_tables_modules.proofs.symbol_proofs.Alike.{lookup_alike}
use Rattle.fast_check_tables_graph.specs.Graph.{is_specifier}

pub at_specifier : {X : Type 0} (u : Parts) (es : List (Parts × X))
    → lookup (λ k. is_eq (slice_cmp nat_cmp (serialize u) (serialize k))) es ≡ lookup (is_specifier u) es
at_specifier u es =
    lookup_alike (λ k. is_eq (slice_cmp nat_cmp (serialize u) (serialize k))) (is_specifier u) es
    (λ k. sym (texts_ties (serialize u) (serialize k)))

pub at_text : {X : Type 0} (text : List ℕ) (es : List (String Global × X))
    → lookup (λ k. is_eq (slice_cmp nat_cmp text (string_bytes k))) es ≡ lookup (λ k. bytes_eq text (string_bytes k)) es
at_text text es =
    lookup_alike (λ k. is_eq (slice_cmp nat_cmp text (string_bytes k))) (λ k. bytes_eq text (string_bytes k)) es
    (λ k. sym (texts_ties text (string_bytes k)))
