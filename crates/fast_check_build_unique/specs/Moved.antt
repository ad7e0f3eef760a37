-- Ranges and yields of two versions, under the renaming of the positions of each module.
use Rattle.std.specs.Prelude.{Bool, false, ◌==◌, ◌&&◌, ℕ}
use Rattle.std.specs.List.{list_any}
use Rattle.std.specs.Str.{bytes_eq}
use Rattle.fast_check_tree_syntax.specs.declared.source.SourceRange.{SourceRange}
use Rattle.fast_check_tree_syntax.specs.Moves.{Renaming, Pairs}
use Rattle.fast_check_finder_demands.specs.asked.Demands.{Text, same_nv}
use Rattle.fast_check_finder_ranges.specs.findings.Yields.{Yield, known_package, entry_point, refused_export, dependency}
use Rattle.fast_check_finder_ranges.specs.findings.Yields.{recorded, public, implementing, faulty}

-- by the name of a module, the renaming of its positions and scope numbers
abbrev pub Renamings : Type 0
Renamings = Text → Renaming

abbrev pub is_pair : Pairs → ℕ → ℕ → Bool
is_pair pairs a b = list_any (λ p. (p.0 == a) && (p.1 == b)) pairs

-- the renaming pairs the starts of both ranges, and their ends
abbrev pub is_moved : Renaming → SourceRange → SourceRange → Bool
is_moved r a b = is_pair r.starts a.start.0 b.start.0 && is_pair r.ends a.end.0 b.end.0

-- The same yield, but for the position of a range, and for which error a module has. No cached item corresponds to
-- another.
abbrev pub corresponds : Renamings → Yield → Yield → Bool
corresponds moves (known_package p) (known_package q) = same_nv p q
corresponds moves (entry_point p t) (entry_point q u) = same_nv p q && bytes_eq t u
corresponds moves (refused_export p t) (refused_export q u) = same_nv p q && bytes_eq t u
corresponds moves (dependency p d) (dependency q e) = same_nv p q && same_nv d e
corresponds moves (recorded p t) (recorded q u) = same_nv p q && bytes_eq t u
corresponds moves (public p t a) (public q u b) = same_nv p q && (bytes_eq t u && is_moved (moves t) a b)
corresponds moves (implementing p t a) (implementing q u b) = same_nv p q && (bytes_eq t u && is_moved (moves t) a b)
corresponds moves (faulty p t f) (faulty q u g) = same_nv p q && bytes_eq t u
corresponds moves _ _ = false
