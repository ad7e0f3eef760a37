-- The text that stands in a skeleton for the source of an import or an export.
use Rattle.std.specs.Prelude.{ℕ, Bool, not, ◌&&◌, Option, Some, None, List, ◌++◌, String, codes, bytes_eq, nat_eq}
use Rattle.std.specs.Prelude.{option_map}
use Rattle.std.specs.Prelude.{if◌then◌else◌}
use Rattle.std.specs.List.{starts_with}
use Rattle.std.specs.Option.{option_and_then, option_eq}
use Rattle.std.specs.BTreeMap.{BTreeMap}
use Rattle.std.specs.declared.alloc.Global.{Global}
use Rattle.url.specs.Host.{host_text}
use Rattle.url.specs.Parts.{Parts, cannot_be_a_base, host_or_empty}
use Rattle.url.specs.Relative.{relative_text}
use Rattle.fast_check_tables_graph.specs.Resolutions.{text_resolved}

-- whether a relative URL leads from one URL to another: the first is no opaque one, and both have the same scheme, host
-- and port
abbrev pub is_relatable : Parts → Parts → Bool
is_relatable base url =
    not (cannot_be_a_base base) &&
    (bytes_eq base.scheme url.scheme &&
    (bytes_eq (host_text (host_or_empty base)) (host_text (host_or_empty url)) &&
    option_eq nat_eq base.port url.port))

-- the relative URL that leads from one URL to another, if there is one
abbrev pub relative_url : Parts → Parts → Option (List ℕ)
relative_url base url = if is_relatable base url then Some (relative_text base url) else None

-- as a source is written: it begins with a dot
abbrev pub dotted : List ℕ → List ℕ
dotted relative = if starts_with nat_eq relative (codes "../") then relative else codes "./" ++ relative

-- what the texts in a module resolve to, where the graph has some
abbrev pub Resolutions : Type 0
Resolutions = Option (BTreeMap (String Global) Parts)

-- A source text of the module `referrer`, as a skeleton has it. A relative one leads to the module that it resolves to,
-- as it may be another than the one that is named. None where the text stays as it is written.
abbrev pub relative_source : Resolutions → Parts → List ℕ → Option (List ℕ)
relative_source resolutions referrer text =
    if starts_with nat_eq text (codes ".")
    then option_and_then (λ url. option_map dotted (relative_url referrer url))
    (option_and_then (text_resolved text) resolutions)
    else None
