-- What the texts in one module resolve to.
use Rattle.std.specs.Prelude.{ℕ, List, Option, String, string_bytes}
use Rattle.std.specs.Map.{lookup}
use Rattle.std.specs.Str.{bytes_eq}
use Rattle.std.specs.BTreeMap.{BTreeMap}
use Rattle.std.specs.declared.alloc.Global.{Global}
use Rattle.url.specs.Parts.{Parts}

-- what a text resolves to, among those of one module
abbrev pub text_resolved : List ℕ → BTreeMap (String Global) Parts → Option Parts
text_resolved text texts = lookup (λ k. bytes_eq text (string_bytes k)) texts.entries
