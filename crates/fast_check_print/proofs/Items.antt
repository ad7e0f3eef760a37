-- The tokens of an array's items.
use Rattle.std.proofs.Common.{List}
use Rattle.json.specs.Token.{Token}
use Rattle.json.specs.Tree.{items_tokens}
use Rattle.serde_json.specs.Data.{Data}
use Rattle.serde_json.specs.View.{items_of}
use Rattle.serde_json.specs.Written.{items_outline}

-- those of values, with the closing bracket
abbrev pub rest_of_items : List Data → List Token
rest_of_items values = items_tokens (items_outline (items_of values))
