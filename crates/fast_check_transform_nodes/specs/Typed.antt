-- Inner: no contract of a public call cites what stands here.
-- What gives the type of a declaration, as the code has it.
use Rattle.fast_check_tree_syntax.specs.Part.{seen}
use Rattle.fast_check_meaning_signatures.specs.Typing.{Typing}
use Rattle.fast_check_transform_nodes.specs.declared.typing.Typing.{Typing as Lent}

abbrev pub typing_of : Lent → Typing
typing_of t =
    record { is_private = t.is_private; type = seen t.type_ann; value = seen t.value; mutability = t.mutability }
