-- When a piece is written.
use Rattle.std.specs.Prelude.{ℕ, Bool, true, false, not, ◌||◌, ◌&&◌, List, [], ◌∷◌, codes, if◌then◌else◌, nat_eq}
use Rattle.std.specs.Str.{bytes_eq}
use Rattle.fast_check_tree_syntax.specs.Shape.{◌is◌, kind_of, parts, part, text_of, flag_of, has_word, range_of, is_absent}
use Rattle.fast_check_tree_syntax.specs.declared.kind.Kind.TheVariants as kinds
use Rattle.fast_check_tree_syntax.specs.declared.tree.Tree.{Tree}
use Rattle.fast_check_syntax_table.specs.declared.piece.When.{When}
use Rattle.fast_check_syntax_table.specs.declared.piece.When.TheVariants as whens
use Rattle.fast_check_syntax_table.specs.declared.piece.Phrase.{Phrase}
use Rattle.fast_check_syntax_table.specs.declared.piece.Phrase.TheVariants as phrases

abbrev pub is_nil : {A : Type 0} → List A → Bool
is_nil [] = true
is_nil (x ∷ xs) = false

-- a flag that is set, a text that is not empty, a list with items, any other node
abbrev pub is_set : Tree → Bool
is_set t = if kind_of t is kinds.List then not (is_nil (parts t)) else
    (if kind_of t is kinds.Leaf then flag_of t || not (is_nil (text_of t)) else true)

abbrev pub phrase_text : Phrase → List ℕ
phrase_text phrases.Defer = codes "defer"
phrase_text phrases.Source = codes "source"
phrase_text phrases.NewTarget = codes "new.target"
phrase_text phrases.ImportMeta = codes "import.meta"
phrase_text phrases.Plus = codes "+"
phrase_text phrases.Minus = codes "-"

-- where a node begins, by its range
abbrev pub start_of : Tree → ℕ
start_of t = (range_of (part 0 t)).start.0

abbrev pub holds : When → Tree → Bool
holds whens.Always t = true
holds (whens.Has place) t = is_set (part place t)
holds (whens.Lacks place) t = not (is_set (part place t))
holds (whens.There place) t = not (is_absent (part place t))
holds (whens.Gone place) t = is_absent (part place t)
holds (whens.Says place word) t = has_word word (part place t)
holds (whens.Reads place phrase) t = bytes_eq (text_of (part place t)) (phrase_text phrase)
holds (whens.Is place kind) t = kind_of (part place t) is kind
holds (whens.IsNot place kind) t = not (kind_of (part place t) is kind)
holds (whens.Neither one other) t = not (flag_of (part one t)) && not (flag_of (part other t))
holds (whens.Starts place) t = nat_eq (start_of (part place t)) (start_of t)
holds (whens.Follows place) t = not (nat_eq (start_of (part place t)) (start_of t))
