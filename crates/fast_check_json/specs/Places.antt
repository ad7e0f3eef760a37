-- Where the fields of the forms stand: in the places that the tables of the schema give them.
use Rattle.std.specs.Prelude.{◌≡◌, ℕ, ◌+◌, List, [], ◌∷◌, map}
use Rattle.fast_check_tree_syntax.specs.Shape.{part, range_of, context_of, flag_of, text_of}
use Rattle.fast_check_tree_syntax.specs.declared.kind.Kind.{Kind}
use Rattle.fast_check_tree_syntax.specs.declared.tree.Tree.{Tree}
use Rattle.fast_check_read.specs.declared.schema.form.Form.{Form}
use Rattle.fast_check_read.specs.declared.schema.form.Form.TheVariants as forms
use Rattle.fast_check_read.specs.declared.schema.form.Count.{Count}
use Rattle.fast_check_read.specs.declared.schema.form.Count.TheVariants as counts
use Rattle.fast_check_read.specs.schema.Rows.{FieldRow}
use Rattle.fast_check_read.specs.schema.Schema.{fields_of}
use Rattle.fast_check_json.specs.Fields.{fields_of_form}
use Rattle.fast_check_json.specs.Reading.{Content, Part, Range, Scope, Flag, Text}

-- a member of a node: a name, and what stands under it
pub record Member : Type 0 where
  pub name : List ℕ
  pub content : Content

-- the members of a node as its form reads them
abbrev pub members_read : Kind → Tree → List Member
members_read kind t = map (λ field. record { name = field.name; content = field.reading t }) (fields_of_form kind)

-- what a part is where the table has such a form there
abbrev pub content_of : Form → Count → Tree → Content
content_of forms.Range counts.One t = Range (range_of t)
content_of forms.Context counts.One t = Scope (context_of t)
content_of forms.Flag counts.One t = Flag (flag_of t)
content_of forms.Text counts.One t = Text (text_of t)
content_of _ _ t = Part t

-- the members that the rows of a table give to the parts of a node, from a place on
abbrev pub members_from : ℕ → List FieldRow → Tree → List Member
members_from place [] t = []
members_from place (row ∷ rows) t =
    record { name = row.name; content = content_of row.form row.count (part place t) } ∷ members_from (place + 1) rows t

-- Each form reads the members that its table has: under the same names in the same order, and under each name the part
-- at the place of its row. So there are as many fields as rows, and none stands in the place of another.
abbrev pub FieldsStandInPlace : Type 0
FieldsStandInPlace = (kind : Kind) (t : Tree) → members_read kind t ≡ members_from 0 (fields_of kind) t
