-- What is seen of parameters: their types and whether they may be left out; a default only where nothing else gives a
-- type.
use Rattle.std.specs.Prelude.{Bool, true, false, Option, Some, None, List, [], ◌∷◌, if◌then◌else◌}
use Rattle.std.specs.List.{list_all}
use Rattle.fast_check_tree_syntax.specs.declared.kind.Kind.{Kind}
use Rattle.fast_check_tree_syntax.specs.declared.kind.Kind.TheVariants as kinds
use Rattle.fast_check_tree_syntax.specs.declared.source.SourceRange.{SourceRange}
use Rattle.fast_check_tree_syntax.specs.declared.tree.Tree.{Tree}
use Rattle.fast_check_tree_syntax.specs.Shape.{kind_of, is_absent, list}
use Rattle.fast_check_tree_forms_expressions.specs.Patterns.{ArrayPat-span, ArrayPat-optional, ArrayPat-type_ann, array_pat}
use Rattle.fast_check_tree_forms_expressions.specs.Patterns.{ObjectPat-span, ObjectPat-optional, ObjectPat-type_ann}
use Rattle.fast_check_tree_forms_expressions.specs.Patterns.{object_pat, RestPat-span, RestPat-dot3_token, RestPat-arg}
use Rattle.fast_check_tree_forms_expressions.specs.Patterns.{RestPat-type_ann, rest_pat, AssignPat-span, AssignPat-left}
use Rattle.fast_check_tree_forms_expressions.specs.Patterns.{AssignPat-right, assign_pat}
use Rattle.fast_check_tree_helpers.specs.ranges.Ranges.{range_of_node}
use Rattle.fast_check_tree_forms_programs.specs.Names.{Ident-span, Ident-ctxt, Ident-sym, ident, BindingIdent-id}
use Rattle.fast_check_tree_forms_programs.specs.Names.{BindingIdent-type_ann, binding_ident}
use Rattle.fast_check_tree_helpers.specs.declared.literal_type.DeclMutabilityKind.TheVariants.{Mutable}
use Rattle.fast_check_tree_helpers.specs.Builders.{never_value}
use Rattle.fast_check_tree_helpers.specs.OptionalParams.{is_optional_param}
use Rattle.fast_check_meaning_signatures.specs.declared.fault.FaultKind.TheVariants.{MissingExplicitType}
use Rattle.fast_check_meaning_signatures.specs.declared.fault.FaultKind.TheVariants.{UnsupportedDestructuring}
use Rattle.fast_check_meaning_signatures.specs.Bindings.{Bindings}
use Rattle.fast_check_meaning_signatures.specs.Seen.{Seen, written, default, faulty}
use Rattle.fast_check_meaning_signatures.specs.NewNodes.{never_array, empty_object_pat, or_undefined}
use Rattle.fast_check_meaning_signatures.specs.Typing.{Typing, type_of, seen_by}

-- What is seen of an expression. A fault of a function stands at the place that is given, that of the parent that names
-- it, or else at the function.
abbrev pub Look : Type 0
Look = Tree → Option SourceRange → Seen

-- an array or an object pattern, emptied
abbrev pub emptied_array : Tree → Tree
emptied_array pat = array_pat (ArrayPat-span pat) (list []) (ArrayPat-optional pat) (ArrayPat-type_ann pat)

abbrev pub emptied_object : Tree → Tree
emptied_object pat = object_pat (ObjectPat-span pat) (list []) (ObjectPat-optional pat) (ObjectPat-type_ann pat)

-- a parameter that stands if its type is written; at this place its type is missing
abbrev pub typed : Tree → SourceRange → Tree → Seen
typed type place pat = if is_absent type then faulty MissingExplicitType place else written pat

-- what a rest is gathered in: patterns are emptied, and `{}` stands for what can't be there
abbrev pub arg_by_kind : Kind → Tree → Tree
arg_by_kind kinds.ArrayPat arg = emptied_array arg
arg_by_kind kinds.ObjectPat arg = emptied_object arg
arg_by_kind kinds.RestPat arg = empty_object_pat
arg_by_kind kinds.AssignPat arg = empty_object_pat
arg_by_kind kinds.PatExpr arg = empty_object_pat
arg_by_kind _ arg = arg

abbrev pub rest_arg : Tree → Tree
rest_arg arg = arg_by_kind (kind_of arg) arg

abbrev pub rest_seen : Tree → Seen
rest_seen pat = typed (RestPat-type_ann pat) (RestPat-span pat)
    (rest_pat (RestPat-span pat) (RestPat-dot3_token pat) (rest_arg (RestPat-arg pat))
    (RestPat-type_ann pat))

-- an identifier with this mark
abbrev pub with_optional : Bool → Tree → Tree
with_optional optional id = ident (Ident-span id) (Ident-ctxt id) (Ident-sym id) optional

-- An identifier of a type that had a default: it may be left out where all parameters from it on may, and else takes
-- `undefined` as well.
abbrev pub without_default : Bool → Tree → Tree → Tree
without_default true id type = binding_ident (with_optional true id) type
without_default false id type = binding_ident (with_optional false id) (or_undefined type)

-- a default that gives the type where it may stay; else the type is missing at this place
abbrev pub default_seen : SourceRange → SourceRange → Tree → Seen → Seen
default_seen span place left value = default (record { span = span; left = left; place = place }) value

-- an identifier with a default
abbrev pub default_typing : Tree → Typing
default_typing pat = record {
  is_private = false;
  type = BindingIdent-type_ann (AssignPat-left pat);
  value = AssignPat-right pat;
  mutability = Mutable;
}

module _ (bindings : Bindings) (look : Look) where
  -- an identifier with a default, with its type, or else with the default
  abbrev pub ident_default_seen : Bool → Tree → Seen
  ident_default_seen is_optional pat =
      let id = BindingIdent-id (AssignPat-left pat) in
      seen_by (type_of bindings.unresolved (default_typing pat)) (λ type. written (without_default is_optional id type))
      (default_seen (AssignPat-span pat) (Ident-span id) (AssignPat-left pat) (look (AssignPat-right pat) (Some (Ident-span id))))

  -- a pattern with a default: behind a written type, `never` stands for the default
  abbrev pub pattern_default_seen : Tree → SourceRange → Tree → Tree → Tree → Seen
  pattern_default_seen type place emptied never pat =
      if is_absent type then default_seen (AssignPat-span pat) place emptied (look (AssignPat-right pat) None)
      else written (assign_pat (AssignPat-span pat) emptied never)

  -- one with a default, by the kind of what stands left of it
  abbrev pub assign_by_left : Kind → Bool → Tree → Seen
  assign_by_left kinds.BindingIdent is_optional pat = ident_default_seen is_optional pat
  assign_by_left kinds.ArrayPat is_optional pat =
      let left = AssignPat-left pat in pattern_default_seen (ArrayPat-type_ann left) (ArrayPat-span left)
      (emptied_array left) never_array pat
  assign_by_left kinds.ObjectPat is_optional pat =
      let left = AssignPat-left pat in pattern_default_seen (ObjectPat-type_ann left) (ObjectPat-span left)
      (emptied_object left) never_value pat
  assign_by_left _ is_optional pat = faulty UnsupportedDestructuring (AssignPat-span pat)

  abbrev pub assign_seen : Bool → Tree → Seen
  assign_seen is_optional pat = assign_by_left (kind_of (AssignPat-left pat)) is_optional pat

  -- a parameter, and whether all from it on may be left out
  abbrev pub pat_by_kind : Kind → Bool → Tree → Seen
  pat_by_kind kinds.BindingIdent is_optional pat = typed (BindingIdent-type_ann pat)
      (Ident-span (BindingIdent-id pat)) pat
  pat_by_kind kinds.AssignPat is_optional pat = assign_seen is_optional pat
  pat_by_kind kinds.RestPat is_optional pat = rest_seen pat
  pat_by_kind kinds.ArrayPat is_optional pat = typed (ArrayPat-type_ann pat) (ArrayPat-span pat) (emptied_array pat)
  pat_by_kind kinds.ObjectPat is_optional pat = typed (ObjectPat-type_ann pat) (ObjectPat-span pat) (emptied_object pat)
  pat_by_kind _ is_optional pat = faulty UnsupportedDestructuring (range_of_node pat)

  abbrev pub pat_seen : Bool → Tree → Seen
  pat_seen is_optional pat = pat_by_kind (kind_of pat) is_optional pat

  -- parameters, in order
  abbrev pub pats_seen : List Tree → List Seen
  pats_seen [] = []
  pats_seen (pat ∷ pats) = pat_seen (list_all is_optional_param (pat ∷ pats)) pat ∷ pats_seen pats
