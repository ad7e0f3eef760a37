-- Inner: no contract of a public call cites what stands here.
-- The heads of properties that are made.
use Rattle.fast_check_meaning_signatures.specs.Seen.{PropertyHead}
use Rattle.fast_check_transform_classes.specs.declared.class_nodes.properties.PropertyHead.{PropertyHead as MadeHead}

-- a head as the definitions have it
abbrev pub head_of : MadeHead → PropertyHead
head_of p = record {
  span = p.span;
  key = p.key;
  is_static = p.is_static;
  accessibility = p.accessibility;
  is_abstract = p.is_abstract;
  is_optional = p.is_optional;
  is_override = p.is_override;
  readonly = p.readonly;
}
