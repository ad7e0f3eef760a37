-- What is asked of a module beside its tree.
use Rattle.std.specs.Option.{option_copied}
use Rattle.fast_check_tables_diagnostics.specs.parsed_source.MediaType.{is_declaration}
use Rattle.fast_check_tables_modules.specs.diagnostics.PublicRanges.{PublicRanges, is_public, is_implementation}
use Rattle.fast_check_tables_modules.specs.EsModule.{EsModule}
use Rattle.fast_check_transform_nodes.specs.Bindings.{bindings_of, names_of}
use Rattle.fast_check_meaning_skeleton.specs.expandos.ModuleObjects.{objects_of}
use Rattle.fast_check_transform_imports.specs.module_facts.Sources.{Resolutions, relative_source}
use Rattle.fast_check_meaning_skeleton.specs.ModuleFacts.{ModuleFacts}
use Rattle.fast_check_transform_imports.specs.declared.module_facts.facts.ModuleFacts.{ModuleFacts as Lent}

-- what a module's skeleton depends on beside its tree: what is public of it, what is known of its names, whether it is
-- a declaration file, all of which is ambient, where its texts resolve to, and what is known of the objects of its
-- expando properties
abbrev pub facts_by : Resolutions → EsModule → PublicRanges → ModuleFacts
facts_by resolutions info public = record {
  is_public = is_public public;
  is_implementation = is_implementation public;
  bindings = bindings_of info;
  is_ambient = is_declaration info.source.media_type;
  relative = relative_source resolutions info.specifier;
  objects = objects_of info;
}

-- what is asked beside the tree
abbrev pub facts_of : Lent → ModuleFacts
facts_of asked = record {
  is_public = is_public asked.public_ranges.now;
  is_implementation = is_implementation asked.public_ranges.now;
  bindings = names_of asked.bindings;
  is_ambient = asked.is_ambient;
  relative = relative_source (option_copied asked.resolutions) asked.es_module_info.now.specifier;
  objects = objects_of asked.es_module_info.now;
}
