-- Two versions of a module that differ by hidden code alone, judged by the public API of the first.
use Rattle.std.specs.Prelude.{◌≡◌, Bool, List, Some}
use Rattle.std.specs.List.{list_any}
use Rattle.std.specs.BTreeMap.{BTreeMap}
use Rattle.fast_check_tree_comments.specs.Kept.{kept}
use Rattle.fast_check_tree_syntax.specs.declared.source.SourceRange.{SourceRange}
use Rattle.fast_check_tree_syntax.specs.Moves.{Renaming}
use Rattle.fast_check_tables_modules.specs.EsModule.{EsModule}
use Rattle.fast_check_tables_modules.specs.diagnostics.PublicRanges.{PublicRanges}
use Rattle.fast_check_tables_packages.specs.Package.{Nv}
use Rattle.fast_check_tables_packages.specs.declared.package.PackageNv.{PackageNv}
use Rattle.fast_check_tables_cache.specs.declared.package_ranges.PackagePublicRanges.{PackagePublicRanges}
use Rattle.fast_check_meaning_skeleton.specs.Hidden.{AgreeHidden}
use Rattle.fast_check_meaning_skeleton.specs.ModuleFacts.{ModuleFacts}
use Rattle.fast_check_meaning_skeleton.specs.SameComments.{SameComments}
use Rattle.fast_check_transform_module.specs.Transform.{facts_of_module}
use Rattle.fast_check_transform_pair.specs.Transformed.{TransformResult, IsTransformed}
use Rattle.fast_check_transform_pair.specs.Worlds.{SameAnswer}
use Rattle.fast_check_finder_demands.specs.asked.Demands.{Text}
use Rattle.fast_check_finder_ranges.specs.Answers.{module_answer}
use Rattle.fast_check_finder_loop.specs.demands.facts.GraphFacts.{Known}
use Rattle.fast_check_build.specs.Found.{IsFound}
use Rattle.fast_check_finder_unique.specs.Edits.{SymbolRenaming}
use Rattle.fast_check_build_unique.specs.Moved.{Renamings, is_moved}
use Rattle.fast_check_build_unique.specs.Lockstep.{AreInLockstep, AreBothSettled}

-- whether the range corresponds to one of these, of the first version
abbrev pub is_moved_from : Renaming → List SourceRange → SourceRange → Bool
is_moved_from r ranges b = list_any (λ a. is_moved r a b) ranges

-- the facts of the second version, but with the public API of the first: what is public in the first is public here
abbrev pub with_api : Renaming → PublicRanges → ModuleFacts → ModuleFacts
with_api r m facts = record {
  is_public = is_moved_from r m.ranges;
  is_implementation = is_moved_from r m.implementations;
  bindings = facts.bindings;
  is_ambient = facts.is_ambient;
  relative = facts.relative;
  objects = facts.objects;
}

-- Both versions have one name and agree but for code that is hidden in the first, where m is public. Comments that a
-- skeleton may keep are the same at renamed positions.
pub record DifferHidden (r : Renaming) (k l : Known) (a b : EsModule) (m : PublicRanges) : Type 0 where
  pub specifier : a.specifier ≡ b.specifier
  pub program : AgreeHidden r (facts_of_module k.graph a m) (with_api r m (facts_of_module l.graph b m)) a.source.program
      b.source.program
  pub comments : SameComments r (kept a.source.comments) (kept b.source.comments)

-- `transform` answers both alike, m and n being public
abbrev pub TransformsAlike : Renaming → Known → Known → EsModule → EsModule → PublicRanges → PublicRanges → Type 0
TransformsAlike r k l a b m n = (first_alone : Bool) (x y : TransformResult) →
    IsTransformed k.graph a m first_alone x → IsTransformed l.graph b n first_alone y → SameAnswer r x y

abbrev pub Found : Type 0
Found = BTreeMap PackageNv PackagePublicRanges

-- Of two settled inputs in lockstep, whatever the finder answers to each: two versions of a module that differ by
-- hidden code alone are transformed alike.
abbrev pub KeepsModules : Type 0
KeepsModules = (k l : Known) (roots : List Nv) (renames : SymbolRenaming) (moves : Renamings) (found_k found_l : Found) →
    AreInLockstep k l roots renames moves → AreBothSettled k l roots → IsFound k roots found_k → IsFound l roots found_l →
    (nv : Nv) (t : Text) (m n : PublicRanges) → module_answer found_k nv t ≡ Some m → module_answer found_l nv t ≡ Some n →
    (a b : EsModule) → DifferHidden (moves t) k l a b m → TransformsAlike (moves t) k l a b m n
