-- Inner: no contract of a public call cites what stands here.
-- What a call gives of items, and what it adds to what the transform of a module gathers.
use Rattle.std.specs.Prelude.{◌≡◌, List}
use Rattle.fast_check_tree_syntax.specs.declared.source.SourcePos.{SourcePos}
use Rattle.fast_check_tree_syntax.specs.declared.tree.Tree.{Tree}
use Rattle.fast_check_meaning_signatures.specs.Answers.{Answer, Adds}
use Rattle.fast_check_transform_statements.specs.skeleton.KeptComments.{without_all_leading}
use Rattle.fast_check_transform_statements.specs.skeleton.ModuleFacts.{ModuleFacts}
use Rattle.fast_check_transform_imports.specs.Relative.{AreRelative}
use Rattle.fast_check_transform_module.specs.declared.context.TransformContext.{TransformContext}

-- What it gives stays, and with the faults that it adds it is this answer; the comments before these places go; and the texts
-- that are kept stand for the sources of the module.
pub record Gathers (facts : ModuleFacts) (these : Answer (List Tree)) (starts : List SourcePos) (given : List Tree)
    (old new : TransformContext) : Type 0 where
  pub answer : Adds these given old.faults.items new.faults.items
  pub comments : new.comments ≡ without_all_leading starts old.comments
  pub sources : AreRelative facts new.sources
