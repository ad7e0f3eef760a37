-- The law of two worlds: a hidden edit changes no skeleton and no fault, and at renamed positions no comment that
-- stays.
use Rattle.std.specs.Prelude.{◌≡◌}
use Rattle.fast_check_tree_syntax.specs.declared.tree.Tree.{Tree}
use Rattle.fast_check_tree_syntax.specs.Moves.{Renaming, IsRenaming}
use Rattle.fast_check_tree_syntax.specs.Same.{SameTree, SameRange, Each}
use Rattle.fast_check_tree_comments.specs.declared.comments.Comments.{Comments}
use Rattle.fast_check_tree_comments.specs.Kept.{kept}
use Rattle.fast_check_tree_forms_programs.specs.Programs.{Module-body, Module-shebang}
use Rattle.fast_check_meaning_signatures.specs.declared.fault.Fault.{Fault}
use Rattle.fast_check_meaning_skeleton.specs.ModuleFacts.{ModuleFacts}
use Rattle.fast_check_meaning_skeleton.specs.Skeleton.{skeleton_of, faults_of}
use Rattle.fast_check_meaning_skeleton.specs.KeptComments.{kept_comments}
use Rattle.fast_check_meaning_skeleton.specs.SameComments.{SameComments}
use Rattle.fast_check_meaning_skeleton.specs.Hidden.{AgreeHidden}

-- one fault, at places that the renaming pairs
pub record SameFault (r : Renaming) (f g : Fault) : Type 0 where
  pub kind : f.kind ≡ g.kind
  pub range : SameRange r f.range g.range

-- the same items and shebang. A module's own span, which its skeleton keeps, is not compared.
pub record SameSkeleton (r : Renaming) (t u : Tree) : Type 0 where
  pub body : SameTree r (Module-body t) (Module-body u)
  pub shebang : SameTree r (Module-shebang t) (Module-shebang u)

-- what is answered of t with the comments c, and of u with the comments d
pub record SameAnswers (r : Renaming) (a : ModuleFacts) (t : Tree) (c : Comments) (b : ModuleFacts) (u : Tree)
    (d : Comments) : Type 0 where
  pub skeletons : SameSkeleton r (skeleton_of a t) (skeleton_of b u)
  pub faults : Each (SameFault r) (faults_of a t) (faults_of b u)
  pub comments : SameComments r (kept_comments a t c) (kept_comments b u d)

-- Under each renaming under which two modules agree but for what is hidden, and so do those of their comments that a
-- skeleton may keep, their answers are the same.
abbrev pub TwoWorlds : ModuleFacts → Tree → Comments → ModuleFacts → Tree → Comments → Type 0
TwoWorlds a t c b u d = (r : Renaming) → IsRenaming r → AgreeHidden r a b t u → SameComments r (kept c) (kept d) →
    SameAnswers r a t c b u d
