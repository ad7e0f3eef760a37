-- Inner: no contract of a public call cites what stands here.
-- What stands for the sources of a module, as it is kept from one import to the next.
use Rattle.std.specs.Prelude.{◌≡◌, ℕ, List, Option, Some}
use Rattle.std.specs.BTreeMap.{get_by_text}
use Rattle.fast_check_meaning_skeleton.specs.ModuleFacts.{ModuleFacts}
use Rattle.fast_check_transform_imports.specs.declared.relative.RelativeSources.{RelativeSources}

-- under a text what stands for it
abbrev pub AreRelative : ModuleFacts → RelativeSources → Type 0
AreRelative facts kept = (text : List ℕ) (other : Option (List ℕ)) → get_by_text kept.by_text text ≡ Some other →
    other ≡ facts.relative text

-- this holds where the old ones stand for those of a module, and then the new ones do so too
abbrev pub WhileRelative : ModuleFacts → RelativeSources → RelativeSources → Type 0 → Type 0
WhileRelative facts old new P = AreRelative facts old → P × AreRelative facts new
