-- What stands for one more text is kept.
use Rattle.std.proofs.Common.{◌≡◌, ◌∙◌, sym, ap, refl, ℕ, Bool, true, false, cond, List, Option, Some, string_bytes}
use Rattle.std.proofs.Common.{String, Global, bytes_eq}
use Rattle.std.specs.BTreeMap.{Updates, get_by_text}
use Rattle.std.specs.String.{string_cmp}
use Rattle.std.proofs.lemmas.Map.Text.{btree_map_updates_text}
use Rattle.std.proofs.lemmas.Slice.Eq.{bytes_eq-Decides}
use Rattle.fast_check_meaning_skeleton.specs.ModuleFacts.{ModuleFacts}
use Rattle.fast_check_transform_imports.specs.Relative.{AreRelative}
use Rattle.fast_check_transform_imports.specs.declared.relative.RelativeSources.{RelativeSources}

inside : {X : Type 0} (x y : X) → Some x ≡ Some y → x ≡ y
inside x y e = cc

pub kept_more : (old new : RelativeSources) (key : String Global) {text : List ℕ} (found : Option (List ℕ)) → string_bytes key ≡ text →
    Updates string_cmp old.by_text new.by_text key (Some found) →
    (facts : ModuleFacts) → found ≡ facts.relative text → AreRelative facts old → AreRelative facts new
kept_more old new key {text = text} found copy put facts is h asked other there =
    by (bytes_eq (string_bytes key) asked) refl
    (sym (btree_map_updates_text (string_bytes key) old.by_text new.by_text (Some found) put asked) ∙ there)
  where
    by : (b : Bool) → bytes_eq (string_bytes key) asked ≡ b → cond b (Some found) (get_by_text old.by_text asked) ≡ Some other →
        other ≡ facts.relative asked
    by true e got =
        sym (inside found other got) ∙ (is ∙ ap facts.relative (sym copy ∙ (bytes_eq-Decides (string_bytes key) asked).0 e))
    by false e got = h asked other got
