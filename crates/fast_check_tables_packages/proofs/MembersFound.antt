-- An index of members as it grows, and what is found by it.
use Rattle.std.proofs.Common.{◌≡◌, ◌∙◌, sym, ap, refl, ℕ, Bool, true, false, ◌&&◌, ◌||◌, cond, List, [], ◌∷◌, ◌++◌, length, true≢false}
use Rattle.std.proofs.Common.{Option, Some, None, find, option_and_then, slice_get, is_some, is_none, bytes_eq, BTreeMap, string_bytes}
use Rattle.std.proofs.Common.{map, option_map, nat_eq}
use Rattle.std.specs.List.{starts_with}
use Rattle.std.proofs.lemmas.Option.{slice_get-map}
use Rattle.std.specs.Borrow.{Bor}
use Rattle.std.specs.Slice.{IsItemAt}
use Rattle.std.specs.Option.{option_copied, option_or}
use Rattle.std.specs.Ordering.{is_eq, ordering_then}
use Rattle.std.specs.declared.cmp.Ordering.{Ordering}
use Rattle.std.specs.declared.cmp.Ordering.TheVariants.{Less, Equal, Greater}
use Rattle.std.specs.Cmp.{eq_by_cmp_equiv}
use Rattle.std.specs.Cmp.Lexicographic.{nat_list_eq_equiv, texts_ties, slice_cmp}
use Rattle.std.specs.Ordering.{nat_cmp}
use Rattle.std.specs.BTreeMap.{get, Updates}
use Rattle.std.specs.Map.{lookup}
use Rattle.semver.specs.declared.Version.{Version}
use Rattle.url.specs.Parts.{serialize}
use Rattle.semver.specs.Identifiers.{parts_of}
use Rattle.fast_check_tables_packages.specs.declared.package.PackageNv.{PackageNv}
use Rattle.fast_check_tables_packages.specs.declared.package.WorkspaceMember.{WorkspaceMember}
use Rattle.fast_check_tables_packages.specs.Package.{VersionParts, nv_of, nv_cmp, version_cmp, version_or_zero}
use Rattle.fast_check_tables_packages.specs.PackageOrder.{nv_total}
use Rattle.fast_check_tables_packages.specs.Listed.{begins_with}
use Rattle.fast_check_tables_packages.specs.First.{first_place, earlier}
use Rattle.fast_check_tables_packages.specs.Members.{has_version, is_member, member_nv, is_of_name, is_of_package, IsMemberIndex, bases_of}
use Rattle.fast_check_tables_packages.specs.Members.{member_of, place_around}
use Rattle.fast_check_tables_packages.specs.Packages.{package_cmp}
use Rattle.fast_check_tables_packages.specs.Texts.{place_of}
use Rattle.fast_check_tables_packages.specs.declared.member_places.MemberPlaces.{MemberPlaces}
use Rattle.fast_check_tables_packages.proofs.First.{first_push, first_same, first_of_either, first_mapped, found_there}
use Rattle.fast_check_tables_packages.proofs.Rows.{item_at}
use Rattle.fast_check_tables_packages.proofs.Beginnings.{or_none}

-- ---- a package that is put

abbrev Places : Type 0
Places = BTreeMap PackageNv ℕ

pub same_lookup : {K X : Type 0} (f g : K → Bool) → ((k : K) → f k ≡ g k) → (es : List (K × X)) → lookup f es ≡ lookup g es
same_lookup f g e [] = refl
same_lookup f g e (x ∷ es) = ap (λ b. cond b (Some x.1) (lookup f es)) (e x.0) ∙ ap (λ o. cond (g x.0) (Some x.1) o) (same_lookup f g e es)

-- equal packages have one place
one_place : (asked key : PackageNv) (places : Places) → is_eq (package_cmp asked key) ≡ true →
    get package_cmp places asked ≡ get package_cmp places key
one_place asked key places y =
    let law = eq_by_cmp_equiv nv_total in
    same_lookup (λ k. is_eq (package_cmp asked k)) (λ k. is_eq (package_cmp key k))
    (λ k. law.congr (nv_of asked) (nv_of key) (nv_of k) y) places.entries

settled : (b : Bool) (o : Option ℕ) (place : ℕ) → (b ≡ true → o ≡ None) → cond b (Some place) o ≡ option_or o (cond b (Some place) None)
settled true None place h = refl
settled true (Some x) place h = absurd (true≢false (ap is_some (h refl)))
settled false None place h = refl
settled false (Some x) place h = refl

-- a package that has no place gets it
pub package_new : (key asked : PackageNv) (place : ℕ) (old new : Places) → Updates package_cmp old new key (Some place)
    → is_some (get package_cmp old key) ≡ false
    → get package_cmp new asked ≡ option_or (get package_cmp old asked) (cond (is_eq (package_cmp asked key)) (Some place) None)
package_new key asked place old new u before =
    u.0 asked
    ∙ (ap (λ b. cond b (Some place) (get package_cmp old asked)) ((eq_by_cmp_equiv nv_total).symm (nv_of key) (nv_of asked))
    ∙ settled (is_eq (package_cmp asked key)) (get package_cmp old asked) place
    (λ y. one_place asked key old y ∙ none_from (get package_cmp old key) before))
  where
    none_from : (o : Option ℕ) → is_some o ≡ false → o ≡ None
    none_from None h = refl
    none_from (Some x) h = absurd (true≢false h)

kept : (b : Bool) (o : Option ℕ) (place : ℕ) → (b ≡ true → is_some o ≡ true) → o ≡ option_or o (cond b (Some place) None)
kept true None place h = absurd (true≢false (sym (h refl)))
kept true (Some x) place h = refl
kept false None place h = refl
kept false (Some x) place h = refl

-- one that has its place keeps it
pub package_kept : (key asked : PackageNv) (place : ℕ) (places : Places) → is_some (get package_cmp places key) ≡ true
    → get package_cmp places asked ≡ option_or (get package_cmp places asked) (cond (is_eq (package_cmp asked key)) (Some place) None)
package_kept key asked place places h =
    kept (is_eq (package_cmp asked key)) (get package_cmp places asked) place (λ y. ap is_some (one_place asked key places y) ∙ h)

-- ---- one member more

-- which names and packages get the place
pub record Puts (member : WorkspaceMember) (place : ℕ) (old new : MemberPlaces) : Type 0 where
  pub name : (asked : List ℕ) → place_of asked new.by_name ≡ option_or (place_of asked old.by_name)
      (cond (is_of_name asked member) (Some place) None)
  pub nv : (asked : PackageNv) → get package_cmp new.by_package asked
      ≡ option_or (get package_cmp old.by_package asked) (cond (is_of_package (nv_of asked) member) (Some place) None)

pub named_put : (m : WorkspaceMember) (place : ℕ) (text : List ℕ) (old new : MemberPlaces) → m.version ≡ None → text ≡ string_bytes m.name
    → ((asked : List ℕ) → place_of asked new.by_name
    ≡ option_or (place_of asked old.by_name) (cond (bytes_eq text asked) (Some place) None))
    → new.by_package ≡ old.by_package → Puts m place old new
named_put m place text old new none is put same = record {
  name = λ asked.
      put asked
      ∙ ap (λ b. option_or (place_of asked old.by_name) (cond b (Some place) None))
      (ap (λ t. bytes_eq t asked) is ∙ nat_list_eq_equiv.symm (string_bytes m.name) asked ∙
      sym (ap (λ v. is_none v && bytes_eq asked (string_bytes m.name)) none));
  nv = λ asked.
      ap (λ (p : Places). get package_cmp p asked) same
      ∙ (or_none (get package_cmp old.by_package asked)
      ∙ ap (λ b. option_or (get package_cmp old.by_package asked) (cond b (Some place) None))
      (sym (ap (λ v. is_some v && is_eq (nv_cmp (nv_of asked) (string_bytes m.name, version_or_zero v))) none)));
}

pub package_put : (m : WorkspaceMember) (place : ℕ) (v : Version) (key : PackageNv) (old new : MemberPlaces) → m.version ≡ Some v →
    nv_of key ≡ member_nv m
    → ((asked : PackageNv) → get package_cmp new.by_package asked
    ≡ option_or (get package_cmp old.by_package asked) (cond (is_eq (package_cmp asked key)) (Some place) None))
    → new.by_name ≡ old.by_name → Puts m place old new
package_put m place v key old new some is put same = record {
  name = λ asked.
      ap (λ p. place_of asked p) same
      ∙ (or_none (place_of asked old.by_name)
      ∙ ap (λ b. option_or (place_of asked old.by_name) (cond b (Some place) None))
      (sym (ap (λ w. is_none w && bytes_eq asked (string_bytes m.name)) some)));
  nv = λ asked.
      put asked
      ∙ ap (λ b. option_or (get package_cmp old.by_package asked) (cond b (Some place) None))
      (ap (λ p. is_eq (nv_cmp (nv_of asked) p)) is
      ∙ sym (ap (λ w. is_some w && is_eq (nv_cmp (nv_of asked) (member_nv m))) some));
}

pub members_more : (members : List WorkspaceMember) (m : WorkspaceMember) (place : ℕ) (old new : MemberPlaces) → place ≡ length members
    → Puts m place old new → IsMemberIndex members old → IsMemberIndex (members ++ m ∷ []) new
members_more members m place old new at put h = record {
  names = λ asked.
      put.name asked
      ∙ (ap (λ o. option_or o (cond (is_of_name asked m) (Some place) None)) (h.names asked)
      ∙ (ap (λ n. option_or (first_place (is_of_name asked) members) (cond (is_of_name asked m) (Some n) None)) at
      ∙ sym (first_push (is_of_name asked) members m)));
  packages = λ asked.
      put.nv asked
      ∙ (ap (λ o. option_or o (cond (is_of_package (nv_of asked) m) (Some place) None)) (h.packages asked)
      ∙ (ap (λ n. option_or (first_place (is_of_package (nv_of asked)) members) (cond (is_of_package (nv_of asked) m) (Some n) None)) at
      ∙ sym (first_push (is_of_package (nv_of asked)) members m)));
}

-- ---- what is found

tie : (e f : Bool) (r s : Ordering) → e ≡ is_eq r → f ≡ is_eq s → (e && f) ≡ is_eq (ordering_then r s)
tie e f Less s h k = ap (λ b. b && f) h
tie e f Equal s h k = ap (λ b. b && f) h ∙ k
tie e f Greater s h k = ap (λ b. b && f) h

either_same : (b : Bool) → (b || false) ≡ (b && true)
either_same true = refl
either_same false = refl

either_way : (n name : List ℕ) (v : VersionParts) (w : Option Version)
    → ((is_none w && bytes_eq n name) || (is_some w && is_eq (nv_cmp (n, v) (name, version_or_zero w)))) ≡
    (bytes_eq n name && has_version v w)
either_way n name v None = either_same (bytes_eq n name)
either_way n name v (Some w) =
    sym (tie (bytes_eq n name) (is_eq (version_cmp v (parts_of w))) (slice_cmp nat_cmp n name) (version_cmp v (parts_of w))
    (texts_ties n name) refl)

pub first_member : (members : List WorkspaceMember) (places : MemberPlaces) (nv : PackageNv) → IsMemberIndex members places
    → earlier (place_of (string_bytes nv.name) places.by_name) (get package_cmp places.by_package nv) ≡ first_place
    (is_member (nv_of nv)) members
first_member members places nv h =
    let n = string_bytes nv.name in
    ap (λ o. earlier o (get package_cmp places.by_package nv)) (h.names n)
    ∙ (ap (λ o. earlier (first_place (is_of_name n) members) o) (h.packages nv)
    ∙ (sym (first_of_either (is_of_name n) (is_of_package (nv_of nv)) members)
    ∙ first_same (λ m. is_of_name n m || is_of_package (nv_of nv) m) (is_member (nv_of nv))
    (λ m. either_way n (string_bytes m.name) (parts_of nv.version) m.version) members))

pub none_there : (test : WorkspaceMember → Bool) (members : List WorkspaceMember) (o : Option ℕ) → o ≡ first_place test members → o ≡ None
    → None ≡ find test members
none_there test members o is none =
    sym (found_there test members ∙ ap (λ (p : Option ℕ). option_and_then (slice_get members) p) (sym is ∙ none))

pub some_there : (test : WorkspaceMember → Bool) (members : List WorkspaceMember) (o : Option ℕ) (i : ℕ) (r : Option (Bor WorkspaceMember))
    → o ≡ first_place test members → o ≡ Some i → IsItemAt members i r → option_copied r ≡ find test members
some_there test members o i r is some item =
    item_at members i r item
    ∙ sym (found_there test members ∙ ap (λ (p : Option ℕ). option_and_then (slice_get members) p) (sym is ∙ some))

-- the first base that begins a text is that of the first member whose base does
pub base_place : (members : List WorkspaceMember) (text : List ℕ)
    → first_place (λ t. begins_with t text) (bases_of members) ≡ first_place (λ m. begins_with (serialize m.base) text) members
base_place members text = first_mapped (λ (m : WorkspaceMember). serialize m.base) (λ t. begins_with t text) members

-- the first member whose base begins a text stands at its place
pub member_there : (members : List WorkspaceMember) (text : List ℕ)
    → member_of members text ≡ option_and_then (slice_get members) (place_around members text)
member_there members text = found_there (λ m. starts_with nat_eq text (serialize m.base)) members

-- what one list lends at a place is as another list has it there
pub same_at : {X Y Z : Type 0} (f : X → Z) (g : Y → Z) (xs : List X) (ys : List Y) (i : ℕ) (r : Option (Bor X)) → map f xs ≡ map g ys →
    IsItemAt xs i r → option_map (λ b. f b.now) r ≡ option_map g (slice_get ys i)
same_at {X} {Y} {Z} f g xs ys i r same item =
    read r
    ∙ (ap (λ (o : Option X). option_map f o) (item_at xs i r item)
    ∙ (sym (slice_get-map f xs i) ∙ (ap (λ (zs : List Z). slice_get zs i) same ∙ slice_get-map g ys i)))
  where
    read : (o : Option (Bor X)) → option_map (λ b. f b.now) o ≡ option_map f (option_copied o)
    read None = refl
    read (Some b) = refl
