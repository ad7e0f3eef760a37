-- Members without version, by their names.
use Rattle.std.proofs.Common.{◌≡◌, ◌∙◌, sym, ap, refl, subst, ℕ, Bool, true, false, ◌&&◌, cond, List, [], ◌∷◌, Option, Some, None, find}
use Rattle.std.proofs.Common.{is_none, bytes_eq, string_bytes, String, Global, true≢false}
use Rattle.std.specs.BTreeMap.{get}
use Rattle.std.specs.BTreeSet.{BTreeSet}
use Rattle.std.specs.Cmp.Lexicographic.{texts_ties}
use Rattle.std.specs.Ordering.{is_eq}
use Rattle.std.specs.String.{string_cmp}
use Rattle.std.specs.declared.rc.Rc.{Rc}
use Rattle.std.proofs.lemmas.Slice.Eq.{bytes_eq-Decides}
use Rattle.std.proofs.lemmas.Option.{none-some}
use Rattle.url.specs.Parts.{Parts}
use Rattle.fast_check_tables_packages.specs.Package.{Nv}
use Rattle.fast_check_tables_packages.specs.declared.package.WorkspaceMember.{WorkspaceMember}
use Rattle.fast_check_tables_packages.specs.Members.{has_version, is_member, is_of_name, member_named}
use Rattle.fast_check_finder_demands.proofs.asked.Maps.{some_is}
use Rattle.fast_check_finder_ranges.specs.entries.Entries.{member_exports, entrance_by, entered}
use Rattle.fast_check_finder_ranges.specs.entries.MemberEntries.{AreMemberEntries}
use Rattle.fast_check_finder_ranges.specs.declared.entries.members.MemberEntries.{MemberEntries}

other_name : {X : Type 0} (b : Bool) (has : Option X → Bool) → has None ≡ true → (w : Option X) → (b && has w) ≡ false →
    (is_none w && b) ≡ false
other_name true has all None e = absurd (true≢false (sym all ∙ e))
other_name false has all None e = refl
other_name b has all (Some w) e = refl

own_name : {X : Type 0} (b : Bool) (has : Option X → Bool) (w : Option X) → w ≡ None → (b && has w) ≡ true → (is_none w && b) ≡ true
own_name true has None none e = refl
own_name false has None none e = e
own_name b has (Some w) none e = absurd (none-some w (sym none))

-- where a package is a member without version, that is the first of its name
pub first_of_name : (members : List WorkspaceMember) (nv : Nv) (m : WorkspaceMember) → member_named members nv ≡ Some m → m.version ≡ None →
    find (is_of_name nv.0) members ≡ Some m
first_of_name [] nv m h none = absurd (none-some m h)
first_of_name (x ∷ members) nv m h none = by (is_member nv x) refl h (λ is. first_of_name members nv m is none)
  where
    by : (b : Bool) → is_member nv x ≡ b → cond b (Some x) (find (is_member nv) members) ≡ Some m →
        (find (is_member nv) members ≡ Some m → find (is_of_name nv.0) members ≡ Some m) →
        cond (is_of_name nv.0 x) (Some x) (find (is_of_name nv.0) members) ≡ Some m
    by true e is rest =
        ap (λ b. cond b (Some x) (find (is_of_name nv.0) members))
        (own_name (bytes_eq nv.0 (string_bytes x.name)) (has_version nv.1) x.version
        (ap (λ (y : WorkspaceMember). y.version) (some_is x m is) ∙ none) e) ∙ is
    by false e is rest =
        ap (λ b. cond b (Some x) (find (is_of_name nv.0) members))
        (other_name (bytes_eq nv.0 (string_bytes x.name)) (has_version nv.1) refl x.version e) ∙ rest is

-- the entry points of one more member are kept, under a copy of its name
pub kept_more : (old new : MemberEntries) (key : String Global) (nv : Nv) (urls : Rc (BTreeSet Parts) Global) →
    string_bytes key ≡ nv.0 →
    ((q : String Global) → get string_cmp new.by_name q ≡ cond (is_eq (string_cmp key q)) (Some urls) (get string_cmp old.by_name q)) →
    (members : List WorkspaceMember) (m : WorkspaceMember) → member_named members nv ≡ Some m → m.version ≡ None →
    entrance_by m.base (Some (member_exports m)) ≡ entered urls.value.keys → AreMemberEntries members old → AreMemberEntries members new
kept_more old new key nv urls copy put members m is none are h name found there other first =
    by (is_eq (string_cmp key name)) refl (sym (put name) ∙ there)
  where
    by : (b : Bool) → is_eq (string_cmp key name) ≡ b → cond b (Some urls) (get string_cmp old.by_name name) ≡ Some found →
        entrance_by other.base (Some (member_exports other)) ≡ entered found.value.keys
    by true e got =
        let named : nv.0 ≡ string_bytes name = sym copy ∙ (bytes_eq-Decides (string_bytes key) (string_bytes name)).0
        (texts_ties (string_bytes key) (string_bytes name) ∙ e) in
        let one : m ≡ other = some_is m other (sym (first_of_name members nv m is none)
        ∙ (ap (λ (t : List ℕ). find (is_of_name t) members) named ∙ first)) in
        subst (λ (x : WorkspaceMember). entrance_by x.base (Some (member_exports x)) ≡ entered found.value.keys) one
        (are ∙ ap (λ (us : Rc (BTreeSet Parts) Global). entered us.value.keys) (some_is urls found got))
    by false e got = h name found got other first
