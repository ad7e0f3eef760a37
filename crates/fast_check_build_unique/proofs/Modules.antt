-- Of settled inputs in lockstep: what is public in two versions of a module corresponds, so they are transformed alike.
use Rattle.std.proofs.Common.{◌≡◌, ◌∙◌, sym, ap, refl, subst, true, false, List, [], Some, Option, ◌||◌}
use Rattle.std.specs.Prelude.{IsTrue, IfSome}
use Rattle.std.specs.List.{Contains, list_any}
use Rattle.std.specs.Str.{bytes_eq}
use Rattle.std.proofs.Math.Path.{fun_ext}
use Rattle.fast_check_tree_syntax.specs.declared.source.SourceRange.{SourceRange}
use Rattle.fast_check_tables_packages.specs.Package.{Nv}
use Rattle.fast_check_tables_modules.specs.EsModule.{EsModule}
use Rattle.fast_check_tables_modules.specs.diagnostics.PublicRanges.{PublicRanges, is_public, is_implementation}
use Rattle.fast_check_meaning_skeleton.specs.ModuleFacts.{ModuleFacts}
use Rattle.fast_check_meaning_skeleton.specs.Hidden.{AgreeHidden}
use Rattle.fast_check_meaning_skeleton.specs.Worlds.{SameAnswers}
use Rattle.fast_check_meaning_skeleton.proofs.CommentsAlike.{two_worlds}
use Rattle.fast_check_transform_module.specs.Transform.{facts_of_module}
use Rattle.fast_check_finder_demands.specs.asked.Demands.{Text, same_nv}
use Rattle.fast_check_finder_demands.proofs.Elements.{no_element, only, first}
use Rattle.fast_check_finder_ranges.specs.Answers.{about, about_module, modules_of, package_of, module_answer}
use Rattle.fast_check_finder_ranges.specs.Answers.{ranges_of, implementations_of, IsModuleAnswer, AreAnswers}
use Rattle.fast_check_finder_ranges.specs.findings.Yields.{Yield, known_package, entry_point, refused_export, dependency}
use Rattle.fast_check_finder_ranges.specs.findings.Yields.{recorded, public, implementing, faulty, cached}
use Rattle.fast_check_finder_ranges.proofs.Shown.{module_stands}
use Rattle.fast_check_finder_loop.specs.demands.facts.GraphFacts.{Known}
use Rattle.fast_check_finder_loop.specs.Rules.{followers}
use Rattle.fast_check_finder_loop.specs.Yields.{demand_yields}
use Rattle.fast_check_finder_demands.proofs.asked.Taken.{bytes_same}
use Rattle.fast_check_finder_loop.proofs.Accounted.{text_is, nv_itself}
use Rattle.fast_check_tables_packages.proofs.Found.{or_none}
use Rattle.fast_check_finder_loop.proofs.Places.{nv_is}
use Rattle.fast_check_build.specs.Found.{IsFound}
use Rattle.fast_check_finder_unique.specs.Edits.{SymbolRenaming}
use Rattle.fast_check_finder_unique.proofs.Edited.{shows_all}
use Rattle.fast_check_build_unique.specs.Moved.{Renamings, is_moved, corresponds}
use Rattle.fast_check_build_unique.specs.Lockstep.{every, AreInLockstep, AreBothSettled}
use Rattle.fast_check_build_unique.specs.Modules.{is_moved_from, with_api, DifferHidden, TransformsAlike, Found}
use Rattle.fast_check_build_unique.proofs.Corresponding.{public_to, public_from, implementing_to, implementing_from}
use Rattle.fast_check_build_unique.proofs.Ranges.{IsKind, moved_listed}
use Rattle.fast_check_build_unique.proofs.Transformed.{transformed_alike}

-- ---- yields of ranges

one_text : (t u : Text) → (bytes_eq t u || false) ≡ true → t ≡ u
one_text t u h = text_is t u (sym (or_none (bytes_eq t u)) ∙ h)

text_itself : (t : Text) → (bytes_eq t t || false) ≡ true
text_itself t = or_none (bytes_eq t t) ∙ bytes_same t

public_made : (nv : Nv) (t : Text) (y : Yield) (r : SourceRange) → same_nv nv (package_of y) ≡ true →
    list_any (bytes_eq t) (modules_of y) ≡ true → Contains (ranges_of y) r → y ≡ public nv t r
public_made nv t (known_package p) r h g c = absurd (no_element r c)
public_made nv t (entry_point p u) r h g c = absurd (no_element r c)
public_made nv t (refused_export p u) r h g c = absurd (no_element r c)
public_made nv t (dependency p u) r h g c = absurd (no_element r c)
public_made nv t (recorded p u) r h g c = absurd (no_element r c)
public_made nv t (public p u x) r h g c =
    ap (λ (q : Nv). public q u x) (sym (nv_is nv p h)) ∙ (ap (λ (v : Text). public nv v x) (sym (one_text t u g))
    ∙ ap (λ (z : SourceRange). public nv t z) (only x r c))
public_made nv t (implementing p u x) r h g c = absurd (no_element r c)
public_made nv t (faulty p u f) r h g c = absurd (no_element r c)
public_made nv t (cached p es item) r h g c = absurd (no_element r c)

public_kind : IsKind public ranges_of
public_kind = record {
  given = λ p t r. first r r [] refl;
  made = public_made;
  its_package = λ p t r. nv_itself p;
  its_module = λ p t r. text_itself t;
}

implementing_made : (nv : Nv) (t : Text) (y : Yield) (r : SourceRange) → same_nv nv (package_of y) ≡ true →
    list_any (bytes_eq t) (modules_of y) ≡ true → Contains (implementations_of y) r → y ≡ implementing nv t r
implementing_made nv t (known_package p) r h g c = absurd (no_element r c)
implementing_made nv t (entry_point p u) r h g c = absurd (no_element r c)
implementing_made nv t (refused_export p u) r h g c = absurd (no_element r c)
implementing_made nv t (dependency p u) r h g c = absurd (no_element r c)
implementing_made nv t (recorded p u) r h g c = absurd (no_element r c)
implementing_made nv t (public p u x) r h g c = absurd (no_element r c)
implementing_made nv t (implementing p u x) r h g c =
    ap (λ (q : Nv). implementing q u x) (sym (nv_is nv p h)) ∙ (ap (λ (v : Text). implementing nv v x) (sym (one_text t u g))
    ∙ ap (λ (z : SourceRange). implementing nv t z) (only x r c))
implementing_made nv t (faulty p u f) r h g c = absurd (no_element r c)
implementing_made nv t (cached p es item) r h g c = absurd (no_element r c)

implementing_kind : IsKind implementing implementations_of
implementing_kind = record {
  given = λ p t r. first r r [] refl;
  made = implementing_made;
  its_package = λ p t r. nv_itself p;
  its_module = λ p t r. text_itself t;
}

-- ---- two inputs

module _ (k l : Known) (roots : List Nv) (renames : SymbolRenaming) (moves : Renamings) (found_k found_l : Found)
    (step : AreInLockstep k l roots renames moves) (settled : AreBothSettled k l roots) (in_k : IsFound k roots found_k)
    (in_l : IsFound l roots found_l) where
  -- a yield of the one corresponds to a yield of the other
  pub to_second : (y : Yield) → Contains in_k.yields y → (z : Yield) × IsTrue (corresponds moves y z) × Contains in_l.yields z
  to_second y h = shows_all (followers k) (followers l) (demand_yields k) (demand_yields l) roots renames (corresponds moves) every
      step.forth settled.second in_k.account in_l.account in_k.yields in_l.yields in_k.is_account in_l.is_account in_k.is_yield
      in_l.is_yield y refl h

  pub to_first : (z : Yield) → Contains in_l.yields z → (y : Yield) × IsTrue (corresponds moves y z) × Contains in_k.yields y
  to_first z h = shows_all (followers l) (followers k) (demand_yields l) (demand_yields k) roots (λ t a b. renames t b a)
      (λ y z. corresponds moves z y) every step.back settled.first in_l.account in_k.account in_l.yields in_k.yields
      in_l.is_account in_k.is_account in_l.is_yield in_k.is_yield z refl h

  module _ (nv : Nv) (t : Text) where
    public_forth : (a : SourceRange) → Contains in_k.yields (public nv t a) →
        (b : SourceRange) × Contains in_l.yields (public nv t b) × (is_moved (moves t) a b ≡ true)
    public_forth a h =
        let z = to_second (public nv t a) h in
        let s = public_to moves nv t a z.0 z.1 in
        (s.0, subst (λ (y : Yield). Contains in_l.yields y) s.1 z.2, s.2)

    public_back : (b : SourceRange) → Contains in_l.yields (public nv t b) →
        (a : SourceRange) × Contains in_k.yields (public nv t a) × (is_moved (moves t) a b ≡ true)
    public_back b h =
        let z = to_first (public nv t b) h in
        let s = public_from moves nv t b z.0 z.1 in
        (s.0, subst (λ (y : Yield). Contains in_k.yields y) s.1 z.2, s.2)

    implementing_forth : (a : SourceRange) → Contains in_k.yields (implementing nv t a) →
        (b : SourceRange) × Contains in_l.yields (implementing nv t b) × (is_moved (moves t) a b ≡ true)
    implementing_forth a h =
        let z = to_second (implementing nv t a) h in
        let s = implementing_to moves nv t a z.0 z.1 in
        (s.0, subst (λ (y : Yield). Contains in_l.yields y) s.1 z.2, s.2)

    implementing_back : (b : SourceRange) → Contains in_l.yields (implementing nv t b) →
        (a : SourceRange) × Contains in_k.yields (implementing nv t a) × (is_moved (moves t) a b ≡ true)
    implementing_back b h =
        let z = to_first (implementing nv t b) h in
        let s = implementing_from moves nv t b z.0 z.1 in
        (s.0, subst (λ (y : Yield). Contains in_k.yields y) s.1 z.2, s.2)

    module _ (m n : PublicRanges) (has_m : IsModuleAnswer t (about_module t (about nv in_k.yields)) m)
        (has_n : IsModuleAnswer t (about_module t (about nv in_l.yields)) n) where
      same_public : is_public n ≡ is_moved_from (moves t) m.ranges
      same_public = fun_ext (moved_listed public ranges_of public_kind nv t (moves t) (step.renaming t) in_k.yields in_l.yields
          m.ranges n.ranges has_m.ranges has_n.ranges public_forth public_back)

      same_implementations : is_implementation n ≡ is_moved_from (moves t) m.implementations
      same_implementations = fun_ext (moved_listed implementing implementations_of implementing_kind nv t (moves t) (step.renaming t)
          in_k.yields in_l.yields m.implementations n.implementations has_m.implementations has_n.implementations
          implementing_forth implementing_back)

      -- so the facts of the second version are those by the public API of the first
      same_facts : (b : EsModule) → with_api (moves t) m (facts_of_module l.graph b n) ≡ facts_of_module l.graph b n
      same_facts b = λ i. record {
        is_public = sym same_public i;
        is_implementation = sym same_implementations i;
        bindings = (facts_of_module l.graph b n).bindings;
        is_ambient = (facts_of_module l.graph b n).is_ambient;
        relative = (facts_of_module l.graph b n).relative;
        objects = (facts_of_module l.graph b n).objects;
      }

      pub answered_same : (a b : EsModule) → DifferHidden (moves t) k l a b m →
          SameAnswers (moves t) (facts_of_module k.graph a m) a.source.program a.source.comments
          (facts_of_module l.graph b n) b.source.program b.source.comments
      answered_same a b d =
          two_worlds (facts_of_module k.graph a m) a.source.program a.source.comments (facts_of_module l.graph b n)
          b.source.program b.source.comments (moves t) (step.renaming t)
          (subst (λ (f : ModuleFacts). AgreeHidden (moves t) (facts_of_module k.graph a m) f a.source.program b.source.program)
          (same_facts b) d.program) d.comments

    stands : (o : Option PublicRanges) (m : PublicRanges) (P : PublicRanges → Type 0) → IfSome o P → o ≡ Some m → P m
    stands o m P h e = subst (λ (x : Option PublicRanges). IfSome x P) e h

    pub transforms_alike : (m n : PublicRanges) → module_answer found_k nv t ≡ Some m → module_answer found_l nv t ≡ Some n →
        (a b : EsModule) → DifferHidden (moves t) k l a b m → TransformsAlike (moves t) k l a b m n
    transforms_alike m n e f a b d first_alone x y i j =
        transformed_alike k.graph l.graph a b m n first_alone (moves t) (step.renaming t) d.specifier
        (answered_same m n (has in_k.yields found_k in_k.says m e) (has in_l.yields found_l in_l.says n f) a b d) x y i j
      where
        has : (ys : List Yield) (answers : Found) (says : AreAnswers ys answers) (o : PublicRanges) → module_answer answers nv t ≡ Some o →
            IsModuleAnswer t (about_module t (about nv ys)) o
        has ys answers says o g = stands (module_answer answers nv t) o (IsModuleAnswer t (about_module t (about nv ys)))
            (module_stands ys answers says nv t) g
