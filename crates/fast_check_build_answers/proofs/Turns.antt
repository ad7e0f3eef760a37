-- One module more of a package.
use Rattle.std.specs.Prelude.{◌≡◌, ◌≢◌, ℕ, ◌==◌, Bool, true, false, not, ◌&&◌, List, [], ◌∷◌, ◌++◌, length, take, map, Option, Some, refl}
use Rattle.std.specs.Prelude.{Result, Ok, Err, IfOk, IfErr, Vec, vec_len}
use Rattle.std.specs.List.{AllZip, AllByRecursion, flat_map}
use Rattle.std.specs.declared.alloc.Global.{Global}
use Rattle.std.specs.declared.alloc.AllocError.{AllocError}
use Rattle.std.proofs.Common.{◌∙◌, sym, ap, subst, append_assoc, eq-eqb, eqb-true}
use Rattle.std.proofs.lemmas.Bool.{false≢true}
use Rattle.std.proofs.lemmas.List.{append-nil, map-append, nil_from_length}
use Rattle.std.proofs.lemmas.Grind.{flat_map-append}
use Rattle.fast_check_tables_modules.specs.diagnostics.PublicRanges.{PublicRanges}
use Rattle.fast_check_tables_modules.specs.diagnostics.declared.diagnostics.FastCheckDiagnostic.{FastCheckDiagnostic}
use Rattle.fast_check_meaning_signatures.specs.declared.fault.Fault.{Fault}
use Rattle.fast_check_tables_diagnostics.specs.parsed_source.MediaType.{is_declaration}
use Rattle.fast_check_tables_diagnostics.specs.declared.parsed_source.tables.fast_check_module.FastCheckModule.{FastCheckModule}
use Rattle.fast_check_transform_module.specs.skeleton.Grammar.{IsSkeleton}
use Rattle.fast_check_transform_nodes.specs.Bindings.{bindings_of}
use Rattle.fast_check_tables_modules.specs.EsModule.{EsModule}
use Rattle.fast_check_tables_graph.specs.Root.{found_module}
use Rattle.fast_check_tables_graph.specs.declared.graph.ModuleGraph.{ModuleGraph}
use Rattle.fast_check_tables_graph.specs.declared.root_symbol.AnyModuleInfo.{AnyModuleInfo}
use Rattle.fast_check_tables_graph.specs.declared.root_symbol.AnyModuleInfo.TheVariants.{Esm}
use Rattle.fast_check_tables_graph.specs.declared.root_symbol.RootSymbol.{RootSymbol}
use Rattle.fast_check_tables_cache.specs.declared.package_ranges.PackagePublicRanges.{PackagePublicRanges}
use Rattle.fast_check_transform_module.specs.Transform.{skeleton, sources, comments}
use Rattle.fast_check_transform_module.specs.transform_faults.Diagnostics.{AreDiagnosticsOf, diagnosed}
use Rattle.fast_check_build_answers.specs.PackageFaults.{PublicModule, PackageFault, transform_fault, found, Diagnoses, found_or, faults_in_tree}
use Rattle.fast_check_build_answers.specs.PackageFaults.{first_list, module_faults, package_faults, sound_front}
use Rattle.fast_check_build_answers.specs.ModuleAnswer.{IsModuleAnswer}
use Rattle.fast_check_build_answers.specs.PackageAnswer.{Answer, TreeModule, IsShown, ShowsMore, with_tree, tree_modules, IsSkeletonOf}
use Rattle.fast_check_build_answers.specs.PackageAnswer.{IsRefused, IsFoundAnswer, IsUsedAnswer, IsPackageAnswer, OwnsPublic, OwnsModule}
use Rattle.fast_check_build_answers.specs.PackageAnswer.{OwnsAll}
use Rattle.fast_check_build_answers.proofs.Lists.{first_last, first_front, both_append, left_empty, right_empty}
use Rattle.fast_check_build_answers.proofs.Lists.{all_front, all_back}
use Rattle.fast_check_build_answers.proofs.Soundness.{front_all, front_more, front_last, front_stop}

abbrev Diagnostics : Type 0
Diagnostics = Vec FastCheckDiagnostic Global

abbrev Answered : Type 0
Answered = Result Diagnostics AllocError

abbrev Made : Type 0
Made = Result FastCheckModule Diagnostics

-- ---- vectors that are empty, or not

pub empty_vec : {X : Type 0} (v : Vec X Global) (b : Bool) → b ≡ (vec_len v == 0) → b ≡ true → v.items ≡ []
empty_vec v b is e = nil_from_length v.items (sym v.ok.0 ∙ eqb-true (vec_len v) 0 (sym is ∙ e))

pub full_vec : {X : Type 0} (v : Vec X Global) (b : Bool) → b ≡ (vec_len v == 0) → b ≡ false → v.items ≡ [] → ⊥
full_vec v b is e none =
    let zero : vec_len v ≡ 0 = v.ok.0 ∙ ap {B = ℕ} length none in
    false≢true (sym e ∙ (is ∙ eq-eqb (vec_len v) 0 zero))

pub empty_slice : {X : Type 0} (xs : List X) (b : Bool) → b ≡ (length xs == 0) → b ≡ true → xs ≡ []
empty_slice xs b is e = nil_from_length xs (eqb-true (length xs) 0 (sym is ∙ e))

pub full_slice : {X : Type 0} (xs : List X) (b : Bool) → b ≡ (length xs == 0) → b ≡ false → xs ≡ [] → ⊥
full_slice xs b is e none =
    let zero : length xs ≡ 0 = ap {B = ℕ} length none in
    false≢true (sym e ∙ (is ∙ eq-eqb (length xs) 0 zero))

not_true : (x : Bool) → not x ≡ true → x ≡ true → ⊥
not_true true p q = cc
not_true false p q = cc

not_false : (x : Bool) → not x ≡ false → x ≡ true
not_false true p = refl
not_false false p = cc

pub early : (first : Bool) (diagnostics : List FastCheckDiagnostic) (b : Bool) → b ≡ (first && not (length diagnostics == 0)) → b ≡ true →
    (first ≡ true) × (diagnostics ≡ [] → ⊥)
early false diagnostics b is e = cc
early true diagnostics b is e = (
  refl,
  λ none. let zero : length diagnostics ≡ 0 = ap {B = ℕ} length none in
      not_true (length diagnostics == 0) (sym is ∙ e) (eq-eqb (length diagnostics) 0 zero),
)

pub goes_on : (first : Bool) (diagnostics : List FastCheckDiagnostic) (b : Bool) →
    b ≡ (first && not (length diagnostics == 0)) → b ≡ false →
    first ≡ true → diagnostics ≡ []
goes_on false diagnostics b is e t = cc
goes_on true diagnostics b is e t =
    nil_from_length diagnostics (eqb-true (length diagnostics) 0 (not_false (length diagnostics == 0) (sym is ∙ e)))

-- ---- one module

-- what the finder found is reported as it is
pub found_diagnosed : (ds : List FastCheckDiagnostic) → AllZip Diagnoses (map found ds) ds
found_diagnosed [] = tt
found_diagnosed (d ∷ ds) = (refl, found_diagnosed ds)

-- and the faults of the transform as diagnostics
pub faults_diagnosed : (info : EsModule) (fs : List Fault) (ds : List FastCheckDiagnostic) → AreDiagnosticsOf info fs ds →
    AllZip Diagnoses (map (transform_fault info) fs) ds
faults_diagnosed info [] [] h = tt
faults_diagnosed info [] (d ∷ ds) h = absurd h
faults_diagnosed info (f ∷ fs) [] h = absurd h
faults_diagnosed info (f ∷ fs) (d ∷ ds) h = (h.0, faults_diagnosed info fs ds h.1)

-- of these there are none exactly where nothing is wrong
pub nothing_diagnosed : (first : Bool) (info : EsModule) (fs : List Fault) → fs ≡ [] →
    AllZip Diagnoses (map (transform_fault info) (diagnosed first fs)) []
nothing_diagnosed false info [] e = tt
nothing_diagnosed true info [] e = tt
nothing_diagnosed first info (f ∷ fs) e = cc

pub no_transform_fault : (first : Bool) (info : EsModule) (fs : List Fault) (ds : List FastCheckDiagnostic) →
    AreDiagnosticsOf info (diagnosed first fs) ds → ds ≡ [] →
    fs ≡ []
no_transform_fault first info [] ds h e = refl
no_transform_fault false info (f ∷ fs) [] h e = absurd h
no_transform_fault true info (f ∷ fs) [] h e = absurd h
no_transform_fault first info (f ∷ fs) (d ∷ ds) h e = cc

pub faults_answered : (first : Bool) (info : EsModule) (fs : List Fault) (r : Made) (ds : Diagnostics) → r ≡ Err ds →
    IfErr r (λ d. AreDiagnosticsOf info (diagnosed first fs) d.items) → AllZip Diagnoses (map (transform_fault info) (diagnosed first fs)) ds.items
faults_answered first info fs (Ok made) ds e h = cc
faults_answered first info fs (Err d) ds e h =
    let same : d ≡ ds = cc in
    faults_diagnosed info (diagnosed first fs) ds.items
    (subst (λ (v : Diagnostics). AreDiagnosticsOf info (diagnosed first fs) v.items) same h)

-- what the finder found goes first
pub diagnosed_found : (ds : List FastCheckDiagnostic) (others : List PackageFault) (diagnostics : List FastCheckDiagnostic) →
    ds ≢ [] → diagnostics ≡ ds →
    AllZip Diagnoses (found_or ds others) diagnostics
diagnosed_found [] others diagnostics some e = absurd (some refl)
diagnosed_found (d ∷ ds) others diagnostics some e = subst (AllZip Diagnoses (map found (d ∷ ds))) (sym e) (found_diagnosed (d ∷ ds))

pub diagnosed_others : (ds : List FastCheckDiagnostic) (others : List PackageFault) (diagnostics : List FastCheckDiagnostic) → ds ≡ [] →
    AllZip Diagnoses others diagnostics →
    AllZip Diagnoses (found_or ds others) diagnostics
diagnosed_others [] others diagnostics e h = h
diagnosed_others (d ∷ ds) others diagnostics e h = cc

-- ranges without diagnostics
abbrev pub without : PublicRanges → PublicRanges
without public = record public { diagnostics = [] }

without_same : (public : PublicRanges) → public.diagnostics ≡ [] → without public ≡ public
without_same public e = ap {B = PublicRanges} (λ ds. record public { diagnostics = ds }) (sym e)

-- what is left when none are taken out
pub left_same : (public left : PublicRanges) (taken : Diagnostics) → taken.items ≡ public.diagnostics → left ≡ without public →
    taken.items ≡ [] →
    left ≡ public
left_same public left taken is rest e = rest ∙ without_same public (sym is ∙ e)

found_none : (ds : List FastCheckDiagnostic) (rs : List PackageFault) → ds ≡ [] → rs ≡ found_or ds rs
found_none [] rs e = refl
found_none (d ∷ ds) rs e = cc

-- what is wrong with a module of which the finder found nothing
pub answered_rest : (first : Bool) (graph : ModuleGraph) (root : RootSymbol) (m : PublicModule) (left : PublicRanges) (old new : List Answer)
    (r : Answered) →
    left ≡ m.1 → m.1.diagnostics ≡ [] →
    IfOk r (λ w. IsModuleAnswer graph (faults_in_tree first graph left (found_module root m.0)) (with_tree (m.0, left) (found_module root m.0)) w.items old new) →
    IfOk r (λ w. IsModuleAnswer graph (module_faults first graph root m) (with_tree m (found_module root m.0)) w.items old new)
answered_rest first graph root m left old new r same none h =
    let o = found_module root m.0 in
    let P : List PackageFault → PublicRanges → Type 0 = λ rs public. IfOk r (λ w. IsModuleAnswer graph rs (with_tree (m.0, public) o) w.items old new) in
    let at : P (faults_in_tree first graph m.1 o) m.1 =
    subst (λ (public : PublicRanges). P (faults_in_tree first graph public o) public) same h in
    subst (λ (rs : List PackageFault). P rs m.1) (found_none m.1.diagnostics (faults_in_tree first graph m.1 o) none) at

-- ---- one module more

pub more_faults : (first : Bool) (graph : ModuleGraph) (root : RootSymbol) (ms : List PublicModule) (m : PublicModule) →
    (first ≡ true → package_faults first graph root ms ≡ []) →
    package_faults first graph root (ms ++ m ∷ []) ≡ package_faults first graph root ms ++ module_faults first graph root m
more_faults false graph root ms m h =
    let f = module_faults false graph root in
    flat_map-append f ms (m ∷ []) ∙ ap (λ rs. flat_map f ms ++ rs) (append-nil (f m))
more_faults true graph root ms m h =
    let f = module_faults true graph root in
    ap first_list (map-append f ms (m ∷ [])) ∙ (first_last (map f ms) (f m) (h refl) ∙ sym (ap (λ rs. rs ++ f m) (h refl)))

-- once something is wrong, what follows plays no part
faults_stop : (graph : ModuleGraph) (root : RootSymbol) (ms more : List PublicModule) → package_faults true graph root ms ≢ [] →
    package_faults true graph root (ms ++ more) ≡ package_faults true graph root ms
faults_stop graph root ms more some =
    let f = module_faults true graph root in
    ap first_list (map-append f ms more) ∙ first_front (map f ms) (map f more) some

-- what is reported of some modules, and of one more
pub diagnosed_more : (first : Bool) (graph : ModuleGraph) (root : RootSymbol) (ms : List PublicModule) (m : PublicModule)
    (old more new : List FastCheckDiagnostic) →
    (first ≡ true → old ≡ []) → AllZip Diagnoses (package_faults first graph root ms) old →
    AllZip Diagnoses (module_faults first graph root m) more →
    new ≡ old ++ more → AllZip Diagnoses (package_faults first graph root (ms ++ m ∷ [])) new
diagnosed_more first graph root ms m old more new none before one is =
    let faults = more_faults first graph root ms m (λ e. left_empty Diagnoses _ old before (none e)) in
    subst (λ rs. AllZip Diagnoses rs new) (sym faults)
    (subst (AllZip Diagnoses _) (sym is) (both_append Diagnoses _ old _ more before one))

-- where the first fault is wanted alone, what is reported of some modules is all
pub diagnosed_all : (first : Bool) (graph : ModuleGraph) (root : RootSymbol) (ms more all : List PublicModule)
    (diagnostics : List FastCheckDiagnostic) →
    first ≡ true → diagnostics ≢ [] → ms ++ more ≡ all → AllZip Diagnoses (package_faults first graph root ms) diagnostics →
    AllZip Diagnoses (package_faults first graph root all) diagnostics
diagnosed_all false graph root ms more all diagnostics is some e h = cc
diagnosed_all true graph root ms more all diagnostics is some e h =
    let none : package_faults true graph root ms ≢ [] = λ n. some (right_empty Diagnoses _ diagnostics h n) in
    subst (λ rs. AllZip Diagnoses rs diagnostics) (sym (faults_stop graph root ms more none) ∙ ap (package_faults true graph root) e) h

-- ---- skeletons

pub shows_none : (graph : ModuleGraph) (answers : List Answer) → ShowsMore graph [] answers answers
shows_none graph answers modules h = subst (λ ms. AllZip (IsShown graph) ms answers) (sym (append-nil modules)) h

pub shows_one : (graph : ModuleGraph) (m : TreeModule) (old new : List Answer) (answer : Answer) → new ≡ old ++ answer ∷ [] →
    IsShown graph m answer →
    ShowsMore graph (m ∷ []) old new
shows_one graph m old new answer is one modules h =
    subst (AllZip (IsShown graph) _) (sym is) (both_append (IsShown graph) modules old (m ∷ []) (answer ∷ []) h (one, tt))

-- a module that was transformed
pub shows_tree : (graph : ModuleGraph) (m : TreeModule) (r : Made) (made : FastCheckModule) (old new : List Answer) → r ≡ Ok made →
    IfOk r (λ x. x.program ≡ skeleton graph m.info m.public) →
    IfOk r (λ x. IsSkeleton (bindings_of m.info) (is_declaration m.info.source.media_type) x.program) →
    IfOk r (λ x. x.comments ≡ comments graph m.info m.public) →
    IfOk r (λ x. x.module_info.sources.items ≡ sources graph m.info m.public) →
    new ≡ old ++ (m.specifier, Ok made) ∷ [] → ShowsMore graph (m ∷ []) old new
shows_tree graph m (Err ds) made old new e p g k d is = cc
shows_tree graph m (Ok x) made old new e p g k d is =
    let same : x ≡ made = cc in
    let one : IsSkeletonOf graph m x = record { program = p; grammar = g; kept = k; depends = d } in
    shows_one graph m old new (m.specifier, Ok made) is (refl, subst (IsSkeletonOf graph m) same one)

-- a module that was found
pub answered_found : (first : Bool) (graph : ModuleGraph) (m : PublicModule) (info : EsModule) (o : Option AnyModuleInfo) (old new : List Answer)
    (r : Answered) →
    Some (Esm info) ≡ o →
    IfOk r (λ w. IsModuleAnswer graph (faults_in_tree first graph m.1 (Some (Esm info))) (with_tree m (Some (Esm info))) w.items old new) →
    IfOk r (λ w. IsModuleAnswer graph (faults_in_tree first graph m.1 o) (with_tree m o) w.items old new)
answered_found first graph m info o old new r e h =
    subst (λ (x : Option AnyModuleInfo). IfOk r (λ w. IsModuleAnswer graph (faults_in_tree first graph m.1 x) (with_tree m x) w.items old new)) e h

-- the modules with a tree of some modules, and of one more
trees_more : (root : RootSymbol) (ms : List PublicModule) (m : PublicModule) →
    tree_modules root (ms ++ m ∷ []) ≡ tree_modules root ms ++ with_tree m (found_module root m.0)
trees_more root ms m =
    let f : PublicModule → List TreeModule = λ x. with_tree x (found_module root x.0) in
    flat_map-append f ms (m ∷ []) ∙ ap (λ rs. flat_map f ms ++ rs) (append-nil (f m))

pub shows_more : (graph : ModuleGraph) (root : RootSymbol) (ms : List PublicModule) (m : PublicModule) (first middle last : List Answer) →
    ShowsMore graph (tree_modules root ms) first middle → ShowsMore graph (with_tree m (found_module root m.0)) middle last →
    ShowsMore graph (tree_modules root (ms ++ m ∷ [])) first last
shows_more graph root ms m first middle last h k modules shown =
    let t = tree_modules root ms in
    let more = with_tree m (found_module root m.0) in
    let joined = append_assoc modules t more ∙ sym (ap (λ ts. modules ++ ts) (trees_more root ms m)) in
    subst (λ ts. AllZip (IsShown graph) ts last) joined (k (modules ++ t) (h modules shown))

full_list : {A : Type 0} (x : A) (xs : List A) → x ∷ xs ≡ [] → ⊥
full_list x xs e = cc

-- where something is wrong, the answers that were there stay
shows_cut : (graph : ModuleGraph) (root : RootSymbol) (front front_after : List PublicModule) (begin before after kept : List Answer)
    (answered : ℕ) →
    front_after ≡ front → kept ≡ take answered after → answered ≡ length before → take (length before) after ≡ before →
    ShowsMore graph (tree_modules root front) begin before → ShowsMore graph (tree_modules root front_after) begin kept
shows_cut graph root front front_after begin before after kept answered same cut at stay shown =
    let is : kept ≡ before = cut ∙ (ap (λ n. take n after) at ∙ stay) in
    subst (λ (answers : List Answer). ShowsMore graph (tree_modules root front_after) begin answers) (sym is)
    (subst (λ xs. ShowsMore graph (tree_modules root xs) begin before) (sym same) shown)

-- where nothing was answered before, the answers show just the modules
pub all_shown : (graph : ModuleGraph) (modules : List TreeModule) (begin answers : List Answer) → begin ≡ [] →
    ShowsMore graph modules begin answers →
    AllZip (IsShown graph) modules answers
all_shown graph modules begin answers start shows = shows [] (subst (AllZip (IsShown graph) []) (sym start) tt)

-- the modules before the first with something wrong, after one module more
pub shows_turn : (first : Bool) (graph : ModuleGraph) (root : RootSymbol) (ms : List PublicModule) (m : PublicModule)
    (begin before after kept : List Answer) (answered : ℕ) (old more new : List FastCheckDiagnostic) →
    AllZip Diagnoses (package_faults first graph root ms) old → AllZip Diagnoses (module_faults first graph root m) more →
    new ≡ old ++ more →
    (new ≡ [] → kept ≡ after) → (new ≢ [] → kept ≡ take answered after) → answered ≡ length before → take (length before) after ≡ before →
    ShowsMore graph (tree_modules root (sound_front first graph root ms)) begin before →
    (more ≡ [] → ShowsMore graph (with_tree m (found_module root m.0)) before after) →
    ShowsMore graph (tree_modules root (sound_front first graph root (ms ++ m ∷ []))) begin kept
shows_turn first graph root ms m begin before after kept answered [] [] new h k is same cut at stay shown one =
    let none = left_empty Diagnoses _ [] h refl in
    let front = front_more first graph root ms m none (left_empty Diagnoses _ [] k refl) in
    let all = shows_more graph root ms m begin before after
    (subst (λ xs. ShowsMore graph (tree_modules root xs) begin before) (front_all first graph root ms none) shown) (one refl) in
    subst (λ (answers : List Answer). ShowsMore graph (tree_modules root (sound_front first graph root (ms ++ m ∷ []))) begin answers)
    (sym (same is))
    (subst (λ xs. ShowsMore graph (tree_modules root xs) begin after) (sym front) all)
shows_turn first graph root ms m begin before after kept answered [] (d ∷ ds) new h k is same cut at stay shown one =
    let none = left_empty Diagnoses _ [] h refl in
    let some : module_faults first graph root m ≢ [] = λ e. full_list d ds (right_empty Diagnoses _ (d ∷ ds) k e) in
    let front = front_last first graph root ms m none some ∙ sym (front_all first graph root ms none) in
    shows_cut graph root _ _ begin before after kept answered front (cut (λ e. full_list d ds (sym is ∙ e))) at stay shown
shows_turn first graph root ms m begin before after kept answered (o ∷ os) more new h k is same cut at stay shown one =
    let some : package_faults first graph root ms ≢ [] = λ e. full_list o os (right_empty Diagnoses _ (o ∷ os) h e) in
    shows_cut graph root _ _ begin before after kept answered (front_stop first graph root ms (m ∷ []) some)
    (cut (λ e. full_list o (os ++ more) (sym is ∙ e))) at stay shown

-- once something is wrong, the modules that follow play no part
pub shows_all : (first : Bool) (graph : ModuleGraph) (root : RootSymbol) (ms more all : List PublicModule) (begin kept : List Answer)
    (diagnostics : List FastCheckDiagnostic) → diagnostics ≢ [] → ms ++ more ≡ all →
    AllZip Diagnoses (package_faults first graph root ms) diagnostics →
    ShowsMore graph (tree_modules root (sound_front first graph root ms)) begin kept →
    ShowsMore graph (tree_modules root (sound_front first graph root all)) begin kept
shows_all first graph root ms more all begin kept diagnostics some e h shown =
    let stop = front_stop first graph root ms more (λ n. some (right_empty Diagnoses _ diagnostics h n)) in
    subst (λ xs. ShowsMore graph (tree_modules root xs) begin kept) (sym stop ∙ ap (sound_front first graph root) e) shown

-- ---- a package

pub package_found : (graph : ModuleGraph) (root : RootSymbol) (ranges : PackagePublicRanges) (first : Bool)
    (begin skeletons answers : List Answer)
    (diagnostics diagnosed_of : List FastCheckDiagnostic) → begin ≡ [] → diagnosed_of ≡ diagnostics →
    AllZip Diagnoses (package_faults first graph root ranges.module_ranges.entries) diagnostics →
    ShowsMore graph (tree_modules root (sound_front first graph root ranges.module_ranges.entries)) begin skeletons →
    (diagnosed_of ≡ [] → answers ≡ skeletons) → (diagnosed_of ≢ [] → AllZip (IsRefused diagnosed_of) ranges.entrypoints.keys answers) →
    IsFoundAnswer graph root ranges first answers
package_found graph root ranges first begin skeletons answers diagnostics diagnosed_of start is diagnoses shows same refused =
    let ms = ranges.module_ranges.entries in record {
      shown = λ e. subst (AllZip (IsShown graph) (tree_modules root ms)) (sym (same (is ∙ right_empty Diagnoses _ diagnostics diagnoses e)))
          (subst (λ xs. AllZip (IsShown graph) (tree_modules root xs) skeletons) (front_all first graph root ms e)
          (all_shown graph _ begin skeletons start shows));
      refused = λ some. record {
        list = diagnosed_of;
        diagnoses = subst (AllZip Diagnoses (package_faults first graph root ms)) (sym is) diagnoses;
        each = refused (λ e. some (left_empty Diagnoses _ diagnostics diagnoses (sym is ∙ e)));
      };
    }

-- a package is answered by what is found, where no module of it is cached, and else by these
pub by_found : (graph : ModuleGraph) (root : RootSymbol) (ranges : PackagePublicRanges) (first : Bool) (answers : List Answer) (b : Bool) →
    b ≡ (vec_len ranges.cache_items == 0) → b ≡ true → IsFoundAnswer graph root ranges first answers →
    IsPackageAnswer graph root ranges first answers
by_found graph root ranges first answers b is e h = record {
  used = λ some. absurd (some (empty_vec ranges.cache_items b is e));
  found = λ _. h;
}

pub by_used : (graph : ModuleGraph) (root : RootSymbol) (ranges : PackagePublicRanges) (first : Bool) (answers : List Answer) (b : Bool) →
    b ≡ (vec_len ranges.cache_items == 0) → b ≡ false → AllZip IsUsedAnswer ranges.cache_items.items answers →
    IsPackageAnswer graph root ranges first answers
by_used graph root ranges first answers b is e h = record {
  used = λ _. h;
  found = λ none. absurd (full_vec ranges.cache_items b is e none);
}

-- ---- what is public is declared

pub owns_next : (root : RootSymbol) (ms : List PublicModule) (m : PublicModule) (rest all : List PublicModule) → ms ++ m ∷ rest ≡ all →
    OwnsAll root all → OwnsModule root m
owns_next root ms m rest all e h =
    let f : PublicModule → List TreeModule = λ x. with_tree x (found_module root x.0) in
    let split = flat_map-append f ms (m ∷ rest) in
    let later : AllByRecursion OwnsPublic (flat_map f ms ++ flat_map f (m ∷ rest)) =
    subst (AllByRecursion OwnsPublic) (sym (ap (flat_map f) e) ∙ split) h in
    all_front OwnsPublic (f m) (flat_map f rest) (all_back OwnsPublic (flat_map f ms) (flat_map f (m ∷ rest)) later)
