use Rattle.std.proofs.Common.{◌≡◌, ◌∙◌, sym, ap, subst, Bool, List, [], ◌∷◌, ◌++◌, append_assoc}
use Rattle.std.proofs.lemmas.Slice.Zip.{all_zipped_more}
use Rattle.fast_check_tables_packages.specs.declared.package.PackageNv.{PackageNv}
use Rattle.fast_check_tables_graph.specs.declared.graph.ModuleGraph.{ModuleGraph}
use Rattle.fast_check_tables_graph.specs.declared.root_symbol.RootSymbol.{RootSymbol}
use Rattle.fast_check_tables_cache.specs.declared.package_ranges.PackagePublicRanges.{PackagePublicRanges}
use Rattle.fast_check_build_answers.specs.Once.{IsAnsweredOnce, AreAnsweredOnce}
use Rattle.fast_check_build_answers.specs.declared.once.PackageAnswer.{PackageAnswer}
use Rattle.fast_check_build_answers.proofs.MorePackages.{owned_next}
use Rattle.fast_check_build_answers.proofs.once.answer_all_once.Goals as goal

-- one turn more: the packages that are answered, and their answers
turned : (graph : ModuleGraph) (root : RootSymbol) (first : Bool) (ps : List (PackageNv × PackagePublicRanges))
    (p : PackageNv × PackagePublicRanges) (left rest all : List (PackageNv × PackagePublicRanges)) (done answers : List PackageAnswer)
    (made : PackageAnswer) → ps ++ left ≡ all → left ≡ p ∷ rest →
    AreAnsweredOnce graph root first ps done → IsAnsweredOnce graph root first p.1 made → answers ≡ done ++ made ∷ [] →
    ((ps ++ p ∷ []) ++ rest ≡ all) × AreAnsweredOnce graph root first (ps ++ p ∷ []) answers
turned graph root first ps p left rest all done answers made e step h k is = (
  append_assoc ps (p ∷ []) rest ∙ (sym (ap (λ (es : List (PackageNv × PackagePublicRanges)). ps ++ es) step) ∙ e),
  subst (AreAnsweredOnce graph root first (ps ++ p ∷ [])) (sym is)
      (all_zipped_more (λ (q : PackageNv × PackagePublicRanges) (made : PackageAnswer). IsAnsweredOnce graph root first q.1 made) ps done p made h k),
)

pub answer_once-requires : goal.answer_once-requires
answer_once-requires c =
    owned_next c.args.input.root_symbol.now c.loop-package_ranges.yielded
    (c.in-Some.field-0-0, c.in-Some.package_ranges) c.next.new.self c.args.ranges.entries
    (sym (ap (λ es. c.loop-package_ranges.yielded ++ es) c.in-Some.ensures.steps) ∙ c.loop-package_ranges.invariant.all) c.requires

pub loop-package_ranges-preserved-in_ok-push : goal.loop-package_ranges-preserved-in_ok-push
loop-package_ranges-preserved-in_ok-push c =
    let t = turned c.args.input.graph.now c.args.input.root_symbol.now c.args.input.options.now.should_error_on_first_diagnostic
    c.loop-package_ranges.yielded (c.in-Some.field-0-0, c.in-Some.package_ranges) _ c.next.new.self c.args.ranges.entries
    c.loop-package_ranges.answers.items c.push.new.self.items c.in_ok-answer_once.field-0
    c.loop-package_ranges.invariant.all c.in-Some.ensures.steps c.loop-package_ranges.invariant.answered
    c.in_ok-answer_once.ensures c.in_ok-push.ensures.items in
    record { all = t.0; answered = t.1 }

pub loop-package_ranges-preserved : goal.loop-package_ranges-preserved
loop-package_ranges-preserved c =
    let t = turned c.args.input.graph.now c.args.input.root_symbol.now c.args.input.options.now.should_error_on_first_diagnostic
    c.loop-package_ranges.yielded (c.in-Some.field-0-0, c.in-Some.package_ranges) _ c.next.new.self c.args.ranges.entries
    c.loop-package_ranges.answers.items c.push.new.self.items c.in_ok-answer_once.field-0
    c.loop-package_ranges.invariant.all c.in-Some.ensures.steps c.loop-package_ranges.invariant.answered
    c.in_ok-answer_once.ensures c.in_ok-push.ensures.items in
    record { all = t.0; answered = t.1 }
