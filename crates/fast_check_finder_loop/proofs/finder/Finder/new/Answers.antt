use Rattle.std.proofs.Common.{ap, refl, subst, List, [], map}
use Rattle.std.specs.List.{Contains}
use Rattle.fast_check_tables_packages.specs.Package.{nv_of}
use Rattle.fast_check_finder_demands.proofs.asked.Maps.{none_in}
use Rattle.fast_check_finder_loop.specs.declared.demand.SymbolAt.{SymbolAt}
use Rattle.fast_check_finder_loop.specs.Finder.{Modules, entered_nv}
use Rattle.fast_check_finder_loop.proofs.Followed.{once_same}
use Rattle.fast_check_finder_loop.proofs.Once.{once_none}
use Rattle.fast_check_finder_loop.proofs.finder.Finder.new.Goals as goal

pub returns-clause-sound : goal.returns-clause-sound
returns-clause-sound c g r = record {
  modules = λ e h. absurd (none_in e (subst (λ (ms : Modules). Contains ms e) c.new-3.ensures.empty h));
  symbols = λ x h. absurd (none_in x (subst (λ (xs : List SymbolAt). Contains xs x) c.new-4.ensures.items h));
  once = once_same (map nv_of c.new.result) [] 0 0 (map entered_nv c.new-5.result.items) [] (ap (map nv_of) c.new.ensures) refl
      (ap (map entered_nv) c.new-5.ensures.items) once_none;
}
