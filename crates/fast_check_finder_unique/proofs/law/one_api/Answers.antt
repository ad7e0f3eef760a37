use Rattle.fast_check_finder_loop.specs.Rules.{followers}
use Rattle.fast_check_finder_loop.specs.Yields.{demand_yields}
use Rattle.fast_check_finder_unique.proofs.Alike.{yield_the_same}
use Rattle.fast_check_finder_unique.proofs.Example.{settled}
use Rattle.fast_check_finder_unique.proofs.law.one_api.Goals as goal

pub returns : goal.returns
returns c = record {
  law = λ k roots picks are_settled. yield_the_same (followers k) (demand_yields k) roots picks are_settled;
  of_one_export = λ k p url m root name x e. settled k p url m root name x e;
}
