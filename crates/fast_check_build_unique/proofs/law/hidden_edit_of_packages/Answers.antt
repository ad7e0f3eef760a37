use Rattle.fast_check_build_unique.proofs.Builds.{builds_alike}
use Rattle.fast_check_build_unique.proofs.Example.{two_versions}
use Rattle.fast_check_build_unique.proofs.Modules.{transforms_alike}
use Rattle.fast_check_build_unique.proofs.law.hidden_edit_of_packages.Goals as goal

pub returns : goal.returns
returns c = record {
  builds = λ k l roots renames moves first_alone answers_k answers_l differ built_k built_l versions.
      builds_alike k l roots renames moves first_alone answers_k answers_l differ built_k built_l versions;
  modules = λ k l roots renames moves found_k found_l step settled in_k in_l nv t m n e f a b d.
      transforms_alike k l roots renames moves found_k found_l step settled in_k in_l nv t m n e f a b d;
  of_two_versions = λ k l p url m n root_m root_n name x y renames moves h.
      two_versions k l p url m n root_m root_n name x y renames moves h;
}
