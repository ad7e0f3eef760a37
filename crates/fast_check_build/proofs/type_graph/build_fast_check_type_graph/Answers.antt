use Rattle.std.proofs.Common.{refl}
use borrow.Pointer.MutKind.{last_is}
use Rattle.fast_check_build.proofs.LentBack.{at_exit, at_none}
use Rattle.fast_check_build.proofs.type_graph.build_fast_check_type_graph.Goals as goal

pub returns-in-Some-clause-built_with : goal.returns-in-Some-clause-built_with
returns-in-Some-clause-built_with g c = rw c.in-Some.is (at_exit _ _ _ _ (last_is _ _ _ refl) c.build_with.ensures.built)

pub returns-in-Some-clause-keys : goal.returns-in-Some-clause-keys
returns-in-Some-clause-keys g c = rw c.in-Some.is (at_exit _ _ _ _ (last_is _ _ _ refl) c.build_with.ensures.keys)

pub returns-in-None-clause-built_with : goal.returns-in-None-clause-built_with
returns-in-None-clause-built_with g c = rw c.in-None.is (at_none _ _)

pub returns-in-None-clause-keys : goal.returns-in-None-clause-keys
returns-in-None-clause-keys g c = rw c.in-None.is (at_none _ _)
