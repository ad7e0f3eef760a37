use Rattle.std.proofs.Common.{◌≡◌, take, fold}
use Rattle.fast_check_cases_cache.specs.Hash.{hash_more}
use Rattle.fast_check_cases_cache.proofs.hash.text.Given as goal

abbrev pub invariant-loop-byte : goal.invariant-loop-byte
invariant-loop-byte l = l.hash ≡ fold hash_more l.initial.hash (take l.byte-index l.text)
