-- Inner: no contract of a public call cites what stands here.
-- What is asked below a name where a path goes on there.
use Rattle.std.specs.Prelude.{◌&&◌}
use Rattle.fast_check_finder_lattice.specs.Names.{Path, NameSet, is_touched}
use Rattle.fast_check_finder_demands.specs.asked.Demands.{begins}

-- the path is touched, with its beginnings
abbrev pub touched_below : Path → NameSet
touched_below p part q = is_touched part && begins q p
