use Rattle.std.proofs.Common.{rules}
use Rattle.fast_check_tables_packages.specs.Package.{nv_of}
use Rattle.fast_check_finder_ranges.proofs.entries.Named.{kept_more}
use Rattle.fast_check_finder_ranges.proofs.entries.members.MemberEntries.insert.Goals as goal

pub returns : goal.returns
returns c = λ members named none are kept.
    kept_more c.args.self.now (record { by_name = c.insert.new.self }) c.in_ok-name.name (nv_of c.args.nv.now) c.args.urls (search rules)
    c.in_ok-insert.ensures.updates.0 members c.args.member.now named none are kept
