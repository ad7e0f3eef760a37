use Rattle.std.proofs.Common.{◌∙◌, sym, ap}
use Rattle.std.specs.BTreeSet.{BTreeSet}
use Rattle.std.specs.Option.{option_copied}
use Rattle.url.specs.Parts.{Parts}
use Rattle.fast_check_tables_packages.specs.Package.{nv_of}
use Rattle.fast_check_finder_ranges.specs.entries.Entries.{entered}
use Rattle.fast_check_finder_ranges.proofs.entries.Named.{first_of_name}
use Rattle.fast_check_finder_ranges.proofs.findings.Lists.{none_found}
use Rattle.fast_check_finder_ranges.proofs.entries.members.MemberEntries.of_member.Goals as goal

pub returns-in-Some-clause-entered : goal.returns-in-Some-clause-entered
returns-in-Some-clause-entered c = λ members named kept.
    kept c.args.nv.now.name c.in-Some.urls.now (sym c.get.ensures.value ∙ ap option_copied c.in-Some.is) c.args.member.now
    (first_of_name members (nv_of c.args.nv.now) c.args.member.now named (none_found c.args.member.now.version (sym c.is_some.ensures ∙ c.if-is_some.false)))
    ∙ ap (λ (urls : BTreeSet Parts). entered urls.keys) (sym c.in_ok-clone.ensures.cases)
