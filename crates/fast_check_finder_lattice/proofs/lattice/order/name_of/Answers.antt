use Rattle.std.proofs.Common.{rules, ◌≡◌, ◌∙◌, ◌<◌, ◌≤◌, sym, ap, length, get_or, string_bytes}
use Rattle.fast_check_finder_lattice.specs.Order.{Entry}
use Rattle.fast_check_finder_lattice.proofs.Places.{name_is, name_past}
use Rattle.fast_check_finder_lattice.proofs.lattice.order.name_of.Goals as goal

pub returns-in-None : goal.returns-in-None
returns-in-None c =
    let past : length c.args.names.now ≤ c.args.place = search rules in
    name_past c.args.names.now c.args.place past

pub returns-in-Some : goal.returns-in-Some
returns-in-Some c =
    let es = c.args.names.now in
    let d : Entry = c.in-Some.field-0.now in
    let within : c.args.place < length es = search rules in
    let is : d ≡ get_or es c.args.place d = search rules in
    c.as_str.ensures.value ∙ (ap (λ (e : Entry). string_bytes e.0) is ∙ sym (name_is es c.args.place d within))
