use Rattle.std.proofs.Common.{◌≡◌, ◌∙◌, sym, subst, List, ℕ, map, rules}
use Rattle.std.specs.Cmp.Lexicographic.{bytes_decides}
use Rattle.std.proofs.lemmas.List.{map-id}
use Rattle.std.proofs.lemmas.Map.Iter.{iter_end, btree_map_turn}
use Rattle.url.specs.Parts.{serialize}
use Rattle.fast_check_finder_ranges.specs.findings.Yields.{Yield}
use Rattle.fast_check_finder_ranges.specs.Answers.{about_module, lookup_text, IsModuleAnswer}
use Rattle.fast_check_finder_ranges.specs.Parts.{is_text, AreParts, IsAnswerOf}
use Rattle.fast_check_finder_ranges.proofs.Joined.{answered}
use Rattle.fast_check_finder_ranges.proofs.Maps.{text_one, text_total}
use Rattle.fast_check_finder_ranges.proofs.Converted.{convert_none, convert_more, convert_all}
use Rattle.fast_check_finder_ranges.proofs.modules.all_module_ranges.Goals as goal

pub loop-specifier-init : goal.loop-specifier-init
loop-specifier-init c =
    convert_none text_total is_text text_one IsAnswerOf c.args.modules.entries c.new-made.result.entries c.new-made.ensures.empty

pub loop-specifier-preserved : goal.loop-specifier-preserved
loop-specifier-preserved c =
    let given = c.into_iter-specifier-iterator.ensures.into_iter_gives in
    let turn =
    btree_map_turn
    (λ p. p) c.loop-specifier.yielded c.into_iter-specifier-iterator.result c.loop-specifier.specifier-iterator c.next.new.self
    c.next.result (c.in-Some.specifier, c.in-Some.parts) c.loop-specifier.yielded_by c.in-Some.is c.next.ensures.steps
    text_total c.args.modules given.0 given.5 in
    convert_more text_total is_text text_one IsAnswerOf c.args.modules.entries c.loop-specifier.yielded c.in-Some.specifier
    c.in-Some.parts c.in_ok-ranges.ranges c.loop-specifier.made c.insert.new.self turn.1 c.in_ok-insert.ensures.updates
    (λ t yes. subst (λ (u : List ℕ). (ys : List Yield) → AreParts ys c.in-Some.parts → IsModuleAnswer u ys c.in_ok-ranges.ranges)
    (sym ((bytes_decides t (serialize c.in-Some.specifier)).0 yes))
    c.in_ok-ranges.ensures)
    c.loop-specifier.invariant

pub loop-specifier-preserved-in_ok-insert : goal.loop-specifier-preserved-in_ok-insert
loop-specifier-preserved-in_ok-insert c =
    let given = c.into_iter-specifier-iterator.ensures.into_iter_gives in
    let turn =
    btree_map_turn
    (λ p. p) c.loop-specifier.yielded c.into_iter-specifier-iterator.result c.loop-specifier.specifier-iterator c.next.new.self
    c.next.result (c.in-Some.specifier, c.in-Some.parts) c.loop-specifier.yielded_by c.in-Some.is c.next.ensures.steps
    text_total c.args.modules given.0 given.5 in
    convert_more text_total is_text text_one IsAnswerOf c.args.modules.entries c.loop-specifier.yielded c.in-Some.specifier
    c.in-Some.parts c.in_ok-ranges.ranges c.loop-specifier.made c.insert.new.self turn.1 c.in_ok-insert.ensures.updates
    (λ t yes. subst (λ (u : List ℕ). (ys : List Yield) → AreParts ys c.in-Some.parts → IsModuleAnswer u ys c.in_ok-ranges.ranges)
    (sym ((bytes_decides t (serialize c.in-Some.specifier)).0 yes))
    c.in_ok-ranges.ensures)
    c.loop-specifier.invariant

pub returns : goal.returns
returns c = λ ys a t.
    let all : map (λ p. p) c.loop-specifier.yielded ≡ c.args.modules.entries = search (rules, iter_end) in
    answered t (about_module t ys) (lookup_text t c.args.modules.entries) (lookup_text t c.loop-specifier.made.entries)
    (convert_all text_total is_text text_one IsAnswerOf c.args.modules.entries c.loop-specifier.yielded c.loop-specifier.made.entries
    (sym (map-id c.loop-specifier.yielded) ∙ all) (λ u. tt) c.loop-specifier.invariant t)
    (a t)
