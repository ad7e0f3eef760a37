use lib.ListN.{get_or}
use Rattle.std.proofs.Common.{◌≡◌, refl, arith, ap, sym, ◌∙◌, ◌++◌, ◌∷◌, [], append-nil, true≢false}
use Rattle.std.proofs.lemmas.List.{take_all}
use Rattle.std.proofs.lemmas.Result.{IfOk-weaker}
use Rattle.fast_check_tree_comments.specs.Kept.{without_leading}
use Rattle.fast_check_tree_forms_programs.specs.ModuleDecls.{export_decl}
use Rattle.fast_check_tree_helpers.specs.ranges.Ranges.{range_of_node}
use Rattle.fast_check_transform_statements.specs.skeleton.KeptComments.{removed_from, start_look, starts_in_body, without_all_leading}
use Rattle.fast_check_tree_syntax.specs.Part.{seen}
use Rattle.fast_check_tree_syntax.specs.Shape.{parts}
use Rattle.fast_check_tree_syntax.specs.Height.{height, height_at_most}
use Rattle.fast_check_transform_statements.proofs.class_proofs.Nothing.{none_of}
use Rattle.fast_check_transform_imports.specs.module_facts.ModuleFacts.{facts_of}
use Rattle.fast_check_transform_imports.specs.module_facts.Kept.{as_list}
use Rattle.fast_check_transform_module.proofs.ByRule.{variables, functions, classes, standing, namespaces, using_stays, undeclared}
use Rattle.fast_check_transform_module.proofs.ByRule.{declared, no_export, made_export, import_export, default_export, refused, silent}
use Rattle.fast_check_transform_module.proofs.ByRule.{no_items, one_more_item, one_more_assigned, all_items, with_namespaces}
use Rattle.fast_check_transform_module.proofs.ByRule.{assigned_is, same_properties, more_properties, all_properties}
use Rattle.fast_check_transform_statements.specs.skeleton.Rules.{is_assigned, item_rule}
use Rattle.fast_check_transform_module.proofs.Namespaces.{inside_at_most, refused_module, private_namespace, public_namespace}
use Rattle.fast_check_transform_statements.specs.skeleton.ModuleFacts.{ModuleFacts}
use Rattle.fast_check_transform_module.proofs.Namespaces.{nothing_refused, nothing_private, all_inside}
use Rattle.fast_check_transform_module.proofs.Removed.{item_lower, inside, below, none_in_body, below_nothing, below_declared, below_exported}
use Rattle.fast_check_transform_module.proofs.Removed.{without_append, removed_if_none, removed_if_some, removed_if_assigned, one_more}
use Rattle.fast_check_transform_module.proofs.items.+items.Goals as goal

-- ---- the items of a body

pub transform_items-transform_item-requires : goal.transform_items-transform_item-requires
transform_items-transform_item-requires t c =
    let item = seen c.read-item.result in
    let all = c.parts-item-items.result.now in
    let i = c.loop-item.item-index in
    let here : item ≡ get_or all i item = c.read-item.ensures ∙ (c.item-item.is ∙ ap (get_or all i) (sym c.read-item.ensures)) in
    let lower = item_lower (seen c.args.body) item all i c.loop-item-test.true c.parts-item-items.ensures here in
    (omega (arith, c.decreases, lower), (sym c.is_assigned.ensures ∙ c.if-is_assigned.false, c.loop-item.invariant.sources))

pub transform_items-loop-item-init : goal.transform_items-loop-item-init
transform_items-loop-item-init t c = record {
  answer = no_items (facts_of c.args.facts) c.new-items.ensures c.args.context.now.faults.items;
  properties = c.new-properties.ensures.items;
  comments = refl;
  sources = c.requires.sources;
}

pub transform_items-loop-item-preserved-then-is_assigned : goal.transform_items-loop-item-preserved-then-is_assigned
transform_items-loop-item-preserved-then-is_assigned t c =
    let facts = facts_of c.args.facts in
    let item = seen c.read-item.result in
    let all = c.parts-item-items.result.now in
    let i = c.loop-item.item-index in
    let here : item ≡ get_or all i item = c.read-item.ensures ∙ (c.item-item.is ∙ ap (get_or all i) (sym c.read-item.ensures)) in
    let rule = assigned_is (item_rule item) (sym c.is_assigned.ensures ∙ c.if-is_assigned.true) in
    let start = ap (λ r. r.start) c.range_of_node.ensures in
    let kept = c.in_ok-transform_assignment.ensures in
    record {
      answer =
          one_more_assigned facts all i item c.loop-item-test.true here rule c.of.ensures.expr c.loop-item.invariant.answer kept.answer;
      properties =
          more_properties facts all i item c.loop-item-test.true here rule c.of.ensures.expr c.loop-item.invariant.properties
          kept.properties;
      comments = c.remove_leading.ensures ∙ ((λ i. without_leading (start i) (c.loop-item.invariant.comments i))
          ∙ sym (one_more facts all i item ((range_of_node item).start ∷ []) c.args.context.now.comments c.loop-item-test.true here
          (removed_if_assigned facts item rule)));
      sources = c.loop-item.invariant.sources;
    }

pub transform_items-loop-item-preserved-in-None : goal.transform_items-loop-item-preserved-in-None
transform_items-loop-item-preserved-in-None t c =
    let facts = facts_of c.args.facts in
    let item = seen c.read-item.result in
    let start = ap (λ r. r.start) c.range_of_node-in-None.ensures in
    let kept = c.in_ok-transform_item.ensures in
    let all = c.parts-item-items.result.now in
    let i = c.loop-item.item-index in
    let here : item ≡ get_or all i item = c.read-item.ensures ∙ (c.item-item.is ∙ ap (get_or all i) (sym c.read-item.ensures)) in
    let starts = (range_of_node item).start ∷ inside facts item in
    record {
      answer = one_more_item facts all i item c.loop-item-test.true
          here c.loop-item.invariant.answer
          kept.answer (sym (append-nil c.loop-item.items) ∙ ap (λ o. c.loop-item.items ++ as_list o) (sym c.in-None.is));
      properties = same_properties facts all i item c.loop-item-test.true here
          (sym c.is_assigned.ensures ∙ c.if-is_assigned.false) c.loop-item.invariant.properties;
      comments = c.in_ok-remove_inside-in-None.ensures
          ∙ (ap (without_all_leading (inside facts item))
          (c.remove_leading-in-None.ensures ∙ (λ i. without_leading (start i)
          ((kept.comments ∙ ap (without_all_leading (below facts item)) c.loop-item.invariant.comments) i)))
          ∙ sym (one_more facts all i item (below facts item ++ starts) c.args.context.now.comments
          c.loop-item-test.true here
          (removed_if_none facts item (sym c.is_assigned.ensures ∙ c.if-is_assigned.false) kept.answer (ap as_list c.in-None.is))
          ∙ without_append (below facts item) starts _));
      sources = kept.sources;
    }

pub transform_items-loop-item-preserved : goal.transform_items-loop-item-preserved
transform_items-loop-item-preserved t c =
    let facts = facts_of c.args.facts in
    let item = seen c.read-item.result in
    let kept = c.in_ok-transform_item.ensures in
    let all = c.parts-item-items.result.now in
    let i = c.loop-item.item-index in
    let here : item ≡ get_or all i item = c.read-item.ensures ∙ (c.item-item.is ∙ ap (get_or all i) (sym c.read-item.ensures)) in
    record {
      answer = one_more_item facts all i item c.loop-item-test.true
          here c.loop-item.invariant.answer
          kept.answer (c.in_ok-push-in-Some.ensures.ok ∙ ap (λ o. c.loop-item.items ++ as_list o) (sym c.in-Some.is));
      properties = same_properties facts all i item c.loop-item-test.true here
          (sym c.is_assigned.ensures ∙ c.if-is_assigned.false) c.loop-item.invariant.properties;
      comments = c.in_ok-remove_inside-in-Some.ensures
          ∙ (ap (without_all_leading (inside facts item))
          (kept.comments ∙ ap (without_all_leading (below facts item)) c.loop-item.invariant.comments)
          ∙ sym (one_more facts all i item (below facts item ++ inside facts item)
          c.args.context.now.comments c.loop-item-test.true here (removed_if_some facts item kept.answer (ap as_list c.in-Some.is))
          ∙ without_append (below facts item) (inside facts item) _));
      sources = kept.sources;
    }

pub transform_items-returns : goal.transform_items-returns
transform_items-returns t c =
    let facts = facts_of c.args.facts in
    let i = c.loop-item.item-index in
    let last = c.loop-item-test.false in
    let items = c.parts-item-items.ensures in
    record {
      answer =
          with_namespaces facts (parts (seen c.args.body)) (all_items facts i last items c.loop-item.invariant.answer)
          (all_properties facts i last items c.loop-item.invariant.properties) c.in_ok-keep_namespaces.ensures c.in_ok-append.ensures;
      comments = c.loop-item.invariant.comments
          ∙ ap (λ ts. without_all_leading (removed_from facts ts) c.args.context.now.comments)
          (take_all i c.parts-item-items.result.now last ∙ items);
      sources = c.loop-item.invariant.sources;
    }

-- ---- namespaces

pub transform_namespace-transform_items-requires : goal.transform_namespace-transform_items-requires
transform_namespace-transform_items-requires t c = (
  omega (arith, c.decreases, inside_at_most (seen c.args.decl) (seen c.items_inside.result) c.items_inside.ensures),
  λ text other there. c.requires.sources text other there ∙ ap (λ (a : ModuleFacts). a.relative text) (sym c.inside.ensures),
)

pub transform_namespace-returns-in-Some : goal.transform_namespace-returns-in-Some
transform_namespace-returns-in-Some t c =
    let facts = facts_of c.args.facts in
    let decl = seen c.args.decl in
    let fault = sym c.module_fault.ensures ∙ c.in-Some.is in
    record {
      answer = refused_module facts c.args.place decl fault c.in_ok-push.ensures.items;
      comments = ap (λ starts. without_all_leading starts c.args.context.now.comments)
          (sym (nothing_refused facts c.args.place decl fault));
      sources = c.requires.sources;
    }

pub transform_namespace-returns-then-not-contains : goal.transform_namespace-returns-then-not-contains
transform_namespace-returns-then-not-contains t c =
    let facts = facts_of c.args.facts in
    let decl = seen c.args.decl in
    let fault = sym c.module_fault.ensures ∙ none_of c.module_fault.result (λ f e. c.in_default.not-Some f e) in
    let private = sym c.contains.ensures ∙ c.if-not-contains.true in
    record {
      answer = private_namespace facts c.args.place decl fault private c.args.context.now.faults.items;
      comments = ap (λ starts. without_all_leading starts c.args.context.now.comments)
          (sym (nothing_private facts c.args.place decl fault private));
      sources = c.requires.sources;
    }

pub transform_namespace-returns : goal.transform_namespace-returns
transform_namespace-returns t c =
    let facts = facts_of c.args.facts in
    let decl = seen c.args.decl in
    let fault = sym c.module_fault.ensures ∙ none_of c.module_fault.result (λ f e. c.in_default.not-Some f e) in
    let public = sym c.contains.ensures ∙ c.if-not-contains.false in
    let kept = c.in_ok-items.ensures in
    record {
      answer = public_namespace facts c.args.place decl fault public kept.answer c.inside.ensures c.items_inside.ensures
          c.in_ok-namespace_with.ensures;
      comments = kept.comments
          ∙ ap (λ starts. without_all_leading starts c.args.context.now.comments)
          (sym (all_inside facts c.args.place decl fault public c.inside.ensures c.items_inside.ensures));
      sources = λ text other there. kept.sources text other there ∙ ap (λ (a : ModuleFacts). a.relative text) c.inside.ensures;
    }

-- ---- declarations

pub transform_decl-returns-in-Variables : goal.transform_decl-returns-in-Variables
transform_decl-returns-in-Variables t c =
    let facts = facts_of c.args.facts in
    let decl = seen c.args.decl in
    IfOk-weaker c.transform_statement.result _ _
    (λ tree h. record {
      answer = variables facts c.args.place decl c.in-Variables.is h;
      comments = none_in_body facts c.args.place decl c.args.context.now.comments c.in-Variables.is refl;
      sources = c.requires.sources;
    }) c.transform_statement.ensures

pub transform_decl-returns-in-Function : goal.transform_decl-returns-in-Function
transform_decl-returns-in-Function t c =
    let facts = facts_of c.args.facts in
    let decl = seen c.args.decl in
    IfOk-weaker c.transform_public_function.result _ _
    (λ tree h. record {
      answer = functions facts c.args.place decl c.in-Function.is h;
      comments = none_in_body facts c.args.place decl c.args.context.now.comments c.in-Function.is refl;
      sources = c.requires.sources;
    }) c.transform_public_function.ensures

pub transform_decl-returns-in-Class : goal.transform_decl-returns-in-Class
transform_decl-returns-in-Class t c =
    let facts = facts_of c.args.facts in
    let decl = seen c.args.decl in
    IfOk-weaker c.transform_public_class.result _ _
    (λ tree h. record {
      answer = classes facts c.args.place decl c.in-Class.is h;
      comments = none_in_body facts c.args.place decl c.args.context.now.comments c.in-Class.is refl;
      sources = c.requires.sources;
    }) c.transform_public_class.ensures

pub transform_decl-returns-in-Using : goal.transform_decl-returns-in-Using
transform_decl-returns-in-Using t c =
    let facts = facts_of c.args.facts in
    let decl = seen c.args.decl in
    IfOk-weaker c.transform_using.result _ _
    (λ tree h. record {
      answer = using_stays facts c.args.place decl c.in-Using.is h;
      comments = none_in_body facts c.args.place decl c.args.context.now.comments c.in-Using.is refl;
      sources = c.requires.sources;
    }) c.transform_using.ensures

pub transform_decl-returns-in-Standing : goal.transform_decl-returns-in-Standing
transform_decl-returns-in-Standing t c =
    let facts = facts_of c.args.facts in
    let decl = seen c.args.decl in
    IfOk-weaker c.transform_standing.result _ _
    (λ tree h. record {
      answer = standing facts c.args.place decl c.in-Standing.is tree h c.args.context.now.faults.items;
      comments = none_in_body facts c.args.place decl c.args.context.now.comments c.in-Standing.is refl;
      sources = c.requires.sources;
    }) c.transform_standing.ensures

pub transform_decl-returns-in-Namespace : goal.transform_decl-returns-in-Namespace
transform_decl-returns-in-Namespace t c =
    let facts = facts_of c.args.facts in
    let decl = seen c.args.decl in
    IfOk-weaker c.transform_namespace.result _ _
    (λ tree h. record {
      answer = namespaces facts c.args.place decl c.in-Namespace.is h.answer;
      comments = h.comments ∙ ap (λ r. without_all_leading (starts_in_body start_look facts c.args.place decl r)
          c.args.context.now.comments) (sym c.in-Namespace.is);
      sources = h.sources;
    }) c.transform_namespace.ensures

pub transform_decl-returns-in-NoDeclaration : goal.transform_decl-returns-in-NoDeclaration
transform_decl-returns-in-NoDeclaration t c =
    let facts = facts_of c.args.facts in
    let decl = seen c.args.decl in
    record {
      answer = undeclared facts c.args.place decl c.in-NoDeclaration.is c.args.context.now.faults.items;
      comments = none_in_body facts c.args.place decl c.args.context.now.comments c.in-NoDeclaration.is refl;
      sources = c.requires.sources;
    }

-- ---- items

pub transform_item-transform_decl-requires-in-Exported : goal.transform_item-transform_decl-requires-in-Exported
transform_item-transform_decl-requires-in-Exported t c =
    (omega (arith, c.decreases, height_at_most (seen c.args.item) 1, ap height c.of.ensures.decl), c.requires.sources)

pub transform_item-returns-in-Declared : goal.transform_item-returns-in-Declared
transform_item-returns-in-Declared t c =
    let facts = facts_of c.args.facts in
    let item = seen c.args.item in
    let rule = sym c.item_rule.ensures ∙ c.in-Declared.is in
    IfOk-weaker c.transform_decl.result _ _
    (λ tree h. record {
      answer = declared facts item rule h.answer c.range_of_node.ensures;
      comments = below_declared facts item c.args.context.now.comments rule c.range_of_node.ensures h.comments;
      sources = h.sources;
    }) c.transform_decl.ensures

pub transform_item-returns-in_ok-into_tree-in-Some : goal.transform_item-returns-in_ok-into_tree-in-Some
transform_item-returns-in_ok-into_tree-in-Some t c =
    let facts = facts_of c.args.facts in
    let item = seen c.args.item in
    let rule = sym c.item_rule.ensures ∙ c.in-Exported.is in
    let of = c.of.ensures in
    let kept = c.in_ok-decl-in-Exported.ensures in
    record {
      answer = made_export facts item rule kept.answer of.span of.decl (ap as_list c.in-Some.is)
          (c.in_ok-into_tree-in-Some.ensures ∙ ap (λ s. export_decl s c.in-Some.decl) of.span);
      comments = below_exported facts item c.args.context.now.comments rule of.span of.decl kept.comments;
      sources = kept.sources;
    }

pub transform_item-returns-in-None : goal.transform_item-returns-in-None
transform_item-returns-in-None t c =
    let facts = facts_of c.args.facts in
    let item = seen c.args.item in
    let rule = sym c.item_rule.ensures ∙ c.in-Exported.is in
    let of = c.of.ensures in
    let kept = c.in_ok-decl-in-Exported.ensures in
    record {
      answer = no_export facts item rule kept.answer of.span of.decl (ap as_list c.in-None.is);
      comments = below_exported facts item c.args.context.now.comments rule of.span of.decl kept.comments;
      sources = kept.sources;
    }

pub transform_item-returns-in-ImportExport : goal.transform_item-returns-in-ImportExport
transform_item-returns-in-ImportExport t c =
    let facts = facts_of c.args.facts in
    let item = seen c.args.item in
    let rule = sym c.item_rule.ensures ∙ c.in-ImportExport.is in
    IfOk-weaker c.transform_import_export.result _ _
    (λ tree h. record {
      answer = import_export facts item rule tree (h c.requires.sources).0 c.args.context.now.faults.items;
      comments = below_nothing facts item c.args.context.now.comments rule refl;
      sources = (h c.requires.sources).1;
    }) c.transform_import_export.ensures

pub transform_item-returns-in-Default : goal.transform_item-returns-in-Default
transform_item-returns-in-Default t c =
    let facts = facts_of c.args.facts in
    let item = seen c.args.item in
    let rule = sym c.item_rule.ensures ∙ c.in-Default.is in
    IfOk-weaker c.transform_default_export.result _ _
    (λ tree h. record {
      answer = default_export facts item rule h;
      comments = below_nothing facts item c.args.context.now.comments rule refl;
      sources = c.requires.sources;
    }) c.transform_default_export.ensures

pub transform_item-returns-in-Refused : goal.transform_item-returns-in-Refused
transform_item-returns-in-Refused t c =
    let facts = facts_of c.args.facts in
    let item = seen c.args.item in
    let rule = sym c.item_rule.ensures ∙ c.in-Refused.is in
    IfOk-weaker c.refuse.result _ _
    (λ tree h. record {
      answer = refused facts item rule h;
      comments = below_nothing facts item c.args.context.now.comments rule refl;
      sources = c.requires.sources;
    }) c.refuse.ensures

pub transform_item-returns-in-Assigned : goal.transform_item-returns-in-Assigned
transform_item-returns-in-Assigned t c =
    absurd (true≢false (sym (ap is_assigned (sym c.item_rule.ensures ∙ c.in-Assigned.is)) ∙ c.requires.no_assignment))

pub transform_item-returns-in-Silent : goal.transform_item-returns-in-Silent
transform_item-returns-in-Silent t c =
    let facts = facts_of c.args.facts in
    let item = seen c.args.item in
    let rule = sym c.item_rule.ensures ∙ c.in-Silent.is in
    record {
      answer = silent facts item rule c.args.context.now.faults.items;
      comments = below_nothing facts item c.args.context.now.comments rule refl;
      sources = c.requires.sources;
    }
