-- Stage 2 and moves: what becomes of what is seen, moved, is what becomes of it, moved.
use Rattle.std.specs.Prelude.{◌≡◌, Bool, false, Option, Some, None, List, [], ◌∷◌, ◌++◌, map, refl, unwrap_or, option_map, if◌then◌else◌}
use Rattle.std.proofs.Common.{ap, ◌∙◌, sym}
use Rattle.std.proofs.lemmas.List.{map-append}
use Rattle.fast_check_tree_syntax.specs.declared.kind.Kind.{Kind}
use Rattle.fast_check_tree_syntax.specs.declared.kind.Kind.TheVariants.{List as List'}
use Rattle.fast_check_tree_syntax.specs.declared.source.SourceRange.{SourceRange}
use Rattle.fast_check_tree_syntax.specs.declared.source.SyntaxContext.{SyntaxContext}
use Rattle.fast_check_tree_syntax.specs.declared.tree.Tree.{Tree, Absent}
use Rattle.fast_check_tree_syntax.specs.Shape.{node, list}
use Rattle.fast_check_tree_syntax.specs.Moves.{Moves, Keeps, moved, moved_range}
use Rattle.fast_check_tree_syntax.proofs.Moved.{node_moved, absent_moved, flag_moved, range_moved, context_moved}
use Rattle.fast_check_tree_forms_classes.specs.Functions.{function as function_node}
use Rattle.fast_check_tree_forms_expressions.specs.Expressions.{arrow_expr}
use Rattle.fast_check_tree_forms_expressions.specs.Patterns.{assign_pat}
use Rattle.fast_check_tree_forms_programs.specs.ModuleDecls.{export_default_expr}
use Rattle.fast_check_tree_forms_programs.specs.Names.{Ident-span}
use Rattle.fast_check_tree_helpers.specs.ranges.Ranges.{range_of_node}
use Rattle.fast_check_tree_helpers.proofs.ranges.RangesMoved.{range_of_node_moved}
use Rattle.fast_check_tree_helpers.proofs.GlobalCallsMoved.{moved_scope}
use Rattle.fast_check_meaning_signatures.specs.declared.fault.Fault.{Fault}
use Rattle.fast_check_meaning_signatures.specs.declared.fault.FaultKind.TheVariants.{MissingExplicitType, UnsupportedDefaultExportExpr}
use Rattle.fast_check_meaning_signatures.specs.Functions.{return_type_missing}
use Rattle.fast_check_meaning_signatures.specs.NewNodes.{function_body, arrow_body}
use Rattle.fast_check_meaning_signatures.specs.Seen.{DeclaratorHead, DefaultHead, FunctionHead, ArrowHead, ClassHead, PropertyHead, Seen, written}
use Rattle.fast_check_meaning_signatures.specs.Seen.{round, listed, declarator, default, function, typed_arrow, valued_arrow, class, property}
use Rattle.fast_check_meaning_signatures.specs.Seen.{default_export, tested, faulty, refused, Seens, end, also, seens}
use Rattle.fast_check_meaning_signatures.specs.Answers.{Answer, fault_at, made, joined, settled, unless_stays, demanded, before, visited, with_tree}
use Rattle.fast_check_meaning_signatures.specs.Answers.{valued_declarator, signed_function, signed_arrow, kept_arrow, class_of, declared_property}
use Rattle.fast_check_meaning_signatures.specs.Answers.{valued_property, class_answer, property_answer, default_export_answer, round_answer}
use Rattle.fast_check_meaning_signatures.specs.Answers.{list_answer, declarator_answer, default_answer, function_answer, typed_arrow_answer}
use Rattle.fast_check_meaning_signatures.specs.Answers.{valued_arrow_answer, tested_answer, answer_to, parts_answer, items_answer, answer_of}
use Rattle.fast_check_meaning_signatures.proofs.NewNodesMoved.{function_body_moved, arrow_body_moved}
use Rattle.fast_check_meaning_signatures.proofs.MovedParts.{moved_declarator, moved_default, moved_function, moved_arrow, moved_class}
use Rattle.fast_check_meaning_signatures.proofs.MovedParts.{moved_property, moved_seen, moved_seens, seens_moved, range_field_moved, tree_chosen}

abbrev pub moved_fault : Moves → Fault → Fault
moved_fault m f = record { kind = f.kind; range = moved_range m f.range }

-- an answer of which this becomes of what stays
abbrev pub moved_by : {A : Type 0} → (A → A) → Moves → Answer A → Answer A
moved_by move m a = record { stays = move a.stays; faults = map (moved_fault m) a.faults }

-- of a tree that may stay, of the parts of a node, and of items
abbrev pub moved_answer : Moves → Answer (Option Tree) → Answer (Option Tree)
moved_answer m = moved_by (option_map (moved m)) m

abbrev moved_parts : Moves → Answer (Option (List Tree)) → Answer (Option (List Tree))
moved_parts m = moved_by (option_map (map (moved m))) m

abbrev pub moved_items : Moves → Answer (List Tree) → Answer (List Tree)
moved_items m = moved_by (map (moved m)) m

-- ---- what is made of answers

made_moved : {A B : Type 0} (m : Moves) (f f' : A → B) (p : A → A) (r : B → B) (a : Answer A) → f' (p a.stays) ≡ r (f a.stays) →
    made f' (moved_by p m a) ≡ moved_by r m (made f a)
made_moved m f f' p r a e = λ i. record { stays = e i; faults = map (moved_fault m) a.faults }

joined_moved : {A B C : Type 0} (m : Moves) (f f' : A → B → C) (p : A → A) (q : B → B) (r : C → C) (a : Answer A) (b : Answer B) →
    f' (p a.stays) (q b.stays) ≡ r (f a.stays b.stays) → joined f' (moved_by p m a) (moved_by q m b) ≡ moved_by r m (joined f a b)
joined_moved m f f' p q r a b e = λ i. record { stays = e i; faults = sym (map-append (moved_fault m) a.faults b.faults) i }

module _ (m : Moves) where
  or_absent_moved : (o : Option Tree) → unwrap_or (option_map (moved m) o) Absent ≡ moved m (unwrap_or o Absent)
  or_absent_moved None = sym (absent_moved m)
  or_absent_moved (Some t) = refl

  settled_moved : (a : Answer (Option Tree)) → settled (moved_answer m a) ≡ moved_by (moved m) m (settled a)
  settled_moved a = λ i. record { stays = or_absent_moved a.stays i; faults = map (moved_fault m) a.faults }

  unless_moved : (o : Option Tree) (fault : Fault) → unless_stays (option_map (moved m) o) (moved_fault m fault) ≡ map (moved_fault m)
      (unless_stays o fault)
  unless_moved None fault = refl
  unless_moved (Some t) fault = refl

  demanded_moved : (fault : Fault) (a : Answer (Option Tree)) → demanded (moved_fault m fault) (moved_answer m a) ≡ moved_by (moved m) m
      (demanded fault a)
  demanded_moved fault a = λ i. record {
    stays = or_absent_moved a.stays i;
    faults = (ap (λ fs. map (moved_fault m) a.faults ++ fs) (unless_moved a.stays fault)
        ∙ sym (map-append (moved_fault m) a.faults (unless_stays a.stays fault))) i;
  }

  next_moved : (t : Tree) (o : Option (List Tree)) →
      option_map (λ ts. moved m t ∷ ts) (option_map (map (moved m)) o) ≡ option_map (map (moved m)) (option_map (λ ts. t ∷ ts) o)
  next_moved t None = refl
  next_moved t (Some ts) = refl

  before_moved : (o : Option Tree) (faults : List Fault) (rest : Answer (Option (List Tree))) →
      before (option_map (moved m) o) (map (moved_fault m) faults) (moved_parts m rest) ≡ moved_parts m (before o faults rest)
  before_moved None faults rest = refl
  before_moved (Some t) faults rest =
      λ i. record { stays = next_moved t rest.stays i; faults = sym (map-append (moved_fault m) faults rest.faults) i }

  with_tree_moved : (o : Option Tree) (ts : List Tree) → with_tree (option_map (moved m) o) (map (moved m) ts) ≡ map (moved m)
      (with_tree o ts)
  with_tree_moved None ts = refl
  with_tree_moved (Some t) ts = refl

  round_moved : (kind : Kind) (o : Option (List Tree)) → option_map (node kind) (option_map (map (moved m)) o) ≡ option_map (moved m)
      (option_map (node kind) o)
  round_moved kind None = refl
  round_moved kind (Some ts) = ap Some (sym (node_moved m kind ts))

-- ---- nodes

module _ (m : Moves) (ok : Keeps m) where
  valued_declarator_moved : (d : DeclaratorHead) (value : Tree) →
      moved m (valued_declarator d value) ≡ valued_declarator (moved_declarator m d) (moved m value)
  valued_declarator_moved d value = simp (node_moved, range_moved, flag_moved, absent_moved)

  assign_pat_moved : (span : SourceRange) (left right : Tree) → moved m (assign_pat span left right) ≡
      assign_pat (moved_range m span) (moved m left) (moved m right)
  assign_pat_moved span left right = simp (node_moved, range_moved)

  function_node_moved : (span : SourceRange) (params : List Tree) (ctxt : SyntaxContext) (body type_params type : Tree) →
      moved m (function_node span (list params) (list []) ctxt body false false type_params type) ≡
      function_node (moved_range m span) (list (map (moved m) params)) (list []) (moved_scope m ctxt) (moved m body) false false
      (moved m type_params)
      (moved m type)
  function_node_moved span params ctxt body type_params type = simp (node_moved, range_moved, context_moved, flag_moved)

  signed_function_moved : (f : FunctionHead) (type : Tree) (params : List Tree) →
      signed_function (moved_function m f) (moved m type) (map (moved m) params) ≡ moved m (signed_function f type params)
  signed_function_moved f type params =
      let body = tree_chosen m f.lacks_body f.lacks_body Absent Absent (function_body (moved m type)) (function_body type) refl
      (sym (absent_moved m))
      (function_body_moved m ok type) in
      (λ i. function_node (moved_range m f.span) (list (map (moved m) params)) (list []) (moved_scope m f.ctxt) (body i) false false
      (moved m f.type_params)
      (moved m type))
      ∙ sym (function_node_moved f.span params f.ctxt (if f.lacks_body then Absent else function_body type) f.type_params type)

  arrow_expr_moved : (a : ArrowHead) (params : List Tree) (body : Tree) (is_async : Bool) (type : Tree) →
      moved m (arrow_expr a.span a.ctxt (list params) body is_async a.is_generator a.type_params type) ≡
      arrow_expr (moved_range m a.span) (moved_scope m a.ctxt) (list (map (moved m) params)) (moved m body) is_async a.is_generator
      (moved m a.type_params)
      (moved m type)
  arrow_expr_moved a params body is_async type = simp (node_moved, range_moved, context_moved, flag_moved)

  signed_arrow_moved : (a : ArrowHead) (type : Tree) (params : List Tree) →
      signed_arrow (moved_arrow m a) (moved m type) (map (moved m) params) ≡ moved m (signed_arrow a type params)
  signed_arrow_moved a type params =
      (λ i. arrow_expr (moved_range m a.span) (moved_scope m a.ctxt) (list (map (moved m) params))
      (arrow_body_moved m ok type i) false a.is_generator
      (moved m a.type_params) (moved m type)) ∙ sym (arrow_expr_moved a params (arrow_body type) false type)

  kept_arrow_moved : (a : ArrowHead) (is_async : Bool) (value : Tree) (params : List Tree) →
      kept_arrow (moved_arrow m a) is_async (moved m value) (map (moved m) params) ≡ moved m (kept_arrow a is_async value params)
  kept_arrow_moved a is_async value params =
      (λ i. arrow_expr (moved_range m a.span) (moved_scope m a.ctxt) (list (map (moved m) params)) (moved m value) is_async a.is_generator
      (moved m a.type_params) (sym (absent_moved m) i)) ∙ sym (arrow_expr_moved a params value is_async Absent)

  pub class_of_moved : (c : ClassHead) (superclass : Tree) (members : List Tree) →
      moved m (class_of c superclass members) ≡ class_of (moved_class m c) (moved m superclass) (map (moved m) members)
  class_of_moved c superclass members = simp (node_moved, range_moved, context_moved, flag_moved)

  pub valued_property_moved : (p : PropertyHead) (value : Tree) →
      moved m (valued_property p value) ≡ valued_property (moved_property m p) (moved m value)
  valued_property_moved p value = simp (node_moved, range_moved, flag_moved, absent_moved)

  pub declared_property_moved : (p : PropertyHead) (type : Tree) →
      moved m (declared_property p type) ≡ declared_property (moved_property m p) (moved m type)
  declared_property_moved p type = simp (node_moved, range_moved, flag_moved, absent_moved)

  export_default_expr_moved : (span : SourceRange) (value : Tree) →
      moved m (export_default_expr span value) ≡ export_default_expr (moved_range m span) (moved m value)
  export_default_expr_moved span value = simp (node_moved, range_moved)

  -- ---- answers

  round_answer_moved : (kind : Kind) (a : Answer (Option (List Tree))) →
      round_answer kind (moved_parts m a) ≡ moved_answer m (round_answer kind a)
  round_answer_moved kind a = made_moved m (option_map (node kind)) (option_map (node kind)) (option_map (map (moved m)))
      (option_map (moved m)) a (round_moved m kind a.stays)

  list_answer_moved : (a : Answer (List Tree)) → list_answer (moved_items m a) ≡ moved_answer m (list_answer a)
  list_answer_moved a =
      let make : List Tree → Option Tree = λ ts. Some (list ts) in
      made_moved m make make (map (moved m)) (option_map (moved m)) a (ap Some (sym (node_moved m List' a.stays)))

  declarator_answer_moved : (d : DeclaratorHead) (a : Answer (Option Tree)) →
      declarator_answer (moved_declarator m d) (moved_answer m a) ≡ moved_answer m (declarator_answer d a)
  declarator_answer_moved d a =
      let fault = fault_at MissingExplicitType (Ident-span d.ident) in
      let make : Tree → Option Tree = λ v. Some (valued_declarator d v) in
      let make' : Tree → Option Tree = λ v. Some (valued_declarator (moved_declarator m d) v) in
      let place = range_field_moved m ok Ident-span _ (λ t. refl) d.ident in
      (λ i. made make' ((ap (λ p. demanded (fault_at MissingExplicitType p) (moved_answer m a)) place ∙ demanded_moved m fault a) i))
      ∙ made_moved m make make' (moved m) (option_map (moved m)) (demanded fault a)
      (ap Some (sym (valued_declarator_moved d (demanded fault a).stays)))

  default_answer_moved : (d : DefaultHead) (a : Answer (Option Tree)) →
      default_answer (moved_default m d) (moved_answer m a) ≡ moved_answer m (default_answer d a)
  default_answer_moved d a =
      let fault = fault_at MissingExplicitType d.place in
      let make : Tree → Option Tree = λ v. Some (assign_pat d.span d.left v) in
      let make' : Tree → Option Tree = λ v. Some (assign_pat (moved_range m d.span) (moved m d.left) v) in
      ap (made make') (demanded_moved m fault a)
      ∙ made_moved m make make' (moved m) (option_map (moved m)) (demanded fault a)
      (ap Some (sym (assign_pat_moved d.span d.left (demanded fault a).stays)))

  function_answer_moved : (f : FunctionHead) (a : Answer (Option Tree)) (b : Answer (List Tree)) →
      function_answer (moved_function m f) (moved_answer m a) (moved_items m b) ≡ moved_answer m (function_answer f a b)
  function_answer_moved f a b =
      let make : Tree → List Tree → Option Tree = λ t ps. Some (signed_function f t ps) in
      let make' : Tree → List Tree → Option Tree = λ t ps. Some (signed_function (moved_function m f) t ps) in
      ap (λ type. joined make' type (moved_items m b)) (settled_moved m a)
      ∙ joined_moved m make make' (moved m) (map (moved m)) (option_map (moved m)) (settled a) b
      (ap Some (signed_function_moved f (settled a).stays b.stays))

  typed_arrow_answer_moved : (h : ArrowHead) (a : Answer (Option Tree)) (b : Answer (List Tree)) →
      typed_arrow_answer (moved_arrow m h) (moved_answer m a) (moved_items m b) ≡ moved_answer m (typed_arrow_answer h a b)
  typed_arrow_answer_moved h a b =
      let make : Tree → List Tree → Option Tree = λ t ps. Some (signed_arrow h t ps) in
      let make' : Tree → List Tree → Option Tree = λ t ps. Some (signed_arrow (moved_arrow m h) t ps) in
      ap (λ type. joined make' type (moved_items m b)) (settled_moved m a)
      ∙ joined_moved m make make' (moved m) (map (moved m)) (option_map (moved m)) (settled a) b
      (ap Some (signed_arrow_moved h (settled a).stays b.stays))

  valued_arrow_answer_moved : (h : ArrowHead) (is_async : Bool) (place : SourceRange) (a : Answer (Option Tree)) (b : Answer (List Tree)) →
      valued_arrow_answer (moved_arrow m h) is_async (moved_range m place) (moved_answer m a) (moved_items m b) ≡
      moved_answer m (valued_arrow_answer h is_async place a b)
  valued_arrow_answer_moved h is_async place a b =
      let fault = fault_at (return_type_missing false is_async) place in
      let make : Tree → List Tree → Option Tree = λ v ps. Some (kept_arrow h is_async v ps) in
      let make' : Tree → List Tree → Option Tree = λ v ps. Some (kept_arrow (moved_arrow m h) is_async v ps) in
      ap (λ value. joined make' value (moved_items m b)) (demanded_moved m fault a)
      ∙ joined_moved m make make' (moved m) (map (moved m)) (option_map (moved m))
      (demanded fault a) b (ap Some (kept_arrow_moved h is_async (demanded fault a).stays b.stays))

  class_answer_moved : (c : ClassHead) (a : Answer (Option Tree)) (b : Answer (List Tree)) →
      class_answer (moved_class m c) (moved_answer m a) (moved_items m b) ≡ moved_answer m (class_answer c a b)
  class_answer_moved c a b =
      let make : Tree → List Tree → Option Tree = λ s ms. Some (class_of c s ms) in
      let make' : Tree → List Tree → Option Tree = λ s ms. Some (class_of (moved_class m c) s ms) in
      ap (λ superclass. joined make' superclass (moved_items m b)) (settled_moved m a)
      ∙ joined_moved m make make' (moved m) (map (moved m)) (option_map (moved m)) (settled a) b
      (ap Some (sym (class_of_moved c (settled a).stays b.stays)))

  property_answer_moved : (p : PropertyHead) (a : Answer (Option Tree)) →
      property_answer (moved_property m p) (moved_answer m a) ≡ moved_answer m (property_answer p a)
  property_answer_moved p a =
      let fault = fault_at MissingExplicitType (range_of_node p.key) in
      let make : Tree → Option Tree = λ v. Some (valued_property p v) in
      let make' : Tree → Option Tree = λ v. Some (valued_property (moved_property m p) v) in
      (λ i. made make' ((ap (λ q. demanded (fault_at MissingExplicitType q) (moved_answer m a)) (range_of_node_moved m ok p.key)
      ∙ demanded_moved m fault a) i))
      ∙ made_moved m make make' (moved m) (option_map (moved m)) (demanded fault a)
      (ap Some (sym (valued_property_moved p (demanded fault a).stays)))

  default_export_answer_moved : (span : SourceRange) (a : Answer (Option Tree)) →
      default_export_answer (moved_range m span) (moved_answer m a) ≡ moved_answer m (default_export_answer span a)
  default_export_answer_moved span a =
      let fault = fault_at UnsupportedDefaultExportExpr span in
      let make : Tree → Option Tree = λ v. Some (export_default_expr span v) in
      let make' : Tree → Option Tree = λ v. Some (export_default_expr (moved_range m span) v) in
      ap (made make') (demanded_moved m fault a)
      ∙ made_moved m make make' (moved m) (option_map (moved m)) (demanded fault a)
      (ap Some (sym (export_default_expr_moved span (demanded fault a).stays)))

  tested_answer_moved : (place : Option SourceRange) (a : Answer (Option Tree)) →
      tested_answer (option_map (moved_range m) place) (moved_answer m a) ≡ moved_answer m (tested_answer place a)
  tested_answer_moved None a =
      let make : Option Tree → Option Tree = λ v. None in
      made_moved m make make (option_map (moved m)) (option_map (moved m)) a refl
  tested_answer_moved (Some place) a =
      let fault = fault_at MissingExplicitType place in
      let make : Tree → Option Tree = λ v. None in
      ap (made make) (demanded_moved m fault a) ∙ made_moved m make make (moved m) (option_map (moved m)) (demanded fault a) refl

  -- ---- all

  mutual
    pub answer_to_moved : (s : Seen) → answer_to (moved_seen m s) ≡ moved_answer m (answer_to s)
    answer_to_moved (written t) = refl
    answer_to_moved (round kind ss) = ap (round_answer kind) (parts_moved ss) ∙ round_answer_moved kind (parts_answer ss)
    answer_to_moved (listed ss) = ap list_answer (items_moved ss) ∙ list_answer_moved (items_answer ss)
    answer_to_moved (declarator d value) = ap (declarator_answer (moved_declarator m d)) (answer_to_moved value) ∙
        declarator_answer_moved d (answer_to value)
    answer_to_moved (default d value) = ap (default_answer (moved_default m d)) (answer_to_moved value) ∙
        default_answer_moved d (answer_to value)
    answer_to_moved (function f type params) =
        (λ i. function_answer (moved_function m f) (answer_to_moved type i) (items_moved params i))
        ∙ function_answer_moved f (answer_to type) (items_answer params)
    answer_to_moved (typed_arrow a type params) =
        (λ i. typed_arrow_answer (moved_arrow m a) (answer_to_moved type i) (items_moved params i))
        ∙ typed_arrow_answer_moved a (answer_to type) (items_answer params)
    answer_to_moved (valued_arrow a is_async place value params) =
        (λ i. valued_arrow_answer (moved_arrow m a) is_async (moved_range m place) (answer_to_moved value i) (items_moved params i))
        ∙ valued_arrow_answer_moved a is_async place (answer_to value) (items_answer params)
    answer_to_moved (class c superclass members) =
        (λ i. class_answer (moved_class m c) (answer_to_moved superclass i) (items_moved members i))
        ∙ class_answer_moved c (answer_to superclass) (items_answer members)
    answer_to_moved (property p value) = ap (property_answer (moved_property m p)) (answer_to_moved value) ∙
        property_answer_moved p (answer_to value)
    answer_to_moved (default_export span value) =
        ap (default_export_answer (moved_range m span)) (answer_to_moved value) ∙ default_export_answer_moved span (answer_to value)
    answer_to_moved (tested place value) =
        ap (tested_answer (option_map (moved_range m) place)) (answer_to_moved value) ∙ tested_answer_moved place (answer_to value)
    answer_to_moved (faulty kind place) =
        λ i. record { stays = Some (sym (absent_moved m) i); faults = fault_at kind (moved_range m place) ∷ [] }
    answer_to_moved refused = refl

    parts_moved : (ss : Seens) → parts_answer (moved_seens m ss) ≡ moved_parts m (parts_answer ss)
    parts_moved end = refl
    parts_moved (also s ss) =
        (λ i. visited (answer_to_moved s i) (parts_moved ss i)) ∙ before_moved m (answer_to s).stays (answer_to s).faults (parts_answer ss)

    items_moved : (ss : Seens) → items_answer (moved_seens m ss) ≡ moved_items m (items_answer ss)
    items_moved end = refl
    items_moved (also s ss) =
        (λ i. joined with_tree (answer_to_moved s i) (items_moved ss i))
        ∙ joined_moved m with_tree with_tree (option_map (moved m)) (map (moved m)) (map (moved m)) (answer_to s) (items_answer ss)
        (with_tree_moved m (answer_to s).stays (items_answer ss).stays)

  pub answer_of_moved : (ss : List Seen) → answer_of (map (moved_seen m) ss) ≡ moved_items m (answer_of ss)
  answer_of_moved ss = ap items_answer (seens_moved m ss) ∙ items_moved (seens ss)
