-- What a set gains at one node.
use Rattle.std.proofs.Common.{◌≡◌, ◌∙◌, sym, ap, refl, subst, ⊎_elim, ℕ, ◌<◌, Bool, true, false, ◌&&◌, ◌||◌, cond, List, []}
use Rattle.std.proofs.Common.{◌∷◌, Option, Some, None, arith, length, get_or, string_bytes}
use Rattle.std.specs.Prelude.{Vec, vec_len, vec_capacity}
use Rattle.std.specs.declared.alloc.Global.{Global}
use Rattle.std.specs.Str.{bytes_eq}
use Rattle.std.proofs.lemmas.Bool.{or_right}
use Rattle.std.proofs.lemmas.List.{get_or_default}
use Rattle.fast_check_finder_lattice.specs.declared.lattice.node.Node.{Node}
use Rattle.fast_check_finder_lattice.specs.declared.lattice.node.NodeNo.{NodeNo}
use Rattle.fast_check_finder_lattice.specs.declared.lattice.node.Below.TheVariants.{All, Subset}
use Rattle.fast_check_finder_lattice.specs.Order.{Name, Entry, found, name_at, IsOnce}
use Rattle.fast_check_finder_lattice.specs.Graph.{Graph, Part, Path, NameSet, reach, below_node, rooted, subset_of, IsTree, HasRoom, IsPut}
use Rattle.fast_check_finder_lattice.specs.declared.lattice.node.Below.{Below}
use Rattle.fast_check_finder_lattice.specs.Names.{whole_below, IsAdded, IsJoin, IsNameSet, IsLeastDifference, IsSame, nothing, IsJoint}
use Rattle.fast_check_finder_lattice.proofs.Walks.{name_shows, grown, descends, or_false}
use Rattle.fast_check_finder_lattice.proofs.Places.{some_entry, found_first, once_before}
use Rattle.fast_check_finder_lattice.specs.EqualityProof.{all_is, none_is}
use Rattle.fast_check_finder_lattice.proofs.Copies.{subset_reach}

pub itself : (n : Name) → bytes_eq n n ≡ true
itself n = ⊎_elim (λ (t : (bytes_eq n n ≡ true) × (n ≡ n)). t.0) (λ (t : (bytes_eq n n ≡ false) × (n ≡ n → ⊥)). absurd (t.1 refl))
    (name_shows n n)

-- a name that stands at a place is found
pub no_place : (es : List Entry) → IsOnce es → (n : Name) (i : ℕ) → i < length es → name_at es i ≡ n → found es n ≡ None → ⊥
no_place es once n i within at none =
    let d = some_entry es i within in
    let e : None ≡ Some (get_or es i d).1 = sym none ∙ found_first es n i d within at (once_before es once n i within at) in cc

-- a list of one entry
pub one_only : (es : List Entry) (d : Entry) → length es ≡ 1 → d ≡ get_or es 0 d → es ≡ d ∷ []
one_only [] d one is = absurd (omega (arith, one))
one_only (e ∷ []) d one is = ap (λ (x : Entry). x ∷ []) (sym is)
one_only (e ∷ f ∷ es) d one is = absurd (omega (arith, one))

pub found_alone : (es : List Entry) (d : Entry) → es ≡ d ∷ [] → (n : Name) →
    found es n ≡ cond (bytes_eq (string_bytes d.0) n) (Some d.1) None
found_alone es d is n = ap (λ (xs : List Entry). found xs n) is

-- where one node lists one name alone, what is below it comes below that name
module _ (g : Graph) (size at : ℕ) (h : Graph) (other : ℕ) (name : Name) (no next : NodeNo) (tree : IsTree g size)
    (link : g at name ≡ Some (Subset no))
    (alone : (n : Name) → h other n ≡ cond (bytes_eq name n) (Some (Subset next)) None) where
  below_alone : (b : Bool) (part : Part) (q : Path) → reach h (cond b (Some (Subset next)) None) part q ≡
      (b && subset_of (below_node h next.0) part q)
  below_alone true part q = sym (subset_reach h next part q)
  below_alone false part q = none_is h part q

  named_alone : (part : Part) (x : Name) (q : Path) → subset_of (below_node h other) part
      (x ∷ q) ≡ (bytes_eq name x && subset_of (below_node h next.0) part q)
  named_alone part x q = ap (λ o. reach h o part q) (alone x) ∙ below_alone (bytes_eq name x) part q

  pub joint_down : IsJoint g size at h other (no.0, next.0)
  joint_down = record {
    within = (tree.later at name no link).1;
    enough = λ w added part n q. added part n q ∙
        descends g size tree at name no link (subset_of (below_node h next.0)) (subset_of (below_node h other)) (λ part. refl) named_alone 0
        (λ e. let l = tree.later at name no link in omega (arith, l.0, e)) n part q;
  }

-- a step after others
pub joint_further : (g : Graph) (size at : ℕ) (h : Graph) (other : ℕ) (r p : ℕ × ℕ) → IsJoint g size at h other r →
    IsJoint g size r.0 h r.1 p → IsJoint g size at h other p
joint_further g size at h other r p first next = record {
  within = next.within;
  enough = λ w added. first.enough w (next.enough w added);
}

-- what one name covers alone, is all that the other set lists
pub covered_joint : (g h w : Graph) (at other : ℕ) (name : Name) → ((n : Name) → h other n ≡ cond (bytes_eq name n) (Some All) None) →
    IsAdded g at (whole_below (name ∷ [])) w → IsAdded g at (subset_of (below_node h other)) w
covered_joint g h w at other name alone added = subst (λ (f : NameSet). IsAdded g at f w) (λ i part q. same part q i) added
  where
    whole_here : (b : Bool) (part : Part) (q : Path) → b ≡ reach h (cond b (Some All) None) part q
    whole_here true part q = sym (all_is h part q)
    whole_here false part q = sym (none_is h part q)

    at_once : (b : Bool) → (b && true) ≡ b
    at_once true = refl
    at_once false = refl

    same : (part : Part) (q : Path) → whole_below (name ∷ []) part q ≡ subset_of (below_node h other) part q
    same part [] = refl
    same part (n ∷ q) = at_once (bytes_eq name n) ∙
        (whole_here (bytes_eq name n) part q ∙ ap (λ o. reach h o part q) (sym (alone n)))

-- a name that is lacking comes in, with what the other set lists under it alone
pub put_joint : (g h w : Graph) (size at other : ℕ) (name : Name) (b : Below) (F : NameSet) → IsTree g size → 0 < size →
    ((n : Name) → h other n ≡ cond (bytes_eq name n) (Some b) None) → IsSame F (reach h (Some b)) → IsPut g size at name F w →
    IsAdded g at (subset_of (below_node h other)) w
put_joint g h w size at other name b F tree some alone same put part n q =
    grown g w size at name put.now F (subset_of (below_node h other)) tree put.low
    (λ part x q. ap (λ o. reach h o part q) (alone x) ∙ lists (bytes_eq name x) part q) put.gain 0 some n part q
  where
    lists : (here : Bool) (part : Part) (q : Path) → reach h (cond here (Some b) None) part q ≡ (here && F part q)
    lists true part q = sym (same part q)
    lists false part q = none_is h part q

-- the whole set is gained at the root
pub root_gains : (g h w : Graph) → IsAdded g 0 (subset_of (below_node h 0)) w → IsJoin (rooted g) (rooted h) (rooted w)
root_gains g h w added part [] = refl
root_gains g h w added part (n ∷ q) = added part n q

either_way : (o d n : Bool) → (n ≡ true → (o || d) ≡ true) → (d ≡ true → n ≡ true) → (o || d) ≡ (o || n)
either_way true d n a b = refl
either_way false true true a b = refl
either_way false true false a b = sym (b refl)
either_way false false true a b = a refl
either_way false false false a b = refl

-- a set joined with what it lacks of another is joined with that
pub joined_by_rest : (old new rest joined : NameSet) → IsNameSet new → IsNameSet rest → IsLeastDifference old new rest →
    IsJoin old rest joined → IsJoin old new joined
joined_by_rest old new rest joined new_set rest_set least join part p = join part p ∙
    either_way (old part p) (rest part p) (new part p)
    (λ t. (least rest rest_set).0 (λ s q u. u) part p t)
    (λ t. (least new new_set).1 (λ s q u. or_right (old s q) (new s q) u) part p t)

-- where nothing is lacking, what was there is all
pub joined_with_nothing : (old rest : NameSet) → IsSame rest nothing → IsJoin old rest old
joined_with_nothing old rest none part p = or_false (old part p) ∙ ap (λ b. old part p || b) (sym (none part p))

-- at the root nothing is to be shown
pub joint_here : (g : Graph) (size at : ℕ) (h : Graph) (other : ℕ) → at < size → IsJoint g size at h other (at, other)
joint_here g size at h other within = record { within = within; enough = λ w added. added }

-- the same element, read twice
pub same_read : (xs : List Node) (i : ℕ) (a b : Node) → i < length xs → a ≡ get_or xs i a → b ≡ get_or xs i b → a ≡ b
same_read xs i a b h ea eb = ea ∙ (get_or_default xs i a b h ∙ sym eb)

-- the room of a vector of the same length and capacity
pub room_along : {X : Type 0} (items others : Vec X Global) (more : ℕ) (room : Option (Vec X Global)) → vec_len others ≡ vec_len items →
    vec_capacity others ≡ vec_capacity items → HasRoom items more room → HasRoom others more room
room_along items others more None len cap h = omega (arith, h, len, cap)
room_along items others more (Some v) len cap h = (h.0, omega (arith, h.1, len))
