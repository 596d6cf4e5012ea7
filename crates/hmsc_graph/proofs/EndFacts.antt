-- Walks to `end` lines, forwards and backwards.
use Rattle.std.proofs.Common.{ℕ, [], ◌∷◌, ◌++◌, get_or, ◌+◌, ◌<◌, ◌≡◌, ◌↔◌, ◌⊎◌, inl, inr, List, Bool, true, false, IsTrue, refl, sym, subst, arith, ◌∙◌, Option, Some, None, Result, Ok, Err, IfOk}
use Rattle.std.proofs.lemmas.Bool.{true≢false, cases_lt, eqb-true, eq-eqb}
use Rattle.std.proofs.lemmas.List.{get_or_past}
use Rattle.bit_sets.specs.NodeSets.{NodeSetValue}
use Rattle.hmsc_graph.specs.Graphs.{Net, Spot, Start, At, Goal, To, End, Any, WalkThrough, last, step, arrives, behind}
use Rattle.msc_base.specs.Lists.{IsIn}
use Rattle.list_facts.proofs.Members.{among_snoc}
use Rattle.hmsc_graph.specs.Nets.{IsNet, size_of}
use Rattle.hmsc_graph.specs.Reversals.{AreBefore, AreEdgesBack, way_of}
use Rattle.hmsc_graph.specs.Searches.{IsFirstLost, IsLost, LeadsOn, OneLeads}
use Rattle.hmsc_graph.specs.Walks.{Leads, MayReach, IsEndless, IsFirstEndless}
use Rattle.hmsc_graph.proofs.EdgeFacts.{behind_node}
use Rattle.hmsc_graph.proofs.Reaching.{glue}
use Rattle.hmsc_graph.proofs.SearchFacts.{behind_below, walk_below}

pub to_end : (g : Net) (allowed : List ℕ) (s : Spot) (node : ℕ) → arrives g End node ≡ true → WalkThrough g allowed s (To node) → WalkThrough g allowed s End
to_end g allowed s node is (last m i a) = last m i (subst (λ (n : ℕ). arrives g End n ≡ true) (sym (eqb-true m node a)) is)
to_end g allowed s node is (step m i j w) = step m i j (to_end g allowed (At m) node is w)

-- an `end` line is a node
end_below : (g : Net) (m : ℕ) → arrives g End m ≡ true → m < size_of g
end_below g m is = elim (cases_lt m (size_of g)) [
  | inl lt ↦ lt
  | inr le ↦ absurd (true≢false (sym is ∙ get_or_past g.ends m false le))
]

-- every node may be passed
pub pass_all : (g : Net) (passed all : List ℕ) (s : Spot) (t : Goal) → IsNet g → ((n : ℕ) → n < size_of g → IsIn n all) → WalkThrough g passed s t → WalkThrough g all s t
pass_all g passed all s t net each (last m i a) = last m i a
pass_all g passed all s t net each (step m i j w) = step m i (each m (behind_below g s m net i)) (pass_all g passed all (At m) t net each w)

module _ (g : Net) (starts : List ℕ) (back : List (List ℕ)) (net : IsNet g) (edges : AreEdgesBack g.next (size_of g) back) (all : List ℕ) where
  there_next : (a b : ℕ) → IsIn a (get_or back b []) → IsIn b (behind g (At a))
  there_next a b i = ((edges a b).0 i).1

  back_next : (a b : ℕ) → IsIn b (behind g (At a)) → IsIn a (get_or back b [])
  back_next a b i = (edges a b).1 (behind_node g a b net i, i)

  -- a walk the other way, from a node
  turned : (b m : ℕ) → WalkThrough (way_of starts back) all (At b) (To m) → WalkThrough g all (At m) (To b)
  turned b m (last a i e) = subst (λ (x : ℕ). WalkThrough g all (At x) (To b)) (eqb-true a m e) (last b (there_next a b i) (eq-eqb b b refl))
  turned b m (step a i j w) = glue j (turned a m w) (last b (there_next a b i) (eq-eqb b b refl))

  -- a walk the other way, from the nodes before a goal
  pub turned_before : (t : Goal) → AreBefore g t starts → (m : ℕ) → WalkThrough (way_of starts back) all Start (To m) → WalkThrough g all (At m) t
  turned_before t are m (last a i e) = let (n, j, there) = (are a).0 i in subst (λ (x : ℕ). WalkThrough g all (At x) t) (eqb-true a m e) (last n j there)
  turned_before t are m (step a i j w) = let (n, k, there) = (are a).0 i in glue j (turned a m w) (last n k there)

  pub before_turned : (t : Goal) → AreBefore g t starts → (m : ℕ) → WalkThrough g all (At m) t → WalkThrough (way_of starts back) all Start (To m)
  before_turned t are m (last n i a) = last m ((are m).1 (n, i, a)) (eq-eqb m m refl)
  before_turned t are m (step n i j w) = glue j (before_turned t are n w) (last m (back_next m n i) (eq-eqb m m refl))

  -- what is reached the other way is an `end` line, or can reach one
  pub turned_end : ((m : ℕ) → IsIn m starts ↔ (arrives g End m ≡ true)) → (m : ℕ) → WalkThrough (way_of starts back) all Start (To m) → (arrives g End m ≡ true) ⊎ WalkThrough g all (At m) End
  turned_end are m (last a i e) = inl (subst (λ (x : ℕ). arrives g End x ≡ true) (eqb-true a m e) ((are a).0 i))
  turned_end are m (step a i j w) = inr (to_end g all (At m) a ((are a).0 i) (turned a m w))

  -- an `end` line is reached the other way, and what can reach one
  pub end_turned : ((m : ℕ) → IsIn m starts ↔ (arrives g End m ≡ true)) → (m : ℕ) → arrives g End m ≡ true → WalkThrough (way_of starts back) all Start (To m)
  end_turned are m is = last m ((are m).1 is) (eq-eqb m m refl)

  pub way_turned : ((m : ℕ) → IsIn m starts ↔ (arrives g End m ≡ true)) → ((n : ℕ) → n < size_of g → IsIn n all) → (m : ℕ) → WalkThrough g all (At m) End → WalkThrough (way_of starts back) all Start (To m)
  way_turned are each m (last b i is) = step b ((are b).1 is) (each b (end_below g b is)) (last m (back_next m b i) (eq-eqb m m refl))
  way_turned are each m (step b i j w) = glue j (way_turned are each b w) (last m (back_next m b i) (eq-eqb m m refl))

-- the nodes behind which a node comes next
pub before_node : (g : Net) (back : List (List ℕ)) (node : ℕ) → IsNet g → AreEdgesBack g.next (size_of g) back → AreBefore g (To node) (get_or back node [])
before_node g back node net edges m = (
  (λ i. (node, ((edges m node).0 i).1, eq-eqb node node refl)),
  λ p. let here : IsIn node (behind g (At m)) = subst (λ (x : ℕ). IsIn x (behind g (At m))) (eqb-true p.0 node p.2) p.1 in (edges m node).1 (behind_node g m node net here, here),
)

pub before_below : (g : Net) (t : Goal) (nodes : List ℕ) → IsNet g → AreBefore g t nodes → (m : ℕ) → IsIn m nodes → m < size_of g
before_below g t nodes net are m i = let (n, j, there) = (are m).0 i in behind_node g m n net j

-- a search the other way finds the nodes from which walks lead to the goal
pub leads_back : (g : Net) (starts : List ℕ) (back : List (List ℕ)) (allowed found : List ℕ) (t : Goal) → IsNet g → AreEdgesBack g.next (size_of g) back → AreBefore g t starts
    → ((m : ℕ) → IsIn m found ↔ WalkThrough (way_of starts back) allowed Start (To m)) → (m : ℕ) → IsIn m found ↔ WalkThrough g allowed (At m) t
leads_back g starts back allowed found t net edges are exact m = (
  (λ i. turned_before g starts back net edges allowed t are m ((exact m).0 i)),
  λ w. (exact m).1 (before_turned g starts back net edges allowed t are m w),
)

-- what a search the other way finds, where there is memory
pub found_back : {E : Type 0} (g : Net) (starts : List ℕ) (back : List (List ℕ)) (allowed : List ℕ) (t : Goal) (r : Result NodeSetValue E) → IsNet g → AreEdgesBack g.next (size_of g) back → AreBefore g t starts
    → IfOk r (λ found. (m : ℕ) → IsIn m found.nodes ↔ WalkThrough (way_of starts back) allowed Start (To m)) → IfOk r (λ found. (m : ℕ) → m < size_of g → IsIn m found.nodes ↔ WalkThrough g allowed (At m) t)
found_back g starts back allowed t (Ok found) net edges are exact = λ m lt. leads_back g starts back allowed found.nodes t net edges are exact m
found_back g starts back allowed t (Err e) net edges are exact = tt

way : (g : Net) (all : List ℕ) (s : Spot) (t : Goal) → WalkThrough g all s t → MayReach g s t
way g all s t w = (all, w)

-- a search the other way from the `end` lines finds what is one or can reach one
pub ends_back : (g : Net) (starts : List ℕ) (back : List (List ℕ)) (all ending : List ℕ) → IsNet g → AreEdgesBack g.next (size_of g) back → ((m : ℕ) → IsIn m starts ↔ (arrives g End m ≡ true)) → ((n : ℕ) → n < size_of g → IsIn n all)
    → ((m : ℕ) → IsIn m ending ↔ WalkThrough (way_of starts back) all Start (To m)) → (m : ℕ) → IsIn m ending ↔ ((arrives g End m ≡ true) ⊎ WalkThrough g all (At m) End)
ends_back g starts back all ending net edges are each found m = (
  λ i. turned_end g starts back net edges all are m ((found m).0 i),
  λ p. elim p [
    | inl is ↦ (found m).1 (end_turned g starts back net edges all are m is)
    | inr w ↦ (found m).1 (way_turned g starts back net edges all are each m w)
  ],
)

module _ (g : Net) (all reached ending : List ℕ) (net : IsNet g) (each : (n : ℕ) → n < size_of g → IsIn n all) (forth : (m : ℕ) → IsIn m reached ↔ WalkThrough g all Start (To m)) (ends : (m : ℕ) → IsIn m ending ↔ ((arrives g End m ≡ true) ⊎ WalkThrough g all (At m) End)) where
  meets : (m : ℕ) → MayReach g Start (To m) → IsIn m reached
  meets m w = (forth m).1 (pass_all g w.0 all Start (To m) net each w.1)

  comes_to_end : (m : ℕ) → IsIn m ending → arrives g End m ≡ false → MayReach g (At m) End
  comes_to_end m i inner = elim ((ends m).0 i) [
    | inl is ↦ absurd (true≢false (sym is ∙ inner))
    | inr w ↦ way g all (At m) End w
  ]

  open_node : (m : ℕ) → (IsIn m ending → ⊥) → (b : Bool) → arrives g End m ≡ b → arrives g End m ≡ false
  open_node m none true e = absurd (none ((ends m).1 (inl e)))
  open_node m none false e = e

  lost_is_endless : (m : ℕ) → IsIn m reached → (IsIn m ending → ⊥) → IsEndless g m
  lost_is_endless m there none = record {
    reached = way g all Start (To m) ((forth m).0 there);
    inner = open_node m none (arrives g End m) refl;
    stuck = λ w. none ((ends m).1 (inr (pass_all g w.0 all (At m) End net each w.1)));
  }

  -- the first node that is reached and isn't met the other way is the first endless one
  pub first_endless : (found : Option ℕ) → IsFirstLost (size_of g) reached ending found → IsFirstEndless g found
  first_endless (Some n) (below, there, none, before) = (lost_is_endless n there none, λ m lt w inner. comes_to_end m (before m lt (meets m w)) inner)
  first_endless None f = λ m w inner. comes_to_end m (f m (walk_below g w.0 Start m net w.1) (meets m w)) inner

  -- all such nodes are the endless ones
  pub all_endless : (m : ℕ) → IsLost (size_of g) reached ending m ↔ IsEndless g m
  all_endless m = (
    λ lost. lost_is_endless m lost.1 lost.2,
    λ e. (walk_below g e.reached.0 Start m net e.reached.1, meets m e.reached, λ i. e.stuck (comes_to_end m i e.inner)),
  )

-- one number more was looked at
pub lost_kept : (n : ℕ) (reached ending set : List ℕ) → (IsIn n reached → IsIn n ending) → ((m : ℕ) → IsIn m set ↔ IsLost n reached ending m) → (m : ℕ) → IsIn m set ↔ IsLost (n + 1) reached ending m
lost_kept n reached ending set ends are m = (
  λ i. let p = (are m).0 i in (omega (arith, p.0), p.1, p.2),
  λ (lt, there, none). (are m).1 (below lt (λ e. none (subst (λ (x : ℕ). IsIn x ending) (sym e) (ends (subst (λ (x : ℕ). IsIn x reached) e there)))), there, none),
)
  where
    below : m < n + 1 → (m ≡ n → ⊥) → m < n
    below lt other = grind arith

pub lost_more : (n : ℕ) (reached ending set more : List ℕ) → IsIn n reached → (IsIn n ending → ⊥) → ((m : ℕ) → IsIn m set ↔ IsLost n reached ending m) → ((m : ℕ) → IsIn m more ↔ (IsIn m set ⊎ (m ≡ n))) → (m : ℕ) → IsIn m more ↔ IsLost (n + 1) reached ending m
lost_more n reached ending set more there none are added m = (
  λ i. elim ((added m).0 i) [
    | inl old ↦ let p = (are m).0 old in (omega (arith, p.0), p.1, p.2)
    | inr e ↦ (omega (arith, e), subst (λ (x : ℕ). IsIn x reached) (sym e) there, λ j. none (subst (λ (x : ℕ). IsIn x ending) e j))
  ],
  λ (lt, here, open_here). elim (first lt) [
    | inl l ↦ (added m).1 (inl ((are m).1 (l, here, open_here)))
    | inr e ↦ (added m).1 (inr e)
  ],
)
  where
    first : m < n + 1 → (m < n) ⊎ (m ≡ n)
    first lt = grind arith

-- a walk leads there where one of the nodes behind its start is the goal, or leads on
pub walk_by_one : (g : Net) (s : Spot) (t : Goal) (allowed leading : List ℕ) → IsNet g → ((m : ℕ) → m < size_of g → IsIn m leading ↔ WalkThrough g allowed (At m) t) → OneLeads g (behind g s) allowed leading t ↔ WalkThrough g allowed s t
walk_by_one g s t allowed leading net exact = (to, from)
  where
    to : OneLeads g (behind g s) allowed leading t → WalkThrough g allowed s t
    to (m, i, inl a) = last m i a
    to (m, i, inr p) = step m i p.0 ((exact m (behind_below g s m net i)).0 p.1)

    from : WalkThrough g allowed s t → OneLeads g (behind g s) allowed leading t
    from (last m i a) = (m, i, inl a)
    from (step m i j w) = (m, i, inr (j, (exact m (behind_below g s m net i)).1 w))

-- none leads among one node more
pub no_lead_more : (g : Net) (ns more : List ℕ) (x : ℕ) (allowed leading : List ℕ) (t : Goal) → more ≡ ns ++ x ∷ [] → (OneLeads g ns allowed leading t → ⊥) → (LeadsOn g x allowed leading t → ⊥) → OneLeads g more allowed leading t → ⊥
no_lead_more g ns more x allowed leading t is none shut h = elim (among_snoc ns x h.0 (subst (λ l. IsIn h.0 l) is h.1)) [
  | inl i ↦ none (h.0, i, h.2)
  | inr e ↦ shut (subst (λ (m : ℕ). LeadsOn g m allowed leading t) e h.2)
]

-- what a test of the nodes behind the start says
pub leads_by_one : (g : Net) (s : Spot) (t : Goal) (nodes allowed leading : List ℕ) (b : Bool) → (t ≡ Any → ⊥) → IsNet g → nodes ≡ behind g s → ((m : ℕ) → m < size_of g → IsIn m leading ↔ Leads g allowed (At m) t) → (IsTrue b ↔ OneLeads g nodes allowed leading t)
    → IsTrue b ↔ Leads g allowed s t
leads_by_one g s t nodes allowed leading b aimed net is exact said = at t aimed exact said
  where
    at : (u : Goal) → (u ≡ Any → ⊥) → ((m : ℕ) → m < size_of g → IsIn m leading ↔ Leads g allowed (At m) u) → (IsTrue b ↔ OneLeads g nodes allowed leading u) → IsTrue b ↔ Leads g allowed s u
    at (To k) f e h = let q = walk_by_one g s (To k) allowed leading net e in (λ i. q.0 (subst (λ (l : List ℕ). OneLeads g l allowed leading (To k)) is (h.0 i)), λ w. h.1 (subst (λ (l : List ℕ). OneLeads g l allowed leading (To k)) (sym is) (q.1 w)))
    at End f e h = let q = walk_by_one g s End allowed leading net e in (λ i. q.0 (subst (λ (l : List ℕ). OneLeads g l allowed leading End) is (h.0 i)), λ w. h.1 (subst (λ (l : List ℕ). OneLeads g l allowed leading End) (sym is) (q.1 w)))
    at Any f e h = absurd (f refl)
