-- What permission leaves of a walk, by the nodes that can be passed.
use Rattle.std.specs.Prelude.{ℕ, ◌+◌, ◌<◌, ◌≤◌, ◌==◌, Bool, true, false, List, [], ◌∷◌, ◌++◌, ◌≡◌, ◌↔◌, ◌⊎◌, ◌&&◌, Option, Some, None, refl, length, IsTrue, not}
use Rattle.std.specs.List.{list_all}
use Rattle.std.proofs.Common.{ap, sym, ◌∙◌, subst, arith, filter, inl, inr}
use Rattle.std.proofs.lemmas.Bool.{and_from, eq-eqb, and_parts}
use Rattle.hmsc_graph.specs.Graphs.{Net, Spot, At, Goal, To, End, Any, WalkThrough, last, step, reach}
use Rattle.msc_base.specs.Lists.{IsIn}
use Rattle.hmsc_graph.specs.Nets.{IsNet, size_of}
use Rattle.hmsc_graph.specs.Spots.{spot_of, goal_of, IsSpotBelow, IsGoalBelow}
use Rattle.hmsc_graph.specs.declared.spot.Spot.{Spot as SpotShown}
use Rattle.hmsc_graph.specs.declared.spot.Goal.{Goal as GoalShown}
use Rattle.hmsc_graph.specs.declared.spot.Spot.TheVariants.{Start as StartSpot, Node as NodeSpot}
use Rattle.hmsc_graph.specs.declared.spot.Goal.TheVariants.{Node as NodeGoal, End as EndGoal, Any as AnyGoal}
use Rattle.hmsc_graph.specs.Walks.{Leads}
use Rattle.hmsc_graph.proofs.Reaching.{more_allowed, glue, reach_sound, reach_whole}
use Rattle.hmsc_graph.proofs.SearchFacts.{due_below, walk_below}
use Rattle.chart_term.specs.NormalForms.{NetPermits, only, is_nil, some_kept, allowed, are_nil, walk_form, walk_cut}
use Rattle.chart_term.specs.Tables.{Tables, net_count, net_of, nodes_of, node_of, count_from, choose}
use Rattle.chart_term.specs.Terms.{Tree, Nil, Walk}
use Rattle.chart_term.proofs.Walking.{out_filter, in_filter}
use Rattle.chart_term.proofs.Lists.{count_length}
use Rattle.term_laws.specs.Normality.{IsSet}
use Rattle.term_permission.specs.Fresh.{IsAimed}
use Rattle.bit_sets.specs.NodeSets.{NodeSetValue}
use Rattle.hmsc_graph.specs.declared.search.Traversal.{Traversal}
use Rattle.term_permission.specs.Passing.{ArePassable, IsPassing, HasVisited, HaveCommon}
use Rattle.term_permission.specs.declared.passing.Passable.{Passable}
use Rattle.term_permission.specs.declared.remnant.Remnant.{Remnant}
use Rattle.term_permission.specs.Remnants.{is_full, RemnantSays}
use Rattle.term_laws.specs.Permission.{permit, permits_of}
use Rattle.term_permission.specs.Ready.{IsReady, AreReadyTables, IsSpotWithin, IsGoalWithin}
use Rattle.term_laws.proofs.Measures.{rank_in}
use Rattle.term_permission.proofs.NodeTerms.{node-is, sizes-are}
use Rattle.term_laws.proofs.TermSentences.{net_rank}

-- members of filtered lists and of counted ones

counted : (i m : ℕ) (xs : List Tree) → IsIn m (count_from i xs) → (i ≤ m) × (m < i + length xs)
counted i m [] h = absurd h
counted i m (x ∷ xs) (inl e) = (omega arith, omega arith)
counted i m (x ∷ xs) (inr h) = let r = counted (i + 1) m xs h in (omega (arith, r.0), omega (arith, r.1))

in_count : (i m : ℕ) (xs : List Tree) → i ≤ m → m < i + length xs → IsIn m (count_from i xs)
in_count i m [] l h = absurd (omega arith)
in_count i m (x ∷ xs) l h = elim (same_or_more i m l) [ inl e ↦ inl (sym e) | inr k ↦ inr (in_count (i + 1) m xs (omega arith) (omega arith)) ]
  where
    same_or_more : (i m : ℕ) → i ≤ m → (i ≡ m) ⊎ (i < m)
    same_or_more i m l = grind arith

pub nodes_in : (w : Tables) (n m : ℕ) → IsIn m (nodes_of w n) ↔ (m < length (nodes_of w n))
nodes_in [] n m = (λ h. absurd h, λ l. absurd (omega arith))
nodes_in (e ∷ es) n m = go (n == net_count es) (nodes_in es n m)
  where
    go : (t : Bool) → (IsIn m (nodes_of es n) ↔ (m < length (nodes_of es n))) → IsIn m (choose t (count_from 0 e.nodes) (nodes_of es n)) ↔ (m < length (choose t (count_from 0 e.nodes) (nodes_of es n)))
    go true h = (λ i. omega (arith, (counted 0 m e.nodes i).1, count_length 0 e.nodes), λ l. in_count 0 m e.nodes (omega arith) (omega (arith, count_length 0 e.nodes)))
    go false h = h

lead_walk : (g : Net) (ks : List ℕ) (s : Spot) (t : Goal) → IsAimed t → Leads g ks s t → WalkThrough g ks s t
lead_walk g ks s (To m) a h = h
lead_walk g ks s End a h = h
lead_walk g ks s Any a h = absurd a

walk_lead : (g : Net) (ks : List ℕ) (s : Spot) (t : Goal) → WalkThrough g ks s t → Leads g ks s t
walk_lead g ks s (To m) h = h
walk_lead g ks s End h = h
walk_lead g ks s Any h = tt

all_false : (p : ℕ → Bool) (ms : List ℕ) (m : ℕ) → IsIn m ms → p m ≡ false → list_all p ms ≡ false
all_false p [] m h e = absurd h
all_false p (n ∷ ms) m (inl i) e = ap (λ t. t && list_all p ms) (ap p (sym i) ∙ e)
all_false p (n ∷ ms) m (inr i) e = ap (λ t. p n && t) (all_false p ms m i e) ∙ and_no (p n)
  where
    and_no : (b : Bool) → (b && false) ≡ false
    and_no true = refl
    and_no false = refl

all_true : (p : ℕ → Bool) (ms : List ℕ) → ((m : ℕ) → IsIn m ms → p m ≡ true) → list_all p ms ≡ true
all_true p [] f = refl
all_true p (n ∷ ms) f = and_from (p n) (list_all p ms) (f n (inl refl)) (all_true p ms (λ m i. f m (inr i)))

full_is : (o : Option Tree) → is_full o ≡ true → (some_kept o ≡ true) × (is_nil o ≡ false)
full_is None h = cc
full_is (Some x) h = (refl, not_true (is_nil (Some x)) h)
  where
    not_true : (b : Bool) → not b ≡ true → b ≡ false
    not_true true q = cc
    not_true false q = refl

nil_or_full : (o : Option Tree) → some_kept o ≡ true → (is_full o ≡ true → ⊥) → is_nil o ≡ true
nil_or_full None h f = cc
nil_or_full (Some x) h f = go (is_nil (Some x)) f
  where
    go : (b : Bool) → (not b ≡ true → ⊥) → b ≡ true
    go true f = refl
    go false f = absurd (f refl)

module _ (w : Tables) (n : ℕ) (c : List ℕ) (s : Spot) (ms ns : List ℕ) (net : IsNet (net_of w n)) (h : ArePassable (net_of w n) (allowed (permits_of w) n c) (λ m. (permits_of w).kept n m c) s ms ns) where
  abbrev g : Net
  g = net_of w n

  abbrev ks : List ℕ
  ks = allowed (permits_of w) n c

  abbrev kept_at : ℕ → Option Tree
  kept_at m = (permits_of w).kept n m c

  to_allowed : (m : ℕ) → IsIn m ms → IsIn m ks
  to_allowed m i = ((h.passes m).0 i).1

  -- a walk on from a node that can be passed passes nodes that are reached
  walk_on : (m : ℕ) (t : Goal) → IsIn m ms → WalkThrough g ks (At m) t → WalkThrough g ms (At m) t
  walk_on m t i (last j k a) = last j k a
  walk_on m t i (step j k l u) =
      let p = (h.passes m).0 i in
      let here : IsIn j ms = (h.passes j).1 (glue p.1 p.0 (last j k (eq-eqb j j refl)), l) in
      step j k here (walk_on j t here u)

  walk_begun : (t : Goal) → WalkThrough g ks s t → WalkThrough g ms s t
  walk_begun t (last j k a) = last j k a
  walk_begun t (step j k l u) =
      let here : IsIn j ms = (h.passes j).1 (last j k (eq-eqb j j refl), l) in
      step j k here (walk_on j t here u)

  -- the nodes that walks through the passable ones reach are those that walks through the allowed ones reach
  pub reached-exact : (f : Net) → f ≡ net_of w n → (rs : List ℕ) → ((m : ℕ) → IsIn m rs ↔ WalkThrough f ms s (To m)) → (m : ℕ) → IsIn m rs ↔ WalkThrough g ks s (To m)
  reached-exact f same rs r m = (
    λ i. more_allowed to_allowed (subst (λ (e : Net). WalkThrough e ms s (To m)) same ((r m).0 i)),
    λ v. (r m).1 (subst (λ (e : Net). WalkThrough e ms s (To m)) (sym same) (walk_begun (To m) v)),
  )

  module _ (t : Goal) (a : IsAimed t) where
    leads_reach : (f : Spot) → Leads g ms f t → reach g ks f t ≡ true
    leads_reach f i = reach_whole g ks f t (more_allowed to_allowed (lead_walk g ms f t a i))

    reach_leads : reach g ks s t ≡ true → Leads g ms s t
    reach_leads e = walk_lead g ms s t (walk_begun t (reach_sound g ks s t e))

    module _ (leading : List ℕ) (exact : (m : ℕ) → m < size_of g → IsIn m leading ↔ Leads g ms (At m) t) where
      full_false : HaveCommon ns leading → are_nil (permits_of w) n s t c ks ≡ false
      full_false (m, i, v) =
          let r = (h.fills m).0 i in
          let p = (h.passes m).0 r.0 in
          let below : m < size_of g = walk_below g ks s m net p.0 in
          let way : (reach g ks s (To m) && reach g ks (At m) t) ≡ true = and_from (reach g ks s (To m)) (reach g ks (At m) t) (reach_whole g ks s (To m) p.0) (leads_reach (At m) ((exact m below).0 v)) in
          all_false (λ j. is_nil ((permits_of w).kept n j c)) (filter (λ j. reach g ks s (To j) && reach g ks (At j) t) ks) m (in_filter (λ j. reach g ks s (To j) && reach g ks (At j) t) ks m p.1 way) (full_is (kept_at m) r.1).1

      no_full_true : (HaveCommon ns leading → ⊥) → are_nil (permits_of w) n s t c ks ≡ true
      no_full_true f =
          all_true (λ j. is_nil ((permits_of w).kept n j c)) (filter (λ j. reach g ks s (To j) && reach g ks (At j) t) ks)
          (λ m i.
          let r = out_filter (λ j. reach g ks s (To j) && reach g ks (At j) t) ks m i in
          let u : WalkThrough g ks s (To m) = reach_sound g ks s (To m) ((and_parts (reach g ks s (To m)) (reach g ks (At m) t) r.1).0) in
          let v : WalkThrough g ks (At m) t = reach_sound g ks (At m) t ((and_parts (reach g ks s (To m)) (reach g ks (At m) t) r.1).1) in
          let here : IsIn m ms = (h.passes m).1 (u, r.0) in
          let below : m < size_of g = walk_below g ks s m net u in
          nil_or_full (kept_at m) (out_filter (λ j. some_kept ((permits_of w).kept n j c)) (nodes_of w n) m r.0).1
          (λ q. f (m, (h.fills m).1 (here, q), (exact m below).1 (walk_lead g ms (At m) t (walk_on m t here v)))))

      cut_is : walk_cut (permits_of w) n s t c ≡ walk_form (reach g ks s t) (are_nil (permits_of w) n s t c ks) (Walk n s t c)
      cut_is = at t a
        where
          at : (u : Goal) → IsAimed u → walk_cut (permits_of w) n s u c ≡ walk_form (reach g ks s u) (are_nil (permits_of w) n s u c ks) (Walk n s u c)
          at (To m) b = refl
          at End b = refl
          at Any b = absurd b

      pub walk-none : (Leads g ms s t → ⊥) → walk_cut (permits_of w) n s t c ≡ None
      walk-none f = cut_is ∙ go (reach g ks s t) refl
        where
          go : (b : Bool) → reach g ks s t ≡ b → walk_form b (are_nil (permits_of w) n s t c ks) (Walk n s t c) ≡ None
          go true e = absurd (f (reach_leads e))
          go false e = refl

      pub walk-full : Leads g ms s t → HaveCommon ns leading → walk_cut (permits_of w) n s t c ≡ Some (Walk n s t c)
      walk-full l p = cut_is ∙ (λ i. walk_form (leads_reach s l i) (full_false p i) (Walk n s t c))

      pub walk-nil : Leads g ms s t → (HaveCommon ns leading → ⊥) → walk_cut (permits_of w) n s t c ≡ Some Nil
      walk-nil l f = cut_is ∙ (λ i. walk_form (leads_reach s l i) (no_full_true f i) (Walk n s t c))

-- what the searches said
module _ (w : Tables) (n : ℕ) (c ms ns leading : List ℕ) (s : Spot) (t : Goal) (g : Net) (same : g ≡ net_of w n) (net : IsNet (net_of w n)) (aim : IsAimed t)
    (h : ArePassable (net_of w n) (allowed (permits_of w) n c) (λ m. (permits_of w).kept n m c) s ms ns) (led : (m : ℕ) → m < size_of g → IsIn m leading ↔ Leads g ms (At m) t) where
  exact : (m : ℕ) → m < size_of (net_of w n) → IsIn m leading ↔ Leads (net_of w n) ms (At m) t
  exact = subst (λ (f : Net). (m : ℕ) → m < size_of f → IsIn m leading ↔ Leads f ms (At m) t) same led

  module _ (b : Bool) (leads : IsTrue b ↔ Leads g ms s t) where
    to_lead : b ≡ true → Leads (net_of w n) ms s t
    to_lead e = subst (λ (f : Net). Leads f ms s t) same (leads.0 e)

    pub walk-lost : b ≡ false → None ≡ walk_cut (permits_of w) n s t c
    walk-lost e = sym (walk-none w n c s ms ns net h t aim leading exact (λ l. let q : b ≡ true = leads.1 (subst (λ (f : Net). Leads f ms s t) (sym same) l) in cc))

    module _ (d : Bool) (common : IsTrue d ↔ HaveCommon ns leading) (there : b ≡ true) where
      pub walk-passes : d ≡ true → Some (Walk n s t c) ≡ walk_cut (permits_of w) n s t c
      walk-passes e = sym (walk-full w n c s ms ns net h t aim leading exact (to_lead there) (common.0 e))

      pub walk-empty : d ≡ false → Some Nil ≡ walk_cut (permits_of w) n s t c
      walk-empty e = sym (walk-nil w n c s ms ns net h t aim leading exact (to_lead there) (λ p. let q : d ≡ true = common.1 p in cc))

pub walk-any : (k : NetPermits) (n : ℕ) (s : Spot) (t : Goal) (c : List ℕ) → t ≡ Any → Some (Walk n s t c) ≡ walk_cut k n s t c
walk-any k n s t c e = rw e refl

-- a walk that is ready
pub record IsReadyWalk (w : Tables) (x : Tree) (n : ℕ) (f : SpotShown) (t : GoalShown) (c : List ℕ) : Type 0 where
  pub net : n < net_count w
  pub from : IsSpotBelow (size_of (net_of w n)) f
  pub to : IsGoalBelow (size_of (net_of w n)) t
  pub set : IsSet c
  pub rank : net_rank w n < rank_in w x

spot_below : (a b : ℕ) (f : SpotShown) → b ≡ a → IsSpotWithin b (spot_of f) → IsSpotBelow a f
spot_below a b StartSpot e h = tt
spot_below a b (NodeSpot m) e h = omega arith

goal_below : (a b : ℕ) (t : GoalShown) → b ≡ a → IsGoalWithin b (goal_of t) → IsGoalBelow a t
goal_below a b (NodeGoal m) e h = omega arith
goal_below a b EndGoal e h = tt
goal_below a b AnyGoal e h = tt

walk_ready : (w : Tables) (n : ℕ) (f : SpotShown) (t : GoalShown) (c : List ℕ) → AreReadyTables w → IsReady w (Walk n (spot_of f) (goal_of t) c) → IsReadyWalk w (Walk n (spot_of f) (goal_of t) c) n f t c
walk_ready w n f t c r h =
    let sized : length (nodes_of w n) ≡ size_of (net_of w n) = sym (sizes-are w r n h.within.0) in
    record {
      net = h.within.0;
      from = spot_below (size_of (net_of w n)) (length (nodes_of w n)) f sized h.within.1;
      to = goal_below (size_of (net_of w n)) (length (nodes_of w n)) t sized h.within.2;
      set = h.normal.set;
      rank = omega arith;
    }

pub ready-walk : (w : Tables) (x : Tree) (n : ℕ) (f : SpotShown) (t : GoalShown) (c : List ℕ) → AreReadyTables w → x ≡ Walk n (spot_of f) (goal_of t) c → IsReady w x → IsReadyWalk w x n f t c
ready-walk w x n f t c r e h = rw e (walk_ready w n f t c r (rw e at h))

-- a node is allowed where permission leaves something of it
pub node-allowed : (w : Tables) → AreReadyTables w → (n : ℕ) → n < net_count w → (c : List ℕ) (m : ℕ) → m < size_of (net_of w n) → IsIn m (allowed (permits_of w) n c) ↔ (some_kept ((permits_of w).kept n m c) ≡ true)
node-allowed w ready n known c m l = (
  λ i. (out_filter (λ j. some_kept ((permits_of w).kept n j c)) (nodes_of w n) m i).1,
  λ e. in_filter (λ j. some_kept ((permits_of w).kept n j c)) (nodes_of w n) m ((nodes_in w n m).1 (omega (arith, sizes-are w ready n known))) e,
)

-- one node more is looked at
module _ (w : Tables) (ready : AreReadyTables w) (n : ℕ) (known : n < net_count w) (c : List ℕ) (s : Spot) (g : Net) (same : g ≡ net_of w n) where
  abbrev Passes : List ℕ → List ℕ → List ℕ → List ℕ → Type 0
  Passes reached waits passed full = IsPassing (net_of w n) (allowed (permits_of w) n c) (λ m. (permits_of w).kept n m c) s reached waits passed full

  pub node-below : (reached : NodeSetValue) (waits rest passed full : List ℕ) (node : ℕ) → IsNet g → waits ≡ rest ++ node ∷ [] → Passes reached.nodes waits passed full → node < size_of (net_of w n)
  node-below reached waits rest passed full node net is h = due_below (net_of w n) (allowed (permits_of w) n c) s reached waits rest node is h.search (subst IsNet same net)

  pub passing-next : (node : ℕ) (left : Remnant) (was popped is : Traversal) (had has : Passable) → IsNet g → popped.reached ≡ was.reached → was.waiting.items ≡ popped.waiting.items ++ node ∷ [] → RemnantSays left (permit (permits_of w) (only c) (node_of w n node))
      → HasVisited g node left popped had is has → had.passed.size ≡ size_of (net_of w n) → was.reached.size ≡ size_of (net_of w n) → Passes was.reached.nodes was.waiting.items had.passed.nodes had.full
      → (has.passed.size ≡ size_of (net_of w n)) × (is.reached.size ≡ size_of (net_of w n)) × Passes is.reached.nodes is.waiting.items has.passed.nodes has.full
  passing-next node left was popped is had has net reached waits says h size sized b =
      let below : node < size_of (net_of w n) = node-below was.reached was.waiting.items popped.waiting.items had.passed.nodes had.full node net waits b in
      let term = node-is w ready n node known (omega (arith, sizes-are w ready n known)) in
      let told : RemnantSays left ((permits_of w).kept n node c) = subst (RemnantSays left) (sym (term.kept c)) says in
      let before : Passes popped.reached.nodes (popped.waiting.items ++ node ∷ []) had.passed.nodes had.full =
      subst (λ l. Passes popped.reached.nodes l had.passed.nodes had.full) waits (subst (λ (r : NodeSetValue). Passes r.nodes was.waiting.items had.passed.nodes had.full) (sym reached) b) in
      let visited : HasVisited (net_of w n) node left popped had is has = subst (λ (f : Net). HasVisited f node left popped had is has) same h in (
        h.size ∙ size,
        h.reached ∙ (ap (λ (r : NodeSetValue). r.size) reached ∙ sized),
        visited.passing (allowed (permits_of w) n c) (λ m. (permits_of w).kept n m c) s (node-allowed w ready n known c node below) told before,
      )

pub ruleset walks = (node-is, sizes-are, walk-any)
