-- Steps of a search, and the ways that they make.
use Rattle.std.proofs.Common.{ℕ, zero, suc, ◌+◌, ◌<◌, ◌≤◌, ◌≡◌, ◌↔◌, ◌⊎◌, inl, inr, List, [], ◌∷◌, ◌++◌, length, map, true, false, Option, Some, None, slice_get, refl, sym, subst, arith, ap, ◌∙◌, length-append, reverse}
use Rattle.std.proofs.lemmas.List.{append-nil, append_assoc, length-map, map-append, reverse-append}
use Rattle.std.proofs.lemmas.Option.{slice_get_within}
use Rattle.std.proofs.lemmas.Bool.{true≢false, eqb-true, eq-eqb}
use Rattle.bit_sets.specs.NodeSets.{NodeSetValue, HasNoNodes}
use Rattle.hmsc_graph.specs.Graphs.{Net, Spot, At, Goal, To, WalkThrough, last, step, arrives, behind}
use Rattle.hmsc_graph.specs.Nets.{IsNet, size_of}
use Rattle.hmsc_graph.specs.Searches.{missing}
use Rattle.hmsc_graph.specs.Steps.{AreBack, AreSteps, HaveMet, IsBehind, IsEarlier, IsEndOfWay, IsSearched, LeadTo, nodes_of, steps_back}
use Rattle.hmsc_graph.specs.Ways.{IsWay}
use Rattle.hmsc_graph.specs.declared.ways.Step.{Step}
use Rattle.hmsc_graph.proofs.MemberFacts.{pushed_in, more_cases, more_keeps, more_has}
use Rattle.hmsc_graph.proofs.SearchFacts.{behind_below, missing_added}
use Rattle.msc_base.specs.Lists.{IsIn}
use Rattle.list_facts.proofs.Reading.{get_left}
use Rattle.list_facts.proofs.Members.{among_left, among_right, among_snoc}

-- a step to the node
abbrev step_to : Option ℕ → ℕ → Step
step_to before node = record { node = node; before = before }

-- no node has been met
pub met_none : (before : Option ℕ) (met : NodeSetValue) (steps : List Step) → HaveMet [] before met steps met steps
met_none before met steps = record {
  fresh = [];
  size = refl;
  steps = sym (append-nil steps);
  given = λ m i. absurd i;
  met = λ m. (λ i. inl i, λ i. elim i [ inl o ↦ o | inr none ↦ absurd none ]);
  all = λ m i. absurd i;
  work = omega arith;
}

module _ (ns more : List ℕ) (x : ℕ) (before : Option ℕ) (was : NodeSetValue) (had : List Step) (r : NodeSetValue) (steps : List Step) (is : more ≡ ns ++ x ∷ []) (h : HaveMet ns before was had r steps) where
  -- one more node that was met before
  pub met_known : IsIn x r.nodes → HaveMet more before was had r steps
  met_known known = record {
    fresh = h.fresh;
    size = h.size;
    steps = h.steps;
    given = λ m i. more_keeps ns more x is m (h.given m i);
    met = h.met;
    all = λ m i. elim (more_cases ns more x is m i) [ inl l ↦ h.all m l | inr e ↦ subst (λ (n : ℕ). IsIn n r.nodes) (sym e) known ];
    work = h.work;
  }

  -- a step to one more node
  pub met_new : (s : NodeSetValue) (after : List Step) → s.size ≡ r.size → ((n : ℕ) → IsIn n s.nodes ↔ (IsIn n r.nodes ⊎ (n ≡ x))) → (IsIn x r.nodes → ⊥) → x < r.size → after ≡ steps ++ step_to before x ∷ [] → HaveMet more before was had s after
  met_new s after size nodes new below e = record {
    fresh = h.fresh ++ x ∷ [];
    size = size ∙ h.size;
    steps = e ∙ ap (λ l. l ++ step_to before x ∷ []) h.steps ∙ append_assoc had (map (step_to before) h.fresh) (step_to before x ∷ []) ∙ ap (λ l. had ++ l) (sym (map-append (step_to before) h.fresh (x ∷ [])));
    given = λ m i. elim (among_snoc h.fresh x m i) [ inl l ↦ more_keeps ns more x is m (h.given m l) | inr q ↦ more_has ns more x is m q ];
    met = λ m. (
      λ i. elim ((nodes m).0 i) [ inl l ↦ elim ((h.met m).0 l) [ inl o ↦ inl o | inr f ↦ inr (among_left h.fresh (x ∷ []) m f) ] | inr q ↦ inr (pushed_in m x h.fresh q) ],
      λ i. elim i [ inl o ↦ (nodes m).1 (inl ((h.met m).1 (inl o))) | inr f ↦ elim (among_snoc h.fresh x m f) [ inl l ↦ (nodes m).1 (inl ((h.met m).1 (inr l))) | inr q ↦ (nodes m).1 (inr q) ] ],
    );
    all = λ m i. elim (more_cases ns more x is m i) [ inl l ↦ (nodes m).1 (inl (h.all m l)) | inr q ↦ (nodes m).1 (inr q) ];
    work = omega (arith, grown, h.work, length-append h.fresh (x ∷ []));
  }
    where
      grown : missing s.nodes s.size + 1 ≡ missing r.nodes r.size
      grown = ap (λ (k : ℕ). missing s.nodes k + 1) size ∙ missing_added r.nodes s.nodes x r.size nodes new below

-- a step that was taken before, or one to a new node
get_step : (before : Option ℕ) (had : List Step) (fresh : List ℕ) (i : ℕ) (x : Step) → slice_get (had ++ map (step_to before) fresh) i ≡ Some x → (slice_get had i ≡ Some x) ⊎ ((m : ℕ) × (length had ≤ i) × IsIn m fresh × (step_to before m ≡ x))
get_step before [] [] i x h = cc
get_step before [] (m ∷ fresh) zero x h = inr (m, omega arith, inl refl, cc)
get_step before [] (m ∷ fresh) (suc i) x h = elim (get_step before [] fresh i x h) [
  | inl none ↦ cc
  | inr p ↦ inr (p.0, omega arith, inr p.2, p.3)
]
get_step before (y ∷ had) fresh zero x h = inl h
get_step before (y ∷ had) fresh (suc i) x h = elim (get_step before had fresh i x h) [
  | inl e ↦ inl e
  | inr p ↦ inr (p.0, omega (arith, p.1), p.2, p.3)
]

nodes_split : (before : Option ℕ) (had : List Step) (fresh : List ℕ) → nodes_of (had ++ map (step_to before) fresh) ≡ nodes_of had ++ fresh
nodes_split before [] [] = refl
nodes_split before [] (m ∷ fresh) = ap (λ l. m ∷ l) (nodes_split before [] fresh)
nodes_split before (y ∷ had) fresh = ap (λ l. y.node ∷ l) (nodes_split before had fresh)

-- the step to a node
step_at : (steps : List Step) (m : ℕ) → IsIn m (nodes_of steps) → (i : ℕ) × (x : Step) × (slice_get steps i ≡ Some x) × (x.node ≡ m)
step_at [] m i = absurd i
step_at (y ∷ steps) m (inl e) = (0, y, refl, sym e)
step_at (y ∷ steps) m (inr r) = let p = step_at steps m r in (suc p.0, p.1, p.2, p.3)

pub node_in : (steps : List Step) (i : ℕ) (x : Step) → slice_get steps i ≡ Some x → IsIn x.node (nodes_of steps)
node_in [] i x h = cc
node_in (y ∷ steps) zero x h = inl (let e : y ≡ x = cc in ap (λ (s : Step). s.node) (sym e))
node_in (y ∷ steps) (suc i) x h = inr (node_in steps i x h)

module _ (g : Net) (ks : List ℕ) (s : Spot) where
  -- what stands behind an earlier step does so when there are more
  behind_kept : (had fresh : List Step) (i j : ℕ) (b : Option ℕ) (m : ℕ) → i ≤ j → IsBehind g ks s had i b m → IsBehind g ks s (had ++ fresh) j b m
  behind_kept had fresh i j None m le h = h
  behind_kept had fresh i j (Some k) m le (from, lt, at, may, there) = (from, omega arith, get_left had fresh k from at, may, there)

  -- steps to nodes behind the spot, or behind one of the steps
  pub more_steps : (nodes : List ℕ) (before : Option ℕ) (was : NodeSetValue) (had : List Step) (is : NodeSetValue) (have : List Step) → HaveMet nodes before was had is have
      → ((m : ℕ) → IsIn m nodes → IsBehind g ks s had (length had) before m) → AreSteps g ks s had → AreSteps g ks s have
  more_steps nodes before was had is have h placed are i x at = elim (get_step before had h.fresh i x (subst (λ (l : List Step). slice_get l i ≡ Some x) h.steps at)) [
    | inl old ↦ subst (λ (l : List Step). IsBehind g ks s l i x.before x.node) (sym h.steps) (behind_kept had (map (step_to before) h.fresh) i i x.before x.node (omega arith) (are i x old))
    | inr p ↦ subst (λ (l : List Step). IsBehind g ks s l i x.before x.node) (sym h.steps)
        (subst (λ (y : Step). IsBehind g ks s (had ++ map (step_to before) h.fresh) i y.before y.node) p.3
        (behind_kept had (map (step_to before) h.fresh) (length had) i before p.0 p.1 (placed p.0 (h.given p.0 p.2))))
  ]

  -- each step names an earlier one
  pub steps_are_back : (steps : List Step) → AreSteps g ks s steps → AreBack steps
  steps_are_back steps are i x at = earlier_one x.before (are i x at)
    where
      earlier_one : (b : Option ℕ) → IsBehind g ks s steps i b x.node → IsEarlier b i
      earlier_one None h = tt
      earlier_one (Some k) h = h.1

  -- each step comes to a node
  pub steps_below : (steps : List Step) → IsNet g → AreSteps g ks s steps → (m : ℕ) → IsIn m (nodes_of steps) → m < size_of g
  steps_below steps net are m i = let p = step_at steps m i in subst (λ (n : ℕ). n < size_of g) p.3 (below p.0 p.1.node p.1.before (are p.0 p.1 p.2))
    where
      below : (j n : ℕ) (b : Option ℕ) → IsBehind g ks s steps j b n → n < size_of g
      below j n None h = behind_below g s n net h
      below j n (Some k) (from, lt, at, may, there) = behind_below g (At from.node) n net there

module _ (nodes : List ℕ) (before : Option ℕ) (was : NodeSetValue) (had : List Step) (is : NodeSetValue) (have : List Step) (h : HaveMet nodes before was had is have) where
  still_there : (m : ℕ) → IsIn m (nodes_of had) → IsIn m (nodes_of have)
  still_there m i = subst (λ l. IsIn m l) (sym (ap nodes_of h.steps ∙ nodes_split before had h.fresh)) (among_left (nodes_of had) h.fresh m i)

  fresh_there : (m : ℕ) → IsIn m h.fresh → IsIn m (nodes_of have)
  fresh_there m i = subst (λ l. IsIn m l) (sym (ap nodes_of h.steps ∙ nodes_split before had h.fresh)) (among_right (nodes_of had) h.fresh m i)

  met_there : ((m : ℕ) → IsIn m was.nodes → IsIn m (nodes_of had)) → (m : ℕ) → IsIn m is.nodes → IsIn m (nodes_of have)
  met_there there m i = elim ((h.met m).0 i) [ inl o ↦ still_there m (there m o) | inr f ↦ fresh_there m f ]

  pub met_work : missing is.nodes is.size + length have ≤ missing was.nodes was.size + length had
  met_work = omega (arith, h.work, ap length h.steps, length-append had (map (step_to before) h.fresh), length-map h.fresh (step_to before))

  -- a search begins
  pub searched_first : (g : Net) (ks : List ℕ) (s : Spot) → behind g s ≡ nodes → before ≡ None → HasNoNodes was → had ≡ [] → was.size ≡ size_of g → IsSearched g ks s is have 0
  searched_first g ks s behind_ first none empty size = record {
    size = h.size ∙ size;
    are = more_steps g ks s nodes before was had is have h
        (λ m i. subst (λ (b : Option ℕ). IsBehind g ks s had (length had) b m) (sym first) (subst (λ l. IsIn m l) (sym behind_) i))
        (subst (λ (l : List Step). AreSteps g ks s l) (sym empty) (λ i x at. cc));
    met_nodes = met_there (λ m i. absurd (none m i));
    begun = λ m i. met_there (λ n j. absurd (none n j)) m (h.all m (subst (λ l. IsIn m l) behind_ i));
    followed = λ j from lt. absurd (omega (arith, lt));
  }

  -- a search goes on behind a step
  pub searched_on : (g : Net) (ks : List ℕ) (s : Spot) (index : ℕ) (from : Step) → before ≡ Some index → slice_get had index ≡ Some from → IsIn from.node ks → behind g (At from.node) ≡ nodes → IsSearched g ks s was had index → IsSearched g ks s is have (index + 1)
  searched_on g ks s index from back at may behind_ b = record {
    size = h.size ∙ b.size;
    are = more_steps g ks s nodes before was had is have h
        (λ m i. subst (λ (o : Option ℕ). IsBehind g ks s had (length had) o m) (sym back) (from, slice_get_within had index from at, at, may, subst (λ l. IsIn m l) (sym behind_) i))
        b.are;
    met_nodes = met_there b.met_nodes;
    begun = λ m i. still_there m (b.begun m i);
    followed = λ j x lt there pass m i. follow j x (there_before j lt) (get_before j x lt there) pass m i;
  }
    where
      there_before : (j : ℕ) → j < index + 1 → (j < index) ⊎ (j ≡ index)
      there_before j lt = grind arith

      get_before : (j : ℕ) (x : Step) → j < index + 1 → slice_get have j ≡ Some x → slice_get had j ≡ Some x
      get_before j x lt there = elim (get_step before had h.fresh j x (subst (λ (l : List Step). slice_get l j ≡ Some x) h.steps there)) [
        | inl old ↦ old
        | inr p ↦ absurd (omega (arith, p.1, lt, slice_get_within had index from at))
      ]

      follow : (j : ℕ) (x : Step) → (j < index) ⊎ (j ≡ index) → slice_get had j ≡ Some x → IsIn x.node ks → (m : ℕ) → IsIn m (behind g (At x.node)) → IsIn m (nodes_of have)
      follow j x (inl lt) there pass m i = still_there m (b.followed j x lt there pass m i)
      follow j x (inr e) there pass m i =
          let same : Some x ≡ Some from = sym there ∙ ap (slice_get had) e ∙ at in
          let one : x ≡ from = cc in
          met_there b.met_nodes m (h.all m (subst (λ l. IsIn m l) behind_ (subst (λ (y : Step). IsIn m (behind g (At y.node))) one i)))

-- a search doesn't go on behind a step that may not be passed
pub searched_past : (g : Net) (ks : List ℕ) (s : Spot) (met : NodeSetValue) (steps : List Step) (index : ℕ) (from : Step) → slice_get steps index ≡ Some from → (IsIn from.node ks → ⊥) → IsSearched g ks s met steps index → IsSearched g ks s met steps (index + 1)
searched_past g ks s met steps index from at shut b = record {
  size = b.size;
  are = b.are;
  met_nodes = b.met_nodes;
  begun = b.begun;
  followed = λ j x lt there pass m i. follow j x (there_before j lt) there pass m i;
}
  where
    there_before : (j : ℕ) → j < index + 1 → (j < index) ⊎ (j ≡ index)
    there_before j lt = grind arith

    follow : (j : ℕ) (x : Step) → (j < index) ⊎ (j ≡ index) → slice_get steps j ≡ Some x → IsIn x.node ks → (m : ℕ) → IsIn m (behind g (At x.node)) → IsIn m (nodes_of steps)
    follow j x (inl lt) there pass m i = b.followed j x lt there pass m i
    follow j x (inr e) there pass m i =
        let same : Some x ≡ Some from = sym there ∙ ap (slice_get steps) e ∙ at in
        let one : x ≡ from = cc in
        absurd (shut (subst (λ (y : Step). IsIn y.node ks) one pass))

-- a search that has gone on behind all its steps has met what walks lead to
pub searched_all : (g : Net) (ks : List ℕ) (s : Spot) (met : NodeSetValue) (steps : List Step) (count : ℕ) → length steps ≤ count → IsSearched g ks s met steps count → (m : ℕ) → WalkThrough g ks s (To m) → IsIn m (nodes_of steps)
searched_all g ks s met steps count over b m w = along s b.begun w
  where
    there : (n : ℕ) → IsIn n (nodes_of steps) → IsIn n ks → (k : ℕ) → IsIn k (behind g (At n)) → IsIn k (nodes_of steps)
    there n i may k j =
        let p = step_at steps n i in
        let at : slice_get steps p.0 ≡ Some p.1 = p.2 in
        let same : p.1.node ≡ n = p.3 in
        b.followed p.0 p.1 (omega (arith, over, slice_get_within steps p.0 p.1 at)) at (subst (λ (x : ℕ). IsIn x ks) (sym same) may) k (subst (λ (x : ℕ). IsIn k (behind g (At x))) (sym same) j)

    along : (f : Spot) → ((n : ℕ) → IsIn n (behind g f) → IsIn n (nodes_of steps)) → WalkThrough g ks f (To m) → IsIn m (nodes_of steps)
    along f next (last n i a) = subst (λ (x : ℕ). IsIn x (nodes_of steps)) (eqb-true n m a) (next n i)
    along f next (step n i j w) = along (At n) (there n (next n i) j) w

-- a walk to a goal is one to a node that is there
pub walk_to_node : (g : Net) (ks : List ℕ) (s : Spot) (t : Goal) → WalkThrough g ks s t → (m : ℕ) × WalkThrough g ks s (To m) × (arrives g t m ≡ true)
walk_to_node g ks s t (last m i a) = (m, last m i (eq-eqb m m refl), a)
walk_to_node g ks s t (step m i j w) = let p = walk_to_node g ks (At m) t w in (p.0, step m i j p.1, p.2)

pub no_walk : (g : Net) (ks : List ℕ) (s : Spot) (t : Goal) (steps : List Step) → ((m : ℕ) → WalkThrough g ks s (To m) → IsIn m (nodes_of steps)) → ((m : ℕ) → IsIn m (nodes_of steps) → arrives g t m ≡ false) → WalkThrough g ks s t → ⊥
no_walk g ks s t steps all none w = let p = walk_to_node g ks s t w in true≢false (sym p.2 ∙ none p.0 (all p.0 p.1))

-- the end of a way with the node before it
longer_way : (g : Net) (ks : List ℕ) (s : Spot) (t : Goal) (m : ℕ) (nodes : List ℕ) → IsIn m (behind g s) → LeadTo g ks t m nodes → IsWay g ks s t (m ∷ nodes)
longer_way g ks s t m [] i h = (last m i h, refl)
longer_way g ks s t m (n ∷ ns) i (may, (w, are)) = (step m i may w, ap (λ l. m ∷ l) are)

pub way_back : (g : Net) (ks : List ℕ) (s : Spot) (t : Goal) (steps : List Step) (index : ℕ) (x : Step) (nodes : List ℕ) → AreSteps g ks s steps → slice_get steps index ≡ Some x → LeadTo g ks t x.node nodes → IsEndOfWay g ks s t steps x.before (x.node ∷ nodes)
way_back g ks s t steps index x nodes are at lead = choose x.before (are index x at)
  where
    choose : (b : Option ℕ) → IsBehind g ks s steps index b x.node → IsEndOfWay g ks s t steps b (x.node ∷ nodes)
    choose None i = longer_way g ks s t x.node nodes i lead
    choose (Some k) (from, lt, there, may, i) = (from, there, (may, longer_way g ks (At from.node) t x.node nodes i lead))

-- none of the nodes so far is at the goal
pub none_more : (g : Net) (t : Goal) (steps : List Step) (i : ℕ) (x : Step) → slice_get steps i ≡ Some x → arrives g t x.node ≡ false → ((j : ℕ) (y : Step) → j < i → slice_get steps j ≡ Some y → arrives g t y.node ≡ false) → (j : ℕ) (y : Step) → j < i + 1 → slice_get steps j ≡ Some y → arrives g t y.node ≡ false
none_more g t steps i x at away none j y lt there = elim (before j lt) [
  | inl l ↦ none j y l there
  | inr e ↦
      let same : Some y ≡ Some x = sym there ∙ ap (slice_get steps) e ∙ at in
      let one : y ≡ x = cc in
      subst (λ (z : Step). arrives g t z.node ≡ false) (sym one) away
]
  where
    before : (k : ℕ) → k < i + 1 → (k < i) ⊎ (k ≡ i)
    before k l = grind arith

pub none_there : (g : Net) (t : Goal) (steps : List Step) → ((j : ℕ) (y : Step) → j < length steps → slice_get steps j ≡ Some y → arrives g t y.node ≡ false) → (m : ℕ) → IsIn m (nodes_of steps) → arrives g t m ≡ false
none_there g t steps none m i =
    let p = step_at steps m i in
    let at : slice_get steps p.0 ≡ Some p.1 = p.2 in
    subst (λ (n : ℕ). arrives g t n ≡ false) p.3 (none p.0 p.1 (slice_get_within steps p.0 p.1 at) at)

-- the step before the one at the index is earlier, and the way goes on to it
pub one_back : (before at : Option ℕ) (index : ℕ) → at ≡ Some index → IsEarlier before index → steps_back before < steps_back at
one_back None at index is h = rw is (omega arith)
one_back (Some k) at index is h = rw is (omega (arith, h))

pub earlier_within : (before : Option ℕ) (index size : ℕ) → IsEarlier before index → index < size → IsEarlier before size
earlier_within None index size h lt = tt
earlier_within (Some k) index size h lt = omega (arith, h, lt)

pub index_within : (at : Option ℕ) (index size : ℕ) → at ≡ Some index → IsEarlier at size → index < size
index_within at index size is h = subst (λ (o : Option ℕ). IsEarlier o size) is h

-- the step at the end of the way so far is taken
pub way_on : (g : Net) (ks : List ℕ) (s : Spot) (t : Goal) (steps : List Step) (at : Option ℕ) (index : ℕ) (x : Step) (way more : List ℕ) → AreSteps g ks s steps → at ≡ Some index → slice_get steps index ≡ Some x → more ≡ way ++ x.node ∷ []
    → IsEndOfWay g ks s t steps at (reverse way) → IsEndOfWay g ks s t steps x.before (reverse more)
way_on g ks s t steps at index x way more are is there pushed h =
    let here : IsEndOfWay g ks s t steps (Some index) (reverse way) = subst (λ (o : Option ℕ). IsEndOfWay g ks s t steps o (reverse way)) is h in
    let same : Some here.0 ≡ Some x = sym here.1 ∙ there in
    let one : here.0 ≡ x = cc in
    let turned : reverse more ≡ x.node ∷ reverse way = ap reverse pushed ∙ reverse-append way (x.node ∷ []) in
    subst (λ (l : List ℕ). IsEndOfWay g ks s t steps x.before l) (sym turned) (way_back g ks s t steps index x (reverse way) are there (subst (λ (y : Step). LeadTo g ks t y.node (reverse way)) one here.2))
