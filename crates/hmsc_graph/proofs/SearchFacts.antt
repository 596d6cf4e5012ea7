-- A search for the nodes that are reached.
use Rattle.std.proofs.Common.{ℕ, zero, suc, ◌+◌, ◌<◌, ◌≡◌, ◌↔◌, ◌⊎◌, inl, inr, List, [], ◌∷◌, ◌++◌, length, Bool, true, false, ◌==◌, ◌||◌, refl, sym, subst, arith, ap, ◌∙◌, length-append}
use Rattle.std.proofs.lemmas.Bool.{cases_eq, true≢false, eqb-true, eq-eqb}
use Rattle.std.proofs.lemmas.Bool.Decides.{nat_tests}
use Rattle.std.specs.List.{list_any}
use Rattle.hmsc_graph.specs.Graphs.{Net, Spot, Start, At, To, WalkThrough, last, step, behind}
use Rattle.msc_base.specs.Lists.{IsIn}
use Rattle.hmsc_graph.specs.Nets.{IsNet, size_of}
use Rattle.bit_sets.specs.NodeSets.{NodeSetValue}
use Rattle.list_facts.proofs.Members.{among_left, among_snoc}
use Rattle.hmsc_graph.specs.Searches.{missing, HasEntered, IsSearch}
use Rattle.hmsc_graph.proofs.MemberFacts.{pushed_in, more_cases, more_keeps, more_has}
use Rattle.hmsc_graph.proofs.Reaching.{glue}

-- the test for a member
abbrev is_there : List ℕ → ℕ → Bool
is_there nodes n = list_any (λ m. m == n) nodes

there_true : (nodes : List ℕ) (n : ℕ) → IsIn n nodes → is_there nodes n ≡ true
there_true [] n h = absurd h
there_true (x ∷ xs) n (inl e) = let here : (x == n) ≡ true = grind (arith, nat_tests) in rw here refl
there_true (x ∷ xs) n (inr r) = rw (there_true xs n r) (or_true (x == n))
  where
    or_true : (b : Bool) → (b || true) ≡ true
    or_true true = refl
    or_true false = refl

there_in : (nodes : List ℕ) (n : ℕ) → is_there nodes n ≡ true → IsIn n nodes
there_in [] n h = cc
there_in (x ∷ xs) n h = elim (cases_eq n x) [
  | inl e ↦ inl e
  | inr ne ↦ let other : (x == n) ≡ false = grind (arith, nat_tests) in inr (there_in xs n (rw other at h))
]

there_false : (nodes : List ℕ) (n : ℕ) → (IsIn n nodes → ⊥) → is_there nodes n ≡ false
there_false nodes n none = choose (is_there nodes n) refl
  where
    choose : (b : Bool) → is_there nodes n ≡ b → is_there nodes n ≡ false
    choose true e = absurd (none (there_in nodes n e))
    choose false e = e

there_same : (old new : List ℕ) (n : ℕ) → (IsIn n old → IsIn n new) → (IsIn n new → IsIn n old) → is_there new n ≡ is_there old n
there_same old new n f g = choose (is_there old n) refl
  where
    choose : (b : Bool) → is_there old n ≡ b → is_there new n ≡ is_there old n
    choose true e = there_true new n (f (there_in old n e)) ∙ sym e
    choose false e = there_false new n (λ h. true≢false (sym (there_true old n (g h)) ∙ e)) ∙ sym e

missing_same : (old new : List ℕ) (size : ℕ) → ((n : ℕ) → n < size → is_there new n ≡ is_there old n) → missing new size ≡ missing old size
missing_same old new zero f = refl
missing_same old new (suc s) f =
    let here : is_there new s ≡ is_there old s = f s (omega arith) in
    let rest : missing new s ≡ missing old s = missing_same old new s (λ n h. f n (omega arith)) in
    rw (here, rest) refl

-- a number more is one less that is missing
pub missing_added : (old new : List ℕ) (x size : ℕ) → ((n : ℕ) → IsIn n new ↔ (IsIn n old ⊎ (n ≡ x))) → (IsIn x old → ⊥) → x < size → missing new size + 1 ≡ missing old size
missing_added old new x zero f none below = absurd (omega arith)
missing_added old new x (suc s) f none below = elim (cases_eq s x) [
  | inl e ↦
      let now : is_there new s ≡ true = there_true new s ((f s).1 (inr e)) in
      let was : is_there old s ≡ false = there_false old s (λ h. none (subst (λ (n : ℕ). IsIn n old) e h)) in
      let rest : missing new s ≡ missing old s = missing_same old new s (λ n h. same n (omega arith)) in
      rw (now, was) (omega (arith, rest))
  | inr ne ↦
      let here : is_there new s ≡ is_there old s = same s ne in
      let rest : missing new s + 1 ≡ missing old s = missing_added old new x s f none (omega arith) in
      rw here (omega (arith, rest))
]
  where
    back : (n : ℕ) → (n ≡ x → ⊥) → IsIn n old ⊎ (n ≡ x) → IsIn n old
    back n ne (inl h) = h
    back n ne (inr e) = absurd (ne e)

    same : (n : ℕ) → (n ≡ x → ⊥) → is_there new n ≡ is_there old n
    same n ne = there_same old new n (λ h. (f n).1 (inl h)) (λ h. back n ne ((f n).0 h))

-- no node has been entered
pub entered_none : (r : NodeSetValue) (w : List ℕ) → HasEntered [] r w r w
entered_none r w = record {
  size = refl;
  kept = λ m h. h;
  entered = λ m h. absurd h;
  only = λ m h. inl h;
  waiting = λ m h. h;
  fresh = λ m h. inl h;
  due = λ m h. inl h;
  work = omega arith;
}

module _ (ns more : List ℕ) (x : ℕ) (was : NodeSetValue) (waited : List ℕ) (r : NodeSetValue) (w : List ℕ) (is : more ≡ ns ++ x ∷ []) (h : HasEntered ns was waited r w) where
  -- one more node that was reached before
  pub entered_known : IsIn x r.nodes → HasEntered more was waited r w
  entered_known known = record {
    size = h.size;
    kept = h.kept;
    entered = λ m i. elim (more_cases ns more x is m i) [ inl l ↦ h.entered m l | inr e ↦ subst (λ (n : ℕ). IsIn n r.nodes) (sym e) known ];
    only = λ m i. elim (h.only m i) [ inl l ↦ inl l | inr n ↦ inr (more_keeps ns more x is m n) ];
    waiting = h.waiting;
    fresh = h.fresh;
    due = h.due;
    work = h.work;
  }

  module _ (s : NodeSetValue) (size : s.size ≡ r.size) (nodes : (n : ℕ) → IsIn n s.nodes ↔ (IsIn n r.nodes ⊎ (n ≡ x))) (new : IsIn x r.nodes → ⊥) (below : x < r.size) where
    grown : missing s.nodes s.size + 1 ≡ missing r.nodes r.size
    grown = ap (λ (k : ℕ). missing s.nodes k + 1) size ∙ missing_added r.nodes s.nodes x r.size nodes new below

    kept_on : (m : ℕ) → IsIn m was.nodes → IsIn m s.nodes
    kept_on m i = (nodes m).1 (inl (h.kept m i))

    entered_on : (m : ℕ) → IsIn m more → IsIn m s.nodes
    entered_on m i = elim (more_cases ns more x is m i) [ inl l ↦ (nodes m).1 (inl (h.entered m l)) | inr e ↦ (nodes m).1 (inr e) ]

    only_on : (m : ℕ) → IsIn m s.nodes → IsIn m was.nodes ⊎ IsIn m more
    only_on m i = elim ((nodes m).0 i) [ inl l ↦ elim (h.only m l) [ inl o ↦ inl o | inr n ↦ inr (more_keeps ns more x is m n) ] | inr e ↦ inr (more_has ns more x is m e) ]

    -- one more node that waits
    pub entered_waiting : (w' : List ℕ) → w' ≡ w ++ x ∷ [] → HasEntered more was waited s w'
    entered_waiting w' e = record {
      size = size ∙ h.size;
      kept = kept_on;
      entered = entered_on;
      only = only_on;
      waiting = λ m i. kept_wait m (h.waiting m i);
      fresh = λ m i. elim ((nodes m).0 i) [ inl l ↦ elim (h.fresh m l) [ inl o ↦ inl o | inr n ↦ inr (kept_wait m n) ] | inr is_x ↦ inr (subst (λ l. IsIn m l) (sym e) (pushed_in m x w is_x)) ];
      due = λ m i. elim (among_snoc w x m (subst (λ l. IsIn m l) e i)) [
        | inl l ↦ elim (h.due m l) [ inl o ↦ inl o | inr p ↦ inr ((nodes m).1 (inl p)) ]
        | inr is_x ↦ inr ((nodes m).1 (inr is_x))
      ];
      work = omega (arith, grown, h.work, ap length e, length-append w (x ∷ []));
    }
      where
        kept_wait : (m : ℕ) → IsIn m w → IsIn m w'
        kept_wait m i = subst (λ l. IsIn m l) (sym e) (among_left w (x ∷ []) m i)

-- what comes next is a node
pub behind_below : (g : Net) (s : Spot) (m : ℕ) → IsNet g → IsIn m (behind g s) → m < size_of g
behind_below g Start m net i = net.starts_below m i
behind_below g (At k) m net i = net.next_below k m i

-- a walk leads to a node
pub walk_below : (g : Net) (allowed : List ℕ) (s : Spot) (m : ℕ) → IsNet g → WalkThrough g allowed s (To m) → m < size_of g
walk_below g allowed s m net (last n i a) = omega (arith, behind_below g s n net i, eqb-true n m a)
walk_below g allowed s m net (step n i j w) = walk_below g allowed (At n) m net w

-- a search begins
pub search_begun : (r s : NodeSetValue) (firsts waited w : List ℕ) → ((n : ℕ) → IsIn n r.nodes → ⊥) → waited ≡ [] → HasEntered firsts r waited s w
    → (g : Net) (allowed : List ℕ) (from : Spot) → behind g from ≡ firsts → IsSearch g allowed from s.nodes w
search_begun r s firsts waited w none empty h g allowed from is = record {
  sound = λ m i. elim (h.only m i) [ inl o ↦ absurd (none m o) | inr n ↦ last m (subst (λ l. IsIn m l) (sym is) n) (eq-eqb m m refl) ];
  begun = λ m i. h.entered m (subst (λ l. IsIn m l) is i);
  due = λ m i. elim (h.due m i) [ inl o ↦ absurd (subst (λ l. IsIn m l) empty o) | inr p ↦ p ];
  done = λ k i a. elim (h.fresh k i) [ inl o ↦ absurd (none k o) | inr n ↦ inl n ];
}

module _ (g : Net) (allowed : List ℕ) (from : Spot) (r : NodeSetValue) (w rest : List ℕ) (k : ℕ) (is : w ≡ rest ++ k ∷ []) (b : IsSearch g allowed from r.nodes w) where
  at_k : IsIn k r.nodes
  at_k = b.due k (subst (λ l. IsIn k l) (sym is) (pushed_in k k rest refl))

  still_due : (m : ℕ) → IsIn m rest → IsIn m r.nodes
  still_due m o = b.due m (subst (λ l. IsIn m l) (sym is) (among_left rest (k ∷ []) m o))

  -- a search goes on at a node that waits and is allowed
  pub search_on : (s : NodeSetValue) (waits : List ℕ) → IsIn k allowed → HasEntered (behind g (At k)) r rest s waits → IsSearch g allowed from s.nodes waits
  search_on s waits al h = record {
    sound = λ m i. elim (h.only m i) [ inl o ↦ b.sound m o | inr n ↦ glue al (b.sound k at_k) (last m n (eq-eqb m m refl)) ];
    begun = λ m i. h.kept m (b.begun m i);
    due = λ m i. elim (h.due m i) [ inl o ↦ h.kept m (still_due m o) | inr p ↦ p ];
    done = λ j i a. elim (h.fresh j i) [ inl o ↦ still j o a | inr n ↦ inl n ];
  }
    where
      still : (j : ℕ) → IsIn j r.nodes → IsIn j allowed → IsIn j waits ⊎ ((m : ℕ) → IsIn m (behind g (At j)) → IsIn m s.nodes)
      still j o a = elim (b.done j o a) [
        | inl i ↦ elim (among_snoc rest k j (subst (λ l. IsIn j l) is i)) [
          | inl n ↦ inl (h.waiting j n)
          | inr e ↦ inr (λ m n. h.entered m (subst (λ (x : ℕ). IsIn m (behind g (At x))) e n))
        ]
        | inr d ↦ inr (λ m n. h.kept m (d m n))
      ]

  -- a search doesn't go on at a node that isn't allowed
  pub search_past : (IsIn k allowed → ⊥) → IsSearch g allowed from r.nodes rest
  search_past shut = record {
    sound = b.sound;
    begun = b.begun;
    due = still_due;
    done = λ j i a. elim (b.done j i a) [
      | inl n ↦ elim (among_snoc rest k j (subst (λ l. IsIn j l) is n)) [
        | inl o ↦ inl o
        | inr e ↦ absurd (shut (subst (λ (x : ℕ). IsIn x allowed) e a))
      ]
      | inr d ↦ inr d
    ];
  }

  -- what waits is a node
  pub due_below : IsNet g → k < size_of g
  due_below net = walk_below g allowed from k net (b.sound k at_k)

-- where nothing waits each walk has been followed
followed : (g : Net) (allowed : List ℕ) (from s : Spot) (reached : List ℕ) (m : ℕ) → IsSearch g allowed from reached [] → ((n : ℕ) → IsIn n (behind g s) → IsIn n reached) → WalkThrough g allowed s (To m) → IsIn m reached
followed g allowed from s reached m b here (last n i a) = subst (λ (x : ℕ). IsIn x reached) (eqb-true n m a) (here n i)
followed g allowed from s reached m b here (step n i j w) = followed g allowed from (At n) reached m b (λ x y. next (b.done n (here n i) j) x y) w
  where
    next : IsIn n [] ⊎ ((x : ℕ) → IsIn x (behind g (At n)) → IsIn x reached) → (x : ℕ) → IsIn x (behind g (At n)) → IsIn x reached
    next (inl none) = absurd none
    next (inr d) = d

-- where nothing waits the search has reached what walks lead to
pub search_done : (g : Net) (allowed : List ℕ) (from : Spot) (reached : List ℕ) → IsSearch g allowed from reached [] → (m : ℕ) → IsIn m reached ↔ WalkThrough g allowed from (To m)
search_done g allowed from reached b m = (b.sound m, λ w. followed g allowed from from reached m b b.begun w)

pub search_ended : (g : Net) (allowed : List ℕ) (from : Spot) (reached w : List ℕ) → w ≡ [] → IsSearch g allowed from reached w → (m : ℕ) → IsIn m reached ↔ WalkThrough g allowed from (To m)
search_ended g allowed from reached w e b = search_done g allowed from reached (subst (λ l. IsSearch g allowed from reached l) e b)
