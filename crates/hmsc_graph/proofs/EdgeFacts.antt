-- Edges that lead the other way.
use Rattle.std.proofs.Common.{ℕ, zero, suc, ◌+◌, ◌<◌, ◌≡◌, ◌↔◌, ◌⊎◌, inl, inr, List, [], ◌∷◌, ◌++◌, length, get_or, set, Bool, true, false, refl, sym, subst, arith, ap, ◌∙◌}
use Rattle.std.proofs.lemmas.Bool.{cases_eq, cases_lt, true≢false}
use Rattle.std.proofs.lemmas.List.{get_or-set_same, get_or-set_other, length-set, length-replicate, get_or_past}
use Rattle.hmsc_graph.specs.Graphs.{Net, Spot, Start, At, To, behind, End, arrives, WalkThrough, last, step}
use Rattle.msc_base.specs.Lists.{IsIn}
use Rattle.list_facts.proofs.Members.{among_left, among_snoc}
use Rattle.hmsc_graph.specs.Reversals.{HasEdges, HasEnd, AreEdgesBack, IsStored, way_of}
use Rattle.hmsc_graph.specs.Nets.{IsNet, size_of}
use Rattle.hmsc_graph.proofs.MemberFacts.{pushed_in}

pub edges_none : (back : List (List ℕ)) (node : ℕ) → HasEdges back node [] back
edges_none back node = record {
  each = refl;
  edges = λ m n. ((λ h. inl h), λ h. only m n h);
}
  where
    only : (m n : ℕ) → IsIn m (get_or back n []) ⊎ ((m ≡ node) × IsIn n []) → IsIn m (get_or back n [])
    only m n (inl h) = h
    only m n (inr h) = absurd h.1

pub get_default : (xs : List (List ℕ)) (i : ℕ) (d : List ℕ) → i < length xs → get_or xs i d ≡ get_or xs i []
get_default [] i d h = absurd (omega arith)
get_default (x ∷ xs) zero d h = refl
get_default (x ∷ xs) (suc i) d h = get_default xs i d (omega (arith, h))

-- one more edge
pub edge_more : (was : List (List ℕ)) (node : ℕ) (next more : List ℕ) (is : List (List ℕ)) (to : ℕ) (old new : List ℕ) → more ≡ next ++ to ∷ [] → HasEdges was node next is → to < length is → new ≡ get_or is to old ++ node ∷ []
    → HasEdges was node more (set is to new)
edge_more was node next more is to old new e h below made = record {
  each = length-set is to new ∙ h.each;
  edges = λ m n. elim (cases_eq n to) [ inl at ↦ same m n at | inr ne ↦ other m n ne ];
}
  where
    old_is : get_or is to old ≡ get_or is to []
    old_is = get_default is to old below

    new_is : (n : ℕ) → n ≡ to → get_or (set is to new) n [] ≡ get_or is n [] ++ node ∷ []
    new_is n at = ap (λ (k : ℕ). get_or (set is to new) k []) at ∙ get_or-set_same is to new [] below ∙ made ∙ ap (λ (l : List ℕ). l ++ node ∷ []) (old_is ∙ ap (λ (k : ℕ). get_or is k []) (sym at))

    wider : (m n : ℕ) → IsIn m (get_or was n []) ⊎ ((m ≡ node) × IsIn n next) → IsIn m (get_or was n []) ⊎ ((m ≡ node) × IsIn n more)
    wider m n (inl h) = inl h
    wider m n (inr p) = inr (p.0, subst (λ l. IsIn n l) (sym e) (among_left next (to ∷ []) n p.1))

    same : (m n : ℕ) → n ≡ to → IsIn m (get_or (set is to new) n []) ↔ (IsIn m (get_or was n []) ⊎ ((m ≡ node) × IsIn n more))
    same m n at = (there, back)
      where
        there : IsIn m (get_or (set is to new) n []) → IsIn m (get_or was n []) ⊎ ((m ≡ node) × IsIn n more)
        there i = elim (among_snoc (get_or is n []) node m (subst (λ l. IsIn m l) (new_is n at) i)) [
          | inl l ↦ wider m n ((h.edges m n).0 l)
          | inr x ↦ inr (x, subst (λ l. IsIn n l) (sym e) (pushed_in n to next at))
        ]

        from : IsIn m (get_or is n []) → IsIn m (get_or (set is to new) n [])
        from i = subst (λ l. IsIn m l) (sym (new_is n at)) (among_left (get_or is n []) (node ∷ []) m i)

        back : IsIn m (get_or was n []) ⊎ ((m ≡ node) × IsIn n more) → IsIn m (get_or (set is to new) n [])
        back (inl l) = from ((h.edges m n).1 (inl l))
        back (inr p) = subst (λ l. IsIn m l) (sym (new_is n at)) (pushed_in m node (get_or is n []) p.0)

    other : (m n : ℕ) → (n ≡ to → ⊥) → IsIn m (get_or (set is to new) n []) ↔ (IsIn m (get_or was n []) ⊎ ((m ≡ node) × IsIn n more))
    other m n ne = (there, back)
      where
        kept : get_or (set is to new) n [] ≡ get_or is n []
        kept = get_or-set_other is to n new [] ne

        there : IsIn m (get_or (set is to new) n []) → IsIn m (get_or was n []) ⊎ ((m ≡ node) × IsIn n more)
        there i = wider m n ((h.edges m n).0 (subst (λ l. IsIn m l) kept i))

        narrower : IsIn m (get_or was n []) ⊎ ((m ≡ node) × IsIn n more) → IsIn m (get_or was n []) ⊎ ((m ≡ node) × IsIn n next)
        narrower (inl l) = inl l
        narrower (inr p) = elim (among_snoc next to n (subst (λ l. IsIn n l) e p.1)) [ inl i ↦ inr (p.0, i) | inr at ↦ absurd (ne at) ]

        back : IsIn m (get_or was n []) ⊎ ((m ≡ node) × IsIn n more) → IsIn m (get_or (set is to new) n [])
        back p = subst (λ l. IsIn m l) (sym kept) ((h.edges m n).1 (narrower p))

pub edges_back_more : (next : List (List ℕ)) (k : ℕ) (back new : List (List ℕ)) → AreEdgesBack next k back → HasEdges back k (get_or next k []) new → AreEdgesBack next (k + 1) new
edges_back_more next k back new was h = λ m n. ((λ i. there m n ((h.edges m n).0 i)), λ p. (h.edges m n).1 (from m n p))
  where
    there : (m n : ℕ) → IsIn m (get_or back n []) ⊎ ((m ≡ k) × IsIn n (get_or next k [])) → (m < k + 1) × IsIn n (get_or next m [])
    there m n (inl i) = let p = (was m n).0 i in (omega (arith, p.0), p.1)
    there m n (inr p) = (omega (arith, p.0), subst (λ (x : ℕ). IsIn n (get_or next x [])) (sym p.0) p.1)

    from : (m n : ℕ) → (m < k + 1) × IsIn n (get_or next m []) → IsIn m (get_or back n []) ⊎ ((m ≡ k) × IsIn n (get_or next k []))
    from m n p = elim (cases_eq m k) [
      | inl e ↦ inr (e, subst (λ (x : ℕ). IsIn n (get_or next x [])) e p.1)
      | inr ne ↦ inl ((was m n).1 (omega (arith, p.0), p.1))
    ]

-- something comes next only behind a node
pub behind_node : (g : Net) (m n : ℕ) → IsNet g → IsIn n (behind g (At m)) → m < size_of g
behind_node g m n net i = elim (cases_lt m (size_of g)) [
  | inl lt ↦ lt
  | inr le ↦ absurd (subst (λ (l : List ℕ). IsIn n l) (get_or_past g.next m [] (omega (arith, le, net.each))) i)
]

-- the edges the other way, from some nodes on
pub way_back : (g : Net) (starts : List ℕ) (back : List (List ℕ)) → IsNet g → ((m : ℕ) → IsIn m starts → m < size_of g) → length back ≡ size_of g → AreEdgesBack g.next (size_of g) back → IsNet (way_of starts back)
way_back g starts back net starts_below each edges = record {
  few = omega (arith, net.few, size);
  each = sym (length-replicate {A = Bool} (length back) false);
  starts_below = λ m i. omega (arith, starts_below m i, size);
  next_below = λ k m i. omega (arith, ((edges m k).0 i).0, size);
}
  where
    size : size_of (way_of starts back) ≡ size_of g
    size = length-replicate {A = Bool} (length back) false ∙ each

-- the edges of a graph, from a spot on
pub way_on : (g : Net) (s : Spot) → IsNet g → IsNet (way_of (behind g s) g.next)
way_on g s net = record {
  few = omega (arith, net.few, size);
  each = sym (length-replicate {A = Bool} (length g.next) false);
  starts_below = λ m i. omega (arith, below s m i, size);
  next_below = λ k m i. omega (arith, net.next_below k m i, size);
}
  where
    size : size_of (way_of (behind g s) g.next) ≡ size_of g
    size = length-replicate {A = Bool} (length g.next) false ∙ net.each

    below : (s : Spot) (m : ℕ) → IsIn m (behind g s) → m < size_of g
    below Start m i = net.starts_below m i
    below (At k) m i = net.next_below k m i

-- walks over the edges of a graph, from a spot on, are those of the graph
walk_at : (g : Net) (starts ks : List ℕ) (k m : ℕ) → WalkThrough (way_of starts g.next) ks (At k) (To m) → WalkThrough g ks (At k) (To m)
walk_at g starts ks k m (last n i a) = last n i a
walk_at g starts ks k m (step n i j w) = step n i j (walk_at g starts ks n m w)

at_walk : (g : Net) (starts ks : List ℕ) (k m : ℕ) → WalkThrough g ks (At k) (To m) → WalkThrough (way_of starts g.next) ks (At k) (To m)
at_walk g starts ks k m (last n i a) = last n i a
at_walk g starts ks k m (step n i j w) = step n i j (at_walk g starts ks n m w)

pub walks_on : (g : Net) (s : Spot) (ks : List ℕ) (m : ℕ) → WalkThrough (way_of (behind g s) g.next) ks Start (To m) ↔ WalkThrough g ks s (To m)
walks_on g s ks m = (there, back)
  where
    there : WalkThrough (way_of (behind g s) g.next) ks Start (To m) → WalkThrough g ks s (To m)
    there (last n i a) = last n i a
    there (step n i j w) = step n i j (walk_at g (behind g s) ks n m w)

    back : WalkThrough g ks s (To m) → WalkThrough (way_of (behind g s) g.next) ks Start (To m)
    back (last n i a) = last n i a
    back (step n i j w) = step n i j (at_walk g (behind g s) ks n m w)

-- the nodes with a next node that is an `end` line, so far
module _ (next : List (List ℕ)) (ends : List Bool) (k : ℕ) (nodes : List ℕ) (are : (m : ℕ) → IsIn m nodes ↔ ((m < k) × HasEnd ends (get_or next m []))) where
  pub before_with : (more : List ℕ) → more ≡ nodes ++ k ∷ [] → HasEnd ends (get_or next k []) → (m : ℕ) → IsIn m more ↔ ((m < k + 1) × HasEnd ends (get_or next m []))
  before_with more is end m = (there, back)
    where
      there : IsIn m more → (m < k + 1) × HasEnd ends (get_or next m [])
      there i = elim (among_snoc nodes k m (subst (λ l. IsIn m l) is i)) [
        | inl l ↦ let p = (are m).0 l in (omega (arith, p.0), p.1)
        | inr e ↦ (omega arith, subst (λ (x : ℕ). HasEnd ends (get_or next x [])) (sym e) end)
      ]

      back : (m < k + 1) × HasEnd ends (get_or next m []) → IsIn m more
      back p = subst (λ l. IsIn m l) (sym is) (elim (cases_eq m k) [ inl e ↦ pushed_in m k nodes e | inr ne ↦ among_left nodes (k ∷ []) m ((are m).1 (omega (arith, p.0), p.1)) ])

  pub before_without : (HasEnd ends (get_or next k []) → ⊥) → (m : ℕ) → IsIn m nodes ↔ ((m < k + 1) × HasEnd ends (get_or next m []))
  before_without none m = (
    (λ i. let p = (are m).0 i in (omega (arith, p.0), p.1)),
    λ p. elim (cases_eq m k) [
      | inl e ↦ absurd (none (subst (λ (x : ℕ). HasEnd ends (get_or next x [])) e p.1))
      | inr ne ↦ (are m).1 (omega (arith, p.0), p.1)
    ],
  )

-- no `end` line is among no nodes
pub no_end : (ends : List Bool) → HasEnd ends [] → ⊥
no_end ends h = h.1

-- none is among one node more
pub no_end_more : (ends : List Bool) (ns more : List ℕ) (x : ℕ) → more ≡ ns ++ x ∷ [] → (HasEnd ends ns → ⊥) → get_or ends x false ≡ false → HasEnd ends more → ⊥
no_end_more ends ns more x is none shut h = elim (among_snoc ns x h.0 (subst (λ l. IsIn h.0 l) is h.1)) [
  | inl i ↦ none (h.0, i, h.2)
  | inr e ↦ absurd (true≢false (sym h.2 ∙ ap (λ (k : ℕ). get_or ends k false) e ∙ shut))
]

-- what is stored of a graph
pub stored : (g : Net) (back : List (List ℕ)) (before : List ℕ) → IsNet g → length back ≡ length g.next → AreEdgesBack g.next (length g.next) back → ((m : ℕ) → IsIn m before ↔ ((m < length g.next) × HasEnd g.ends (get_or g.next m []))) → IsStored g back before
stored g back before net each edges ends = record {
  net = net;
  each = each ∙ net.each;
  edges = subst (λ (k : ℕ). AreEdgesBack g.next k back) net.each edges;
  ends = λ m. ((λ i. ((ends m).0 i).1), λ p. (ends m).1 (omega (arith, behind_node g m p.0 net p.1, net.each), p));
}

-- the `end` lines so far, with one more node
module _ (g : Net) (k : ℕ) (nodes : List ℕ) (are : (m : ℕ) → IsIn m nodes ↔ ((m < k) × (arrives g End m ≡ true))) where
  pub ends_with : (more : List ℕ) → more ≡ nodes ++ k ∷ [] → arrives g End k ≡ true → (m : ℕ) → IsIn m more ↔ ((m < k + 1) × (arrives g End m ≡ true))
  ends_with more is end m = (there, back)
    where
      there : IsIn m more → (m < k + 1) × (arrives g End m ≡ true)
      there i = elim (among_snoc nodes k m (subst (λ l. IsIn m l) is i)) [
        | inl l ↦ let p = (are m).0 l in (omega (arith, p.0), p.1)
        | inr e ↦ (omega arith, subst (λ (x : ℕ). arrives g End x ≡ true) (sym e) end)
      ]

      back : (m < k + 1) × (arrives g End m ≡ true) → IsIn m more
      back p = subst (λ l. IsIn m l) (sym is) (elim (cases_eq m k) [ inl e ↦ pushed_in m k nodes e | inr ne ↦ among_left nodes (k ∷ []) m ((are m).1 (omega (arith, p.0), p.1)) ])

  pub ends_without : arrives g End k ≡ false → (m : ℕ) → IsIn m nodes ↔ ((m < k + 1) × (arrives g End m ≡ true))
  ends_without inner m = (
    (λ i. let p = (are m).0 i in (omega (arith, p.0), p.1)),
    λ p. elim (cases_eq m k) [
      | inl e ↦ absurd (true≢false (sym p.1 ∙ subst (λ (x : ℕ). arrives g End x ≡ false) (sym e) inner))
      | inr ne ↦ (are m).1 (omega (arith, p.0), p.1)
    ],
  )
