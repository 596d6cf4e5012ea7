-- The lists of residual terms are exact.
use Rattle.std.specs.Prelude.{ℕ, zero, suc, ◌≤◌, Bool, true, false, List, [], ◌∷◌, ◌≡◌, Option, Some, None, refl}
use Rattle.std.proofs.Common.{ap, sym, arith, inl, inr}
use Rattle.msc_base.specs.Patterns.{Mode, seq, par}
use Rattle.hmsc_graph.specs.Graphs.{Spot, At, Goal, To, End, Any}
use Rattle.hmsc_graph.specs.Walks.{Leads}
use Rattle.msc_base.specs.Lists.{IsIn, IsAmong}
use Rattle.list_facts.proofs.Members.{among_either, among_left, among_right}
use Rattle.hmsc_graph.proofs.Reaching.{reach_sound, reach_whole}
use Rattle.chart_term.specs.NormalForms.{NetPermits, only, join_all, tie_of, loop_of, walk_of, allowed}
use Rattle.chart_term.specs.TermPatterns.{instances_of, earlier}
use Rattle.chart_term.specs.Terms.{TermEvent, ◌∪◌, Tree, Nil, Event, Join, Choice, Tied, Loop, Walk, Trees, none, more, Row, ends, gap, turn, items, Part, Gap, Turn, parts}
use Rattle.term_laws.specs.Listing.{Taken, TakenParts, TakenRow, stay, tied, all_tied, joined, first_taken, behind_one, behind_part, turn_taken, gap_taken, gap_begun, behind_gap, behind_turned, behind_turn, may_begin, turned, all_turned, may_lead, walked, all_walked, node_walked, nodes_walked, listed, listed_parts, listed_all, listed_row, after_list, ListIsExact}
use Rattle.chart_term.specs.Spreads.{touch}
use Rattle.term_laws.specs.Permission.{permit, permits_of}
use Rattle.term_laws.specs.Taking.{Stays, fewer, down, HasMore, IsAfter, after_event, after_choice, after_join, after_tied, after_loop, after_walk, IsAfterOne, first_one, later_one, IsAfterJoin, first_part, later_part, IsAfterRow, in_turn, in_gap, past_turn, past_gap}
use Rattle.term_laws.proofs.Ranking.{rank, ranks, row_rank, permit_rank}
use Rattle.term_laws.proofs.TermSentences.{net_rank, kept_rank}
use Rattle.term_laws.proofs.TidyTables.{nets_good}

module _ (k : NetPermits) where
  -- what is listed is left
  module _ (g : Tree → List Taken) (gs : (x : Tree) (t : Taken) → IsAmong (g x) t → IsAfter k x t.event t.term) where
    moved : (x : Tree) (s t : Taken) → t ≡ s → IsAfter k x s.event s.term → IsAfter k x t.event t.term
    moved x s t e h = rw (sym e) at h

    moved_parts : (m : Mode) (xs : Trees) (s t : TakenParts) → t ≡ s → IsAfterJoin k m xs s.event s.parts_left → IsAfterJoin k m xs t.event t.parts_left
    moved_parts m xs s t e h = rw (sym e) at h

    moved_row : (x : Tree) (ps : List Part) (s t : TakenRow) → t ≡ s → IsAfterRow k x s.begins ps s.event s.row_left → IsAfterRow k x t.begins ps t.event t.row_left
    moved_row x ps s t e h = rw (sym e) at h

    joined_sound : (m : Mode) (xs : Trees) (ps : List TakenParts) → ((p : TakenParts) → IsAmong ps p → IsAfterJoin k m xs p.event p.parts_left) → (t : Taken) → IsAmong (joined m ps) t → IsAfter k (Join m xs) t.event t.term
    joined_sound m xs [] f t h = absurd h
    joined_sound m xs (p ∷ ps) f t (inl e) = moved (Join m xs) (record { event = p.event; term = join_all m p.parts_left }) t e (after_join (f p (inl refl)))
    joined_sound m xs (p ∷ ps) f t (inr h) = joined_sound m xs ps (λ q i. f q (inr i)) t h

    tied_sound : (x : Tree) (q : List (ℕ × ℕ)) (ps : List Taken) → ((p : Taken) → IsAmong ps p → IsAfter k x p.event p.term) → (t : Taken) → IsAmong (all_tied k q ps) t → IsAfter k (Tied x q) t.event t.term
    tied_sound x q [] f t h = absurd h
    tied_sound x q (p ∷ ps) f t h = go (permit k (earlier q p.event) p.term) refl h (tied_sound x q ps (λ r i. f r (inr i)) t)
      where
        go : (r : Option Tree) → permit k (earlier q p.event) p.term ≡ r → IsAmong (tied r p.event q (all_tied k q ps)) t → (IsAmong (all_tied k q ps) t → IsAfter k (Tied x q) t.event t.term) → IsAfter k (Tied x q) t.event t.term
        go None e h i = i h
        go (Some z) e (inl d) i = moved (Tied x q) (record { event = p.event; term = tie_of z q }) t d (after_tied (f p (inl refl)) e)
        go (Some z) e (inr h) i = i h

    first_sound : (m : Mode) (x : Tree) (xs : Trees) (ps : List Taken) → ((p : Taken) → IsAmong ps p → IsAfter k x p.event p.term) → (t : TakenParts) → IsAmong (first_taken (items xs) ps) t → IsAfterJoin k m (more x xs) t.event t.parts_left
    first_sound m x xs [] f t h = absurd h
    first_sound m x xs (p ∷ ps) f t (inl e) = moved_parts m (more x xs) (record { event = p.event; parts_left = p.term ∷ items xs }) t e (first_part (f p (inl refl)))
    first_sound m x xs (p ∷ ps) f t (inr h) = first_sound m x xs ps (λ q i. f q (inr i)) t h

    stays : (m : Mode) (e : TermEvent) (x y : Tree) → stay k m e x ≡ Some y → Stays k m e x y
    stays seq e x y h = h
    stays par e x y h = some_is x y h
      where
        some_is : (x y : Tree) → Some x ≡ Some y → y ≡ x
        some_is x y h = cc

    behind_sound : (m : Mode) (x : Tree) (xs : Trees) (ps : List TakenParts) → ((p : TakenParts) → IsAmong ps p → IsAfterJoin k m xs p.event p.parts_left) → (t : TakenParts) → IsAmong (behind_part k m x ps) t → IsAfterJoin k m (more x xs) t.event t.parts_left
    behind_sound m x xs [] f t h = absurd h
    behind_sound m x xs (p ∷ ps) f t h = go (stay k m p.event x) refl h (behind_sound m x xs ps (λ q i. f q (inr i)) t)
      where
        go : (r : Option Tree) → stay k m p.event x ≡ r → IsAmong (behind_one r p (behind_part k m x ps)) t → (IsAmong (behind_part k m x ps) t → IsAfterJoin k m (more x xs) t.event t.parts_left) → IsAfterJoin k m (more x xs) t.event t.parts_left
        go None e h i = i h
        go (Some y) e (inl d) i = moved_parts m (more x xs) (record { event = p.event; parts_left = y ∷ p.parts_left }) t d (later_part (stays m p.event x y e) (f p (inl refl)))
        go (Some y) e (inr h) i = i h

    turn_sound : (x y : Tree) (ps : List Part) (qs : List Taken) → ((p : Taken) → IsAmong qs p → IsAfter k y p.event p.term) → (t : TakenRow) → IsAmong (turn_taken ps qs) t → IsAfterRow k x t.begins (Turn y ∷ ps) t.event t.row_left
    turn_sound x y ps [] f t h = absurd h
    turn_sound x y ps (p ∷ qs) f t (inl e) = moved_row x (Turn y ∷ ps) (record { begins = false; event = p.event; row_left = Turn p.term ∷ ps }) t e (in_turn (f p (inl refl)))
    turn_sound x y ps (p ∷ qs) f t (inr h) = turn_sound x y ps qs (λ q i. f q (inr i)) t h

    gap_sound : (x y : Tree) (c : List ℕ) (ps : List Part) → permit k (only c) x ≡ Some y → (qs : List Taken) → ((p : Taken) → IsAmong qs p → IsAfter k y p.event p.term) → (t : TakenRow) → IsAmong (gap_taken c ps qs) t → IsAfterRow k x t.begins (Gap c ∷ ps) t.event t.row_left
    gap_sound x y c ps d [] f t h = absurd h
    gap_sound x y c ps d (p ∷ qs) f t (inl e) =
        moved_row x (Gap c ∷ ps) (record { begins = true; event = p.event; row_left = Gap (c ∪ (instances_of p.event).instances) ∷ Turn p.term ∷ Gap c ∷ ps }) t e (in_gap d (f p (inl refl)))
    gap_sound x y c ps d (p ∷ qs) f t (inr h) = gap_sound x y c ps d qs (λ q i. f q (inr i)) t h

    begun_sound : (x : Tree) (c : List ℕ) (ps : List Part) (r : Option Tree) → permit k (only c) x ≡ r → (t : TakenRow) → IsAmong (gap_begun g r c ps) t → IsAfterRow k x t.begins (Gap c ∷ ps) t.event t.row_left
    begun_sound x c ps None d t h = absurd h
    begun_sound x c ps (Some y) d t h = gap_sound x y c ps d (g y) (gs y) t h

    past_gap_sound : (x : Tree) (c : List ℕ) (ps : List Part) (ts : List TakenRow) → ((p : TakenRow) → IsAmong ts p → IsAfterRow k x p.begins ps p.event p.row_left) → (t : TakenRow) → IsAmong (behind_gap c ts) t → IsAfterRow k x t.begins (Gap c ∷ ps) t.event t.row_left
    past_gap_sound x c ps [] f t h = absurd h
    past_gap_sound x c ps (p ∷ ts) f t (inl e) = moved_row x (Gap c ∷ ps) (record { begins = p.begins; event = p.event; row_left = Gap (c ∪ (instances_of p.event).instances) ∷ p.row_left }) t e (past_gap (f p (inl refl)))
    past_gap_sound x c ps (p ∷ ts) f t (inr h) = past_gap_sound x c ps ts (λ q i. f q (inr i)) t h

    past_turn_sound : (x y : Tree) (ps : List Part) (ts : List TakenRow) → ((p : TakenRow) → IsAmong ts p → IsAfterRow k x p.begins ps p.event p.row_left) → (t : TakenRow) → IsAmong (behind_turn k y ts) t → IsAfterRow k x t.begins (Turn y ∷ ps) t.event t.row_left
    past_turn_sound x y ps [] f t h = absurd h
    past_turn_sound x y ps (p ∷ ts) f t h = go (permit k (only (instances_of p.event).instances) y) refl h (past_turn_sound x y ps ts (λ q i. f q (inr i)) t)
      where
        go : (r : Option Tree) → permit k (only (instances_of p.event).instances) y ≡ r → IsAmong (behind_turned r p (behind_turn k y ts)) t → (IsAmong (behind_turn k y ts) t → IsAfterRow k x t.begins (Turn y ∷ ps) t.event t.row_left) → IsAfterRow k x t.begins (Turn y ∷ ps) t.event t.row_left
        go None e h i = i h
        go (Some z) e (inl d) i = moved_row x (Turn y ∷ ps) (record { begins = p.begins; event = p.event; row_left = Turn z ∷ p.row_left }) t d (past_turn e (f p (inl refl)))
        go (Some z) e (inr h) i = i h

    more_sound : (b : Bool) (hi : Option ℕ) → may_begin b hi ≡ true → HasMore b hi
    more_sound true (Some zero) h = cc
    more_sound true (Some (suc n)) h = tt
    more_sound true None h = tt
    more_sound false hi h = tt

    turned_sound : (x : Tree) (lo : ℕ) (hi : Option ℕ) (r : Row) (ts : List TakenRow) → ((p : TakenRow) → IsAmong ts p → IsAfterRow k x p.begins (parts r) p.event p.row_left) → (t : Taken) → IsAmong (all_turned k x lo hi ts) t → IsAfter k (Loop x lo hi r) t.event t.term
    turned_sound x lo hi r [] f t h = absurd h
    turned_sound x lo hi r (p ∷ ts) f t h =
        go (may_begin p.begins hi) refl (loop_of (λ c. permit k (only c) x) (touch k.spread x) x (down p.begins lo) (fewer p.begins hi) p.row_left) refl h (turned_sound x lo hi r ts (λ q i. f q (inr i)) t)
      where
        go : (b : Bool) → may_begin p.begins hi ≡ b → (o : Option Tree) → loop_of (λ c. permit k (only c) x) (touch k.spread x) x (down p.begins lo) (fewer p.begins hi) p.row_left ≡ o → IsAmong (turned b o p.event (all_turned k x lo hi ts)) t
            → (IsAmong (all_turned k x lo hi ts) t → IsAfter k (Loop x lo hi r) t.event t.term) → IsAfter k (Loop x lo hi r) t.event t.term
        go true m (Some z) e (inl d) i = moved (Loop x lo hi r) (record { event = p.event; term = z }) t d (after_loop p.begins (f p (inl refl)) (more_sound p.begins hi m) e)
        go true m (Some z) e (inr h) i = i h
        go true m None e h i = i h
        go false m o e h i = i h

    lead_sound : (n : ℕ) (f : Spot) (t : Goal) (c : List ℕ) → may_lead k n f t c ≡ true → Leads (k.net n) (allowed k n c) f t
    lead_sound n f Any c h = tt
    lead_sound n f End c h = reach_sound (k.net n) (allowed k n c) f End h
    lead_sound n f (To m) c h = reach_sound (k.net n) (allowed k n c) f (To m) h

    walked_sound : (n : ℕ) (f : Spot) (u : Goal) (c : List ℕ) (m : ℕ) (x : Tree) → k.kept n m c ≡ Some x → (ps : List Taken) → ((p : Taken) → IsAmong ps p → IsAfter k x p.event p.term) → (t : Taken) → IsAmong (all_walked k n f u c m ps) t → IsAfter k (Walk n f u c) t.event t.term
    walked_sound n f u c m x d [] q t h = absurd h
    walked_sound n f u c m x d (p ∷ ps) q t h =
        go (may_lead k n f (To m) (c ∪ (instances_of p.event).instances)) refl (may_lead k n (At m) u c) refl (walk_of k n f (To m) (c ∪ (instances_of p.event).instances)) refl (walk_of k n (At m) u c) refl h
        (walked_sound n f u c m x d ps (λ r i. q r (inr i)) t)
      where
        go : (a : Bool) → may_lead k n f (To m) (c ∪ (instances_of p.event).instances) ≡ a → (b : Bool) → may_lead k n (At m) u c ≡ b → (v : Option Tree) → walk_of k n f (To m) (c ∪ (instances_of p.event).instances) ≡ v → (z : Option Tree) → walk_of k n (At m) u c ≡ z
            → IsAmong (walked a b v z p (all_walked k n f u c m ps)) t → (IsAmong (all_walked k n f u c m ps) t → IsAfter k (Walk n f u c) t.event t.term) → IsAfter k (Walk n f u c) t.event t.term
        go true l1 true l2 (Some v) e1 (Some z) e2 (inl j) i =
            moved (Walk n f u c) (record { event = p.event; term = join_all seq (v ∷ p.term ∷ z ∷ []) }) t j
            (after_walk m d (q p (inl refl)) (lead_sound n f (To m) (c ∪ (instances_of p.event).instances) l1) (lead_sound n (At m) u c l2) e1 e2)
        go true l1 true l2 (Some v) e1 (Some z) e2 (inr h) i = i h
        go true l1 true l2 (Some v) e1 None e2 h i = i h
        go true l1 true l2 None e1 z e2 h i = i h
        go true l1 false l2 v e1 z e2 h i = i h
        go false l1 b l2 v e1 z e2 h i = i h

    node_sound : (n : ℕ) (f : Spot) (u : Goal) (c : List ℕ) (m : ℕ) (r : Option Tree) → k.kept n m c ≡ r → (t : Taken) → IsAmong (node_walked k g n f u c m r) t → IsAfter k (Walk n f u c) t.event t.term
    node_sound n f u c m None d t h = absurd h
    node_sound n f u c m (Some x) d t h = walked_sound n f u c m x d (g x) (gs x) t h

    nodes_sound : (n : ℕ) (f : Spot) (u : Goal) (c ms : List ℕ) (t : Taken) → IsAmong (nodes_walked k g n f u c ms) t → IsAfter k (Walk n f u c) t.event t.term
    nodes_sound n f u c [] t h = absurd h
    nodes_sound n f u c (m ∷ ms) t h = elim (among_either (node_walked k g n f u c m (k.kept n m c)) (nodes_walked k g n f u c ms) t h) [ inl i ↦ node_sound n f u c m (k.kept n m c) refl t i | inr i ↦ nodes_sound n f u c ms t i ]

    mutual
      pub listed_sound : (x : Tree) (t : Taken) → IsAmong (listed k g x) t → IsAfter k x t.event t.term
      listed_sound Nil t h = absurd h
      listed_sound (Event e) t (inl d) = moved (Event e) (record { event = e; term = Nil }) t d after_event
      listed_sound (Event e) t (inr h) = absurd h
      listed_sound (Join m xs) t h = joined_sound m xs (listed_parts k g m xs) (parts_sound m xs) t h
      listed_sound (Choice xs) t h = after_choice (all_sound xs t h)
      listed_sound (Tied x q) t h = tied_sound x q (listed k g x) (listed_sound x) t h
      listed_sound (Loop x lo hi r) t h = turned_sound x lo hi r (listed_row k g x r) (row_sound x r) t h
      listed_sound (Walk n f u c) t h = nodes_sound n f u c (k.nodes n) t h

      parts_sound : (m : Mode) (xs : Trees) (t : TakenParts) → IsAmong (listed_parts k g m xs) t → IsAfterJoin k m xs t.event t.parts_left
      parts_sound m none t h = absurd h
      parts_sound m (more x xs) t h =
          elim (among_either (first_taken (items xs) (listed k g x)) (behind_part k m x (listed_parts k g m xs)) t h)
          [ inl i ↦ first_sound m x xs (listed k g x) (listed_sound x) t i | inr i ↦ behind_sound m x xs (listed_parts k g m xs) (parts_sound m xs) t i ]

      all_sound : (xs : Trees) (t : Taken) → IsAmong (listed_all k g xs) t → IsAfterOne k xs t.event t.term
      all_sound none t h = absurd h
      all_sound (more x xs) t h = elim (among_either (listed k g x) (listed_all k g xs) t h) [ inl i ↦ first_one (listed_sound x t i) | inr i ↦ later_one (all_sound xs t i) ]

      row_sound : (x : Tree) (r : Row) (t : TakenRow) → IsAmong (listed_row k g x r) t → IsAfterRow k x t.begins (parts r) t.event t.row_left
      row_sound x ends t h = absurd h
      row_sound x (gap c r) t h =
          elim (among_either (gap_begun g (permit k (only c) x) c (parts r)) (behind_gap c (listed_row k g x r)) t h)
          [ inl i ↦ begun_sound x c (parts r) (permit k (only c) x) refl t i | inr i ↦ past_gap_sound x c (parts r) (listed_row k g x r) (row_sound x r) t i ]
      row_sound x (turn y r) t h =
          elim (among_either (turn_taken (parts r) (listed k g y)) (behind_turn k y (listed_row k g x r)) t h)
          [ inl i ↦ turn_sound x y (parts r) (listed k g y) (listed_sound y) t i | inr i ↦ past_turn_sound x y (parts r) (listed_row k g x r) (row_sound x r) t i ]

  pub list_sound : (n : ℕ) (x : Tree) (t : Taken) → IsAmong (after_list n k x) t → IsAfter k x t.event t.term
  list_sound zero x t h = absurd h
  list_sound (suc n) x t h = listed_sound (after_list n k) (list_sound n) x t h

  -- what is left is listed
  joined_in : (m : Mode) (e : TermEvent) (ys : List Tree) (ps : List TakenParts) → IsAmong ps (record { event = e; parts_left = ys }) → IsAmong (joined m ps) (record { event = e; term = join_all m ys })
  joined_in m e ys [] h = absurd h
  joined_in m e ys (p ∷ ps) (inl d) = inl (ap (λ t. record { event = t.event; term = join_all m t.parts_left }) d)
  joined_in m e ys (p ∷ ps) (inr h) = inr (joined_in m e ys ps h)

  tied_in : (q : List (ℕ × ℕ)) (e : TermEvent) (y z : Tree) → permit k (earlier q e) y ≡ Some z → (ps : List Taken) → IsAmong ps (record { event = e; term = y }) → IsAmong (all_tied k q ps) (record { event = e; term = tie_of z q })
  tied_in q e y z d [] h = absurd h
  tied_in q e y z d (p ∷ ps) (inl i) = here p (sym i)
    where
      put : (r : Option Tree) → r ≡ Some z → IsAmong (tied r e q (all_tied k q ps)) (record { event = e; term = tie_of z q })
      put r s = rw s (inl refl)

      here : (p : Taken) → p ≡ record { event = e; term = y } → IsAmong (tied (permit k (earlier q p.event) p.term) p.event q (all_tied k q ps)) (record { event = e; term = tie_of z q })
      here p i = rw i (put (permit k (earlier q e) y) d)
  tied_in q e y z d (p ∷ ps) (inr h) = past (permit k (earlier q p.event) p.term) (tied_in q e y z d ps h)
    where
      past : (r : Option Tree) → IsAmong (all_tied k q ps) (record { event = e; term = tie_of z q }) → IsAmong (tied r p.event q (all_tied k q ps)) (record { event = e; term = tie_of z q })
      past None i = i
      past (Some x) i = inr i

  first_in : (xs : List Tree) (e : TermEvent) (y : Tree) (ps : List Taken) → IsAmong ps (record { event = e; term = y }) → IsAmong (first_taken xs ps) (record { event = e; parts_left = y ∷ xs })
  first_in xs e y [] h = absurd h
  first_in xs e y (p ∷ ps) (inl d) = inl (ap (λ t. record { event = t.event; parts_left = t.term ∷ xs }) d)
  first_in xs e y (p ∷ ps) (inr h) = inr (first_in xs e y ps h)

  stay_is : (m : Mode) (e : TermEvent) (x y : Tree) → Stays k m e x y → stay k m e x ≡ Some y
  stay_is seq e x y h = h
  stay_is par e x y h = ap Some (sym h)

  behind_in : (m : Mode) (x x' : Tree) (e : TermEvent) (ys : List Tree) → stay k m e x ≡ Some x' → (ps : List TakenParts) → IsAmong ps (record { event = e; parts_left = ys }) → IsAmong (behind_part k m x ps) (record { event = e; parts_left = x' ∷ ys })
  behind_in m x x' e ys d [] h = absurd h
  behind_in m x x' e ys d (p ∷ ps) (inl i) = here p (sym i)
    where
      put : (r : Option Tree) → r ≡ Some x' → IsAmong (behind_one r (record { event = e; parts_left = ys }) (behind_part k m x ps)) (record { event = e; parts_left = x' ∷ ys })
      put r s = rw s (inl refl)

      here : (p : TakenParts) → p ≡ record { event = e; parts_left = ys } → IsAmong (behind_one (stay k m p.event x) p (behind_part k m x ps)) (record { event = e; parts_left = x' ∷ ys })
      here p i = rw i (put (stay k m e x) d)
  behind_in m x x' e ys d (p ∷ ps) (inr h) = past (stay k m p.event x) (behind_in m x x' e ys d ps h)
    where
      past : (r : Option Tree) → IsAmong (behind_part k m x ps) (record { event = e; parts_left = x' ∷ ys }) → IsAmong (behind_one r p (behind_part k m x ps)) (record { event = e; parts_left = x' ∷ ys })
      past None i = i
      past (Some z) i = inr i

  turn_in : (ps : List Part) (e : TermEvent) (z : Tree) (qs : List Taken) → IsAmong qs (record { event = e; term = z }) → IsAmong (turn_taken ps qs) (record { begins = false; event = e; row_left = Turn z ∷ ps })
  turn_in ps e z [] h = absurd h
  turn_in ps e z (p ∷ qs) (inl d) = inl (ap (λ t. record { begins = false; event = t.event; row_left = Turn t.term ∷ ps }) d)
  turn_in ps e z (p ∷ qs) (inr h) = inr (turn_in ps e z qs h)

  gap_in : (c : List ℕ) (ps : List Part) (e : TermEvent) (z : Tree) (qs : List Taken) → IsAmong qs (record { event = e; term = z }) → IsAmong (gap_taken c ps qs) (record { begins = true; event = e; row_left = Gap (c ∪ (instances_of e).instances) ∷ Turn z ∷ Gap c ∷ ps })
  gap_in c ps e z [] h = absurd h
  gap_in c ps e z (p ∷ qs) (inl d) = inl (ap (λ t. record { begins = true; event = t.event; row_left = Gap (c ∪ (instances_of t.event).instances) ∷ Turn t.term ∷ Gap c ∷ ps }) d)
  gap_in c ps e z (p ∷ qs) (inr h) = inr (gap_in c ps e z qs h)

  begun_in : (g : Tree → List Taken) (x y : Tree) (c : List ℕ) (ps : List Part) (e : TermEvent) (z : Tree) (r : Option Tree) → r ≡ Some y → IsAmong (g y) (record { event = e; term = z })
      → IsAmong (gap_begun g r c ps) (record { begins = true; event = e; row_left = Gap (c ∪ (instances_of e).instances) ∷ Turn z ∷ Gap c ∷ ps })
  begun_in g x y c ps e z r d h = rw d (gap_in c ps e z (g y) h)

  past_gap_in : (c : List ℕ) (b : Bool) (e : TermEvent) (qs : List Part) (ts : List TakenRow) → IsAmong ts (record { begins = b; event = e; row_left = qs }) → IsAmong (behind_gap c ts) (record { begins = b; event = e; row_left = Gap (c ∪ (instances_of e).instances) ∷ qs })
  past_gap_in c b e qs [] h = absurd h
  past_gap_in c b e qs (t ∷ ts) (inl d) = inl (ap (λ t. record { begins = t.begins; event = t.event; row_left = Gap (c ∪ (instances_of t.event).instances) ∷ t.row_left }) d)
  past_gap_in c b e qs (t ∷ ts) (inr h) = inr (past_gap_in c b e qs ts h)

  past_turn_in : (y z : Tree) (b : Bool) (e : TermEvent) (qs : List Part) → permit k (only (instances_of e).instances) y ≡ Some z → (ts : List TakenRow) → IsAmong ts (record { begins = b; event = e; row_left = qs }) → IsAmong (behind_turn k y ts) (record { begins = b; event = e; row_left = Turn z ∷ qs })
  past_turn_in y z b e qs d [] h = absurd h
  past_turn_in y z b e qs d (t ∷ ts) (inl i) = here t (sym i)
    where
      put : (r : Option Tree) → r ≡ Some z → IsAmong (behind_turned r (record { begins = b; event = e; row_left = qs }) (behind_turn k y ts)) (record { begins = b; event = e; row_left = Turn z ∷ qs })
      put r s = rw s (inl refl)

      here : (t : TakenRow) → t ≡ record { begins = b; event = e; row_left = qs } → IsAmong (behind_turned (permit k (only (instances_of t.event).instances) y) t (behind_turn k y ts)) (record { begins = b; event = e; row_left = Turn z ∷ qs })
      here t i = rw i (put (permit k (only (instances_of e).instances) y) d)
  past_turn_in y z b e qs d (t ∷ ts) (inr h) = past (permit k (only (instances_of t.event).instances) y) (past_turn_in y z b e qs d ts h)
    where
      past : (r : Option Tree) → IsAmong (behind_turn k y ts) (record { begins = b; event = e; row_left = Turn z ∷ qs }) → IsAmong (behind_turned r t (behind_turn k y ts)) (record { begins = b; event = e; row_left = Turn z ∷ qs })
      past None i = i
      past (Some x) i = inr i

  begins : (b : Bool) (hi : Option ℕ) → HasMore b hi → may_begin b hi ≡ true
  begins true (Some zero) h = absurd h
  begins true (Some (suc n)) h = refl
  begins true None h = refl
  begins false hi h = refl

  turned_in : (x : Tree) (lo : ℕ) (hi : Option ℕ) (b : Bool) (e : TermEvent) (qs : List Part) (z : Tree) → may_begin b hi ≡ true → loop_of (λ c. permit k (only c) x) (touch k.spread x) x (down b lo) (fewer b hi) qs ≡ Some z → (ts : List TakenRow)
      → IsAmong ts (record { begins = b; event = e; row_left = qs }) → IsAmong (all_turned k x lo hi ts) (record { event = e; term = z })
  turned_in x lo hi b e qs z m d [] h = absurd h
  turned_in x lo hi b e qs z m d (t ∷ ts) (inl i) = here t (sym i)
    where
      put : (a : Bool) (r : Option Tree) → a ≡ true → r ≡ Some z → IsAmong (turned a r e (all_turned k x lo hi ts)) (record { event = e; term = z })
      put a r s u = rw (s, u) (inl refl)

      here : (t : TakenRow) → t ≡ record { begins = b; event = e; row_left = qs }
          → IsAmong (turned (may_begin t.begins hi) (loop_of (λ c. permit k (only c) x) (touch k.spread x) x (down t.begins lo) (fewer t.begins hi) t.row_left) t.event (all_turned k x lo hi ts)) (record { event = e; term = z })
      here t i = rw i (put (may_begin b hi) (loop_of (λ c. permit k (only c) x) (touch k.spread x) x (down b lo) (fewer b hi) qs) m d)
  turned_in x lo hi b e qs z m d (t ∷ ts) (inr h) =
      past (may_begin t.begins hi) (loop_of (λ c. permit k (only c) x) (touch k.spread x) x (down t.begins lo) (fewer t.begins hi) t.row_left) (turned_in x lo hi b e qs z m d ts h)
    where
      past : (a : Bool) (r : Option Tree) → IsAmong (all_turned k x lo hi ts) (record { event = e; term = z }) → IsAmong (turned a r t.event (all_turned k x lo hi ts)) (record { event = e; term = z })
      past true None i = i
      past true (Some y) i = inr i
      past false r i = i

  lead_is : (n : ℕ) (f : Spot) (t : Goal) (c : List ℕ) → Leads (k.net n) (allowed k n c) f t → may_lead k n f t c ≡ true
  lead_is n f Any c h = refl
  lead_is n f End c h = reach_whole (k.net n) (allowed k n c) f End h
  lead_is n f (To m) c h = reach_whole (k.net n) (allowed k n c) f (To m) h

  walked_in : (n : ℕ) (f : Spot) (t : Goal) (c : List ℕ) (m : ℕ) (e : TermEvent) (y u v : Tree) → may_lead k n f (To m) (c ∪ (instances_of e).instances) ≡ true → may_lead k n (At m) t c ≡ true
      → walk_of k n f (To m) (c ∪ (instances_of e).instances) ≡ Some u → walk_of k n (At m) t c ≡ Some v → (ps : List Taken) → IsAmong ps (record { event = e; term = y }) → IsAmong (all_walked k n f t c m ps) (record { event = e; term = join_all seq (u ∷ y ∷ v ∷ []) })
  walked_in n f t c m e y u v l1 l2 d1 d2 [] h = absurd h
  walked_in n f t c m e y u v l1 l2 d1 d2 (p ∷ ps) (inl i) = here p (sym i)
    where
      put : (a b : Bool) (r s : Option Tree) → a ≡ true → b ≡ true → r ≡ Some u → s ≡ Some v → IsAmong (walked a b r s (record { event = e; term = y }) (all_walked k n f t c m ps)) (record { event = e; term = join_all seq (u ∷ y ∷ v ∷ []) })
      put a b r s i j q w = rw (i, j, q, w) (inl refl)

      here : (p : Taken) → p ≡ record { event = e; term = y } → IsAmong (walked (may_lead k n f (To m) (c ∪ (instances_of p.event).instances)) (may_lead k n (At m) t c) (walk_of k n f (To m) (c ∪ (instances_of p.event).instances)) (walk_of k n (At m) t c) p (all_walked k n f t c m ps))
          (record { event = e; term = join_all seq (u ∷ y ∷ v ∷ []) })
      here p i = rw i (put (may_lead k n f (To m) (c ∪ (instances_of e).instances)) (may_lead k n (At m) t c) (walk_of k n f (To m) (c ∪ (instances_of e).instances)) (walk_of k n (At m) t c) l1 l2 d1 d2)
  walked_in n f t c m e y u v l1 l2 d1 d2 (p ∷ ps) (inr h) =
      past (may_lead k n f (To m) (c ∪ (instances_of p.event).instances)) (may_lead k n (At m) t c) (walk_of k n f (To m) (c ∪ (instances_of p.event).instances)) (walk_of k n (At m) t c) (walked_in n f t c m e y u v l1 l2 d1 d2 ps h)
    where
      past : (a b : Bool) (r s : Option Tree) → IsAmong (all_walked k n f t c m ps) (record { event = e; term = join_all seq (u ∷ y ∷ v ∷ []) }) → IsAmong (walked a b r s p (all_walked k n f t c m ps)) (record { event = e; term = join_all seq (u ∷ y ∷ v ∷ []) })
      past true true (Some r) (Some s) i = inr i
      past true true (Some r) None i = i
      past true true None s i = i
      past true false r s i = i
      past false b r s i = i

  nodes_in : (g : Tree → List Taken) (n : ℕ) (f : Spot) (t : Goal) (c : List ℕ) (s : Taken) (m : ℕ) (x : Tree) → k.kept n m c ≡ Some x → IsAmong (all_walked k n f t c m (g x)) s → (ms : List ℕ) → IsIn m ms → IsAmong (nodes_walked k g n f t c ms) s
  nodes_in g n f t c s m x d h [] i = absurd i
  nodes_in g n f t c s m x d h (j ∷ ms) (inl e) = among_left (node_walked k g n f t c j (k.kept n j c)) (nodes_walked k g n f t c ms) s (at_node j e)
    where
      put : (r : Option Tree) → r ≡ Some x → IsAmong (node_walked k g n f t c m r) s
      put r q = rw q h

      at_node : (j : ℕ) → m ≡ j → IsAmong (node_walked k g n f t c j (k.kept n j c)) s
      at_node j e = rw (← e) (put (k.kept n m c) d)
  nodes_in g n f t c s m x d h (j ∷ ms) (inr i) = among_right (node_walked k g n f t c j (k.kept n j c)) (nodes_walked k g n f t c ms) s (nodes_in g n f t c s m x d h ms i)

  module _ (nr : ℕ → ℕ) (kept_rank : (n m : ℕ) (c : List ℕ) (x : Tree) → k.kept n m c ≡ Some x → rank nr x ≤ nr n) (known : (n m : ℕ) (d : List ℕ) (x : Tree) → k.kept n m d ≡ Some x → IsIn m (k.nodes n)) where
    module _ (d : ℕ) (g : Tree → List Taken) (ih : (x y : Tree) (e : TermEvent) → rank nr x ≤ d → IsAfter k x e y → IsAmong (g x) (record { event = e; term = y })) where
      mutual
        listed_whole : (x y : Tree) (e : TermEvent) → rank nr x ≤ suc d → IsAfter k x e y → IsAmong (listed k g x) (record { event = e; term = y })
        listed_whole Nil y e l a = elim a [ ]
        listed_whole (Event f) y e l after_event = inl refl
        listed_whole (Join m xs) y e l (after_join {ys = ys} a) = joined_in m e ys (listed_parts k g m xs) (parts_whole m xs ys e (omega arith) a)
        listed_whole (Choice xs) y e l (after_choice a) = all_whole xs y e (omega arith) a
        listed_whole (Tied x q) y e l (after_tied {y = u} {z = z} a p) = tied_in q e u z p (listed k g x) (listed_whole x u e (omega arith) a)
        listed_whole (Loop x lo hi r) y e l (after_loop b {ps = ps} a h p) = turned_in x lo hi b e ps y (begins b hi h) p (listed_row k g x r) (row_whole x r b ps e (omega arith) (omega arith) a)
        listed_whole (Walk n f t c) y e l (after_walk m {x = x} {y = u} {u = v} {v = z} p a l1 l2 q r) =
            let i = kept_rank n m c x p in
            nodes_in g n f t c (record { event = e; term = join_all seq (v ∷ u ∷ z ∷ []) }) m x p
            (walked_in n f t c m e u v z (lead_is n f (To m) (c ∪ (instances_of e).instances) l1) (lead_is n (At m) t c l2) q r (g x) (ih x u e (omega arith) a)) (k.nodes n) (known n m c x p)

        parts_whole : (m : Mode) (xs : Trees) (ys : List Tree) (e : TermEvent) → ranks nr xs ≤ suc d → IsAfterJoin k m xs e ys → IsAmong (listed_parts k g m xs) (record { event = e; parts_left = ys })
        parts_whole m none ys e l a = elim a [ ]
        parts_whole m (more x xs) ys e l (first_part {y = y} a) =
            among_left (first_taken (items xs) (listed k g x)) (behind_part k m x (listed_parts k g m xs)) (record { event = e; parts_left = y ∷ items xs }) (first_in (items xs) e y (listed k g x) (listed_whole x y e (omega arith) a))
        parts_whole m (more x xs) ys e l (later_part {x' = x'} {ys = zs} s a) =
            among_right (first_taken (items xs) (listed k g x)) (behind_part k m x (listed_parts k g m xs)) (record { event = e; parts_left = x' ∷ zs }) (behind_in m x x' e zs (stay_is m e x x' s) (listed_parts k g m xs) (parts_whole m xs zs e (omega arith) a))

        all_whole : (xs : Trees) (y : Tree) (e : TermEvent) → ranks nr xs ≤ suc d → IsAfterOne k xs e y → IsAmong (listed_all k g xs) (record { event = e; term = y })
        all_whole none y e l a = elim a [ ]
        all_whole (more x xs) y e l (first_one a) = among_left (listed k g x) (listed_all k g xs) (record { event = e; term = y }) (listed_whole x y e (omega arith) a)
        all_whole (more x xs) y e l (later_one a) = among_right (listed k g x) (listed_all k g xs) (record { event = e; term = y }) (all_whole xs y e (omega arith) a)

        row_whole : (x : Tree) (r : Row) (b : Bool) (qs : List Part) (e : TermEvent) → row_rank nr r ≤ suc d → rank nr x ≤ d → IsAfterRow k x b (parts r) e qs → IsAmong (listed_row k g x r) (record { begins = b; event = e; row_left = qs })
        row_whole x ends b qs e l i a = elim a [ ]
        row_whole x (gap c r) b qs e l i (in_gap {y = y} {z = z} p a) =
            let j = permit_rank k nr (only c) x y p in
            among_left (gap_begun g (permit k (only c) x) c (parts r)) (behind_gap c (listed_row k g x r)) (record { begins = true; event = e; row_left = Gap (c ∪ (instances_of e).instances) ∷ Turn z ∷ Gap c ∷ parts r }) (begun_in g x y c (parts r) e z (permit k (only c) x) p (ih y z e (omega arith) a))
        row_whole x (gap c r) b qs e l i (past_gap {qs = rs} a) =
            among_right (gap_begun g (permit k (only c) x) c (parts r)) (behind_gap c (listed_row k g x r)) (record { begins = b; event = e; row_left = Gap (c ∪ (instances_of e).instances) ∷ rs }) (past_gap_in c b e rs (listed_row k g x r) (row_whole x r b rs e (omega arith) i a))
        row_whole x (turn y r) b qs e l i (in_turn {z = z} a) =
            among_left (turn_taken (parts r) (listed k g y)) (behind_turn k y (listed_row k g x r)) (record { begins = false; event = e; row_left = Turn z ∷ parts r }) (turn_in (parts r) e z (listed k g y) (listed_whole y z e (omega arith) a))
        row_whole x (turn y r) b qs e l i (past_turn {z = z} {qs = rs} p a) =
            among_right (turn_taken (parts r) (listed k g y)) (behind_turn k y (listed_row k g x r)) (record { begins = b; event = e; row_left = Turn z ∷ rs }) (past_turn_in y z b e rs p (listed_row k g x r) (row_whole x r b rs e (omega arith) i a))

    no_rank : (x : Tree) → rank nr x ≤ zero → ⊥
    no_rank Nil l = absurd (omega arith)
    no_rank (Event e) l = absurd (omega arith)
    no_rank (Join m xs) l = absurd (omega arith)
    no_rank (Choice xs) l = absurd (omega arith)
    no_rank (Tied x q) l = absurd (omega arith)
    no_rank (Loop x lo hi r) l = absurd (omega arith)
    no_rank (Walk n f t c) l = absurd (omega arith)

    pub list_whole : (n : ℕ) (x y : Tree) (e : TermEvent) → rank nr x ≤ n → IsAfter k x e y → IsAmong (after_list n k x) (record { event = e; term = y })
    list_whole zero x y e l a = absurd (no_rank x l)
    list_whole (suc n) x y e l a = listed_whole n (after_list n k) (list_whole n) x y e l a

pub list_is_exact : ListIsExact
list_is_exact = record {
  sound = λ w n x t h. list_sound (permits_of w) n x t h;
  deep = λ w x h. record {
    depth = rank (net_rank w) x;
    enough = record { whole = λ m l e y a. list_whole (permits_of w) (net_rank w) (kept_rank true w h) ((nets_good true w h).known) m x y e l a };
  };
}
