-- What is left of a term after an event (its residual), and whether a term may end.
use Rattle.std.specs.Prelude.{ℕ, zero, suc, ◌-◌, Bool, true, false, List, [], ◌∷◌, ◌≡◌, Option, Some, None}
use Rattle.msc_base.specs.Patterns.{Mode, seq, par}
use Rattle.hmsc_graph.specs.Graphs.{Spot, At, Goal, To, behind, arrives}
use Rattle.hmsc_graph.specs.Walks.{Leads}
use Rattle.msc_base.specs.Lists.{IsIn}
use Rattle.chart_term.specs.NormalForms.{NetPermits, only, join_all, loop_of, walk_of, allowed, tie_of}
use Rattle.chart_term.specs.TermMeanings.{NetTerms, aim}
use Rattle.chart_term.specs.TermPatterns.{instances_of, earlier}
use Rattle.chart_term.specs.Terms.{TermEvent, Tree, Nil, Event, Join, Choice, Tied, Loop, Walk, Trees, more, Row, items, Part, Gap, Turn, parts, ◌∪◌}
use Rattle.chart_term.specs.Spreads.{touch}
use Rattle.term_laws.specs.Permission.{permit}

-- what an earlier part of a join has to leave
abbrev pub Stays : NetPermits → Mode → TermEvent → Tree → Tree → Type 0
Stays k seq e x x' = permit k (only (instances_of e).instances) x ≡ Some x'
Stays k par e x x' = x' ≡ x

-- one less, where there is an end
abbrev pub fewer : Bool → Option ℕ → Option ℕ
fewer b None = None
fewer true (Some n) = Some (n - 1)
fewer false (Some n) = Some n

-- one less, but not below 0
abbrev pub down : Bool → ℕ → ℕ
down true n = n - 1
down false n = n

-- a further turn may begin
abbrev pub HasMore : Bool → Option ℕ → Type 0
HasMore true (Some zero) = ⊥
HasMore true (Some (suc n)) = Unit {0}
HasMore true None = Unit {0}
HasMore false hi = Unit {0}

-- the event, and what is left
mutual
  pub data IsAfter (k : NetPermits) : Tree → TermEvent → Tree → Type 0 where
    after_event : {e : TermEvent} → IsAfter k (Event e) e Nil
    after_choice : {xs : Trees} {e : TermEvent} {y : Tree} → IsAfterOne k xs e y → IsAfter k (Choice xs) e y
    after_join : {m : Mode} {xs : Trees} {e : TermEvent} {ys : List Tree} → IsAfterJoin k m xs e ys → IsAfter k (Join m xs) e (join_all m ys)
    after_tied : {x y z : Tree} {q : List (ℕ × ℕ)} {e : TermEvent} → IsAfter k x e y → permit k (earlier q e) y ≡ Some z → IsAfter k (Tied x q) e (tie_of z q)
    after_loop : {x z : Tree} {lo : ℕ} {hi : Option ℕ} {r : Row} {e : TermEvent} (b : Bool) {ps : List Part} → IsAfterRow k x b (parts r) e ps → HasMore b hi
        → loop_of (λ c. permit k (only c) x) (touch k.spread x) x (down b lo) (fewer b hi) ps ≡ Some z → IsAfter k (Loop x lo hi r) e z
    after_walk : {n : ℕ} {s : Spot} {t : Goal} {c : List ℕ} {e : TermEvent} (m : ℕ) {x y u v : Tree} → k.kept n m c ≡ Some x → IsAfter k x e y
        → Leads (k.net n) (allowed k n (c ∪ (instances_of e).instances)) s (To m) → Leads (k.net n) (allowed k n c) (At m) t
        → walk_of k n s (To m) (c ∪ (instances_of e).instances) ≡ Some u → walk_of k n (At m) t c ≡ Some v
        → IsAfter k (Walk n s t c) e (join_all seq (u ∷ y ∷ v ∷ []))

  pub data IsAfterOne (k : NetPermits) : Trees → TermEvent → Tree → Type 0 where
    first_one : {x y : Tree} {xs : Trees} {e : TermEvent} → IsAfter k x e y → IsAfterOne k (more x xs) e y
    later_one : {x y : Tree} {xs : Trees} {e : TermEvent} → IsAfterOne k xs e y → IsAfterOne k (more x xs) e y

  pub data IsAfterJoin (k : NetPermits) : Mode → Trees → TermEvent → List Tree → Type 0 where
    first_part : {m : Mode} {x y : Tree} {xs : Trees} {e : TermEvent} → IsAfter k x e y → IsAfterJoin k m (more x xs) e (y ∷ items xs)
    later_part : {m : Mode} {x x' : Tree} {xs : Trees} {ys : List Tree} {e : TermEvent} → Stays k m e x x' → IsAfterJoin k m xs e ys → IsAfterJoin k m (more x xs) e (x' ∷ ys)

  -- the flag says whether a further turn began
  pub data IsAfterRow (k : NetPermits) : Tree → Bool → List Part → TermEvent → List Part → Type 0 where
    in_turn : {x y z : Tree} {ps : List Part} {e : TermEvent} → IsAfter k y e z → IsAfterRow k x false (Turn y ∷ ps) e (Turn z ∷ ps)
    in_gap : {x y z : Tree} {c : List ℕ} {ps : List Part} {e : TermEvent} → permit k (only c) x ≡ Some y → IsAfter k y e z
        → IsAfterRow k x true (Gap c ∷ ps) e (Gap (c ∪ (instances_of e).instances) ∷ Turn z ∷ Gap c ∷ ps)
    past_turn : {x y z : Tree} {b : Bool} {ps qs : List Part} {e : TermEvent} → permit k (only (instances_of e).instances) y ≡ Some z → IsAfterRow k x b ps e qs → IsAfterRow k x b (Turn y ∷ ps) e (Turn z ∷ qs)
    past_gap : {x : Tree} {c : List ℕ} {b : Bool} {ps qs : List Part} {e : TermEvent} → IsAfterRow k x b ps e qs → IsAfterRow k x b (Gap c ∷ ps) e (Gap (c ∪ (instances_of e).instances) ∷ qs)

-- the row has a gap
abbrev pub HasGap : List Part → Type 0
HasGap [] = ⊥
HasGap (Gap c ∷ ps) = Unit {0}
HasGap (Turn x ∷ ps) = HasGap ps

-- whether a term may end
mutual
  pub data MayEnd (w : NetTerms) : Tree → Type 0 where
    end_nil : MayEnd w Nil
    end_join : {m : Mode} {xs : Trees} → EndAll w (items xs) → MayEnd w (Join m xs)
    end_choice : {xs : Trees} → EndOne w (items xs) → MayEnd w (Choice xs)
    end_bound : {x : Tree} {q : List (ℕ × ℕ)} → MayEnd w x → MayEnd w (Tied x q)
    end_zero : {x : Tree} {hi : Option ℕ} {r : Row} → EndLoop w (parts r) → MayEnd w (Loop x zero hi r)
    end_turns : {x : Tree} {lo : ℕ} {hi : Option ℕ} {r : Row} → EndLoop w (parts r) → HasGap (parts r) → MayEnd w x → MayEnd w (Loop x lo hi r)
    end_trail : {n : ℕ} {f : Spot} {t : Goal} {c : List ℕ} → EndWalk w n f t → MayEnd w (Walk n f t c)

  pub data EndAll (w : NetTerms) : List Tree → Type 0 where
    end_none : EndAll w []
    end_more : {x : Tree} {xs : List Tree} → MayEnd w x → EndAll w xs → EndAll w (x ∷ xs)

  pub data EndOne (w : NetTerms) : List Tree → Type 0 where
    end_this : {x : Tree} {xs : List Tree} → MayEnd w x → EndOne w (x ∷ xs)
    end_that : {x : Tree} {xs : List Tree} → EndOne w xs → EndOne w (x ∷ xs)

  pub data EndLoop (w : NetTerms) : List Part → Type 0 where
    no_turns : EndLoop w []
    past_gap : {c : List ℕ} {ps : List Part} → EndLoop w ps → EndLoop w (Gap c ∷ ps)
    one_turn : {x : Tree} {ps : List Part} → MayEnd w x → EndLoop w ps → EndLoop w (Turn x ∷ ps)

  pub data EndWalk (w : NetTerms) : ℕ → Spot → Goal → Type 0 where
    last_edge : {n : ℕ} {f : Spot} {t : Goal} (m : ℕ) → IsIn m (behind (w.net n) f) → arrives (w.net n) (aim t) m ≡ true → EndWalk w n f t
    inner_edge : {n : ℕ} {f : Spot} {t : Goal} (m : ℕ) → IsIn m (behind (w.net n) f) → MayEnd w (w.node n m) → EndWalk w n (At m) t → EndWalk w n f t
