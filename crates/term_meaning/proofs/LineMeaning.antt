-- Walks by lists of lines are the walks of terms.
use Rattle.std.specs.Prelude.{ℕ, Bool, true, false, List, [], ◌∷◌, ◌≡◌, ◌⊎◌}
use Rattle.std.proofs.Common.{ap, sym, ◌∙◌, refl, subst, inl, inr}
use Rattle.hmsc_graph.specs.Graphs.{Net, Spot, Start, At, Goal, End, Any, arrives}
use Rattle.msc_base.specs.Patterns.{seq, empty, join}
use Rattle.msc_unfolding.specs.Unfoldings.{Happening, Unfolding, plain}
use Rattle.chart_term.specs.TermMeanings.{NetTerms, HasPattern, MayStop, aim}
use Rattle.chart_term.specs.TermPatterns.{Shape, numbered}
use Rattle.chart_term.specs.Terms.{TermEvent, Walk}
use Rattle.term_meaning.specs.LineWalks.{IsPath, path_none, path_more, EndsAt, AreAlong, along_none, along_more, IsUnderWay, IsFinished, AreEndsEmpty, Equal, IsAlike, AreAlike}
use Rattle.term_meaning.specs.Meanings.{Mean}
use Rattle.term_meaning.specs.Standings.{Stands}
use Rattle.term_meaning.specs.UnfoldingSets.{Either, AreOnWalk, stops, arrives_at, passes}
use Rattle.term_meaning.proofs.MeaningRules.{mean_trail}
use Rattle.term_meaning.proofs.StandRules.{stands_join, stands_on, stands_back}

abbrev Alike : Unfolding → Unfolding → Type 0
Alike u v = Stands plain plain Equal u v

pub alike_self : (u : Unfolding) → Alike u u
alike_self u = record { to = λ p. p; from = λ p. p; back = λ p. refl; forth = λ p. refl; event = λ p. refl; keeps = λ p q h. h; gives = λ p q h. h }

meet_equal : (a b c d : Happening) → a ≡ c → b ≡ d → plain.meets a b ≡ plain.meets c d
meet_equal a b c d p q = ap (λ z. plain.meets z b) p ∙ ap (λ z. plain.meets c z) q

alike_join : (a b c d : Unfolding) → Alike a c → Alike b d → Alike (join seq a b) (join seq c d)
alike_join a b c d h k = stands_join plain plain Equal meet_equal seq a b c d h k

alike_back : (u v : Unfolding) → Alike u v → Alike v u
alike_back u v h = stands_back plain plain Equal Equal (λ g h e. sym e) u v h

-- an empty pattern twice is empty
twice_empty : Alike (join seq empty empty) empty
twice_empty = record { to = to; from = λ p. inl p; back = λ p. absurd (to p); forth = λ p. absurd p; event = λ p. absurd (to p); keeps = λ p q h. absurd (to p); gives = λ p q h. absurd (to p) }
  where
    to : ⊥ ⊎ ⊥ → ⊥
    to (inl p) = p
    to (inr p) = p

-- sets of unfoldings that are alike have the same meaning
pub mean_alike : (Same : TermEvent → Happening → Type 0) (P : Shape → Type 0) (U V : Unfolding → Type 0) → AreAlike U V → Mean Same P U → Mean Same P V
mean_alike Same P U V h m = record {
  each = λ s p. let i = m.each s p in let j = h.to i.of i.is in record { of = j.of; is = j.is; stands = over s i.of j.of i.stands j.stands };
  all = λ v k. let j = h.from v k in let i = m.all j.of j.is in record { pattern = i.pattern; is = i.is; stands = over i.pattern j.of v i.stands (alike_back v j.of j.stands) };
}
  where
    over : (s : Shape) (u v : Unfolding) → Stands numbered plain Same s u → Alike u v → Stands numbered plain Same s v
    over s u v a b = stands_on numbered plain plain Same Equal Same (λ e g h k p. subst (Same e) p k) s u v a b

module _ (g : Net) (A : ℕ → Unfolding → Type 0) (e : AreEndsEmpty g A) (o : Bool) (t : Goal) (goal : aim t ≡ End) where
  pub record HasLines (f : Spot) (u : Unfolding) : Type 0 where
    pub lines : List ℕ
    pub path : IsPath g f lines
    pub of : Unfolding
    pub along : AreAlong A lines of
    pub stands : Alike u of
    pub how : EndsAt g lines ⊎ MayStop t o

  more_ends : (m : ℕ) (ms : List ℕ) → EndsAt g ms ⊎ MayStop t o → EndsAt g (m ∷ ms) ⊎ MayStop t o
  more_ends m [] (inl h) = absurd h
  more_ends m (n ∷ ms) (inl h) = inl h
  more_ends m ms (inr h) = inr h

  arrived : (m : ℕ) → arrives g (aim t) m ≡ true → arrives g End m ≡ true
  arrived m h = subst (λ (k : Goal). arrives g k m ≡ true) goal h

  arriving : (m : ℕ) → arrives g End m ≡ true → arrives g (aim t) m ≡ true
  arriving m h = subst (λ (k : Goal). arrives g k m ≡ true) (sym goal) h

  walk_lines : (f : Spot) (u : Unfolding) → AreOnWalk g o A f t u → HasLines f u
  walk_lines f _ (stops h) = record { lines = []; path = path_none; of = empty; along = along_none; stands = alike_self empty; how = inr h }
  walk_lines f _ (arrives_at m i h) =
      record { lines = m ∷ []; path = path_more i path_none; of = join seq empty empty; along = along_more (e.there m (arrived m h)) along_none; stands = alike_back (join seq empty empty) empty twice_empty; how = inl (arrived m h) }
  walk_lines f _ (passes m {a = a} {b = b} i h k) =
      let r = walk_lines (At m) b k in
      record { lines = m ∷ r.lines; path = path_more i r.path; of = join seq a r.of; along = along_more h r.along; stands = alike_join a b a r.of (alike_self a) r.stands; how = more_ends m r.lines r.how }

  -- a walk that may stop, by its lines
  stop_walk : MayStop t o → (f : Spot) (ms : List ℕ) (u : Unfolding) → IsPath g f ms → AreAlong A ms u → AreOnWalk g o A f t u
  stop_walk s f [] _ p along_none = stops s
  stop_walk s f (m ∷ ms) _ (path_more i p) (along_more {a = a} {b = b} h k) = passes m i h (stop_walk s (At m) ms b p k)

  -- a walk to an end, by its lines
  end_walk : (f : Spot) (ms : List ℕ) (u : Unfolding) → IsPath g f ms → EndsAt g ms → AreAlong A ms u → IsAlike (AreOnWalk g o A f t) u
  end_walk f [] u p h k = absurd h
  end_walk f (m ∷ []) _ (path_more i p) h (along_more {a = a} j along_none) =
      record { of = empty; is = arrives_at m i (arriving m h); stands = subst (λ x. Alike (join seq x empty) empty) (sym (e.only m a h j)) twice_empty }
  end_walk f (m ∷ n ∷ ms) _ (path_more i p) h (along_more {a = a} {b = b} j k) =
      let r = end_walk (At m) (n ∷ ms) b p h k in
      record { of = join seq a r.of; is = passes m i j r.is; stands = alike_join a b a r.of (alike_self a) r.stands }

  -- where no walk may stop all are finished
  pub finished_alike : (MayStop t o → ⊥) → AreAlike (AreOnWalk g o A Start t) (IsFinished g A)
  finished_alike never = record { to = to; from = from }
    where
      to : (u : Unfolding) → AreOnWalk g o A Start t u → IsAlike (IsFinished g A) u
      to u h = let r = walk_lines Start u h in record { of = r.of; is = record { lines = r.lines; path = r.path; ends = elim r.how [ inl a ↦ a | inr b ↦ absurd (never b) ]; along = r.along }; stands = r.stands }

      from : (u : Unfolding) → IsFinished g A u → IsAlike (AreOnWalk g o A Start t) u
      from u h = end_walk Start h.lines u h.path h.ends h.along

  -- else they are finished or under way
  pub any_alike : MayStop t o → AreAlike (AreOnWalk g o A Start t) (Either (IsFinished g A) (IsUnderWay g A))
  any_alike may = record { to = to; from = from }
    where
      to : (u : Unfolding) → AreOnWalk g o A Start t u → IsAlike (Either (IsFinished g A) (IsUnderWay g A)) u
      to u h = let r = walk_lines Start u h in record { of = r.of; is = inr (record { lines = r.lines; path = r.path; along = r.along }); stands = r.stands }

      from : (u : Unfolding) → Either (IsFinished g A) (IsUnderWay g A) u → IsAlike (AreOnWalk g o A Start t) u
      from u (inl h) = end_walk Start h.lines u h.path h.ends h.along
      from u (inr h) = record { of = u; is = stop_walk may Start h.lines u h.path h.along; stands = alike_self u }

-- the walks of a term mean the walks by lists of lines
module _ (Same : TermEvent → Happening → Type 0) (w : NetTerms) (meet : (e f : TermEvent) (g h : Happening) → Same e g → Same f h → numbered.meets e f ≡ plain.meets g h)
    (n : ℕ) (A : ℕ → Unfolding → Type 0) (ends : AreEndsEmpty (w.net n) A) where
  -- a finished walk of a chart's own graph, or of one that is referenced
  pub mean_finished : ((m : ℕ) → Mean Same (HasPattern w false (w.node n m)) (A m)) → Mean Same (HasPattern w false (Walk n Start Any [])) (IsFinished (w.net n) A)
  mean_finished a = mean_alike Same (HasPattern w false (Walk n Start Any [])) (AreOnWalk (w.net n) false A Start Any) (IsFinished (w.net n) A) (finished_alike (w.net n) A ends false Any refl (λ h. h)) (mean_trail Same w false meet n A a Start Any)

  pub mean_to_end : (o : Bool) → ((m : ℕ) → Mean Same (HasPattern w o (w.node n m)) (A m)) → Mean Same (HasPattern w o (Walk n Start End [])) (IsFinished (w.net n) A)
  mean_to_end o a = mean_alike Same (HasPattern w o (Walk n Start End [])) (AreOnWalk (w.net n) o A Start End) (IsFinished (w.net n) A) (finished_alike (w.net n) A ends o End refl (λ h. h)) (mean_trail Same w o meet n A a Start End)

  -- a walk of a chart's own graph that is finished or under way
  pub mean_under_way : ((m : ℕ) → Mean Same (HasPattern w true (w.node n m)) (A m)) → Mean Same (HasPattern w true (Walk n Start Any [])) (Either (IsFinished (w.net n) A) (IsUnderWay (w.net n) A))
  mean_under_way a =
      mean_alike Same (HasPattern w true (Walk n Start Any [])) (AreOnWalk (w.net n) true A Start Any) (Either (IsFinished (w.net n) A) (IsUnderWay (w.net n) A)) (any_alike (w.net n) A ends true Any refl tt) (mean_trail Same w true meet n A a Start Any)
