-- The rules by which terms mean sets of unfoldings, one for each constructor.
use Rattle.std.specs.Prelude.{ℕ, Bool, false, List, [], ◌∷◌, Option, Some, None, ◌≡◌, ◌||◌}
use Rattle.std.proofs.Common.{sym, inl, inr, refl, subst}
use Rattle.hmsc_graph.specs.Graphs.{Spot, Start, At, Goal}
use Rattle.msc_base.specs.Patterns.{Mode, seq, empty, one, join, bind, event_at}
use Rattle.msc_unfolding.specs.Unfoldings.{Happening, Tie, Unfolding, plain, joins}
use Rattle.chart_term.specs.NormalForms.{only, join_all, choice_of, tie_of}
use Rattle.chart_term.specs.Properties.{Every}
use Rattle.chart_term.specs.Tables.{Tables, NetEntry, terms_over}
use Rattle.chart_term.specs.TermMeanings.{NetTerms, HasPattern, has_nil, has_event, holds_tie, holds_loop, holds_walk, HasParts, no_part, one_part, HasChoice, this_one, that_one, HasRow, gaps_end, gaps_shut, gaps_more, HasWalk, walk_stop, walk_last, walk_step, PatternsOf, UpTo}
use Rattle.chart_term.specs.TermPatterns.{Shape, numbered, Avoids, Both, ◌≈◌, back, Occurs, InPairs, pairs}
use Rattle.chart_term.specs.Terms.{TermEvent, has_some, Tree, Nil, Event, Tied, Loop, Walk, Gap, gap, ends}
use Rattle.term_laws.specs.ConstructorLaws.{HaveSame, NormalFormsKeepPatterns}
use Rattle.term_laws.specs.FullSoundness.{fresh_loop, fresh_walk}
use Rattle.term_laws.specs.LaterTables.{LaterTablesAgree}
use Rattle.term_laws.specs.Soundness.{AreTidyTables, IsTidyOver, NetLacks, IsKnown}
use Rattle.term_meaning.specs.Meanings.{StandsForOne, IsStoodFor, Mean}
use Rattle.term_meaning.specs.Standings.{Stands}
use Rattle.term_meaning.specs.UnfoldingSets.{Nothing, OnlyEmpty, OnlyEvent, AreJoined, joined, AreTied, tied, Either, AreRepeated, no_more, once_more, AreSomeOften, AreOnWalk, stops, arrives_at, passes}
use Rattle.term_meaning.proofs.SameShapes.{Equals, same_stand, at_occurs}
use Rattle.term_meaning.proofs.StandRules.{stands_empty, stands_one, stands_join, stands_bind, stands_pass, stands_as, stands_on}

avoids_nothing : (s : Shape) → Avoids (only []) s
avoids_nothing empty = tt
avoids_nothing (one e) = none e.also
  where
    none : (o : Option ℕ) → (has_some [] o || false) ≡ false
    none None = refl
    none (Some n) = refl
avoids_nothing (join m x y) = (avoids_nothing x, avoids_nothing y)
avoids_nothing (bind x q) = avoids_nothing x

module _ (Same : TermEvent → Happening → Type 0) where
  -- same patterns stand for the same
  pub stands_same : {s t : Shape} → s ≈ t → (u : Unfolding) → Stands numbered plain Same t u → Stands numbered plain Same s u
  stands_same {s} {t} p u h = stands_on numbered numbered plain Equals Same Same (λ a b c e k. subst (λ z. Same z c) (sym e) k) s t u (same_stand p) h

  -- other sets of patterns that are the same
  pub mean_same : (P Q : Shape → Type 0) (U : Unfolding → Type 0) → HaveSame P Q → Mean Same Q U → Mean Same P U
  mean_same P Q U h m = record {
    each = λ s p. let (t, q, e) = h.to s p in let i = m.each t q in record { of = i.of; is = i.is; stands = stands_same e i.of i.stands };
    all = λ u k. let i = m.all u k in let (t, p, e) = h.from i.pattern i.is in record { pattern = t; is = p; stands = stands_same (back e) u i.stands };
  }

  -- other sets of unfoldings that are the same
  pub mean_sets : (P : Shape → Type 0) (U V : Unfolding → Type 0) → ((u : Unfolding) → Both (U u) (V u)) → Mean Same P U → Mean Same P V
  mean_sets P U V h m = record {
    each = λ s p. let i = m.each s p in record { of = i.of; is = (h i.of).to i.is; stands = i.stands };
    all = λ u k. m.all u ((h u).from k);
  }

  module _ (w : NetTerms) (o : Bool) where
    pub mean_nil : Mean Same (HasPattern w o Nil) OnlyEmpty
    mean_nil = record { each = each; all = all }
      where
        each : (s : Shape) → HasPattern w o Nil s → StandsForOne Same OnlyEmpty s
        each _ has_nil = record { of = empty; is = refl; stands = stands_empty numbered plain Same }

        all : (u : Unfolding) → u ≡ empty → IsStoodFor Same (HasPattern w o Nil) u
        all u e = record { pattern = empty; is = has_nil; stands = subst (Stands numbered plain Same empty) (sym e) (stands_empty numbered plain Same) }

    pub mean_event : (e : TermEvent) (h : Happening) → Same e h → Mean Same (HasPattern w o (Event e)) (OnlyEvent h)
    mean_event e h k = record { each = each; all = all }
      where
        each : (s : Shape) → HasPattern w o (Event e) s → StandsForOne Same (OnlyEvent h) s
        each _ has_event = record { of = one h; is = refl; stands = stands_one numbered plain Same e h k }

        all : (u : Unfolding) → u ≡ one h → IsStoodFor Same (HasPattern w o (Event e)) u
        all u i = record { pattern = one e; is = has_event; stands = subst (Stands numbered plain Same (one e)) (sym i) (stands_one numbered plain Same e h k) }

    -- no part is the empty pattern
    pub mean_no_part : (m : Mode) → Mean Same (HasParts w o m []) OnlyEmpty
    mean_no_part m = record { each = each; all = all }
      where
        each : (s : Shape) → HasParts w o m [] s → StandsForOne Same OnlyEmpty s
        each _ no_part = record { of = empty; is = refl; stands = stands_empty numbered plain Same }

        all : (u : Unfolding) → u ≡ empty → IsStoodFor Same (HasParts w o m []) u
        all u e = record { pattern = empty; is = no_part; stands = subst (Stands numbered plain Same empty) (sym e) (stands_empty numbered plain Same) }

    -- no part is no choice
    pub mean_no_choice : Mean Same (HasChoice w o []) Nothing
    mean_no_choice = record { each = each; all = λ u k. absurd k }
      where
        each : (s : Shape) → HasChoice w o [] s → StandsForOne Same Nothing s
        each s h = elim h [ ]

    pub mean_choice : (x : Tree) (xs : List Tree) (A B : Unfolding → Type 0) → Mean Same (HasPattern w o x) A → Mean Same (HasChoice w o xs) B → Mean Same (HasChoice w o (x ∷ xs)) (Either A B)
    mean_choice x xs A B a b = record { each = each; all = all }
      where
        each : (s : Shape) → HasChoice w o (x ∷ xs) s → StandsForOne Same (Either A B) s
        each s (this_one h) = let i = a.each s h in record { of = i.of; is = inl i.is; stands = i.stands }
        each s (that_one h) = let i = b.each s h in record { of = i.of; is = inr i.is; stands = i.stands }

        all : (u : Unfolding) → Either A B u → IsStoodFor Same (HasChoice w o (x ∷ xs)) u
        all u (inl k) = let i = a.all u k in record { pattern = i.pattern; is = this_one i.is; stands = i.stands }
        all u (inr k) = let i = b.all u k in record { pattern = i.pattern; is = that_one i.is; stands = i.stands }

    -- where the same events meet the same events
    module _ (meet : (e f : TermEvent) (g h : Happening) → Same e g → Same f h → numbered.meets e f ≡ plain.meets g h) where
      pub mean_part : (m : Mode) (x : Tree) (xs : List Tree) (A B : Unfolding → Type 0) → Mean Same (HasPattern w o x) A → Mean Same (HasParts w o m xs) B → Mean Same (HasParts w o m (x ∷ xs)) (AreJoined m A B)
      mean_part m x xs A B a b = record { each = each; all = all }
        where
          each : (s : Shape) → HasParts w o m (x ∷ xs) s → StandsForOne Same (AreJoined m A B) s
          each _ (one_part {s = s} {t = t} h k) = let i = a.each s h in let j = b.each t k in record { of = join m i.of j.of; is = joined i.is j.is; stands = stands_join numbered plain Same meet m s t i.of j.of i.stands j.stands }

          all : (u : Unfolding) → AreJoined m A B u → IsStoodFor Same (HasParts w o m (x ∷ xs)) u
          all _ (joined {a = f} {b = g} h k) = let i = a.all f h in let j = b.all g k in record { pattern = join m i.pattern j.pattern; is = one_part i.is j.is; stands = stands_join numbered plain Same meet m i.pattern j.pattern f g i.stands j.stands }

      -- turns of an operand, spread over one gap that holds nothing
      pub mean_row : (x : Tree) (A : Unfolding → Type 0) → Mean Same (HasPattern w o x) A → (n : ℕ) → Mean Same (HasRow w o x (Gap [] ∷ []) n) (AreRepeated A n)
      mean_row x A a n = record { each = λ s h. each n s h; all = λ u h. all n u h }
        where
          over : (n : ℕ) (s : Shape) → HasRow w o x [] n s → StandsForOne Same (AreRepeated A n) s
          over _ _ gaps_end = record { of = empty; is = no_more; stands = stands_empty numbered plain Same }

          each : (n : ℕ) (s : Shape) → HasRow w o x (Gap [] ∷ []) n s → StandsForOne Same (AreRepeated A n) s
          each n s (gaps_shut h) = over n s h
          each _ _ (gaps_more {n = n} {s = s} {u = t} h v k) = let i = a.each s h in let j = each n t k in record { of = join seq i.of j.of; is = once_more i.is j.is; stands = stands_join numbered plain Same meet seq s t i.of j.of i.stands j.stands }

          all : (n : ℕ) (u : Unfolding) → AreRepeated A n u → IsStoodFor Same (HasRow w o x (Gap [] ∷ []) n) u
          all _ _ no_more = record { pattern = empty; is = gaps_shut gaps_end; stands = stands_empty numbered plain Same }
          all _ _ (once_more {n = n} {a = f} {b = g} h k) = let i = a.all f h in let j = all n g k in record { pattern = join seq i.pattern j.pattern; is = gaps_more i.is (avoids_nothing i.pattern) j.is; stands = stands_join numbered plain Same meet seq i.pattern j.pattern f g i.stands j.stands }

      pub mean_turns : (x : Tree) (lo : ℕ) (hi : Option ℕ) (A : Unfolding → Type 0) → Mean Same (HasPattern w o x) A → Mean Same (HasPattern w o (Loop x lo hi (gap [] ends))) (AreSomeOften A lo hi)
      mean_turns x lo hi A a = record { each = each; all = all }
        where
          each : (s : Shape) → HasPattern w o (Loop x lo hi (gap [] ends)) s → StandsForOne Same (AreSomeOften A lo hi) s
          each s (holds_loop n h l k) = let i = (mean_row x A a n).each s h in record { of = i.of; is = record { times = n; least = l; most = k; are = i.is }; stands = i.stands }

          all : (u : Unfolding) → AreSomeOften A lo hi u → IsStoodFor Same (HasPattern w o (Loop x lo hi (gap [] ends))) u
          all u h = let i = (mean_row x A a h.times).all u h.are in record { pattern = i.pattern; is = holds_loop h.times i.is h.least h.most; stands = i.stands }

      -- walks through a net whose node terms mean these unfoldings
      pub mean_walk : (n : ℕ) (A : ℕ → Unfolding → Type 0) → ((m : ℕ) → Mean Same (HasPattern w o (w.node n m)) (A m)) → (f : Spot) (t : Goal) → Mean Same (HasWalk w o n f t []) (AreOnWalk (w.net n) o A f t)
      mean_walk n A a f t = record { each = λ s h. each f t s h; all = λ u h. all f t u h }
        where
          each : (f : Spot) (t : Goal) (s : Shape) → HasWalk w o n f t [] s → StandsForOne Same (AreOnWalk (w.net n) o A f t) s
          each f t _ (walk_stop h) = record { of = empty; is = stops h; stands = stands_empty numbered plain Same }
          each f t _ (walk_last m i h) = record { of = empty; is = arrives_at m i h; stands = stands_empty numbered plain Same }
          each f t _ (walk_step m {s = s} {u = v} i h av k) = let p = (a m).each s h in let q = each (At m) t v k in record { of = join seq p.of q.of; is = passes m i p.is q.is; stands = stands_join numbered plain Same meet seq s v p.of q.of p.stands q.stands }

          all : (f : Spot) (t : Goal) (u : Unfolding) → AreOnWalk (w.net n) o A f t u → IsStoodFor Same (HasWalk w o n f t []) u
          all f t _ (stops h) = record { pattern = empty; is = walk_stop h; stands = stands_empty numbered plain Same }
          all f t _ (arrives_at m i h) = record { pattern = empty; is = walk_last m i h; stands = stands_empty numbered plain Same }
          all f t _ (passes m {a = x} {b = y} i h k) = let p = (a m).all x h in let q = all (At m) t y k in record { pattern = join seq p.pattern q.pattern; is = walk_step m i p.is (avoids_nothing p.pattern) q.is; stands = stands_join numbered plain Same meet seq p.pattern q.pattern x y p.stands q.stands }

      pub mean_trail : (n : ℕ) (A : ℕ → Unfolding → Type 0) → ((m : ℕ) → Mean Same (HasPattern w o (w.node n m)) (A m)) → (f : Spot) (t : Goal) → Mean Same (HasPattern w o (Walk n f t [])) (AreOnWalk (w.net n) o A f t)
      mean_trail n A a f t = record { each = each; all = all }
        where
          each : (s : Shape) → HasPattern w o (Walk n f t []) s → StandsForOne Same (AreOnWalk (w.net n) o A f t) s
          each s (holds_walk h) = (mean_walk n A a f t).each s h

          all : (u : Unfolding) → AreOnWalk (w.net n) o A f t u → IsStoodFor Same (HasPattern w o (Walk n f t [])) u
          all u h = let i = (mean_walk n A a f t).all u h in record { pattern = i.pattern; is = holds_walk i.is; stands = i.stands }

-- ties, where other events are the same below and above
module _ (In Out : TermEvent → Happening → Type 0) (w : NetTerms) (o : Bool) where
  pub mean_tie : (x : Tree) (q : List (ℕ × ℕ)) (t : Tie) (A : Unfolding → Type 0)
      → ((e : TermEvent) (h : Happening) → In e h → Out e (plain.carries t h))
      → ((e f : TermEvent) (g h : Happening) → In e g → In f h → pairs q e.number f.number ≡ joins t.pairs g.tags h.tags)
      → Mean In (HasPattern w o x) A → Mean Out (HasPattern w o (Tied x q)) (AreTied A t)
  mean_tie x q t A up tie a = record { each = each; all = all }
    where
      each : (s : Shape) → HasPattern w o (Tied x q) s → StandsForOne Out (AreTied A t) s
      each _ (holds_tie {s = s} h) = let i = a.each s h in record { of = bind i.of t; is = tied i.is; stands = stands_bind numbered plain In Out q t up tie s i.of i.stands }

      all : (u : Unfolding) → AreTied A t u → IsStoodFor Out (HasPattern w o (Tied x q)) u
      all _ (tied {a = f} h) = let i = a.all f h in record { pattern = bind i.pattern q; is = holds_tie i.is; stands = stands_bind numbered plain In Out q t up tie i.pattern f i.stands }

-- a tie without pairs leaves the patterns
pub mean_pass : (In Out : TermEvent → Happening → Type 0) (P : Shape → Type 0) (t : Tie) (A : Unfolding → Type 0)
    → ((e : TermEvent) (h : Happening) → In e h → Out e (plain.carries t h))
    → ((g h : Happening) → joins t.pairs g.tags h.tags ≡ false)
    → Mean In P A → Mean Out P (AreTied A t)
mean_pass In Out P t A up none a = record { each = each; all = all }
  where
    each : (s : Shape) → P s → StandsForOne Out (AreTied A t) s
    each s h = let i = a.each s h in record { of = bind i.of t; is = tied i.is; stands = stands_pass numbered plain In Out t up none s i.of i.stands }

    all : (u : Unfolding) → AreTied A t u → IsStoodFor Out P u
    all _ (tied {a = f} h) = let i = a.all f h in record { pattern = i.pattern; is = i.is; stands = stands_pass numbered plain In Out t up none i.pattern f i.stands }

-- what more is known of the events whose numbers occur in the patterns
pub mean_as : (In Out : TermEvent → Happening → Type 0) (P : Shape → Type 0) (A : Unfolding → Type 0)
    → ((s : Shape) → P s → (e : TermEvent) (h : Happening) → Occurs e.number s → In e h → Out e h)
    → Mean In P A → Mean Out P A
mean_as In Out P A more a = record {
  each = λ s p. let i = a.each s p in record { of = i.of; is = i.is; stands = stands_as numbered plain In Out s i.of (λ j f k. more s p (event_at numbered s j) f (at_occurs s j) k) i.stands };
  all = λ u h. let i = a.all u h in record { pattern = i.pattern; is = i.is; stands = stands_as numbered plain In Out i.pattern u (λ j f k. more i.pattern i.is (event_at numbered i.pattern j) f (at_occurs i.pattern j) k) i.stands };
}

-- the normalising constructors
module _ (keep : NormalFormsKeepPatterns) (Same : TermEvent → Happening → Type 0) (o : Bool) (w : Tables) where
  pub mean_join_all : (m : Mode) (xs : List Tree) (A : Unfolding → Type 0) → Mean Same (HasParts (terms_over w) o m xs) A → Mean Same (HasPattern (terms_over w) o (join_all m xs)) A
  mean_join_all m xs A a = mean_same Same (HasPattern (terms_over w) o (join_all m xs)) (HasParts (terms_over w) o m xs) A (keep.join o w m xs) a

  pub mean_choice_of : (xs : List Tree) (A : Unfolding → Type 0) → Mean Same (HasChoice (terms_over w) o xs) A → Mean Same (PatternsOf (terms_over w) o (choice_of xs)) A
  mean_choice_of xs A a = mean_same Same (PatternsOf (terms_over w) o (choice_of xs)) (HasChoice (terms_over w) o xs) A (keep.choice o w xs) a

  pub mean_bound_of : (x : Tree) (q : List (ℕ × ℕ)) (A : Unfolding → Type 0) → AreTidyTables w → ((j : ℕ) → InPairs j q → Every (λ e. Unit {0}) (NetLacks w j) x)
      → Mean Same (HasPattern (terms_over w) o (Tied x q)) A → Mean Same (HasPattern (terms_over w) o (tie_of x q)) A
  mean_bound_of x q A h l a = mean_same Same (HasPattern (terms_over w) o (tie_of x q)) (HasPattern (terms_over w) o (Tied x q)) A (keep.tied o w x q h l) a

  pub mean_fresh_loop : (x : Tree) (lo : ℕ) (hi : Option ℕ) (A : Unfolding → Type 0) → AreTidyTables w → IsTidyOver w x → UpTo hi lo
      → Mean Same (HasPattern (terms_over w) o (Loop x lo hi (gap [] ends))) A → Mean Same (PatternsOf (terms_over w) o (fresh_loop w x lo hi)) A
  mean_fresh_loop x lo hi A h t l a = mean_same Same (PatternsOf (terms_over w) o (fresh_loop w x lo hi)) (HasPattern (terms_over w) o (Loop x lo hi (gap [] ends))) A (keep.turns o w x lo hi (Gap [] ∷ []) h t (tt, tt) l) a

  pub mean_fresh_walk : (n : ℕ) (t : Goal) (A : Unfolding → Type 0) → AreTidyTables w → IsKnown w n
      → Mean Same (HasPattern (terms_over w) o (Walk n Start t [])) A → Mean Same (PatternsOf (terms_over w) o (fresh_walk w n t)) A
  mean_fresh_walk n t A h l a = mean_same Same (PatternsOf (terms_over w) o (fresh_walk w n t)) (HasPattern (terms_over w) o (Walk n Start t [])) A (keep.trail o w n Start t [] h l) a

-- tables with one more net
pub mean_later : LaterTablesAgree → (Same : TermEvent → Happening → Type 0) (o : Bool) (w : Tables) (e : NetEntry) (x : Tree) (A : Unfolding → Type 0) → AreTidyTables w → IsTidyOver w x
    → Mean Same (HasPattern (terms_over w) o x) A → Mean Same (HasPattern (terms_over (e ∷ w)) o x) A
mean_later agree Same o w e x A h t m = record {
  each = λ s p. m.each s ((agree.patterns o w e x s h t).from p);
  all = λ u k. let i = m.all u k in record { pattern = i.pattern; is = (agree.patterns o w e x i.pattern h t).to i.is; stands = i.stands };
}
