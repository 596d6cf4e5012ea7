-- The normalising constructors make terms that are sound in full of such terms.
use Rattle.std.specs.Prelude.{ℕ, ◌<◌, ◌≡◌, true, false, List, [], ◌∷◌, ◌++◌, Option, Some, None}
use Rattle.msc_base.specs.Patterns.{Mode}
use Rattle.hmsc_graph.specs.Graphs.{Goal}
use Rattle.chart_term.specs.NormalForms.{join_all, choice_of, tie_of}
use Rattle.chart_term.specs.Properties.{Each, MayHave}
use Rattle.chart_term.specs.Tables.{Tables, node_of, terms_over}
use Rattle.chart_term.specs.TermMeanings.{HasPattern, has_event, HasParts, no_part, one_part, HasChoice, this_one, that_one, UpTo}
use Rattle.chart_term.specs.TermPatterns.{Shape, take_one, pairs}
use Rattle.chart_term.specs.TermRuns.{Runs, run_end, run_take}
use Rattle.chart_term.specs.Terms.{TermEvent, Tree, Event, Tied, Gap}
use Rattle.term_laws.specs.ConstructorLaws.{IsFormed}
use Rattle.term_laws.specs.FullSoundness.{AreNumbersKnown, AreTiesOnce, AreTiesOutside, HasOrders, HaveOperandsOrders, HasNoOpenWalk, IsNotAny, IsOpenWalkLast, IsGoalOf, IsSoundNode, AreSoundNets, IsFullySound, fresh_loop, fresh_walk, MustHave, ConstructorsKeepSoundness}
use Rattle.term_laws.specs.Permission.{permits_of}
use Rattle.term_laws.specs.Soundness.{AreTidyTables, IsTidyOver, NetLacks, IsKnown}
use Rattle.term_laws.proofs.ConstructorForms.{constructors_keep_form}
use Rattle.term_laws.proofs.ConstructorProofs.{normal_forms_keep_patterns}
use Rattle.term_laws.proofs.EveryPart.{join_part, choice_part, bound_part, fresh_part}
use Rattle.term_laws.proofs.FreshTerms.{must, join_runs, orders_of, sound_of, fresh_terms_are_sound, walk_has}
use Rattle.term_laws.proofs.FullSound.{is_sound, tidy_of, tidy_tables, normal_tables, walk_known, known_left, OnceTie, tie_fewer, tie_permit, tie_taken}
use Rattle.term_laws.proofs.OpenWalks.{walk_left, closed_last}
use Rattle.term_laws.proofs.SoundLaws.{sound_has_pattern, run_of, order_of}
use Rattle.term_laws.proofs.SoundParts.{sound_even}
use Rattle.term_laws.proofs.TidyKept.{outside_bare}
use Rattle.term_laws.proofs.TidyTables.{each_map}
use Rattle.term_laws.proofs.Times.{TiesOnce, ties_to, once_if}

-- a term that is sound and closed
as_node : (labels : ℕ) (w : Tables) (r : Option Tree) → MayHave (IsFullySound labels w) r → MayHave HasNoOpenWalk r → MayHave (IsSoundNode labels w) r
as_node labels w None h c = tt
as_node labels w (Some y) h c = record { sound = h.term; closed = c }

must_node : (labels : ℕ) (w : Tables) (r : Option Tree) → MustHave (IsFullySound labels w) r → MayHave HasNoOpenWalk r → MustHave (IsSoundNode labels w) r
must_node labels w None h c = h
must_node labels w (Some y) h c = record { sound = h.term; closed = c }

may_last : (r : Option Tree) → MayHave HasNoOpenWalk r → MayHave IsOpenWalkLast r
may_last None h = tt
may_last (Some y) h = closed_last y h

event_node : (labels : ℕ) (w : Tables) (e : TermEvent) → e.label < labels → IsSoundNode labels w (Event e)
event_node labels w e l = record {
  sound = record { normal = tt; known = l; once = tt; outside = tt; falling = tt; counts = tt; last = tt; ordered = orders; operands = tt };
  closed = tt;
}
  where
    orders : HasOrders w (Event e)
    orders s has_event = order_of s (e.label ∷ []) (run_take take_one (run_end tt))

module _ (labels : ℕ) (w : Tables) (h : AreSoundNets labels w) where
  abbrev Node : Tree → Type 0
  Node = IsSoundNode labels w

  tidy : AreTidyTables w
  tidy = tidy_tables labels w h

  ties : (x : Tree) → Node x → TiesOnce (NetLacks w) x
  ties x i = ties_to w tidy (normal_tables labels w h) x (sound_even labels w x i.sound) i.sound.normal i.sound.once

  each_formed : (xs : List Tree) → Each Node xs → Each (IsFormed w) xs
  each_formed = each_map Node (IsFormed w) (λ x i. record { tidy = tidy_of labels w x h i.sound; normal = i.sound.normal })

  -- patterns of parts have orders
  parts_runs : (m : Mode) (xs : List Tree) → Each Node xs → (s : Shape) → HasParts (terms_over w) true m xs s → (l : List ℕ) × Runs s l
  parts_runs m [] i s no_part = ([], run_end tt)
  parts_runs m (x ∷ xs) i s (one_part {s = t} {t = u} a r) = let p = run_of t (i.0.sound.ordered t a) in let q = parts_runs m xs i.1 u r in (p.0 ++ q.0, join_runs m p.1 q.1)

  choice_runs : (xs : List Tree) → Each Node xs → (s : Shape) → HasChoice (terms_over w) true xs s → (l : List ℕ) × Runs s l
  choice_runs [] i s a = elim a [ ]
  choice_runs (x ∷ xs) i s (this_one a) = run_of s (i.0.sound.ordered s a)
  choice_runs (x ∷ xs) i s (that_one a) = choice_runs xs i.1 s a

  join_sound : (m : Mode) (xs : List Tree) → Each Node xs → Node (join_all m xs)
  join_sound m xs i =
      let c = join_part (λ e. Unit {0}) (λ y q. Unit {0}) (λ y. Unit {0}) (λ n f t. IsNotAny t) (permits_of w) (walk_left (permits_of w)) (λ x q h. tt) (λ b x z e q h. tt) (λ x y z b e a p q h. tt) m xs (each_map Node HasNoOpenWalk (λ x i. i.closed) xs i) in
      let d : IsFullySound labels w (join_all m xs) = sound_of labels w (Some (join_all m xs)) h (constructors_keep_form.join w m xs tidy (each_formed xs i))
      (join_part (λ e. e.label < labels) (λ y q. Unit {0}) (λ y. Unit {0}) (walk_known labels w) (permits_of w) (known_left labels w tidy) (λ x q h. tt) (λ b x z e q h. tt) (λ x y z b e a p q h. tt) m xs (each_map Node (AreNumbersKnown labels w) (λ x i. i.sound.known) xs i))
      (join_part (λ e. Unit {0}) (OnceTie w) (λ y. Unit {0}) (λ n f t. Unit {0}) (permits_of w) (λ n f g t u h s a. tt) (tie_fewer w tidy) (tie_permit w tidy) (tie_taken w tidy) m xs (each_map Node (TiesOnce (NetLacks w)) ties xs i))
      (closed_last (join_all m xs) c)
      (orders_of w (Some (join_all m xs)) (HasParts (terms_over w) true m xs) (normal_forms_keep_patterns.join true w m xs).to (parts_runs m xs i))
      (join_part (λ e. Unit {0}) (λ y q. Unit {0}) (HasOrders w) (λ n f t. Unit {0}) (permits_of w) (λ n f g t u h s a. tt) (λ x q h. tt) (λ b x z e q h. tt) (λ x y z b e a p q h. tt) m xs (each_map Node (HaveOperandsOrders w) (λ x i. i.sound.operands) xs i)) in
      record { sound = d.term; closed = c }

  choice_sound : (xs : List Tree) → Each Node xs → MayHave Node (choice_of xs)
  choice_sound xs i =
      let c = choice_part (λ e. Unit {0}) (λ y q. Unit {0}) (λ y. Unit {0}) (λ n f t. IsNotAny t) (permits_of w) (walk_left (permits_of w)) (λ x q h. tt) (λ b x z e q h. tt) (λ x y z b e a p q h. tt) xs (each_map Node HasNoOpenWalk (λ x i. i.closed) xs i) in
      let d : MayHave (IsFullySound labels w) (choice_of xs) = sound_of labels w (choice_of xs) h (constructors_keep_form.choice w xs tidy (each_formed xs i))
      (choice_part (λ e. e.label < labels) (λ y q. Unit {0}) (λ y. Unit {0}) (walk_known labels w) (permits_of w) (known_left labels w tidy) (λ x q h. tt) (λ b x z e q h. tt) (λ x y z b e a p q h. tt) xs (each_map Node (AreNumbersKnown labels w) (λ x i. i.sound.known) xs i))
      (choice_part (λ e. Unit {0}) (OnceTie w) (λ y. Unit {0}) (λ n f t. Unit {0}) (permits_of w) (λ n f g t u h s a. tt) (tie_fewer w tidy) (tie_permit w tidy) (tie_taken w tidy) xs (each_map Node (TiesOnce (NetLacks w)) ties xs i))
      (may_last (choice_of xs) c)
      (orders_of w (choice_of xs) (HasChoice (terms_over w) true xs) (normal_forms_keep_patterns.choice true w xs).to (choice_runs xs i))
      (choice_part (λ e. Unit {0}) (λ y q. Unit {0}) (HasOrders w) (λ n f t. Unit {0}) (permits_of w) (λ n f g t u h s a. tt) (λ x q h. tt) (λ b x z e q h. tt) (λ x y z b e a p q h. tt) xs (each_map Node (HaveOperandsOrders w) (λ x i. i.sound.operands) xs i)) in
      as_node labels w (choice_of xs) d c

  some_choice : (x : Tree) (xs : List Tree) → Each Node (x ∷ xs) → choice_of (x ∷ xs) ≡ None → ⊥
  some_choice x xs i e =
      let p = sound_has_pattern.some w x (is_sound labels w x (record { nets = h; term = i.0.sound })) in
      (constructors_keep_form.choice_fails w (x ∷ xs) (record { tidy = tidy; normal = normal_tables labels w h }) (each_formed (x ∷ xs) i)).to e p.pattern (this_one p.has)

  bound_sound : (x : Tree) (q : List (ℕ × ℕ)) → Node x → AreTiesOutside w (Tied x q) → AreTiesOnce w (Tied x q) → ((j : ℕ) → pairs q j j ≡ false) → HasOrders w (Tied x q) → Node (tie_of x q)
  bound_sound x q i out o free f =
      let t : IsTidyOver w (Tied x q) = (tidy_of labels w x h i.sound, out.1, free) in
      let c = bound_part (λ e. Unit {0}) (λ y q. Unit {0}) (λ y. Unit {0}) (λ n f t. IsNotAny t) (permits_of w) (walk_left (permits_of w)) (λ x q h. tt) (λ b x z e q h. tt) (λ x y z b e a p q h. tt) x q (i.closed, tt) in
      let d : IsFullySound labels w (tie_of x q) = sound_of labels w (Some (tie_of x q)) h (constructors_keep_form.tied w x q tidy t i.sound.normal)
      (bound_part (λ e. e.label < labels) (λ y q. Unit {0}) (λ y. Unit {0}) (walk_known labels w) (permits_of w) (known_left labels w tidy) (λ x q h. tt) (λ b x z e q h. tt) (λ x y z b e a p q h. tt) x q (i.sound.known, tt))
      (bound_part (λ e. Unit {0}) (OnceTie w) (λ y. Unit {0}) (λ n f t. Unit {0}) (permits_of w) (λ n f g t u h s a. tt) (tie_fewer w tidy) (tie_permit w tidy) (tie_taken w tidy) x q
      (ties x i, λ j p. once_if w tidy j (normal_tables labels w h) x (t.1 j p) (sound_even labels w x i.sound) i.sound.normal (o.1 j p)))
      (closed_last (tie_of x q) c)
      (orders_of w (Some (tie_of x q)) (HasPattern (terms_over w) true (Tied x q)) (normal_forms_keep_patterns.tied true w x q tidy (λ j p. outside_bare (permits_of w) (node_of w) true (NetLacks w) (IsKnown w) j x (t.1 j p))).to (λ s a. run_of s (f s a)))
      (bound_part (λ e. Unit {0}) (λ y q. Unit {0}) (HasOrders w) (λ n f t. Unit {0}) (permits_of w) (λ n f g t u h s a. tt) (λ x q h. tt) (λ b x z e q h. tt) (λ x y z b e a p q h. tt) x q (i.sound.operands, tt)) in
      record { sound = d.term; closed = c }

  loop_sound : (x : Tree) (lo : ℕ) (hi : Option ℕ) → Node x → UpTo hi lo → MustHave Node (fresh_loop w x lo hi)
  loop_sound x lo hi i u =
      must_node labels w (fresh_loop w x lo hi) (fresh_terms_are_sound.loop labels w x lo hi (record { nets = h; term = i.sound }) i.closed u)
      (fresh_part (λ e. Unit {0}) (λ y q. Unit {0}) (λ y. Unit {0}) (λ n f t. IsNotAny t) (permits_of w) (walk_left (permits_of w)) (λ x q h. tt) (λ b x z e q h. tt) (λ x y z b e a p q h. tt) x lo hi (Gap [] ∷ []) i.closed tt tt)

  walk_sound : (n : ℕ) (t : Goal) → IsKnown w n → IsGoalOf w n t → IsNotAny t → MayHave Node (fresh_walk w n t)
  walk_sound n t l g a = as_node labels w (fresh_walk w n t) (fresh_terms_are_sound.walk labels w n t h l g) (walk_has labels w n h l HasNoOpenWalk t tt (λ c. a))

pub constructors_keep_soundness : ConstructorsKeepSoundness
constructors_keep_soundness = record {
  event = event_node;
  join = λ labels w m xs h i. join_sound labels w h m xs i;
  choice = λ labels w x xs h i. must (IsSoundNode labels w) (choice_of (x ∷ xs)) (some_choice labels w h x xs i) (choice_sound labels w h (x ∷ xs) i);
  tied = λ labels w x q h i t o e f. bound_sound labels w h x q i t o e f;
  loop = λ labels w x lo hi h i u. loop_sound labels w h x lo hi i u;
  walk = λ labels w n t h l g a. walk_sound labels w h n t l g a;
}
