-- Loops that no turn has begun, and walks from the start, are sound.
use Rattle.std.specs.Prelude.{ℕ, zero, suc, ◌<◌, ◌==◌, ◌≡◌, ◌||◌, Bool, true, false, List, [], ◌∷◌, ◌++◌, Option, Some, None, refl}
use Rattle.std.proofs.Common.{arith}
use Rattle.msc_base.specs.Patterns.{Mode, seq, par, empty, one, join, bind}
use Rattle.hmsc_graph.specs.Graphs.{Spot, Start, Goal, To, End, Any, Net, arrives, WalkThrough, last, step, reach}
use Rattle.chart_term.specs.NormalForms.{only, cut, walk_cut, walk_form, allowed, are_nil}
use Rattle.chart_term.specs.Properties.{IsBelow, MayHave}
use Rattle.chart_term.specs.Tables.{Tables, net_count, net_of, nodes_of, nth_tree, node_of, terms_over}
use Rattle.chart_term.specs.TermMeanings.{aim, MayStop, HasPattern, has_nil, holds_loop, holds_walk, HasRow, gaps_end, gaps_shut, gaps_more, HasWalk, walk_stop, walk_last, walk_step, PatternsOf, UpTo, ◌⊑◌}
use Rattle.chart_term.specs.TermPatterns.{Shape, Avoids, Lets, instances_of, HasNoEvent, take_first, take_later, back, Both}
use Rattle.chart_term.specs.TermRuns.{Runs, run_end, run_take}
use Rattle.chart_term.specs.Terms.{TermEvent, Block, hits, has_some, Tree, Nil, Loop, Walk, Gap, gap, ends}
use Rattle.chart_term.proofs.Running.{runs_same}
use Rattle.term_laws.specs.ConstructorLaws.{IsFormed}
use Rattle.term_laws.specs.FullSoundness.{AreNumbersKnown, HasOrders, HaveOperandsOrders, HasNoOpenWalk, IsNotAny, IsOpenWalkLast, IsGoalOf, IsSoundNode, AreSoundNets, IsFullySound, fresh_loop, fresh_walk, MustHave, FreshTermsAreSound}
use Rattle.term_laws.specs.Laws.{HasSome}
use Rattle.term_laws.specs.Permission.{permits_of}
use Rattle.term_laws.specs.Soundness.{AreTidyTables, NetLacks, IsKnown}
use Rattle.term_laws.proofs.ConstructorForms.{constructors_keep_form}
use Rattle.term_laws.proofs.ConstructorProofs.{normal_forms_keep_patterns}
use Rattle.term_laws.proofs.EveryPart.{fresh_part}
use Rattle.term_laws.proofs.FullSound.{is_sound, tidy_of, tidy_tables, normal_tables, walk_known, known_left, orders_up, OnceTie, tie_fewer, tie_permit, tie_taken}
use Rattle.term_laws.proofs.OpenWalks.{walk_left, closed_last}
use Rattle.term_laws.proofs.SoundLaws.{sound_has_pattern, order_of, run_of}
use Rattle.term_laws.proofs.SoundParts.{sound_even, outside_of, falling_of, counts_of}
use Rattle.term_laws.proofs.TidyTables.{each_map, each_nth, picked, less_or_same, node_below, nets_good, up}
use Rattle.term_laws.proofs.Times.{TiesOnce, ties_to, ties_from}

-- Runs of joined patterns: a run of the first, and then one of the second

avoids_any : (b : Block) (s : Shape) → HasNoEvent s → Avoids b s
avoids_any b empty h = tt
avoids_any b (one e) h = absurd h
avoids_any b (join m x y) h = (avoids_any b x h.0, avoids_any b y h.1)
avoids_any b (bind x q) h = avoids_any b x h

lets_any : (m : Mode) (e : TermEvent) (s : Shape) → HasNoEvent s → Lets m e s
lets_any seq e s h = avoids_any (instances_of e) s h
lets_any par e s h = tt

later_runs : (m : Mode) {s t : Shape} {l : List ℕ} → HasNoEvent s → Runs t l → Runs (join m s t) l
later_runs m h (run_end i) = run_end (h, i)
later_runs m {s = s} h (run_take {e = e} a r) = run_take (take_later (lets_any m e s h) a) (later_runs m h r)

pub join_runs : (m : Mode) {s t : Shape} {l k : List ℕ} → Runs s l → Runs t k → Runs (join m s t) (l ++ k)
join_runs m (run_end h) r = later_runs m h r
join_runs m (run_take a q) r = run_take (take_first a) (join_runs m q r)

-- nothing is blocked
nothing_hit : (e : TermEvent) → hits (only []) e ≡ false
nothing_hit e = go e.also
  where
    go : (o : Option ℕ) → ((false || has_some [] o) || false) ≡ false
    go None = refl
    go (Some n) = refl

avoids_nothing : (s : Shape) → Avoids (only []) s
avoids_nothing empty = tt
avoids_nothing (one e) = nothing_hit e
avoids_nothing (join m x y) = (avoids_nothing x, avoids_nothing y)
avoids_nothing (bind x q) = avoids_nothing x

-- what doesn't fail
pub must : (P : Tree → Type 0) (r : Option Tree) → (r ≡ None → ⊥) → MayHave P r → MustHave P r
must P None f h = f refl
must P (Some y) f h = h

-- a normal form has the orders of the term
pub orders_of : (w : Tables) (r : Option Tree) (p : Shape → Type 0) → PatternsOf (terms_over w) true r ⊑ p → ((s : Shape) → p s → (l : List ℕ) × Runs s l) → MayHave (HasOrders w) r
orders_of w None p f g = tt
orders_of w (Some y) p f g = λ s a. let i = f s a in let r = g i.0 i.1 in order_of s r.0 (runs_same r.1 (back i.2))

-- the parts of soundness of what a constructor made
pub sound_of : (labels : ℕ) (w : Tables) (r : Option Tree) → AreSoundNets labels w → MayHave (IsFormed w) r → MayHave (AreNumbersKnown labels w) r → MayHave (TiesOnce (NetLacks w)) r → MayHave IsOpenWalkLast r → MayHave (HasOrders w) r → MayHave (HaveOperandsOrders w) r → MayHave (IsFullySound labels w) r
sound_of labels w None h f a b c d e = tt
sound_of labels w (Some y) h f a b c d e = record {
  nets = h;
  term = record { normal = f.normal; known = a; once = ties_from w (tidy_tables labels w h) y f.tidy b; outside = outside_of w y f.tidy; falling = falling_of w y f.tidy; counts = counts_of w y f.tidy; last = c; ordered = d; operands = e };
}

-- Loops

module _ (labels : ℕ) (w : Tables) (x : Tree) (lo : ℕ) (hi : Option ℕ) (h : IsFullySound labels w x) (c : HasNoOpenWalk x) (u : UpTo hi lo) where
  tidy : AreTidyTables w
  tidy = tidy_tables labels w h.nets

  turn_runs : (n : ℕ) (s : Shape) → HasRow (terms_over w) true x (Gap [] ∷ []) n s → (l : List ℕ) × Runs s l
  turn_runs zero s (gaps_shut gaps_end) = ([], run_end tt)
  turn_runs (suc n) s (gaps_shut a) = elim a [ ]
  turn_runs (suc n) s (gaps_more {s = t} {u = v} a av b) = let i = run_of t (h.term.ordered t a) in let j = turn_runs n v b in (i.0 ++ j.0, join_runs seq i.1 j.1)

  loop_runs : (s : Shape) → HasPattern (terms_over w) true (Loop x lo hi (gap [] ends)) s → (l : List ℕ) × Runs s l
  loop_runs s (holds_loop n a l v) = turn_runs n s a

  formed : IsFormed w x
  formed = record { tidy = tidy_of labels w x h.nets h.term; normal = h.term.normal }

  may_last : (r : Option Tree) → MayHave HasNoOpenWalk r → MayHave IsOpenWalkLast r
  may_last None i = tt
  may_last (Some y) i = closed_last y i

  loop_may : MayHave (IsFullySound labels w) (fresh_loop w x lo hi)
  loop_may =
      sound_of labels w (fresh_loop w x lo hi) h.nets
      (constructors_keep_form.turns w x lo hi (Gap [] ∷ []) tidy formed u (record { sets = (tt, tt); falls = (tt, tt); turns = tt }))
      (fresh_part (λ e. e.label < labels) (λ y q. Unit {0}) (λ y. Unit {0}) (walk_known labels w) (permits_of w) (known_left labels w tidy) (λ x q h. tt) (λ b x z e q h. tt) (λ x y z b e a p q h. tt) x lo hi (Gap [] ∷ []) h.term.known tt tt)
      (fresh_part (λ e. Unit {0}) (OnceTie w) (λ y. Unit {0}) (λ n f t. Unit {0}) (permits_of w) (λ n f g t u h s a. tt) (tie_fewer w tidy) (tie_permit w tidy) (tie_taken w tidy) x lo hi (Gap [] ∷ [])
      (ties_to w tidy (normal_tables labels w h.nets) x (sound_even labels w x h.term) h.term.normal h.term.once) tt tt)
      (may_last (fresh_loop w x lo hi) (fresh_part (λ e. Unit {0}) (λ y q. Unit {0}) (λ y. Unit {0}) (λ n f t. IsNotAny t) (permits_of w) (walk_left (permits_of w)) (λ x q h. tt) (λ b x z e q h. tt) (λ x y z b e a p q h. tt) x lo hi (Gap [] ∷ []) c tt tt))
      (orders_of w (fresh_loop w x lo hi) (HasPattern (terms_over w) true (Loop x lo hi (gap [] ends))) (normal_forms_keep_patterns.turns true w x lo hi (Gap [] ∷ []) tidy (tidy_of labels w x h.nets h.term) (tt, tt) u).to loop_runs)
      (fresh_part (λ e. Unit {0}) (λ y q. Unit {0}) (HasOrders w) (λ n f t. Unit {0}) (permits_of w) (λ n f g t u h s a. tt) (λ x q h. tt) (λ b x z e q h. tt) (λ x y z b e a p q h. tt) x lo hi (Gap [] ∷ []) h.term.operands h.term.ordered tt)

  -- as many patterns of the operand as are owed
  pub loop_row : (s : Shape) → HasPattern (terms_over w) true x s → (n : ℕ) → (u : Shape) × HasRow (terms_over w) true x (Gap [] ∷ []) n u
  loop_row s a zero = (empty, gaps_shut gaps_end)
  loop_row s a (suc n) = let i = loop_row s a n in (join seq s i.0, gaps_more a (avoids_nothing s) i.1)

  loop_there : fresh_loop w x lo hi ≡ None → ⊥
  loop_there e =
      let i = sound_has_pattern.some w x (is_sound labels w x h) in
      let r = loop_row i.pattern i.has lo in
      (constructors_keep_form.turns_fail w x lo hi (Gap [] ∷ []) (record { tidy = tidy; normal = normal_tables labels w h.nets }) formed u (record { sets = (tt, tt); falls = (tt, tt); turns = tt })).to e r.0 (holds_loop lo r.1 (omega arith) u)

  loop_sound : MustHave (IsFullySound labels w) (fresh_loop w x lo hi)
  loop_sound = must (IsFullySound labels w) (fresh_loop w x lo hi) loop_there loop_may

-- Walks

pub nil_orders : (w : Tables) → HasOrders w Nil
nil_orders w s has_nil = order_of empty [] (run_end tt)

-- each pattern of a node term has an order
node_orders : (labels : ℕ) (w : Tables) → AreSoundNets labels w → (n : ℕ) → IsKnown w n → (m : ℕ) → HasOrders w (node_of w n m)
node_orders labels [] h n l m = absurd (omega arith)
node_orders labels (e ∷ es) h n l m =
    picked (HasOrders (e ∷ es)) (n == net_count es) (nth_tree e.nodes m) (node_of es n m)
    (λ p. orders_up e es t (nth_tree e.nodes m) (each_nth (IsBelow (net_count es)) e.nodes tt h.2 m) (each_nth (HasOrders es) e.nodes (nil_orders es) (each_map (IsSoundNode labels es) (HasOrders es) (λ x i. i.sound.ordered) e.nodes h.1) m))
    (λ p. orders_up e es t (node_of es n m) (node_below true es t n (less_or_same n (net_count es) l p) m) (node_orders labels es h.0 n (less_or_same n (net_count es) l p) m))
  where
    t : AreTidyTables es
    t = tidy_tables labels es h.0

-- each node term has a pattern
node_some : (labels : ℕ) (w : Tables) → AreSoundNets labels w → (n : ℕ) → IsKnown w n → (m : ℕ) → HasSome w (node_of w n m)
node_some labels [] h n l m = absurd (omega arith)
node_some labels (e ∷ es) h n l m =
    picked (HasSome (e ∷ es)) (n == net_count es) (nth_tree e.nodes m) (node_of es n m)
    (λ p. up_some (nth_tree e.nodes m) (each_nth (IsBelow (net_count es)) e.nodes tt h.2 m) (each_nth (HasSome es) e.nodes (record { pattern = empty; has = has_nil }) (each_map (IsSoundNode labels es) (HasSome es) (λ x i. sound_has_pattern.some es x (is_sound labels es x (record { nets = h.0; term = i.sound }))) e.nodes h.1) m))
    (λ p. up_some (node_of es n m) (node_below true es t n (less_or_same n (net_count es) l p) m) (node_some labels es h.0 n (less_or_same n (net_count es) l p) m))
  where
    t : AreTidyTables es
    t = tidy_tables labels es h.0

    up_some : (x : Tree) → IsBelow (net_count es) x → HasSome es x → HasSome (e ∷ es) x
    up_some x b i = record { pattern = i.pattern; has = up true e es t x b i.pattern i.has }

-- a goal that is not any node
aimed : (t : Goal) → IsNotAny t → aim t ≡ t
aimed (To m) h = refl
aimed End h = refl
aimed Any h = absurd h

no_stop : (t : Goal) → IsNotAny t → MayStop t true → ⊥
no_stop (To m) h i = i
no_stop End h i = i
no_stop Any h i = absurd h

arrives_aim : (g : Net) (t : Goal) (m : ℕ) → aim t ≡ t → arrives g t m ≡ true → arrives g (aim t) m ≡ true
arrives_aim g t m e a = rw e a

arrives_goal : (g : Net) (t : Goal) (m : ℕ) → aim t ≡ t → arrives g (aim t) m ≡ true → arrives g t m ≡ true
arrives_goal g t m e a = rw e at a

module _ (labels : ℕ) (w : Tables) (n : ℕ) (h : AreSoundNets labels w) (l : IsKnown w n) where
  walk_runs : {f : Spot} {t : Goal} {c : List ℕ} {s : Shape} → HasWalk (terms_over w) true n f t c s → (k : List ℕ) × Runs s k
  walk_runs (walk_stop a) = ([], run_end tt)
  walk_runs (walk_last m i a) = ([], run_end tt)
  walk_runs (walk_step m {s = s} i a av b) = let p = run_of s (node_orders labels w h n l m s a) in let q = walk_runs b in (p.0 ++ q.0, join_runs seq p.1 q.1)

  trail_runs : (t : Goal) (s : Shape) → HasPattern (terms_over w) true (Walk n Start t []) s → (k : List ℕ) × Runs s k
  trail_runs t s (holds_walk a) = walk_runs a

  -- walks and their patterns
  walk_some : {f : Spot} {t : Goal} → IsNotAny t → WalkThrough (net_of w n) (nodes_of w n) f t → (s : Shape) × HasWalk (terms_over w) true n f t [] s
  walk_some {t = t} a (last m i e) = (empty, walk_last m i (arrives_aim (net_of w n) t m (aimed t a) e))
  walk_some a (step m i j v) = let p = node_some labels w h n l m in let q = walk_some a v in (join seq p.pattern q.0, walk_step m i p.has (avoids_nothing p.pattern) q.1)

  some_walk : {f : Spot} {t : Goal} {c : List ℕ} {s : Shape} → IsNotAny t → HasWalk (terms_over w) true n f t c s → WalkThrough (net_of w n) (nodes_of w n) f t
  some_walk {t = t} a (walk_stop p) = absurd (no_stop t a p)
  some_walk {t = t} a (walk_last m i e) = last m i (arrives_goal (net_of w n) t m (aimed t a) e)
  some_walk {f = f} a (walk_step m i p av r) = step m i (((nets_good true w (tidy_tables labels w h)).fine n l).within f m i) (some_walk a r)

  walk_fails : (t : Goal) → IsNotAny t → Both (fresh_walk w n t ≡ None) (WalkThrough (net_of w n) (nodes_of w n) Start t → ⊥)
  walk_fails t a =
      let b = constructors_keep_form.trail_fails w n Start t [] (record { tidy = tidy_tables labels w h; normal = normal_tables labels w h }) l tt in
      record {
        to = λ e v. let i = walk_some a v in b.to e i.0 (holds_walk i.1);
        from = λ f. b.from (λ s p. f (walk_of_trail s p));
      }
    where
      walk_of_trail : (s : Shape) → HasPattern (terms_over w) true (Walk n Start t []) s → WalkThrough (net_of w n) (nodes_of w n) Start t
      walk_of_trail s (holds_walk p) = some_walk a p

  -- what is left of a walk is a walk, or Nil
  form_has : (P : Tree → Type 0) (a b : Bool) (x : Tree) → P Nil → P x → MayHave P (walk_form a b x)
  form_has P false b x i j = tt
  form_has P true true x i j = i
  form_has P true false x i j = j

  cut_has : (P : Tree → Type 0) (f : Spot) (t : Goal) (c : List ℕ) → P Nil → P (Walk n f t c) → MayHave P (walk_cut (permits_of w) n f t c)
  cut_has P f Any c i j = j
  cut_has P f (To m) c i j = form_has P (reach ((permits_of w).net n) (allowed (permits_of w) n c) f (To m)) (are_nil (permits_of w) n f (To m) c (allowed (permits_of w) n c)) (Walk n f (To m) c) i j
  cut_has P f End c i j = form_has P (reach ((permits_of w).net n) (allowed (permits_of w) n c) f End) (are_nil (permits_of w) n f End c (allowed (permits_of w) n c)) (Walk n f End c) i j

  pub walk_has : (P : Tree → Type 0) (t : Goal) → P Nil → ((c : List ℕ) → P (Walk n Start t c)) → MayHave P (fresh_walk w n t)
  walk_has P t i j = cut_has P Start t (cut ((permits_of w).spread n) []) i (j (cut ((permits_of w).spread n) []))

  walk_sound : (t : Goal) → IsGoalOf w n t → MayHave (IsFullySound labels w) (fresh_walk w n t)
  walk_sound t g =
      sound_of labels w (fresh_walk w n t) h
      (constructors_keep_form.trail w n Start t [] l tt)
      (walk_has (AreNumbersKnown labels w) t tt (λ c. (l, tt, g)))
      (walk_has (TiesOnce (NetLacks w)) t tt (λ c. tt))
      (walk_has IsOpenWalkLast t tt (λ c. tt))
      (orders_of w (fresh_walk w n t) (HasPattern (terms_over w) true (Walk n Start t [])) (normal_forms_keep_patterns.trail true w n Start t [] (tidy_tables labels w h) l).to (trail_runs t))
      (walk_has (HaveOperandsOrders w) t tt (λ c. tt))

pub fresh_terms_are_sound : FreshTermsAreSound
fresh_terms_are_sound = record {
  loop = loop_sound;
  walk = λ labels w n t h l g. walk_sound labels w n h l t g;
  walk_fails = λ labels w n t h l a. walk_fails labels w n h l t a;
  open_walk = λ w n. tt;
}
