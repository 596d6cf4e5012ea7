-- Linear orders of a term's pattern.
use Rattle.std.specs.Prelude.{ℕ, ◌<◌, ◌≤◌, List, [], ◌∷◌, ◌++◌, ◌≡◌, ◌⊎◌, map}
use Rattle.std.proofs.Common.{inl, inr, refl, sym, ◌∙◌}
use Rattle.msc_base.specs.Orders.{Among, first, Once, IsLinear}
use Rattle.msc_base.specs.Patterns.{Mode, seq, par, Pattern, Position, Before, empty, one, join, bind}
use Rattle.chart_term.specs.TermPatterns.{Shape, numbered, Lets, Avoids, instances_of, take_first, take_later, HasNoEvent}
use Rattle.chart_term.specs.TermRuns.{Runs, run_end, run_take, labels}
use Rattle.chart_term.specs.Terms.{TermEvent}
use Rattle.chart_term.proofs.Arranging.{linear_run, runs_linear}
use Rattle.term_laws.specs.Sound.{HasOrder}
use Rattle.sound_terms.specs.OrderLaws.{HasLinearOn, OrdersFound}
use Rattle.sound_terms.proofs.Ordering.{among_left, among_right, once_both, ranked_linear, blocks_linear}
use Rattle.sound_terms.proofs.Mapped.{among_map, map_among}

module _ {E Q : Type 0} where
  -- all positions
  abbrev pub positions : (s : Pattern E Q) → List (Position s)
  positions empty = []
  positions (one e) = tt ∷ []
  positions (join m x y) = map inl (positions x) ++ map inr (positions y)
  positions (bind x q) = positions x

  pub every_position : (s : Pattern E Q) (p : Position s) → Among p (positions s)
  every_position empty p = absurd p
  every_position (one e) p = first
  every_position (join m x y) (inl p) = among_left (map inl (positions x)) (map inr (positions y)) (inl p) (among_map inl (every_position x p))
  every_position (join m x y) (inr p) = among_right (map inl (positions x)) (map inr (positions y)) (inr p) (among_map inr (every_position y p))
  every_position (bind x q) p = every_position x p

-- the two sides of a sum
abbrev pub inl_of : {A B : Type 0} → A → A ⊎ B
inl_of a = inl a

abbrev pub inr_of : {A B : Type 0} → B → A ⊎ B
inr_of b = inr b

pub left_same : {A D : Type 0} (a c : A) → inl_of {B = D} a ≡ inl_of c → a ≡ c
left_same a c e = cc

pub right_same : {A D : Type 0} (b d : D) → inr_of {A = A} b ≡ inr_of d → b ≡ d
right_same b d e = cc

pub sides : {A D : Type 0} (a : A) (b : D) → inl_of {B = D} a ≡ inr_of {A = A} b → ⊥
sides a b e = cc

moved : {A : Type 0} (c a : A) → c ≡ a → (l : List A) → Among c l → Among a l
moved c a e l h = rw e at h

once_left : {A : Type 0} (D : Type 0) (l : List A) → Once l → Once (map (inl_of {B = D}) l)
once_left D [] h = tt
once_left D (a ∷ l) (h, k) = (λ i. let (c, e, j) = map_among (inl_of {B = D}) l i in h (moved c a (left_same c a e) l j), once_left D l k)

once_right : (A : Type 0) {D : Type 0} (l : List D) → Once l → Once (map (inr_of {A = A}) l)
once_right A [] h = tt
once_right A (a ∷ l) (h, k) = (λ i. let (c, e, j) = map_among (inr_of {A = A}) l i in h (moved c a (right_same c a e) l j), once_right A l k)

apart : {A D : Type 0} (k : List A) (l : List D) (p : A ⊎ D) → Among p (map inl_of k) → Among p (map inr_of l) → ⊥
apart k l p i j = let (a, e, x) = map_among inl_of k i in let (b, f, y) = map_among inr_of l j in sides a b (e ∙ sym f)

module _ {E Q : Type 0} where
  pub once_positions : (s : Pattern E Q) → Once (positions s)
  once_positions empty = tt
  once_positions (one e) = (λ i. elim i [ ], tt)
  once_positions (join m x y) = once_both (map inl (positions x)) (map inr (positions y)) (once_left (Position y) (positions x) (once_positions x)) (once_right (Position x) (positions y) (once_positions y)) (apart (positions x) (positions y))
  once_positions (bind x q) = once_positions x

linear_has : (s : Shape) (l : List (Position s)) → IsLinear (Before numbered s) l → HasOrder s
linear_has s l h = record { run = labels s l; is = record { order = l; linear = h; are = refl } }

pub ranked : (s : Shape) (rank : Position s → ℕ) → ((i j : Position s) → Before numbered s i j → rank i < rank j) → HasOrder s
ranked s rank up = let (l, h) = ranked_linear rank (Before numbered s) up (positions s) (every_position s) (once_positions s) in linear_has s l h

pub blocks : (s : Shape) (block : Position s → ℕ) → ((i j : Position s) → Before numbered s i j → block i ≤ block j)
    → ((n : ℕ) → HasLinearOn (Before numbered s) (λ p. block p ≡ n)) → HasOrder s
blocks s block falls each = let (l, h) = blocks_linear (Before numbered s) block falls each (positions s) (every_position s) in linear_has s l h

-- runs of two patterns, one after the other, are a run of their join
no_event_lets : (m : Mode) (e : TermEvent) (s : Shape) → HasNoEvent s → Lets m e s
no_event_lets seq e s h = avoids s h
  where
    avoids : (s : Shape) → HasNoEvent s → Avoids (instances_of e) s
    avoids empty h = tt
    avoids (one e) h = absurd h
    avoids (join m x y) (h, k) = (avoids x h, avoids y k)
    avoids (bind x q) h = avoids x h
no_event_lets par e s h = tt

second_runs : (m : Mode) {s t : Shape} {b : List ℕ} → HasNoEvent s → Runs t b → Runs (join m s t) b
second_runs m h (run_end k) = run_end (h, k)
second_runs m {s} h (run_take {e = e} k r) = run_take (take_later (no_event_lets m e s h) k) (second_runs m h r)

pub join_runs : (m : Mode) {s t : Shape} {a b : List ℕ} → Runs s a → Runs t b → Runs (join m s t) (a ++ b)
join_runs m (run_end h) r = second_runs m h r
join_runs m (run_take h k) r = run_take (take_first h) (join_runs m k r)

pub orders_found : OrdersFound
orders_found = record {
  ranked = ranked;
  blocks = blocks;
  run = λ s run r. record { run = run; is = runs_linear r };
  join = λ m s t h k. record { run = h.run ++ k.run; is = runs_linear (join_runs m (linear_run s h.run h.is) (linear_run t k.run k.is)) };
}
