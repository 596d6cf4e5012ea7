-- The nodes of a walk through nodes without events tell a walk without events.
use Rattle.std.specs.Prelude.{ℕ, false, List, ◌∷◌, ◌≡◌, refl}
use Rattle.msc_base.specs.Patterns.{seq, empty, join}
use Rattle.hmsc_graph.specs.Graphs.{Spot, At, Goal, Net, WalkThrough, last, step}
use Rattle.hmsc_graph.specs.Ways.{nodes_on}
use Rattle.chart_term.specs.Tables.{Tables, net_of, terms_over}
use Rattle.chart_term.specs.TermMeanings.{HasPattern, holds_walk, HasWalk, walk_stop, walk_last, walk_step, aim}
use Rattle.chart_term.specs.TermPatterns.{Shape, HasNoEvent}
use Rattle.chart_term.specs.Terms.{TermEvent, Walk}
use Rattle.certificates.specs.Certificates.{HasEmpty}
use Rattle.certificates.proofs.Unbegun.{never_stops}
use Rattle.certificate_accounts.specs.Accounts.{nothing, visit, tells_nothing, TellsWalk, tells_arrived, tells_visit}
use Rattle.certificate_accounts.specs.EmptyWays.{silent, AreEmptyNodes, WaysAreFound}

silent_more : {g : Net} {ks : List ℕ} {f : Spot} {t : Goal} (h : WalkThrough g ks f t) (m : ℕ) → silent (m ∷ nodes_on h) ≡ visit m nothing (silent (nodes_on h))
silent_more (last k i a) m = refl
silent_more (step k i j h) m = refl

module _ (w : Tables) (ev : ℕ → TermEvent) (allowed : ℕ → List ℕ) (are : AreEmptyNodes w allowed) where
  -- a walk without events goes through such nodes
  through : {n : ℕ} {f : Spot} {t : Goal} {c : List ℕ} {s : Shape} → HasWalk (terms_over w) false n f t c s → HasNoEvent s → WalkThrough (net_of w n) (allowed n) f (aim t)
  through (walk_stop {t = t} h) e = absurd (never_stops t h)
  through (walk_last m i a) e = last m i a
  through (walk_step {n = n} {f = f} m {s = s} i p av r) e = step m i (are.all n m f i (record { pattern = s; has = p; none = e.0 })) (through r e.1)

  -- and such nodes tell one
  told : (n : ℕ) (f : Spot) (t g : Goal) (c : List ℕ) → aim t ≡ g → (h : WalkThrough (net_of w n) (allowed n) f g) → (s : Shape) × TellsWalk (terms_over w) ev n f t c (silent (nodes_on h)) s × HasNoEvent s
  told n f t g c r (last m i a) = (empty, tells_arrived m i (rw r a), tt)
  told n f t g c r (step m i j h) = let (s, a, e) = told n (At m) t g c r h in (join seq empty s, rw (silent_more h m) (tells_visit m i (tells_nothing (are.empty n m j)) tt a), (tt, e))

  walk_of_empty : {n : ℕ} {f : Spot} {t : Goal} {c : List ℕ} → HasEmpty (terms_over w) (Walk n f t c) → WalkThrough (net_of w n) (allowed n) f (aim t)
  walk_of_empty {n} {f} {t} {c} h = go h.pattern h.has h.none
    where
      go : (s : Shape) → HasPattern (terms_over w) false (Walk n f t c) s → HasNoEvent s → WalkThrough (net_of w n) (allowed n) f (aim t)
      go s (holds_walk r) e = through r e

pub ways_are_found : WaysAreFound
ways_are_found = record {
  finds = λ w ev allowed way are found n f t c h.
      let (v, e) = found n f t (walk_of_empty w ev allowed are h) in
      rw (← e) (told w ev allowed are n f t (aim t) c refl v);
}
