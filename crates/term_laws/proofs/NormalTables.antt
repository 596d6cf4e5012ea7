-- Tables in normal form, and that every term in normal form has a pattern.
use Rattle.std.specs.Prelude.{ℕ, ◌==◌, Bool, true, false, List, [], ◌∷◌, ◌≡◌, Option, Some, None, refl}
use Rattle.term_laws.proofs.TakingSound.{IsHeld}
use Rattle.hmsc_graph.specs.Graphs.{Spot, Goal, To, End, Any}
use Rattle.chart_term.specs.NormalForms.{only, some_kept}
use Rattle.chart_term.specs.Properties.{IsBelow, EachGap}
use Rattle.chart_term.specs.Tables.{Tables, NetEntry, net_count, choose, node_of, terms_over}
use Rattle.chart_term.specs.TermMeanings.{HasPattern}
use Rattle.chart_term.specs.TermPatterns.{Shape}
use Rattle.chart_term.specs.Terms.{Tree, Nil, Event, Join, Choice, Tied, Loop, Walk, Trees, none, more, Row, ends, gap, turn, Part, Gap, Turn, parts}
use Rattle.term_laws.specs.Normality.{AreNormal, IsNormalRow, IsNormalOver, AreNormalTables, IsLeading}
use Rattle.term_laws.specs.Permission.{permit, permit_nth, permits_of}
use Rattle.term_laws.specs.Soundness.{AreTidyTables, IsTidyOver, NetLacks, IsKnown}
use Rattle.term_laws.proofs.Agreeing.{same_normal}
use Rattle.term_laws.proofs.Keeping.{AliveGaps, Leading, at_some}
use Rattle.term_laws.proofs.Living.{Live, LiveAll, LiveRow, has_pattern}
use Rattle.term_laws.proofs.Normalising.{permit_normal}
use Rattle.term_laws.proofs.Ranking.{permit_rank}
use Rattle.term_laws.proofs.TermSentences.{net_rank, kept_rank, kept_below, low_nth}
use Rattle.term_laws.proofs.TidyKept.{closed}
use Rattle.term_laws.proofs.TidyTables.{nets_good, not_same, nth_has}

-- a term in normal form over the older nets is in normal form with one more net
pub up_normal : (e : NetEntry) (es : Tables) (x : Tree) → IsBelow (net_count es) x → IsNormalOver es x → IsNormalOver (e ∷ es) x
up_normal e es x b h =
    same_normal (permits_of es) (permits_of (e ∷ es)) (net_count es)
    (λ n l. let p : (n == net_count es) ≡ false = not_same n (net_count es) l in rw p refl)
    (λ n l. let p : (n == net_count es) ≡ false = not_same n (net_count es) l in rw p refl)
    (λ n l m c. let p : (n == net_count es) ≡ false = not_same n (net_count es) l in rw p refl)
    (λ n l. let p : (n == net_count es) ≡ false = not_same n (net_count es) l in rw p refl) x b h

kept_step : (e : NetEntry) (es : Tables) (P : Tree → Type 0) (t : Bool) (a b : Option Tree) (x : Tree) → (a ≡ Some x → P x) → (b ≡ Some x → P x) → choose t a b ≡ Some x → P x
kept_step e es P true a b x f g q = f q
kept_step e es P false a b x f g q = g q

-- what permission leaves of the node terms is in normal form
pub kept_normal : (es : Tables) → AreTidyTables es → AreNormalTables es → (n m : ℕ) (d : List ℕ) (x : Tree) → (permits_of es).kept n m d ≡ Some x → IsNormalOver es x
kept_normal [] h g n m d x q = cc
kept_normal (e ∷ es) h g n m d x q =
    kept_step e es (IsNormalOver (e ∷ es)) (n == net_count es) (permit_nth (permits_of es) (only d) e.nodes m) ((permits_of es).kept n m d) x
    (λ r. up_normal e es x (low_nth true e es h m d x r) (at_some (IsNormalOver es) (permit_nth (permits_of es) (only d) e.nodes m) x r (nth_has (IsNormalOver es) (permits_of es) (only d) e.nodes (permit_normal (permits_of es) (only d)) g.1 m)))
    (λ r. up_normal e es x (kept_below true es h.0 n m d x r) (kept_normal es h.0 g.0 n m d x r)) q

some_is : (r : Option Tree) → some_kept r ≡ true → (y : Tree) × (r ≡ Some y)
some_is None h = cc
some_is (Some y) h = (y, refl)

module _ (w : Tables) where
  alive : (x : Tree) (ps : List Part) → EachGap (λ c. some_kept (permit (permits_of w) (only c) x) ≡ true) ps → AliveGaps (permits_of w) x ps
  alive x [] h = tt
  alive x (Gap c ∷ ps) h = (some_is (permit (permits_of w) (only c) x) h.0, alive x ps h.1)
  alive x (Turn y ∷ ps) h = alive x ps h

  leads : (n : ℕ) (f : Spot) (t : Goal) (c : List ℕ) → IsLeading (permits_of w) n f t c → Leading (permits_of w) n f t c
  leads n f Any c h = tt
  leads n f End c h = h.0
  leads n f (To m) c h = h.0

  mutual
    pub live : (x : Tree) → IsNormalOver w x → Live (permits_of w) (λ n. Unit {0}) x
    live Nil h = tt
    live (Event e) h = tt
    live (Join m xs) h = live_all xs h.0
    live (Choice none) h = absurd h.2
    live (Choice (more x xs)) h = (live_all (more x xs) h.0, tt)
    live (Tied x q) h = live x h.0
    live (Loop x lo hi r) h = (live x h.0, live_row r h.1, alive x (parts r) h.2.leaves, h.2.some)
    live (Walk n f t c) h = (tt, leads n f t c h.leads)

    live_all : (xs : Trees) → AreNormal (permits_of w) xs → LiveAll (permits_of w) (λ n. Unit {0}) xs
    live_all none h = tt
    live_all (more x xs) h = (live x h.0, live_all xs h.1)

    live_row : (r : Row) → IsNormalRow (permits_of w) r → LiveRow (permits_of w) (λ n. Unit {0}) r
    live_row ends h = tt
    live_row (gap c r) h = live_row r h
    live_row (turn x r) h = (live x h.0, live_row r h.1)

  tidy_held : AreTidyTables w → IsHeld (permits_of w) (node_of w) true (IsTidyOver w)
  tidy_held h = (closed (permits_of w) (node_of w) true (NetLacks w) (IsKnown w) (nets_good true w h)).held

  -- every tidy term in normal form has a pattern, walks under way included
  pub some_pattern : AreTidyTables w → AreNormalTables w → (x : Tree) → IsTidyOver w x → IsNormalOver w x → (s : Shape) × HasPattern (terms_over w) true x s
  some_pattern h g x t n =
      has_pattern (permits_of w) (λ i. Unit {0}) (λ i m d y l q. live y (kept_normal w h g i m d y q)) (node_of w) (IsTidyOver w)
      (tidy_held h) (net_rank w) (permit_rank (permits_of w) (net_rank w)) (kept_rank true w h) x t (live x n)
