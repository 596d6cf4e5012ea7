-- Certificates: which finished pattern of a term a log is a run of, and at which place of the log each of its events stands.
use Rattle.std.specs.Prelude.{ℕ, zero, suc, ◌<◌, ◌≤◌, List, [], ◌∷◌, ◌≡◌, ◌⊎◌, Option, Some, false, true, length, slice_get}
use Rattle.msc_base.specs.Lists.{IsIn}
use Rattle.msc_base.specs.Patterns.{Mode, seq, Pattern, Position, empty, one, join, bind, Reading, event_at, Before}
use Rattle.hmsc_graph.specs.Graphs.{Spot, Start, At, Goal, End, behind, arrives}
use Rattle.chart_term.specs.TermMeanings.{NetTerms, HasPattern, UpTo, aim}
use Rattle.chart_term.specs.TermPatterns.{Shape, HasNoEvent, numbered}
use Rattle.chart_term.specs.Terms.{TermEvent, Tree, Event, Join, Choice, Tied, Loop, Walk, Trees, items, ends, gap}

-- no event at all; an event at a place of the log, counted from 1; a certificate for each part of a join; one for the part of a choice
-- of this index, counted from 1; that of what is below a tie; the turns of a loop; the nodes of a walk, with its end
mutual
  pub data Certificate : Type 0 where
    Empty : Certificate
    EventAt : ℕ → Certificate
    Parts : Certificates → Certificate
    Branch : ℕ → Certificate → Certificate
    Inner : Certificate → Certificate
    Turns : Certificates → Certificate
    Nodes : Stops → Certificate

  pub data Certificates : Type 0 where
    no_certificates : Certificates
    certificate_and : Certificate → Certificates → Certificates

  -- a stop is a node, by its number, with the certificate of its term
  pub data Stops : Type 0 where
    no_stops : Stops
    stop_and : ℕ → Certificate → Stops → Stops

-- how many there are
abbrev pub count : Certificates → ℕ
count no_certificates = zero
count (certificate_and c cs) = suc (count cs)

-- an event with its place in the log
pub record PlacedEvent : Type 0 where
  pub event : TermEvent
  pub place : ℕ

-- a pattern of a term whose events have places
abbrev pub PlacedShape : Type 0
PlacedShape = Pattern PlacedEvent (List (ℕ × ℕ))

-- its pairs are those of the events, wherever they are placed
abbrev pub placed : Reading PlacedEvent (List (ℕ × ℕ))
placed = record {
  meets = λ d f. numbered.meets d.event f.event;
  adds = λ r d f. numbered.adds r d.event f.event;
  carries = λ r d. d;
}

-- the place of the event at a position, and its label
abbrev pub place_at : (p : PlacedShape) → Position p → ℕ
place_at p i = (event_at placed p i).place

abbrev pub label_at : (p : PlacedShape) → Position p → ℕ
label_at p i = (event_at placed p i).event.label

-- a finished pattern without events
pub record HasEmpty (w : NetTerms) (x : Tree) : Type 0 where
  pub pattern : Shape
  pub has : HasPattern w false x pattern
  pub none : HasNoEvent pattern

-- the certificate shows a finished pattern of the term, and gives each of its events a place
mutual
  pub data Shows (w : NetTerms) : Tree → Certificate → PlacedShape → Type 0 where
    shows_empty : {x : Tree} → HasEmpty w x → Shows w x Empty empty
    shows_event : {e : TermEvent} {n : ℕ} → Shows w (Event e) (EventAt n) (one (record { event = e; place = n }))
    shows_parts : {m : Mode} {xs : Trees} {cs : Certificates} {p : PlacedShape} → ShowsParts w m (items xs) cs p → Shows w (Join m xs) (Parts cs) p
    shows_branch : {xs : Trees} {i : ℕ} {c : Certificate} {p : PlacedShape} → ShowsBranch w (items xs) i c p → Shows w (Choice xs) (Branch (suc i) c) p
    shows_inner : {x : Tree} {q : List (ℕ × ℕ)} {c : Certificate} {p : PlacedShape} → Shows w x c p → Shows w (Tied x q) (Inner c) (bind p q)
    -- of a loop that no turn has begun; turns without events needn't be listed
    shows_turns : {x : Tree} {lo : ℕ} {hi : Option ℕ} {cs : Certificates} {p : PlacedShape} → ShowsTurns w x cs p → UpTo hi (count cs) → (lo ≤ count cs) ⊎ HasEmpty w x
        → Shows w (Loop x lo hi (gap [] ends)) (Turns cs) p
    -- of a walk from the start to an end
    shows_nodes : {n : ℕ} {t : Goal} {ss : Stops} {p : PlacedShape} → aim t ≡ End → ShowsNodes w n Start ss p → Shows w (Walk n Start t []) (Nodes ss) p

  pub data ShowsParts (w : NetTerms) : Mode → List Tree → Certificates → PlacedShape → Type 0 where
    shows_no_part : {m : Mode} → ShowsParts w m [] no_certificates empty
    shows_part : {m : Mode} {x : Tree} {xs : List Tree} {c : Certificate} {cs : Certificates} {p u : PlacedShape} → Shows w x c p → ShowsParts w m xs cs u
        → ShowsParts w m (x ∷ xs) (certificate_and c cs) (join m p u)

  -- the part of this index, counted from 0
  pub data ShowsBranch (w : NetTerms) : List Tree → ℕ → Certificate → PlacedShape → Type 0 where
    shows_this : {x : Tree} {xs : List Tree} {c : Certificate} {p : PlacedShape} → Shows w x c p → ShowsBranch w (x ∷ xs) zero c p
    shows_that : {x : Tree} {xs : List Tree} {i : ℕ} {c : Certificate} {p : PlacedShape} → ShowsBranch w xs i c p → ShowsBranch w (x ∷ xs) (suc i) c p

  pub data ShowsTurns (w : NetTerms) : Tree → Certificates → PlacedShape → Type 0 where
    shows_no_turn : {x : Tree} → ShowsTurns w x no_certificates empty
    shows_turn : {x : Tree} {c : Certificate} {cs : Certificates} {p u : PlacedShape} → Shows w x c p → ShowsTurns w x cs u
        → ShowsTurns w x (certificate_and c cs) (join seq p u)

  -- from a spot of the net's graph on, node by node
  pub data ShowsNodes (w : NetTerms) : ℕ → Spot → Stops → PlacedShape → Type 0 where
    shows_end : {n : ℕ} {f : Spot} {m : ℕ} {c : Certificate} {p : PlacedShape} → IsIn m (behind (w.net n) f) → arrives (w.net n) End m ≡ true → Shows w (w.node n m) c p
        → ShowsNodes w n f (stop_and m c no_stops) p
    shows_node : {n : ℕ} {f : Spot} {m : ℕ} {c : Certificate} {ss : Stops} {p u : PlacedShape} → IsIn m (behind (w.net n) f) → Shows w (w.node n m) c p → ShowsNodes w n (At m) ss u
        → ShowsNodes w n f (stop_and m c ss) (join seq p u)

-- the certificate holds for the labels of a log: it shows a pattern whose places are those of the log, each once, each with its label,
-- and of each pair the first place is the smaller
pub record Holds (w : NetTerms) (x : Tree) (run : List ℕ) (c : Certificate) : Type 0 where
  pub pattern : PlacedShape
  pub shows : Shows w x c pattern
  pub labelled : (i : Position pattern) → (k : ℕ) × (place_at pattern i ≡ suc k) × (slice_get run k ≡ Some (label_at pattern i))
  pub once : (i j : Position pattern) → place_at pattern i ≡ place_at pattern j → i ≡ j
  pub every : (k : ℕ) → k < length run → (i : Position pattern) × (place_at pattern i ≡ suc k)
  pub forward : (i j : Position pattern) → Before placed pattern i j → place_at pattern i < place_at pattern j
