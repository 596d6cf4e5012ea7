-- The patterns of a term.
use Rattle.std.specs.Prelude.{ℕ, zero, suc, ◌≤◌, Bool, true, false, List, [], ◌∷◌, ◌≡◌, Option, Some, None}
use Rattle.msc_base.specs.Patterns.{Mode, seq, empty, one, join, bind}
use Rattle.hmsc_graph.specs.Graphs.{Spot, At, Goal, To, End, Any, Net, behind, arrives}
use Rattle.msc_base.specs.Lists.{IsIn}
use Rattle.chart_term.specs.NormalForms.{only, NetPermits}
use Rattle.chart_term.specs.TermPatterns.{Shape, Avoids, Takes, ◌≈◌}
use Rattle.chart_term.specs.Terms.{TermEvent, Block, Tree, Nil, Event, Join, Choice, Tied, Loop, Walk, Trees, Row, items, Part, Gap, Turn, parts}

-- the graphs, and the terms of their nodes
pub record NetTerms : Type 0 where
  pub net : ℕ → Net
  pub node : ℕ → ℕ → Tree

-- the walk may stop anywhere: only where it goes to any node, and walks under way count
abbrev pub MayStop : Goal → Bool → Type 0
MayStop Any true = Unit {0}
MayStop Any false = ⊥
MayStop End o = ⊥
MayStop (To m) o = ⊥

-- a finished walk to any node is one to an end
abbrev pub aim : Goal → Goal
aim Any = End
aim End = End
aim (To m) = To m

-- the number is at most the upper count, which may be without end
abbrev pub UpTo : Option ℕ → ℕ → Type 0
UpTo None n = Unit {0}
UpTo (Some m) n = n ≤ m

-- the patterns of a term
mutual
  pub data HasPattern (w : NetTerms) (o : Bool) : Tree → Shape → Type 0 where
    has_nil : HasPattern w o Nil empty
    has_event : {e : TermEvent} → HasPattern w o (Event e) (one e)
    has_join : {m : Mode} {xs : Trees} {s : Shape} → HasParts w o m (items xs) s → HasPattern w o (Join m xs) s
    has_choice : {xs : Trees} {s : Shape} → HasChoice w o (items xs) s → HasPattern w o (Choice xs) s
    holds_tie : {x : Tree} {q : List (ℕ × ℕ)} {s : Shape} → HasPattern w o x s → HasPattern w o (Tied x q) (bind s q)
    holds_loop : {x : Tree} {lo : ℕ} {hi : Option ℕ} {r : Row} {s : Shape} (n : ℕ) → HasRow w o x (parts r) n s → lo ≤ n → UpTo hi n → HasPattern w o (Loop x lo hi r) s
    holds_walk : {n : ℕ} {f : Spot} {t : Goal} {c : List ℕ} {s : Shape} → HasWalk w o n f t c s → HasPattern w o (Walk n f t c) s

  pub data HasParts (w : NetTerms) (o : Bool) : Mode → List Tree → Shape → Type 0 where
    no_part : {m : Mode} → HasParts w o m [] empty
    one_part : {m : Mode} {x : Tree} {xs : List Tree} {s t : Shape} → HasPattern w o x s → HasParts w o m xs t → HasParts w o m (x ∷ xs) (join m s t)

  pub data HasChoice (w : NetTerms) (o : Bool) : List Tree → Shape → Type 0 where
    this_one : {x : Tree} {xs : List Tree} {s : Shape} → HasPattern w o x s → HasChoice w o (x ∷ xs) s
    that_one : {x : Tree} {xs : List Tree} {s : Shape} → HasChoice w o xs s → HasChoice w o (x ∷ xs) s

  -- n turns of the operand are spread over the gaps
  pub data HasRow (w : NetTerms) (o : Bool) : Tree → List Part → ℕ → Shape → Type 0 where
    gaps_end : {x : Tree} → HasRow w o x [] zero empty
    gaps_turn : {x y : Tree} {ps : List Part} {n : ℕ} {s u : Shape} → HasPattern w o y s → HasRow w o x ps n u → HasRow w o x (Turn y ∷ ps) n (join seq s u)
    gaps_shut : {x : Tree} {c : List ℕ} {ps : List Part} {n : ℕ} {u : Shape} → HasRow w o x ps n u → HasRow w o x (Gap c ∷ ps) n u
    gaps_more : {x : Tree} {c : List ℕ} {ps : List Part} {n : ℕ} {s u : Shape} → HasPattern w o x s → Avoids (only c) s → HasRow w o x (Gap c ∷ ps) n u → HasRow w o x (Gap c ∷ ps) (suc n) (join seq s u)

  pub data HasWalk (w : NetTerms) (o : Bool) : ℕ → Spot → Goal → List ℕ → Shape → Type 0 where
    walk_stop : {n : ℕ} {f : Spot} {t : Goal} {c : List ℕ} → MayStop t o → HasWalk w o n f t c empty
    walk_last : {n : ℕ} {f : Spot} {t : Goal} {c : List ℕ} (m : ℕ) → IsIn m (behind (w.net n) f) → arrives (w.net n) (aim t) m ≡ true → HasWalk w o n f t c empty
    walk_step : {n : ℕ} {f : Spot} {t : Goal} {c : List ℕ} (m : ℕ) {s u : Shape} → IsIn m (behind (w.net n) f) → HasPattern w o (w.node n m) s → Avoids (only c) s → HasWalk w o n (At m) t c u → HasWalk w o n f t c (join seq s u)

-- a set of patterns
abbrev pub PatternSet : Type 1
PatternSet = Shape → Type 0

-- each pattern of the first is, as a pattern, one of the second
abbrev pub ◌⊑◌ : PatternSet → PatternSet → Type 0
p ⊑ q = (s : Shape) → p s → (t : Shape) × q t × (s ≈ t)

infix 15 ◌⊑◌
-- those of them that avoid the block
abbrev pub Avoiding : Block → PatternSet → PatternSet
Avoiding b p s = p s × Avoids b s

-- the patterns of what is left; none where it failed
abbrev pub PatternsOf : NetTerms → Bool → Option Tree → PatternSet
PatternsOf w o None s = ⊥
PatternsOf w o (Some x) s = HasPattern w o x s

-- the patterns that are left where the event is taken out of one of these
abbrev pub Taking : TermEvent → PatternSet → PatternSet
Taking e p t = (s : Shape) × p s × Takes s e t

-- what permission leaves are the patterns that avoid the block
pub record Leaves (w : NetTerms) (o : Bool) (b : Block) (x : Tree) (r : Option Tree) : Type 0 where
  pub sound : PatternsOf w o r ⊑ Avoiding b (HasPattern w o x)
  pub whole : Avoiding b (HasPattern w o x) ⊑ PatternsOf w o r

-- the graphs and node terms of the tables that permission reads
abbrev pub terms_of : NetPermits → (ℕ → ℕ → Tree) → NetTerms
terms_of k node = record { net = k.net; node = node }
