-- Where the events of one label stand: at the same instances, in a term and in the nets that it names.
use Rattle.std.specs.Prelude.{ℕ, List, [], ◌∷◌, ◌≡◌}
use Rattle.chart_term.specs.Properties.{Each}
use Rattle.chart_term.specs.Tables.{Tables}
use Rattle.chart_term.specs.TermPatterns.{instances_of}
use Rattle.chart_term.specs.Terms.{TermEvent, Tree}
use Rattle.term_laws.specs.FullSoundness.{EveryPart}
use Rattle.term_laws.specs.Permission.{permits_of}
use Rattle.term_laws.specs.Taking.{IsAfter}

-- the event is at the instances of its label, which a function gives
abbrev pub IsPlaced : (ℕ → List ℕ) → TermEvent → Type 0
IsPlaced places e = places e.label ≡ (instances_of e).instances

-- so is each event of the term, of its loop operands and begun turns
abbrev pub AreEventsPlaced : (ℕ → List ℕ) → Tree → Type 0
AreEventsPlaced places x = EveryPart (IsPlaced places) (λ y q. Unit {0}) (λ y. Unit {0}) (λ n f t. Unit {0}) x

-- so are those of the node terms of each net
abbrev pub AreNetsPlaced : (ℕ → List ℕ) → Tables → Type 0
AreNetsPlaced places [] = Unit {0}
AreNetsPlaced places (e ∷ es) = AreNetsPlaced places es × Each (AreEventsPlaced places) e.nodes

-- events of one label have the same instances
pub record HaveOnePlace (w : Tables) (x : Tree) : Type 0 where
  pub places : ℕ → List ℕ
  pub nets : AreNetsPlaced places w
  pub term : AreEventsPlaced places x

-- what is left of a term after an event keeps that
pub record OnePlaceIsKept : Type 0 where
  pub after_keeps : (w : Tables) (x y : Tree) (e : TermEvent) → HaveOnePlace w x → IsAfter (permits_of w) x e y → HaveOnePlace w y
