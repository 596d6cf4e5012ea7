-- Where an operand may begin is told by the labels with which the term of its part goes on.
use Rattle.std.specs.Prelude.{ℕ, true, List, [], ◌∷◌, refl}
use Rattle.std.proofs.Common.{◌≡◌, ◌∙◌, ap, subst, sym}
use Rattle.msc_base.specs.declared.label.Label.{Label}
use Rattle.msc_base.specs.declared.label.Pair.{Pair}
use Rattle.msc_base.specs.Orders.{Once}
use Rattle.msc_base.specs.Patterns.{bind, event_at}
use Rattle.msc_unfolding.specs.Unfoldings.{Tie, Unfolding, level_tie, plain}
use Rattle.chart_term.specs.TermPatterns.{Both}
use Rattle.chart_term.specs.Terms.{Tree}
use Rattle.term_meaning.specs.Meanings.{MeansUnfoldings}
use Rattle.term_meaning.specs.UnfoldingSets.{AreTied, tied}
use Rattle.term_tables.specs.NetValues.{NetsValue}
use Rattle.msc_meaning.specs.Bodies.{WovenItems}
use Rattle.msc_meaning.specs.Calls.{calls}
use Rattle.msc_meaning.specs.ChartUnfoldings.{OfItems, gates_of, under}
use Rattle.msc_meaning.specs.FarEnds.{Around, Gates, no_gates}
use Rattle.msc_meaning.specs.InnerEvents.{AreEnds, GateEnd}
use Rattle.msc_meaning.specs.MeaningLaws.{HaveOneEnd}
use Rattle.msc_meaning.specs.Tables.{Table}
use Rattle.msc_meaning.specs.Ties.{ties}
use Rattle.msc_meaning.proofs.MeaningLaws.{ends_are_one}
use Rattle.trace_judge.specs.Sets.{GoesOnWith, IsSoundFor}
use Rattle.choice_meaning.specs.Choices.{Operand}
use Rattle.choice_meaning.specs.FarEndLaws.{FarEndsChangeNothing, HasAlike, in_tie}
use Rattle.choice_meaning.specs.FirstInstances.{BeginsAt, OfOperand, of_operand}
use Rattle.first_labels.specs.FirstLabels.{BeginsWith, FirstLabelsAreTold}

module _ (far : FarEndsChangeNothing) (table : Table) (held : WovenItems) (pairs : List Pair) (taken : WovenItems) (known : List GateEnd) (there : AreEnds table held (calls held) known) (one : HaveOneEnd table held (calls held)) where
  abbrev operand : Operand
  operand = record { held = held; pairs = pairs; taken = taken }

  abbrev gates : Gates
  gates = gates_of held known

  abbrev tie : Tie
  tie = level_tie (ties held pairs (calls held) known)

  -- the unfoldings of the items where they stand, tied
  abbrev pub Tied : Around → Unfolding → Type 0
  Tied a = AreTied (OfItems table gates a taken) tie

  to_tied : (u : Unfolding) → OfOperand table operand u → Tied (under no_gates) u
  to_tied _ (of_operand {ends = es} {u = v} e w) =
      let P : List GateEnd → Type 0 = λ x. AreTied (OfItems table (gates_of held x) (under no_gates) taken) (level_tie (ties held pairs (calls held) x)) (bind v (level_tie (ties held pairs (calls held) es))) in
      subst P (ends_are_one table held (calls held) one es known e there) (tied w)

  from_tied : (u : Unfolding) → Tied (under no_gates) u → OfOperand table operand u
  from_tied _ (tied w) = of_operand there w

  -- elsewhere there is one that is alike
  tied_alike : (a b : Around) (u : Unfolding) → Tied a u → HasAlike (Tied b) u
  tied_alike a b _ (tied {a = u} w) = let h = far.items table gates a b taken u w in record { other = bind h.other tie; is = tied h.is; alike = in_tie h.alike }

  -- an event that may come first at an instance
  pub record BeginsTiedAt (a : Around) (i : List ℕ) : Type 0 where
    pub label : Label
    pub begins : BeginsWith (Tied a) label
    pub at : label.at ≡ i

  begins_there : (a : Around) (i : List ℕ) → BeginsAt table operand i → BeginsTiedAt a i
  begins_there a i b =
      let h = tied_alike (under no_gates) a b.of (to_tied b.of b.is) in
      let p = far.begins b.of h.other h.alike b.position b.first in
      record {
        label = (event_at plain h.other p.position).label;
        begins = record { of = h.other; is = h.is; position = p.position; first = p.first; label = refl };
        at = sym p.at ∙ b.at;
      }

  begins_here : (a : Around) (i : List ℕ) → BeginsTiedAt a i → BeginsAt table operand i
  begins_here a i b =
      let h = tied_alike a (under no_gates) b.begins.of b.begins.is in
      let p = far.begins b.begins.of h.other h.alike b.begins.position b.begins.first in
      record { of = h.other; is = from_tied h.other h.is; position = p.position; first = p.first; at = sym p.at ∙ (ap (λ (l : Label). l.at) b.begins.label ∙ b.at) }

  -- a label of that instance with which the term goes on
  pub record GoesOnWithOne (v : NetsValue) (x : Tree) (i : List ℕ) : Type 0 where
    pub label : Label
    pub left : GoesOnWith v label (x ∷ [])
    pub at : label.at ≡ i

  -- the operand may begin at the instance exactly where there is one
  pub begins_by_labels : (a : Around) → FirstLabelsAreTold (Tied a) → (v : NetsValue) (names : List (List ℕ)) (x : Tree) → Once v.labels → MeansUnfoldings v names true x (Tied a) → IsSoundFor v x
      → (i : List ℕ) → Both (BeginsAt table operand i) (GoesOnWithOne v x i)
  begins_by_labels a told v names x once means sound i = record {
    to = λ b. let s = begins_there a i b in record { label = s.label; left = (told v names x once means sound s.label).from s.begins; at = s.at };
    from = λ g. begins_here a i (record { label = g.label; begins = (told v names x once means sound g.label).to g.left; at = g.at });
  }
