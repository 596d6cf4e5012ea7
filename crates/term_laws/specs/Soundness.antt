-- The syntactic property of terms and tables under which the laws hold.
use Rattle.std.specs.Prelude.{ℕ, ◌≢◌, ◌==◌, ◌<◌, Bool, true, false, List, [], ◌∷◌, ◌≡◌}
use Rattle.hmsc_graph.specs.Graphs.{Spot, behind}
use Rattle.msc_base.specs.Lists.{IsIn}
use Rattle.chart_term.specs.Properties.{Each, Every, EveryRow, IsBelow, EachGap}
use Rattle.chart_term.specs.Tables.{NetEntry, Tables, net_count, count_from}
use Rattle.chart_term.specs.TermMeanings.{UpTo}
use Rattle.chart_term.specs.TermPatterns.{pairs, InPairs}
use Rattle.chart_term.specs.Terms.{has, Tree, Nil, Event, Join, Choice, Tied, Loop, Walk, Trees, none, more, Row, ends, gap, turn, Part, Gap, Turn, parts}

-- each member of the second set is one of the first
abbrev pub Includes : List ℕ → List ℕ → Type 0
Includes c d = (n : ℕ) → has d n ≡ true → has c n ≡ true

-- the blocks never grow from left to right, as sets
abbrev pub NeverGrows : List Part → Type 0
NeverGrows [] = Unit {0}
NeverGrows (Gap c ∷ ps) = EachGap (Includes c) ps × NeverGrows ps
NeverGrows (Turn y ∷ ps) = NeverGrows ps

-- NL: which nets lack a number
module _ (NL : ℕ → ℕ → Type 0) where
  -- no event of the term, of its loop operands and nets has the number
  abbrev pub Lacks : ℕ → Tree → Type 0
  Lacks j x = Every (λ e. e.number ≢ j) (NL j) x

  -- the number is in no loop operand, begun turn or net
  abbrev mutual
    pub IsOutside : ℕ → Tree → Type 0
    IsOutside j Nil = Unit {0}
    IsOutside j (Event e) = Unit {0}
    IsOutside j (Join m xs) = AreOutside j xs
    IsOutside j (Choice xs) = AreOutside j xs
    IsOutside j (Tied x q) = IsOutside j x
    IsOutside j (Loop x lo hi r) = Lacks j x × EveryRow (λ e. e.number ≢ j) (NL j) r
    IsOutside j (Walk n f t c) = NL j n

    pub AreOutside : ℕ → Trees → Type 0
    AreOutside j none = Unit {0}
    AreOutside j (more x xs) = IsOutside j x × AreOutside j xs

  -- the number is in no loop operand or net, also not in those of begun turns
  abbrev mutual
    pub IsFitting : ℕ → Tree → Type 0
    IsFitting j Nil = Unit {0}
    IsFitting j (Event e) = Unit {0}
    IsFitting j (Join m xs) = AreFitting j xs
    IsFitting j (Choice xs) = AreFitting j xs
    IsFitting j (Tied x q) = IsFitting j x
    IsFitting j (Loop x lo hi r) = Lacks j x × IsFittingRow j r
    IsFitting j (Walk n f t c) = NL j n

    pub AreFitting : ℕ → Trees → Type 0
    AreFitting j none = Unit {0}
    AreFitting j (more x xs) = IsFitting j x × AreFitting j xs

    pub IsFittingRow : ℕ → Row → Type 0
    IsFittingRow j ends = Unit {0}
    IsFittingRow j (gap c r) = IsFittingRow j r
    IsFittingRow j (turn x r) = IsFitting j x × IsFittingRow j r

  -- NG: which nets there are
  module _ (NG : ℕ → Type 0) where
    -- in each tie no number of the pairs is in a loop operand, begun turn or net, and no number stands before itself; in each
    -- row the blocks never grow; in each loop the lower count is at most the upper; each net is there
    abbrev mutual
      pub IsTidy : Tree → Type 0
      IsTidy Nil = Unit {0}
      IsTidy (Event e) = Unit {0}
      IsTidy (Join m xs) = AreTidy xs
      IsTidy (Choice xs) = AreTidy xs
      IsTidy (Tied x q) = IsTidy x × ((j : ℕ) → InPairs j q → IsOutside j x) × ((j : ℕ) → pairs q j j ≡ false)
      IsTidy (Loop x lo hi r) = IsTidy x × IsTidyRow r × UpTo hi lo × NeverGrows (parts r)
      IsTidy (Walk n f t c) = NG n

      pub AreTidy : Trees → Type 0
      AreTidy none = Unit {0}
      AreTidy (more x xs) = IsTidy x × AreTidy xs

      pub IsTidyRow : Row → Type 0
      IsTidyRow ends = Unit {0}
      IsTidyRow (gap c r) = IsTidyRow r
      IsTidyRow (turn x r) = IsTidy x × IsTidyRow r

-- the first where the test says yes, else the second
abbrev pub PickType : Bool → Type 0 → Type 0 → Type 0
PickType true A B = A
PickType false A B = B

-- the number is in no event of the net, also not of the nets that its node terms name
abbrev pub NetLacks : Tables → ℕ → ℕ → Type 0
NetLacks [] j n = ⊥
NetLacks (e ∷ es) j n = PickType (n == net_count es) (Each (Every (λ f. f.number ≢ j) (NetLacks es j)) e.nodes) (NetLacks es j n)

-- the tables have the net
abbrev pub IsKnown : Tables → ℕ → Type 0
IsKnown es n = n < net_count es

-- a term that is tidy over the tables
abbrev pub IsTidyOver : Tables → Tree → Type 0
IsTidyOver es x = IsTidy (NetLacks es) (IsKnown es) x

-- each edge of the graph leads to one of as many nodes
abbrev pub LeadsWithin : NetEntry → Type 0
LeadsWithin e = (f : Spot) (m : ℕ) → IsIn m (behind e.net f) → IsIn m (count_from 0 e.nodes)

-- the node terms of each net are tidy over the older nets and name only those, and its edges lead to its nodes
abbrev pub AreTidyTables : Tables → Type 0
AreTidyTables [] = Unit {0}
AreTidyTables (e ∷ es) = AreTidyTables es × Each (IsTidyOver es) e.nodes × Each (IsBelow (net_count es)) e.nodes × LeadsWithin e
