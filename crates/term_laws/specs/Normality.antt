-- Terms in normal form: what the normalising constructors make.
use Rattle.std.specs.Prelude.{ℕ, zero, suc, ◌<◌, true, false, List, [], ◌∷◌, ◌≡◌, Option, Some, None}
use Rattle.msc_base.specs.Patterns.{Mode, seq, par}
use Rattle.hmsc_graph.specs.Graphs.{Spot, Goal, To, End, Any, reach}
use Rattle.chart_term.specs.Equality.{same_tree}
use Rattle.chart_term.specs.NormalForms.{NetPermits, only, cut, numbers, is_nil, some_kept, has_gap, allowed, are_nil}
use Rattle.chart_term.specs.Properties.{Each, EachTurn, EachGap}
use Rattle.chart_term.specs.Tables.{Tables}
use Rattle.chart_term.specs.TermPatterns.{pairs}
use Rattle.chart_term.specs.Terms.{has, Tree, Nil, Event, Join, Choice, Tied, Loop, Walk, Trees, none, more, Row, ends, gap, turn, items, Part, Gap, Turn, parts}
use Rattle.chart_term.specs.Spreads.{touch}
use Rattle.term_laws.specs.Permission.{permit, permits_of}

-- the number is below the first of the list
abbrev pub IsAbove : ℕ → List ℕ → Type 0
IsAbove n [] = Unit {0}
IsAbove n (m ∷ c) = n < m

-- a set: its list rises
abbrev pub IsSet : List ℕ → Type 0
IsSet [] = Unit {0}
IsSet (n ∷ c) = IsAbove n c × IsSet c

-- a part of a join: it isn't Nil, and no join of its kind
abbrev pub IsPartOf : Mode → Tree → Type 0
IsPartOf m Nil = ⊥
IsPartOf m (Event e) = Unit {0}
IsPartOf seq (Join seq xs) = ⊥
IsPartOf seq (Join par xs) = Unit {0}
IsPartOf par (Join seq xs) = Unit {0}
IsPartOf par (Join par xs) = ⊥
IsPartOf m (Choice xs) = Unit {0}
IsPartOf m (Tied x q) = Unit {0}
IsPartOf m (Loop x lo hi r) = Unit {0}
IsPartOf m (Walk n f t c) = Unit {0}

-- a part of a choice: it is no choice
abbrev pub IsAlternative : Tree → Type 0
IsAlternative Nil = Unit {0}
IsAlternative (Event e) = Unit {0}
IsAlternative (Join m xs) = Unit {0}
IsAlternative (Choice xs) = ⊥
IsAlternative (Tied x q) = Unit {0}
IsAlternative (Loop x lo hi r) = Unit {0}
IsAlternative (Walk n f t c) = Unit {0}

-- there are two terms or more
abbrev pub AreTwoOrMore : Trees → Type 0
AreTwoOrMore none = ⊥
AreTwoOrMore (more x none) = ⊥
AreTwoOrMore (more x (more y xs)) = Unit {0}

-- no term equals an earlier one
abbrev pub AreDifferent : List Tree → Type 0
AreDifferent [] = Unit {0}
AreDifferent (x ∷ xs) = Each (λ y. same_tree x y ≡ false) xs × AreDifferent xs

-- there is a pair
abbrev pub IsSomePair : List (ℕ × ℕ) → Type 0
IsSomePair [] = ⊥
IsSomePair (p ∷ q) = Unit {0}

-- both ends of each pair are among the numbers
abbrev pub AreShown : List ℕ → List (ℕ × ℕ) → Type 0
AreShown ns [] = Unit {0}
AreShown ns (p ∷ q) = (has ns p.0 ≡ true) × (has ns p.1 ≡ true) × AreShown ns q

-- no pair equals an earlier one
abbrev pub ArePairsOnce : List (ℕ × ℕ) → Type 0
ArePairsOnce [] = Unit {0}
ArePairsOnce (p ∷ q) = (pairs q p.0 p.1 ≡ false) × ArePairsOnce q

-- a further turn may be owed
abbrev pub IsPositive : Option ℕ → Type 0
IsPositive None = Unit {0}
IsPositive (Some zero) = ⊥
IsPositive (Some (suc n)) = Unit {0}

-- the term isn't Nil
abbrev pub IsNotNil : Tree → Type 0
IsNotNil x = is_nil (Some x) ≡ false

-- the first part is no gap
abbrev pub IsTurnFirst : List Part → Type 0
IsTurnFirst [] = Unit {0}
IsTurnFirst (Gap c ∷ ps) = ⊥
IsTurnFirst (Turn x ∷ ps) = Unit {0}

-- no two gaps are neighbours
abbrev pub AreApart : List Part → Type 0
AreApart [] = Unit {0}
AreApart (Gap c ∷ ps) = IsTurnFirst ps × AreApart ps
AreApart (Turn x ∷ ps) = AreApart ps

module _ (k : NetPermits) where
  -- a loop: each block is a set of instances that the operand touches, and leaves something of the operand that isn't empty; no turn is
  -- over; a turn is left, a gap is left, and no two gaps are neighbours
  pub record IsNormalLoop (x : Tree) (hi : Option ℕ) (ps : List Part) : Type 0 where
    pub sets : EachGap IsSet ps
    pub cuts : EachGap (λ c. cut (touch k.spread x) c ≡ c) ps
    pub leaves : EachGap (λ c. some_kept (permit k (only c) x) ≡ true) ps
    pub not_free : EachGap (λ c. is_nil (permit k (only c) x) ≡ false) ps
    pub not_over : EachTurn IsNotNil ps
    pub positive : IsPositive hi
    pub apart : AreApart ps
    pub some : has_gap ps ≡ true

  -- a walk leads there, and leaves something; a walk to any node is always one
  abbrev pub IsLeading : ℕ → Spot → Goal → List ℕ → Type 0
  IsLeading n f Any c = Unit {0}
  IsLeading n f End c = (reach (k.net n) (allowed k n c) f End ≡ true) × (are_nil k n f End c (allowed k n c) ≡ false)
  IsLeading n f (To m) c = (reach (k.net n) (allowed k n c) f (To m) ≡ true) × (are_nil k n f (To m) c (allowed k n c) ≡ false)

  -- a walk: its block is a set of instances of the net
  pub record IsNormalWalk (n : ℕ) (f : Spot) (t : Goal) (c : List ℕ) : Type 0 where
    pub set : IsSet c
    pub cuts : cut (k.spread n) c ≡ c
    pub leads : IsLeading n f t c

  -- every part is in normal form
  abbrev mutual
    pub IsNormal : Tree → Type 0
    IsNormal Nil = Unit {0}
    IsNormal (Event e) = Unit {0}
    IsNormal (Join m xs) = AreNormal xs × Each (IsPartOf m) (items xs) × AreTwoOrMore xs
    IsNormal (Choice xs) = AreNormal xs × Each IsAlternative (items xs) × AreTwoOrMore xs × AreDifferent (items xs)
    IsNormal (Tied x q) = IsNormal x × IsSomePair q × AreShown (numbers x) q × ArePairsOnce q
    IsNormal (Loop x lo hi r) = IsNormal x × IsNormalRow r × IsNormalLoop x hi (parts r)
    IsNormal (Walk n f t c) = IsNormalWalk n f t c

    pub AreNormal : Trees → Type 0
    AreNormal none = Unit {0}
    AreNormal (more x xs) = IsNormal x × AreNormal xs

    pub IsNormalRow : Row → Type 0
    IsNormalRow ends = Unit {0}
    IsNormalRow (gap c r) = IsNormalRow r
    IsNormalRow (turn x r) = IsNormal x × IsNormalRow r

-- a term in normal form over the tables
abbrev pub IsNormalOver : Tables → Tree → Type 0
IsNormalOver w x = IsNormal (permits_of w) x

-- the node terms of each net are in normal form over the older nets
abbrev pub AreNormalTables : Tables → Type 0
AreNormalTables [] = Unit {0}
AreNormalTables (e ∷ es) = AreNormalTables es × Each (IsNormalOver es) e.nodes
