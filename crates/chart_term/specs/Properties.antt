-- Properties of all parts, events and nets of a term.
use Rattle.std.specs.Prelude.{ℕ, List, [], ◌∷◌, Option, Some, None, ◌<◌}
use Rattle.chart_term.specs.Terms.{TermEvent, Tree, Nil, Event, Join, Choice, Tied, Loop, Walk, Trees, none, more, Row, ends, gap, turn, Part, Gap, Turn}

-- each term of the list has the property
abbrev pub Each : (Tree → Type 0) → List Tree → Type 0
Each P [] = Unit {0}
Each P (x ∷ xs) = P x × Each P xs

-- each begun turn has the property
abbrev pub EachTurn : (Tree → Type 0) → List Part → Type 0
EachTurn T [] = Unit {0}
EachTurn T (Gap c ∷ ps) = EachTurn T ps
EachTurn T (Turn x ∷ ps) = T x × EachTurn T ps

-- it fails, or the term has the property
abbrev pub MayHave : (Tree → Type 0) → Option Tree → Type 0
MayHave P None = Unit {0}
MayHave P (Some x) = P x

-- every event and every net of the term has a property
abbrev mutual
  pub Every : (TermEvent → Type 0) → (ℕ → Type 0) → Tree → Type 0
  Every E N Nil = Unit {0}
  Every E N (Event e) = E e
  Every E N (Join m xs) = EveryOf E N xs
  Every E N (Choice xs) = EveryOf E N xs
  Every E N (Tied x q) = Every E N x
  Every E N (Loop x lo hi r) = Every E N x × EveryRow E N r
  Every E N (Walk n f t c) = N n

  pub EveryOf : (TermEvent → Type 0) → (ℕ → Type 0) → Trees → Type 0
  EveryOf E N none = Unit {0}
  EveryOf E N (more x xs) = Every E N x × EveryOf E N xs

  pub EveryRow : (TermEvent → Type 0) → (ℕ → Type 0) → Row → Type 0
  EveryRow E N ends = Unit {0}
  EveryRow E N (gap c r) = EveryRow E N r
  EveryRow E N (turn x r) = Every E N x × EveryRow E N r

-- the term names only nets below n
abbrev pub IsBelow : ℕ → Tree → Type 0
IsBelow n x = Every (λ e. Unit {0}) (λ m. m < n) x

-- each gap's block has a property
abbrev pub EachGap : (List ℕ → Type 0) → List Part → Type 0
EachGap q [] = Unit {0}
EachGap q (Gap c ∷ ps) = q c × EachGap q ps
EachGap q (Turn y ∷ ps) = EachGap q ps
