-- Serves private contracts alone.
-- Which numbers a term keeps where an event is taken from it, and which paths of frames hang together.
use Rattle.std.specs.Prelude.{ℕ, ◌≡◌, true, false, List, [], ◌∷◌, Option, Some}
use Rattle.term_facts.specs.NodeFacts.{lies_in}
use Rattle.term_facts.specs.declared.facts.Span.{Span}
use Rattle.chart_term.specs.NormalForms.{NetPermits, numbers, numbers_all}
use Rattle.chart_term.specs.Terms.{Tree, trees, has}
use Rattle.term_step.specs.Children.{child}
use Rattle.term_step.specs.declared.ascent.Frame.{Frame}

-- each number of the first term is one of the second, but maybe where it lies in the span
abbrev pub AreKept : Span → Tree → Tree → Type 0
AreKept s x y = (n : ℕ) → has (numbers x) n ≡ true → lies_in (Some s) n ≡ false → has (numbers y) n ≡ true

-- each number of these terms is one of those that are left of them, if any are, but maybe where it lies in the span
abbrev pub AreKeptOf : Span → List Tree → Option (List Tree) → Type 0
AreKeptOf s xs o = (ys : List Tree) → o ≡ Some ys → (n : ℕ) → has (numbers_all (trees xs)) n ≡ true → lies_in (Some s) n ≡ false → has (numbers_all (trees ys)) n ≡ true

-- the term of the first frame, or this one without frames
abbrev pub top : List Frame → Tree → Tree
top [] x = x
top (f ∷ fs) x = f.parent

-- each frame's child is the term of the next, that of the last this term
abbrev pub AreLinked : NetPermits → List Frame → Tree → Type 0
AreLinked k [] x = Unit {0}
AreLinked k (f ∷ fs) x = (child k f.parent f.index ≡ Some (top fs x)) × AreLinked k fs x
