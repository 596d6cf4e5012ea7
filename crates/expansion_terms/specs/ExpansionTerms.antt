-- The term of an expansion.
use Rattle.std.specs.Prelude.{ℕ, List, [], ◌∷◌}
use Rattle.msc_base.specs.Patterns.{par}
use Rattle.chart_term.specs.NormalForms.{join_all, tie_of}
use Rattle.chart_term.specs.Terms as terms
use Rattle.chart_term.specs.Terms.{Tree, Nil}
use Rattle.chart_term.specs.Views.{pairs_of}
use Rattle.expansion_tree.specs.Expansions.{Expansion, Event, InRow, Aside, OneOf, Exception, Turns, Tied, Walk, Expansions, no_parts, part_and, is_exception}
use Rattle.expansion_tree.specs.Numbered as numbered
use Rattle.expansion_tree.specs.declared.tree.ExpandedEvent.{ExpandedEvent}
use Rattle.expansion_terms.specs.Constructors.{one_of, placed, turns_of}

-- of_event: the term of an event; of_walk: that of the walk of that number
module _ {E : Type 0} (of_event : E → Tree) (of_walk : ℕ → Tree) where
  abbrev mutual
    -- of an exception that of its operand
    pub expansion_term : Expansion E → Tree
    expansion_term (Event e) = of_event e
    expansion_term (InRow xs) = row_term xs
    expansion_term (Aside xs) = aside_term xs
    expansion_term (OneOf xs) = one_of (part_terms xs)
    expansion_term (Exception x) = expansion_term x
    expansion_term (Turns n lower upper x) = turns_of lower upper (expansion_term x)
    expansion_term (Tied x ps) = tie_of (expansion_term x) (pairs_of ps)
    expansion_term (Walk n g xs) = of_walk n

    -- one after another, an exception instead of what stands behind it
    pub row_term : Expansions E → Tree
    row_term no_parts = Nil
    row_term (part_and x xs) = placed (is_exception x) (expansion_term x) (row_term xs)

    -- side by side
    pub aside_term : Expansions E → Tree
    aside_term no_parts = Nil
    aside_term (part_and x xs) = join_all par (expansion_term x ∷ aside_term xs ∷ [])

    pub part_terms : Expansions E → List Tree
    part_terms no_parts = []
    part_terms (part_and x xs) = expansion_term x ∷ part_terms xs

-- an event with its numbers
abbrev pub event_term : ExpandedEvent → Tree
event_term e = terms.Event (record { number = e.number; at = e.at; also = e.also; label = e.label })

-- the term of an expansion whose events have numbers for their instances and labels
abbrev pub numbered_term : (ℕ → Tree) → numbered.Expansion → Tree
numbered_term = expansion_term event_term
