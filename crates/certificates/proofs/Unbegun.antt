-- Parts, rows, walks, ends and their terms, where nothing has begun.
use Rattle.std.specs.Prelude.{ℕ, true, false, List, [], ◌∷◌, ◌≡◌}
use Rattle.msc_base.specs.Patterns.{empty}
use Rattle.hmsc_graph.specs.Graphs.{Goal, To, End, Any, arrives}
use Rattle.chart_term.specs.Properties.{Each}
use Rattle.chart_term.specs.TermMeanings.{NetTerms, MayStop, has_nil, aim}
use Rattle.chart_term.specs.Terms.{Tree, Nil, Trees, none, more, items, Part, Gap}
use Rattle.certificates.specs.Certificates.{HasEmpty}
use Rattle.certificates.specs.CertificateLaws.{IsUnbegun, AreUnbegun}

-- a row of one gap has no other
pub rest_is : (c : List ℕ) (ps : List Part) → Gap c ∷ ps ≡ Gap [] ∷ [] → ps ≡ []
rest_is c ps e = cc

pub each_unbegun : (xs : Trees) → AreUnbegun xs → Each IsUnbegun (items xs)
each_unbegun none h = tt
each_unbegun (more x xs) h = (h.0, each_unbegun xs h.1)

-- arriving at an end, by what the walk aims at
pub as_end : (w : NetTerms) (t : Goal) (n m : ℕ) → aim t ≡ End → arrives (w.net n) (aim t) m ≡ true → arrives (w.net n) End m ≡ true
as_end w t n m g a = rw g at a

-- the term of an end
pub empty_node : (w : NetTerms) (x : Tree) → x ≡ Nil → HasEmpty w x
empty_node w x e = rw e (record { pattern = empty; has = has_nil; none = tt })

-- a finished walk doesn't stop under way
pub never_stops : (t : Goal) → MayStop t false → ⊥
never_stops Any h = h
never_stops End h = h
never_stops (To m) h = h
