-- A pattern with places as marks, in the order in which it is gone through.
use Rattle.std.specs.Prelude.{ℕ, List, [], ◌∷◌, ◌++◌, Option, Some, None, map, slice_get}
use Rattle.msc_base.specs.Patterns.{seq, par, empty, one, join, bind}
use Rattle.chart_term.specs.Terms.{TermEvent, Tree, Nil, Event, Join, Choice, Tied, Loop, Walk}
use Rattle.chart_term.specs.Views.{event_of}
use Rattle.certificates.specs.Certificates.{PlacedShape}
use Rattle.pattern_marks.specs.declared.mark.Mark.{Mark}
use Rattle.pattern_marks.specs.declared.mark.Mark.TheVariants as mark

-- an event at a place; two parts side by side begin, the second of them begins, both end; what is below a tie begins and ends
pub data Sign : Type 0 where
  stands : TermEvent → ℕ → Sign
  opens : Sign
  turns : Sign
  closes : Sign
  tie_opens : Sign
  tie_closes : List (ℕ × ℕ) → Sign

abbrev pub signs : PlacedShape → List Sign
signs empty = []
signs (one d) = stands d.event d.place ∷ []
signs (join seq x y) = signs x ++ signs y
signs (join par x y) = opens ∷ (signs x ++ turns ∷ (signs y ++ closes ∷ []))
signs (bind x q) = tie_opens ∷ (signs x ++ tie_closes q ∷ [])

-- the pairs of the tie that the term is, none where it is no tie
abbrev pub tie_pairs : Tree → List (ℕ × ℕ)
tie_pairs Nil = []
tie_pairs (Event e) = []
tie_pairs (Join m xs) = []
tie_pairs (Choice xs) = []
tie_pairs (Tied x q) = q
tie_pairs (Loop x lo hi r) = []
tie_pairs (Walk n f t c) = []

abbrev pub pairs_at : Option Tree → List (ℕ × ℕ)
pairs_at None = []
pairs_at (Some x) = tie_pairs x

-- what a mark of the code stands for, where the terms have numbers
abbrev pub sign_of : List Tree → Mark → Sign
sign_of ts (mark.Event e n) = stands (event_of e) n
sign_of ts mark.Open = opens
sign_of ts mark.Next = turns
sign_of ts mark.Close = closes
sign_of ts mark.OpenTie = tie_opens
sign_of ts (mark.CloseTie k) = tie_closes (pairs_at (slice_get ts k))

abbrev pub signs_of : List Tree → List Mark → List Sign
signs_of ts ms = map (sign_of ts) ms
