-- The terms of worked charts: a join between two references, a gate of an inline expression, and a decomposed instance.
use Rattle.std.specs.Prelude.{◌≡◌, ℕ, List, [], ◌∷◌, None, codes, if◌then◌else◌}
use Rattle.std.specs.Str.{bytes_eq}
use Rattle.msc_base.specs.declared.label.Kind.TheVariants.{Input, Output}
use Rattle.msc_base.specs.Patterns.{seq, par}
use Rattle.chart_term.specs.Terms.{Tree, Nil, Event, Join, Choice, Tied, trees}
use Rattle.msc_meaning.specs.Bodies.{WovenItems}
use Rattle.msc_meaning.specs.Calls.{Call, calls}
use Rattle.msc_meaning.specs.FarEnds.{no_gates}
use Rattle.msc_meaning.specs.InnerEvents.{GateEnd}
use Rattle.msc_meaning.specs.WorkedCharts.{d, e, i, j, k, m, n, p, q, x, gates_joined, gate_of_inline, refined}
use Rattle.msc_meaning.specs.WorkedParts.{sent, received, done}
use Rattle.expanded_terms.specs.ExpandedTerms.{charts_to}
use Rattle.expanded_terms.specs.NamedEvents.{named_leaves}

abbrev event : ℕ → ℕ → ℕ → Tree
event number at label = Event (record { number = number; at = at; also = None; label = label })

-- the inner events of gates of R are outputs at p, those of others are inputs at q
abbrev joined_end : Call → GateEnd
joined_end c =
    if bytes_eq c.name (codes "R") then record { name = c.name; gate = c.gate; at = p; kind = Output } else record { name = c.name; gate = c.gate; at = q; kind = Input }

abbrev joined_ends_for : List Call → List GateEnd
joined_ends_for [] = []
joined_ends_for (c ∷ cs) = joined_end c ∷ joined_ends_for cs

abbrev pub joined_ends : WovenItems → List GateEnd
joined_ends held = joined_ends_for (calls held)

-- the inner event of gates of X is the input at k
abbrev inline_ends_for : List Call → List GateEnd
inline_ends_for [] = []
inline_ends_for (c ∷ cs) = record { name = c.name; gate = c.gate; at = k; kind = Input } ∷ inline_ends_for cs

abbrev pub inline_ends : WovenItems → List GateEnd
inline_ends held = inline_ends_for (calls held)

abbrev pub no_ends : WovenItems → List GateEnd
no_ends held = []

-- no chart is a high-level chart
abbrev pub no_walk : ℕ → Tree
no_walk n = Nil

pub record TermsExpand : Type 0 where
  -- the output of the one reference before the input of the other
  pub joined : (charts_to (named_leaves (p ∷ q ∷ []) (sent p m q ∷ received q m p ∷ []) no_walk) joined_ends gates_joined 2).term (codes "A") no_gates 0 ≡ Tied (Join seq (trees (event 0 0 0 ∷ event 1 1 1 ∷ []))) ((0, 1) ∷ [])
  -- the output before the input of the one operand
  pub inline : (charts_to (named_leaves (i ∷ k ∷ []) (sent i m k ∷ received k m i ∷ done k x ∷ []) no_walk) inline_ends gate_of_inline 1).term (codes "A") no_gates 0
      ≡ Tied (Join seq (trees (event 0 0 0 ∷ Choice (trees (event 1 1 1 ∷ event 2 1 2 ∷ [])) ∷ []))) ((0, 1) ∷ [])
  -- what is left of the chart beside its refining chart, whose matched event takes the message: the output names its instance
  pub decomposed : (charts_to (named_leaves (j ∷ d ∷ e ∷ []) (sent j m d ∷ sent e n d ∷ received d n e ∷ received d m j ∷ []) no_walk) no_ends refined 1).term (codes "A") no_gates 0
      ≡ Tied (Join par (trees (event 0 0 0 ∷ Tied (Join seq (trees (event 1 2 1 ∷ event 2 1 2 ∷ event 3 1 3 ∷ []))) ((1, 2) ∷ []) ∷ []))) ((0, 3) ∷ [])
