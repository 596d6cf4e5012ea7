-- Where no line of a graph is endless, walks through its net come to an end.
use Rattle.std.specs.Prelude.{ℕ, zero, suc, ◌<◌, Bool, true, false, List, [], ◌∷◌, Some, None, length, slice_get}
use Rattle.std.proofs.Common.{◌≡◌, ◌∙◌, refl, sym, ap, inl, inr, arith, get_or}
use Rattle.std.proofs.lemmas.Bool.{cases_lt}
use Rattle.std.proofs.lemmas.List.{length-map}
use Rattle.std.proofs.lemmas.Option.{slice_get-get_or}
use Rattle.msc_base.specs.declared.place.Place.{Place}
use Rattle.msc_base.specs.Lists.{IsIn}
use Rattle.hmsc_graph.specs.declared.shape.Shape.{Shape}
use Rattle.hmsc_graph.specs.declared.shape.ShapeLine.{ShapeLine}
use Rattle.hmsc_graph.specs.Graphs.{Net, Start, At, To, End, arrives, reach}
use Rattle.hmsc_graph.specs.Nets.{IsNet, size_of}
use Rattle.hmsc_graph.specs.Shapes.{IsGraphOf}
use Rattle.hmsc_graph.specs.Walks.{MayEnd, MayReach}
use Rattle.hmsc_graph.proofs.EndFacts.{pass_all}
use Rattle.hmsc_graph.proofs.Reaching.{reach_sound, reach_whole}
use Rattle.hmsc_graph.proofs.SearchFacts.{walk_below}
use Rattle.graph_rules.specs.EndingGraphs.{WalksEnd}
use Rattle.graph_rules.specs.GraphRules.{HasEndlessLine}

-- all nodes below a number
nodes_below : ℕ → List ℕ
nodes_below zero = []
nodes_below (suc n) = n ∷ nodes_below n

each_below : (n m : ℕ) → m < n → IsIn m (nodes_below n)
unfolding nodes_below
each_below zero m l = absurd (omega (arith, l))
each_below (suc n) m l = elim (cases_lt m n) [
  | inl lower ↦ inr (each_below n m lower)
  | inr not_lower ↦ inl (omega (arith, l, not_lower))
]

module _ (shape : Shape) (net : Net) (drawn : IsGraphOf shape net) (is : IsNet net) (none : (place : Place) → HasEndlessLine shape place → ⊥) where
  abbrev all : List ℕ
  all = nodes_below (size_of net)

  may_end : (node : ℕ) → MayEnd net node
  may_end node reached inner = by (reach net all (At node) End) refl
    where
      low : node < length shape.lines
      low =
          let below = walk_below net reached.0 Start node is reached.1 in
          let many = length-map shape.lines (λ (line : ShapeLine). line.ends) in
          let ends = ap (λ (bs : List Bool). length bs) drawn.ends in
          omega (arith, below, many, ends)

      stuck : reach net all (At node) End ≡ false → MayReach net (At node) End → ⊥
      stuck e (passed, w) = clash (sym (reach_whole net all (At node) End (pass_all net passed all (At node) End is (each_below (size_of net)) w)) ∙ e)
        where
          clash : true ≡ false → ⊥
          clash q = cc

      by : (b : Bool) → reach net all (At node) End ≡ b → MayReach net (At node) End
      by true e = (all, reach_sound net all (At node) End e)
      by false e =
          let line = get_or shape.lines node (record { label = []; place = record { byte = 0; line = 0; column = 0 }; ends = false; next = [] }) in
          absurd (none line.place (record { net = net; drawn = drawn; node = node; endless = record { reached = reached; inner = inner; stuck = stuck e }; line = line; at = slice_get-get_or shape.lines node _ low; here = refl }))

pub walks_end : WalksEnd
walks_end = may_end
