-- The graph that a shape writes down is the net of its numbers.
use Rattle.std.specs.List.{filter_map}
use Rattle.std.specs.Prelude.{ℕ, List, [], ◌∷◌, Option, Some, map, length}
use Rattle.std.proofs.Common.{◌≡◌, ◌∙◌, refl, ap}
use Rattle.std.proofs.lemmas.List.{length-map}
use Rattle.msc_base.specs.declared.label.LabelRef.{LabelRef}
use Rattle.msc_base.specs.declared.place.Place.{Place}
use Rattle.msc_rules.specs.declared.rule.Rule.{Rule}
use Rattle.hmsc_graph.specs.declared.shape.Shape.{Shape}
use Rattle.hmsc_graph.specs.declared.shape.ShapeLine.{ShapeLine}
use Rattle.hmsc_graph.specs.Graphs.{Net}
use Rattle.hmsc_graph.specs.Nets.{size_of}
use Rattle.hmsc_graph.specs.Shapes.{AreNext, AreNumbers, BreaksLabels, IsFaulty, IsGraphOf, line_number}
use Rattle.std.proofs.Common.{inl, inr}
use Rattle.expansion_terms.specs.MadeTerms.{net_of_shape, numbers_of}

module _ {X : Type 0} (f : X → Option ℕ) where
  all_found : (xs : List X) (ns : List ℕ) → map (λ n. Some n) ns ≡ map f xs → ns ≡ filter_map f xs
  all_found [] [] e = refl
  all_found [] (n ∷ ns) e = absurd cc
  all_found (x ∷ xs) [] e = absurd cc
  all_found (x ∷ xs) (n ∷ ns) e =
      let here : Some n ≡ f x = cc in
      let behind : map (λ n. Some n) ns ≡ map f xs = cc in
      ap (λ l. n ∷ l) (all_found xs ns behind) ∙ found here
    where
      found : Some n ≡ f x → n ∷ filter_map f xs ≡ filter_map f (x ∷ xs)
      found h = rw (← h) refl

numbers_are : (lines : List ShapeLine) (labels : List LabelRef) (numbers : List ℕ) → AreNumbers lines labels numbers → numbers ≡ numbers_of lines labels
numbers_are lines labels numbers h = all_found (λ label. line_number lines label.name) labels numbers h

next_are : (lines rest : List ShapeLine) (next : List (List ℕ)) → AreNext lines rest next → next ≡ map (λ (line : ShapeLine). numbers_of lines line.next) rest
next_are lines [] [] h = refl
next_are lines [] (numbers ∷ next) h = absurd h
next_are lines (line ∷ rest) [] h = absurd h
next_are lines (line ∷ rest) (numbers ∷ next) h =
    let here : numbers ≡ numbers_of lines line.next = numbers_are lines line.next numbers h.0 in
    let behind : next ≡ map (λ (line : ShapeLine). numbers_of lines line.next) rest = next_are lines rest next h.1 in
    λ i. here i ∷ behind i

pub net_is : (shape : Shape) (g : Net) → IsGraphOf shape g → g ≡ net_of_shape shape
net_is shape g h = λ i. record {
  starts = numbers_are shape.lines shape.starts g.starts h.starts i;
  next = next_are shape.lines shape.lines g.next h.next i;
  ends = h.ends i;
}

-- a node for each line
pub net_sized : (shape : Shape) → size_of (net_of_shape shape) ≡ length shape.lines
net_sized shape = length-map shape.lines (λ line. line.ends)

-- what breaks a rule of labels is faulty
pub no_fault : (shape : Shape) → ((p : Place) → IsFaulty shape p → ⊥) → (r : Rule) (p : Place) → BreaksLabels shape r p → ⊥
no_fault shape h r p (inl x) = h p (inl x.1)
no_fault shape h r p (inr y) = h p (inr y.1)
