-- The walks of a graph are those of its text.
use Rattle.std.specs.Prelude.{ℕ, zero, suc, ◌<◌, List, [], ◌∷◌, Some, ◌≡◌, map, length}
use Rattle.std.specs.List.{slice_get}
use Rattle.std.specs.Str.{bytes_eq}
use Rattle.std.proofs.Common.{ap, sym, ◌∙◌, inl, inr, arith, get_or, subst}
use Rattle.std.proofs.lemmas.List.Quantifiers.{position-Some}
use Rattle.std.proofs.lemmas.List.{length-map}
use Rattle.msc_base.specs.declared.label.LabelRef.{LabelRef}
use Rattle.msc_base.specs.Orders.{Among, first, later}
use Rattle.hmsc_graph.specs.declared.shape.Shape.{Shape}
use Rattle.hmsc_graph.specs.declared.shape.ShapeLine.{ShapeLine}
use Rattle.hmsc_graph.specs.Graphs.{Net, Spot, Start, At, behind}
use Rattle.msc_base.specs.Lists.{IsIn}
use Rattle.list_facts.proofs.Joining.{same_head, same_tail}
use Rattle.list_facts.proofs.Reading.{some_at}
use Rattle.hmsc_graph.specs.Shapes.{line_number, AreNumbers, AreNext, IsGraphOf}
use Rattle.term_meaning.specs.LineWalks.{IsPath, path_none, path_more}
use Rattle.term_meaning.specs.ShapePaths.{IsNamedBy, IsLinePath, lines_none, lines_more, PathsAreOfText}

module _ (lines : List ShapeLine) where
  -- the numbers of labels are those of the lines that they name
  number_in : (labels : List LabelRef) (ns : List ℕ) (m : ℕ) (k : LabelRef) → AreNumbers lines labels ns → Among k labels → line_number lines k.name ≡ Some m → IsIn m ns
  number_in [] ns m k h a e = elim a [ ]
  number_in (l ∷ labels) [] m k h a e = absurd cc
  number_in (l ∷ labels) (n ∷ ns) m _ h first e = inl (sym (numbers n m (same_head (Some n) (line_number lines l.name) (map (λ j. Some j) ns) (map (λ (j : LabelRef). line_number lines j.name) labels) h ∙ e)))
    where
      numbers : (a b : ℕ) → Some a ≡ Some b → a ≡ b
      numbers a b e = cc
  number_in (l ∷ labels) (n ∷ ns) m k h (later a) e = inr (number_in labels ns m k (same_tail (Some n) (line_number lines l.name) (map (λ j. Some j) ns) (map (λ (j : LabelRef). line_number lines j.name) labels) h) a e)

  named_in : (labels : List LabelRef) (ns : List ℕ) (m : ℕ) → AreNumbers lines labels ns → IsNamedBy lines labels m → IsIn m ns
  named_in labels ns m h i = number_in labels ns m i.label h i.among i.is

  in_named : (labels : List LabelRef) (ns : List ℕ) (m : ℕ) → AreNumbers lines labels ns → IsIn m ns → IsNamedBy lines labels m
  in_named labels [] m h i = absurd i
  in_named [] (n ∷ ns) m h i = absurd cc
  in_named (l ∷ labels) (n ∷ ns) m h (inl e) =
      record { label = l; among = first; is = sym (same_head (Some n) (line_number lines l.name) (map (λ j. Some j) ns) (map (λ (j : LabelRef). line_number lines j.name) labels) h) ∙ ap Some (sym e) }
  in_named (l ∷ labels) (n ∷ ns) m h (inr i) =
      let r = in_named labels ns m (same_tail (Some n) (line_number lines l.name) (map (λ j. Some j) ns) (map (λ (j : LabelRef). line_number lines j.name) labels) h) i in
      record { label = r.label; among = later r.among; is = r.is }

  -- the next lines of a line
  next_of : (rest : List ShapeLine) (next : List (List ℕ)) (k : ℕ) (line : ShapeLine) → AreNext lines rest next → slice_get rest k ≡ Some line → AreNumbers lines line.next (get_or next k [])
  next_of [] next k line h e = absurd cc
  next_of (l ∷ rest) [] k line h e = absurd h
  next_of (l ∷ rest) (ns ∷ next) zero line (h, i) e = let p : l ≡ line = cc in subst (λ (x : ShapeLine). AreNumbers lines x.next ns) p h
  next_of (l ∷ rest) (ns ∷ next) (suc k) line (h, i) e = next_of rest next k line i e

  line_of : (label : LabelRef) (m : ℕ) → line_number lines label.name ≡ Some m → (line : ShapeLine) × (slice_get lines m ≡ Some line)
  line_of label m h = some_at lines m (within (position-Some (bytes_eq label.name) (map (λ (line : ShapeLine). line.label) lines) m [] h).0)
    where
      within : m < length (map (λ (line : ShapeLine). line.label) lines) → m < length lines
      within l = omega (arith, l, length-map lines (λ (line : ShapeLine). line.label))

module _ (shape : Shape) (g : Net) (h : IsGraphOf shape g) where
  to : (ms : List ℕ) (labels : List LabelRef) (f : Spot) → AreNumbers shape.lines labels (behind g f) → IsLinePath shape.lines labels ms → IsPath g f ms
  to _ labels f n lines_none = path_none
  to _ labels f n (lines_more {m = m} {ms = ms} line i e p) = path_more (named_in shape.lines labels (behind g f) m n i) (to ms line.next (At m) (next_of shape.lines shape.lines g.next m line h.next e) p)

  from : (ms : List ℕ) (labels : List LabelRef) (f : Spot) → AreNumbers shape.lines labels (behind g f) → IsPath g f ms → IsLinePath shape.lines labels ms
  from _ labels f n path_none = lines_none
  from _ labels f n (path_more {m = m} {ms = ms} i p) =
      let r = in_named shape.lines labels (behind g f) m n i in
      let (line, e) = line_of shape.lines r.label m r.is in
      lines_more line r e (from ms line.next (At m) (next_of shape.lines shape.lines g.next m line h.next e) p)

pub paths_are_of_text : PathsAreOfText
paths_are_of_text = record { paths = λ shape g ms h. record { to = to shape g h ms shape.starts Start h.starts; from = from shape g h ms shape.starts Start h.starts } }
