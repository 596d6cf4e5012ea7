-- Where each event of an expansion stands where its label says, so do those of the term and of the nets that are made of it.
use Rattle.std.specs.Option.{unwrap_or}
use Rattle.std.specs.Prelude.{ℕ, Bool, true, false, not, ◌&&◌, List, [], ◌∷◌, Option, Some, None}
use Rattle.msc_base.specs.Orders.{Among, first}
use Rattle.msc_base.specs.Patterns.{Mode, seq, par}
use Rattle.hmsc_graph.specs.declared.shape.Shape.{Shape}
use Rattle.hmsc_graph.specs.Graphs.{Goal, End, Any, Start}
use Rattle.chart_term.specs.NormalForms.{choice_of, is_nil, join_all}
use Rattle.chart_term.specs.Properties.{Each, MayHave}
use Rattle.chart_term.specs.Tables.{Tables, net_count}
use Rattle.chart_term.specs.Terms.{TermEvent, Tree, Nil}
use Rattle.chart_term.specs.Views.{pairs_of}
use Rattle.term_laws.specs.FullSoundness.{fresh_walk}
use Rattle.term_laws.specs.Permission.{permits_of}
use Rattle.term_laws.specs.Placing.{AreEventsPlaced, AreNetsPlaced, IsPlaced}
use Rattle.term_laws.proofs.EveryPart.{walk_part}
use Rattle.term_laws.proofs.Keeping.{as_before}
use Rattle.term_laws.proofs.Placed.{choice-placed, join-placed, tie-placed}
use Rattle.sound_terms.proofs.Ordering.{among_left, among_right}
use Rattle.expansion_tree.specs.Expansions.{Event, InRow, Aside, OneOf, Exception, Turns, Tied, Walk, no_parts, part_and, is_exception, events_in, all_events_in}
use Rattle.expansion_tree.specs.Numbered.{Expansion, Expansions}
use Rattle.expansion_tree.specs.declared.tree.ExpandedEvent.{ExpandedEvent}
use Rattle.expansion_terms.specs.Constructors.{leave_turn, one_of, placed, turns_if}
use Rattle.expansion_terms.specs.MadeTerms.{in_row, judged, made, made_all, net_behind, newest_walk, side_by_side, walked}

module _ (places : ℕ → List ℕ) where
  abbrev P : Tree → Type 0
  P = AreEventsPlaced places

  -- the term, or nothing
  there : (o : Option Tree) → MayHave P o → P (unwrap_or o Nil)
  there None i = tt
  there (Some x) i = i

  both_placed : (m : Mode) (x y : Tree) → P x → P y → P (join_all m (x ∷ y ∷ []))
  both_placed m x y h i = join-placed places (permits_of []) m (x ∷ y ∷ []) (h, (i, tt))

  one_placed : (xs : List Tree) → Each P xs → P (one_of xs)
  one_placed xs h = there (choice_of xs) (choice-placed places (permits_of []) xs h)

  turns_placed : (b : Bool) (lower : ℕ) (upper : Option ℕ) (x : Tree) → P x → P (turns_if b lower upper x)
  turns_placed true lower upper x h = (h, tt, tt)
  turns_placed false lower upper x h = tt

  instead_placed : (b : Bool) (x y : Tree) → P x → P y → P (placed b x y)
  instead_placed true x y h i = one_placed (x ∷ y ∷ []) (h, (i, tt))
  instead_placed false x y h i = both_placed seq x y h i

  row_placed : (xs : Expansions) (ys : List Tree) → Each P ys → P (in_row xs ys)
  row_placed no_parts ys h = tt
  row_placed (part_and x xs) [] h = tt
  row_placed (part_and x xs) (y ∷ ys) h = instead_placed (is_exception x) y (in_row xs ys) h.0 (row_placed xs ys h.1)

  aside_placed : (ys : List Tree) → Each P ys → P (side_by_side ys)
  aside_placed [] h = tt
  aside_placed (y ∷ ys) h = both_placed par y (side_by_side ys) h.0 (aside_placed ys h.1)

  walk_placed : (w : Tables) (goal : Goal) → P (newest_walk goal w)
  walk_placed [] goal = tt
  walk_placed (e ∷ es) goal =
      there (fresh_walk (e ∷ es) (net_count es) goal)
      (walk_part (IsPlaced places) (λ y q. Unit {0}) (λ y. Unit {0}) (λ n f t. Unit {0}) (permits_of (e ∷ es)) (λ n f g t u h s a. tt) (λ x q h. tt) (λ b x z e q h. tt) (λ x y z b e a p q h. tt) (net_count es) Start Start goal goal [] [] tt as_before as_before)

  -- the event of a term for one of an expansion
  abbrev named : ExpandedEvent → TermEvent
  named e = record { number = e.number; at = e.at; also = e.also; label = e.label }

  abbrev AreThere : List ExpandedEvent → Type 0
  AreThere es = (e : ExpandedEvent) → Among e es → IsPlaced places (named e)

  walked_placed : (goal : Goal) (n : ℕ) (g : Shape) (t : Tables) (xs : Expansions) → AreNetsPlaced places (made_all t xs).tables × Each P (made_all t xs).terms
      → AreNetsPlaced places (walked goal n g (made_all t xs)).tables × P (walked goal n g (made_all t xs)).term
  walked_placed goal n g t xs l = ((l.0, l.1), walk_placed (net_behind g (made_all t xs)) goal)

  mutual
    made_placed : (t : Tables) (x : Expansion) → AreThere (events_in x) → AreNetsPlaced places t → AreNetsPlaced places (made t x).tables × P (made t x).term
    made_placed t (Event e) h i = (i, h e first)
    made_placed t (InRow xs) h i = let l = all_placed t xs h i in (l.0, row_placed xs (made_all t xs).terms l.1)
    made_placed t (Aside xs) h i = let l = all_placed t xs h i in (l.0, aside_placed (made_all t xs).terms l.1)
    made_placed t (OneOf xs) h i = let l = all_placed t xs h i in (l.0, one_placed (made_all t xs).terms l.1)
    made_placed t (Exception x) h i = made_placed t x h i
    made_placed t (Turns n lower upper x) h i = let m = made_placed t x h i in (m.0, turns_placed (leave_turn lower upper && not (is_nil (Some (made t x).term))) lower upper (made t x).term m.1)
    made_placed t (Tied x ps) h i = let m = made_placed t x h i in (m.0, tie-placed places (permits_of []) (made t x).term (pairs_of ps) m.1)
    made_placed t (Walk n g xs) h i = walked_placed End n g t xs (all_placed t xs h i)

    all_placed : (t : Tables) (xs : Expansions) → AreThere (all_events_in xs) → AreNetsPlaced places t → AreNetsPlaced places (made_all t xs).tables × Each P (made_all t xs).terms
    all_placed t no_parts h i = (i, tt)
    all_placed t (part_and x xs) h i =
        let m = made_placed t x (λ e j. h e (among_left (events_in x) (all_events_in xs) e j)) i in
        let l = all_placed (made t x).tables xs (λ e j. h e (among_right (events_in x) (all_events_in xs) e j)) m.0 in
        (l.0, (m.1, l.1))

  pub judged_placed : (t : Tables) (x : Expansion) → AreThere (events_in x) → AreNetsPlaced places t → AreNetsPlaced places (judged t x).tables × P (judged t x).term
  judged_placed t (Walk n g xs) h i = walked_placed Any n g t xs (all_placed t xs h i)
  judged_placed t (Event e) h i = made_placed t (Event e) h i
  judged_placed t (InRow xs) h i = made_placed t (InRow xs) h i
  judged_placed t (Aside xs) h i = made_placed t (Aside xs) h i
  judged_placed t (OneOf xs) h i = made_placed t (OneOf xs) h i
  judged_placed t (Exception x) h i = made_placed t (Exception x) h i
  judged_placed t (Turns n lower upper x) h i = made_placed t (Turns n lower upper x) h i
  judged_placed t (Tied x ps) h i = made_placed t (Tied x ps) h i
