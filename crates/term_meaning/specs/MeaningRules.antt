-- The rules by which the terms that the constructors make mean sets of unfoldings.
use Rattle.std.specs.Prelude.{ℕ, Bool, true, false, List, [], ◌∷◌, Option, ◌≡◌}
use Rattle.hmsc_graph.specs.Graphs.{End, Any}
use Rattle.msc_base.specs.Orders.{IsLinear}
use Rattle.msc_base.specs.Patterns.{Mode, Position, Before}
use Rattle.msc_unfolding.specs.Unfoldings.{Happening, Tie, Unfolding, plain, joins}
use Rattle.chart_term.specs.NormalForms.{join_all, choice_of, tie_of}
use Rattle.chart_term.specs.Properties.{Every}
use Rattle.chart_term.specs.Tables.{Tables, NetEntry, terms_over, net_of, node_of}
use Rattle.chart_term.specs.TermMeanings.{HasPattern, HasParts, HasChoice, PatternsOf, UpTo}
use Rattle.chart_term.specs.TermPatterns.{Shape, numbered, Occurs, InPairs, pairs}
use Rattle.chart_term.specs.Terms.{TermEvent, Tree, Nil, Event}
use Rattle.term_laws.specs.FullSoundness.{fresh_loop, fresh_walk}
use Rattle.term_laws.specs.Sound.{HasOrder}
use Rattle.term_laws.specs.Soundness.{AreTidyTables, IsTidyOver, NetLacks, IsKnown}
use Rattle.term_meaning.specs.LineWalks.{AreEndsEmpty, IsFinished, IsUnderWay}
use Rattle.term_meaning.specs.Meanings.{Mean}
use Rattle.term_meaning.specs.UnfoldingSets.{Nothing, OnlyEmpty, OnlyEvent, AreJoined, AreTied, Either, AreSomeOften}

-- what events are the same, by In, share an instance alike
abbrev pub MeetAlike : (TermEvent → Happening → Type 0) → Type 0
MeetAlike In = (e f : TermEvent) (g h : Happening) → In e g → In f h → numbered.meets e f ≡ plain.meets g h

-- events agree by In, and above a tie by Out; A, B and N are sets of unfoldings, those of N by the lines of a graph. With `false` the
-- patterns of finished walks count, with `true` also those of walks under way
pub record MeaningRules (In Out : TermEvent → Happening → Type 0) (A B : Unfolding → Type 0) (N : ℕ → Unfolding → Type 0) : Type 0 where
  pub nil : (w : Tables) (o : Bool) → Mean In (HasPattern (terms_over w) o Nil) OnlyEmpty
  pub event : (w : Tables) (o : Bool) (e : TermEvent) (h : Happening) → In e h → Mean In (HasPattern (terms_over w) o (Event e)) (OnlyEvent h)
  -- a list of parts, one after another or side by side
  pub no_part : (w : Tables) (o : Bool) (m : Mode) → Mean In (HasParts (terms_over w) o m []) OnlyEmpty
  pub part : (w : Tables) (o : Bool) (m : Mode) (x : Tree) (xs : List Tree) → MeetAlike In → Mean In (HasPattern (terms_over w) o x) A → Mean In (HasParts (terms_over w) o m xs) B
      → Mean In (HasParts (terms_over w) o m (x ∷ xs)) (AreJoined m A B)
  pub join : (w : Tables) (o : Bool) (m : Mode) (xs : List Tree) → Mean In (HasParts (terms_over w) o m xs) A → Mean In (HasPattern (terms_over w) o (join_all m xs)) A
  -- a list of alternatives
  pub no_choice : (w : Tables) (o : Bool) → Mean In (HasChoice (terms_over w) o []) Nothing
  pub alternative : (w : Tables) (o : Bool) (x : Tree) (xs : List Tree) → Mean In (HasPattern (terms_over w) o x) A → Mean In (HasChoice (terms_over w) o xs) B
      → Mean In (HasChoice (terms_over w) o (x ∷ xs)) (Either A B)
  pub choice : (w : Tables) (o : Bool) (xs : List Tree) → Mean In (HasChoice (terms_over w) o xs) A → Mean In (PatternsOf (terms_over w) o (choice_of xs)) A
  -- a tie whose numbers are in no net
  pub tied : (w : Tables) (o : Bool) (x : Tree) (q : List (ℕ × ℕ)) (t : Tie) → AreTidyTables w → ((j : ℕ) → InPairs j q → Every (λ e. Unit {0}) (NetLacks w j) x)
      → ((e : TermEvent) (h : Happening) → In e h → Out e (plain.carries t h))
      → ((e f : TermEvent) (g h : Happening) → In e g → In f h → pairs q e.number f.number ≡ joins t.pairs g.tags h.tags)
      → Mean In (HasPattern (terms_over w) o x) A → Mean Out (HasPattern (terms_over w) o (tie_of x q)) (AreTied A t)
  -- a tie of the unfoldings without pairs
  pub passed : (w : Tables) (o : Bool) (x : Tree) (t : Tie) → ((e : TermEvent) (h : Happening) → In e h → Out e (plain.carries t h)) → ((g h : Happening) → joins t.pairs g.tags h.tags ≡ false)
      → Mean In (HasPattern (terms_over w) o x) A → Mean Out (HasPattern (terms_over w) o x) (AreTied A t)
  -- what more is known of the events that occur
  pub known : (w : Tables) (o : Bool) (x : Tree) → ((s : Shape) → HasPattern (terms_over w) o x s → (e : TermEvent) (h : Happening) → Occurs e.number s → In e h → Out e h)
      → Mean In (HasPattern (terms_over w) o x) A → Mean Out (HasPattern (terms_over w) o x) A
  pub loop : (w : Tables) (o : Bool) (x : Tree) (lo : ℕ) (hi : Option ℕ) → MeetAlike In → AreTidyTables w → IsTidyOver w x → UpTo hi lo → Mean In (HasPattern (terms_over w) o x) A
      → Mean In (PatternsOf (terms_over w) o (fresh_loop w x lo hi)) (AreSomeOften A lo hi)
  -- walks: to an end; of a chart's own graph, finished, and finished or under way
  pub to_end : (w : Tables) (o : Bool) (n : ℕ) → MeetAlike In → AreTidyTables w → IsKnown w n → AreEndsEmpty (net_of w n) N
      → ((m : ℕ) → Mean In (HasPattern (terms_over w) o (node_of w n m)) (N m)) → Mean In (PatternsOf (terms_over w) o (fresh_walk w n End)) (IsFinished (net_of w n) N)
  pub finished : (w : Tables) (n : ℕ) → MeetAlike In → AreTidyTables w → IsKnown w n → AreEndsEmpty (net_of w n) N
      → ((m : ℕ) → Mean In (HasPattern (terms_over w) false (node_of w n m)) (N m)) → Mean In (PatternsOf (terms_over w) false (fresh_walk w n Any)) (IsFinished (net_of w n) N)
  pub under_way : (w : Tables) (n : ℕ) → MeetAlike In → AreTidyTables w → IsKnown w n → AreEndsEmpty (net_of w n) N
      → ((m : ℕ) → Mean In (HasPattern (terms_over w) true (node_of w n m)) (N m)) → Mean In (PatternsOf (terms_over w) true (fresh_walk w n Any)) (Either (IsFinished (net_of w n) N) (IsUnderWay (net_of w n) N))
  -- one net more; and linear orders
  pub later : (w : Tables) (o : Bool) (e : NetEntry) (x : Tree) → AreTidyTables w → IsTidyOver w x → Mean In (HasPattern (terms_over w) o x) A → Mean In (HasPattern (terms_over (e ∷ w)) o x) A
  pub ordered : (w : Tables) (o : Bool) (x : Tree) → Mean In (HasPattern (terms_over w) o x) A → ((u : Unfolding) → A u → (l : List (Position u)) × IsLinear (Before plain u) l)
      → (s : Shape) → HasPattern (terms_over w) o x s → HasOrder s
