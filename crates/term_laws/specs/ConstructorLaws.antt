-- The laws of permission's measure, of permission by nothing, and of the normalising constructors.
use Rattle.std.specs.Prelude.{ℕ, ◌≤◌, ◌≢◌, Bool, List, [], ◌≡◌, Option, Some, None, true}
use Rattle.msc_base.specs.Patterns.{Mode}
use Rattle.hmsc_graph.specs.Graphs.{Spot, Goal}
use Rattle.chart_term.specs.NormalForms.{only, join_all, choice_of, tie_of, loop_of, walk_of}
use Rattle.chart_term.specs.Properties.{Every, Each, EachTurn, EachGap, MayHave}
use Rattle.chart_term.specs.Tables.{Tables, terms_over}
use Rattle.chart_term.specs.TermMeanings.{HasPattern, HasParts, HasChoice, PatternsOf, UpTo, ◌⊑◌}
use Rattle.chart_term.specs.TermPatterns.{Shape, InPairs, Both}
use Rattle.chart_term.specs.Terms.{Block, Tree, Tied, Loop, Walk, Part, row_of, weight}
use Rattle.term_laws.specs.Normality.{IsNormalOver, IsSet}
use Rattle.chart_term.specs.Spreads.{touch}
use Rattle.term_laws.specs.Permission.{permit, permits_of}
use Rattle.term_laws.specs.Soundness.{AreTidyTables, IsTidyOver, NeverGrows, NetLacks, IsKnown}
use Rattle.term_laws.specs.Sound.{AreSoundTables}

-- the term does not name the net
abbrev pub NamesNot : ℕ → Tree → Type 0
NamesNot n x = Every (λ e. Unit {0}) (λ m. m ≢ n) x

-- permission makes no term heavier, and names no new net
pub record PermitOnlyFalls : Type 0 where
  pub weight_falls : (w : Tables) (b : Block) (x y : Tree) → permit (permits_of w) b x ≡ Some y → weight y ≤ weight x
  pub nets_fall : (w : Tables) (b : Block) (x y : Tree) (n : ℕ) → permit (permits_of w) b x ≡ Some y → NamesNot n x → NamesNot n y

-- permission by the empty block gives a term in normal form back
pub record PermitOfNothing : Type 0 where
  pub same : (w : Tables) (x : Tree) → IsNormalOver w x → permit (permits_of w) (only []) x ≡ Some x

-- two sets have the same patterns
pub record HaveSame (p q : Shape → Type 0) : Type 0 where
  pub to : p ⊑ q
  pub from : q ⊑ p

-- each normalising constructor has the patterns of its parts before they are normalised, and fails only where there are none
pub record NormalFormsKeepPatterns : Type 0 where
  pub join : (o : Bool) (w : Tables) (m : Mode) (xs : List Tree) → HaveSame (HasPattern (terms_over w) o (join_all m xs)) (HasParts (terms_over w) o m xs)
  pub choice : (o : Bool) (w : Tables) (xs : List Tree) → HaveSame (PatternsOf (terms_over w) o (choice_of xs)) (HasChoice (terms_over w) o xs)
  pub tied : (o : Bool) (w : Tables) (x : Tree) (q : List (ℕ × ℕ)) → AreTidyTables w → ((j : ℕ) → InPairs j q → Every (λ e. Unit {0}) (NetLacks w j) x)
      → HaveSame (HasPattern (terms_over w) o (tie_of x q)) (HasPattern (terms_over w) o (Tied x q))
  pub turns : (o : Bool) (w : Tables) (x : Tree) (lo : ℕ) (hi : Option ℕ) (ps : List Part) → AreTidyTables w → IsTidyOver w x → NeverGrows ps → UpTo hi lo
      → HaveSame (PatternsOf (terms_over w) o (loop_of (λ c. permit (permits_of w) (only c) x) (touch (permits_of w).spread x) x lo hi ps)) (HasPattern (terms_over w) o (Loop x lo hi (row_of ps)))
  pub trail : (o : Bool) (w : Tables) (n : ℕ) (f : Spot) (t : Goal) (c : List ℕ) → AreTidyTables w → IsKnown w n
      → HaveSame (PatternsOf (terms_over w) o (walk_of (permits_of w) n f t c)) (HasPattern (terms_over w) o (Walk n f t c))

-- tidy and in normal form
pub record IsFormed (w : Tables) (x : Tree) : Type 0 where
  pub tidy : IsTidyOver w x
  pub normal : IsNormalOver w x

-- a row whose parts are fit for a loop of the operand: its blocks are sets that never grow, its begun turns are formed
pub record IsFormedRow (w : Tables) (ps : List Part) : Type 0 where
  pub sets : EachGap IsSet ps
  pub falls : NeverGrows ps
  pub turns : EachTurn (IsFormed w) ps

-- the normalising constructors make tidy terms in normal form of such parts, and fail exactly where there is no pattern
pub record ConstructorsKeepForm : Type 0 where
  pub join : (w : Tables) (m : Mode) (xs : List Tree) → AreTidyTables w → Each (IsFormed w) xs → IsFormed w (join_all m xs)
  pub choice : (w : Tables) (xs : List Tree) → AreTidyTables w → Each (IsFormed w) xs → MayHave (IsFormed w) (choice_of xs)
  pub choice_fails : (w : Tables) (xs : List Tree) → AreSoundTables w → Each (IsFormed w) xs → Both (choice_of xs ≡ None) ((s : Shape) → HasChoice (terms_over w) true xs s → ⊥)
  pub tied : (w : Tables) (x : Tree) (q : List (ℕ × ℕ)) → AreTidyTables w → IsTidyOver w (Tied x q) → IsNormalOver w x → IsFormed w (tie_of x q)
  pub turns : (w : Tables) (x : Tree) (lo : ℕ) (hi : Option ℕ) (ps : List Part) → AreTidyTables w → IsFormed w x → UpTo hi lo → IsFormedRow w ps
      → MayHave (IsFormed w) (loop_of (λ c. permit (permits_of w) (only c) x) (touch (permits_of w).spread x) x lo hi ps)
  pub turns_fail : (w : Tables) (x : Tree) (lo : ℕ) (hi : Option ℕ) (ps : List Part) → AreSoundTables w → IsFormed w x → UpTo hi lo → IsFormedRow w ps
      → Both (loop_of (λ c. permit (permits_of w) (only c) x) (touch (permits_of w).spread x) x lo hi ps ≡ None) ((s : Shape) → HasPattern (terms_over w) true (Loop x lo hi (row_of ps)) s → ⊥)
  pub trail : (w : Tables) (n : ℕ) (f : Spot) (t : Goal) (c : List ℕ) → IsKnown w n → IsSet c → MayHave (IsFormed w) (walk_of (permits_of w) n f t c)
  pub trail_fails : (w : Tables) (n : ℕ) (f : Spot) (t : Goal) (c : List ℕ) → AreSoundTables w → IsKnown w n → IsSet c
      → Both (walk_of (permits_of w) n f t c ≡ None) ((s : Shape) → HasPattern (terms_over w) true (Walk n f t c) s → ⊥)
