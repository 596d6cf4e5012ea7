-- Serves private contracts alone.
-- Terms mean their unfoldings over the tables of now and over all later ones.
use Rattle.std.specs.Prelude.{ℕ, Bool, List, ◌∷◌}
use Rattle.msc_unfolding.specs.Unfoldings.{Unfolding}
use Rattle.term_tables.specs.NetValues.{NetsValue}
use Rattle.chart_term.specs.Tables.{NetEntry, Tables, terms_over}
use Rattle.chart_term.specs.TermMeanings.{HasPattern}
use Rattle.chart_term.specs.Terms.{Tree}
use Rattle.term_laws.specs.Soundness.{AreTidyTables, IsTidyOver}
use Rattle.term_meaning.specs.Growing.{KeepsPlaces}
use Rattle.term_meaning.specs.Meanings.{MeansUnfoldings}
use Rattle.term_meaning.specs.Portions.{Shown, IsPortion}

-- the tables have these nets, and newer ones
pub data Extends (w : Tables) : Tables → Type 0 where
  as_it_is : Extends w w
  one_more : {v : Tables} (e : NetEntry) → Extends w v → Extends w (e ∷ v)

-- tables of labels and nets that have grown
pub record IsLater (v later : NetsValue) : Type 0 where
  pub labels : KeepsPlaces v.labels later.labels
  pub tables : Extends v.tables later.tables

-- over all later tables the term means these unfoldings, and its numbers and tags are as they were; with `false` finished ones, with
-- `true` also those of walks under way
pub record IsPortionFromNow (v : NetsValue) (names : List (List ℕ)) (lo hi : ℕ) (sh : Shown) (x : Tree) (unfolds : Bool → Unfolding → Type 0) : Type 0 where
  pub tidy : IsTidyOver v.tables x
  pub portion : (later : NetsValue) (others : List (List ℕ)) (o : Bool) → IsLater v later → KeepsPlaces names others → AreTidyTables later.tables
      → IsPortion later.labels others lo hi sh (HasPattern (terms_over later.tables) o x) (unfolds o)

pub record MeansFromNow (v : NetsValue) (names : List (List ℕ)) (x : Tree) (unfolds : Bool → Unfolding → Type 0) : Type 0 where
  pub tidy : IsTidyOver v.tables x
  pub means : (later : NetsValue) (others : List (List ℕ)) (o : Bool) → IsLater v later → KeepsPlaces names others → AreTidyTables later.tables → MeansUnfoldings later others o x (unfolds o)
