-- What a term means over the tables of now it means over all later ones.
use Rattle.std.specs.Prelude.{ℕ, Bool, List}
use Rattle.msc_base.specs.declared.label.Label.{Label}
use Rattle.msc_unfolding.specs.Unfoldings.{Happening, Unfolding}
use Rattle.term_tables.specs.NetValues.{NetsValue}
use Rattle.chart_term.specs.Tables.{Tables, terms_over}
use Rattle.chart_term.specs.TermMeanings.{HasPattern}
use Rattle.chart_term.specs.Terms.{TermEvent, Tree}
use Rattle.term_laws.specs.LaterTables.{LaterTablesAgree}
use Rattle.term_laws.specs.Soundness.{AreTidyTables, IsTidyOver}
use Rattle.term_meaning.specs.Extending.{Extends, as_it_is, one_more, IsLater, IsPortionFromNow, MeansFromNow}
use Rattle.term_meaning.specs.Growing.{KeepsPlaces}
use Rattle.term_meaning.specs.Meanings.{Mean, MeansUnfoldings}
use Rattle.term_meaning.specs.Naming.{IsNamed}
use Rattle.term_meaning.specs.Portions.{Shown, IsPortion}
use Rattle.term_meaning.proofs.MeaningRules.{mean_later}
use Rattle.term_meaning.proofs.PortionRules.{portion_later, portion_named_later}
use Rattle.term_meaning.proofs.SeenRules.{mean_named_later}

pub extends_on : (w v u : Tables) → Extends w v → Extends v u → Extends w u
extends_on w v _ a as_it_is = a
extends_on w v _ a (one_more {v = u} e b) = one_more e (extends_on w v u a b)

pub keeps_on : {X : Type 0} (a b c : List X) → KeepsPlaces a b → KeepsPlaces b c → KeepsPlaces a c
keeps_on a b c f g i x h = g i x (f i x h)

pub keeps_same : {X : Type 0} (a : List X) → KeepsPlaces a a
keeps_same a i x h = h

pub later_on : (a b c : NetsValue) → IsLater a b → IsLater b c → IsLater a c
later_on a b c f g = record { labels = keeps_on a.labels b.labels c.labels f.labels g.labels; tables = extends_on a.tables b.tables c.tables f.tables g.tables }

pub later_same : (v : NetsValue) → IsLater v v
later_same v = record { labels = keeps_same v.labels; tables = as_it_is }

tidy_before : (w v : Tables) → Extends w v → AreTidyTables v → AreTidyTables w
tidy_before w _ as_it_is h = h
tidy_before w _ (one_more {v = v} e x) h = tidy_before w v x h.0

module _ (agree : LaterTablesAgree) where
  pub tidy_extended : (w v : Tables) (x : Tree) → Extends w v → AreTidyTables v → IsTidyOver w x → IsTidyOver v x
  tidy_extended w _ x as_it_is h t = t
  tidy_extended w _ x (one_more {v = v} e b) h t = agree.tidy v e x h.0 (tidy_extended w v x b h.0 t)

  pub mean_extended : (Same : TermEvent → Happening → Type 0) (o : Bool) (w v : Tables) (x : Tree) (A : Unfolding → Type 0) → Extends w v → AreTidyTables v → IsTidyOver w x
      → Mean Same (HasPattern (terms_over w) o x) A → Mean Same (HasPattern (terms_over v) o x) A
  mean_extended Same o w _ x A as_it_is h t m = m
  mean_extended Same o w _ x A (one_more {v = v} e b) h t m = mean_later agree Same o v e x A h.0 (tidy_extended w v x b h.0 t) (mean_extended Same o w v x A b h.0 t m)

  pub portion_extended : (labels : List Label) (names : List (List ℕ)) (lo hi : ℕ) (sh : Shown) (o : Bool) (w v : Tables) (x : Tree) (A : Unfolding → Type 0) → Extends w v → AreTidyTables v → IsTidyOver w x
      → IsPortion labels names lo hi sh (HasPattern (terms_over w) o x) A → IsPortion labels names lo hi sh (HasPattern (terms_over v) o x) A
  portion_extended labels names lo hi sh o w _ x A as_it_is h t m = m
  portion_extended labels names lo hi sh o w _ x A (one_more {v = v} e b) h t m =
      portion_later agree labels names lo hi sh o v e x A h.0 (tidy_extended w v x b h.0 t) (portion_extended labels names lo hi sh o w v x A b h.0 t m)

  -- what holds now holds from now on
  pub portion_from_now : (v : NetsValue) (names : List (List ℕ)) (lo hi : ℕ) (sh : Shown) (x : Tree) (unfolds : Bool → Unfolding → Type 0) → IsTidyOver v.tables x
      → ((o : Bool) → IsPortion v.labels names lo hi sh (HasPattern (terms_over v.tables) o x) (unfolds o)) → IsPortionFromNow v names lo hi sh x unfolds
  portion_from_now v names lo hi sh x unfolds t p = record {
    tidy = t;
    portion = λ later others o l n h.
        portion_named_later v.labels later.labels names others l.labels n lo hi sh (HasPattern (terms_over later.tables) o x) (unfolds o)
        (portion_extended v.labels names lo hi sh o v.tables later.tables x (unfolds o) l.tables h t (p o));
  }

  pub means_from_now : (v : NetsValue) (names : List (List ℕ)) (x : Tree) (unfolds : Bool → Unfolding → Type 0) → IsTidyOver v.tables x
      → ((o : Bool) → MeansUnfoldings v names o x (unfolds o)) → MeansFromNow v names x unfolds
  means_from_now v names x unfolds t p = record {
    tidy = t;
    means = λ later others o l n h.
        mean_named_later v.labels later.labels names others l.labels n (HasPattern (terms_over later.tables) o x) (unfolds o)
        (mean_extended (IsNamed v.labels names) o v.tables later.tables x (unfolds o) l.tables h t (p o));
  }

  -- and over later tables still
  pub means_later : (v later : NetsValue) (names others : List (List ℕ)) (x : Tree) (unfolds : Bool → Unfolding → Type 0) → IsLater v later → KeepsPlaces names others → AreTidyTables later.tables
      → MeansFromNow v names x unfolds → MeansFromNow later others x unfolds
  means_later v later names others x unfolds l n h m = record {
    tidy = tidy_extended v.tables later.tables x l.tables h m.tidy;
    means = λ still more o k j t. m.means still more o (later_on v later still l k) (keeps_on names others more n j) t;
  }

  pub portion_later_still : (v later : NetsValue) (names others : List (List ℕ)) (lo hi : ℕ) (sh : Shown) (x : Tree) (unfolds : Bool → Unfolding → Type 0) → IsLater v later → KeepsPlaces names others → AreTidyTables later.tables
      → IsPortionFromNow v names lo hi sh x unfolds → IsPortionFromNow later others lo hi sh x unfolds
  portion_later_still v later names others lo hi sh x unfolds l n h m = record {
    tidy = tidy_extended v.tables later.tables x l.tables h m.tidy;
    portion = λ still more o k j t. m.portion still more o (later_on v later still l k) (keeps_on names others more n j) t;
  }
