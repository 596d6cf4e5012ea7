-- Serves private contracts alone.
-- Which places of a log were met.
use Rattle.std.specs.Prelude.{ℕ, suc, ◌+◌, ◌≡◌, ◌↔◌, Bool, true, false, List, [], ◌∷◌, ◌++◌, Some, IsTrue, length, map, slice_get, slice_set}
use Rattle.std.proofs.Common.{get_or}
use Rattle.msc_base.specs.Lists.{AreDifferent, IsAmong}
use Rattle.chart_term.specs.Terms.{Tree}
use Rattle.certificates.specs.Certificates.{PlacedEvent}
use Rattle.pattern_marks.specs.Marks.{Sign, sign_of}
use Rattle.pattern_marks.specs.Tests.{ArePlaced, events_in, IsPlaced}
use Rattle.pattern_marks.specs.declared.mark.Mark.{Mark}
use Rattle.pattern_marks.specs.declared.places.Places.{Places}

-- how many are yes
abbrev pub yes_count : List Bool → ℕ
yes_count [] = 0
yes_count (true ∷ bs) = suc (yes_count bs)
yes_count (false ∷ bs) = yes_count bs

-- as many places as the log has, of which so many were met
pub record AreCounted (run : List ℕ) (p : Places) : Type 0 where
  pub size : length p.met.items ≡ length run
  pub count : p.count ≡ yes_count p.met.items

-- the events stand at places of the log with their labels, each at one of its own, and these were met
pub record HaveMet (run : List ℕ) (ds : List PlacedEvent) (p : Places) : Type 0 where
  pub counted : AreCounted run p
  pub labelled : (d : PlacedEvent) → IsAmong ds d → IsPlaced run d
  pub once : AreDifferent (map (λ d. d.place) ds)
  pub met : (k : ℕ) → IsTrue (get_or p.met.items k false) ↔ IsAmong (map (λ d. d.place) ds) (suc k)

-- the place is one of the log that has the label and wasn't met
pub record IsFree (run : List ℕ) (n a : ℕ) (p : Places) : Type 0 where
  pub index : ℕ
  pub place : n ≡ suc index
  pub label : slice_get run index ≡ Some a
  pub free : get_or p.met.items index false ≡ false

-- the place has been met too
pub record HasMet (n : ℕ) (old new : Places) : Type 0 where
  pub index : ℕ
  pub place : n ≡ suc index
  pub met : new.met.items ≡ slice_set old.met.items index true
  pub count : new.count ≡ old.count + 1

-- an event of this label stands there, if the place is free
abbrev pub Stands : Bool → List ℕ → ℕ → ℕ → Places → Places → Type 0
Stands true run n a old new = IsFree run n a old × HasMet n old new
Stands false run n a old new = IsFree run n a old → ⊥

-- so does the event of a mark, if it is one; an event that can't spoils all that goes on from it
abbrev pub Takes : Bool → List ℕ → Mark → Places → Places → Type 0
Takes true run m old new = AreCounted run new × ((ts : List Tree) (ds : List PlacedEvent) → HaveMet run ds old → HaveMet run (ds ++ events_in (sign_of ts m ∷ [])) new)
Takes false run m old new = (ts : List Tree) (ds : List PlacedEvent) (rest : List Sign) → HaveMet run ds old → ArePlaced run (ds ++ events_in (sign_of ts m ∷ rest)) → ⊥
