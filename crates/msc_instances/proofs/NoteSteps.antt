-- A step of the walk that looks for a second decomposition.
use Rattle.std.proofs.Common.{◌≡◌, ℕ, ◌<◌, ◌+◌, Bool, true, List, [], ◌∷◌, Option, map, drop, get_or, length, sym, subst, ap, ◌∙◌}
use Rattle.msc_base.specs.declared.place.Place.{Place}
use Rattle.msc_base.specs.Lists.{IsAmong}
use Rattle.msc_base.specs.NameTables.{with_name}
use Rattle.msc_base.specs.Places.{earliest_if}
use Rattle.msc_base.proofs.Narrowing.{Narrows, narrows_step}
use Rattle.list_facts.proofs.Reading.{drop_read}
use Rattle.msc_instances.specs.Instances.{DecomposesAgain}
use Rattle.msc_instances.specs.NoteViews.{note_view}
use Rattle.msc_instances.specs.Notes.{Decomposed}
use Rattle.msc_instances.specs.Notes as plain
use Rattle.msc_instances.specs.declared.notes.Note.{Note}

pub again_step : (all : List plain.Note) (list : List Note) (i : ℕ) (name : List ℕ) (place : Place) (item : Note) (b : Bool) (before after : List (List ℕ)) (best next : Option Place)
    → Narrows (DecomposesAgain [] all) (λ q. DecomposesAgain before (map note_view (drop i list)) q) best
    → i < length list → item ≡ get_or list i item → note_view item ≡ Decomposed name place
    → (b ≡ true → IsAmong before name) → (IsAmong before name → b ≡ true)
    → next ≡ earliest_if b best place → after ≡ with_name before name
    → Narrows (DecomposesAgain [] all) (λ q. DecomposesAgain after (map note_view (drop (i + 1) list)) q) next
again_step all list i name place item b before after best next k low is view f g made grown =
    let rest : map note_view (drop i list) ≡ Decomposed name place ∷ map note_view (drop (i + 1) list) =
    ap (map note_view) (drop_read list i item low is) ∙ ap (λ (n : plain.Note). n ∷ map note_view (drop (i + 1) list)) view in
    let now : Narrows (DecomposesAgain [] all) (λ q. DecomposesAgain before (Decomposed name place ∷ map note_view (drop (i + 1) list)) q) best =
    subst (λ (ns : List plain.Note). Narrows (DecomposesAgain [] all) (λ q. DecomposesAgain before ns q) best) rest k in
    let done : Narrows (DecomposesAgain [] all) (λ q. DecomposesAgain (with_name before name) (map note_view (drop (i + 1) list)) q) (earliest_if b best place) =
    narrows_step (DecomposesAgain [] all) (λ q. DecomposesAgain (with_name before name) (map note_view (drop (i + 1) list)) q) best place b (IsAmong before name) now f g in
    let at : Narrows (DecomposesAgain [] all) (λ q. DecomposesAgain after (map note_view (drop (i + 1) list)) q) (earliest_if b best place) =
    subst (λ (ns : List (List ℕ)). Narrows (DecomposesAgain [] all) (λ q. DecomposesAgain ns (map note_view (drop (i + 1) list)) q) (earliest_if b best place)) (sym grown) done in
    subst (λ (o : Option Place). Narrows (DecomposesAgain [] all) (λ q. DecomposesAgain after (map note_view (drop (i + 1) list)) q) o) (sym made) at
