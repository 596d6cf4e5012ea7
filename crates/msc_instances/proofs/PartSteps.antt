-- Steps of the walks that look for a name that stands again.
use Rattle.std.proofs.Common.{◌≡◌, ◌⊎◌, inl, inr, ℕ, ◌<◌, ◌+◌, suc, Bool, true, List, [], ◌∷◌, Option, Some, map, drop, get_or, length, arith, sym, refl, subst, ap, ◌∙◌}
use Rattle.std.proofs.Math.Seq.{drop-cons}
use Rattle.msc_base.specs.declared.place.Place.{Place}
use Rattle.msc_base.specs.Places.{IsLeast, earliest_if}
use Rattle.msc_base.proofs.Narrowing.{Narrows, IsReached, narrows_step, narrows_end, narrows_part}
use Rattle.list_facts.proofs.Reading.{drop_read, drop_end}
use Rattle.msc_instances.specs.declared.again.Met.{Met}
use Rattle.msc_instances.specs.declared.parts.NamedPart.{NamedPart}
use Rattle.msc_instances.specs.Meetings.{Knows}
use Rattle.msc_instances.specs.Parts.{Clashes, NamesAgain, SomeNamesAgain}
use Rattle.msc_instances.specs.Parts as plain
use Rattle.msc_instances.specs.PartViews.{part_view}

-- the tables know the parts that were met, and the place so far is the earliest of theirs and of the one at the start
pub record IsOnward (so_far : Option Place) (all rest : List plain.NamedPart) (met : Met) (best : Option Place) : Type 0 where
  pub before : List plain.NamedPart
  pub knows : Knows met before
  pub narrows : Narrows (λ p. (so_far ≡ Some p) ⊎ NamesAgain [] all p) (NamesAgain before rest) best

pub onward_start : (so_far : Option Place) (all : List plain.NamedPart) (met : Met) → Knows met [] → IsOnward so_far all all met so_far
onward_start so_far all met k = record {
  before = [];
  knows = k;
  narrows = record {
    holds = λ p e. inl e;
    covers = λ q h. elim h [ inl e ↦ inl (subst (λ (o : Option Place). IsReached o q) (sym e) (inr refl)) | inr r ↦ inr r ];
    within = λ q r. inr r;
  };
}

pub onward_step : (so_far : Option Place) (all : List plain.NamedPart) (list : List NamedPart) (i : ℕ) (item : NamedPart) (met after : Met) (best next : Option Place) (b : Bool)
    → IsOnward so_far all (map part_view (drop i list)) met best → i < length list → item ≡ get_or list i item
    → ((before : List plain.NamedPart) → Knows met before → (b ≡ true → Clashes before (part_view item)) × (Clashes before (part_view item) → b ≡ true))
    → ((before : List plain.NamedPart) → Knows met before → Knows after (part_view item ∷ before))
    → next ≡ earliest_if b best item.place → IsOnward so_far all (map part_view (drop (i + 1) list)) after next
onward_step so_far all list i item met after best next b k low is told kept made =
    let rest : map part_view (drop i list) ≡ part_view item ∷ map part_view (drop (i + 1) list) = ap (map part_view) (drop_read list i item low is) in
    let now : Narrows (λ p. (so_far ≡ Some p) ⊎ NamesAgain [] all p) (NamesAgain k.before (part_view item ∷ map part_view (drop (i + 1) list))) best =
    subst (λ (ns : List plain.NamedPart). Narrows (λ p. (so_far ≡ Some p) ⊎ NamesAgain [] all p) (NamesAgain k.before ns) best) rest k.narrows in
    let t = told k.before k.knows in
    record {
      before = part_view item ∷ k.before;
      knows = kept k.before k.knows;
      narrows = subst (λ (o : Option Place). Narrows (λ p. (so_far ≡ Some p) ⊎ NamesAgain [] all p) (NamesAgain (part_view item ∷ k.before) (map part_view (drop (i + 1) list))) o) (sym made)
          (narrows_step (λ p. (so_far ≡ Some p) ⊎ NamesAgain [] all p) (NamesAgain (part_view item ∷ k.before) (map part_view (drop (i + 1) list))) best item.place b (Clashes k.before (part_view item)) now t.0 t.1);
    }

pub onward_end : (so_far : Option Place) (all rest : List plain.NamedPart) (met : Met) (best : Option Place) → IsOnward so_far all rest met best → rest ≡ []
    → IsLeast (λ p. (so_far ≡ Some p) ⊎ NamesAgain [] all p) best
onward_end so_far all rest met best k none =
    narrows_end (λ p. (so_far ≡ Some p) ⊎ NamesAgain [] all p) (NamesAgain k.before rest) best k.narrows (λ q h. subst (λ (ns : List plain.NamedPart). NamesAgain k.before ns q) none h)

-- one level more
pub levels_step : (all list : List (List plain.NamedPart)) (i : ℕ) (level : List plain.NamedPart) (best next : Option Place)
    → Narrows (SomeNamesAgain all) (SomeNamesAgain (drop i list)) best → i < length list → level ≡ get_or list i level
    → IsLeast (λ p. (best ≡ Some p) ⊎ NamesAgain [] level p) next → Narrows (SomeNamesAgain all) (SomeNamesAgain (drop (i + 1) list)) next
levels_step all list i level best next k low is least =
    let rest : drop i list ≡ level ∷ drop (i + 1) list = drop_read list i level low is in
    let now : Narrows (SomeNamesAgain all) (SomeNamesAgain (level ∷ drop (i + 1) list)) best =
    subst (λ (ls : List (List plain.NamedPart)). Narrows (SomeNamesAgain all) (SomeNamesAgain ls) best) rest k in
    narrows_part (SomeNamesAgain all) (NamesAgain [] level) (SomeNamesAgain (drop (i + 1) list)) best next now least

pub parts_end : (so_far : Option Place) (list : List NamedPart) (i : ℕ) (met : Met) (best : Option Place) → IsOnward so_far (map part_view list) (map part_view (drop i list)) met best → (i < length list → ⊥)
    → IsLeast (λ p. (so_far ≡ Some p) ⊎ NamesAgain [] (map part_view list) p) best
parts_end so_far list i met best k n = onward_end so_far (map part_view list) (map part_view (drop i list)) met best k (ap (map part_view) (drop_end list i n))
