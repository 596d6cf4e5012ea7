-- The joins of a gate that was seen, by what was seen alone.
use Rattle.std.proofs.Common.{◌≡◌, ◌<◌, ◌+◌, ℕ, ◌||◌, List, [], ◌∷◌, ◌++◌, drop, get_or, length, refl, sym, ap, ap₂, ◌∙◌}
use Rattle.std.proofs.lemmas.List.{append_assoc}
use Rattle.std.specs.List.{list_any}
use Rattle.std.specs.Str.{bytes_eq}
use Rattle.chart_text.specs.Gathering.{place_if}
use Rattle.list_facts.proofs.Bools.{or_comm}
use Rattle.list_facts.proofs.Reading.{drop_read}
use Rattle.msc_base.proofs.NameFacts.{any_with_name}
use Rattle.msc_base.specs.NameTables.{with_name}
use Rattle.msc_base.specs.declared.place.Place.{Place}
use Rattle.msc_tree.specs.declared.reference.Join.{Join}
use Rattle.gate_rules.specs.GateRules.{joined_again}

seen_same : (seen others : List (List ℕ)) → ((n : List ℕ) → list_any (bytes_eq n) seen ≡ list_any (bytes_eq n) others) → (js : List Join) → joined_again seen js ≡ joined_again others js
seen_same seen others same [] = refl
seen_same seen others same (j ∷ js) =
    ap₂ (λ b l. place_if b j.place ++ l) (same j.gate) (seen_same (j.gate ∷ seen) (j.gate ∷ others) (λ n. ap (λ b. bytes_eq n j.gate || b) (same n)) js)

-- one join more
pub rejoined_more : (joins : List Join) (i : ℕ) (j : Join) (seen more : List (List ℕ)) (old new all : List Place) → i < length joins → j ≡ get_or joins i j → more ≡ with_name seen j.gate
    → new ≡ old ++ place_if (list_any (bytes_eq j.gate) seen) j.place → old ++ joined_again seen (drop i joins) ≡ all → new ++ joined_again more (drop (i + 1) joins) ≡ all
rejoined_more joins i j seen more old new all low is with made before =
    ap₂ (λ l s. l ++ joined_again s (drop (i + 1) joins)) made with
    ∙ append_assoc old (place_if (list_any (bytes_eq j.gate) seen) j.place) (joined_again (with_name seen j.gate) (drop (i + 1) joins))
    ∙ ap (λ l. old ++ (place_if (list_any (bytes_eq j.gate) seen) j.place ++ l)) (seen_same (with_name seen j.gate) (j.gate ∷ seen) (λ n. any_with_name seen j.gate n ∙ or_comm (list_any (bytes_eq n) seen) (bytes_eq n j.gate)) (drop (i + 1) joins))
    ∙ ap (λ (l : List Join). old ++ joined_again seen l) (sym (drop_read joins i j low is))
    ∙ before
