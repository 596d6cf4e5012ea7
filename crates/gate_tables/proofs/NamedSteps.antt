-- Named facts that are kept, name by name.
use Rattle.std.specs.Prelude.{◌≡◌, ◌⊎◌, ℕ, Bool, true, false, List, Option, None, if◌then◌else◌}
use Rattle.std.specs.Str.{bytes_eq}
use Rattle.std.proofs.Common.{◌∙◌, refl, sym, ap, inl, inr}
use Rattle.std.proofs.lemmas.Slice.Eq.{bytes_eq-Decides}
use Rattle.gate_tables.specs.FactMaps.{at_gate}
use Rattle.gate_tables.specs.KeptMaps.{kept_gate, kept_of}
use Rattle.gate_tables.specs.NamedMaps.{IsNamePopped, gate_of, map_named, named_gate}
use Rattle.gate_tables.specs.declared.fact_map.FactMap.{FactMap}
use Rattle.gate_tables.specs.declared.kept.KeptMap.{KeptMap}
use Rattle.gate_tables.specs.declared.kept.KeptMaps.{KeptMaps}
use Rattle.gate_tables.specs.declared.named.NamedFacts.{NamedFacts}

-- of each name: its facts aren't kept yet, or they are
abbrev pub IsKeptOrLeft : NamedFacts → NamedFacts → KeptMaps → List ℕ → Type 0
IsKeptOrLeft old left kept n = (map_named left n ≡ map_named old n) × ((g : List ℕ) → kept_of kept n g ≡ None) ⊎ (map_named left n ≡ None) × ((g : List ℕ) → kept_of kept n g ≡ gate_of (map_named old n) g)

abbrev pub AreKept : NamedFacts → NamedFacts → KeptMaps → Type 0
AreKept old left kept = (n : List ℕ) → IsKeptOrLeft old left kept n

pub kept_more : (old left left_new : NamedFacts) (kept kept_new : KeptMaps) (name : List ℕ) (map : FactMap) (made : KeptMap) → AreKept old left kept → IsNamePopped left left_new name map → ((g : List ℕ) → kept_gate made g ≡ at_gate map g)
    → ((n g : List ℕ) → kept_of kept_new n g ≡ (if bytes_eq name n then kept_gate made g else kept_of kept n g)) → AreKept old left_new kept_new
kept_more old left left_new kept kept_new name map made are popped same at = λ n. by n (bytes_eq name n) refl (popped.now n) (at n) (are n)
  where
    here : (n : List ℕ) → name ≡ n → IsKeptOrLeft old left kept n → (g : List ℕ) → kept_gate made g ≡ gate_of (map_named old n) g
    here n e (inl (is, none)) = λ g. same g ∙ ap (λ (o : Option FactMap). gate_of o g) (sym popped.was ∙ ap (map_named left) e ∙ is)
    here n e (inr (is, all)) = let was = sym popped.was ∙ ap (map_named left) e ∙ is in absurd cc

    by : (n : List ℕ) (b : Bool) → bytes_eq name n ≡ b → map_named left_new n ≡ (if b then None else map_named left n) → ((g : List ℕ) → kept_of kept_new n g ≡ (if b then kept_gate made g else kept_of kept n g))
        → IsKeptOrLeft old left kept n → IsKeptOrLeft old left_new kept_new n
    by n true e gone now h = inr (gone, λ g. now g ∙ here n ((bytes_eq-Decides name n).0 e) h g)
    by n false e gone now (inl (is, none)) = inl (gone ∙ is, λ g. now g ∙ none g)
    by n false e gone now (inr (is, all)) = inr (gone ∙ is, λ g. now g ∙ all g)

pub all_kept : (old left : NamedFacts) (kept : KeptMaps) → AreKept old left kept → ((n : List ℕ) → map_named left n ≡ None) → (n g : List ℕ) → kept_of kept n g ≡ named_gate old n g
all_kept old left kept are none n g = by (are n)
  where
    by : IsKeptOrLeft old left kept n → kept_of kept n g ≡ named_gate old n g
    by (inl (is, lacks)) = lacks g ∙ ap (λ (o : Option FactMap). gate_of o g) (sym (none n) ∙ is)
    by (inr (is, all)) = all g
