-- Kept facts gone through from the last gate to the first.
use Rattle.std.specs.Prelude.{◌≡◌, ◌+◌, ℕ, zero, suc, Bool, true, false, List, [], ◌∷◌, Option, Some, if◌then◌else◌, is_some, option_map, slice_get, drop, ◌||◌}
use Rattle.std.specs.Map.{lookup}
use Rattle.std.specs.Str.{bytes_eq}
use Rattle.std.proofs.Common.{◌∙◌, refl, ap, subst, arith, Vec, Global}
use Rattle.gate_tables.specs.FactViews.{facts_view}
use Rattle.gate_tables.specs.GateFacts.{Facts}
use Rattle.gate_tables.specs.KeptMaps.{GateWith, gate_in, kept_gate}
use Rattle.gate_tables.specs.declared.kept.KeptMap.{KeptMap}
use Rattle.gate_tables.specs.declared.facts.GateFacts.{GateFacts}
use Rattle.gate_ends.proofs.Walks.{mapped_if}
use Rattle.gate_tables.proofs.MapSteps.{turned}

abbrev Key : Type 0
Key = Vec ℕ Global

abbrev entry_view : Key × GateFacts → GateWith
entry_view e = record { gate = e.0.items; facts = facts_view e.1 }

found_first : (e : Key × GateFacts) (o : Option GateFacts) (g gate : List ℕ) (facts : Facts) → entry_view e ≡ record { gate = gate; facts = facts }
    → option_map facts_view (if bytes_eq g e.0.items then Some e.1 else o) ≡ (if bytes_eq gate g then Some facts else option_map facts_view o)
found_first e o g gate facts is =
    mapped_if facts_view (bytes_eq g e.0.items) (Some e.1) o
    ∙ ap (λ (b : Bool). if b then Some (facts_view e.1) else option_map facts_view o) (turned g e.0.items)
    ∙ ap (λ (w : GateWith). if bytes_eq w.gate g then Some w.facts else option_map facts_view o) is

pub kept_step : (es : List (Key × GateFacts)) (i j : ℕ) (g gate : List ℕ) (facts : Facts) → j ≡ i + 1 → option_map entry_view (slice_get es i) ≡ Some (record { gate = gate; facts = facts })
    → option_map facts_view (lookup (λ (k : Key). bytes_eq g k.items) (drop i es)) ≡ (if bytes_eq gate g then Some facts else option_map facts_view (lookup (λ (k : Key). bytes_eq g k.items) (drop j es)))
kept_step [] i j g gate facts more is = absurd cc
kept_step (e ∷ es) zero j g gate facts more is =
    let next : suc zero ≡ j = omega (arith, more) in
    let held : entry_view e ≡ record { gate = gate; facts = facts } = cc in
    subst (λ (n : ℕ). option_map facts_view (lookup (λ (k : Key). bytes_eq g k.items) (e ∷ es)) ≡ (if bytes_eq gate g then Some facts else option_map facts_view (lookup (λ (k : Key). bytes_eq g k.items) (drop n (e ∷ es))))) next
    (found_first e (lookup (λ (k : Key). bytes_eq g k.items) es) g gate facts held)
kept_step (e ∷ es) (suc i) zero g gate facts more is = absurd (omega arith)
kept_step (e ∷ es) (suc i) (suc j) g gate facts more is = kept_step es i j g gate facts (omega (arith, more)) is

pub gate_if : (b : Bool) (m : KeptMap) (o : Option KeptMap) (g : List ℕ) → gate_in (if b then Some m else o) g ≡ (if b then kept_gate m g else gate_in o g)
gate_if true m o g = refl
gate_if false m o g = refl

pub some_if : {A : Type 0} (b : Bool) (x : A) (o : Option A) → is_some (if b then Some x else o) ≡ (b || is_some o)
some_if true x o = refl
some_if false x o = refl
