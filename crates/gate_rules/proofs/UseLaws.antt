-- What one use more does to the earliest places of gates.
use Rattle.std.proofs.Common.{◌≡◌, List, [], ◌∷◌, Bool, true, false, Option, Some, if◌then◌else◌, refl, sym, ap, ◌∙◌}
use Rattle.std.specs.Map.{lookup}
use Rattle.indexmap.specs.IndexMap.{insert_entry}
use Rattle.msc_base.specs.Places.{earliest, earliest_if}
use Rattle.msc_base.specs.declared.place.Place.{Place}
use Rattle.gate_rules.specs.Callers.{key_view}
use Rattle.gate_rules.specs.Claims.{with_use}
use Rattle.gate_rules.specs.declared.caller.GateKey.{GateKey}
use Rattle.gate_rules.specs.contracts.caller.GateKeyPartialEq.TheImpl.{eq-value}
use Rattle.gate_rules.specs.GateRules.{GateName, is_same_gate}
use Rattle.gate_rules.proofs.GateNames.{same_gate, gate_turned}

abbrev pub entry_at : GateName → List (GateKey × Place) → Option Place
entry_at x es = lookup (λ key. is_same_gate x (key_view key)) es

module _ (key : GateKey) (p : Place) (x : GateName) where
  pub inserted : (es : List (GateKey × Place)) → entry_at x (insert_entry eq-value.it es key p) ≡ (if is_same_gate x (key_view key) then Some p else entry_at x es)
  inserted [] = refl
  inserted (e ∷ es) = by (inserted es) (eq-value.it key e.0) refl (is_same_gate x (key_view e.0)) refl
    where
      by : entry_at x (insert_entry eq-value.it es key p) ≡ (if is_same_gate x (key_view key) then Some p else entry_at x es)
          → (b : Bool) → is_same_gate (key_view key) (key_view e.0) ≡ b → (d : Bool) → is_same_gate x (key_view e.0) ≡ d
          → entry_at x (if b then (e.0, p) ∷ es else e ∷ insert_entry eq-value.it es key p) ≡ (if is_same_gate x (key_view key) then Some p else (if d then Some e.1 else entry_at x es))
      by rest true same d f = chosen (is_same_gate x (key_view e.0)) (is_same_gate x (key_view key)) d f (ap (is_same_gate x) (same_gate (key_view key) (key_view e.0) same) ∙ f)
        where
          chosen : (a b c : Bool) → a ≡ c → b ≡ c → (if a then Some p else entry_at x es) ≡ (if b then Some p else (if c then Some e.1 else entry_at x es))
          chosen true true true g h = refl
          chosen false false false g h = refl
          chosen true true false g h = cc
          chosen true false true g h = cc
          chosen true false false g h = cc
          chosen false true true g h = cc
          chosen false true false g h = cc
          chosen false false true g h = cc
      by rest false other true f = other_first (is_same_gate x (key_view e.0)) (is_same_gate x (key_view key)) f apart
        where
          apart : is_same_gate x (key_view key) ≡ false
          apart = ap (λ (y : GateName). is_same_gate y (key_view key)) (same_gate x (key_view e.0) f) ∙ (gate_turned (key_view e.0) (key_view key) ∙ other)

          other_first : (a b : Bool) → a ≡ true → b ≡ false → (if a then Some e.1 else entry_at x (insert_entry eq-value.it es key p)) ≡ (if b then Some p else Some e.1)
          other_first true false g h = refl
          other_first true true g h = cc
          other_first false b g h = cc
      by rest false other false f = later (is_same_gate x (key_view e.0)) f
        where
          later : (a : Bool) → a ≡ false → (if a then Some e.1 else entry_at x (insert_entry eq-value.it es key p)) ≡ (if is_same_gate x (key_view key) then Some p else entry_at x es)
          later false g = rest
          later true g = cc

-- the earliest place with one use more
pub used_more : (key : GateKey) (place p : Place) (x : GateName) (es : List (GateKey × Place)) → Some p ≡ earliest (entry_at (key_view key) es) place
    → entry_at x (insert_entry eq-value.it es key p) ≡ with_use (key_view key) place (λ (y : GateName). entry_at y es) x
used_more key place p x es is = inserted key p x es ∙ by (is_same_gate x (key_view key)) refl
  where
    by : (b : Bool) → is_same_gate x (key_view key) ≡ b → (if b then Some p else entry_at x es) ≡ earliest_if b (entry_at x es) place
    by true e = let one : key_view key ≡ x = sym (same_gate x (key_view key) e) in is ∙ ap (λ (y : GateName). earliest (entry_at y es) place) one
    by false e = refl
