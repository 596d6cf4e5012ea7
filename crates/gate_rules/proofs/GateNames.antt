-- The test of two gates says whether they are the same.
use Rattle.std.proofs.Common.{◌≡◌, ℕ, List, Bool, true, false, ◌&&◌, refl, sym, ap, subst, ◌∙◌}
use Rattle.std.specs.Str.{bytes_eq}
use Rattle.std.proofs.lemmas.Slice.Eq.{bytes_eq-Decides}
use Rattle.gate_rules.specs.GateRules.{GateName, is_same_gate}

both_first : (a b : Bool) → (a && b) ≡ true → a ≡ true
both_first true b h = refl
both_first false b h = absurd cc

both_second : (a b : Bool) → (a && b) ≡ true → b ≡ true
both_second true b h = h
both_second false b h = absurd cc

bytes_self : (n : List ℕ) → bytes_eq n n ≡ true
bytes_self n = (bytes_eq-Decides n n).1 refl

pub same_gate : (a b : GateName) → is_same_gate a b ≡ true → a ≡ b
same_gate a b h =
    let n : a.name ≡ b.name = (bytes_eq-Decides a.name b.name).0 (both_first (bytes_eq a.name b.name) (bytes_eq a.gate b.gate) h) in
    let g : a.gate ≡ b.gate = (bytes_eq-Decides a.gate b.gate).0 (both_second (bytes_eq a.name b.name) (bytes_eq a.gate b.gate) h) in
    ap (λ (x : List ℕ). record { name = x; gate = a.gate }) n ∙ ap (λ (x : List ℕ). record { name = b.name; gate = x }) g

pub gate_itself : (a : GateName) → is_same_gate a a ≡ true
gate_itself a = rw (bytes_self a.name) (bytes_self a.gate)

-- each way round
pub gate_turned : (a b : GateName) → is_same_gate a b ≡ is_same_gate b a
gate_turned a b = by (is_same_gate a b) (is_same_gate b a) refl refl
  where
    by : (p q : Bool) → is_same_gate a b ≡ p → is_same_gate b a ≡ q → p ≡ q
    by true true e f = refl
    by false false e f = refl
    by true false e f = let same : b ≡ a = sym (same_gate a b e) in sym (subst (λ (x : GateName). is_same_gate b x ≡ true) same (gate_itself b)) ∙ f
    by false true e f = let same : a ≡ b = sym (same_gate b a f) in sym e ∙ subst (λ (x : GateName). is_same_gate a x ≡ true) same (gate_itself a)
