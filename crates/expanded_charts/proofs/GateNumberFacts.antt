-- The numbers that are shown of gates, found by the names of the gates.
use Rattle.std.specs.Prelude.{ℕ, cond, Bool, true, false, List, [], ◌∷◌, ◌++◌, Option, Some, None}
use Rattle.std.proofs.Common.{◌≡◌, refl, sym, ◌∙◌, ap, append-nil}
use Rattle.std.proofs.lemmas.Bool.{and_parts}
use Rattle.std.proofs.lemmas.Slice.Eq.{bytes_eq-Decides}
use Rattle.std.specs.Str.{bytes_eq}
use Rattle.msc_unfolding.specs.Unfoldings.{Tag, On, is_same_tag}
use Rattle.expanded_charts.specs.Expanding.{Shown, numbers_with}
use Rattle.expanded_charts.specs.GateNumbers.{gate_list, is_key}
use Rattle.expanded_charts.specs.TieNumbers.{number_if}
use Rattle.expanded_charts.specs.declared.gate_numbers.GateKey.{GateKey}
use Rattle.expanded_charts.proofs.TieFacts.{number_with}

if_behind : (b : Bool) (m : ℕ) (ms ns : List ℕ) → number_if b m (ms ++ ns) ≡ number_if b m ms ++ ns
if_behind true m ms ns = refl
if_behind false m ms ns = refl

-- one more that is shown
numbers_last : (a : Tag) (sh : Shown) (p : ℕ × Tag) → numbers_with a (sh ++ p ∷ []) ≡ numbers_with a sh ++ number_if (is_same_tag p.1 a) p.0 []
numbers_last a [] p = number_with a p []
numbers_last a (q ∷ sh) p =
    number_with a q (sh ++ p ∷ []) ∙ (ap (number_if (is_same_tag q.1 a) q.0) (numbers_last a sh p)
    ∙ (if_behind (is_same_tag q.1 a) q.0 (numbers_with a sh) (number_if (is_same_tag p.1 a) p.0 []) ∙ ap (λ l. l ++ number_if (is_same_tag p.1 a) p.0 []) (sym (number_with a q sh))))

module _ (key : GateKey) (n : ℕ) (old mid new : GateKey → Option (List ℕ)) (removed : Option (List ℕ)) where
  pub number_added : removed ≡ old key → ((k : GateKey) → mid k ≡ cond (is_key key k) None (old k)) → ((k : GateKey) → new k ≡ cond (is_key key k) (Some (gate_list removed ++ n ∷ [])) (mid k))
      → (shown : Shown) → ((k : GateKey) → gate_list (old k) ≡ numbers_with (On k.name.now k.gate.now) shown)
      → (k : GateKey) → gate_list (new k) ≡ numbers_with (On k.name.now k.gate.now) (shown ++ (n, On key.name.now key.gate.now) ∷ [])
  number_added was taken put shown h k = by (is_key key k) refl ∙ sym (numbers_last (On k.name.now k.gate.now) shown (n, On key.name.now key.gate.now))
    where
      by : (b : Bool) → is_key key k ≡ b → gate_list (new k) ≡ numbers_with (On k.name.now k.gate.now) shown ++ number_if (is_key key k) n []
      by true e =
          let (named, gated) = and_parts (bytes_eq key.name.now k.name.now) (bytes_eq key.gate.now k.gate.now) e in
          let name : key.name.now ≡ k.name.now = (bytes_eq-Decides key.name.now k.name.now).0 named in
          let gate : key.gate.now ≡ k.gate.now = (bytes_eq-Decides key.gate.now k.gate.now).0 gated in
          ap gate_list (put k ∙ ap (λ c. cond c (Some (gate_list removed ++ n ∷ [])) (mid k)) e)
          ∙ (ap (λ l. l ++ n ∷ []) (ap gate_list was ∙ (h key ∙ (ap (λ y. numbers_with (On y key.gate.now) shown) name ∙ ap (λ g. numbers_with (On k.name.now g) shown) gate)))
          ∙ ap (λ c. numbers_with (On k.name.now k.gate.now) shown ++ number_if c n []) (sym e))
      by false e =
          ap gate_list (put k ∙ (ap (λ c. cond c (Some (gate_list removed ++ n ∷ [])) (mid k)) e ∙ (taken k ∙ ap (λ c. cond c None (old k)) e)))
          ∙ (h k ∙ (sym (append-nil (numbers_with (On k.name.now k.gate.now) shown)) ∙ ap (λ c. numbers_with (On k.name.now k.gate.now) shown ++ number_if c n []) (sym e)))
