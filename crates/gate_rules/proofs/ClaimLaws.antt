-- A caller is taken where a gate that it uses is used and not only behind it, by the earliest places of uses.
use Rattle.std.proofs.Common.{◌≡◌, Bool, true, false, not, ◌||◌, ◌&&◌, List, [], ◌∷◌, Option, None, Some, refl, sym, ap, ap₂, ◌∙◌}
use Rattle.std.specs.List.{list_any}
use Rattle.list_facts.proofs.Bools.{or_false}
use Rattle.msc_base.specs.Places.{is_before}
use Rattle.msc_base.specs.declared.place.Place.{Place}
use Rattle.msc_tree.specs.declared.reference.JoinEnd.{JoinEnd}
use Rattle.msc_tree.specs.declared.reference.JoinEnd.TheVariants as join_end
use Rattle.gate_rules.specs.Callers.{far_gate, own_gate_of}
use Rattle.gate_rules.specs.Claims.{AreClaims, claims, first_of, first_use, is_used_by, reaches}
use Rattle.gate_rules.specs.declared.claims.Claims.{Claims}
use Rattle.gate_rules.specs.GateRules.{Caller, by_event, by_join, GateName, called, handed, has_gate, is_taken, place_of, own_gate, gates_joined, gates_handed}
use Rattle.gate_rules.proofs.BeforeFacts.{earliest_reaches}

-- the earliest of callers reaches a place where one of them does
pub first_reaches : (test : Caller → Bool) (cs : List Caller) (p : Place) → reaches (first_of test cs) p ≡ list_any (λ d. not (is_before p (place_of d)) && test d) cs
first_reaches test [] p = refl
first_reaches test (c ∷ cs) p = earliest_reaches (first_of test cs) (place_of c) p (test c) ∙ ap (λ b. (not (is_before p (place_of c)) && test c) || b) (first_reaches test cs p)

-- ---- one of several that does one of two things

module _ (b : Caller → Bool) where
  and_or : (x y z : Bool) → (x && (y || z)) ≡ ((x && y) || (x && z))
  and_or true y z = refl
  and_or false y z = refl

  swap : (w x y z : Bool) → ((w || x) || (y || z)) ≡ ((w || y) || (x || z))
  swap true x y z = refl
  swap false true true z = refl
  swap false true false z = refl
  swap false false y z = refl

  any_or : (F G : Caller → Bool) (cs : List Caller) → list_any (λ d. b d && (F d || G d)) cs ≡ (list_any (λ d. b d && F d) cs || list_any (λ d. b d && G d) cs)
  any_or F G [] = refl
  any_or F G (c ∷ cs) =
      ap₂ (λ x y. x || y) (and_or (b c) (F c) (G c)) (any_or F G cs)
      ∙ swap (b c && F c) (b c && G c) (list_any (λ d. b d && F d) cs) (list_any (λ d. b d && G d) cs)

  any_none : (cs : List Caller) → list_any (λ d. b d && false) cs ≡ false
  any_none [] = refl
  any_none (c ∷ cs) = by (b c) (any_none cs)
    where
      by : (x : Bool) → list_any (λ d. b d && false) cs ≡ false → ((x && false) || list_any (λ d. b d && false) cs) ≡ false
      by true e = e
      by false e = e

  any_any : (P : Caller → GateName → Bool) (cs : List Caller) (xs : List GateName) → list_any (λ d. b d && list_any (P d) xs) cs ≡ list_any (λ x. list_any (λ d. b d && P d x) cs) xs
  any_any P cs [] = any_none cs
  any_any P cs (x ∷ xs) = any_or (λ d. P d x) (λ d. list_any (P d) xs) cs ∙ ap (λ y. list_any (λ d. b d && P d x) cs || y) (any_any P cs xs)

any_same : (p q : GateName → Bool) → ((x : GateName) → p x ≡ q x) → (xs : List GateName) → list_any p xs ≡ list_any q xs
any_same p q same [] = refl
any_same p q same (x ∷ xs) = ap₂ (λ a b. a || b) (same x) (any_same p q same xs)

-- ---- the gates of a caller, by those that it names

abbrev pub called_by : Option GateName → Option GateName → List GateName
called_by own None = []
called_by None (Some y) = y ∷ []
called_by (Some x) (Some y) = x ∷ y ∷ []

abbrev pub handed_by : Option GateName → Option GateName → List GateName
handed_by None far = []
handed_by (Some x) None = x ∷ []
handed_by (Some x) (Some y) = []

pub called_is : (c : Caller) → called c ≡ called_by (own_gate_of c) (far_gate c)
called_is (by_event n name gate) = refl
called_is (by_join part j) = by part.name j.to
  where
    by : (own : Option _) (to : JoinEnd) → gates_joined (own_gate own j.gate) to ≡ called_by (own_gate_of (by_join (record part { name = own }) (record j { to = to }))) (far_gate (by_join (record part { name = own }) (record j { to = to })))
    by None (join_end.Env to) = refl
    by None (join_end.Reference name to) = refl
    by (Some own) (join_end.Env to) = refl
    by (Some own) (join_end.Reference name to) = refl

pub handed_is : (c : Caller) → handed c ≡ handed_by (own_gate_of c) (far_gate c)
handed_is (by_event n name gate) = refl
handed_is (by_join part j) = by part.name j.to
  where
    by : (own : Option _) (to : JoinEnd) → gates_handed (own_gate own j.gate) to ≡ handed_by (own_gate_of (by_join (record part { name = own }) (record j { to = to }))) (far_gate (by_join (record part { name = own }) (record j { to = to })))
    by None (join_end.Env to) = refl
    by None (join_end.Reference name to) = refl
    by (Some own) (join_end.Env to) = refl
    by (Some own) (join_end.Reference name to) = refl

-- ---- whether a caller is taken

module _ (others : List Caller) (made : Claims) (are : AreClaims others made) (c : Caller) where
  taken_is : is_taken others c ≡ (list_any (λ x. reaches (first_use made.claimed x) (place_of c)) (called c) || list_any (λ x. reaches (first_use made.called x) (place_of c)) (handed c))
  taken_is =
      any_or (λ d. not (is_before (place_of c) (place_of d))) (λ d. list_any (claims d) (called c)) (λ d. list_any (has_gate (called d)) (handed c)) others
      ∙ ap₂ (λ a b. a || b)
      (any_any (λ d. not (is_before (place_of c) (place_of d))) claims others (called c) ∙ any_same (λ x. list_any (λ d. not (is_before (place_of c) (place_of d)) && claims d x) others) (λ x. reaches (first_use made.claimed x) (place_of c))
      (λ x. sym (ap (λ (o : Option Place). reaches o (place_of c)) (are.claimed x) ∙ first_reaches (λ d. claims d x) others (place_of c))) (called c))
      (any_any (λ d. not (is_before (place_of c) (place_of d))) (λ d x. has_gate (called d) x) others (handed c) ∙ any_same (λ x. list_any (λ d. not (is_before (place_of c) (place_of d)) && has_gate (called d) x) others) (λ x. reaches (first_use made.called x) (place_of c))
      (λ x. sym (ap (λ (o : Option Place). reaches o (place_of c)) (are.called x) ∙ first_reaches (λ d. has_gate (called d) x) others (place_of c))) (handed c))

  -- by the gates that it names
  module _ (own far : Option GateName) (p : Place) (owns : own ≡ own_gate_of c) (fars : far ≡ far_gate c) (at : p ≡ place_of c) where
    taken_by : is_taken others c ≡ (list_any (λ x. reaches (first_use made.claimed x) p) (called_by own far) || list_any (λ x. reaches (first_use made.called x) p) (handed_by own far))
    taken_by =
        taken_is
        ∙ ap₂ (λ xs ys. list_any (λ x. reaches (first_use made.claimed x) (place_of c)) xs || list_any (λ x. reaches (first_use made.called x) (place_of c)) ys) (called_is c ∙ ap₂ called_by (sym owns) (sym fars)) (handed_is c ∙ ap₂ handed_by (sym owns) (sym fars))
        ∙ ap (λ (q : Place). list_any (λ x. reaches (first_use made.claimed x) q) (called_by own far) || list_any (λ x. reaches (first_use made.called x) q) (handed_by own far)) (sym at)

    -- it hands its own gate on
    pub taken_handed : (b : Bool) → far ≡ None → b ≡ is_used_by (first_use made.called) own p → b ≡ is_taken others c
    taken_handed b none is = is ∙ by own ∙ sym (taken_by ∙ ap (λ (o : Option GateName). list_any (λ x. reaches (first_use made.claimed x) p) (called_by own o) || list_any (λ x. reaches (first_use made.called x) p) (handed_by own o)) none)
      where
        by : (o : Option GateName) → is_used_by (first_use made.called) o p ≡ (list_any (λ x. reaches (first_use made.claimed x) p) (called_by o None) || list_any (λ x. reaches (first_use made.called x) p) (handed_by o None))
        by None = refl
        by (Some x) = sym (or_false (reaches (first_use made.called x) p))

    -- it calls both
    pub taken_called : (y : GateName) (a b : Bool) → far ≡ Some y → a ≡ is_used_by (first_use made.claimed) own p → b ≡ is_used_by (first_use made.claimed) far p → (a || b) ≡ is_taken others c
    taken_called y a b some is also =
        ap₂ (λ m n. m || n) is (also ∙ ap (λ (o : Option GateName). is_used_by (first_use made.claimed) o p) some)
        ∙ by own
        ∙ sym (taken_by ∙ ap (λ (o : Option GateName). list_any (λ x. reaches (first_use made.claimed x) p) (called_by own o) || list_any (λ x. reaches (first_use made.called x) p) (handed_by own o)) some)
      where
        by : (o : Option GateName) → (is_used_by (first_use made.claimed) o p || reaches (first_use made.claimed y) p) ≡ (list_any (λ x. reaches (first_use made.claimed x) p) (called_by o (Some y)) || list_any (λ x. reaches (first_use made.called x) p) (handed_by o (Some y)))
        by None = sym (or_false (reaches (first_use made.claimed y) p || false) ∙ or_false (reaches (first_use made.claimed y) p))
        by (Some x) =
            sym (or_false (reaches (first_use made.claimed x) p || (reaches (first_use made.claimed y) p || false)) ∙ ap (λ b. reaches (first_use made.claimed x) p || b) (or_false (reaches (first_use made.claimed y) p)))
