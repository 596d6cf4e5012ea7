-- Callers that an earlier one takes: one caller more, and the list turned round.
use Rattle.std.proofs.Common.{◌≡◌, ◌<◌, ◌+◌, ℕ, Option, Result, Ok, Err, OnOk, List, [], ◌∷◌, ◌++◌, drop, get_or, length, reverse, refl, sym, ap, ap₂, ◌∙◌}
use Rattle.std.proofs.lemmas.List.{append_assoc, map-append, reverse-append}
use Rattle.chart_text.specs.Gathering.{place_if}
use Rattle.list_facts.proofs.Reading.{drop_read}
use Rattle.msc_base.specs.Places.{earliest_if}
use Rattle.msc_base.specs.declared.place.Place.{Place}
use Rattle.gate_rules.specs.declared.caller.Caller as code
use Rattle.gate_rules.specs.Callers.{caller_view, callers_view}
use Rattle.gate_rules.specs.Claims.{AreClaims, claims, first_use}
use Rattle.gate_rules.specs.declared.claims.Claims.{Claims}
use Rattle.gate_rules.specs.GateRules.{Caller, GateName, called, has_gate, is_taken, place_of, taken_from, taken_places}

-- places are noted, behind callers that were seen
pub record IsNotedFrom (seen : Claims) (places all : List Place) (others : List Caller) : Type 0 where
  pub before : List Caller
  pub are : AreClaims before seen
  pub noted : places ++ taken_from before others ≡ all

pub noted_more : (cs : List code.Caller) (i : ℕ) (c : code.Caller) (seen seen_new : Claims) (old new all : List Place) → i < length cs → c ≡ get_or cs i c
    → ((before : List Caller) → AreClaims before seen → new ≡ old ++ place_if (is_taken before (caller_view c)) (place_of (caller_view c)))
    → ((before : List Caller) → AreClaims before seen → AreClaims (caller_view c ∷ before) seen_new)
    → IsNotedFrom seen old all (callers_view (drop i cs)) → IsNotedFrom seen_new new all (callers_view (drop (i + 1) cs))
noted_more cs i c seen seen_new old new all low is made with h = record {
  before = caller_view c ∷ h.before;
  are = with h.before h.are;
  noted =
      ap (λ l. l ++ taken_from (caller_view c ∷ h.before) (callers_view (drop (i + 1) cs))) (made h.before h.are)
      ∙ append_assoc old (place_if (is_taken h.before (caller_view c)) (place_of (caller_view c))) (taken_from (caller_view c ∷ h.before) (callers_view (drop (i + 1) cs)))
      ∙ ap (λ (l : List code.Caller). old ++ taken_from h.before (callers_view l)) (sym (drop_read cs i c low is))
      ∙ h.noted;
}

pub views_turned : (cs : List code.Caller) → callers_view (reverse cs) ≡ reverse (callers_view cs)
views_turned [] = refl
views_turned (c ∷ cs) =
    ap callers_view (reverse-append (c ∷ []) cs)
    ∙ map-append caller_view (reverse cs) (c ∷ [])
    ∙ ap (λ l. l ++ caller_view c ∷ []) (views_turned cs)
    ∙ sym (reverse-append (caller_view c ∷ []) (callers_view cs))

-- those of the list, and those of the list turned round
pub both_ways : (old mid new : List Place) (cs first turned second : List code.Caller) → first ≡ cs → mid ≡ old ++ taken_from [] (callers_view first) → turned ≡ reverse cs → second ≡ turned
    → new ≡ mid ++ taken_from [] (callers_view second) → new ≡ old ++ taken_places (callers_view cs)
both_ways old mid new cs first turned second one noted turn two more_noted =
    more_noted
    ∙ ap₂ (λ (l : List Place) (ds : List code.Caller). l ++ taken_from [] (callers_view ds)) noted (two ∙ turn)
    ∙ ap₂ (λ (ds : List code.Caller) (es : List Caller). (old ++ taken_from [] (callers_view ds)) ++ taken_from [] es) one (views_turned cs)
    ∙ append_assoc old (taken_from [] (callers_view cs)) (taken_from [] (reverse (callers_view cs)))

-- one caller more is seen
seen_more : (c : Caller) (before : List Caller) (old new : Claims)
    → ((x : GateName) → first_use new.claimed x ≡ earliest_if (claims c x) (first_use old.claimed x) (place_of c))
    → ((x : GateName) → first_use new.called x ≡ earliest_if (has_gate (called c) x) (first_use old.called x) (place_of c))
    → AreClaims before old → AreClaims (c ∷ before) new
seen_more c before old new claim call are = record {
  claimed = λ x. claim x ∙ ap (λ (o : Option Place). earliest_if (claims c x) o (place_of c)) (are.claimed x);
  called = λ x. call x ∙ ap (λ (o : Option Place). earliest_if (has_gate (called c) x) o (place_of c)) (are.called x);
}

pub seen_on : {T E : Type 0} (r : Result T E) (c : Caller) (old new : Claims)
    → OnOk r ((x : GateName) → first_use new.claimed x ≡ earliest_if (claims c x) (first_use old.claimed x) (place_of c))
    → OnOk r ((x : GateName) → first_use new.called x ≡ earliest_if (has_gate (called c) x) (first_use old.called x) (place_of c))
    → OnOk r ((before : List Caller) → AreClaims before old → AreClaims (c ∷ before) new)
seen_on (Ok t) c old new claim call = λ before are. seen_more c before old new claim call are
seen_on (Err e) c old new claim call = tt
