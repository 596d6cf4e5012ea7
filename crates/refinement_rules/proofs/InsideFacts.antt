-- Charts that have more inside than a refining chart may: what the walks tell is what is asked.
use Rattle.std.proofs.Common.{◌≡◌, ◌↔◌, ◌⊎◌, ◌∙◌, inl, inr, ◌<◌, IsTrue, ℕ, Bool, true, false, ◌||◌, List, [], length, map, refl, sym, ap, subst}
use Rattle.std.proofs.lemmas.Bool.{true≢false, or_left, or_right, or_cases}
use Rattle.chart_links.proofs.TableFacts.{number_low}
use Rattle.chart_links.specs.Sets.{LeadsToOther, MeetsOther}
use Rattle.msc_base.specs.Lists.{IsAmong}
use Rattle.msc_base.specs.NameTables.{with_name}
use Rattle.msc_meaning.specs.Tables.{ChartEntry, chart_at}
use Rattle.msc_meaning.specs.Views.{entry_view, table_view}
use Rattle.msc_meaning.specs.declared.body.ChartEntry as code
use Rattle.refinement_rules.specs.Judging.{EnvNumber, InsideBy, LeadsToEnv, inside_entry}
use Rattle.refinement_rules.specs.Walks.{HasBit, IsGrown, OneHolds}
use Rattle.refinement_rules.proofs.SetSteps.{grown_not, grown_same, name_grown}
use Rattle.refinement_rules.proofs.Walked.{one_made, one_of}

module _ (charts : List code.ChartEntry) (names reach : List (List ℕ)) (chart envs : List ℕ)
    (are : (n : ℕ) → HasBit envs n ↔ OneHolds (λ (c : code.ChartEntry). EnvNumber (table_view charts) names (entry_view c)) charts n) where
  envs_are : (n : ℕ) → HasBit envs n ↔ OneHolds (EnvNumber (table_view charts) names) (table_view charts) n
  envs_are n =
      let m = one_made entry_view (EnvNumber (table_view charts) names) charts n in
      (λ h. m.0 ((are n).0 h), λ h. (are n).1 (m.1 h))

  leads_is : LeadsToOther names reach chart envs ↔ LeadsToEnv (table_view charts) names reach chart
  leads_is = (
    λ l. record { from = l.from; from_is = l.from_is; number = l.one.number; other = l.one.other; there = l.one.there; env = (envs_are l.one.number).0 l.one.among },
    λ l.
        let o = one_of (EnvNumber (table_view charts) names) (table_view charts) l.number l.env in
        record { from = l.from; from_is = l.from_is; one = record { number = l.number; low = number_low names o.0.name l.number o.2.1; other = l.other; there = l.there; among = (envs_are l.number).1 l.env } },
  )

  pub inside_is : (e l b : Bool) → e ≡ inside_entry (chart_at (table_view charts) chart) → IsTrue l ↔ LeadsToOther names reach chart envs → b ≡ (e || l) → IsTrue b ↔ InsideBy (table_view charts) names reach chart
  inside_is e l b entry leads either = (
    λ h. elim (or_cases e l (sym either ∙ h)) [ inl t ↦ inl (sym entry ∙ t) | inr t ↦ inr (leads_is.0 (leads.0 t)) ],
    λ s. either ∙ elim s [ inl t ↦ or_left e l (entry ∙ t) | inr t ↦ or_right e l (leads.1 (leads_is.1 t)) ],
  )

-- ---- steps

-- the chart's name, where it is one such
pub inside_added : (old new : List (List ℕ)) (bytes name : List ℕ) (Is : List ℕ → Type 0) → Is name → bytes ≡ name → new ≡ with_name old bytes → IsGrown (IsAmong old) (λ (n : List ℕ). (name ≡ n) × Is n) (IsAmong new)
inside_added old new bytes name Is holds read made =
    grown_same (IsAmong old) (λ (n : List ℕ). n ≡ name) (λ (n : List ℕ). (name ≡ n) × Is n) (IsAmong new) (λ n. (λ e. (sym e, subst Is (sym e) holds), λ p. sym p.0)) (name_grown old new bytes name made read)

pub inside_left : (old : List (List ℕ)) (name : List ℕ) (Is : List ℕ → Type 0) → (Is name → ⊥) → IsGrown (IsAmong old) (λ (n : List ℕ). (name ≡ n) × Is n) (IsAmong old)
inside_left old name Is none = grown_not (IsAmong old) (λ (n : List ℕ). (name ≡ n) × Is n) (λ n p. none (subst Is (sym p.0) p.1))

-- the chart's number, where it has an event with the environment
pub env_added : (Old New Number : ℕ → Type 0) (b : Bool) → b ≡ true → IsGrown Old Number New → IsGrown Old (λ n. (b ≡ true) × Number n) New
env_added Old New Number b holds = grown_same Old Number (λ n. (b ≡ true) × Number n) New (λ n. (λ h. (holds, h), λ p. p.1))

pub env_left : (Old Number : ℕ → Type 0) (b : Bool) → b ≡ false → IsGrown Old (λ n. (b ≡ true) × Number n) Old
env_left Old Number b none = grown_not Old (λ n. (b ≡ true) × Number n) (λ n p. true≢false (sym p.0 ∙ none))
