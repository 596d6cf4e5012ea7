-- Steps of walks that add to sets.
use Rattle.std.proofs.Common.{◌≡◌, ◌↔◌, ◌⊎◌, ◌∙◌, inl, inr, OnOk, Result, Ok, Err, IsTrue, ℕ, Bool, true, false, List, [], ◌∷◌, Option, Some, None, refl, sym, ap, subst}
use Rattle.std.proofs.lemmas.Bool.{true≢false}
use Rattle.list_facts.proofs.Tables.{among_with_name}
use Rattle.msc_base.specs.Lists.{IsAmong}
use Rattle.msc_base.specs.NameTables.{with_name}
use Rattle.msc_tree.specs.declared.chart.Decl.{Decl}
use Rattle.refinement_rules.specs.Judging.{Decomposes, DeclNumber, OfRefining, OwnNumber, PartShares, has_two}
use Rattle.refinement_rules.specs.Walks.{HasBit, IsGrown, OneHolds}

-- one name more
pub name_grown : (old new : List (List ℕ)) (bytes name : List ℕ) → new ≡ with_name old bytes → bytes ≡ name → IsGrown (IsAmong old) (λ (n : List ℕ). n ≡ name) (IsAmong new)
name_grown old new bytes name made read n = (
  λ h. elim ((among_with_name old bytes n).0 (subst (λ (l : List (List ℕ)). IsAmong l n) made h)) [ inl e ↦ inr (e ∙ read) | inr o ↦ inl o ],
  λ s. subst (λ (l : List (List ℕ)). IsAmong l n) (sym made) ((among_with_name old bytes n).1 (elim s [ inl o ↦ inr o | inr e ↦ inl (e ∙ sym read) ])),
)

-- it may be said in other words
pub grown_same : {N : Type 0} (Old P Q New : N → Type 0) → ((n : N) → P n ↔ Q n) → IsGrown Old P New → IsGrown Old Q New
grown_same Old P Q New f h n = (
  λ new. elim ((h n).0 new) [ inl o ↦ inl o | inr p ↦ inr ((f n).0 p) ],
  λ s. (h n).1 (elim s [ inl o ↦ inl o | inr q ↦ inr ((f n).1 q) ]),
)

pub grown_not : {N : Type 0} (Old Q : N → Type 0) → ((n : N) → Q n → ⊥) → IsGrown Old Q Old
grown_not Old Q none n = (λ o. inl o, λ s. elim s [ inl o ↦ o | inr q ↦ absurd (none n q) ])

on_ok : {A E : Type 0} (result : Result A E) (P Q : Type 0) → (P → Q) → OnOk result P → OnOk result Q
on_ok (Ok a) P Q f h = f h
on_ok (Err e) P Q f h = h

-- ---- decomposed instances

refining_some : (o : Option (List ℕ)) (chart : List ℕ) → o ≡ Some chart → OfRefining (λ c. Unit {0}) o
refining_some None chart e = let none : None ≡ Some chart = e in absurd (cc)
refining_some (Some c) chart e = tt

no_refining : (P : List ℕ → Type 0) (o : Option (List ℕ)) → o ≡ None → OfRefining P o → ⊥
no_refining P o e h = subst (OfRefining P) e h

pub name_decomposed : {A E : Type 0} (result : Result A E) (old new : List (List ℕ)) (bytes : List ℕ) (d : Decl) (chart : List ℕ) → d.refined ≡ Some chart → bytes ≡ d.name → OnOk result (new ≡ with_name old bytes) → OnOk result (IsGrown (IsAmong old) (Decomposes d) (IsAmong new))
name_decomposed result old new bytes d chart is read = on_ok result (new ≡ with_name old bytes) (IsGrown (IsAmong old) (Decomposes d) (IsAmong new)) (λ made.
    grown_same (IsAmong old) (λ (n : List ℕ). n ≡ d.name) (Decomposes d) (IsAmong new) (λ n. (λ e. (refining_some d.refined chart is, sym e), λ p. sym p.1)) (name_grown old new bytes d.name made read))

pub none_decomposes : (old : List (List ℕ)) (d : Decl) → d.refined ≡ None → IsGrown (IsAmong old) (Decomposes d) (IsAmong old)
none_decomposes old d none = grown_not (IsAmong old) (Decomposes d) (λ n p. no_refining (λ c. Unit {0}) d.refined none p.0)

-- ---- shared

pub refined_added : (old new refined : List (List ℕ)) (bytes name : List ℕ) → IsAmong refined bytes → bytes ≡ name → new ≡ with_name old bytes → IsGrown (IsAmong old) (λ (n : List ℕ). (n ≡ name) × IsAmong refined n) (IsAmong new)
refined_added old new refined bytes name at read made =
    grown_same (IsAmong old) (λ (n : List ℕ). n ≡ name) (λ (n : List ℕ). (n ≡ name) × IsAmong refined n) (IsAmong new) (λ n. (λ e. (e, subst (IsAmong refined) (read ∙ sym e) at), λ p. p.0)) (name_grown old new bytes name made read)

pub unrefined_left : (old refined : List (List ℕ)) (bytes name : List ℕ) → (IsAmong refined bytes → ⊥) → bytes ≡ name → IsGrown (IsAmong old) (λ (n : List ℕ). (n ≡ name) × IsAmong refined n) (IsAmong old)
unrefined_left old refined bytes name none read = grown_not (IsAmong old) (λ (n : List ℕ). (n ≡ name) × IsAmong refined n) (λ n p. none (subst (IsAmong refined) (p.0 ∙ sym read) p.1))

each_is : (refined names : List (List ℕ)) (n : List ℕ) → OneHolds (λ (m n : List ℕ). (n ≡ m) × IsAmong refined n) names n ↔ (IsAmong names n × IsAmong refined n)
each_is refined [] n = (λ h. absurd h, λ p. absurd p.0)
each_is refined (m ∷ names) n = (
  λ s. elim s [ inl p ↦ (inl p.0, p.1) | inr h ↦ let q = (each_is refined names n).0 h in (inr q.0, q.1) ],
  λ p. elim p.0 [ inl e ↦ inl (e, p.1) | inr h ↦ inr ((each_is refined names n).1 (h, p.1)) ],
)

pub cover_added : (Old New : List ℕ → Type 0) (refined cover : List (List ℕ)) → has_two cover ≡ true → IsGrown Old (OneHolds (λ (m n : List ℕ). (n ≡ m) × IsAmong refined n) cover) New → IsGrown Old (PartShares (IsAmong refined) cover) New
cover_added Old New refined cover two = grown_same Old (OneHolds (λ (m n : List ℕ). (n ≡ m) × IsAmong refined n) cover) (PartShares (IsAmong refined) cover) New (λ n. (
  λ h. let p = (each_is refined cover n).0 h in (p.0, p.1, two),
  λ p. (each_is refined cover n).1 (p.0, p.1),
))

pub cover_left : (Old : List ℕ → Type 0) (refined cover : List (List ℕ)) → has_two cover ≡ false → IsGrown Old (PartShares (IsAmong refined) cover) Old
cover_left Old refined cover one = grown_not Old (PartShares (IsAmong refined) cover) (λ n p. true≢false (sym p.2 ∙ one))

-- ---- numbers

pub own_added : (Old New : ℕ → Type 0) (known refined : List (List ℕ)) (name : List ℕ) (Number : ℕ → Type 0) → (IsAmong refined name → ⊥) → IsGrown Old Number New → IsGrown Old (λ n. (IsAmong refined name → ⊥) × Number n) New
own_added Old New known refined name Number none = grown_same Old Number (λ n. (IsAmong refined name → ⊥) × Number n) New (λ n. (λ h. (none, h), λ p. p.1))

pub own_left : (Old : ℕ → Type 0) (refined : List (List ℕ)) (name : List ℕ) (Number : ℕ → Type 0) → IsAmong refined name → IsGrown Old (λ n. (IsAmong refined name → ⊥) × Number n) Old
own_left Old refined name Number at = grown_not Old (λ n. (IsAmong refined name → ⊥) × Number n) (λ n p. p.0 at)

-- ---- decomposed by a chart

pub refining_holds : {A E : Type 0} {N : Type 0} (result : Result A E) (Old New : N → Type 0) (P : List ℕ → N → Type 0) (o : Option (List ℕ)) (chart : List ℕ) → o ≡ Some chart → OnOk result (IsGrown Old (P chart) New) → OnOk result (IsGrown Old (λ n. OfRefining (λ x. P x n) o) New)
refining_holds {N = N} result Old New P o chart is h = subst (λ (x : Option (List ℕ)). OnOk result (IsGrown Old (λ n. OfRefining (λ y. P y n) x) New)) (sym is) h

pub refining_lacks : {N : Type 0} (Old : N → Type 0) (P : List ℕ → N → Type 0) (o : Option (List ℕ)) → o ≡ None → IsGrown Old (λ n. OfRefining (λ x. P x n) o) Old
refining_lacks {N = N} Old P o none = subst (λ (x : Option (List ℕ)). IsGrown Old (λ n. OfRefining (λ y. P y n) x) Old) (sym none) (grown_not Old (λ n. ⊥) (λ n h. h))
