-- The sets of a log have exactly what is left of the term after its first labels.
use Rattle.std.specs.Prelude.{ℕ, zero, suc, ◌+◌, ◌≡◌, ◌≤◌, ◌<◌, ◌⊎◌, List, [], ◌∷◌, ◌++◌, length, Some, slice_get, drop, take, refl}
use Rattle.std.proofs.Common.{ap, sym, ◌∙◌, subst, arith, inl, inr, add-one, get_or}
use Rattle.std.proofs.lemmas.Option.{slice_get_read, slice_get_within}
use Rattle.chart_term.specs.Terms.{Tree}
use Rattle.list_facts.proofs.Reading.{some_at, take_step}
use Rattle.log_ways.specs.LogWays.{AreLabelled}
use Rattle.log_ways.specs.Trails.{Grows, IsCutOff, IsHistory, IsHistoryMemory, IsTooHeavy, IsTrail, LeadsTo}
use Rattle.log_ways.specs.declared.history.History.{History}
use Rattle.msc_base.specs.declared.label.Label.{Label}
use Rattle.term_sets.specs.Memories.{set_at, AreNext}
use Rattle.term_tables.specs.NetValues.{NetsValue, label_number}
use Rattle.trace_judge.proofs.SetLaws.{set_start, set_step}
use Rattle.trace_judge.specs.Logs.{AreNumbers, AreResiduals}
use Rattle.trace_judge.specs.Steps.{IsNumber}

-- what stands in a list with one item more
pub snoc_get : {A : Type 0} (xs : List A) (y z : A) (i : ℕ) → slice_get (xs ++ y ∷ []) i ≡ Some z → (slice_get xs i ≡ Some z) ⊎ ((i ≡ length xs) × (y ≡ z))
snoc_get [] y z zero e = inr (refl, cc)
snoc_get [] y z (suc i) e = cc
snoc_get (x ∷ xs) y z zero e = inl e
snoc_get (x ∷ xs) y z (suc i) e = elim (snoc_get xs y z i e) [ inl h ↦ inl h | inr h ↦ inr (ap suc h.0, h.1) ]

snoc_long : {A : Type 0} (xs : List A) (y : A) → length (xs ++ y ∷ []) ≡ suc (length xs)
snoc_long [] y = refl
snoc_long (x ∷ xs) y = ap suc (snoc_long xs y)

pub same_item : {A : Type 0} (xs : List A) (i : ℕ) (x y : A) → slice_get xs i ≡ Some x → slice_get xs i ≡ Some y → x ≡ y
same_item {A = A} xs i x y e f = one x y (sym e ∙ f)
  where
    one : (u v : A) → Some u ≡ Some v → u ≡ v
    one u v q = cc

-- ---- trails

pub trail_start : (v : NetsValue) (sets : List (List Tree)) (x : Tree) (trail : List ℕ) (s : ℕ) → trail ≡ s ∷ [] → s < length sets → set_at sets s ≡ x ∷ [] → IsTrail v sets x [] trail
trail_start v sets x trail s e l h = subst (IsTrail v sets x []) (sym e) (record { long = refl; there = there; start = start; next = λ i n a b p q r. cc })
  where
    there : (i a : ℕ) → slice_get (s ∷ []) i ≡ Some a → a < length sets
    there zero a p = let q : s ≡ a = cc in subst (λ (b : ℕ). b < length sets) q l
    there (suc i) a p = cc

    start : (a : ℕ) → slice_get (s ∷ []) 0 ≡ Some a → set_at sets a ≡ x ∷ []
    start a p = let q : s ≡ a = cc in subst (λ (b : ℕ). set_at sets b ≡ x ∷ []) q h

pub trail_grows : (v : NetsValue) (sets new : List (List Tree)) (x : Tree) (ns trail : List ℕ) → Grows sets new → IsTrail v sets x ns trail → IsTrail v new x ns trail
trail_grows v sets new x ns trail g h = record {
  long = h.long;
  there = λ i s p. let l = h.there i s p in let m = g.long in omega arith;
  start = λ s p. g.same s (h.there 0 s p) ∙ h.start s p;
  next = λ i n s t p q r.
      subst (λ (k : List Tree). AreNext v (Some n) k (set_at new t)) (sym (g.same s (h.there i s q)))
      (subst (λ (k : List Tree). AreNext v (Some n) (set_at sets s) k) (sym (g.same t (h.there (suc i) t r))) (h.next i n s t p q r));
}

-- one event more
module _ (v : NetsValue) (sets : List (List Tree)) (x : Tree) (ns trail : List ℕ) (h : IsTrail v sets x ns trail) (number last to : ℕ) (last_is : slice_get trail (length ns) ≡ Some last) (leads : LeadsTo v number (set_at sets last) sets to) where
  more_there : (i s : ℕ) → slice_get (trail ++ to ∷ []) i ≡ Some s → s < length sets
  more_there i s p = elim (snoc_get trail to s i p) [
    | inl q ↦ h.there i s q
    | inr q ↦ subst (λ (t : ℕ). t < length sets) q.1 leads.there
  ]

  more_start : (s : ℕ) → slice_get (trail ++ to ∷ []) 0 ≡ Some s → set_at sets s ≡ x ∷ []
  more_start s p = elim (snoc_get trail to s 0 p) [
    | inl q ↦ h.start s q
    | inr q ↦ absurd (let l = h.long in let z = q.0 in omega arith)
  ]

  old_next : (i n s t : ℕ) → slice_get ns i ≡ Some n → slice_get (trail ++ to ∷ []) i ≡ Some s → slice_get (trail ++ to ∷ []) (suc i) ≡ Some t → AreNext v (Some n) (set_at sets s) (set_at sets t)
  old_next i n s t p q r =
      let l = slice_get_within ns i n p in
      elim (snoc_get trail to s i q) [
        | inl a ↦ elim (snoc_get trail to t (suc i) r) [
          | inl b ↦ h.next i n s t p a b
          | inr b ↦ absurd (let m = h.long in let z = b.0 in omega arith)
        ]
        | inr a ↦ absurd (let m = h.long in let z = a.0 in omega arith)
      ]

  new_next : (i n s t : ℕ) → i ≡ length ns → number ≡ n → slice_get (trail ++ to ∷ []) i ≡ Some s → slice_get (trail ++ to ∷ []) (suc i) ≡ Some t → AreNext v (Some n) (set_at sets s) (set_at sets t)
  new_next i n s t e f q r = elim (snoc_get trail to s i q) [
    | inl a ↦ elim (snoc_get trail to t (suc i) r) [
      | inl b ↦ absurd (let l = slice_get_within trail (suc i) t b in let m = h.long in omega arith)
      | inr b ↦ (
          let same : last ≡ s = same_item trail (length ns) last s last_is (subst (λ (j : ℕ). slice_get trail j ≡ Some s) e a) in
          subst (λ (m : ℕ). AreNext v (Some m) (set_at sets s) (set_at sets t)) f
          (subst (λ (k : ℕ). AreNext v (Some number) (set_at sets k) (set_at sets t)) same (subst (λ (k : ℕ). AreNext v (Some number) (set_at sets last) (set_at sets k)) b.1 leads.next))
          )
    ]
    | inr a ↦ absurd (let m = h.long in let z = a.0 in omega arith)
  ]

  pub trail_more : IsTrail v sets x (ns ++ number ∷ []) (trail ++ to ∷ [])
  trail_more = record {
    long = snoc_long trail to ∙ ap suc (h.long ∙ sym (snoc_long ns number));
    there = more_there;
    start = more_start;
    next = λ i n s t p q r. elim (snoc_get ns number n i p) [
      | inl a ↦ old_next i n s t a q r
      | inr a ↦ new_next i n s t a.0 a.1 q r
    ];
  }

pub history_more : (v : NetsValue) (budget : ℕ) (x : Tree) (ns : List ℕ) (old new : History) (from number to : ℕ) → IsHistory v budget x ns old → slice_get old.sets.items (length ns) ≡ Some from → IsHistoryMemory v budget new.memory → Grows old.memory.sets new.memory.sets
    → LeadsTo v number (set_at old.memory.sets from) new.memory.sets to → new.sets.items ≡ old.sets.items ++ to ∷ [] → IsHistory v budget x (ns ++ number ∷ []) new
history_more v budget x ns old new from number to h at serves grows leads items = record {
  memory = serves;
  trail = subst (IsTrail v new.memory.sets x (ns ++ number ∷ [])) (sym items)
      (trail_more v new.memory.sets x ns old.sets.items (trail_grows v old.memory.sets new.memory.sets x ns old.sets.items grows h.trail) number from to at
      (subst (λ (t : List Tree). LeadsTo v number t new.memory.sets to) (sym (grows.same from (h.trail.there (length ns) from at))) leads));
}

-- a prefix of the numbers
pub taken_long : (ns : List ℕ) (i : ℕ) → i ≤ length ns → length (take i ns) ≡ i
taken_long ns zero l = refl
taken_long [] (suc i) l = absurd (omega arith)
taken_long (n ∷ ns) (suc i) l = ap suc (taken_long ns i (omega (arith, l)))

pub history_step : (v : NetsValue) (budget : ℕ) (x : Tree) (ns : List ℕ) (i n : ℕ) (h : History) → slice_get ns i ≡ Some n → IsHistory v budget x (take i ns ++ n ∷ []) h → IsHistory v budget x (take (i + 1) ns) h
history_step v budget x ns i n h at k = subst (λ (l : List ℕ). IsHistory v budget x l h) (sym (take_step ns i n at)) k

-- ---- labels and their numbers

pub label_at : (table labels : List Label) (ns : List ℕ) (i n : ℕ) → AreNumbers table labels ns → slice_get ns i ≡ Some n → (a : Label) × (label_number table a ≡ Some n)
label_at table [] [] i n h e = cc
label_at table [] (m ∷ ns) i n h e = absurd h
label_at table (a ∷ l) [] i n h e = absurd h
label_at table (a ∷ l) (m ∷ ns) zero n h e = (a, h.0 ∙ e)
label_at table (a ∷ l) (m ∷ ns) (suc i) n h e = label_at table l ns i n h.1 e

pub number_at : (v : NetsValue) (ns : List ℕ) (i n : ℕ) → AreLabelled v.labels ns → slice_get ns i ≡ Some n → IsNumber v (Some n)
number_at v ns i n h e = let a = label_at v.labels h.0 ns i n h.1 e in record { label = a.0; is = sym a.1 }

-- labels of numbers with one more
pub record IsSplit (table labels : List Label) (ns : List ℕ) (n : ℕ) : Type 0 where
  pub front : List Label
  pub label : Label
  pub are : labels ≡ front ++ label ∷ []
  pub numbers : AreNumbers table front ns
  pub is : label_number table label ≡ Some n

pub labels_split : (table labels : List Label) (ns : List ℕ) (n : ℕ) → AreNumbers table labels (ns ++ n ∷ []) → IsSplit table labels ns n
labels_split table [] [] n h = absurd h
labels_split table [] (m ∷ ns) n h = absurd h
labels_split table (a ∷ []) [] n h = record { front = []; label = a; are = refl; numbers = tt; is = h.0 }
labels_split table (a ∷ (b ∷ l)) [] n h = absurd h.1
labels_split table (a ∷ l) (m ∷ ns) n h =
    let s = labels_split table l ns n h.1 in
    record { front = a ∷ s.front; label = s.label; are = ap (λ (k : List Label). a ∷ k) s.are; numbers = (h.0, s.numbers); is = s.is }

no_labels : (table labels : List Label) → AreNumbers table labels [] → labels ≡ []
no_labels table [] h = refl
no_labels table (a ∷ l) h = absurd h

-- ---- a log that is cut off

cut_numbers : (ns : List ℕ) (i n : ℕ) → slice_get ns i ≡ Some n → ns ≡ take i ns ++ n ∷ drop (suc i) ns
cut_numbers [] i n e = cc
cut_numbers (m ∷ ns) zero n e = let q : m ≡ n = cc in ap (λ (k : ℕ). k ∷ ns) q
cut_numbers (m ∷ ns) (suc i) n e = ap (λ (l : List ℕ). m ∷ l) (cut_numbers ns i n e)

pub from_is : (v : NetsValue) (budget : ℕ) (x : Tree) (ns : List ℕ) (i : ℕ) (h : History) (from : ℕ) → IsHistory v budget x (take i ns) h → i < length ns → from ≡ get_or h.sets.items i from → slice_get h.sets.items (length (take i ns)) ≡ Some from
from_is v budget x ns i h from k l e =
    let long = taken_long ns i (omega (arith, l)) in
    let all = k.trail.long in
    ap (slice_get h.sets.items) long ∙ slice_get_read h.sets.items (length h.sets.items) i from refl (omega (arith, l)) e

pub is_cut_off : (v : NetsValue) (budget : ℕ) (x : Tree) (ns : List ℕ) (i n : ℕ) (h : History) (from : ℕ) → IsHistory v budget x (take i ns) h → slice_get ns i ≡ Some n → slice_get h.sets.items (length (take i ns)) ≡ Some from → IsTooHeavy v n (set_at h.memory.sets from) budget → IsCutOff v budget x ns
is_cut_off v budget x ns i n h from k at last heavy = record {
  sets = h.memory.sets;
  front = take i ns;
  number = n;
  back = drop (suc i) ns;
  are = cut_numbers ns i n at;
  trail = h.sets.items;
  is_trail = k.trail;
  last = from;
  last_is = last;
  heavy = heavy;
}

-- ---- what is left

pub residuals_at : (v : NetsValue) (sets : List (List Tree)) (x : Tree) (ns trail : List ℕ) → IsTrail v sets x ns trail → (k s : ℕ) → slice_get trail k ≡ Some s → (labels : List Label) → AreNumbers v.labels labels (take k ns) → AreResiduals v x labels (set_at sets s)
residuals_at v sets x ns trail h zero s e labels a =
    subst (λ (l : List Label). AreResiduals v x l (set_at sets s)) (sym (no_labels v.labels labels a)) (subst (AreResiduals v x []) (sym (h.start s e)) (set_start v x))
residuals_at v sets x ns trail h (suc k) s e labels a =
    let l = slice_get_within trail (suc k) s e in
    let m = h.long in
    let (n, at) = some_at ns k (omega arith) in
    let (r, before) = some_at trail k (omega arith) in
    let step : take (suc k) ns ≡ take k ns ++ n ∷ [] = ap (λ (j : ℕ). take j ns) (sym (add-one k)) ∙ take_step ns k n at in
    let c = labels_split v.labels labels (take k ns) n (subst (AreNumbers v.labels labels) step a) in
    subst (λ (ls : List Label). AreResiduals v x ls (set_at sets s)) (sym c.are)
    (set_step v x c.front c.label (set_at sets r) (set_at sets s) (residuals_at v sets x ns trail h k r before c.front c.numbers) (h.next k n r s at before e n refl c.label c.is))

pub ruleset trailing = (number_at)
