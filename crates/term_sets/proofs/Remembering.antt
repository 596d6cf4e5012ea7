-- Sets by their numbers, and moves by their indexes.
use Rattle.std.specs.Prelude.{ℕ, zero, suc, ◌+◌, ◌≡◌, ◌≤◌, ◌<◌, List, [], ◌∷◌, ◌++◌, length, slice_index_or, refl}
use Rattle.std.proofs.Common.{ap, sym, ◌∙◌, subst, arith, inl, inr}
use Rattle.msc_base.specs.Lists.{IsAmong}
use Rattle.chart_term.specs.Terms.{Tree}
use Rattle.term_laws.specs.Listing.{set_weight}
use Rattle.term_sets.specs.Memories.{MemoryValue, set_at, held_weight, Gains, IsBounded}
use Rattle.term_sets.specs.declared.bounds.Bounds.{Bounds}
use Rattle.term_sets.specs.declared.memory.Move.{Move}

-- reading

pub set_read : (ks : List (List Tree)) (i : ℕ) (k : List Tree) → i < length ks → k ≡ slice_index_or ks i k → k ≡ set_at ks i
set_read [] i k l e = absurd (omega arith)
set_read (j ∷ ks) zero k l e = e
set_read (j ∷ ks) (suc i) k l e = set_read ks i k (omega arith) e

pub move_read : (ms : List Move) (i : ℕ) (m : Move) → i < length ms → m ≡ slice_index_or ms i m → IsAmong ms m
move_read [] i m l e = absurd (omega arith)
move_read (n ∷ ms) zero m l e = inl e
move_read (n ∷ ms) (suc i) m l e = inr (move_read ms i m (omega arith) e)

pub ruleset reading = (set_read, move_read)

-- one more set

pub set_before : (ks : List (List Tree)) (k : List Tree) (s : ℕ) → s < length ks → set_at (ks ++ k ∷ []) s ≡ set_at ks s
set_before [] k s l = absurd (omega arith)
set_before (j ∷ ks) k zero l = refl
set_before (j ∷ ks) k (suc s) l = set_before ks k s (omega arith)

pub set_last : (ks : List (List Tree)) (k : List Tree) → set_at (ks ++ k ∷ []) (length ks) ≡ k
set_last [] k = refl
set_last (j ∷ ks) k = set_last ks k

pub more_long : {A : Type 0} (ks : List A) (k : A) → length (ks ++ k ∷ []) ≡ suc (length ks)
more_long [] k = refl
more_long (j ∷ ks) k = ap suc (more_long ks k)

pub held_more : (ks : List (List Tree)) (k : List Tree) → held_weight (ks ++ k ∷ []) ≡ held_weight ks + set_weight k
held_more [] k = omega arith
held_more (j ∷ ks) k = let h = held_more ks k in omega arith

-- what holds of the empty set, of each set and of one more
pub all_sets : (P : List Tree → Type 0) (ks : List (List Tree)) (k : List Tree) → P [] → ((s : ℕ) → P (set_at ks s)) → P k → (s : ℕ) → P (set_at (ks ++ k ∷ []) s)
all_sets P [] k n h p zero = p
all_sets P [] k n h p (suc s) = n
all_sets P (j ∷ ks) k n h p zero = h zero
all_sets P (j ∷ ks) k n h p (suc s) = all_sets P ks k n (λ t. h (suc t)) p s

pub light_more : (most : ℕ) (ks new : List (List Tree)) (k : List Tree) → ((s : ℕ) → set_weight (set_at ks s) ≤ most) → set_weight k ≤ most → new ≡ ks ++ k ∷ [] → (s : ℕ) → set_weight (set_at new s) ≤ most
light_more most ks new k h l e s = subst (λ (x : List (List Tree)). set_weight (set_at x s) ≤ most) (sym e) (all_sets (λ x. set_weight x ≤ most) ks k (omega arith) h l s)

-- one more light set keeps the bounds
pub bounded_more : (b : Bounds) (held w : ℕ) (m : MemoryValue) (ks new : List (List Tree)) (k : List Tree) (ms : List Move) → ks ≡ m.sets → b ≡ m.bounds → IsBounded b held ks ms
    → set_weight k ≤ m.bounds.light → held_weight m.sets + set_weight k ≤ m.bounds.held → length m.sets < m.bounds.rows → w ≡ set_weight k → new ≡ ks ++ k ∷ [] → IsBounded b (held + w) new ms
bounded_more b held w m ks new k ms same bs is l h f e n =
    let heavy : held_weight ks ≡ held_weight m.sets = ap held_weight same in
    let long : length ks ≡ length m.sets = ap length same in
    let weighs : held_weight new ≡ held_weight ks + set_weight k = ap held_weight n ∙ held_more ks k in
    let longer : length new ≡ suc (length ks) = ap length n ∙ more_long ks k in
    let was = is.held_is in
    let most : held_weight m.sets + set_weight k ≤ b.held = subst (λ (c : Bounds). held_weight m.sets + set_weight k ≤ c.held) (sym bs) h in
    let few : length m.sets < b.rows = subst (λ (c : Bounds). length m.sets < c.rows) (sym bs) f in
    record {
      light = light_more b.light ks new k is.light (subst (λ (c : Bounds). set_weight k ≤ c.light) (sym bs) l) n;
      held_is = omega arith;
      most_held = omega arith;
      few_sets = omega arith;
      few_moves = is.few_moves;
    }

pub kept_last : (ks new : List (List Tree)) (k : List Tree) (n : ℕ) → new ≡ ks ++ k ∷ [] → n ≡ length ks → (n < length new) × (set_at new n ≡ k)
kept_last ks new k n e q = (let l = more_long ks k in let m : length new ≡ length (ks ++ k ∷ []) = ap length e in omega arith, ap (set_at new) q ∙ ap (λ (x : List (List Tree)). set_at x (length ks)) e ∙ set_last ks k)

pub gains_none : {A : Type 0} (old new : List A) (k : A) → new ≡ old → Gains old k new
gains_none old new k e = inl e

pub gains_one : {A : Type 0} (old new : List A) (k : A) → new ≡ old ++ k ∷ [] → Gains old k new
gains_one old new k e = inr e

pub ruleset adding = (held_more, light_more, kept_last, gains_none, gains_one)
