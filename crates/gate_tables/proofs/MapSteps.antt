-- Maps of facts that change at one gate, and that are moved into one another gate by gate.
use Rattle.std.specs.Prelude.{◌≡◌, ◌⊎◌, ℕ, Bool, true, false, List, [], ◌∷◌, ◌++◌, Option, None, Some, if◌then◌else◌}
use Rattle.std.specs.Map.{lookup}
use Rattle.std.specs.Str.{bytes_eq}
use Rattle.std.proofs.Common.{◌∙◌, refl, sym, ap}
use Rattle.std.proofs.lemmas.Slice.Eq.{bytes_eq-Decides}
use Rattle.indexmap.specs.IndexMap.{insert_entry}
use Rattle.list_facts.proofs.Bools.{tests_agree}
use Rattle.gate_tables.specs.GateFacts.{Facts}
use Rattle.gate_tables.specs.Together.{together}

-- what stands last is found where it isn't found before
pub lookup_last : {K V : Type 0} (test : K → Bool) (es : List (K × V)) (k : K) (v : V) → lookup test es ≡ None → test k ≡ true → lookup test (es ++ (k, v) ∷ []) ≡ Some v
lookup_last test [] k v h e = rw e refl
lookup_last test (p ∷ es) k v h e = by (test p.0) h (λ i. lookup_last test es k v i e)
  where
    by : (b : Bool) → (if b then Some p.1 else lookup test es) ≡ None → (lookup test es ≡ None → lookup test (es ++ (k, v) ∷ []) ≡ Some v) → (if b then Some p.1 else lookup test (es ++ (k, v) ∷ [])) ≡ Some v
    by true i more = absurd cc
    by false i more = more i

pub itself : (g : List ℕ) → bytes_eq g g ≡ true
itself g = (bytes_eq-Decides g g).1 refl

-- ---- gates moved from one map into another, one by one

-- at each gate: it was not moved yet, or it was, by what `put` says of both
module _ (put : List ℕ → Option Facts → Option Facts → Option Facts) where
  abbrev pub AreMoved : (into_old from_old into from : List ℕ → Option Facts) → Type 0
  AreMoved into_old from_old into from = (g : List ℕ) → (from g ≡ from_old g) × (into g ≡ into_old g) ⊎ (from g ≡ None) × (into g ≡ put g (into_old g) (from_old g))

-- put in front of what a gate has, or behind it, or in its place
abbrev pub in_front : Bool → List ℕ → Option Facts → Option Facts → Option Facts
in_front both g x y = together both y x

abbrev pub behind : Bool → List ℕ → Option Facts → Option Facts → Option Facts
behind both g x y = together both x y

abbrev pub in_place : (Facts → Facts) → List ℕ → Option Facts → Option Facts → Option Facts
in_place f g x None = x
in_place f g x (Some y) = Some (f y)

-- in the place of none, where the test says no of the gate
abbrev pub unless_so : (List ℕ → Bool) → List ℕ → Option Facts → Option Facts → Option Facts
unless_so t g x None = x
unless_so t g x (Some y) = if t g then x else Some y

-- ---- entries put in

pub turned : (a b : List ℕ) → bytes_eq a b ≡ bytes_eq b a
turned a b = tests_agree (bytes_eq a b) (bytes_eq b a) (λ e. (bytes_eq-Decides b a).1 (sym ((bytes_eq-Decides a b).0 e))) (λ e. (bytes_eq-Decides a b).1 (sym ((bytes_eq-Decides b a).0 e)))

alike : {V : Type 0} (b c : Bool) (v w : V) (o : Option V) → b ≡ c → (if b then Some v else o) ≡ (if c then Some v else (if b then Some w else o))
alike true true v w o e = refl
alike true false v w o e = absurd cc
alike false true v w o e = absurd cc
alike false false v w o e = refl

apart : {V : Type 0} (b c : Bool) (v w : V) (o p : Option V) → (b ≡ true → c ≡ true → ⊥) → p ≡ (if c then Some v else o) → (if b then Some w else p) ≡ (if c then Some v else (if b then Some w else o))
apart true true v w o p n e = absurd (n refl refl)
apart true false v w o p n e = refl
apart false c v w o p n e = e

pub put_in : {K V : Type 0} (f : K → List ℕ) (g : List ℕ) (es : List (K × V)) (k : K) (v : V) → lookup (λ (x : K). bytes_eq g (f x)) (insert_entry (λ (x y : K). bytes_eq (f x) (f y)) es k v) ≡ (if bytes_eq (f k) g then Some v else lookup (λ (x : K). bytes_eq g (f x)) es)
put_in f g [] k v = ap (λ (b : Bool). if b then Some v else None) (turned g (f k))
put_in {K} f g (e ∷ es) k v = by (bytes_eq (f k) (f e.0)) refl (put_in f g es k v)
  where
    by : (b : Bool) → bytes_eq (f k) (f e.0) ≡ b → lookup (λ (x : K). bytes_eq g (f x)) (insert_entry (λ (x y : K). bytes_eq (f x) (f y)) es k v) ≡ (if bytes_eq (f k) g then Some v else lookup (λ (x : K). bytes_eq g (f x)) es)
        → lookup (λ (x : K). bytes_eq g (f x)) (if b then (e.0, v) ∷ es else e ∷ insert_entry (λ (x y : K). bytes_eq (f x) (f y)) es k v) ≡ (if bytes_eq (f k) g then Some v else lookup (λ (x : K). bytes_eq g (f x)) (e ∷ es))
    by true q more = alike (bytes_eq g (f e.0)) (bytes_eq (f k) g) v e.1 (lookup (λ (x : K). bytes_eq g (f x)) es) (turned g (f e.0) ∙ ap (λ (l : List ℕ). bytes_eq l g) (sym ((bytes_eq-Decides (f k) (f e.0)).0 q)))
    by false q more =
        apart (bytes_eq g (f e.0)) (bytes_eq (f k) g) v e.1 (lookup (λ (x : K). bytes_eq g (f x)) es) (lookup (λ (x : K). bytes_eq g (f x)) (insert_entry (λ (x y : K). bytes_eq (f x) (f y)) es k v))
        (λ here there. let same = (bytes_eq-Decides (f k) (f e.0)).1 ((bytes_eq-Decides (f k) g).0 there ∙ (bytes_eq-Decides g (f e.0)).0 here) in absurd cc) more
