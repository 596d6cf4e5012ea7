-- Entries that are put into a map, by a test of what their keys stand for.
use Rattle.std.proofs.Common.{◌≡◌, ◌∙◌, Bool, true, false, if◌then◌else◌, List, [], ◌∷◌, Option, Some, refl, sym, ap, subst}
use Rattle.std.specs.Map.{lookup}
use Rattle.indexmap.specs.IndexMap.{insert_entry}

alike : {V : Type 0} (b c : Bool) (v w : V) (o : Option V) → b ≡ c → (if b then Some v else o) ≡ (if c then Some v else (if b then Some w else o))
alike true true v w o e = refl
alike true false v w o e = absurd cc
alike false true v w o e = absurd cc
alike false false v w o e = refl

apart : {V : Type 0} (b c : Bool) (v w : V) (o p : Option V) → (b ≡ true → c ≡ true → ⊥) → p ≡ (if c then Some v else o) → (if b then Some w else p) ≡ (if c then Some v else (if b then Some w else o))
apart true true v w o p n e = absurd (n refl refl)
apart true false v w o p n e = refl
apart false c v w o p n e = e

module _ {K V P : Type 0} (f : K → P) (same : P → P → Bool) (is : (a b : P) → same a b ≡ true → a ≡ b) (itself : (a : P) → same a a ≡ true) where
  pub put_in : (g : P) (es : List (K × V)) (k : K) (v : V) → lookup (λ (x : K). same g (f x)) (insert_entry (λ (x y : K). same (f x) (f y)) es k v) ≡ (if same g (f k) then Some v else lookup (λ (x : K). same g (f x)) es)
  put_in g [] k v = refl
  put_in g (e ∷ es) k v = by (same (f k) (f e.0)) refl (put_in g es k v)
    where
      by : (b : Bool) → same (f k) (f e.0) ≡ b → lookup (λ (x : K). same g (f x)) (insert_entry (λ (x y : K). same (f x) (f y)) es k v) ≡ (if same g (f k) then Some v else lookup (λ (x : K). same g (f x)) es)
          → lookup (λ (x : K). same g (f x)) (if b then (e.0, v) ∷ es else e ∷ insert_entry (λ (x y : K). same (f x) (f y)) es k v) ≡ (if same g (f k) then Some v else lookup (λ (x : K). same g (f x)) (e ∷ es))
      by true q rest = alike (same g (f e.0)) (same g (f k)) v e.1 (lookup (λ (x : K). same g (f x)) es) (ap (same g) (sym (is (f k) (f e.0) q)))
      by false q rest =
          apart (same g (f e.0)) (same g (f k)) v e.1 (lookup (λ (x : K). same g (f x)) es) (lookup (λ (x : K). same g (f x)) (insert_entry (λ (x y : K). same (f x) (f y)) es k v))
          (λ here there. let one : same (f k) (f e.0) ≡ true = subst (λ (x : P). same (f k) x ≡ true) (sym (is g (f k) there) ∙ is g (f e.0) here) (itself (f k)) in absurd cc) rest
