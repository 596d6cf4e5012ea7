-- Linear orders go over to the pattern for which another stands.
use Rattle.std.specs.Prelude.{List, [], ◌∷◌, ◌≡◌, map}
use Rattle.std.proofs.Common.{ap, sym, ◌∙◌}
use Rattle.msc_base.specs.Orders.{Among, Once, Kept, IsLinear}
use Rattle.msc_base.specs.Patterns.{Pattern, Position, Reading, Before}
use Rattle.sound_terms.proofs.Mapped.{among_map, map_among}
use Rattle.term_meaning.specs.Standings.{Stands}

-- positions that are one, to and fro, where the pairs of the second are pairs of the first
module _ {A D : Type 0} (B : A → A → Type 0) (C : D → D → Type 0) (to : A → D) (from : D → A) (back : (i : A) → from (to i) ≡ i) (forth : (j : D) → to (from j) ≡ j) (gives : (i j : A) → C (to i) (to j) → B i j) where
  back_among : (p : A) (l : List A) → Among (to p) (map to l) → Among p l
  back_among p l h = let (q, e, i) = map_among to l h in moved q p (sym (back q) ∙ (ap from e ∙ back p)) l i
    where
      moved : (q p : A) → q ≡ p → (l : List A) → Among q l → Among p l
      moved q p e l h = rw e at h

  once_to : (l : List A) → Once l → Once (map to l)
  once_to [] h = tt
  once_to (p ∷ l) (h, k) = (λ i. h (back_among p l i), once_to l k)

  kept_to : (l : List A) → Kept B l → Kept C (map to l)
  kept_to [] h = tt
  kept_to (p ∷ l) (h, k) = (λ q i b. let (a, e, j) = map_among to (p ∷ l) i in h a j (gives a p (moved (to a) q (to p) e b)), kept_to l k)
    where
      moved : (a q c : D) → a ≡ q → C q c → C a c
      moved a q c e b = rw e b

  pub linear_to : (l : List A) → IsLinear B l → IsLinear C (map to l)
  linear_to l h = record {
    every = λ q. moved (to (from q)) q (forth q) (among_map to (h.every (from q)));
    once = once_to l h.once;
    kept = kept_to l h.kept;
  }
    where
      moved : (a q : D) → a ≡ q → Among a (map to l) → Among q (map to l)
      moved a q e h = rw e at h

module _ {E Q F R : Type 0} (r : Reading E Q) (p : Reading F R) (Same : E → F → Type 0) (s : Pattern E Q) (u : Pattern F R) (h : Stands r p Same s u) where
  -- a linear order of the first goes over
  pub stands_there : (l : List (Position s)) → IsLinear (Before r s) l → IsLinear (Before p u) (map h.to l)
  stands_there l k = linear_to (Before r s) (Before p u) h.to h.from h.back h.forth h.gives l k

  keeps_here : (i j : Position u) → Before r s (h.from i) (h.from j) → Before p u i j
  keeps_here i j b = moved (h.to (h.from i)) i (h.to (h.from j)) j (h.forth i) (h.forth j) (h.keeps (h.from i) (h.from j) b)
    where
      moved : (a i b j : Position u) → a ≡ i → b ≡ j → Before p u a b → Before p u i j
      moved a i b j e f h = rw (e, f) at h

  -- and back
  pub stands_here : (l : List (Position u)) → IsLinear (Before p u) l → IsLinear (Before r s) (map h.from l)
  stands_here l k = linear_to (Before p u) (Before r s) h.from h.to h.forth h.back keeps_here l k
