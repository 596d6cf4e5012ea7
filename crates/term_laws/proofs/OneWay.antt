-- In a single term an event leaves one term.
use Rattle.std.specs.Prelude.{ℕ, Bool, List, [], ◌∷◌, ◌≡◌, ◌≢◌, ◌⊎◌, Option, Some, None, refl}
use Rattle.std.proofs.Common.{ap, sym, ◌∙◌, inl, inr}
use Rattle.std.proofs.lemmas.Option.{same_Some}
use Rattle.msc_base.specs.Patterns.{Mode, seq, par}
use Rattle.chart_term.specs.NormalForms.{NetPermits, only, join_all, tie_of, loop_of}
use Rattle.chart_term.specs.Properties.{Each, EachTurn}
use Rattle.chart_term.specs.TermPatterns.{instances_of, earlier}
use Rattle.chart_term.specs.Terms.{TermEvent, Tree, Trees, items, Part, Gap, Turn, ◌∪◌}
use Rattle.chart_term.specs.Spreads.{touch}
use Rattle.term_laws.specs.Permission.{permit}
use Rattle.term_laws.specs.Taking.{Stays, fewer, down, IsAfter, after_event, after_choice, after_join, after_tied, after_loop, after_walk, IsAfterOne, first_one, later_one, IsAfterJoin, first_part, later_part, IsAfterRow, in_turn, in_gap, past_turn, past_gap}
use Rattle.term_laws.proofs.Apart.{Apart, AllApart}
use Rattle.term_laws.proofs.Single.{Single, SingleAll, Begun, permit_begun, Lasting, lasting, turns_begun, none_last}
use Rattle.term_laws.proofs.Steady.{Lacks, Sure, plain_sure, sure_blocks, taken_every}

abbrev value : Tree → Option Tree → Tree
value d None = d
value d (Some x) = x

-- the same answer
some_same : (r s : Option Tree) (x y : Tree) → r ≡ s → r ≡ Some x → s ≡ Some y → x ≡ y
some_same r s x y e p q = same_Some x y (sym p ∙ (e ∙ q))

clash : (r s : Option Tree) (x : Tree) → r ≡ s → r ≡ None → s ≡ Some x → ⊥
clash r s x e p q = cc

module _ (m : ℕ) (k : NetPermits) where
  -- the part from which an event is taken has its label
  part_of : {n : Mode} {xs : Trees} {zs : List Tree} {f : TermEvent} (P : Type 0) → IsAfterJoin k n xs f zs → Each (λ y. P ⊎ Lacks f.label y) (items xs) → P
  part_of P (first_part {e = f} a) h = elim h.0 [ inl p ↦ p | inr l ↦ absurd (taken_every k (λ g. g.label ≢ f.label) a l refl) ]
  part_of P (later_part s a) h = part_of P a h.1

  one_of : {xs : Trees} {z : Tree} {f : TermEvent} (P : Type 0) → IsAfterOne k xs f z → Each (λ y. P ⊎ Lacks f.label y) (items xs) → P
  one_of P (first_one {e = f} a) h = elim h.0 [ inl p ↦ p | inr l ↦ absurd (taken_every k (λ g. g.label ≢ f.label) a l refl) ]
  one_of P (later_one a) h = one_of P a h.1

  rows_at : (a : ℕ) (x : Tree) (ys : List Tree) → Each (Apart seq x) ys → Each (λ y. Sure a x ⊎ Lacks a y) ys
  rows_at a x [] h = tt
  rows_at a x (y ∷ ys) h = (h.0 a, rows_at a x ys h.1)

  asides_at : (a : ℕ) (x : Tree) (ys : List Tree) → Each (Apart par x) ys → Each (λ y. Lacks a x ⊎ Lacks a y) ys
  asides_at a x [] h = tt
  asides_at a x (y ∷ ys) h = (h.0 a, asides_at a x ys h.1)

  lacking : {x y : Tree} {e f : TermEvent} → IsAfter k x e y → e ≡ f → Lacks f.label x → ⊥
  lacking {f = f} a q h = taken_every k (λ g. g.label ≢ f.label) a h (ap (λ g. g.label) q)

  sure_at : (x : Tree) (e f : TermEvent) → e ≡ f → Sure f.label x → Sure e.label x
  sure_at x e f q h = rw q h

  blocked : {x y z : Tree} {e f : TermEvent} → IsAfter k x e y → e ≡ f → Sure f.label x → permit k (only (instances_of f).instances) x ≡ Some z → ⊥
  blocked {x = x} {z = z} {e = e} {f = f} a q h p =
      clash (permit k (only (instances_of e).instances) x) (permit k (only (instances_of f).instances) x) z (λ i. permit k (only (instances_of (q i)).instances) x) (sure_blocks k a (sure_at x e f q h)) p

  -- an event that a part can give is taken from no later part
  ahead : (n : Mode) (z : Tree) {x y : Tree} {xs : Trees} {zs : List Tree} {e f : TermEvent} → IsAfter k x e y → Stays k n f x z → IsAfterJoin k n xs f zs → e ≡ f → Each (Apart n x) (items xs) → ⊥
  ahead seq z {x = x} {xs = xs} {f = f} a s b q h = blocked a q (part_of (Sure f.label x) b (rows_at f.label x (items xs) h)) s
  ahead par z {x = x} {xs = xs} {f = f} a s b q h = lacking a q (part_of (Lacks f.label x) b (asides_at f.label x (items xs) h))

  chosen : {x y z : Tree} {xs : Trees} {e f : TermEvent} → IsAfter k x e y → IsAfterOne k xs f z → e ≡ f → Each (Apart par x) (items xs) → ⊥
  chosen {x = x} {xs = xs} {f = f} a b q h = lacking a q (one_of (Lacks f.label x) b (asides_at f.label x (items xs) h))

  stays_same : (n : Mode) (x y z : Tree) (e f : TermEvent) → Stays k n e x y → Stays k n f x z → e ≡ f → y ≡ z
  stays_same seq x y z e f s t q = some_same (permit k (only (instances_of e).instances) x) (permit k (only (instances_of f).instances) x) y z (λ i. permit k (only (instances_of (q i)).instances) x) s t
  stays_same par x y z e f s t q = s ∙ sym t

  moved : (x y z : Tree) (f : TermEvent) → x ≡ y → IsAfter k y f z → IsAfter k x f z
  moved x y z f p a = rw p a

  mutual
    pub same_after : {x y z : Tree} {e f : TermEvent} → IsAfter k x e y → IsAfter k x f z → e ≡ f → Single m x → y ≡ z
    same_after after_event after_event q h = refl
    same_after (after_choice a) (after_choice b) q h = same_one a b q h.0 h.1
    same_after (after_join {m = n} a) (after_join b) q h = ap (join_all n) (same_parts a b q h.0 h.1)
    same_after (after_tied {y = y} {z = z} {q = r} {e = e} a p) (after_tied {y = u} {z = v} {e = f} b o) q h =
        let i : y ≡ u = same_after a b q h in
        ap (λ t. tie_of t r) (some_same (permit k (earlier r e) y) (permit k (earlier r f) u) z v (λ j. permit k (earlier r (q j)) (i j)) p o)
    same_after (after_loop {x = x} {z = z} {lo = lo} {hi = hi} {r = r} t {ps = ps} a g p) (after_loop {z = v} u {ps = qs} b l o) q h =
        let i = same_row a b q h.0 (turns_begun m k r h.1) (lasting m k r h.1) in
        some_same (loop_of (λ c. permit k (only c) x) (touch k.spread x) x (down t lo) (fewer t hi) ps) (loop_of (λ c. permit k (only c) x) (touch k.spread x) x (down u lo) (fewer u hi) qs) z v
        (λ j. loop_of (λ c. permit k (only c) x) (touch k.spread x) x (down (i.0 j) lo) (fewer (i.0 j) hi) (i.1 j)) p o
    same_after (after_walk n p a l1 l2 r s) b q h = absurd h

    same_one : {xs : Trees} {y z : Tree} {e f : TermEvent} → IsAfterOne k xs e y → IsAfterOne k xs f z → e ≡ f → SingleAll m xs → AllApart par (items xs) → y ≡ z
    same_one (first_one a) (first_one b) q h i = same_after a b q h.0
    same_one (first_one a) (later_one b) q h i = absurd (chosen a b q i.0)
    same_one (later_one a) (first_one b) q h i = absurd (chosen b a (sym q) i.0)
    same_one (later_one a) (later_one b) q h i = same_one a b q h.1 i.1

    same_parts : {n : Mode} {xs : Trees} {ys zs : List Tree} {e f : TermEvent} → IsAfterJoin k n xs e ys → IsAfterJoin k n xs f zs → e ≡ f → SingleAll m xs → AllApart n (items xs) → ys ≡ zs
    same_parts (first_part {xs = xs} a) (first_part b) q h i = ap (λ t. t ∷ items xs) (same_after a b q h.0)
    same_parts (first_part {m = n} a) (later_part {x' = z} s b) q h i = absurd (ahead n z a s b q i.0)
    same_parts (later_part {m = n} {x' = z} s a) (first_part b) q h i = absurd (ahead n z b s a (sym q) i.0)
    same_parts (later_part {m = n} {x = x} {x' = y} {e = e} s a) (later_part {x' = z} {e = f} t b) q h i =
        let u : y ≡ z = stays_same n x y z e f s t q in let v = same_parts a b q h.1 i.1 in λ j. u j ∷ v j

    same_row : {x : Tree} {b c : Bool} {ps qs rs : List Part} {e f : TermEvent} → IsAfterRow k x b ps e qs → IsAfterRow k x c ps f rs → e ≡ f → Begun m x → EachTurn (Begun m) ps → Lasting m k ps → (b ≡ c) × (qs ≡ rs)
    same_row (in_turn {ps = ps} a) (in_turn b) q h d l = (refl, ap (λ t. Turn t ∷ ps) (same_after a b q d.0.1))
    same_row (in_turn {y = y} a) (past_turn {e = f} p b) q h d l = absurd (blocked a q (plain_sure f.label y d.0.0) p)
    same_row (past_turn {y = y} {e = e} p a) (in_turn b) q h d l = absurd (blocked b (sym q) (plain_sure e.label y d.0.0) p)
    same_row (past_turn {y = y} {z = z} {e = e} p a) (past_turn {z = v} {e = f} o b) q h d l =
        let i = same_row a b q h d.1 l in
        let j : z ≡ v = some_same (permit k (only (instances_of e).instances) y) (permit k (only (instances_of f).instances) y) z v (λ i. permit k (only (instances_of (q i)).instances) y) p o in
        (i.0, λ t. Turn (j t) ∷ i.1 t)
    same_row (in_gap {x = x} {y = y} {z = z} {c = c} {ps = ps} {e = e} p a) (in_gap {y = u} {z = v} {e = f} o b) q h d l =
        let i : y ≡ u = some_same (permit k (only c) x) (permit k (only c) x) y u refl p o in
        let j : z ≡ v = same_after a (moved y u v f i b) q (permit_begun m k (only c) x y p h).1 in
        (refl, λ t. Gap (c ∪ (instances_of (q t)).instances) ∷ Turn (j t) ∷ Gap c ∷ ps)
    same_row (in_gap p a) (past_gap b) q h d l = absurd (none_last m k b l)
    same_row (past_gap a) b q h d l = absurd (none_last m k a l)
