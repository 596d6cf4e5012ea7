-- Words of the same different events that spell the same term are the same.
use Rattle.std.specs.Prelude.{ℕ, suc, ◌/◌, ◌%◌, ◌^◌, ◌<◌, ◌==◌, Bool, true, false, List, [], ◌∷◌, ◌≡◌, length, refl}
use Rattle.std.proofs.Common.{ap, sym, ◌∙◌, subst, arith, inl, inr}
use Rattle.std.proofs.Math.Nat.{pow-suc}
use Rattle.std.proofs.lemmas.Bool.Decides.{nat_tests}
use Rattle.msc_base.specs.Lists.{AreDifferent, IsAmong}
use Rattle.msc_base.specs.Patterns.{par}
use Rattle.chart_term.specs.NormalForms.{join_of}
use Rattle.chart_term.specs.Properties.{Each}
use Rattle.chart_term.specs.Terms.{Tree, Trees, Nil, Event, Join, items, trees}
use Rattle.chart_term.proofs.Lists.{items-trees}
use Rattle.term_sets.proofs.Picking.{each_picked}
use Rattle.term_sets.specs.Subsets.{pick, picked, spelled, IsEvent}

-- the parts of a join
abbrev inner : Tree → List Tree
inner (Join m xs) = items xs
inner x = []

pub picked_among : (events : List Tree) (w : ℕ) (x : Tree) → IsAmong (picked events w) x → IsAmong events x
picked_among [] w x h = h
picked_among (e ∷ es) w x h = go (w % 2 == 1) (picked_among es (w / 2) x) h
  where
    go : (b : Bool) → (IsAmong (picked es (w / 2)) x → IsAmong es x) → IsAmong (pick b e (picked es (w / 2))) x → IsAmong (e ∷ es) x
    go true f (inl q) = inl q
    go true f (inr j) = inr (f j)
    go false f j = inr (f j)

-- an event is neither Nil nor a join

not_nil : (x : Tree) → IsEvent x → Nil ≡ x → ⊥
not_nil x h e = let q : Nil ≡ Event h.0 = e ∙ h.1 in cc

not_join : (x : Tree) (xs : Trees) → IsEvent x → Join par xs ≡ x → ⊥
not_join x xs h e = let q : Join par xs ≡ Event h.0 = e ∙ h.1 in cc

-- events side by side tell their list
pub join_same : (xs ys : List Tree) → Each IsEvent xs → Each IsEvent ys → join_of par xs ≡ join_of par ys → xs ≡ ys
join_same [] [] h k e = refl
join_same [] (y ∷ []) h k e = absurd (not_nil y k.0 e)
join_same [] (y ∷ v ∷ vs) h k e = cc
join_same (x ∷ []) [] h k e = absurd (not_nil x h.0 (sym e))
join_same (x ∷ []) (y ∷ []) h k e = ap (λ (z : Tree). z ∷ []) e
join_same (x ∷ []) (y ∷ v ∷ vs) h k e = absurd (not_join x (trees (y ∷ v ∷ vs)) h.0 (sym e))
join_same (x ∷ u ∷ us) [] h k e = cc
join_same (x ∷ u ∷ us) (y ∷ []) h k e = absurd (not_join y (trees (x ∷ u ∷ us)) k.0 e)
join_same (x ∷ u ∷ us) (y ∷ v ∷ vs) h k e = sym (items-trees (x ∷ u ∷ us)) ∙ (ap inner e ∙ items-trees (y ∷ v ∷ vs))

-- a number by its lowest bit and its half

odd : (w : ℕ) → (w % 2 == 1) ≡ true → w % 2 ≡ 1
odd w h = grind (arith, nat_tests)

even : (w : ℕ) → (w % 2 == 1) ≡ false → w % 2 ≡ 0
even w h = grind (arith, nat_tests)

half_below : (w n : ℕ) → w < 2 ^ suc n → w / 2 < 2 ^ n
half_below w n h = let e = pow-suc 2 n in omega (arith, e)

-- words of different events that pick the same are the same
pub picked_apart : (events : List Tree) (w v : ℕ) → AreDifferent events → w < 2 ^ length events → v < 2 ^ length events → picked events w ≡ picked events v → w ≡ v
picked_apart [] w v d l m e = omega arith
picked_apart (x ∷ xs) w v d l m e =
    go (w % 2 == 1) (v % 2 == 1) refl refl (picked_apart xs (w / 2) (v / 2) d.1 (half_below w (length xs) l) (half_below v (length xs) m)) e
  where
    beside : (u : ℕ) (zs : List Tree) → x ∷ zs ≡ picked xs u → ⊥
    beside u zs q = d.0 (picked_among xs u x (subst (λ (l : List Tree). IsAmong l x) q (inl refl)))

    rest : (ys zs : List Tree) → x ∷ ys ≡ x ∷ zs → ys ≡ zs
    rest ys zs q = cc

    go : (b c : Bool) → (w % 2 == 1) ≡ b → (v % 2 == 1) ≡ c → (picked xs (w / 2) ≡ picked xs (v / 2) → w / 2 ≡ v / 2) → pick b x (picked xs (w / 2)) ≡ pick c x (picked xs (v / 2)) → w ≡ v
    go true true p q f i = let a = odd w p in let b = odd v q in let c = f (rest (picked xs (w / 2)) (picked xs (v / 2)) i) in omega (arith, a, b, c)
    go true false p q f i = absurd (beside (v / 2) (picked xs (w / 2)) i)
    go false true p q f i = absurd (beside (w / 2) (picked xs (v / 2)) (sym i))
    go false false p q f i = let a = even w p in let b = even v q in let c = f i in omega (arith, a, b, c)

-- words of different events that spell the same term are the same
pub spelled_apart : (events : List Tree) (w v : ℕ) → Each IsEvent events → AreDifferent events → w < 2 ^ length events → v < 2 ^ length events → spelled events w ≡ spelled events v → w ≡ v
spelled_apart events w v h d l m e = picked_apart events w v d l m (join_same (picked events w) (picked events v) (each_picked IsEvent events w h) (each_picked IsEvent events v h) e)
