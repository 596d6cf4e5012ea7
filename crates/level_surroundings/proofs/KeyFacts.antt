-- The keys of a map are compared as numbers are.
use Rattle.std.specs.Ordering.{is_eq, nat_cmp}
use Rattle.std.specs.declared.cmp.Ordering.TheVariants.{Less, Equal, Greater}
use Rattle.std.specs.Prelude.{ℕ, ◌==◌, nat_lt, cond, Bool, true, false}
use Rattle.std.proofs.Common.{◌≡◌, refl, arith}
use Rattle.std.proofs.lemmas.Bool.Decides.{Decides-eqb, Decides-ltb}

pub is_equal : (k q : ℕ) → is_eq (nat_cmp k q) ≡ true → k ≡ q
is_equal k q h = (Decides-eqb k q).0 (by (nat_lt k q) (k == q) h)
  where
    by : (b c : Bool) → is_eq (cond b Less (cond c Equal Greater)) ≡ true → c ≡ true
    by true c h = absurd cc
    by false true h = refl
    by false false h = absurd cc

pub unequal : (k q : ℕ) → is_eq (nat_cmp k q) ≡ false → (k == q) ≡ false
unequal k q e = cases (nat_lt k q) (k == q) refl refl e
  where
    cases : (b c : Bool) → nat_lt k q ≡ b → (k == q) ≡ c → is_eq (cond b Less (cond c Equal Greater)) ≡ false → c ≡ false
    cases b false f g h = refl
    cases false true f g h = absurd cc
    cases true true f g h = let less = (Decides-ltb k q).0 f in let same = (Decides-eqb k q).0 g in absurd (omega (arith, less, same))
