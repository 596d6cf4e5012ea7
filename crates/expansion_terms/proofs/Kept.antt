-- What the constructors keep: normal forms.
use Rattle.std.specs.Option.{unwrap_or}
use Rattle.std.specs.Prelude.{ℕ, zero, suc, Bool, true, false, not, ◌&&◌, List, [], ◌∷◌, Option, Some, None}
use Rattle.std.proofs.Common.{◌≡◌, ◌∙◌, refl, ap}
use Rattle.msc_base.specs.Patterns.{Mode}
use Rattle.chart_term.specs.NormalForms.{NetPermits, choice_of, is_nil, join_all, some_kept, tie_of}
use Rattle.chart_term.specs.Properties.{Each, MayHave}
use Rattle.chart_term.specs.Terms.{Tree, Nil}
use Rattle.term_laws.specs.Normality.{IsNormal, IsPositive}
use Rattle.term_laws.proofs.Identity.{permit_same}
use Rattle.term_laws.proofs.Normalising.{join_normal, choice_normal, bound_normal}
use Rattle.expansion_terms.specs.Constructors.{leave_turn, one_of, turns_if, turns_of}

-- what the constructors keep
pub record IsKept (P : Tree → Type 0) : Type 0 where
  pub nothing : P Nil
  pub both : (m : Mode) (x y : Tree) → P x → P y → P (join_all m (x ∷ y ∷ []))
  pub some : (xs : List Tree) → Each P xs → P (one_of xs)
  pub tied : (x : Tree) (q : List (ℕ × ℕ)) → P x → P (tie_of x q)
  pub turns : (lower : ℕ) (upper : Option ℕ) (x : Tree) → P x → P (turns_of lower upper x)

not_so : (b : Bool) → not b ≡ true → b ≡ false
not_so true e = absurd cc
not_so false e = refl

and_both : (a b : Bool) → (a && b) ≡ true → (a ≡ true) × (b ≡ true)
and_both true b e = (refl, e)
and_both false b e = absurd cc

-- the term, or nothing
pub there : (P : Tree → Type 0) (o : Option Tree) → P Nil → MayHave P o → P (unwrap_or o Nil)
there P None n h = n
there P (Some x) n h = h

module _ (k : NetPermits) where
  positive : (lower : ℕ) (upper : Option ℕ) → leave_turn lower upper ≡ true → IsPositive upper
  positive lower None e = tt
  positive lower (Some zero) e = absurd cc
  positive lower (Some (suc n)) e = tt

  turns_normal : (lower : ℕ) (upper : Option ℕ) (x : Tree) → IsNormal k x → IsNormal k (turns_of lower upper x)
  turns_normal lower upper x h = by (leave_turn lower upper && not (is_nil (Some x))) refl
    where
      by : (b : Bool) → (leave_turn lower upper && not (is_nil (Some x))) ≡ b → IsNormal k (turns_if b lower upper x)
      by true e =
          let (left, some) = and_both (leave_turn lower upper) (not (is_nil (Some x))) e in
          let whole = permit_same k x h in (
            h,
            tt,
            record {
              sets = (tt, tt);
              cuts = (refl, tt);
              leaves = (ap some_kept whole, tt);
              not_free = (ap is_nil whole ∙ not_so (is_nil (Some x)) some, tt);
              not_over = tt;
              positive = positive lower upper left;
              apart = (tt, tt);
              some = refl;
            },
          )
      by false e = tt

  pub normal_kept : IsKept (IsNormal k)
  normal_kept = record {
    nothing = tt;
    both = λ m x y h i. join_normal k m (x ∷ y ∷ []) (h, (i, tt));
    some = λ xs h. there (IsNormal k) (choice_of xs) tt (choice_normal k xs h);
    tied = λ x q h. bound_normal k x q h;
    turns = turns_normal;
  }
