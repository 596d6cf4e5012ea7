-- The forms that are told apart by their first tokens are those of the grammar's readers.
use Rattle.std.proofs.Common.{ℕ, ◌≡◌, ◌∙◌, ◌-◌, ◌==◌, ◌||◌, Bool, true, false, cond, List, [], ◌∷◌, length, refl, suc, zero, Some, None, Ok, Err, arith, codes}
use Rattle.std.proofs.lemmas.Bool.{ne_eqb}
use Rattle.msc_tokens.specs.declared.token.Token.{Token}
use Rattle.msc_tree.specs.Expressions.{Chart}
use Rattle.token_grammar.specs.Languages.{Set, Read, ◌>>=◌, among, refused, starts, just, either_at, map_at, opens_at, bytes_at}
use Rattle.token_grammar.specs.PartReaders.{name_at}
use Rattle.msc_expression.specs.Levels.{within_at}
use Rattle.msc_expression.specs.ExpressionGrammar.{chart_names}
use Rattle.msc_expression.specs.ExpressionReaders.{Reader, loop_rest_at, opt_rest_at, closed_at, empty_at, prefix_at, form_at}

module _ {A : Type 0} (s : Set) (f : ℕ → List Token → Read A) where
  pub none_left : (ts : List Token) → opens_at s None ts ≡ within_at s f 0 ts
  none_left [] = refl
  none_left (t ∷ ts) = refl

  pub one_more_level : (n : ℕ) (ts : List Token) → opens_at s (Some (f n)) ts ≡ within_at s f (suc n) ts
  one_more_level n ts =
      let nonzero : (suc n == 0) ≡ false = ne_eqb (suc n) 0 (λ e. omega (arith, e)) in
      let below : suc n - 1 ≡ n = omega arith in
      rw (nonzero, below) (taken ts)
    where
      taken : (ts : List Token) → opens_at s (Some (f n)) ts ≡ (opens_at s (Some (λ us. Ok (n, us))) ts >>= λ x. f x.0 x.1)
      taken [] = refl
      taken (t ∷ ts) = pick (among s t) ts
        where
          pick : (b : Bool) (us : List Token) → cond b (f n us) (Err (refused (length (t ∷ us)))) ≡ (cond b (Ok (n, us)) (Err (refused (length (t ∷ us)))) >>= λ x. f x.0 x.1)
          pick true us = refl
          pick false us = refl

either_same : {A : Type 0} {p q r t : Read A} (b : Bool) → p ≡ r → (b ≡ false → q ≡ t) → cond b p q ≡ cond b r t
either_same true e h = e
either_same false e h = h refl

-- a chart's name is a name, where it isn't `empty`
chart_same : (ts : List Token) → starts (just (codes "empty")) ts ≡ false → map_at Chart (bytes_at chart_names) ts ≡ map_at Chart name_at ts
chart_same [] e = refl
chart_same (t ∷ ts) e = rw e refl

-- a prefix, where a reader of each form is handed in
abbrev by_form : Reader → Reader → Reader → Reader → Reader
by_form l o p c = either_at (just (codes "loop")) l (either_at (just (codes "opt")) o (either_at (just (codes "(")) p (either_at (just (codes "empty")) empty_at c)))

module _ (l o p l' o' p' : Reader) (ts : List Token) where
  forms_same : l ts ≡ l' ts → o ts ≡ o' ts → p ts ≡ p' ts → by_form l o p (map_at Chart (bytes_at chart_names)) ts ≡ by_form l' o' p' (map_at Chart name_at) ts
  forms_same le oe pe =
      either_same (starts (just (codes "loop")) ts) le (λ nl. either_same (starts (just (codes "opt")) ts) oe (λ no. either_same (starts (just (codes "(")) ts) pe
      (λ np. either_same (starts (just (codes "empty")) ts) refl (chart_same ts))))

abbrev loops : ℕ → Reader
loops m = loop_rest_at (prefix_at m)

abbrev opts : ℕ → Reader
opts m = opt_rest_at (prefix_at m)

abbrev closes : ℕ → Reader
closes m = closed_at (prefix_at m)

pub form_is : (n : ℕ) (ts : List Token) → prefix_at n ts ≡ form_at n ts
unfolding prefix_at
form_is zero ts =
    forms_same (opens_at (just (codes "loop")) None) (opens_at (just (codes "opt")) None) (opens_at (just (codes "(")) None)
    (within_at (just (codes "loop")) loops 0) (within_at (just (codes "opt")) opts 0) (within_at (just (codes "(")) closes 0) ts
    (none_left (just (codes "loop")) loops ts) (none_left (just (codes "opt")) opts ts) (none_left (just (codes "(")) closes ts)
form_is (suc n) ts =
    forms_same (opens_at (just (codes "loop")) (Some (loops n))) (opens_at (just (codes "opt")) (Some (opts n))) (opens_at (just (codes "(")) (Some (closes n)))
    (within_at (just (codes "loop")) loops (suc n)) (within_at (just (codes "opt")) opts (suc n)) (within_at (just (codes "(")) closes (suc n)) ts
    (one_more_level (just (codes "loop")) loops n ts) (one_more_level (just (codes "opt")) opts n ts) (one_more_level (just (codes "(")) closes n ts)
