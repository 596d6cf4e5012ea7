-- Items and an end that begin with the same word, read by one loop that looks at the next token behind the word.
use Rattle.std.proofs.Common.{ℕ, ◌≡◌, ◌∙◌, ◌++◌, true, List, length, refl, sym, arith}
use Rattle.msc_tokens.specs.declared.token.Token.{Token}
use Rattle.token_grammar.specs.Classes.{token_of}
use Rattle.token_grammar.specs.Languages.{Set, Read, among, apart, map_at, only_at}
use Rattle.token_grammar.specs.Factored.{unrow, rows_at, flat_at}
use Rattle.token_grammar.specs.Grammars.{Grammar}
use Rattle.token_grammar.proofs.Lists.{apart_none}
use Rattle.token_grammar.proofs.Rules.{Law, Rule, word_law, word_rule, seq_law, seq_rule, until_law, until_rule, as_law, as_rule}
use Rattle.token_grammar.proofs.Factors.{flat, flat_law, flat_rule}
use Rattle.token_grammar.proofs.Flats.{flat_same, flat_only, eats_of, rule_by}

module _ {A B D : Type 0} (w : Set) (O : ℕ → Grammar A) (X : ℕ → Grammar B) (Y : ℕ → Grammar D) {F G H : Set} {C : A → Set} {E : B → Set} {Z : D → Set} {n : ℕ}
    (o_o : (a : A) → apart F (C a) ≡ true) (w_o : apart w F ≡ true) (o_w : (a : A) → apart w (C a) ≡ true) (x_o : (b : B) → apart (F ++ w) (E b) ≡ true) (y_x : apart H G ≡ true) where
  pub items_law : Law O n F C → Law X n G E → Law Y n H Z → Law (λ m. flat w (O m) (X m) (Y m)) n (F ++ w) (λ v. Z v.1.1)
  items_law o x y =
      let part = until_law o (word_law w n) o_o w_o o_w in
      flat_law w O X Y (as_law unrow (λ v. Z v.1.1) (seq_law part (until_law (seq_law x part x_o) y (λ a. apart_none G) y_x (λ a. apart_none H)) (λ a. apart_none (G ++ H))) (λ a. refl))

  pub items_rule : {p : List Token → Read A} {q : List Token → Read B} {r : List Token → Read D} → (c : List ℕ) → among w (token_of c) ≡ true → Rule O n F C (only_at F p) → Rule X n G E q → Rule Y n H Z r
      → Rule (λ m. flat w (O m) (X m) (Y m)) n (F ++ w) (λ v. Z v.1.1) (λ ts. flat_at w F G p q r (length ts) ts)
  items_rule {p = p} {q = q} {r = r} c e o x y =
      let part = until_rule o (word_rule w c e n) o_o w_o o_w in
      rule_by (λ m. flat w (O m) (X m) (Y m)) n (F ++ w) (λ v. Z v.1.1) (map_at unrow (rows_at w F G (only_at F p) q r)) (λ ts. flat_at w F G p q r (length ts) ts)
      (λ ts. sym (flat_same w F G (only_at F p) q r (eats_of O n F C (only_at F p) o F) (eats_of X n G E q x G) (length ts) ts (omega arith)) ∙ flat_only w F G p q r (length ts) ts)
      (flat_rule w O X Y (as_rule unrow (λ v. Z v.1.1) (seq_rule part (until_rule (seq_rule x part x_o) y (λ a. apart_none G) y_x (λ a. apart_none H)) (λ a. apart_none (G ++ H))) (λ a. refl)))
