-- A part that may stand before another, a word that is dropped, and a token's bytes.
use Rattle.std.proofs.Common.{ℕ, ◌≡◌, Bool, true, false, cond, ◌++◌, List, [], refl, Option, Some, None, Ok, Err}
use Rattle.msc_tokens.specs.declared.token.Token.{Token}
use Rattle.token_grammar.specs.Classes.{token_of}
use Rattle.token_grammar.specs.Languages.{Set, among, apart, starts, Read, ◌>>=◌, seq_at, either_at, map_at, optional_at, behind_at, bytes_at}
use Rattle.token_grammar.specs.Grammars.{Grammar, optional, behind, bytes_of}
use Rattle.token_grammar.proofs.Rules.{Law, Rule, word_law, word_rule, seq_law, seq_rule, as_law, as_rule, maybe_law, maybe_rule}
use Rattle.token_grammar.proofs.Lists.{apart_none}
use Rattle.token_grammar.proofs.Flats.{rule_by}

abbrev pub none : {A : Type 0} → A → Set
none a = []

module _ {A B V : Type 0} (v : Option A → V) {R : ℕ → Grammar A} {S : ℕ → Grammar B} {F G : Set} {C : A → Set} {D : B → Set} {n : ℕ} where
  pub optional_law : Law R n F C → Law S n G D → ((a : A) → apart G (C a) ≡ true) → apart F G ≡ true → Law (λ m. optional v (R m) (S m)) n (F ++ G) (λ x. D x.1)
  optional_law r s free other = as_law (λ p. (v p.0, p.1)) (λ x. D x.1) (maybe_law r s free other) (λ a. refl)

abbrev pub mapped : {A B : Type 0} → (A → B) → Read A → Read B
mapped f x = x >>= λ y. Ok (f y.0, y.1)

abbrev pub paired : {A B : Type 0} → Read A → (List Token → Read B) → Read (A × B)
paired x q = x >>= λ z. q z.1 >>= λ y. Ok ((z.0, y.0), y.1)

module _ {A B V : Type 0} (F : Set) (v : Option A → V) (p : List Token → Read A) (q : List Token → Read B) where
  abbrev long_at : List Token → Read (V × B)
  long_at = map_at (λ (x : Option A × B). (v x.0, x.1)) (either_at F (map_at (λ (x : A × B). (Some x.0, x.1)) (seq_at p q)) (map_at (λ (b : B). (None, b)) q))

  abbrev some_part : Read (A × B) → Read (Option A × B)
  some_part = mapped (λ (x : A × B). (Some x.0, x.1))

  abbrev none_part : Read B → Read (Option A × B)
  none_part = mapped (λ (b : B). (None, b))

  abbrev counted : Read (Option A × B) → Read (V × B)
  counted = mapped (λ (x : Option A × B). (v x.0, x.1))

  abbrev some_counted : Read A → Read V
  some_counted = mapped (λ (a : A). v (Some a))

  with_part : (a : A) (x : Read B) → counted (some_part (mapped (λ (b : B). (a, b)) x)) ≡ mapped (λ (b : B). (v (Some a), b)) x
  with_part a (Ok y) = refl
  with_part a (Err e) = refl

  first_part : (x : Read A) → counted (some_part (paired x q)) ≡ paired (some_counted x) q
  first_part (Ok x) = with_part x.0 (q x.1)
  first_part (Err e) = refl

  no_part : (x : Read B) → counted (none_part x) ≡ mapped (λ (b : B). (v None, b)) x
  no_part (Ok y) = refl
  no_part (Err e) = refl

  pub short_at : (ts : List Token) → long_at ts ≡ seq_at (optional_at F v p) q ts
  short_at ts = pick (starts F ts)
    where
      pick : (b : Bool) → counted (cond b (some_part (paired (p ts) q)) (none_part (q ts))) ≡ paired (cond b (some_counted (p ts)) (Ok (v None, ts))) q
      pick true = first_part (p ts)
      pick false = no_part (q ts)

module _ {A B V : Type 0} (v : Option A → V) {R : ℕ → Grammar A} {S : ℕ → Grammar B} {F G : Set} {C : A → Set} {D : B → Set} {n : ℕ} where
  pub optional_rule : {p : List Token → Read A} {q : List Token → Read B} → Rule R n F C p → Rule S n G D q → ((a : A) → apart G (C a) ≡ true) → apart F G ≡ true
      → Rule (λ m. optional v (R m) (S m)) n (F ++ G) (λ x. D x.1) (seq_at (optional_at F v p) q)
  optional_rule {p = p} {q = q} r s free other =
      rule_by (λ m. optional v (R m) (S m)) n (F ++ G) (λ x. D x.1) (long_at F v p q) (seq_at (optional_at F v p) q) (short_at F v p q) (as_rule (λ x. (v x.0, x.1)) (λ x. D x.1) (maybe_rule r s free other) (λ a. refl))

module _ {A : Type 0} (s : Set) {R : ℕ → Grammar A} {F : Set} {C : A → Set} {n : ℕ} where
  pub behind_law : Law R n F C → Law (λ m. behind s (R m)) n s C
  behind_law r = as_law (λ p. p.1) C (seq_law (word_law s n) r (λ a. apart_none F)) (λ a. refl)

  pub behind_rule : (c : List ℕ) → among s (token_of c) ≡ true → {p : List Token → Read A} → Rule R n F C p → Rule (λ m. behind s (R m)) n s C (behind_at s p)
  behind_rule c e r = as_rule (λ p. p.1) C (seq_rule (word_rule s c e n) r (λ a. apart_none F)) (λ a. refl)

pub bytes_law : (s : Set) (n : ℕ) → Law (λ m. bytes_of s) n s none
bytes_law s n = as_law (λ t. t.bytes) none (word_law s n) (λ a. refl)

pub bytes_rule : (s : Set) (c : List ℕ) → among s (token_of c) ≡ true → (n : ℕ) → Rule (λ m. bytes_of s) n s none (bytes_at s)
bytes_rule s c e n = as_rule (λ t. t.bytes) none (word_rule s c e n) (λ a. refl)

-- ---- three parts and what stands behind them, or the three parts first

module _ {X Y Z V A : Type 0} (f : X → Y → Z → V) (y : List Token → Read Y) (z : List Token → Read Z) (q : List Token → Read A) where
  abbrev all_parts : X × (Y × (Z × A)) → V × A
  all_parts p = (f p.0 p.1.0 p.1.1.0, p.1.1.1)

  abbrev three_parts : X × (Y × Z) → V
  three_parts p = f p.0 p.1.0 p.1.1

  fourth : (a : X) (b : Y) (c : Z) (w : Read A) → mapped all_parts (mapped (λ (l : Y × (Z × A)). (a, l)) (mapped (λ (m : Z × A). (b, m)) (mapped (λ (n : A). (c, n)) w)))
      ≡ mapped (λ (n : A). (f a b c, n)) w
  fourth a b c (Ok w) = refl
  fourth a b c (Err e) = refl

  third : (a : X) (b : Y) (w : Read Z) → mapped all_parts (mapped (λ (l : Y × (Z × A)). (a, l)) (mapped (λ (m : Z × A). (b, m)) (paired w q)))
      ≡ paired (mapped three_parts (mapped (λ (l : Y × Z). (a, l)) (mapped (λ (m : Z). (b, m)) w))) q
  third a b (Ok w) = fourth a b w.0 (q w.1)
  third a b (Err e) = refl

  second : (a : X) (w : Read Y) → mapped all_parts (mapped (λ (l : Y × (Z × A)). (a, l)) (paired w (λ us. paired (z us) q)))
      ≡ paired (mapped three_parts (mapped (λ (l : Y × Z). (a, l)) (paired w z))) q
  second a (Ok w) = third a w.0 (z w.1)
  second a (Err e) = refl

  pub regrouped : (w : Read X) → mapped all_parts (paired w (λ ts. paired (y ts) (λ us. paired (z us) q))) ≡ paired (mapped three_parts (paired w (λ ts. paired (y ts) z))) q
  regrouped (Ok w) = second w.0 (y w.1)
  regrouped (Err e) = refl
