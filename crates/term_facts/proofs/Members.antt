-- Members of sets, and facts of several terms together.
use Rattle.std.proofs.Common.{◌≡◌, ℕ, ◌+◌, ◌%◌, ◌^◌, inl, inr, Bool, true, false, ◌||◌, nat_eq, List, [], ◌∷◌, ◌++◌, refl, ap, ap₂, sym, ◌∙◌, arith, min, max, Option, Some, None}
use Rattle.std.proofs.lemmas.Bool.{eq-eqb, lt-ltb, le-ltb, ne_eqb, cases_order}
use Rattle.std.proofs.lemmas.List.Folds.{list_any-append}
use Rattle.bit_sets.specs.Blocks.{insert_rising, insert_each, is_among as has}
use Rattle.list_facts.proofs.Bools.{or_assoc}
use Rattle.term_facts.specs.declared.facts.Facts.{Facts}
use Rattle.term_facts.specs.declared.facts.Span.{Span}
use Rattle.term_facts.specs.NodeFacts.{AreFacts, Adds, wider, span_of}
use Rattle.term_facts.proofs.Coding.{numbers_code-append}

or_twice : (a b : Bool) → (a || b) ≡ ((a || b) || a)
or_twice true b = refl
or_twice false true = refl
or_twice false false = refl

or_moved : (a b c : Bool) → (a || (b || c)) ≡ ((b || c) || a)
or_moved true true c = refl
or_moved true false true = refl
or_moved true false false = refl
or_moved false true c = refl
or_moved false false true = refl
or_moved false false false = refl

-- the members of a set with one more number
has-insert : (xs : List ℕ) (x n : ℕ) → has (insert_rising xs x) n ≡ (has xs n || nat_eq x n)
has-insert [] x n = or_none (nat_eq x n)
  where
    or_none : (b : Bool) → (b || false) ≡ b
    or_none true = refl
    or_none false = refl
has-insert (y ∷ ys) x n =
    elim (cases_order x y) [
      | inl e ↦ rw (le-ltb x y (omega arith), eq-eqb x y e) (or_twice (nat_eq y n) (has ys n) ∙ ap (λ m. (nat_eq y n || has ys n) || nat_eq m n) (sym e))
      | inr (inl less) ↦ rw (lt-ltb x y less) (or_moved (nat_eq x n) (nat_eq y n) (has ys n))
      | inr (inr later) ↦ rw (le-ltb x y (omega arith), ne_eqb x y (omega arith)) (ap (λ b. nat_eq y n || b) (has-insert ys x n) ∙ sym (or_assoc (nat_eq y n) (has ys n) (nat_eq x n)))
    ]

or_end : (a b c : Bool) → ((a || b) || c) ≡ (a || (c || b))
or_end true b c = refl
or_end false true true = refl
or_end false true false = refl
or_end false false true = refl
or_end false false false = refl

-- the members of two sets together
pub has-insert_each : (xs ys : List ℕ) (n : ℕ) → has (insert_each xs ys) n ≡ (has xs n || has ys n)
has-insert_each xs [] n = or_none (has xs n)
  where
    or_none : (b : Bool) → b ≡ (b || false)
    or_none true = refl
    or_none false = refl
has-insert_each xs (y ∷ ys) n = has-insert (insert_each xs ys) y n ∙ ap (λ b. b || nat_eq y n) (has-insert_each xs ys n) ∙ or_end (has xs n) (has ys n) (nat_eq y n)

span_apart : (r s t : Option Span) → wider r (wider s t) ≡ wider (wider r s) t
span_apart None s t = refl
span_apart (Some r) None t = refl
span_apart (Some r) (Some s) None = refl
span_apart (Some r) (Some s) (Some t) = λ i. Some (record { least = least_apart i; greatest = greatest_apart i })
  where
    least_apart : min r.least (min s.least t.least) ≡ min (min r.least s.least) t.least
    least_apart = omega arith

    greatest_apart : max r.greatest (max s.greatest t.greatest) ≡ max (max r.greatest s.greatest) t.greatest
    greatest_apart = omega arith

pub span_of-append : (ms ns : List ℕ) → span_of (ms ++ ns) ≡ wider (span_of ms) (span_of ns)
span_of-append [] ns = refl
span_of-append (m ∷ ms) ns = ap (λ s. wider (Some (record { least = m; greatest = m })) s) (span_of-append ms ns) ∙ span_apart (Some (record { least = m; greatest = m })) (span_of ms) (span_of ns)

-- facts added are the facts of both
pub facts_added : (v w : ℕ) (a b : Bool) (ps qs ms ns ks ls : List ℕ) (f g h : Facts) → AreFacts v a ps ms ks f → AreFacts w b qs ns ls g → Adds f g h → AreFacts (v + w) (a || b) (ps ++ qs) (ms ++ ns) (ks ++ ls) h
facts_added v w a b ps qs ms ns ks ls f g h p q s = record {
  weight = omega (arith, s.weight, p.weight, q.weight);
  trail = s.trail ∙ ap₂ (λ a b. a || b) p.trail q.trail;
  instances = λ n. s.instances n ∙ ap₂ (λ a b. a || b) (p.instances n) (q.instances n) ∙ sym (list_any-append (λ m. nat_eq m n) ps qs);
  span = s.span ∙ ap₂ wider p.span q.span ∙ sym (span_of-append ms ns);
  labels = s.labels ∙ ap₂ wider p.labels q.labels ∙ sym (span_of-append ks ls);
  code = s.code ∙ ap₂ (λ c d. (c + d) % 2 ^ 64) p.code q.code ∙ sym (numbers_code-append ms ns);
}
