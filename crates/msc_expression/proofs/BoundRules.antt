-- The readers of bounds are exact.
use Rattle.std.proofs.Common.{ℕ, ◌≡◌, ◌++◌, true, List, [], refl, Some, None, codes}
use Rattle.msc_tokens.specs.declared.token.Token.{Token}
use Rattle.token_grammar.specs.Languages.{Set, apart, just, numbers, Read, seq_at}
use Rattle.token_grammar.specs.Grammars.{Grammar}
use Rattle.token_grammar.specs.Parts.{kept as as_written}
use Rattle.token_grammar.proofs.Lists.{apart_none}
use Rattle.token_grammar.proofs.Rules.{Law, Rule, seq_rule, or_rule, as_rule}
use Rattle.token_grammar.proofs.Optionals.{none, optional_law, optional_rule, behind_rule}
use Rattle.token_grammar.proofs.PartRules.{law_by, digits_rule, mark_rule}
use Rattle.msc_expression.specs.Bounds.{kept, bound, upper_bound, bounds_of, bounds, or_once, with_bounds, bound_at, upper_bound_at, bounds_at, loop_bounds_at}

bound_rule : (n : ℕ) → Rule (λ m. bound) n numbers none bound_at
bound_rule n = as_rule kept none (digits_rule n) (λ a. refl)

upper_bound_rule : (n : ℕ) → Rule (λ m. upper_bound) n (just (codes "inf") ++ numbers) none upper_bound_at
upper_bound_rule n = or_rule (as_rule (λ t. None) none (mark_rule (codes "inf") refl n) (λ a. refl)) (as_rule Some none (bound_rule n) (λ a. refl)) refl

pub bounds_rule : (n : ℕ) → Rule (λ m. bounds) n (just (codes "<")) none bounds_at
bounds_rule n = behind_rule (just (codes "<")) (codes "<") refl (as_rule (λ p. bounds_of p.0 p.1.0) none
    (seq_rule (bound_rule n) (optional_rule as_written (behind_rule (just (codes ",")) (codes ",") refl (upper_bound_rule n)) (mark_rule (codes ">") refl n) (λ a. refl) refl) (λ a. refl)) (λ a. refl))

pub bounds_law : (n : ℕ) → Law (λ m. bounds) n (just (codes "<")) none
bounds_law = law_by bounds_rule

-- ---- bounds that may be missing, and what stands behind them

module _ {A : Type 0} {R : ℕ → Grammar A} {F : Set} {C : A → Set} {n : ℕ} where
  pub with_bounds_law : Law R n F C → apart (just (codes "<")) F ≡ true → Law (λ m. with_bounds (R m)) n (just (codes "<") ++ F) (λ p. C p.1)
  with_bounds_law r free = optional_law or_once (bounds_law n) r (λ a. apart_none F) free

  pub with_bounds_rule : {p : List Token → Read A} → Rule R n F C p → apart (just (codes "<")) F ≡ true → Rule (λ m. with_bounds (R m)) n (just (codes "<") ++ F) (λ p. C p.1) (seq_at loop_bounds_at p)
  with_bounds_rule r free = optional_rule or_once (bounds_rule n) r (λ a. apart_none F) free
