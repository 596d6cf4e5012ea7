-- The readers of shared lists, conditions and joins are exact.
use Rattle.std.proofs.Common.{ℕ, ◌≡◌, ◌++◌, Bool, true, false, cond, List, [], ◌∷◌, Option, Some, None, Ok, Err, refl, codes}
use Rattle.msc_tokens.specs.declared.token.Token.{Token}
use Rattle.msc_tree.specs.declared.chart.Cover.{Cover}
use Rattle.msc_tree.specs.declared.chart.Cover.TheVariants.{All, Listed}
use Rattle.msc_tree.specs.declared.reference.JoinEnd.TheVariants.{Env, Reference}
use Rattle.token_grammar.specs.Languages.{Set, Read, apart, starts, just, names, word_at, seq_at, either_at, optional_at, behind_at}
use Rattle.token_grammar.specs.Grammars.{Grammar}
use Rattle.token_grammar.specs.Parts.{kept}
use Rattle.token_grammar.proofs.Lists.{apart_none}
use Rattle.token_grammar.proofs.Flats.{rule_by}
use Rattle.token_grammar.proofs.Rules.{Law, Rule, word_rule, seq_rule, or_rule, as_rule}
use Rattle.token_grammar.proofs.Optionals.{none, mapped, paired, optional_rule, behind_rule}
use Rattle.token_grammar.proofs.PartRules.{law_by, name_rule, placed_name_rule, ending_rule, ends, placed_rule, commas, separated_rule, name_list_rule}
use Rattle.msc_events.specs.Multis.{sharers, cover_of, shared, shared_in, condition, join_end, join, joins}
use Rattle.msc_events.specs.MultiReaders.{sharers_at, shared_at, shared_words, shared_in_at, condition_at, join_end_at, join_at, joins_at}
use Rattle.msc_events.specs.declared.orientation.Orientation.{Orientation}
use Rattle.msc_events.specs.declared.orientation.Orientation.TheVariants as written

-- what can't follow a shared list
abbrev pub after_cover : Cover → Set
after_cover All = []
after_cover (Listed list) = just (codes ",")

abbrev sharer_words : Set
sharer_words = just (codes "all") ++ names

sharers_rule : (n : ℕ) → Rule (λ m. sharers) n sharer_words after_cover sharers_at
sharers_rule n = or_rule (as_rule (λ t. All) after_cover (word_rule (just (codes "all")) (codes "all") refl n) (λ a. refl)) (as_rule Listed after_cover (name_list_rule n) (λ a. refl)) refl

abbrev cover_at : List Token → Read Cover
cover_at = optional_at sharer_words cover_of sharers_at

-- ---- a shared list and what stands behind it, or the list first

module _ {A : Type 0} (q : List Token → Read A) where
  abbrev apart_at : List Token → Read (Cover × A)
  apart_at = behind_at (just (codes "shared")) (seq_at cover_at q)

  abbrev with_list : Read (Cover × A) → Read (Option Cover × A)
  with_list x = mapped (λ (p : Cover × A). (Some p.0, p.1)) x

  abbrev without_list : Read A → Read (Option Cover × A)
  without_list x = mapped (λ (a : A). (None, a)) x

  abbrev word_dropped : {B : Type 0} → Token → Read B → Read B
  word_dropped {B = B} t x = mapped (λ (p : Token × B). p.1) (mapped (λ (b : B). (t, b)) x)

  third : (t : Token) (cover : Cover) (x : Read A) → with_list (word_dropped t (mapped (λ (a : A). (cover, a)) x)) ≡ mapped (λ (a : A). (Some cover, a)) x
  third t cover (Ok y) = refl
  third t cover (Err e) = refl

  second : (t : Token) (x : Read Cover) → with_list (word_dropped t (paired x q)) ≡ paired (mapped (λ c. kept (Some c)) (word_dropped t x)) q
  second t (Ok y) = third t y.0 (q y.1)
  second t (Err e) = refl

  first : (x : Read Token) → with_list (mapped (λ (p : Token × (Cover × A)). p.1) (paired x (seq_at cover_at q))) ≡ paired (mapped (λ c. kept (Some c)) (mapped (λ (p : Token × Cover). p.1) (paired x cover_at))) q
  first (Ok z) = second z.0 (cover_at z.1)
  first (Err e) = refl

  column_same : (ts : List Token) → either_at (just (codes "shared")) (λ us. with_list (apart_at us)) (λ us. without_list (q us)) ts ≡ seq_at (shared_in_at written.Column) q ts
  column_same ts = pick (starts (just (codes "shared")) ts)
    where
      pick : (b : Bool) → cond b (with_list (apart_at ts)) (without_list (q ts)) ≡ paired (cond b (mapped (λ c. kept (Some c)) (shared_at ts)) (Ok (None, ts))) q
      pick true = first (word_at (just (codes "shared")) ts)
      pick false = refl

  other_same : (ts : List Token) → without_list (q ts) ≡ seq_at (shared_in_at written.Covered) q ts
  other_same [] = refl
  other_same (t ∷ ts) = refl

module _ {A : Type 0} {S : ℕ → Grammar A} {G : Set} {C : A → Set} {n : ℕ} (all_apart : apart sharer_words G ≡ true) (comma_apart : apart G (just (codes ",")) ≡ true) (shared_apart : apart (just (codes "shared")) G ≡ true) where
  shared_rule : {q : List Token → Read A} → Rule S n G C q → Rule (λ m. shared (S m)) n (just (codes "shared")) (λ x. C x.1) (apart_at q)
  shared_rule next = behind_rule (just (codes "shared")) (codes "shared") refl (optional_rule cover_of (sharers_rule n) next free all_apart)
    where
      free : (a : Cover) → apart G (after_cover a) ≡ true
      free All = apart_none G
      free (Listed list) = comma_apart

  pub shared_in_rule : (orientation : Orientation) {q : List Token → Read A} → Rule S n G C q → Rule (λ m. shared_in orientation (S m)) n (shared_words orientation ++ G) (λ x. C x.1) (seq_at (shared_in_at orientation) q)
  shared_in_rule written.Column {q = q} next =
      rule_by (λ m. shared_in written.Column (S m)) n (just (codes "shared") ++ G) (λ x. C x.1) (either_at (just (codes "shared")) (λ us. with_list q (apart_at q us)) (λ us. without_list q (q us))) (seq_at (shared_in_at written.Column) q) (column_same q)
      (or_rule (as_rule (λ p. (Some p.0, p.1)) (λ x. C x.1) (shared_rule next) (λ a. refl)) (as_rule (λ a. (None, a)) (λ x. C x.1) next (λ a. refl)) shared_apart)
  shared_in_rule written.Covered {q = q} next =
      rule_by (λ m. shared_in written.Covered (S m)) n G (λ x. C x.1) (λ us. without_list q (q us)) (seq_at (shared_in_at written.Covered) q) (other_same q) (as_rule (λ a. (None, a)) (λ x. C x.1) next (λ a. refl))

pub condition_rule : (orientation : Orientation) (n : ℕ) → Rule (λ m. condition orientation) n (just (codes "condition")) none (condition_at orientation)
condition_rule orientation n = as_rule (λ p. (p.0, p.1.0, p.1.1.0)) none (placed_rule (just (codes "condition")) (codes "condition") refl
    (seq_rule (name_list_rule n) (shared_in_rule refl refl refl orientation (ending_rule n)) (free orientation))) (λ a. refl)
  where
    free : (orientation : Orientation) (a : List (List ℕ)) → apart (shared_words orientation ++ ends) (just (codes ",")) ≡ true
    free written.Column a = refl
    free written.Covered a = refl

-- ---- joins

join_end_rule : (n : ℕ) → Rule (λ m. join_end) n (just (codes "env") ++ just (codes "reference")) none join_end_at
join_end_rule n =
    or_rule (as_rule Env none (behind_rule (just (codes "env")) (codes "env") refl (behind_rule (just (codes "via")) (codes "via") refl (name_rule n))) (λ a. refl))
    (as_rule (λ p. Reference p.0 p.1) none (behind_rule (just (codes "reference")) (codes "reference") refl (seq_rule (name_rule n) (behind_rule (just (codes "via")) (codes "via") refl (name_rule n)) (λ a. refl))) (λ a. refl)) refl

join_rule : (n : ℕ) → Rule (λ m. join) n names none join_at
join_rule n = as_rule (λ p. record { gate = p.0.0; to = p.1; place = p.0.1 }) none (seq_rule (placed_name_rule n) (behind_rule (just (codes "to")) (codes "to") refl (join_end_rule n)) (λ a. refl)) (λ a. refl)

pub joins_rule : (n : ℕ) → Rule (λ m. joins) n (just (codes "via")) commas joins_at
joins_rule n = behind_rule (just (codes "via")) (codes "via") refl (separated_rule (codes ",") refl refl (join_rule n))

-- ---- their laws

pub condition_law : (orientation : Orientation) (n : ℕ) → Law (λ m. condition orientation) n (just (codes "condition")) none
condition_law orientation = law_by (condition_rule orientation)

pub joins_law : (n : ℕ) → Law (λ m. joins) n (just (codes "via")) commas
joins_law = law_by joins_rule
