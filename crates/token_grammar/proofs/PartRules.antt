-- The readers of the small productions are exact.
use Rattle.std.proofs.Common.{ℕ, ◌≡◌, ◌++◌, true, List, [], ◌∷◌, Option, refl, sym, ap, codes}
use Rattle.msc_tokens.specs.declared.token.Token.{Token}
use Rattle.std.proofs.lemmas.Bool.{and_parts}
use Rattle.std.specs.List.{list_all}
use Rattle.std.proofs.lemmas.List.Folds.{list_all-append}
use Rattle.token_grammar.specs.Classes.{string, token_of, differ}
use Rattle.token_grammar.specs.Languages.{Set, Read, among, apart, just, names, names_or_strings, numbers, seq_at, map_at}
use Rattle.token_grammar.specs.Grammars.{Grammar}
use Rattle.token_grammar.specs.Parts.{name, placed_name, leads, lead, digits, mark, kept, dropped, all_or_none, placed, ending, all_of, separated, name_list}
use Rattle.token_grammar.specs.Messages.{item, parameters, Message, message}
use Rattle.token_grammar.specs.PartReaders.{name_at, placed_name_at, lead_at, placed_at, digits_at, mark_at, ending_at, separated_at, name_list_at, item_at, parameters_at, pairing_at, list_at, message_at}
use Rattle.token_grammar.proofs.Eaches.{last}
use Rattle.token_grammar.proofs.Lists.{apart_none}
use Rattle.token_grammar.proofs.Flats.{rule_by}
use Rattle.token_grammar.proofs.Rules.{Law, Rule, word_law, word_rule, seq_law, seq_rule, as_law, as_rule, chain_law, chain_rule}
use Rattle.token_grammar.proofs.Optionals.{none, optional_rule, behind_law, behind_rule, bytes_law, bytes_rule, regrouped}

-- without levels, the rule has the law
pub law_by : {A : Type 0} {R : Grammar A} {F : Set} {C : A → Set} {p : List Token → Read A} → ((n : ℕ) → Rule (λ m. R) n F C p) → (n : ℕ) → Law (λ m. R) n F C
law_by rule n = record { laws = (rule n).known.laws n }

pub name_rule : (n : ℕ) → Rule (λ m. name) n names none name_at
name_rule n = bytes_rule names (codes "a") refl n

pub placed_name_rule : (n : ℕ) → Rule (λ m. placed_name) n names none placed_name_at
placed_name_rule n = as_rule (λ t. (t.bytes, t.place)) none (word_rule names (codes "a") refl n) (λ a. refl)

pub lead_rule : (n : ℕ) → Rule (λ m. lead) n leads none lead_at
lead_rule n = as_rule (λ t. (t.bytes, t.place)) none (word_rule leads (codes "a") refl n) (λ a. refl)

pub digits_rule : (n : ℕ) → Rule (λ m. digits) n numbers none digits_at
digits_rule n = bytes_rule numbers (codes "0") refl n

pub mark_rule : (text : List ℕ) → among (just text) (token_of text) ≡ true → (n : ℕ) → Rule (λ m. mark text) n (just text) none (mark_at text)
mark_rule text e n = bytes_rule (just text) text e n

-- what an end begins with
abbrev pub ends : Set
ends = just (codes "comment") ++ just (codes ";")

pub ending_rule : (n : ℕ) → Rule (λ m. ending) n ends none ending_at
ending_rule n = as_rule (λ p. p.0) none
    (optional_rule dropped (behind_rule (just (codes "comment")) (codes "comment") refl (bytes_rule (string ∷ []) (codes "'") refl n)) (mark_rule (codes ";") refl n) (λ a. refl) refl) (λ a. refl)

pub name_law : (n : ℕ) → Law (λ m. name) n names none
name_law = law_by name_rule

pub placed_name_law : (n : ℕ) → Law (λ m. placed_name) n names none
placed_name_law = law_by placed_name_rule

pub lead_law : (n : ℕ) → Law (λ m. lead) n leads none
lead_law = law_by lead_rule

pub digits_law : (n : ℕ) → Law (λ m. digits) n numbers none
digits_law = law_by digits_rule

pub mark_law : (text : List ℕ) (n : ℕ) → Law (λ m. mark text) n (just text) none
mark_law text = bytes_law (just text)

pub ending_law : (n : ℕ) → Law (λ m. ending) n ends none
ending_law = law_by ending_rule

module _ {A : Type 0} (words : Set) {R : ℕ → Grammar A} {F : Set} {C : A → Set} {n : ℕ} where
  pub placed_law : Law R n F C → Law (λ m. placed words (R m)) n words (λ x. C x.1)
  placed_law r = as_law (λ p. (p.0.place, p.1)) (λ x. C x.1) (seq_law (word_law words n) r (λ a. apart_none F)) (λ a. refl)

  pub placed_rule : (text : List ℕ) → among words (token_of text) ≡ true → {p : List Token → Read A} → Rule R n F C p → Rule (λ m. placed words (R m)) n words (λ x. C x.1) (placed_at words p)
  placed_rule text is r = as_rule (λ p. (p.0.place, p.1)) (λ x. C x.1) (seq_rule (word_rule words text is n) r (λ a. apart_none F)) (λ a. refl)

-- ---- lists

last_same : {A : Type 0} (K : Set) (bs : List A) → last (λ a. K) K bs ≡ K
last_same K [] = refl
last_same K (b ∷ bs) = last_same K bs

-- what can't follow the last of a list
abbrev pub final : {A : Type 0} → (A → Set) → List A → Set
final C [] = []
final C (a ∷ rest) = last C (C a) rest

pub both_apart : (G s t : Set) → apart G s ≡ true → apart G t ≡ true → apart G (s ++ t) ≡ true
both_apart [] s t h k = refl
both_apart (c ∷ G) s t h k =
    let a = and_parts (list_all (λ j. differ c j) s) (apart G s) h in
    let b = and_parts (list_all (λ j. differ c j) t) (apart G t) k in
    rw (list_all-append (λ j. differ c j) s t, a.0, b.0) (both_apart G s t a.1 b.1)

last_apart : {A : Type 0} (G : Set) (C : A → Set) (K : Set) → apart G K ≡ true → ((a : A) → apart G (C a) ≡ true) → (list : List A) → apart G (last C K list) ≡ true
last_apart G C K free each [] = free
last_apart G C K free each (a ∷ list) = last_apart G C (C a) (each a) each list

pub final_apart : {A : Type 0} (G : Set) (C : A → Set) → ((a : A) → apart G (C a) ≡ true) → (list : List A) → apart G (final C list) ≡ true
final_apart G C each [] = apart_none G
final_apart G C each (a ∷ list) = last_apart G C (C a) (each a) each list

-- what can't follow the list: the separator, and what can't follow the last
module _ {A : Type 0} {R : ℕ → Grammar A} {F : Set} {C : A → Set} {n : ℕ} (text : List ℕ) (free : (a : A) → apart (just text) (C a) ≡ true) where
  pub listed_law : Law R n F C → Law (λ m. separated text (R m)) n F (λ l. just text ++ final C l)
  listed_law r = as_law all_of (λ l. just text ++ final C l) (chain_law r (behind_law (just text) r) free free) (λ a. refl)

  pub listed_rule : among (just text) (token_of text) ≡ true → {p : List Token → Read A} → Rule R n F C p
      → Rule (λ m. separated text (R m)) n F (λ l. just text ++ final C l) (separated_at text p)
  listed_rule is r = as_rule all_of (λ l. just text ++ final C l) (chain_rule r (behind_rule (just text) text is r) free free) (λ a. refl)

-- the same, where the same can't follow any of them
module _ {A : Type 0} {R : ℕ → Grammar A} {F K : Set} {n : ℕ} (text : List ℕ) (apart_text : apart (just text) K ≡ true) where
  pub separated_law : Law R n F (λ a. K) → Law (λ m. separated text (R m)) n F (λ a. just text ++ K)
  separated_law r = as_law all_of (λ a. just text ++ K) (chain_law r (behind_law (just text) r) (λ b. apart_text) (λ a. apart_text))
      (λ a. ap (λ (s : Set). just text ++ s) (sym (last_same K a.1)))

  pub separated_rule : among (just text) (token_of text) ≡ true → {p : List Token → Read A} → Rule R n F (λ a. K) p
      → Rule (λ m. separated text (R m)) n F (λ a. just text ++ K) (separated_at text p)
  separated_rule is r = as_rule all_of (λ a. just text ++ K) (chain_rule r (behind_rule (just text) text is r) (λ b. apart_text) (λ a. apart_text))
      (λ a. ap (λ (s : Set). just text ++ s) (sym (last_same K a.1)))

-- what can't follow a list of names
abbrev pub commas : {A : Type 0} → A → Set
commas a = just (codes ",")

pub name_list_rule : (n : ℕ) → Rule (λ m. name_list) n names commas name_list_at
name_list_rule n = separated_rule (codes ",") refl refl (name_rule n)

pub name_list_law : (n : ℕ) → Law (λ m. name_list) n names commas
name_list_law = law_by name_list_rule

-- ---- messages

pub item_rule : (n : ℕ) → Rule (λ m. item) n names_or_strings none item_at
item_rule n = bytes_rule names_or_strings (codes "a") refl n

pub parameters_rule : (n : ℕ) → Rule (λ m. parameters) n (just (codes "(")) none parameters_at
parameters_rule n = behind_rule (just (codes "(")) (codes "(") refl (as_rule (λ p. p.0) none
    (optional_rule all_or_none (separated_rule (codes ",") refl refl (item_rule n)) (mark_rule (codes ")") refl n) (λ a. refl) refl) (λ a. refl))

module _ {A : Type 0} (q : List Token → Read A) where
  -- a message with what stands behind it, read part by part
  abbrev long_at : List Token → Read (Message × A)
  long_at = map_at (λ (p : List ℕ × (Option (List ℕ) × (Option (List (List ℕ)) × A))). ((p.0, p.1.0, p.1.1.0), p.1.1.1)) (seq_at name_at (seq_at pairing_at (seq_at list_at q)))

  message_same : (ts : List Token) → long_at ts ≡ seq_at message_at q ts
  message_same ts = regrouped (λ text pairing list. (text, pairing, list)) pairing_at list_at q (name_at ts)

module _ {A : Type 0} {S : ℕ → Grammar A} {G : Set} {C : A → Set} {n : ℕ} (open_next : apart (just (codes "(")) G ≡ true) (comma_next : apart (just (codes ",")) (just (codes "(") ++ G) ≡ true) where
  pub message_rule : {q : List Token → Read A} → Rule S n G C q → Rule (λ m. message (S m)) n names (λ x. C x.1) (seq_at message_at q)
  message_rule {q = q} next =
      rule_by (λ m. message (S m)) n names (λ x. C x.1) (long_at q) (seq_at message_at q) (message_same q)
      (as_rule (λ (p : List ℕ × (Option (List ℕ) × (Option (List (List ℕ)) × A))). ((p.0, p.1.0, p.1.1.0), p.1.1.1)) (λ x. C x.1)
      (seq_rule (name_rule n) (optional_rule kept (behind_rule (just (codes ",")) (codes ",") refl (name_rule n))
      (optional_rule kept (parameters_rule n) next (λ a. apart_none G) open_next) (λ a. apart_none (just (codes "(") ++ G)) comma_next) (λ a. apart_none (just (codes ",") ++ (just (codes "(") ++ G)))) (λ a. refl))
