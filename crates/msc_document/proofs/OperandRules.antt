-- The laws and rules of operands with their words, by those of one operand with the word behind it.
use Rattle.std.proofs.Common.{ℕ, ◌≡◌, ◌++◌, ◌&&◌, List, [], ◌∷◌, refl, Bool, true, false, codes}
use Rattle.std.specs.List.{list_all}
use Rattle.token_grammar.specs.Classes.{differ}
use Rattle.token_grammar.proofs.Lists.{apart_none}
use Rattle.msc_tokens.specs.declared.token.Token.{Token}
use Rattle.token_grammar.specs.Languages.{Set, Read, apart, just, names}
use Rattle.token_grammar.specs.Grammars.{Grammar, word}
use Rattle.token_grammar.specs.Parts.{ending, kept}
use Rattle.token_grammar.proofs.Rules.{Law, Rule, seq_law, seq_rule, as_law, as_rule, until_law, until_rule, same_law, same_rule}
use Rattle.token_grammar.proofs.Optionals.{none, optional_rule, behind_law, behind_rule}
use Rattle.token_grammar.proofs.PartRules.{ends, ending_law, ending_rule, name_rule}
use Rattle.msc_events.specs.MultiReaders.{shared_words}
use Rattle.msc_events.proofs.MultiRules.{shared_in_rule}
use Rattle.msc_document.specs.Inlines.{before, closing, firsts, several, single}
use Rattle.msc_document.specs.DocumentGrammar.{naming}
use Rattle.msc_document.specs.DocumentReaders.{closing_at, several_at, single_operand_at, naming_at}
use Rattle.msc_document.proofs.Separators.{gathered, gather, spread_out, gather_brink, spread_brink, gathered_one, gather_one, spread_of_one, gather_one_brink, spread_one_brink}
use Rattle.msc_document.proofs.Shallows.{ending_shallow, closing_shallow}
use Rattle.msc_events.specs.declared.orientation.Orientation.{Orientation}
use Rattle.msc_events.specs.declared.orientation.Orientation.TheVariants as written

pub closing_rule : (n : ℕ) → Rule (λ m. closing) n (just (codes "end")) none closing_at
closing_rule n = behind_rule (just (codes "end")) (codes "end") refl (ending_rule n)

closing_law : (n : ℕ) → Law (λ m. closing) n (just (codes "end")) none
closing_law n = behind_law (just (codes "end")) (ending_law n)

apart_both : (s t u : Set) → apart s u ≡ true → apart t u ≡ true → apart (s ++ t) u ≡ true
apart_both [] t u a b = b
apart_both (k ∷ s) t u a b = let e = and_both (list_all (λ j. differ k j) u) (apart s u) a in rw e.0 (apart_both s t u e.1 b)
  where
    and_both : (a b : Bool) → (a && b) ≡ true → (a ≡ true) × (b ≡ true)
    and_both true b e = (refl, e)
    and_both false b e = cc

module _ {A : Type 0} (w : Set) (P : ℕ → Grammar A) (F : Set) (C : A → Set) (n : ℕ) (no_end : (a : A) → apart ends (C a) ≡ true) (no_closing : (a : A) → apart (just (codes "end")) (C a) ≡ true) where
  abbrev Part : ℕ → Grammar A
  Part m = before (P m) (word w)

  both : (a : A) → apart (ends ++ just (codes "end")) (C a) ≡ true
  both a = apart_both ends (just (codes "end")) (C a) (no_end a) (no_closing a)

  pub several_law : Law Part n F C → Law (λ m. several w (P m)) n F none
  several_law r = same_law (λ m. gathered w (P m) ending closing) (λ m. several w (P m)) F none n (λ m. spread_out w (P m) ending closing) (λ m. gather w (P m) ending closing)
      (as_law firsts none (seq_law r (until_law (as_law (λ p. p.1) C (seq_law (ending_law n) r (λ a. apart_none F)) (λ a. refl)) (closing_law n) no_end refl no_closing) both) (λ a. refl))

  pub several_rule : {p : List Token → Read A} → Rule Part n F C p → Rule (λ m. several w (P m)) n F none (several_at p)
  several_rule r = same_rule (λ m. gathered w (P m) ending closing) (λ m. several w (P m)) F none n (λ m. spread_out w (P m) ending closing) (λ m. gather w (P m) ending closing)
      (spread_brink w (P n) ending closing ending_shallow closing_shallow) (gather_brink w (P n) ending closing ending_shallow closing_shallow)
      (as_rule firsts none (seq_rule r (until_rule (as_rule (λ p. p.1) C (seq_rule (ending_rule n) r (λ a. apart_none F)) (λ a. refl)) (closing_rule n) no_end refl no_closing) both) (λ a. refl))

  pub single_law : Law Part n F C → Law (λ m. single w (P m)) n F none
  single_law r = same_law (λ m. gathered_one w (P m) closing) (λ m. single w (P m)) F none n (λ m. spread_of_one w (P m) closing) (λ m. gather_one w (P m) closing)
      (as_law (λ p. p.0 ∷ []) none (seq_law r (closing_law n) no_closing) (λ a. refl))

  pub single_rule : {p : List Token → Read A} → Rule Part n F C p → Rule (λ m. single w (P m)) n F none (single_operand_at p)
  single_rule r = same_rule (λ m. gathered_one w (P m) closing) (λ m. single w (P m)) F none n (λ m. spread_of_one w (P m) closing) (λ m. gather_one w (P m) closing)
      (spread_one_brink w (P n) closing closing_shallow) (gather_one_brink w (P n) closing closing_shallow)
      (as_rule (λ p. p.0 ∷ []) none (seq_rule r (closing_rule n) no_closing) (λ a. refl))

-- what a name and a shared list with their end begin with
abbrev pub naming_words : Orientation → Set
naming_words orientation = names ++ (shared_words orientation ++ ends)

pub naming_rule : (orientation : Orientation) (n : ℕ) → Rule (λ m. naming orientation) n (naming_words orientation) none (naming_at orientation)
naming_rule orientation n = as_rule (λ p. (p.0, p.1.0)) none (optional_rule kept (name_rule n) (shared_in_rule refl refl refl orientation (ending_rule n)) (λ a. apart_none (shared_words orientation ++ ends)) (free orientation)) (λ a. refl)
  where
    free : (orientation : Orientation) → apart names (shared_words orientation ++ ends) ≡ true
    free written.Column = refl
    free written.Covered = refl

pub naming_law : (orientation : Orientation) (n : ℕ) → Law (λ m. naming orientation) n (naming_words orientation) none
naming_law orientation n = record { laws = (naming_rule orientation n).known.laws n }
