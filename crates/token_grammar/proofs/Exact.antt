-- A reader with its rule is exact.
use Rattle.std.proofs.Common.{ℕ, ◌≡◌, List, [], ◌∷◌, refl, Ok, Err}
use Rattle.msc_tokens.specs.declared.token.Token.{Token}
use Rattle.token_grammar.specs.Languages.{Set, Read, refused, deep}
use Rattle.token_grammar.specs.Grammars.{Grammar}
use Rattle.token_grammar.specs.Parsing.{OneReading}
use Rattle.token_grammar.specs.Exactness.{IsExact}
use Rattle.token_grammar.proofs.Parses.{one_value, refused_parse, deep_parse, whole_parse, left_parse}
use Rattle.token_grammar.proofs.Rules.{Rule}
use Rattle.token_grammar.proofs.PartRules.{law_by}

module _ {A : Type 0} (R : ℕ → Grammar A) (n : ℕ) (F : Set) (C : A → Set) (p : List Token → Read A) (rule : Rule R n F C p) where
  answer : (ts : List Token) (x : Read A) → p ts ≡ x → IsExact R n ts x
  answer ts (Ok (a, [])) e = whole_parse R n F C p rule ts [] a e refl
  answer ts (Ok (a, t ∷ rest)) e = left_parse R n F C p rule ts (t ∷ rest) a e (λ none_left. some none_left)
    where
      some : t ∷ rest ≡ [] → ⊥
      some q = cc
  answer ts (Err (refused left)) e = refused_parse R n F C p rule ts left e
  answer ts (Err (deep left)) e = deep_parse R n F C p rule ts left e

  pub exact : (ts : List Token) → IsExact R n ts (p ts)
  exact ts = answer ts (p ts) refl

-- without levels
module _ {A : Type 0} (R : Grammar A) (F : Set) (C : A → Set) (p : List Token → Read A) (rule : (n : ℕ) → Rule (λ m. R) n F C p) where
  pub exact_reader : (ts : List Token) → IsExact (λ m. R) 0 ts (p ts)
  exact_reader ts = exact (λ m. R) 0 F C p (rule 0) ts

  pub one_reading : OneReading (λ m. R)
  one_reading = one_value (λ m. R) F C (law_by rule)
