-- What a list of tokens parses as, where nothing opens a level and the bytes alone decide.
use Rattle.std.proofs.Common.{ℕ, ◌≡◌, ◌∙◌, ◌++◌, List, [], ◌∷◌, length, refl, sym, ap, append-nil, append_assoc, subst, Ok, Err}
use Rattle.msc_tokens.specs.declared.token.Token.{Token}
use Rattle.token_grammar.specs.Languages.{Set, Read, refused, deep, texts}
use Rattle.token_grammar.specs.Grammars.{Grammar}
use Rattle.token_grammar.specs.Parsing.{IsRefused, IsTooDeep}
use Rattle.token_grammar.proofs.Rules.{Rule, Law}
use Rattle.token_grammar.proofs.Parses.{one_value, refused_parse, deep_parse, whole_parse, left_parse}
use Rattle.token_grammar.proofs.Texts.{Textual}
use Rattle.token_grammar.proofs.Shallow.{Shallow}

module _ {A : Type 0} (R : Grammar A) (F : Set) (C : A → Set) (p : List Token → Read A) (rule : (n : ℕ) → Rule (λ m. R) n F C p) where
  law : (n : ℕ) → Law (λ m. R) n F C
  law n = record { laws = (rule n).known.laws n }

  -- all tokens are read
  pub reads_all : (ts rest : List Token) (a : A) → p ts ≡ Ok (a, rest) → rest ≡ [] → R.reads ts a
  reads_all ts rest a e empty = whole_parse (λ m. R) 0 F C p (rule 0) ts rest a e empty

  pub some_left : (ts rest : List Token) (a : A) → p ts ≡ Ok (a, rest) → (rest ≡ [] → ⊥) → IsRefused (λ m. R) 0 ts (length rest)
  some_left ts rest a e some = left_parse (λ m. R) 0 F C p (rule 0) ts rest a e some

  pub is_refused : (ts : List Token) (left : ℕ) → p ts ≡ Err (refused left) → IsRefused (λ m. R) 0 ts left
  is_refused ts left e = refused_parse (λ m. R) 0 F C p (rule 0) ts left e

  pub never_deep : Shallow R → (ts : List Token) (left : ℕ) → p ts ≡ Err (deep left) → ⊥
  never_deep shallow ts left e =
      let h : IsTooDeep (λ m. R) 0 ts left = deep_parse (λ m. R) 0 F C p (rule 0) ts left e in
      shallow.none (h.prefix ++ h.token ∷ []) h.opens

  -- tokens with the same bytes have no other value
  pub one_textual : Textual R → (ts us : List Token) (a b : A) → R.reads ts a → texts us ≡ texts ts → R.reads us b → b ≡ a
  one_textual textual ts us a b h e k = one_value (λ m. R) F C law 0 0 ts b a (textual.keeps us ts b e k) h

-- what is refused has no value
pub no_reading : {A : Type 0} (R : Grammar A) → Textual R → (ts us : List Token) (left : ℕ) → IsRefused (λ m. R) 0 ts left → (b : A) → texts us ≡ texts ts → R.reads us b → ⊥
no_reading {A = A} R textual ts us left r b e k = none r.rest refl
  where
    read : R.reads ts b
    read = textual.keeps us ts b e k

    none : (rest : List Token) → r.rest ≡ rest → ⊥
    none [] q = r.ends q 0 b (subst (λ l. R.reads l b) (r.cut ∙ ap (λ l. r.prefix ++ l) q ∙ append-nil r.prefix) read)
    none (t ∷ behind) q = r.stops 0 t behind q (record { more = behind; value = b; reads = subst (λ l. R.reads l b) (r.cut ∙ ap (λ l. r.prefix ++ l) q ∙ sym (append_assoc r.prefix (t ∷ []) behind)) read })
